-- Costs of code that follows code, and of what is added at its end.
use Rattle.std.proofs.Common.{◌≡◌, ℕ, ◌+◌, ◌≤◌, List, [], ◌∷◌, ◌++◌, arith}
use Rattle.std.specs.Prelude.{slice_set}
use Rattle.std.proofs.Math.ListN.{length-set}
use Rattle.osl_value.specs.Types.{slot_count}
use Rattle.osl_typed.specs.declared.sizes.Weight.{Weight}
use Rattle.osl_typed.specs.Sizes.{◌&◌, nothing}
use Rattle.oso_code.specs.declared.op.Op.{Op}
use Rattle.oso_code.specs.declared.symbol.Symbol.{Symbol}
use Rattle.oso_code.specs.Valid.{slots_of}
use Rattle.osl_gencode.specs.Sizes.{Adds, Within}
use Rattle.osl_gencode.proofs.Growing.{push_length}

-- ---- slots

pub slots_append : (xs ys : List Symbol) → slots_of (xs ++ ys) ≡ slots_of xs + slots_of ys
slots_append [] ys = omega arith
slots_append (x ∷ xs) ys = let r = slots_append xs ys in omega (arith, r)

pub slots_push : (xs : List Symbol) (y : Symbol) → slots_of (xs ++ y ∷ []) ≡ slots_of xs + slot_count y.ty
slots_push xs y = let r = slots_append xs (y ∷ []) in omega (arith, r)

-- ---- what is added

pub adds_none : (ops : List Op) (syms : List Symbol) → Adds ops ops syms syms 0 0 0
adds_none ops syms = record { ops = omega arith; syms = omega arith; slots = omega arith }

pub adds_op : (ops : List Op) (syms : List Symbol) (op : Op) → Adds ops (ops ++ op ∷ []) syms syms 1 0 0
adds_op ops syms op = record { ops = omega (arith, push_length ops op); syms = omega arith; slots = omega arith }

pub adds_symbol : (ops : List Op) (syms : List Symbol) (symbol : Symbol) → Adds ops ops syms (syms ++ symbol ∷ []) 0 1 (slot_count symbol.ty)
adds_symbol ops syms symbol =
    record { ops = omega arith; syms = omega (arith, push_length syms symbol); slots = omega (arith, slots_push syms symbol) }

-- an op that writes a new symbol
pub adds_both : (ops : List Op) (syms : List Symbol) (op : Op) (symbol : Symbol) → Adds ops (ops ++ op ∷ []) syms (syms ++ symbol ∷ []) 1 1 (slot_count symbol.ty)
adds_both ops syms op symbol =
    record { ops = omega (arith, push_length ops op); syms = omega (arith, push_length syms symbol); slots = omega (arith, slots_push syms symbol) }

-- an op that was set aside is written over
pub adds_set : (ops0 ops1 : List Op) (syms0 syms1 : List Symbol) (n m q at : ℕ) (op : Op) → Adds ops0 ops1 syms0 syms1 n m q → Adds ops0 (slice_set ops1 at op) syms0 syms1 n m q
adds_set ops0 ops1 syms0 syms1 n m q at op a =
    record { ops = (let h = a.ops in omega (arith, length-set ops1 at op, h)); syms = a.syms; slots = a.slots }

pub adds_less : (ops0 ops1 : List Op) (syms0 syms1 : List Symbol) (n m q n1 m1 q1 : ℕ) → n ≤ n1 → m ≤ m1 → q ≤ q1 → Adds ops0 ops1 syms0 syms1 n m q → Adds ops0 ops1 syms0 syms1 n1 m1 q1
adds_less ops0 ops1 syms0 syms1 n m q n1 m1 q1 ln lm lq a =
    let o = a.ops in let s = a.syms in let t = a.slots in
    record { ops = omega (arith, o, ln); syms = omega (arith, s, lm); slots = omega (arith, t, lq) }

pub adds_on : (ops0 ops1 ops2 : List Op) (syms0 syms1 syms2 : List Symbol) (n m q n1 m1 q1 : ℕ) → Adds ops0 ops1 syms0 syms1 n m q → Adds ops1 ops2 syms1 syms2 n1 m1 q1 → Adds ops0 ops2 syms0 syms2 (n + n1) (m + m1) (q + q1)
adds_on ops0 ops1 ops2 syms0 syms1 syms2 n m q n1 m1 q1 a b =
    let o = a.ops in let o1 = b.ops in let s = a.syms in let s1 = b.syms in let t = a.slots in let t1 = b.slots in
    record { ops = omega (arith, o, o1); syms = omega (arith, s, s1); slots = omega (arith, t, t1) }

-- ---- what is within a weight

pub within_nothing : (ops : List Op) (syms : List Symbol) → Within ops ops syms syms 0 0 0 nothing
within_nothing ops syms = record { ops = omega arith; syms = omega arith; slots = omega arith }

pub within_less : (ops0 ops1 : List Op) (syms0 syms1 : List Symbol) (n m q n1 m1 q1 : ℕ) (w : Weight) → n1 ≤ n → m1 ≤ m → q1 ≤ q → Within ops0 ops1 syms0 syms1 n m q w → Within ops0 ops1 syms0 syms1 n1 m1 q1 w
within_less ops0 ops1 syms0 syms1 n m q n1 m1 q1 w ln lm lq a =
    let o = a.ops in let s = a.syms in let t = a.slots in
    record { ops = omega (arith, o, ln); syms = omega (arith, s, lm); slots = omega (arith, t, lq) }

pub within_set : (ops0 ops1 : List Op) (syms0 syms1 : List Symbol) (n m q at : ℕ) (w : Weight) (op : Op) → Within ops0 ops1 syms0 syms1 n m q w → Within ops0 (slice_set ops1 at op) syms0 syms1 n m q w
within_set ops0 ops1 syms0 syms1 n m q at w op a =
    record { ops = (let h = a.ops in omega (arith, length-set ops1 at op, h)); syms = a.syms; slots = a.slots }

module _ (ops0 ops1 ops2 : List Op) (syms0 syms1 syms2 : List Symbol) where
  pub within_on : (n m q n1 m1 q1 : ℕ) (v w : Weight) → Within ops0 ops1 syms0 syms1 n m q v → Within ops1 ops2 syms1 syms2 n1 m1 q1 w → Within ops0 ops2 syms0 syms2 (n + n1) (m + m1) (q + q1) (v & w)
  within_on n m q n1 m1 q1 v w a b =
      let o = a.ops in let o1 = b.ops in let s = a.syms in let s1 = b.syms in let t = a.slots in let t1 = b.slots in
      record { ops = omega (arith, o, o1); syms = omega (arith, s, s1); slots = omega (arith, t, t1) }

  -- what is added takes of the room that is left
  pub within_adds : (n m q n1 m1 q1 x y z : ℕ) (w : Weight) → n1 + x ≤ n → m1 + y ≤ m → q1 + z ≤ q → Within ops0 ops1 syms0 syms1 n m q w → Adds ops1 ops2 syms1 syms2 x y z → Within ops0 ops2 syms0 syms2 n1 m1 q1 w
  within_adds n m q n1 m1 q1 x y z w ln lm lq a b =
      let o = a.ops in let o1 = b.ops in let s = a.syms in let s1 = b.syms in let t = a.slots in let t1 = b.slots in
      record { ops = omega (arith, o, o1, ln); syms = omega (arith, s, s1, lm); slots = omega (arith, t, t1, lq) }

  -- a node, after its parts
  pub node_within : (n m q n1 m1 q1 x y z : ℕ) (own w : Weight) → n1 + x ≤ own.size + n → m1 + y ≤ own.size + m → q1 + z ≤ own.slots + q → Within ops0 ops1 syms0 syms1 n m q w → Adds ops1 ops2 syms1 syms2 x y z → Within ops0 ops2 syms0 syms2 n1 m1 q1 (own & w)
  node_within n m q n1 m1 q1 x y z own w ln lm lq a b =
      let o = a.ops in let o1 = b.ops in let s = a.syms in let s1 = b.syms in let t = a.slots in let t1 = b.slots in
      record { ops = omega (arith, o, o1, ln); syms = omega (arith, s, s1, lm); slots = omega (arith, t, t1, lq) }

  -- what was added before the parts
  pub adds_within : (n m q n1 m1 q1 x y z : ℕ) (own w : Weight) → n1 + x ≤ own.size + n → m1 + y ≤ own.size + m → q1 + z ≤ own.slots + q → Adds ops0 ops1 syms0 syms1 x y z → Within ops1 ops2 syms1 syms2 n m q w → Within ops0 ops2 syms0 syms2 n1 m1 q1 (own & w)
  adds_within n m q n1 m1 q1 x y z own w ln lm lq a b =
      let o = a.ops in let o1 = b.ops in let s = a.syms in let s1 = b.syms in let t = a.slots in let t1 = b.slots in
      record { ops = omega (arith, o, o1, ln); syms = omega (arith, s, s1, lm); slots = omega (arith, t, t1, lq) }
