-- Sizes of calls, whose code has the body of the function in it, and of the whole shader.
use Rattle.std.proofs.Common.{◌≡◌, ℕ, ◌+◌, ◌*◌, ◌≤◌, List, [], ◌∷◌, length, ap, ◌∙◌, arith}
use Rattle.std.specs.Prelude.{map}
use Rattle.osl_value.specs.Types.{slot_count}
use Rattle.osl_overload.specs.declared.signature.Formal.{Formal}
use Rattle.osl_overload.specs.declared.signature.Kind.{Kind}
use Rattle.osl_overload.specs.declared.signature.Kind.TheVariants.{Value}
use Rattle.osl_typed.specs.declared.expr.Argument.{Argument}
use Rattle.osl_typed.specs.declared.expr.Argument.TheVariants as arguments
use Rattle.osl_typed.specs.declared.expr.TypedExpr.{TypedExpr}
use Rattle.osl_typed.specs.declared.expr.TypedExpr.TheVariants as e
use Rattle.osl_typed.specs.declared.shader.TypedFunction.{TypedFunction}
use Rattle.osl_typed.specs.declared.shader.TypedParam.{TypedParam}
use Rattle.osl_typed.specs.declared.shader.TypedShader.{TypedShader}
use Rattle.osl_typed.specs.declared.shader.TypedStructure.{TypedStructure}
use Rattle.osl_typed.specs.declared.sizes.Weight.{Weight}
use Rattle.osl_typed.specs.declared.stmt.Declared.{Declared}
use Rattle.osl_typed.specs.Frames.{leaf_count}
use Rattle.osl_typed.specs.Sizes.{Scale, all_of, kind_slots, weight, weight_passed, formal_weight, body_weight, call_weight, scale_of, param_weight, weight_of, size_of, slots_of}
use Rattle.osl_typed.proofs.WeightLaws.{weight-Call, weight-In}
use Rattle.oso_code.specs.declared.op.Op.{Op}
use Rattle.oso_code.specs.declared.symbol.Symbol.{Symbol}
use Rattle.oso_code.specs.Valid as valid
use Rattle.osl_gencode.specs.Sizes.{Adds, Within, ExprWithin, StmtWithin, declared_leaves, declared_slots}
use Rattle.osl_gencode.proofs.FairLaws.{size_fair, one_slots}
use Rattle.osl_gencode.proofs.SizeNodes.{within_as}

-- ---- formal parameters

abbrev pub formal_leaves : List TypedStructure → List Formal → ℕ
formal_leaves structures [] = 0
formal_leaves structures (f ∷ fs) = leaf_count structures f.kind + formal_leaves structures fs

abbrev pub formal_slots : List TypedStructure → List Formal → ℕ
formal_slots structures [] = 0
formal_slots structures (f ∷ fs) = kind_slots structures f.kind + formal_slots structures fs

formals_size : (structures : List TypedStructure) (fs : List Formal) → (all_of (map (formal_weight structures) fs)).size ≡ 8 * formal_leaves structures fs
formals_size structures [] = omega arith
formals_size structures (f ∷ fs) = let r = formals_size structures fs in omega (arith, r)

formals_slots : (structures : List TypedStructure) (fs : List Formal) → (all_of (map (formal_weight structures) fs)).slots ≡ 2 * formal_slots structures fs
formals_slots structures [] = omega arith
formals_slots structures (f ∷ fs) = let r = formals_slots structures fs in omega (arith, r)

-- ---- arguments

pub value_argument_within : (scale : Scale) (a : TypedExpr) (ops0 ops1 : List Op) (syms0 syms1 : List Symbol) (n m q : ℕ) → Within ops0 ops1 syms0 syms1 n m q (weight scale a) → Within ops0 ops1 syms0 syms1 n m q (weight_passed scale (arguments.In a))
value_argument_within scale a ops0 ops1 syms0 syms1 n m q c = within_as ops0 ops1 syms0 syms1 n m q _ _ (weight-In scale a) c

-- ---- calls

module _ (scale : Scale) (calls : ℕ → Weight) (f : ℕ) (fn : TypedFunction) (kind : Kind) (args : List Argument) (is : scale.calls f ≡ call_weight scale.structures calls fn)
    (opsP opsE opsB ops0 ops1 : List Op) (symsP symsE symsB syms0 syms1 : List Symbol) (n m q x y z : ℕ)
    (passed : Within ops0 opsP syms0 symsP (n + x) (m + y) (q + z) (all_of (map (weight_passed scale) args))) where
  abbrev leaves : ℕ
  leaves = leaf_count scale.structures kind

  abbrev inside : Scale
  inside = record { structures = scale.structures; kinds = fn.frame; calls = calls }

  -- A call of a function with a body: its arguments; the frame, zeros for the variables that it declares, and the result with its zeros; an op that moves what each begins with, and the op of the call; the body; and the outputs, for which the arguments left room.
  pub call_within : (k : ℕ) (ds : List Declared) → 1 ≤ k
      → Adds opsP opsE symsP symsE (1 + formal_leaves scale.structures fn.formals + declared_leaves scale.structures ds + leaves) (formal_leaves scale.structures fn.formals + 2 * declared_leaves scale.structures ds + 2 * leaves) (formal_slots scale.structures fn.formals + 2 * declared_slots scale.structures ds + 2 * kind_slots scale.structures kind)
      → StmtWithin scale.structures opsE opsB symsE symsB k ds (body_weight inside fn.body) → Adds opsB ops1 symsB syms1 x y z
      → ExprWithin ops0 ops1 syms0 syms1 leaves (2 + formal_slots scale.structures fn.formals + q) (weight scale (e.Call f kind args))
  call_within k ds some entered body back =
      let o = passed.ops in let s = passed.syms in let t = passed.slots in let o1 = entered.ops in let s1 = entered.syms in let t1 = entered.slots in
      let o2 = body.ops in let s2 = body.syms in let t2 = body.slots in let o3 = back.ops in let s3 = back.syms in let t3 = back.slots in
      let w = size_fair scale.structures kind in
      let size : (scale.calls f).size ≡ 8 * formal_leaves scale.structures fn.formals + (body_weight inside fn.body).size = ap (λ v. v.size) is ∙ (let h = formals_size scale.structures fn.formals in omega (arith, h)) in
      let slots : (scale.calls f).slots ≡ 2 * formal_slots scale.structures fn.formals + (body_weight inside fn.body).slots = ap (λ v. v.slots) is ∙ (let h = formals_slots scale.structures fn.formals in omega (arith, h)) in
      within_as ops0 ops1 syms0 syms1 _ _ _ _ _ (weight-Call scale f kind args) (record { ops = omega (arith, o, o1, o2, o3, w, size, some); syms = omega (arith, s, s1, s2, s3, w, size); slots = omega (arith, t, t1, t2, t3, slots, some) })

  -- A call of a function without statements needs no op of its own, and its result are the zeros themselves.
  pub empty_call_within : fn.body ≡ []
      → Adds opsP opsE symsP symsE (formal_leaves scale.structures fn.formals) (formal_leaves scale.structures fn.formals + leaves) (formal_slots scale.structures fn.formals + kind_slots scale.structures kind)
      → Adds opsE ops1 symsE syms1 x y z
      → ExprWithin ops0 ops1 syms0 syms1 leaves (1 + kind_slots scale.structures kind + formal_slots scale.structures fn.formals + q) (weight scale (e.Call f kind args))
  empty_call_within none entered back =
      let o = passed.ops in let s = passed.syms in let t = passed.slots in let o1 = entered.ops in let s1 = entered.syms in let t1 = entered.slots in
      let o3 = back.ops in let s3 = back.syms in let t3 = back.slots in
      let w = size_fair scale.structures kind in
      let size : (scale.calls f).size ≡ 8 * formal_leaves scale.structures fn.formals + (body_weight inside fn.body).size = ap (λ v. v.size) is ∙ (let h = formals_size scale.structures fn.formals in omega (arith, h)) in
      let slots : (scale.calls f).slots ≡ 2 * formal_slots scale.structures fn.formals + (body_weight inside fn.body).slots = ap (λ v. v.slots) is ∙ (let h = formals_slots scale.structures fn.formals in omega (arith, h)) in
      within_as ops0 ops1 syms0 syms1 _ _ _ _ _ (weight-Call scale f kind args) (record { ops = omega (arith, o, o1, o3, w, size); syms = omega (arith, s, s1, s3, w, size); slots = omega (arith, t, t1, t3, slots) })

-- ---- the whole shader

abbrev pub param_slots : List TypedParam → ℕ
param_slots [] = 0
param_slots (p ∷ ps) = slot_count p.ty + param_slots ps

-- a parameter whose default is a constant, which its symbol states
pub stated_within : (scale : Scale) (p : TypedParam) (ops : List Op) (syms : List Symbol) → Within ops ops syms syms 1 2 (2 * slot_count p.ty) (param_weight scale p)
stated_within scale p ops syms = let h = one_slots scale.structures p.ty in record { ops = omega arith; syms = omega arith; slots = omega (arith, h) }

-- one whose default has a section: it leaves room as a declared variable does
pub section_within : (scale : Scale) (p : TypedParam) (ops0 ops1 : List Op) (syms0 syms1 : List Symbol) → Within ops0 ops1 syms0 syms1 (leaf_count scale.structures (Value p.ty)) (2 * leaf_count scale.structures (Value p.ty)) (2 * kind_slots scale.structures (Value p.ty)) (param_weight scale p) → Within ops0 ops1 syms0 syms1 1 2 (2 * slot_count p.ty) (param_weight scale p)
section_within scale p ops0 ops1 syms0 syms1 c =
    let o = c.ops in let s = c.syms in let t = c.slots in let h = one_slots scale.structures p.ty in
    record { ops = omega (arith, o); syms = omega (arith, s); slots = omega (arith, t, h) }

-- Its symbols and zeros; the sections of its parameters, which leave room for these; and its body, which does too.
pub shader_within : (t : TypedShader) (opsP ops1 : List Op) (symsS symsP syms1 : List Symbol) (k : ℕ) (ds : List Declared)
    → Adds [] [] [] symsS 0 (7 + 2 * length t.params + 2 * declared_leaves t.structures ds) (15 + 2 * param_slots t.params + 2 * declared_slots t.structures ds)
    → Within [] opsP symsS symsP (length t.params) (2 * length t.params) (2 * param_slots t.params) (all_of (map (param_weight (scale_of t)) t.params))
    → StmtWithin t.structures opsP ops1 symsP syms1 k ds (body_weight (scale_of t) t.body)
    → Within [] ops1 [] syms1 0 0 0 (weight_of t)
unfolding weight_of
shader_within t opsP ops1 symsS symsP syms1 k ds begin params body =
    let s = begin.syms in let u = begin.slots in let o1 = params.ops in let s1 = params.syms in let u1 = params.slots in let o2 = body.ops in let s2 = body.syms in let u2 = body.slots in
    record { ops = omega (arith, o1, o2); syms = omega (arith, s, s1, s2); slots = omega (arith, u, u1, u2) }

-- so its sizes are within those that are counted for the source
pub shader_counted : (t : TypedShader) (ops : List Op) (syms : List Symbol) → Within [] ops [] syms 0 0 0 (weight_of t) → (length ops ≤ size_of t) × (length syms ≤ size_of t) × (valid.slots_of syms ≤ slots_of t)
shader_counted t ops syms a =
    let o = a.ops in let s = a.syms in let u = a.slots in
    (omega (arith, o), omega (arith, s), omega (arith, u))
