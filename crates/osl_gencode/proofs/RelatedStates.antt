-- What writes do to related states.
use Rattle.std.proofs.Common.{◌≡◌, ℕ, zero, suc, ◌+◌, ◌<◌, ◌≤◌, ◌≢◌, ◌⊎◌, inl, inr, ⊎_elim, List, [], ◌∷◌, length, Some, true, false, refl, sym, ap, ◌∙◌, arith}
use Rattle.std.specs.Prelude.{slice_get, if◌then◌else◌}
use Rattle.std.proofs.lemmas.Bool.{lt-ltb, le-ltb, eq-eqb, ne_eqb, cases_lt, cases_eq}
use Rattle.osl_value.specs.declared.types.Ty.{Ty}
use Rattle.osl_value.specs.AnyValue.{AnyValue, type_of}
use Rattle.osl_layer.specs.Globals.{type_of_global}
use Rattle.osl_layer.specs.declared.global.GlobalName.{GlobalName}
use Rattle.osl_layer.specs.declared.global.GlobalName.TheVariants as G
use Rattle.oso_code.specs.declared.symbol.Symbol.{Symbol}
use Rattle.oso_code.specs.Run as R
use Rattle.osl_typed.specs.State.{State, with_leaves, write_leaves}
use Rattle.osl_gencode.specs.Growth.{Extends}
use Rattle.osl_gencode.specs.Bodies.{is_const, IsVariable, number_of, Body, symbol_of, frame_end, global_of, Laid, shader, function, Room}
use Rattle.osl_gencode.specs.Relation.{IsOwn, Related, Kept, Held}
use Rattle.osl_gencode.proofs.Growing.{variable_later}
use Rattle.osl_gencode.proofs.RangeRuns.{put_same, put_other}

-- ---- where symbols lie

pub low_symbol : (b : Body) (k : ℕ) → k < b.split → symbol_of b k ≡ k
low_symbol b k lt = ap (λ t. if t then k else b.shift + k) (lt-ltb k b.split lt)

pub high_symbol : (b : Body) (k : ℕ) → b.split ≤ k → symbol_of b k ≡ b.shift + k
high_symbol b k le = ap (λ t. if t then k else b.shift + k) (le-ltb k b.split le)

number_small : (g : GlobalName) → number_of g < 7
number_small G.P = omega arith
number_small G.N = omega arith
number_small G.Ng = omega arith
number_small G.I = omega arith
number_small G.U = omega arith
number_small G.V = omega arith
number_small G.Ci = omega arith

abbrev numbered : ℕ → GlobalName
numbered zero = G.P
numbered (suc zero) = G.N
numbered (suc (suc zero)) = G.Ng
numbered (suc (suc (suc zero))) = G.I
numbered (suc (suc (suc (suc zero)))) = G.U
numbered (suc (suc (suc (suc (suc zero))))) = G.V
numbered _ = G.Ci

numbers_back : (g : GlobalName) → numbered (number_of g) ≡ g
numbers_back G.P = refl
numbers_back G.N = refl
numbers_back G.Ng = refl
numbers_back G.I = refl
numbers_back G.U = refl
numbers_back G.V = refl
numbers_back G.Ci = refl

module _ (b : Body) (syms : List Symbol) (room : Room b syms) where
  within_by : (k : ℕ) → Laid b → k < length b.types → (b.start ≤ symbol_of b k) × (symbol_of b k < frame_end b)
  within_by k (shader e1 e2 e3 e4) lt =
      ⊎_elim (λ (l : k < b.split). let q = low_symbol b k l in (omega (arith, e1), omega (arith, q, e3, lt))) (λ (h : b.split ≤ k). let q = high_symbol b k h in (omega (arith, e1), omega (arith, q, lt))) (cases_lt k b.split)
  within_by k (function e1 e2 e3 e4) lt =
      let q = high_symbol b k (omega (arith, e2)) in (omega (arith, q, e1), omega (arith, q, lt))

  pub leaf_within : (k : ℕ) → k < length b.types → (b.start ≤ symbol_of b k) × (symbol_of b k < frame_end b)
  leaf_within k lt = within_by k room.laid lt

  same_place : (j k : ℕ) → Laid b → symbol_of b j ≡ symbol_of b k → j ≡ k
  same_place j k laid e =
      let split_low : (b.split ≤ b.shift + b.split) = omega arith in
      ⊎_elim (λ (l : j < b.split). let q = low_symbol b j l in ⊎_elim (λ (l' : k < b.split). let q' = low_symbol b k l' in omega (arith, q, q', e)) (λ (h' : b.split ≤ k). let q' = high_symbol b k h' in absurd (omega (arith, q, q', e, l, h'))) (cases_lt k b.split)) (λ (h : b.split ≤ j). let q = high_symbol b j h in ⊎_elim (λ (l' : k < b.split). let q' = low_symbol b k l' in absurd (omega (arith, q, q', e, l', h))) (λ (h' : b.split ≤ k). let q' = high_symbol b k h' in omega (arith, q, q', e)) (cases_lt k b.split)) (cases_lt j b.split)

  pub leaf_apart : (j k : ℕ) → j ≢ k → symbol_of b j ≢ symbol_of b k
  leaf_apart j k ne e = ne (same_place j k room.laid e)

  global_by : (g : GlobalName) (k : ℕ) → Laid b → global_of b g ≢ symbol_of b k
  global_by g k (shader e1 e2 e3 e4) e =
      let n = number_small g in
      ⊎_elim (λ (l : k < b.split). let q = low_symbol b k l in absurd (omega (arith, q, e, e2, l))) (λ (h : b.split ≤ k). let q = high_symbol b k h in absurd (omega (arith, q, e, e2, e3, h, n))) (cases_lt k b.split)
  global_by g k (function e1 e2 e3 e4) e =
      let n = number_small g in let q = high_symbol b k (omega (arith, e2)) in absurd (omega (arith, q, e, e3, n))

  pub global_apart : (g : GlobalName) (k : ℕ) → global_of b g ≢ symbol_of b k
  global_apart g k = global_by g k room.laid

  low_by : (g : GlobalName) → Laid b → global_of b g < frame_end b
  low_by g (shader e1 e2 e3 e4) = let n = number_small g in let s = room.splits in omega (arith, e2, e3, n, s)
  low_by g (function e1 e2 e3 e4) = let n = number_small g in omega (arith, e3, n)

  pub global_low : (g : GlobalName) → global_of b g < frame_end b
  global_low g = low_by g room.laid

-- no symbol of a global, and none after the frame, is connected
module _ (b : Body) (syms : List Symbol) (room : Room b syms) where
  params_by : Laid b → (b.params ≤ b.globals) × (b.params ≤ frame_end b)
  params_by (shader e1 e2 e3 e4) = let s = room.splits in (omega (arith, e2, e4), omega (arith, e4, e3, s))
  params_by (function e1 e2 e3 e4) = (e4, omega (arith, e3, e4))

  pub params_low : b.params ≤ frame_end b
  params_low = (params_by room.laid).1

  pub global_own : (g : GlobalName) → IsOwn b (global_of b g)
  global_own g inputs from wired = let p = (params_by room.laid).0 in wired.above (global_of b g) (omega (arith, p))

  pub above_own : (k : ℕ) → frame_end b ≤ k → IsOwn b k
  above_own k le inputs from wired = let p = params_low in wired.above k (omega (arith, p, le))

pub globals_apart : (b : Body) (g h : GlobalName) → g ≢ h → global_of b g ≢ global_of b h
globals_apart b g h ne e = let n : number_of g ≡ number_of h = omega (arith, e) in ne (sym (numbers_back g) ∙ ap numbered n ∙ numbers_back h)

pub room_later : (b : Body) (syms syms1 : List Symbol) → Extends syms syms1 → Room b syms → Room b syms1
room_later b syms syms1 e r =
    record {
      laid = r.laid;
      splits = r.splits;
      within = let l = e.longer in let w = r.within in omega (arith, l, w);
      leaves = λ k ty at. variable_later syms syms1 (symbol_of b k) ty e (r.leaves k ty at);
      globals = λ g. variable_later syms syms1 (global_of b g) (type_of_global g) e (r.globals g);
    }

-- ---- what is kept

pub kept_self : (b : Body) (s0 : ℕ) (s : R.State) → Kept b s0 s s
kept_self b s0 s = record { keeps = λ k h o. refl; all = λ calm k h. refl }

-- all that is older is as it was
pub kept_older : (b : Body) (s0 : ℕ) (x y : R.State) → ((k : ℕ) → k < s0 → y.values k ≡ x.values k) → Kept b s0 x y
kept_older b s0 x y same = record { keeps = λ k h o. same k h; all = λ calm k h. same k h }

pub kept_on : (b : Body) (s0 s1 : ℕ) (x y z : R.State) → s0 ≤ s1 → Kept b s0 x y → Kept b s1 y z → Kept b s0 x z
kept_on b s0 s1 x y z le k l = record { keeps = λ j h o. l.keeps j (omega (arith, h, le)) o ∙ k.keeps j h o; all = λ calm j h. l.all calm j (omega (arith, h, le)) ∙ k.all calm j h }

-- a symbol is not a constant
const_other : (syms : List Symbol) (k w : ℕ) (symbol : Symbol) (ty : Ty) → IsVariable syms w ty → slice_get syms k ≡ Some symbol → is_const symbol.class ≡ true → k ≢ w
const_other syms k w symbol ty v here is e = let h = v.here in let f = v.free in let q = ap (slice_get syms) e in absurd (cc (here, is, h, f, q))

-- ---- leaves of the source's variables

-- the leaves that are written
pub written_leaf : (from : ℕ) (vs : List AnyValue) (vars : ℕ → AnyValue) (j : ℕ) (v : AnyValue) → slice_get vs j ≡ Some v → with_leaves from vs vars (from + j) ≡ v
unfolding with_leaves
written_leaf from [] vars j v h = absurd (cc h)
written_leaf from (x ∷ vs) vars zero v h =
    let e : from + 0 ≡ from = omega arith in
    let some : Some x ≡ Some v = h in
    ap (λ t. if t then x else with_leaves (from + 1) vs vars (from + 0)) (eq-eqb (from + 0) from e) ∙ cc some
written_leaf from (x ∷ vs) vars (suc j) v h =
    let e : from + suc j ≡ (from + 1) + j = omega arith in
    ap (λ t. if t then x else with_leaves (from + 1) vs vars (from + suc j)) (ne_eqb (from + suc j) from (λ q. absurd (omega (arith, q))))
    ∙ ap (with_leaves (from + 1) vs vars) e
    ∙ written_leaf (from + 1) vs vars j v h

pub other_leaf : (from : ℕ) (vs : List AnyValue) (vars : ℕ → AnyValue) (k : ℕ) → (k < from) ⊎ (from + length vs ≤ k) → with_leaves from vs vars k ≡ vars k
unfolding with_leaves
other_leaf from [] vars k o = refl
other_leaf from (x ∷ vs) vars k o =
    ap (λ t. if t then x else with_leaves (from + 1) vs vars k) (ne_eqb k from (λ q. absurd (omega (arith, q, o))))
    ∙ other_leaf (from + 1) vs vars k (⊎_elim (λ l. inl (omega (arith, l))) (λ h. inr (omega (arith, h))) o)

-- ---- writes of the code

-- the symbols from w on were written, and all else is as it was
pub record Wrote (w : ℕ) (vs : List AnyValue) (old new : R.State) : Type 0 where
  pub inside : Held new.values w vs
  pub outside : (k : ℕ) → (k < w) ⊎ (w + length vs ≤ k) → new.values k ≡ old.values k
  pub turns : new.turns ≡ old.turns
  pub reads : new.reads ≡ old.reads

pub wrote_one : (w : ℕ) (v : AnyValue) (s : R.State) → Wrote w (v ∷ []) s (R.write w v (R.ticked s))
wrote_one w v s = record {
  inside = record { each = λ k x h. one k x h };
  outside = λ k o. put_other w k v s.values (λ e. absurd (omega (arith, e, o)));
  turns = refl;
  reads = refl;
}
  where
    one : (k : ℕ) (x : AnyValue) → slice_get (v ∷ []) k ≡ Some x → R.put w v s.values (w + k) ≡ x
    one zero x h = let e : w + 0 ≡ w = omega arith in let some : Some v ≡ Some x = h in ap (R.put w v s.values) e ∙ put_same w v s.values ∙ cc some
    one (suc k) x h = absurd (cc h)

module _ (b : Body) (syms : List Symbol) (room : Room b syms) where
  -- symbols after the frame are written
  pub related_temp : (w : ℕ) (vs : List AnyValue) (src : State) (x y : R.State) → frame_end b ≤ w → ((k : ℕ) (symbol : Symbol) → slice_get syms k ≡ Some symbol → is_const symbol.class ≡ true → (k < w) ⊎ (w + length vs ≤ k)) → Wrote w vs x y → Related b syms src x → Related b syms src y
  related_temp w vs src x y le apart wr r = record {
    vars = λ k h. let q = (leaf_within b syms room k h).1 in wr.outside (symbol_of b k) (inl (omega (arith, q, le))) ∙ r.vars k h;
    typed = r.typed;
    globals = λ g. let q = global_low b syms room g in wr.outside (global_of b g) (inl (omega (arith, q, le))) ∙ r.globals g;
    global_types = r.global_types;
    turns = wr.turns ∙ r.turns;
    reads = wr.reads ∙ r.reads;
    consts = λ k symbol here is. wr.outside k (apart k symbol here is) ∙ r.consts k symbol here is;
  }

  pub kept_temp : (s0 w : ℕ) (vs : List AnyValue) (x y : R.State) → s0 ≤ w → Wrote w vs x y → Kept b s0 x y
  kept_temp s0 w vs x y le wr = kept_older b s0 x y (λ k h. wr.outside k (inl (omega (arith, h, le))))

  -- one variable symbol is no constant
  pub one_apart : (w : ℕ) (ty : Ty) → IsVariable syms w ty → (k : ℕ) (symbol : Symbol) → slice_get syms k ≡ Some symbol → is_const symbol.class ≡ true → (k < w) ⊎ (w + 1 ≤ k)
  one_apart w ty v k symbol here is =
      ⊎_elim (λ (l : k < w). inl l) (λ (h : w ≤ k). inr (let ne = const_other syms k w symbol ty v here is in ⊎_elim (λ (e : k ≡ w). absurd (ne e)) (λ (n : k ≢ w). omega (arith, h, n)) (cases_eq k w))) (cases_lt k w)

  -- a leaf of a variable is written on both sides
  pub related_leaf : (k : ℕ) (ty : Ty) (v : AnyValue) (src : State) (x y : R.State) → slice_get b.types k ≡ Some ty → type_of v ≡ ty → Wrote (symbol_of b k) (v ∷ []) x y → Related b syms src x → Related b syms (write_leaves k (v ∷ []) src) y
  related_leaf k ty v src x y at tv wr r = record {
    vars = λ j h. ⊎_elim (λ (e : j ≡ k). ap (λ i. y.values (symbol_of b i)) e ∙ held ∙ sym (written j e)) (λ (ne : j ≢ k). wr.outside (symbol_of b j) (away j ne) ∙ r.vars j h ∙ sym (other_leaf k (v ∷ []) src.vars j (beside j ne))) (cases_eq j k);
    typed = λ j ty' at'. ⊎_elim (λ (e : j ≡ k). ap type_of (written j e) ∙ tv ∙ (let q = ap (slice_get b.types) e in cc (q, at, at'))) (λ (ne : j ≢ k). ap type_of (other_leaf k (v ∷ []) src.vars j (beside j ne)) ∙ r.typed j ty' at') (cases_eq j k);
    globals = λ g. wr.outside (global_of b g) (global_away g) ∙ r.globals g;
    global_types = r.global_types;
    turns = wr.turns ∙ r.turns;
    reads = wr.reads ∙ r.reads;
    consts = λ i symbol here is. wr.outside i (one_apart (symbol_of b k) ty (room.leaves k ty at) i symbol here is) ∙ r.consts i symbol here is;
  }
    where
      held : y.values (symbol_of b k) ≡ v
      held = let e : symbol_of b k + 0 ≡ symbol_of b k = omega arith in ap y.values (sym e) ∙ wr.inside.each 0 v refl

      written : (j : ℕ) → j ≡ k → with_leaves k (v ∷ []) src.vars j ≡ v
      written j e = let q : j ≡ k + 0 = omega (arith, e) in ap (with_leaves k (v ∷ []) src.vars) q ∙ written_leaf k (v ∷ []) src.vars 0 v refl

      beside : (j : ℕ) → j ≢ k → (j < k) ⊎ (k + 1 ≤ j)
      beside j ne = ⊎_elim (λ (l : j < k). inl l) (λ (h : k ≤ j). inr (omega (arith, h, ne))) (cases_lt j k)

      away : (j : ℕ) → j ≢ k → (symbol_of b j < symbol_of b k) ⊎ (symbol_of b k + 1 ≤ symbol_of b j)
      away j ne = let n = leaf_apart b syms room j k ne in ⊎_elim (λ (l : symbol_of b j < symbol_of b k). inl l) (λ (h : symbol_of b k ≤ symbol_of b j). inr (omega (arith, h, n))) (cases_lt (symbol_of b j) (symbol_of b k))

      global_away : (g : GlobalName) → (global_of b g < symbol_of b k) ⊎ (symbol_of b k + 1 ≤ global_of b g)
      global_away g = let n = global_apart b syms room g k in ⊎_elim (λ (l : global_of b g < symbol_of b k). inl l) (λ (h : symbol_of b k ≤ global_of b g). inr (omega (arith, h, n))) (cases_lt (global_of b g) (symbol_of b k))

  pub kept_leaf : (s0 k : ℕ) (v : AnyValue) (x y : R.State) → b.calm ≡ false → k < length b.types → Wrote (symbol_of b k) (v ∷ []) x y → Kept b s0 x y
  kept_leaf s0 k v x y loud lt wr =
      let p = leaf_within b syms room k lt in let p0 = p.0 in let p1 = p.1 in
      record { keeps = λ j h o. wr.outside j (⊎_elim (λ l. inl (omega (arith, l, p0))) (λ g. inr (omega (arith, g, p1))) o); all = λ calm j h. absurd (cc (calm, loud)) }

  -- a step of the count alone
  pub related_ticked : (src : State) (x : R.State) → Related b syms src x → Related b syms src (R.ticked x)
  related_ticked src x r = record { vars = r.vars; typed = r.typed; globals = r.globals; global_types = r.global_types; turns = r.turns; reads = r.reads; consts = r.consts }
