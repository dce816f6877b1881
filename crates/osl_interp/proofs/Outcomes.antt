-- What a run that is done gives.
use Rattle.std.proofs.Common.{◌≡◌, ℕ, zero, suc, ◌+◌, ◌<◌, ◌≤◌, ◌⊎◌, inl, inr, ⊎_elim, List, [], ◌∷◌, length, get_or, Option, Some, Bool, true, false, ℤ, refl, sym, ap, ◌∙◌, arith}
use Rattle.std.specs.Prelude.{slice_get, slice_set, if◌then◌else◌}
use Rattle.std.proofs.Math.Seq.{map-set_same}
use Rattle.std.proofs.lemmas.Option.{slice_get_within, slice_get_read}
use Rattle.std.proofs.lemmas.Bool.{cases_lt, lt-ltb, ltb-true}
use Rattle.osl_value.specs.AnyValue.{AnyValue, argument, type_of, zero_value}
use Rattle.osl_apply.specs.declared.slot.Kind.{Kind}
use Rattle.osl_apply.specs.declared.slot.Slot.{Slot}
use Rattle.osl_apply.specs.Slots.{seen, is_kept}
use Rattle.osl_apply.specs.Operands.{values}
use Rattle.oso_code.specs.declared.symbol.Class.{Class}
use Rattle.oso_code.specs.declared.symbol.Class.TheVariants as C
use Rattle.oso_code.specs.declared.symbol.Symbol.{Symbol}
use Rattle.oso_code.specs.declared.raw.Raw.{Raw}
use Rattle.oso_code.specs.CodeRun.{is_parameter_at, output_of, outputs_from}
use Rattle.oso_code.specs.Ops.{type_at}
use Rattle.osl_apply.specs.declared.slot.Slot.TheVariants as W
use Rattle.osl_interp.specs.Known.{is_wired_at}
use Rattle.osl_interp.specs.Calls.{IsOutput}
use Rattle.osl_interp.specs.Stops.{AreKept}
use Rattle.osl_interp.specs.Meaning.{held_values}
use Rattle.osl_interp.specs.Ready.{IsLaid}
use Rattle.osl_interp.specs.declared.known.Known.{Known}
use Rattle.osl_interp.proofs.Laying.{length_values, held_is}

-- the slots hold what they held, and the outputs before a place can be lent
pub record Kept (symbols : List Symbol) (old new : List Slot) (at : ℕ) : Type 0 where
  pub same : values new ≡ values old
  pub kept : (k : ℕ) (symbol : Symbol) (slot : Slot) → k < at → slice_get symbols k ≡ Some symbol → symbol.class ≡ C.Oparam → slice_get new k ≡ Some slot → is_kept slot ≡ true

pub kept_none : (symbols : List Symbol) (slots : List Slot) → Kept symbols slots slots 0
kept_none symbols slots = record { same = refl; kept = λ k symbol slot lt at is there. absurd (omega (arith, lt)) }

set_there : (slots : List Slot) (at k : ℕ) (y slot : Slot) → k ≡ at → slice_get (slice_set slots at y) k ≡ Some slot → slot ≡ y
set_there [] at k y slot is h = absurd (cc h)
set_there (s ∷ slots) zero zero y slot is h = cc h
set_there (s ∷ slots) zero (suc k) y slot is h = absurd (omega (arith, is))
set_there (s ∷ slots) (suc at) zero y slot is h = absurd (omega (arith, is))
set_there (s ∷ slots) (suc at) (suc k) y slot is h = set_there slots at k y slot (omega (arith, is)) h

set_elsewhere : (slots : List Slot) (at k : ℕ) (y : Slot) → k < at → slice_get (slice_set slots at y) k ≡ slice_get slots k
set_elsewhere [] at k y lt = refl
set_elsewhere (s ∷ slots) zero k y lt = absurd (omega (arith, lt))
set_elsewhere (s ∷ slots) (suc at) zero y lt = refl
set_elsewhere (s ∷ slots) (suc at) (suc k) y lt = set_elsewhere slots at k y (omega (arith, lt))

some_symbol : (a b : Symbol) → Some a ≡ Some b → a ≡ b
some_symbol a b h = cc

-- one slot more
pub kept_more : (symbols : List Symbol) (old new : List Slot) (at : ℕ) (symbol : Symbol) (d y : Slot) → Kept symbols old new at → slice_get symbols at ≡ Some symbol → seen y ≡ seen (get_or new at d) → (symbol.class ≡ C.Oparam → is_kept y ≡ true) → Kept symbols old (slice_set new at y) (at + 1)
kept_more symbols old new at symbol d y so_far here same kept =
    record {
      same = map-set_same seen new at y d same ∙ so_far.same;
      kept = λ k s slot lt there class held.
          ⊎_elim (λ (below : k < at). so_far.kept k s slot below there class (sym (set_elsewhere new at k y below) ∙ held)) (λ (above : at ≤ k).
          let e : k ≡ at = omega (arith, lt, above) in
          let which = some_symbol symbol s (sym here ∙ ap (slice_get symbols) (sym e) ∙ there) in
          ap is_kept (set_there new at k y slot e held) ∙ kept (ap (λ (q : Symbol). q.class) which ∙ class)) (cases_lt k at);
    }

pub kept_all : (symbols : List Symbol) (old new : List Slot) (at : ℕ) → Kept symbols old new at → length symbols ≤ at → AreKept symbols new
kept_all symbols old new at so_far le k symbol slot there class held = let lt = slice_get_within symbols k symbol there in so_far.kept k symbol slot (omega (arith, le, lt)) there class held

-- an output's slot
pub never_small : (symbols : List Symbol) (slots : List Slot) (p : ℕ) (symbol : Symbol) (x : Slot) → AreKept symbols slots → slice_get symbols p ≡ Some symbol → symbol.class ≡ C.Oparam → p < length slots → x ≡ get_or slots p x → is_kept x ≡ true
never_small symbols slots p symbol x kept at class lt is = kept p symbol x at class (slice_get_read slots (length slots) p x refl lt is)

-- ---- an output among what a run gives

-- a parameter's entry stands before those of the symbols behind it
past_parameter : (class : Class) (v : AnyValue) (rest : List (Option AnyValue)) (p : ℕ) (symbol : Symbol) → symbol.class ≡ class → is_parameter_at (Some symbol) ≡ true → slice_get (output_of class v rest) (suc p) ≡ slice_get rest p
past_parameter C.Param v rest p symbol is parameter = refl
past_parameter C.Oparam v rest p symbol is parameter = refl
past_parameter C.Global v rest p symbol is parameter = absurd (let q = sym parameter ∙ ap (λ c. is_parameter_at (Some (record symbol { class = c }))) is in cc q)
past_parameter C.Const v rest p symbol is parameter = absurd (let q = sym parameter ∙ ap (λ c. is_parameter_at (Some (record symbol { class = c }))) is in cc q)
past_parameter C.Local v rest p symbol is parameter = absurd (let q = sym parameter ∙ ap (λ c. is_parameter_at (Some (record symbol { class = c }))) is in cc q)
past_parameter C.Temp v rest p symbol is parameter = absurd (let q = sym parameter ∙ ap (λ c. is_parameter_at (Some (record symbol { class = c }))) is in cc q)

-- where symbols up to p are parameters, and the one at p an output
outputs_at : (at : ℕ) (symbols : List Symbol) (f : ℕ → AnyValue) (p : ℕ) (symbol : Symbol) → ((k : ℕ) → k ≤ p → is_parameter_at (slice_get symbols k) ≡ true)
    → slice_get symbols p ≡ Some symbol → symbol.class ≡ C.Oparam → slice_get (outputs_from at symbols f) p ≡ Some (Some (f (at + p)))
outputs_at at [] f p symbol before there class = absurd (cc there)
outputs_at at (s ∷ symbols) f zero symbol before there class =
    let is : s.class ≡ C.Oparam = ap (λ (q : Symbol). q.class) (some_symbol s symbol there) ∙ class in
    let e : at ≡ at + 0 = omega arith in
    ap (λ c. slice_get (output_of c (f at) (outputs_from (at + 1) symbols f)) 0) is ∙ ap (λ n. Some (Some (f n))) e
outputs_at at (s ∷ symbols) f (suc p) symbol before there class =
    let e : (at + 1) + p ≡ at + suc p = omega arith in
    past_parameter s.class (f at) (outputs_from (at + 1) symbols f) p s refl (before 0 (omega arith))
    ∙ outputs_at (at + 1) symbols f p symbol (λ k le. before (suc k) (omega (arith, le))) there class
    ∙ ap (λ n. Some (Some (f n))) e

module _ (code : Raw) (known : List Known) (vs : List AnyValue) (laid : IsLaid code known vs) (p : ℕ) (symbol : Symbol) (there : slice_get code.symbols p ≡ Some symbol) (class : symbol.class ≡ C.Oparam) where
  not_wired : is_wired_at known p ≡ false
  not_wired = by (is_wired_at known p) refl
    where
      by : (b : Bool) → is_wired_at known p ≡ b → b ≡ false
      by true is = let q = sym (laid.no_output p symbol is there) ∙ class in absurd (cc q)
      by false is = refl

  are_parameters : (k : ℕ) → k ≤ p → is_parameter_at (slice_get code.symbols k) ≡ true
  are_parameters k le =
      let is : is_parameter_at (Some symbol) ≡ true = ap (λ c. is_parameter_at (Some (record symbol { class = c }))) class in
      let within = ltb-true p (length known) (sym (laid.parameters p) ∙ ap is_parameter_at there ∙ is) in
      laid.parameters k ∙ lt-ltb k (length known) (omega (arith, within, le))

  output_there : slice_get (outputs_from 0 code.symbols (held_values code known vs)) p ≡ Some (Some (argument vs p))
  output_there =
      let e : 0 + p ≡ p = omega arith in
      outputs_at 0 code.symbols (held_values code known vs) p symbol are_parameters there class
      ∙ ap (λ v. Some (Some v)) (ap (held_values code known vs) e ∙ ap (λ b. if b then zero_value (type_at code.symbols p) else argument vs p) not_wired)

module _ (code : Raw) (known : List Known) (slots : List Slot) (laid : IsLaid code known (values slots)) (kept : AreKept code.symbols slots) (p : ℕ) (out : IsOutput code p) where
  pub output_given : (v : AnyValue) → v ≡ argument (values slots) p → slice_get (outputs_from 0 code.symbols (held_values code known (values slots))) p ≡ Some (Some v)
  output_given v is = output_there code known (values slots) laid p out.0 out.1 out.2 ∙ ap (λ x. Some (Some x)) (sym is)

  output_within : p < length slots
  output_within =
      let lt = slice_get_within code.symbols p out.0 out.1 in
      let s = laid.slots in let l = length_values slots in
      omega (arith, lt, s, l)

  pub output_index : (n : ℕ) → n ≡ length slots → p < n
  output_index n is = let lt = output_within in omega (arith, lt, is)

  -- the slot that is read
  pub output_kept : (x : Slot) → x ≡ get_or slots p x → is_kept x ≡ true
  output_kept x is = never_small code.symbols slots p out.0 x kept out.1 out.2 output_within is

  -- it has the symbol's type
  pub output_typed : (v : AnyValue) → v ≡ argument (values slots) p → type_of v ≡ type_at code.symbols p
  output_typed v is = ap type_of is ∙ laid.types p (slice_get_within code.symbols p out.0 out.1)

  pub output_is : (x y : Slot) → x ≡ get_or slots p x → x ≡ y → argument (values slots) p ≡ seen y
  output_is x y is same = held_is slots p x output_within is ∙ ap seen same

-- a slot that can be lent is none of the small ones
pub small_is : (x : Slot) → is_kept x ≡ true → ((n : ℤ) × (x ≡ W.Int n)) ⊎ (((f : ℤ) × (x ≡ W.Float f)) ⊎ (((k : Kind) × (fs : _) × (x ≡ W.Triple k fs)) ⊎ ((t : _) × (x ≡ W.Str t)))) → ⊥
small_is x kept (inl h) = let q = sym (ap is_kept h.1) ∙ kept in cc q
small_is x kept (inr (inl h)) = let q = sym (ap is_kept h.1) ∙ kept in cc q
small_is x kept (inr (inr (inl h))) = let q = sym (ap is_kept h.2) ∙ kept in cc q
small_is x kept (inr (inr (inr h))) = let q = sym (ap is_kept h.1) ∙ kept in cc q
