-- The types of data: what is written is read, and what is read was written.
use Rattle.std.proofs.Common.{◌≡◌, ℕ, Bool, true, false, not, ◌&&◌, ◌==◌, cond, List, Option, Some, None, refl, sym, ap, subst, ◌∙◌}
use Rattle.std.specs.Prelude.{nat_le}
use Rattle.std.specs.Str.{bytes_eq}
use Rattle.std.proofs.lemmas.Bool.{and_parts, and_from, not-true, not-false, eqb-true}
use Rattle.std.proofs.lemmas.Slice.Eq.{bytes_eq-Decides}
use Rattle.osl_value.specs.declared.types.Base.{Base}
use Rattle.osl_value.specs.declared.types.Base.TheVariants.{Int, Float, Color, Point, Vector, Normal, Matrix, Str, Closure}
use Rattle.osl_value.specs.declared.types.Ty.{Ty}
use Rattle.osl_value.specs.Types.{base_name, only, longest_array}
use Rattle.osl_valuetext.specs.Words.{type_text}
use Rattle.osl_valuetext.specs.Literals.{is_plain_type}
use Rattle.osl_valuetext.specs.Types.{type_at}
use Rattle.osl_valuetext.proofs.TypeTexts.{typed, type_written, type_read}
use Rattle.oso_code.specs.Holding.{is_type, is_closure}
use Rattle.oso_read.specs.Data.{meta_type_at}

pub no_closure_array : (len : ℕ) → is_type (typed Closure len) ≡ true → len ≡ 0
no_closure_array len fits =
    let parts = and_parts (nat_le len longest_array) (not (true && not (len == 0))) fits in
    eqb-true len 0 (not-false (len == 0) (not-true (not (len == 0)) parts.1))

-- a type that has values is a type, and a type that is no closure has values
pub plain_is_type : (base : Base) (len : ℕ) → is_plain_type (typed base len) ≡ true → is_type (typed base len) ≡ true
plain_is_type Int len has = has
plain_is_type Float len has = has
plain_is_type Color len has = has
plain_is_type Point len has = has
plain_is_type Vector len has = has
plain_is_type Normal len has = has
plain_is_type Matrix len has = has
plain_is_type Str len has = has
plain_is_type Closure len has = let parts = and_parts (nat_le len longest_array) false has in absurd cc

pub type_is_plain : (ty : Ty) → is_type ty ≡ true → not (is_closure ty) ≡ true → is_plain_type ty ≡ true
type_is_plain ty fits other = and_from (nat_le ty.len longest_array) (not (is_closure ty)) (and_parts (nat_le ty.len longest_array) (not (is_closure ty && not (ty.len == 0))) fits).0 other

by_word : (base : Base) (len : ℕ) → bytes_eq (type_text (typed base len)) (base_name Closure) ≡ false → is_plain_type (typed base len) ≡ true
    → meta_type_at (type_text (typed base len)) ≡ Some (typed base len)
unfolding meta_type_at
by_word base len other has =
    ap (λ (b : Bool). cond b (Some (only Closure)) (type_at (type_text (typed base len)))) other ∙ type_written (typed base len) has

written_by : (base : Base) (len : ℕ) → is_type (typed base len) ≡ true → meta_type_at (type_text (typed base len)) ≡ Some (typed base len)
unfolding meta_type_at
written_by Int len fits = by_word Int len refl fits
written_by Float len fits = by_word Float len refl fits
written_by Color len fits = by_word Color len refl fits
written_by Point len fits = by_word Point len refl fits
written_by Vector len fits = by_word Vector len refl fits
written_by Normal len fits = by_word Normal len refl fits
written_by Matrix len fits = by_word Matrix len refl fits
written_by Str len fits = by_word Str len refl fits
written_by Closure len fits =
    subst (λ (n : ℕ). meta_type_at (type_text (typed Closure n)) ≡ Some (typed Closure n)) (sym (no_closure_array len fits)) refl

pub meta_type_written : (ty : Ty) → is_type ty ≡ true → meta_type_at (type_text ty) ≡ Some ty
meta_type_written ty fits = written_by ty.base ty.len fits

pub meta_type_read : (word : List ℕ) (ty : Ty) → meta_type_at word ≡ Some ty → (word ≡ type_text ty) × (is_type ty ≡ true)
unfolding meta_type_at
meta_type_read word ty e = go (bytes_eq word (base_name Closure)) refl e
  where
    go : (b : Bool) → bytes_eq word (base_name Closure) ≡ b → cond b (Some (only Closure)) (type_at word) ≡ Some ty → (word ≡ type_text ty) × (is_type ty ≡ true)
    go true k h =
        let same : only Closure ≡ ty = cc in
        ((bytes_eq-Decides word (base_name Closure)).0 k ∙ ap type_text same, subst (λ (t : Ty). is_type t ≡ true) same refl)
    go false k h = let is = type_read word ty h in (is.0, plain_is_type ty.base ty.len is.1)
