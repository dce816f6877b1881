-- Symbols with names of their own fit after those that there are.
use Rattle.std.proofs.Common.{◌≡◌, ℕ, suc, ◌^◌, ◌<◌, ◌≤◌, ◌≢◌, ◌⊎◌, inl, inr, ⊎_elim, List, [], ◌∷◌, ◌++◌, length, Some, Bool, true, false, not, refl, sym, ap, ◌∙◌, arith}
use Rattle.std.specs.Prelude.{slice_get, take, IsTrue, ◌&&◌, ◌||◌, ◌==◌, nat_le, if◌then◌else◌}
use Rattle.std.specs.Char.{is_ascii_alphanumeric}
use Rattle.std.specs.Int.{is_in_range}
use Rattle.std.specs.Fmt.{decimal}
use Rattle.std.specs.List.{list_all, list_any}
use Rattle.std.specs.Str.{bytes_eq}
use Rattle.std.specs.Str.Parse.{AllDigits}
use Rattle.std.proofs.Math.Seq.{take-append_seam}
use Rattle.std.proofs.lemmas.Bool.{or_left, and_from, le-leb, cases_lt}
use Rattle.std.proofs.lemmas.Fmt.{decimal_injective, decimal_is_IsNumeral, length-decimal-le}
use Rattle.std.proofs.lemmas.List.{take-append-le}
use Rattle.std.proofs.lemmas.Slice.Eq.{bytes_eq-Decides}
use Rattle.std.proofs.lemmas.Str.Parse.{tells_digits}
use Rattle.osl_value.specs.declared.types.Ty.{Ty}
use Rattle.oso_code.specs.declared.symbol.Class.{Class}
use Rattle.oso_code.specs.declared.symbol.Class.TheVariants as C
use Rattle.oso_code.specs.declared.symbol.Symbol.{Symbol}
use Rattle.oso_code.specs.Holding.{is_type}
use Rattle.oso_code.specs.Names.{is_name, begins_name, continues_name, longest_name, main_name, is_joiner}
use Rattle.oso_code.specs.Symbols.{is_parameter, is_global, parameter_fits, global_fits, is_value_of, has_value, metadata_fits, datum_fits, is_empty, symbol_fits, are_parameters, is_taken, fits_behind}
use Rattle.oso_code.proofs.Members.{both_and}
use Rattle.osl_gencode.specs.OwnNames.{own_name, is_own, AreNamed, IsOwned}
use Rattle.osl_gencode.proofs.Growing.{get_left, get_seam, get_some, push_length}

-- ---- names

digit_continues : (c : ℕ) → 48 ≤ c → c ≤ 57 → IsTrue (continues_name c)
digit_continues c low high =
    let digit : is_in_range 48 57 c ≡ true = and_from (nat_le 48 c) (nat_le c 57) (le-leb 48 c low) (le-leb c 57 high) in
    or_left (is_ascii_alphanumeric c || is_joiner c) (c == 46) (or_left (is_ascii_alphanumeric c) (is_joiner c) (or_left (is_in_range 48 57 c || is_in_range 65 90 c) (is_in_range 97 122 c) (or_left (is_in_range 48 57 c) (is_in_range 65 90 c) digit)))

digits_continue : (ds : List ℕ) → AllDigits 10 ds → IsTrue (list_all continues_name ds)
digits_continue [] all = refl
digits_continue (c ∷ cs) all =
    let p = tells_digits.parts c cs all in
    both_and (continues_name c) (list_all continues_name cs) (digit_continues c p.0.0 p.0.1) (digits_continue cs p.1)

pub own_is_name : (n : ℕ) → n < 2 ^ 64 → IsTrue (is_name (own_name n))
own_is_name n h =
    let l = length-decimal-le 20 n (omega arith) (omega (arith, h)) h in
    both_and (begins_name 36 && list_all continues_name (decimal n)) (nat_le (length (own_name n)) longest_name) (both_and (begins_name 36) (list_all continues_name (decimal n)) refl (digits_continue (decimal n) (decimal_is_IsNumeral n h).0.1)) (le-leb (length (own_name n)) longest_name (omega (arith, l)))

abbrev tail_of : List ℕ → List ℕ
tail_of [] = []
tail_of (c ∷ cs) = cs

pub own_differs : (m n : ℕ) → m < 2 ^ 64 → n < 2 ^ 64 → m ≢ n → own_name m ≢ own_name n
own_differs m n hm hn ne e = ne (decimal_injective m n hm hn (ap tail_of e))

pub differ_eq : (xs ys : List ℕ) → xs ≢ ys → bytes_eq xs ys ≡ false
differ_eq xs ys ne = by_test (bytes_eq xs ys) refl
  where
    by_test : (t : Bool) → bytes_eq xs ys ≡ t → bytes_eq xs ys ≡ false
    by_test true e = absurd (ne ((bytes_eq-Decides xs ys).0 e))
    by_test false e = e

pub none_taken : (test : Symbol → Bool) (xs : List Symbol) → ((k : ℕ) (x : Symbol) → slice_get xs k ≡ Some x → test x ≡ false) → list_any test xs ≡ false
none_taken test [] h = refl
none_taken test (x ∷ xs) h = ap (λ t. t || list_any test xs) (h 0 x refl) ∙ none_taken test xs (λ k y at. h (suc k) y at)

-- the name of the next number is new
own_free : (syms : List Symbol) → AreNamed syms → length syms < 2 ^ 64 → is_taken syms (own_name (length syms)) ≡ false
own_free syms are low = none_taken (λ symbol. bytes_eq (own_name (length syms)) symbol.name) syms (λ k symbol at.
    differ_eq (own_name (length syms)) symbol.name (λ e. ⊎_elim (λ (own : symbol.name ≡ own_name k).
    let l = get_some syms k symbol at in own_differs (length syms) k low (omega (arith, l, low)) (λ z. absurd (omega (arith, l, z))) (e ∙ own)) (λ (other : is_own symbol.name ≡ false).
    absurd (let f : true ≡ false = ap is_own e ∙ other in cc f)) (are.named k symbol at)))

-- ---- symbols

pub not_parameter : (leading : Bool) (symbol : Symbol) → is_parameter symbol.class ≡ false → IsTrue (parameter_fits leading symbol)
not_parameter leading symbol none = or_left (not (is_parameter symbol.class)) (leading && not (bytes_eq symbol.name main_name)) (ap not none)

not_global : (class : Class) (name : List ℕ) (ty : Ty) → is_global class ≡ false → IsTrue (global_fits class name ty)
not_global C.Param name ty none = refl
not_global C.Oparam name ty none = refl
not_global C.Global name ty none = absurd (cc none)
not_global C.Const name ty none = refl
not_global C.Local name ty none = refl
not_global C.Temp name ty none = refl

-- a symbol of its own fits by itself
pub owned_fits : (leading : Bool) (n : ℕ) (symbol : Symbol) → n < 2 ^ 64 → IsOwned n symbol → IsTrue (symbol_fits leading symbol)
owned_fits leading n symbol low own =
    let name : IsTrue (is_name symbol.name) = ap is_name own.name ∙ own_is_name n low in
    let param = not_parameter leading symbol own.no_parameter in
    let global = not_global symbol.class symbol.name symbol.ty own.no_global in
    let metas : IsTrue (metadata_fits symbol.class symbol.metas) = ap (λ t. if t then list_all datum_fits symbol.metas else is_empty symbol.metas) own.no_parameter ∙ ap is_empty own.metas in
    both_and ((is_name symbol.name && parameter_fits leading symbol) && (is_type symbol.ty && global_fits symbol.class symbol.name symbol.ty)) (is_value_of (has_value symbol.class symbol.ty) symbol.ty symbol.value && metadata_fits symbol.class symbol.metas)
    (both_and (is_name symbol.name && parameter_fits leading symbol) (is_type symbol.ty && global_fits symbol.class symbol.name symbol.ty) (both_and (is_name symbol.name) (parameter_fits leading symbol) name param) (both_and (is_type symbol.ty) (global_fits symbol.class symbol.name symbol.ty) own.type global))
    (both_and (is_value_of (has_value symbol.class symbol.ty) symbol.ty symbol.value) (metadata_fits symbol.class symbol.metas) own.value metas)

pub named_none : AreNamed []
named_none = record { fit = λ k symbol at. absurd (cc at); named = λ k symbol at. absurd (cc at) }

-- any symbol that fits after those that there are
pub named_push : (syms : List Symbol) (symbol : Symbol) → AreNamed syms → IsTrue (fits_behind syms symbol) → (symbol.name ≡ own_name (length syms)) ⊎ (is_own symbol.name ≡ false) → AreNamed (syms ++ symbol ∷ [])
named_push syms symbol are fits name = record {
  fit = λ k x at. ⊎_elim (λ (l : k < length syms).
      ap (λ before. fits_behind before x) (take-append-le k syms (symbol ∷ []) (omega (arith, l))) ∙ are.fit k x (sym (get_left syms (symbol ∷ []) k l) ∙ at)) (λ (g : length syms ≤ k).
      let e : k ≡ length syms = last k x at g in
      let same : symbol ≡ x = last_is k x at e in
      ap (λ z. fits_behind (take z (syms ++ symbol ∷ [])) x) e ∙ ap (λ before. fits_behind before x) (take-append_seam syms (symbol ∷ [])) ∙ ap (fits_behind syms) (sym same) ∙ fits) (cases_lt k (length syms));
  named = λ k x at. ⊎_elim (λ (l : k < length syms). are.named k x (sym (get_left syms (symbol ∷ []) k l) ∙ at)) (λ (g : length syms ≤ k).
      let e : k ≡ length syms = last k x at g in
      let same : symbol ≡ x = last_is k x at e in
      ⊎_elim (λ own. inl (ap (λ z. z.name) (sym same) ∙ own ∙ ap own_name (sym e))) (λ other. inr (ap (λ z. is_own z.name) (sym same) ∙ other)) name) (cases_lt k (length syms));
}
  where
    last : (k : ℕ) (x : Symbol) → slice_get (syms ++ symbol ∷ []) k ≡ Some x → length syms ≤ k → k ≡ length syms
    last k x at g = let l = get_some (syms ++ symbol ∷ []) k x at in omega (arith, l, g, push_length syms symbol)

    last_is : (k : ℕ) (x : Symbol) → slice_get (syms ++ symbol ∷ []) k ≡ Some x → k ≡ length syms → symbol ≡ x
    last_is k x at e = let same : Some symbol ≡ Some x = sym (get_seam syms symbol) ∙ ap (slice_get (syms ++ symbol ∷ [])) (sym e) ∙ at in cc same

-- a constant, or a variable, with the name of the next number
pub owned_push : (syms : List Symbol) (symbol : Symbol) → length syms < 2 ^ 64 → AreNamed syms → IsOwned (length syms) symbol → AreNamed (syms ++ symbol ∷ [])
owned_push syms symbol low are own =
    named_push syms symbol are (both_and (symbol_fits (are_parameters syms) symbol) (not (is_taken syms symbol.name)) (owned_fits (are_parameters syms) (length syms) symbol low own) (ap not (ap (is_taken syms) own.name ∙ own_free syms are low))) (inl own.name)
