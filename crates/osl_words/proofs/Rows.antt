-- The rows of a parse: which uses of arguments change what is found for an argument.
use Rattle.std.proofs.Common.{inl, inr, ◌≡◌, ◌≢◌, List, [], ◌∷◌, ◌++◌, true, false, cond, Option, Some, None, refl, ap, sym, ◌∙◌}
use Rattle.std.specs.Prelude.{◌⊎◌, find, slice_get, ◌||◌}
use Rattle.std.specs.Str.{bytes_eq}
use Rattle.std.proofs.lemmas.Bool.{false_from_ne_true, or_parts, false≢true}
use Rattle.std.proofs.lemmas.Slice.Eq.{bytes_eq-Decides}
use Rattle.std.proofs.lemmas.Option.{none-some}
use Rattle.clap.specs.Walk.{Row, Rule, Text, without, with_values, has_row, default_rows, with_default, used, used_as, values_or_missing, reading_by, action_of, more_values}
use Rattle.clap.specs.Faults.{repeat_fault, use_fault, set_fault}
use Rattle.clap.specs.Kinds.{Kinds, or_else}
use Rattle.clap.specs.declared.builder.action.ArgAction.TheVariants.{Set, SetTrue}
use Rattle.clap.specs.declared.builder.value_parser.Reading.{Reading}
use Rattle.clap.specs.declared.parser.matches.ValueSource.{ValueSource}
use Rattle.clap.specs.declared.parser.matches.ValueSource.TheVariants.{CommandLine, DefaultValue}

-- ---- tests on texts

pub same_text : (a b : Text) → a ≡ b → bytes_eq a b ≡ true
same_text a b e = (bytes_eq-Decides a b).1 e

pub other_text : (a b : Text) → a ≢ b → bytes_eq a b ≡ false
other_text a b n = false_from_ne_true (bytes_eq a b) (λ e. n ((bytes_eq-Decides a b).0 e))

pub text_is : (a b : Text) → bytes_eq a b ≡ true → a ≡ b
text_is a b e = (bytes_eq-Decides a b).0 e

pub text_differs : (a b : Text) → bytes_eq a b ≡ false → a ≢ b
text_differs a b e same = false≢true (sym e ∙ same_text a b same)

-- two texts are the same, or they differ
pub compare_texts : (a b : Text) → (a ≡ b) ⊎ (a ≢ b)
compare_texts a b =
    elim (bytes_eq a b) as (λ v. bytes_eq a b ≡ v → (a ≡ b) ⊎ (a ≢ b)) [ true ↦ λ e. inl (text_is a b e) | false ↦ λ e. inr (text_differs a b e) ] refl

-- ---- the row of an argument

abbrev pub row_at : Text → List Row → Option Row
row_at id rows = find (λ r. bytes_eq r.id id) rows

abbrev new_row : Text → Reading → ValueSource → List Text → Row
new_row id how source values = record { id = id; values = values; count = None; source = Some source; reading = how }

row_at-here : (id : Text) (r : Row) (rows : List Row) → bytes_eq r.id id ≡ true → row_at id (r ∷ rows) ≡ Some r
row_at-here id r rows e = rw e refl

row_at-past : (id : Text) (r : Row) (rows : List Row) → bytes_eq r.id id ≡ false → row_at id (r ∷ rows) ≡ row_at id rows
row_at-past id r rows e = rw e refl

pub has_no_row : (id : Text) (rows : List Row) → has_row id rows ≡ false → row_at id rows ≡ None
has_no_row id [] h = refl
has_no_row id (r ∷ rows) h =
    let parts = or_parts (bytes_eq r.id id) (has_row id rows) h in
    row_at-past id r rows parts.0 ∙ has_no_row id rows parts.1

-- what another argument gets leaves the row
pub other_without : (id other : Text) (rows : List Row) → other ≢ id → row_at id (without other rows) ≡ row_at id rows
other_without id other [] n = refl
other_without id other (r ∷ rows) n =
    elim (bytes_eq r.id other) as (λ v. bytes_eq r.id other ≡ v → row_at id (cond v ([] ++ rows) (r ∷ without other rows)) ≡ row_at id (r ∷ rows)) [
      | true ↦ λ e. sym (row_at-past id r rows (other_text r.id id (λ same. n (sym (text_is r.id other e) ∙ same))))
      | false ↦ λ e. elim (bytes_eq r.id id) as (λ v. cond v (Some r) (row_at id (without other rows)) ≡ cond v (Some r) (row_at id rows)) [ true ↦ refl | false ↦ other_without id other rows n ]
    ] refl

pub other_values : (id other : Text) (how : Reading) (source : ValueSource) (values : List Text) (rows : List Row) → other ≢ id → row_at id (with_values other how source values rows) ≡ row_at id rows
other_values id other how source values [] n = row_at-past id (new_row other how source values) [] (other_text other id n)
other_values id other how source values (r ∷ rows) n =
    elim (bytes_eq r.id other) as (λ v. bytes_eq r.id other ≡ v → row_at id (cond v (more_values source values r ++ rows) (r ∷ with_values other how source values rows)) ≡ row_at id (r ∷ rows)) [
      | true ↦ λ e.
          let apart : bytes_eq r.id id ≡ false = other_text r.id id (λ same. n (sym (text_is r.id other e) ∙ same)) in
          rw apart refl
      | false ↦ λ e. elim (bytes_eq r.id id) as (λ v. cond v (Some r) (row_at id (with_values other how source values rows)) ≡ cond v (Some r) (row_at id rows)) [ true ↦ refl | false ↦ other_values id other how source values rows n ]
    ] refl

-- the first values of an argument are its row
pub first_values : (id : Text) (how : Reading) (source : ValueSource) (values : List Text) (rows : List Row) → has_row id rows ≡ false
    → row_at id (with_values id how source values rows) ≡ Some (new_row id how source values)
first_values id how source values [] h = row_at-here id (new_row id how source values) [] (same_text id id refl)
first_values id how source values (r ∷ rows) h =
    let parts = or_parts (bytes_eq r.id id) (has_row id rows) h in
    rw (parts.0, parts.0) (first_values id how source values rows parts.1)

without_none : (id : Text) (rows : List Row) → has_row id rows ≡ false → without id rows ≡ rows
without_none id [] h = refl
without_none id (r ∷ rows) h =
    let parts = or_parts (bytes_eq r.id id) (has_row id rows) h in
    rw parts.0 (ap (λ rs. r ∷ rs) (without_none id rows parts.1))

pub row_is_there : (id : Text) (r : Row) (rows : List Row) → row_at id rows ≡ Some r → has_row id rows ≡ true
row_is_there id r [] e = absurd (none-some r e)
row_is_there id r (x ∷ rows) e =
    elim (bytes_eq x.id id) as (λ v. cond v (Some x) (row_at id rows) ≡ Some r → (v || has_row id rows) ≡ true) [ true ↦ λ _. refl | false ↦ λ d. row_is_there id r rows d ] e

-- ---- one use of an argument that may be used once

abbrev pub IsOnce : Rule → Type 0
IsOnce a = (action_of a ≡ Set) ⊎ (action_of a ≡ SetTrue)

pub neither : (a b : Kinds) → or_else a b ≡ [] → (a ≡ []) × (b ≡ [])
neither [] b e = (refl, e)
neither (k ∷ ks) b e = absurd (cc)

not_repeated : (id : Text) (rows : List Row) → repeat_fault false id rows ≡ [] → has_row id rows ≡ false
not_repeated id rows e = elim (has_row id rows) as (λ v. has_row id rows ≡ v → repeat_fault false id rows ≡ [] → v ≡ false) [ true ↦ λ d f. absurd (repeated d f) | false ↦ λ d f. refl ] refl e
  where
    repeated : has_row id rows ≡ true → repeat_fault false id rows ≡ [] → ⊥
    repeated d f = let g = rw d at f in cc

use_is_first : (a : Rule) (values : List Text) (rows : List Row) → IsOnce a → use_fault false a values rows ≡ [] → has_row a.id rows ≡ false
use_is_first a values rows once e = by once (neither _ _ e).1
  where
    set_first : set_fault false a (values_or_missing a values) rows ≡ [] → has_row a.id rows ≡ false
    set_first f = not_repeated a.id rows (neither _ _ f).0

    by : IsOnce a → Rattle.clap.specs.Faults.action_fault (action_of a) false a (values_or_missing a values) rows ≡ [] → has_row a.id rows ≡ false
    by (inl set) f = set_first (rw set at f)
    by (inr flag) f = set_first (rw flag at f)

used_once : (a : Rule) (values : List Text) (rows : List Row) → IsOnce a → used a values rows ≡ with_values a.id (reading_by a) CommandLine (values_or_missing a values) (without a.id rows)
used_once a values rows (inl set) = ap (λ x. used_as x a.id (reading_by a) (values_or_missing a values) rows) set
used_once a values rows (inr flag) = ap (λ x. used_as x a.id (reading_by a) (values_or_missing a values) rows) flag

-- it is the argument's row
pub use_gives : (a : Rule) (values : List Text) (rows : List Row) → IsOnce a → use_fault false a values rows ≡ []
    → (r : Row) × (row_at a.id (used a values rows) ≡ Some r) × (r.values ≡ values_or_missing a values)
use_gives a values rows once e =
    let none = use_is_first a values rows once e in
    let new = new_row a.id (reading_by a) CommandLine (values_or_missing a values) in (
      new,
      ap (row_at a.id) (used_once a values rows once ∙ ap (with_values a.id (reading_by a) CommandLine (values_or_missing a values)) (without_none a.id rows none))
          ∙ first_values a.id (reading_by a) CommandLine (values_or_missing a values) rows none,
      refl,
    )

-- it leaves the row of each other argument
pub use_leaves : (id : Text) (a : Rule) (values : List Text) (rows : List Row) → IsOnce a → a.id ≢ id → row_at id (used a values rows) ≡ row_at id rows
use_leaves id a values rows once n =
    ap (row_at id) (used_once a values rows once)
    ∙ other_values id a.id (reading_by a) CommandLine (values_or_missing a values) (without a.id rows) n
    ∙ other_without id a.id rows n

-- a row that is there stays
pub use_keeps : (id : Text) (r : Row) (a : Rule) (values : List Text) (rows : List Row) → IsOnce a → use_fault false a values rows ≡ []
    → row_at id rows ≡ Some r → row_at id (used a values rows) ≡ Some r
use_keeps id r a values rows once e there = by (compare_texts a.id id)
  where
    by : (a.id ≡ id) ⊎ (a.id ≢ id) → row_at id (used a values rows) ≡ Some r
    by (inl same) = absurd (false≢true (sym (use_is_first a values rows once e) ∙ ap (λ x. has_row x rows) same ∙ row_is_there id r rows there))
    by (inr n) = use_leaves id a values rows once n ∙ there

-- ---- defaults

default_leaves : (id other : Text) (how : Reading) (values : List Text) (rows : List Row) → other ≢ id → row_at id (default_rows other how values rows) ≡ row_at id rows
default_leaves id other how [] rows n = refl
default_leaves id other how (v ∷ vs) rows n = other_values id other how DefaultValue (v ∷ vs) rows n

-- a row that is there stays
pub default_keeps : (id : Text) (r : Row) (a : Rule) (rows : List Row) → row_at id rows ≡ Some r → row_at id (with_default rows a) ≡ Some r
default_keeps id r a rows there =
    elim (has_row a.id rows) as (λ v. has_row a.id rows ≡ v → row_at id (cond v rows (default_rows a.id (reading_by a) a.defaults rows)) ≡ Some r) [ true ↦ λ _. there | false ↦ λ none. by none (compare_texts a.id id) ] refl
  where
    by : has_row a.id rows ≡ false → (a.id ≡ id) ⊎ (a.id ≢ id) → row_at id (default_rows a.id (reading_by a) a.defaults rows) ≡ Some r
    by none (inl same) = absurd (false≢true (sym none ∙ ap (λ x. has_row x rows) same ∙ row_is_there id r rows there))
    by none (inr n) = default_leaves id a.id (reading_by a) a.defaults rows n ∙ there

-- the argument has no row, or one that begins with this value
abbrev pub IsAbsentOr : Text → Text → List Row → Type 0
IsAbsentOr id value rows = (row_at id rows ≡ None) ⊎ ((r : Row) × (row_at id rows ≡ Some r) × (slice_get r.values 0 ≡ Some value))

pub default_gives : (id value : Text) (a : Rule) (rows : List Row) → (a.id ≡ id → a.defaults ≡ value ∷ []) → IsAbsentOr id value rows → IsAbsentOr id value (with_default rows a)
default_gives id value a rows d (inr (r, there, first)) = inr (r, default_keeps id r a rows there, first)
default_gives id value a rows d (inl none) =
    elim (has_row a.id rows) as (λ v. has_row a.id rows ≡ v → IsAbsentOr id value (cond v rows (default_rows a.id (reading_by a) a.defaults rows))) [ true ↦ λ _. inl none | false ↦ λ none_there. by none_there (compare_texts a.id id) ] refl
  where
    made : has_row a.id rows ≡ false → a.id ≡ id → a.defaults ≡ value ∷ [] → IsAbsentOr id value (default_rows a.id (reading_by a) a.defaults rows)
    made apart same is =
        let new = new_row a.id (reading_by a) DefaultValue (value ∷ []) in
        inr (
          new,
          ap (λ vs. row_at id (default_rows a.id (reading_by a) vs rows)) is ∙ ap (λ x. row_at x (with_values a.id (reading_by a) DefaultValue (value ∷ []) rows)) (sym same)
              ∙ first_values a.id (reading_by a) DefaultValue (value ∷ []) rows apart,
          refl,
        )

    by : has_row a.id rows ≡ false → (a.id ≡ id) ⊎ (a.id ≢ id) → IsAbsentOr id value (default_rows a.id (reading_by a) a.defaults rows)
    by apart (inl same) = made apart same (d same)
    by apart (inr n) = inl (default_leaves id a.id (reading_by a) a.defaults rows n ∙ none)
