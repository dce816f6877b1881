-- The built-in functions: the operation of each takes its parameters.
use Rattle.std.proofs.Common.{◌≡◌, ℕ, Bool, true, false, ◌&&◌, ◌||◌, List, [], ◌∷◌, ◌++◌, map, filter, flat_map, Option, Some, refl, ap, ◌∙◌}
use Rattle.std.specs.Prelude.{if◌then◌else◌, slice_get, bytes_eq, codes}
use Rattle.std.specs.List.{list_all}
use Rattle.std.proofs.lemmas.Bool.{false≢true, and_from, and_parts}
use Rattle.std.proofs.lemmas.List.Folds.{list_all-append}
use Rattle.osl_value.specs.declared.op_name.OpName.{OpName}
use Rattle.osl_value.specs.declared.op_name.OpName.TheVariants as O
use Rattle.osl_value.specs.declared.types.Base.TheVariants.{Int}
use Rattle.osl_value.specs.AnyValue.{is_array}
use Rattle.osl_value.specs.Apply.{is_allowed}
use Rattle.osl_value.specs.Types.{only}
use Rattle.osl_overload.specs.declared.signature.Formal.{Formal}
use Rattle.osl_overload.specs.declared.signature.Kind.{Kind}
use Rattle.osl_overload.specs.declared.signature.Kind.TheVariants.{Value, Structure, Void}
use Rattle.osl_overload.specs.declared.signature.Signature.{Signature}
use Rattle.osl_typed.specs.declared.found.Callee.{Callee}
use Rattle.osl_typed.specs.declared.found.Callee.TheVariants.{Declared, Operation, SubstrToEnd, Exit}
use Rattle.osl_typed.specs.BuiltIns.{Line, lines, of_line, array_length, built_in}
use Rattle.osl_typed.specs.Operators.{is_type}
use Rattle.osl_typed.specs.Scopes.{Candidate}
use Rattle.osl_welltyped.specs.Kinded.{takes, plain_types}
use Rattle.osl_welltyped.proofs.TypeTables.{all_at}

abbrev pub kinds_taken : List Formal → List (Option Kind)
kinds_taken formals = map (λ f. Some f.kind) formals

abbrev pub result_fits : OpName → Kind → List (Option Kind) → Bool
result_fits op (Value ty) kinds = takes op ty (plain_types kinds)
result_fits op (Structure m) kinds = false
result_fits op Void kinds = false

-- a callee that is no declared function takes the parameters of its signature
abbrev pub callee_fits : Callee → Signature → Bool
callee_fits (Declared f) s = false
callee_fits (Operation op) s = result_fits op s.result (kinds_taken s.params)
callee_fits SubstrToEnd s = result_fits O.SubStr s.result (kinds_taken s.params ++ Some (Value (only Int)) ∷ [])
callee_fits Exit s = true

abbrev line_fits : Line → Bool
line_fits x = list_all (callee_fits x.callee) x.signatures

lines_fit : list_all line_fits lines ≡ true
unfolding is_allowed
lines_fit = refl

abbrev pub candidate_fits : Candidate → Bool
candidate_fits c = callee_fits c.callee c.signature

of_line_fits : (callee : Callee) (signatures : List Signature) → list_all (callee_fits callee) signatures ≡ true → list_all candidate_fits (map (λ signature. record { signature = signature; callee = callee }) signatures) ≡ true
of_line_fits callee [] h = refl
of_line_fits callee (s ∷ signatures) h =
    let p = and_parts (callee_fits callee s) (list_all (callee_fits callee) signatures) h in and_from _ _ (p.0) (of_line_fits callee signatures (p.1))

some_lines : (keep : Line → Bool) (xs : List Line) → list_all line_fits xs ≡ true → list_all candidate_fits (flat_map of_line (filter keep xs)) ≡ true
some_lines keep [] h = refl
some_lines keep (x ∷ xs) h =
    let p = and_parts (line_fits x) (list_all line_fits xs) h in
    elim (keep x) as (λ t. list_all candidate_fits (flat_map of_line (if t then x ∷ filter keep xs else filter keep xs)) ≡ true) [
      | true ↦ list_all-append candidate_fits (of_line x) (flat_map of_line (filter keep xs)) ∙ and_from _ _ (of_line_fits x.callee x.signatures (p.0)) (some_lines keep xs (p.1))
      | false ↦ some_lines keep xs (p.1)
    ]

length_takes : (kind : Kind) → is_type is_array kind ≡ true → takes O.ArrayLength (only Int) (plain_types (Some kind ∷ [])) ≡ true
unfolding is_allowed
length_takes (Value ty) h = ap (λ x. ((x && true) || false) && true) h
length_takes (Structure m) h = absurd (false≢true h)
length_takes Void h = absurd (false≢true h)

length_fits : (kinds : List Kind) → list_all candidate_fits (array_length kinds) ≡ true
length_fits [] = refl
length_fits (kind ∷ []) =
    elim (is_type is_array kind) as (λ t. is_type is_array kind ≡ t → list_all candidate_fits (if t then record { signature = record { params = record { kind = kind; output = false } ∷ []; result = Value (only Int) }; callee = Operation O.ArrayLength } ∷ [] else []) ≡ true) [
      | true ↦ λ h. and_from _ _ (length_takes kind h) refl
      | false ↦ λ h. refl
    ] refl
length_fits (kind ∷ other ∷ kinds) = refl

built_ins_fit : (name : List ℕ) (kinds : List Kind) → list_all candidate_fits (built_in name kinds) ≡ true
unfolding built_in
built_ins_fit name kinds =
    list_all-append candidate_fits (flat_map of_line (filter (λ x. bytes_eq x.name name) lines)) (if bytes_eq name (codes "arraylength") then array_length kinds else [])
    ∙ and_from _ _ (some_lines (λ x. bytes_eq x.name name) lines lines_fit)
    (elim (bytes_eq name (codes "arraylength")) as (λ t. list_all candidate_fits (if t then array_length kinds else []) ≡ true) [ true ↦ length_fits kinds | false ↦ refl ])

pub built_in_fits : (name : List ℕ) (kinds : List Kind) (k : ℕ) (c : Candidate) → slice_get (built_in name kinds) k ≡ Some c → candidate_fits c ≡ true
built_in_fits name kinds k c at = all_at candidate_fits (built_in name kinds) k c at (built_ins_fit name kinds)
