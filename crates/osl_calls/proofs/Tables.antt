-- The functions of a table: the built-in ones of a name come before the declared ones.
use Rattle.std.proofs.Common.{◌≡◌, codes, ℕ, ◌+◌, ◌<◌, Bool, true, false, cond, if◌then◌else◌, ◌&&◌, List, [], ◌∷◌, ◌++◌, length, drop, take, get_or, map, Some, None, Result, Ok, Err, OnOk, OnErr, refl, ap, sym, ◌∙◌, append-nil, append_assoc}
use Rattle.std.specs.List.{filter, flat_map}
use Rattle.std.specs.Str.{bytes_eq}
use Rattle.std.proofs.lemmas.List.{drop_at, take_more, map-append}
use Rattle.std.proofs.lemmas.List.Elements.{filter-append}
use Rattle.std.proofs.lemmas.Grind.{flat_map-append}
use Rattle.std.proofs.lemmas.Slice.Eq.{bytes_eq-Decides}
use Rattle.osl_value.specs.AnyValue.{is_array}
use Rattle.osl_overload.specs.declared.signature.Kind.{Kind}
use Rattle.osl_overload.specs.declared.signature.Signature.{Signature}
use Rattle.osl_typed.specs.declared.found.Callee.{Callee}
use Rattle.osl_typed.specs.BuiltIns.{Line as NamedLine, lines, of_line, array_length, built_in}
use Rattle.osl_typed.specs.Operators.{is_type}
use Rattle.osl_typed.specs.Scopes.{Candidate, StructureName, with_function}
use Rattle.osl_typed.specs.Typing.{candidates}
use Rattle.osl_calls.specs.Calling.{own_candidates, own_kind, sole_kind, length_of, lengths_of}
use Rattle.osl_calls.specs.declared.built_in.Line.{Line}
use Rattle.osl_calls.specs.declared.built_in.Takes.{Takes}
use Rattle.osl_calls.specs.Lines.{signature_of, line_of, named_in}
use Rattle.osl_calls.specs.Named.{candidate}
use Rattle.osl_calls.specs.Table.{Table, held, functions_of, HasBuiltIns, sight_of}

same : (a b : List ℕ) → bytes_eq a b ≡ true → a ≡ b
same a b h = (bytes_eq-Decides a b).0 h

either_way : (a b : List ℕ) → bytes_eq a b ≡ bytes_eq b a
either_way a b = go (bytes_eq a b) (bytes_eq b a) refl refl
  where
    go : (x y : Bool) → bytes_eq a b ≡ x → bytes_eq b a ≡ y → x ≡ y
    go true true p q = refl
    go false false p q = refl
    go true false p q = sym ((bytes_eq-Decides b a).1 (sym (same a b p))) ∙ q
    go false true p q = sym p ∙ (bytes_eq-Decides a b).1 (sym (same b a q))

-- ---- a function is added

-- one more function of a name
abbrev with_one : List ℕ → Candidate → List ℕ → List Candidate → List Candidate
with_one name c other functions = if bytes_eq other name then functions ++ c ∷ [] else functions

pub still_built_in : (old new : Table) (name : List ℕ) (c : Candidate) → ((other : List ℕ) → held new other ≡ with_one name c other (held old other))
    → HasBuiltIns old → (other : List ℕ) → (held new other ≡ named_in lines other ++ with_one name c other (functions_of old other)) × (functions_of new other ≡ with_one name c other (functions_of old other))
unfolding functions_of HasBuiltIns
still_built_in old new name c now before other = (there, ap (drop (length (named_in lines other))) there ∙ drop_at (named_in lines other) (with_one name c other (functions_of old other)) _ refl)
  where
    go : (b : Bool) (xs ys : List Candidate) → (if b then (xs ++ ys) ++ c ∷ [] else xs ++ ys) ≡ xs ++ (if b then ys ++ c ∷ [] else ys)
    go true xs ys = append_assoc xs ys (c ∷ [])
    go false xs ys = refl

    there : held new other ≡ named_in lines other ++ with_one name c other (functions_of old other)
    there = now other ∙ ap (with_one name c other) (before other) ∙ go (bytes_eq other name) (named_in lines other) (functions_of old other)

pub added : (old new : Table) (name : List ℕ) (c : Candidate) → ((other : List ℕ) → held new other ≡ with_one name c other (held old other))
    → HasBuiltIns old → functions_of new ≡ with_function name c (functions_of old)
added old new name c now before = λ i other. (still_built_in old new name c now before other).1 i

pub has_added : (old new : Table) (name : List ℕ) (c : Candidate) → ((other : List ℕ) → held new other ≡ with_one name c other (held old other))
    → HasBuiltIns old → HasBuiltIns new
unfolding HasBuiltIns
has_added old new name c now before = λ other.
    let both = still_built_in old new name c now before other in both.0 ∙ ap (λ ys. named_in lines other ++ ys) (sym both.1)

pub unchanged : (old new : Table) → ((other : List ℕ) → held new other ≡ held old other) → functions_of new ≡ functions_of old
unfolding functions_of
unchanged old new same = λ i other. drop (length (named_in lines other)) (same other i)

pub has_unchanged : (old new : Table) → ((other : List ℕ) → held new other ≡ held old other) → HasBuiltIns old → HasBuiltIns new
unfolding HasBuiltIns functions_of
has_unchanged old new same before = λ other. same other ∙ before other ∙ ap (λ xs. named_in lines other ++ drop (length (named_in lines other)) xs) (sym (same other))

-- ---- the built-in functions alone

pub has_lines : (old new : Table) → old ≡ [] → ((name : List ℕ) → held new name ≡ held old name ++ named_in lines name) → HasBuiltIns new
unfolding HasBuiltIns functions_of held
has_lines old new empty now = λ name.
    let this = now name ∙ ap (λ t. held t name ++ named_in lines name) empty in
    this ∙ sym (append-nil (named_in lines name)) ∙ ap (λ ys. named_in lines name ++ ys) (sym (none name this))
  where
    none : (name : List ℕ) → held new name ≡ named_in lines name → drop (length (named_in lines name)) (held new name) ≡ []
    none name e = ap (drop (length (named_in lines name))) (e ∙ sym (append-nil (named_in lines name))) ∙ drop_at (named_in lines name) [] _ refl

pub none_declared : (old new : Table) → old ≡ [] → ((name : List ℕ) → held new name ≡ held old name ++ named_in lines name) → functions_of new ≡ (λ name. [])
unfolding functions_of held
none_declared old new empty now = λ i name. (all name) i
  where
    all : (name : List ℕ) → drop (length (named_in lines name)) (held new name) ≡ []
    all name =
        ap (drop (length (named_in lines name))) (now name ∙ ap (λ t. held t name ++ named_in lines name) empty ∙ sym (append-nil (named_in lines name)))
        ∙ drop_at (named_in lines name) [] _ refl

-- ---- lines

pub no_lines : (name : List ℕ) (xs : List Candidate) → xs ≡ xs ++ named_in [] name
unfolding named_in
no_lines name xs = sym (append-nil xs)

named_more : (name : List ℕ) (some : List NamedLine) (line : NamedLine) → named_in (some ++ line ∷ []) name ≡ named_in some name ++ named_in (line ∷ []) name
unfolding named_in
named_more name some line =
    ap (flat_map of_line) (filter-append (λ l. bytes_eq l.name name) some (line ∷ []))
    ∙ flat_map-append of_line (filter (λ l. bytes_eq l.name name) some) (filter (λ l. bytes_eq l.name name) (line ∷ []))

pub one_more_line : (name : List ℕ) (some : List NamedLine) (line : NamedLine) (base before now : List Candidate)
    → before ≡ base ++ named_in some name → now ≡ before ++ named_in (line ∷ []) name → now ≡ base ++ named_in (some ++ line ∷ []) name
one_more_line name some line base before now b n =
    n ∙ ap (λ xs. xs ++ named_in (line ∷ []) name) b ∙ append_assoc base (named_in some name) (named_in (line ∷ []) name)
    ∙ ap (λ xs. base ++ xs) (sym (named_more name some line))

-- so many signatures of a line
abbrev pub line_with : List ℕ → Callee → List Signature → NamedLine
line_with name callee signatures = record { name = name; callee = callee; signatures = signatures }

pub no_signature : (name : List ℕ) (callee : Callee) (other : List ℕ) (xs : List Candidate) → xs ≡ xs ++ named_in (line_with name callee [] ∷ []) other
unfolding named_in
no_signature name callee other xs = go (bytes_eq name other)
  where
    go : (b : Bool) → xs ≡ xs ++ flat_map of_line (cond b (line_with name callee [] ∷ []) [])
    go true = sym (append-nil xs)
    go false = sym (append-nil xs)

pub one_more_signature : (name : List ℕ) (callee : Callee) (signatures : List Signature) (signature : Signature) (other : List ℕ) (base before now : List Candidate)
    → before ≡ base ++ named_in (line_with name callee signatures ∷ []) other → now ≡ with_one name (candidate signature callee) other before
    → now ≡ base ++ named_in (line_with name callee (signatures ++ signature ∷ []) ∷ []) other
unfolding named_in
one_more_signature name callee signatures signature other base before now b n =
    n ∙ ap (with_one name (candidate signature callee) other) b ∙ go (bytes_eq name other) (bytes_eq other name) (either_way name other)
  where
    mapped : (ss : List Signature) → map (λ s. candidate s callee) (ss ++ signature ∷ []) ≡ map (λ s. candidate s callee) ss ++ candidate signature callee ∷ []
    mapped [] = refl
    mapped (s ∷ ss) = ap (λ xs. candidate s callee ∷ xs) (mapped ss)

    go : (x y : Bool) → x ≡ y
        → (if y then (base ++ flat_map of_line (cond x (line_with name callee signatures ∷ []) [])) ++ candidate signature callee ∷ []
        else base ++ flat_map of_line (cond x (line_with name callee signatures ∷ []) []))
        ≡ base ++ flat_map of_line (cond x (line_with name callee (signatures ++ signature ∷ []) ∷ []) [])
    go true false e = absurd (cc)
    go false true e = absurd (cc)
    go false false e = refl
    go true true e =
        append_assoc base (map (λ s. candidate s callee) signatures ++ []) (candidate signature callee ∷ [])
        ∙ ap (λ xs. base ++ (xs ++ candidate signature callee ∷ [])) (append-nil (map (λ s. candidate s callee) signatures))
        ∙ ap (λ xs. base ++ xs) (sym (mapped signatures) ∙ sym (append-nil (map (λ s. candidate s callee) (signatures ++ signature ∷ []))))

-- ---- the functions that a call may mean

pub own_is : (word : List ℕ) (kinds : List Kind) → own_candidates word kinds ≡ lengths_of (own_kind word (sole_kind kinds))
unfolding own_candidates
own_is word [] = go (bytes_eq word (codes "arraylength"))
  where
    go : (b : Bool) → (if b then array_length [] else []) ≡ []
    go true = refl
    go false = refl
own_is word (kind ∷ []) = go (bytes_eq word (codes "arraylength")) (is_type is_array kind)
  where
    go : (b c : Bool) → (if b then (if c then length_of kind ∷ [] else []) else []) ≡ lengths_of (if b && c then Some kind else None)
    go true true = refl
    go true false = refl
    go false c = refl
own_is word (kind ∷ k ∷ kinds) = go (bytes_eq word (codes "arraylength"))
  where
    go : (b : Bool) → (if b then array_length (kind ∷ k ∷ kinds) else []) ≡ []
    go true = refl
    go false = refl

none_of_array_length : (name : List ℕ) → bytes_eq name (codes "arraylength") ≡ true → named_in lines name ≡ []
unfolding named_in
none_of_array_length name e = ap (λ n. named_in lines n) (same name (codes "arraylength") e)

pub all_candidates : (structures : List StructureName) (table : Table) (name : List ℕ) (kinds : List Kind) → HasBuiltIns table
    → candidates (sight_of structures table) name kinds ≡ own_candidates name kinds ++ held table name
unfolding built_in own_candidates HasBuiltIns functions_of named_in
all_candidates structures table name kinds has = go (bytes_eq name (codes "arraylength")) refl
  where
    go : (b : Bool) → bytes_eq name (codes "arraylength") ≡ b
        → (named_in lines name ++ (if b then array_length kinds else [])) ++ functions_of table name ≡ (if b then array_length kinds else []) ++ held table name
    go true e =
        let none = none_of_array_length name e in
        ap (λ xs. (xs ++ array_length kinds) ++ functions_of table name) none
        ∙ ap (λ ys. array_length kinds ++ ys) (sym (has name ∙ ap (λ xs. xs ++ functions_of table name) none))
    go false e = ap (λ xs. xs ++ functions_of table name) (append-nil (named_in lines name)) ∙ sym (has name)

-- ---- a change, whatever was answered

pub has_after : {A E : Type 0} (r : Result A E) (old new : Table) (name : List ℕ) (c : Candidate)
    → OnOk r ((other : List ℕ) → held new other ≡ with_one name c other (held old other)) → OnErr r ((other : List ℕ) → held new other ≡ held old other)
    → HasBuiltIns old → HasBuiltIns new
has_after (Ok a) old new name c ok err has = has_added old new name c ok has
has_after (Err e) old new name c ok err has = has_unchanged old new err has

pub added_if : {A E : Type 0} (r : Result A E) (old new : Table) (name : List ℕ) (c : Candidate)
    → OnOk r ((other : List ℕ) → held new other ≡ with_one name c other (held old other)) → HasBuiltIns old
    → OnOk r (functions_of new ≡ with_function name c (functions_of old))
added_if (Ok a) old new name c ok has = added old new name c ok has
added_if (Err e) old new name c ok has = tt

pub unchanged_if : {A E : Type 0} (r : Result A E) (old new : Table)
    → OnErr r ((other : List ℕ) → held new other ≡ held old other) → OnErr r (functions_of new ≡ functions_of old)
unchanged_if (Ok a) old new err = tt
unchanged_if (Err e) old new err = unchanged old new err

-- ---- one more in a loop

pub more_lines : (name : List ℕ) (all : List Line) (i : ℕ) (d : Line) (base before now : List Candidate) → i < length all
    → before ≡ base ++ named_in (map line_of (take i all)) name → now ≡ before ++ named_in (line_of (get_or all i d) ∷ []) name
    → now ≡ base ++ named_in (map line_of (take (i + 1) all)) name
more_lines name all i d base before now lt b n =
    one_more_line name (map line_of (take i all)) (line_of (get_or all i d)) base before now b n
    ∙ ap (λ ls. base ++ named_in ls name) (sym (map-append line_of (take i all) (get_or all i d ∷ [])) ∙ ap (map line_of) (sym (take_more all i d lt)))

pub more_takes : (name : List ℕ) (callee : Callee) (all : List Takes) (i : ℕ) (d : Takes) (signature : Signature) (other : List ℕ) (base before now : List Candidate)
    → i < length all → signature ≡ signature_of (get_or all i d)
    → before ≡ base ++ named_in (line_with name callee (map signature_of (take i all)) ∷ []) other
    → now ≡ with_one name (candidate signature callee) other before
    → now ≡ base ++ named_in (line_with name callee (map signature_of (take (i + 1) all)) ∷ []) other
more_takes name callee all i d signature other base before now lt is b n =
    one_more_signature name callee (map signature_of (take i all)) signature other base before now b n
    ∙ ap (λ ss. base ++ named_in (line_with name callee ss ∷ []) other)
    (ap (λ s. map signature_of (take i all) ++ s ∷ []) is ∙ sym (map-append signature_of (take i all) (get_or all i d ∷ [])) ∙ ap (map signature_of) (sym (take_more all i d lt)))
