-- Calls keep what is known.
use Rattle.std.proofs.Common.{◌≡◌, ℕ, zero, suc, Bool, true, false, ◌&&◌, ◌⊎◌, inl, inr, List, [], ◌∷◌, ◌++◌, map, Option, Some, None, refl, sym, ap, ◌∙◌, subst}
use Rattle.std.specs.Prelude.{if◌then◌else◌, slice_get, option_and_then}
use Rattle.std.proofs.lemmas.Bool.{false≢true, and_from, and_parts}
use Rattle.osl_value.specs.declared.op_name.OpName.{OpName}
use Rattle.osl_value.specs.declared.op_name.OpName.TheVariants as op
use Rattle.osl_overload.specs.Cost.{argument_cost, plus, total}
use Rattle.osl_overload.specs.Kinds.{same_kind}
use Rattle.osl_overload.specs.declared.signature.Formal.{Formal}
use Rattle.osl_overload.specs.declared.signature.Kind.{Kind}
use Rattle.osl_overload.specs.declared.signature.Kind.TheVariants.{Void}
use Rattle.osl_overload.specs.declared.signature.Signature.{Signature}
use Rattle.osl_typed.specs.declared.expr.Argument.{Argument}
use Rattle.osl_typed.specs.declared.expr.Argument.TheVariants.{In, Out}
use Rattle.osl_typed.specs.declared.expr.TypedExpr.{TypedExpr}
use Rattle.osl_typed.specs.declared.expr.TypedExpr.TheVariants as e
use Rattle.osl_typed.specs.declared.found.Callee.{Callee}
use Rattle.osl_typed.specs.declared.found.Callee.TheVariants.{Declared, Operation, SubstrToEnd, Exit}
use Rattle.osl_typed.specs.declared.found.Found.{Found}
use Rattle.osl_typed.specs.BuiltIns.{built_in}
use Rattle.osl_typed.specs.Choosing.{chosen, apart}
use Rattle.osl_typed.proofs.Choices.{chosen_is_least}
use Rattle.osl_typed.specs.Scopes.{Candidate, Sight}
use Rattle.osl_typed.specs.Typing.{◌>>=◌, sequence, expression, as_argument, root_of, target_form, pass_to, pass_all, fit, fit_all, formal_kinds, plain_type, operation_call, called_as, longest, kinds_of, candidates, call}
use Rattle.osl_welltyped.specs.Kinded.{Rules, takes, plain_types, passes, call_fits, formal_of, is_alike, kinded, passed_kind}
use Rattle.osl_welltyped.specs.Agreement.{IsDeclared, SightFits}
use Rattle.osl_welltyped.proofs.Assignments.{target_fits}
use Rattle.osl_welltyped.proofs.BuiltInsFit.{kinds_taken, result_fits, callee_fits, built_in_fits}
use Rattle.osl_welltyped.proofs.Constructors.{AllFit, AllStand, all_stand}
use Rattle.osl_welltyped.proofs.FoundFits.{FoundFits, fit_kinded, three}
use Rattle.osl_welltyped.proofs.KindedLaws.{kinded-In, kinded-Out, kinded-Int, kinded-Call, kinded-Exit}
use Rattle.osl_welltyped.proofs.OperatorsFit.{Stands, value_fits, plain_is, apply_kinded}
use Rattle.osl_welltyped.proofs.Steps.{none_is_not, some_same, bound, held, only_if_so, same_kind-true, same_kind-refl}

-- ---- lists, by places

-- an item of two lists is one of the first or of the second
pub from_either : {X : Type 0} (xs ys : List X) (k : ℕ) (x : X) → slice_get (xs ++ ys) k ≡ Some x → (slice_get xs k ≡ Some x) ⊎ ((j : ℕ) × (slice_get ys j ≡ Some x))
from_either [] ys k x h = inr (k, h)
from_either (y ∷ xs) ys zero x h = inl h
from_either (y ∷ xs) ys (suc k) x h = from_either xs ys k x h

signature_at : (cs : List Candidate) (k : ℕ) (c : Candidate) → slice_get cs k ≡ Some c → slice_get (map (λ c. c.signature) cs) k ≡ Some c.signature
signature_at [] k c h = none_is_not c h
signature_at (d ∷ cs) zero c h = ap (λ (o : Candidate). Some o.signature) (some_same d c h)
signature_at (d ∷ cs) (suc k) c h = signature_at cs k c h

-- ---- arguments of declared functions

-- the arguments have a cost, so outputs have the kinds of their parameters
abbrev HasCost : List Formal → List Found → Type 0
HasCost formals args = (n : ℕ) × (total formals (map as_argument args) ≡ Some n)

record Both (a b : Option ℕ) : Type 0 where
  first : ℕ
  second : ℕ
  left : a ≡ Some first
  right : b ≡ Some second

both : (a b : Option ℕ) (n : ℕ) → plus a b ≡ Some n → Both a b
both None b n h = none_is_not n h
both (Some x) None n h = none_is_not n h
both (Some x) (Some y) n h = record { first = x; second = y; left = refl; right = refl }

output_kind : (kind other : Kind) (writable : Bool) (n : ℕ) → (if writable && same_kind kind other then Some 0 else None) ≡ Some n → same_kind kind other ≡ true
output_kind kind other writable n h =
    (elim (writable && same_kind kind other) as (λ t. (writable && same_kind kind other) ≡ t → (if t then Some 0 else None) ≡ Some n → same_kind kind other ≡ true) [
      | true ↦ λ all g. (and_parts writable (same_kind kind other) all).1
      | false ↦ λ all g. none_is_not n g
    ]) refl h

-- what is passed to a parameter
record IsPassed (rules : Rules) (kind : Kind) (output : Bool) (x : Argument) : Type 0 where
  is : passed_kind rules x ≡ Some (record { kind = kind; output = output })

pass_output : (rules : Rules) (kind : Kind) (a : Found) (x : Argument) → Stands rules a → same_kind a.kind kind ≡ true → (target_form a.form >>= λ t. Some (Out t.root t.part t.indices)) ≡ Some x → IsPassed rules kind true x
pass_output rules kind a x s same h =
    let t = bound (target_form a.form) _ x h in
    let f = target_fits rules a t.value s t.was in
    subst (IsPassed rules kind true) (some_same _ x t.goes) (record {
      is = kinded-Out rules t.value.root t.value.part t.value.indices ∙ ap (formal_of true) (only_if_so _ _ f.stores ∙ ap Some (f.kind_is ∙ same_kind-true a.kind kind same));
    })

pass_input : (rules : Rules) (kind : Kind) (a : Found) (x : Argument) → Stands rules a → (fit kind a >>= λ y. Some (In y)) ≡ Some x → IsPassed rules kind false x
pass_input rules kind a x s h =
    let y = bound (fit kind a) _ x h in
    subst (IsPassed rules kind false) (some_same _ x y.goes) (record { is = kinded-In rules y.value ∙ ap (formal_of false) (fit_kinded rules kind a y.value s.fits s.whole y.was) })

pass_one : (rules : Rules) (kind : Kind) (output : Bool) (a : Found) (x : Argument) (n : ℕ) → Stands rules a → argument_cost (record { kind = kind; output = output }) (as_argument a) ≡ Some n
    → pass_to (record { kind = kind; output = output }) a ≡ Some x → IsPassed rules kind output x
pass_one rules kind true a x n s costs h = pass_output rules kind a x s (output_kind a.kind kind _ n costs) h
pass_one rules kind false a x n s costs h = pass_input rules kind a x s h

alike : (b : Bool) → is_alike b b ≡ true
alike true = refl
alike false = refl

passes_all : (rules : Rules) (formals : List Formal) (args : List Found) (xs : List Argument) → AllStand rules args → HasCost formals args → pass_all formals args ≡ Some xs → passes formals (map (passed_kind rules) xs) ≡ true
unfolding pass_all
passes_all rules [] args xs s costs h = ap (λ ys. passes [] (map (passed_kind rules) ys)) (sym (some_same [] xs h))
passes_all rules (formal ∷ formals) [] xs s costs h = none_is_not xs h
passes_all rules (formal ∷ formals) (a ∷ args) xs s costs h =
    let c = both (argument_cost formal (as_argument a)) (total formals (map as_argument args)) (costs.0) (costs.1) in
    let x = bound (pass_to formal a) _ xs h in
    let rest = bound (pass_all formals args) _ xs x.goes in
    let one = pass_one rules formal.kind formal.output a x.value c.first (s.0) c.left x.was in
    ap (λ ys. passes (formal ∷ formals) (map (passed_kind rules) ys)) (sym (some_same (x.value ∷ rest.value) xs rest.goes))
    ∙ ap (λ o. passes (formal ∷ formals) (o ∷ map (passed_kind rules) rest.value)) one.is
    ∙ three _ _ _ (same_kind-refl formal.kind) (alike formal.output) (passes_all rules formals args rest.value (s.1) (c.second, c.right) rest.was)

-- ---- operands of built-in functions

operands_kinded : (rules : Rules) (formals : List Formal) (args : List Found) (xs : List TypedExpr) → AllStand rules args → fit_all (formal_kinds formals) args ≡ Some xs → map (kinded rules) xs ≡ kinds_taken formals
unfolding fit_all
operands_kinded rules [] args xs s h = ap (map (kinded rules)) (sym (some_same [] xs h))
operands_kinded rules (formal ∷ formals) [] xs s h = none_is_not xs h
operands_kinded rules (formal ∷ formals) (a ∷ args) xs s h =
    let x = bound (fit formal.kind a) _ xs h in
    let rest = bound (fit_all (formal_kinds formals) args) _ xs x.goes in
    ap (map (kinded rules)) (sym (some_same (x.value ∷ rest.value) xs rest.goes))
    ∙ (λ i. fit_kinded rules formal.kind a x.value (s.0).fits (s.0).whole x.was i ∷ operands_kinded rules formals args rest.value (s.1) rest.was i)

map_both : {X Y : Type 0} (f : X → Y) (xs ys : List X) → map f (xs ++ ys) ≡ map f xs ++ map f ys
map_both f [] ys = refl
map_both f (x ∷ xs) ys = ap (λ zs. f x ∷ zs) (map_both f xs ys)

operation_fits : (rules : Rules) (name : OpName) (c : Candidate) (args : List Found) (more : List TypedExpr) (d : Found) → AllStand rules args
    → result_fits name c.signature.result (kinds_taken c.signature.params ++ map (kinded rules) more) ≡ true → operation_call name c args more ≡ Some d → FoundFits rules d
operation_fits rules name c args more d s table h =
    let xs = bound (fit_all (formal_kinds c.signature.params) args) _ d h in
    let ty = bound (plain_type c.signature.result) _ d xs.goes in
    let is = plain_is c.signature.result ty.value ty.was in
    let all : map (kinded rules) (xs.value ++ more) ≡ kinds_taken c.signature.params ++ map (kinded rules) more =
    map_both (kinded rules) xs.value more ∙ ap (λ ks. ks ++ map (kinded rules) more) (operands_kinded rules c.signature.params args xs.value s xs.was) in
    let ok : takes name ty.value (plain_types (map (kinded rules) (xs.value ++ more))) ≡ true =
    ap (λ ks. takes name ty.value (plain_types ks)) all ∙ ap (λ k. result_fits name k (kinds_taken c.signature.params ++ map (kinded rules) more)) (sym is) ∙ table in
    subst (FoundFits rules) (some_same _ d ty.goes) (value_fits rules _ _ (apply_kinded rules name ty.value (xs.value ++ more) ok ∙ ap Some (sym is)))

-- ---- calls

pub append_none : {X : Type 0} (xs : List X) → xs ++ [] ≡ xs
append_none [] = refl
append_none (x ∷ xs) = ap (λ ys. x ∷ ys) (append_none xs)

built_in_called : (rules : Rules) (callee : Callee) (c : Candidate) (args : List Found) (d : Found) → AllStand rules args → callee_fits callee c.signature ≡ true → called_as callee c args ≡ Some d → FoundFits rules d
built_in_called rules (Declared f) c args d s table h = absurd (false≢true table)
built_in_called rules (Operation name) c args d s table h = operation_fits rules name c args [] d s (ap (result_fits name c.signature.result) (append_none (kinds_taken c.signature.params)) ∙ table) h
built_in_called rules SubstrToEnd c args d s table h =
    operation_fits rules op.SubStr c args (longest ∷ []) d s (ap (λ o. result_fits op.SubStr c.signature.result (kinds_taken c.signature.params ++ o ∷ [])) (kinded-Int rules _) ∙ table) h
built_in_called rules Exit c args d s table h = subst (FoundFits rules) (some_same _ d h) (value_fits rules e.Exit Void (kinded-Exit rules))

declared_called : (rules : Rules) (c : Candidate) (args : List Found) (d : Found) → AllStand rules args → HasCost c.signature.params args → IsDeclared rules.functions c → called_as c.callee c args ≡ Some d → FoundFits rules d
declared_called rules c args d s costs declared h =
    let xs = bound (pass_all c.signature.params args) _ d (sym (ap (λ callee. called_as callee c args) declared.callee) ∙ h) in
    let all = passes_all rules c.signature.params args xs.value s costs xs.was in
    subst (FoundFits rules) (some_same _ d xs.goes) (value_fits rules _ _ (kinded-Call rules declared.number c.signature.result xs.value
    ∙ only_if_so _ _ (ap (λ o. call_fits o c.signature.result (map (passed_kind rules) xs.value)) declared.is
    ∙ and_from _ _ (ap (λ k. same_kind k c.signature.result) (sym declared.result) ∙ same_kind-refl c.signature.result)
    (ap (λ fs. passes fs (map (passed_kind rules) xs.value)) (sym declared.formals) ∙ all))))

has_cost : (cs : List Candidate) (args : List Found) (k : ℕ) (c : Candidate) → chosen (map (λ c. c.signature) cs) (map as_argument args) ≡ Some k → slice_get cs k ≡ Some c → HasCost c.signature.params args
has_cost cs args k c is at =
    let l = chosen_is_least (map (λ c. c.signature) cs) (map as_argument args) k is in
    (l.least, sym (ap (option_and_then (λ (s : Signature). total s.params (map as_argument args))) (signature_at cs k c at)) ∙ l.costs)

pub call_keeps : (rules : Rules) (sight : Sight) (word : List ℕ) (given : List Found) (d : Found) → SightFits rules sight → AllFit rules given → call sight word given ≡ Some d → FoundFits rules d
unfolding call
call_keeps rules sight word given d fits all h =
    let args = bound (sequence (map expression given)) _ d h in
    let s = all_stand rules given args.value all args.was in
    let place = bound (chosen (map (λ c. c.signature) (candidates sight word (kinds_of args.value))) (map as_argument args.value)) _ d args.goes in
    let c = bound (slice_get (candidates sight word (kinds_of args.value)) place.value) _ d place.goes in
    let t = held (apart c.value.signature.params (map root_of args.value)) _ d c.goes in
    elim (from_either (built_in word (kinds_of args.value)) (sight.functions word) place.value c.value c.was) [
      | inl at ↦ built_in_called rules c.value.callee c.value args.value d s (built_in_fits word (kinds_of args.value) place.value c.value at) (t.1)
      | inr at ↦ declared_called rules c.value args.value d s (has_cost (candidates sight word (kinds_of args.value)) args.value place.value c.value place.was c.was) (fits.functions word (at.0) c.value (at.1)) (t.1)
    ]
