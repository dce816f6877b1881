-- Arguments that are passed one after another.
use Rattle.std.proofs.Common.{◌≡◌, ℕ, ◌+◌, ◌<◌, ◌≤◌, List, [], ◌∷◌, ◌++◌, length, drop, get_or, Option, Some, None, refl, ap, sym, ◌∙◌, append-nil, append_assoc, arith}
use Rattle.std.proofs.lemmas.List.{drop_more, drop_all}
use Rattle.std.specs.Option.{option_to_list}
use Rattle.osl_overload.specs.declared.signature.Formal.{Formal}
use Rattle.osl_typed.specs.declared.expr.TypedExpr.{TypedExpr}
use Rattle.osl_typed.specs.declared.found.Found.{Found}
use Rattle.osl_typed.specs.Typing.{◌>>=◌, fit, fit_all, pass_to, pass_all, formal_kinds}
use Rattle.osl_calls.specs.Calling.{behind}

pub behind_nothing : {X : Type 0} (o : Option (List X)) → behind [] o ≡ o
behind_nothing None = refl
behind_nothing (Some xs) = refl

nothing_left : {X : Type 0} (xs : List X) → length xs ≡ 0 → xs ≡ []
nothing_left [] e = refl
nothing_left (x ∷ xs) e = absurd (omega arith)

-- one more parameter asks for one more argument
pub record IsPassing {X : Type 0} (one : Formal → Found → Option X) (all : List Formal → List Found → Option (List X)) : Type 0 where
  pub nothing : (args : List Found) → all [] args ≡ Some []
  pub short : (f : Formal) (fs : List Formal) → all (f ∷ fs) [] ≡ None
  pub more : (f : Formal) (fs : List Formal) (a : Found) (args : List Found) → all (f ∷ fs) (a ∷ args) ≡ (one f a >>= λ x. all fs args >>= λ xs. Some (x ∷ xs))

module _ {X : Type 0} (one : Formal → Found → Option X) (all : List Formal → List Found → Option (List X)) (is : IsPassing one all) where
  behind_more : (done : List X) (o : Option X) (r : Option (List X)) (x : X) → o ≡ Some x
      → behind done (o >>= λ y. r >>= λ ys. Some (y ∷ ys)) ≡ behind (done ++ x ∷ []) r
  behind_more done None r x e = absurd (cc)
  behind_more done (Some y) None x e = refl
  behind_more done (Some y) (Some ys) x e =
      let s : y ≡ x = cc in ap (λ z. Some (done ++ z ∷ ys)) s ∙ ap Some (sym (append_assoc done (x ∷ []) ys))

  behind_stops : (done : List X) (o : Option X) (r : Option (List X)) → o ≡ None → behind done (o >>= λ y. r >>= λ ys. Some (y ∷ ys)) ≡ None
  behind_stops done None r e = refl
  behind_stops done (Some y) r e = absurd (cc)

  at_next : (fs : List Formal) (i : ℕ) (d : Formal) (a : Found) (args : List Found) (done : List X) → i < length fs
      → behind done (all (drop i fs) (a ∷ args)) ≡ behind done (one (get_or fs i d) a >>= λ x. all (drop (i + 1) fs) args >>= λ xs. Some (x ∷ xs))
  at_next fs i d a args done lt =
      ap (λ gs. behind done (all gs (a ∷ args))) (drop_more fs i d lt) ∙ ap (behind done) (is.more (get_or fs i d) (drop (i + 1) fs) a args)

  pub passed_more : (fs : List Formal) (i : ℕ) (d : Formal) (before args : List Found) (o : Option Found) (a : Found) (done now : List X) (x : X)
      (whole : Option (List X))
      → i < length fs → behind done (all (drop i fs) before) ≡ whole → before ≡ option_to_list o ++ args → o ≡ Some a
      → one (get_or fs i d) a ≡ Some x → now ≡ done ++ x ∷ [] → behind now (all (drop (i + 1) fs) args) ≡ whole
  passed_more fs i d before args o a done now x whole lt so_far taken there fits pushed =
      let first : before ≡ a ∷ args = taken ∙ ap (λ p. option_to_list p ++ args) there in
      ap (λ ys. behind ys (all (drop (i + 1) fs) args)) pushed
      ∙ sym (behind_more done (one (get_or fs i d) a) (all (drop (i + 1) fs) args) x fits)
      ∙ sym (at_next fs i d a args done lt)
      ∙ ap (λ bs. behind done (all (drop i fs) bs)) (sym first)
      ∙ so_far

  pub passed_stops : (fs : List Formal) (i : ℕ) (d : Formal) (before args : List Found) (o : Option Found) (a : Found) (done : List X) (whole : Option (List X))
      → i < length fs → behind done (all (drop i fs) before) ≡ whole → before ≡ option_to_list o ++ args → o ≡ Some a
      → one (get_or fs i d) a ≡ None → whole ≡ None
  passed_stops fs i d before args o a done whole lt so_far taken there misfit =
      let first : before ≡ a ∷ args = taken ∙ ap (λ p. option_to_list p ++ args) there in
      sym so_far ∙ ap (λ bs. behind done (all (drop i fs) bs)) first ∙ at_next fs i d a args done lt
      ∙ behind_stops done (one (get_or fs i d) a) (all (drop (i + 1) fs) args) misfit

  pub passed_short : (fs : List Formal) (i : ℕ) (d : Formal) (before args : List Found) (o : Option Found) (done : List X) (whole : Option (List X))
      → i < length fs → behind done (all (drop i fs) before) ≡ whole → before ≡ option_to_list o ++ args → o ≡ None → length args ≡ 0 → whole ≡ None
  passed_short fs i d before args o done whole lt so_far taken none empty =
      let nothing : before ≡ [] = taken ∙ ap (λ p. option_to_list p ++ args) none ∙ nothing_left args empty in
      sym so_far ∙ ap (λ bs. behind done (all (drop i fs) bs)) nothing ∙ ap (λ gs. behind done (all gs [])) (drop_more fs i d lt)
      ∙ ap (behind done) (is.short (get_or fs i d) (drop (i + 1) fs))

  pub passed_all : (fs : List Formal) (i : ℕ) (before : List Found) (done : List X) (whole : Option (List X))
      → length fs ≤ i → behind done (all (drop i fs) before) ≡ whole → whole ≡ Some done
  passed_all fs i before done whole ge so_far =
      sym so_far ∙ ap (λ gs. behind done (all gs before)) (drop_all i fs ge) ∙ ap (behind done) (is.nothing before) ∙ ap Some (append-nil done)

pub passing : IsPassing pass_to pass_all
unfolding pass_all
passing = record { nothing = λ args. refl; short = λ f fs. refl; more = λ f fs a args. refl }

abbrev pub fit_to : Formal → Found → Option TypedExpr
fit_to formal a = fit formal.kind a

abbrev pub fit_formals : List Formal → List Found → Option (List TypedExpr)
fit_formals formals args = fit_all (formal_kinds formals) args

pub fitting : IsPassing fit_to fit_formals
unfolding fit_all
fitting = record { nothing = λ args. refl; short = λ f fs. refl; more = λ f fs a args. refl }
