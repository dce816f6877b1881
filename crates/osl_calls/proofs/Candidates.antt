-- The functions of one name as two lists side by side.
use Rattle.std.proofs.Common.{◌≡◌, Bool, ◌||◌, List, [], ◌∷◌, ◌++◌, length, map, refl, ap, ◌∙◌}
use Rattle.std.specs.List.{list_any}
use Rattle.osl_overload.specs.Cost.{total}
use Rattle.osl_overload.specs.declared.signature.Arg.{Arg}
use Rattle.osl_overload.specs.declared.signature.Signature.{Signature}
use Rattle.osl_typed.specs.declared.found.Callee.{Callee}
use Rattle.osl_typed.specs.Choosing.{costs, costs_this}
use Rattle.osl_typed.specs.Scopes.{Candidate}
use Rattle.osl_calls.specs.Named.{candidate, candidates_of}

pub candidates_push : (ss : List Signature) (cs : List Callee) (s : Signature) (c : Callee) → length ss ≡ length cs
    → candidates_of (ss ++ s ∷ []) (cs ++ c ∷ []) ≡ candidates_of ss cs ++ candidate s c ∷ []
unfolding candidates_of
candidates_push [] [] s c e = refl
candidates_push [] (d ∷ cs) s c e = absurd (cc)
candidates_push (t ∷ ss) [] s c e = absurd (cc)
candidates_push (t ∷ ss) (d ∷ cs) s c e = let h : length ss ≡ length cs = cc in ap (λ xs. candidate t d ∷ xs) (candidates_push ss cs s c h)

pub their_signatures : (ss : List Signature) (cs : List Callee) → length ss ≡ length cs → map (λ c. c.signature) (candidates_of ss cs) ≡ ss
unfolding candidates_of
their_signatures [] cs e = refl
their_signatures (t ∷ ss) [] e = absurd (cc)
their_signatures (t ∷ ss) (d ∷ cs) e = let h : length ss ≡ length cs = cc in ap (λ xs. t ∷ xs) (their_signatures ss cs h)

pub their_callees : (ss : List Signature) (cs : List Callee) → length ss ≡ length cs → map (λ c. c.callee) (candidates_of ss cs) ≡ cs
unfolding candidates_of
their_callees [] [] e = refl
their_callees [] (d ∷ cs) e = absurd (cc)
their_callees (t ∷ ss) [] e = absurd (cc)
their_callees (t ∷ ss) (d ∷ cs) e = let h : length ss ≡ length cs = cc in ap (λ xs. d ∷ xs) (their_callees ss cs h)

pub no_candidates : (ss : List Signature) (cs : List Callee) → ss ≡ [] → candidates_of ss cs ≡ []
unfolding candidates_of
no_candidates [] cs e = refl
no_candidates (s ∷ ss) cs e = absurd (cc)

pub one_pushed : (ss ss_now : List Signature) (cs cs_now : List Callee) (s : Signature) (c : Callee) → length ss ≡ length cs → ss_now ≡ ss ++ s ∷ [] → cs_now ≡ cs ++ c ∷ []
    → candidates_of ss_now cs_now ≡ candidates_of ss cs ++ candidate s c ∷ []
one_pushed ss ss_now cs cs_now s c even p q = (λ i. candidates_of (p i) (q i)) ∙ candidates_push ss cs s c even

-- a test of the signatures
pub any_of : (test : Signature → Bool) (ss : List Signature) (cs : List Callee) → length ss ≡ length cs → list_any (λ c. test c.signature) (candidates_of ss cs) ≡ list_any test ss
unfolding candidates_of
any_of test [] cs e = refl
any_of test (t ∷ ss) [] e = absurd (cc)
any_of test (t ∷ ss) (d ∷ cs) e = let h : length ss ≡ length cs = cc in ap (λ b. test t || b) (any_of test ss cs h)

pub any_cost : (xs : List Candidate) (args : List Arg) → list_any (costs_this 0) (costs (map (λ c. c.signature) xs) args) ≡ list_any (λ c. costs_this 0 (total c.signature.params args)) xs
any_cost [] args = refl
any_cost (x ∷ xs) args = ap (λ b. costs_this 0 (total x.signature.params args) || b) (any_cost xs args)
