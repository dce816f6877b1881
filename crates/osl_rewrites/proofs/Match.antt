-- The ways to put runs together keep what holds of both.
use Rattle.std.proofs.Common.{ℕ, zero, suc, Bool, true, false, refl, sym, ap, subst}
use Rattle.std.specs.Prelude.{if◌then◌else◌}
use Rattle.osl_value.specs.AnyValue.{AnyValue}
use Rattle.oso_code.specs.Run.{State, with_turns, Sources, Reading, Gives, Spent, read, Outcome, Next, Jumps, then_do, with_value, is_so, Tested, Holds, Fails, Ends, on_test, decide, test_after, take_turn, after_body, turn, loop, looped, call_end}
use Rattle.oso_code.specs.Steps.{Break, Continue, Return, Exit}
use Rattle.osl_rewrites.specs.Side.{Relation, AtEnds, Match, MatchReading, MatchTested, going_on, looping, calling, Into, Turning, whether}

pub into : (a b : AtEnds) → Into a b → (o o' : Outcome) → Match a o o' → Match b o o'
into a b h (Next s) o' (t, is, r) = (t, is, h.next s t r)
into a b h (Jumps way s) o' (t, is, r) = (t, is, h.jumps way s t r)
into a b h (Spent s) o' (t, is, r) = (t, is, h.spent s t r)

pub weaken : (k : AtEnds) (P Q : Relation) → ((s t : State) → P s t → Q s t) → (o o' : Reading) → MatchReading k P o o' → MatchReading k Q o o'
weaken k P Q h (Gives v s) o' (t, is, r) = (t, is, h s t r)
weaken k P Q h (Spent s) o' m = m

pub then_match : (k : AtEnds) (R : Relation) (o o' : Outcome) (go go' : State → Outcome) → Match (going_on R k) o o' → ((s t : State) → R s t → Match k (go s) (go' t)) → Match k (then_do o go) (then_do o' go')
then_match k R (Next s) o' go go' (t, is, r) h = subst (λ x. Match k (go s) (then_do x go')) (sym is) (h s t r)
then_match k R (Jumps way s) o' go go' (t, is, r) h = (t, ap (λ x. then_do x go') is, r)
then_match k R (Spent s) o' go go' (t, is, r) h = (t, ap (λ x. then_do x go') is, r)

pub with_match : (k : AtEnds) (R : Relation) (o o' : Reading) (go go' : AnyValue → State → Outcome) → MatchReading k R o o' → ((v : AnyValue) (s t : State) → R s t → Match k (go v s) (go' v t)) → Match k (with_value o go) (with_value o' go')
with_match k R (Gives v s) o' go go' (t, is, r) h = subst (λ x. Match k (go v s) (with_value x go')) (sym is) (h v s t r)
with_match k R (Spent s) o' go go' (t, is, r) h = (t, ap (λ x. with_value x go') is, r)

after_match : (k : AtEnds) (step out : Relation) (o o' : Outcome) (go go' : State → Outcome) → Match (looping step out k) o o' → ((s t : State) → step s t → Match (going_on out k) (go s) (go' t)) → Match (going_on out k) (after_body o go) (after_body o' go')
after_match k step out (Next s) o' go go' (t, is, r) h = subst (λ x. Match (going_on out k) (go s) (after_body x go')) (sym is) (h s t r)
after_match k step out (Jumps Break s) o' go go' (t, is, r) h = (t, ap (λ x. after_body x go') is, r)
after_match k step out (Jumps Continue s) o' go go' (t, is, r) h = subst (λ x. Match (going_on out k) (go s) (after_body x go')) (sym is) (h s t r)
after_match k step out (Jumps Return s) o' go go' (t, is, r) h = (t, ap (λ x. after_body x go') is, r)
after_match k step out (Jumps Exit s) o' go go' (t, is, r) h = (t, ap (λ x. after_body x go') is, r)
after_match k step out (Spent s) o' go go' (t, is, r) h = (t, ap (λ x. after_body x go') is, r)

on_match : (k : AtEnds) (good out : Relation) (o o' : Tested) (go go' : State → Outcome) → MatchTested good out (going_on out k) o o' → ((s t : State) → good s t → Match (going_on out k) (go s) (go' t)) → Match (going_on out k) (on_test o go) (on_test o' go')
on_match k good out (Holds s) o' go go' (t, is, r) h = subst (λ x. Match (going_on out k) (go s) (on_test x go')) (sym is) (h s t r)
on_match k good out (Fails s) o' go go' (t, is, r) h = (t, ap (λ x. on_test x go') is, r)
on_match k good out (Ends o1) o' go go' (o2, is, r) h = subst (λ x. Match (going_on out k) o1 (on_test x go')) (sym is) r

take_match : (k : AtEnds) (n : ℕ) (s t : State) (go go' : State → Outcome) → k.spent s t → ((m : ℕ) → Match k (go (with_turns m s)) (go' (with_turns m t))) → Match k (take_turn n s go) (take_turn n t go')
take_match k zero s t go go' w h = (t, refl, w)
take_match k (suc n) s t go go' w h = h n

module _ (k : AtEnds) (top good step out : Relation) (turning : Turning k good) (test test' : State → Tested) (body body' steps steps' : State → Outcome)
    (ht : (s t : State) → top s t → MatchTested good out (going_on out k) (test s) (test' t)) (hb : (s t : State) → good s t → Match (looping step out k) (body s) (body' t)) (hs : (s t : State) → step s t → Match (going_on top k) (steps s) (steps' t)) where
  step_match : (rest rest' : State → Outcome) → ((s t : State) → top s t → Match (going_on out k) (rest s) (rest' t)) → (s t : State) → step s t → Match (going_on out k) (then_do (steps s) rest) (then_do (steps' t) rest')
  step_match rest rest' h s t r = then_match (going_on out k) top (steps s) (steps' t) rest rest' (hs s t r) h

  turn_match : (rest rest' : State → Outcome) → ((s t : State) → top s t → Match (going_on out k) (rest s) (rest' t)) → (s t : State) → good s t → Match (going_on out k) (turn body steps rest s) (turn body' steps' rest' t)
  turn_match rest rest' h s t r =
      subst (λ m. Match (going_on out k) (take_turn s.turns s (λ s1. after_body (body s1) (λ s2. then_do (steps s2) rest))) (take_turn m t (λ s1. after_body (body' s1) (λ s2. then_do (steps' s2) rest')))) (turning.same s t r)
      (take_match (going_on out k) s.turns s t (λ s1. after_body (body s1) (λ s2. then_do (steps s2) rest)) (λ s1. after_body (body' s1) (λ s2. then_do (steps' s2) rest')) (turning.none s t r)
      (λ m. after_match k step out (body (with_turns m s)) (body' (with_turns m t)) (λ s2. then_do (steps s2) rest) (λ s2. then_do (steps' s2) rest') (hb (with_turns m s) (with_turns m t) (turning.taken m s t r)) (step_match rest rest' h)))

  loop_match : (n : ℕ) (s t : State) → top s t → Match (going_on out k) (loop n test body steps s) (loop n test' body' steps' t)
  unfolding loop
  loop_match zero s t r = on_match k good out (test s) (test' t) (λ s1. Spent s1) (λ s1. Spent s1) (ht s t r) (λ a b r1. (b, refl, turning.none a b r1))
  loop_match (suc n) s t r =
      on_match k good out (test s) (test' t) (turn body steps (loop n test body steps)) (turn body' steps' (loop n test' body' steps')) (ht s t r) (turn_match (loop n test body steps) (loop n test' body' steps') (loop_match n))

  pub looped_match : (tested : Bool) → Turning k top → (s t : State) → whether tested (top s t) (good s t) → Match (going_on out k) (looped tested test body steps s) (looped tested test' body' steps' t)
  looped_match true again s t r =
      subst (λ m. Match (going_on out k) (loop s.turns test body steps s) (loop m test' body' steps' t)) (again.same s t r) (loop_match s.turns s t r)
  looped_match false again s t r =
      turn_match (λ s1. loop s1.turns test body steps s1) (λ s1. loop s1.turns test' body' steps' s1)
      (λ a b q. subst (λ m. Match (going_on out k) (loop a.turns test body steps a) (loop m test' body' steps' b)) (again.same a b q) (loop_match a.turns a b q)) s t r

pub call_match : (k : AtEnds) (R : Relation) (o o' : Outcome) → Match (calling R k) o o' → Match (going_on R k) (call_end o) (call_end o')
call_match k R (Next s) o' (t, is, r) = (t, ap call_end is, r)
call_match k R (Jumps Break s) o' (t, is, r) = (t, ap call_end is, r)
call_match k R (Jumps Continue s) o' (t, is, r) = (t, ap call_end is, r)
call_match k R (Jumps Return s) o' (t, is, r) = (t, ap call_end is, r)
call_match k R (Jumps Exit s) o' (t, is, r) = (t, ap call_end is, r)
call_match k R (Spent s) o' (t, is, r) = (t, ap call_end is, r)

-- what a test makes of the symbol that was read
decided : (k : AtEnds) (good out : Relation) (b : Bool) (s t : State) → good s t → out s t → MatchTested good out k (if b then Holds s else Fails s) (if b then Holds t else Fails t)
decided k good out true s t y n = (t, refl, y)
decided k good out false s t y n = (t, refl, n)

value_match : (k : AtEnds) (good out : Relation) (o o' : Reading) → MatchReading k (λ s t. good s t × out s t) o o' → MatchTested good out k (decide o) (decide o')
value_match k good out (Gives v s) o' (t, is, r) =
    subst (λ x. MatchTested good out k (if is_so v then Holds s else Fails s) (decide x)) (sym is) (decided k good out (is_so v) s t r.0 r.1)
value_match k good out (Spent s) o' (t, is, r) = (Spent t, ap decide is, (t, refl, r))

pub test_match : (from from' : Sources) (c c' : ℕ) (k : AtEnds) (T good out : Relation) (o o' : Outcome) → Match (going_on T k) o o' → ((s t : State) → T s t → MatchReading k (λ a b. good a b × out a b) (read from c s) (read from' c' t)) → MatchTested good out (going_on out k) (test_after from c o) (test_after from' c' o')
test_match from from' c c' k T good out (Next s) o' (t, is, r) h =
    subst (λ x. MatchTested good out (going_on out k) (decide (read from c s)) (test_after from' c' x)) (sym is) (value_match (going_on out k) good out (read from c s) (read from' c' t) (h s t r))
test_match from from' c c' k T good out (Jumps way s) o' (t, is, r) h = (Jumps way t, ap (test_after from' c') is, (t, refl, r))
test_match from from' c c' k T good out (Spent s) o' (t, is, r) h = (Spent t, ap (test_after from' c') is, (t, refl, r))
