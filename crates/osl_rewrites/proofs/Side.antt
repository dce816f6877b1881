-- Two codes with the same ranges run side by side.
use Rattle.std.proofs.Common.{ℕ, zero, suc, ◌+◌, ◌<◌, ◌≤◌, ⊎_elim, List, Some, Bool, true, false, sym, subst, arith}
use Rattle.std.specs.Prelude.{slice_get}
use Rattle.std.proofs.lemmas.Bool.{cases_lt, lt-ltb, le-ltb}
use Rattle.oso_code.specs.Run.{State, Sources, Outcome, read, then_do, either, is_so, test_after, looped, call_end, run_span, act}
use Rattle.oso_code.specs.Steps.{Span, Step, Branch, Loop, Call}
use Rattle.osl_rewrites.specs.Quiet.{quiet}
use Rattle.osl_rewrites.specs.Side.{Relation, AtEnds, Match, going_on, looping, calling, whether, before_place, before, Part, Place, ByStep, ByBranch, ByLoop, ByCall}
use Rattle.osl_rewrites.proofs.Match.{into, then_match, with_match, looped_match, call_match, test_match}
use Rattle.osl_rewrites.proofs.Quiets.{quiet_more, quiet_past}

either_match : (k : AtEnds) (good bad : Relation) (b : Bool) (s t : State) (x x' y y' : State → Outcome) → (good s t → Match k (x s) (x' t)) → (bad s t → Match k (y s) (y' t)) → good s t × bad s t → Match k (either b x y s) (either b x' y' t)
either_match k good bad true s t x x' y y' h g r = h r.0
either_match k good bad false s t x x' y y' h g r = g r.1

module _ (from from' : Sources) (old new : List Step) (C : Type 0) (both : C → AtEnds) (Runs : ℕ → ℕ → C → Type 0) (B : ℕ → Relation) (each : (i e : ℕ) (k : C) → Runs i e k → i < e → Place from from' old new C both Runs B i e k) where
  at_first : (i e : ℕ) (k : AtEnds) (s t : State) → i < e → before_place B i e k s t → B i s t
  at_first i e k s t lt r = subst (λ b. whether b (B i s t) (k.next s t)) (lt-ltb i e lt) r

  at_last : (i e : ℕ) (k : AtEnds) (s t : State) → e ≤ i → before_place B i e k s t → k.next s t
  at_last i e k s t le r = subst (λ b. whether b (B i s t) (k.next s t)) (le-ltb i e le) r

  abbrev pub Follow : ℕ → Type 0
  Follow f = (i e : ℕ) (k : C) (s t : State) → Runs i e k → e ≤ f + i → before_place B i e (both k) s t → Match (both k) (quiet from old f i e s) (quiet from' new f i e t)

  at_end : (f i e : ℕ) (k : C) (s t : State) → e ≤ i → before_place B i e (both k) s t → Match (both k) (quiet from old f i e s) (quiet from' new f i e t)
  at_end f i e k s t le r =
      subst (λ o. Match (both k) o (quiet from' new f i e t)) (sym (quiet_past from old f i e s le)) (t, quiet_past from' new f i e t le, at_last i e (both k) s t le r)

  span_match : (f i next e : ℕ) (span : Span) (c : C) (s t : State) → Follow f → Part C Runs i next span c → next ≤ e → e ≤ suc f + i → before B span (both c) s t → Match (both c) (run_span (quiet from old f) span s) (run_span (quiet from' new f) span t)
  span_match f i next e span c s t ih part le lf r = let l = part.later in let w = part.within in ih span.start span.end c s t part.runs (omega (arith, l, w, le, lf)) r

  at_place : (f i e : ℕ) (k : C) (s t : State) → Follow f → i < e → e ≤ suc f + i → B i s t → Place from from' old new C both Runs B i e k → Match (both k) (act from (quiet from old f) (slice_get old i) i e s) (act from' (quiet from' new f) (slice_get new i) i e t)
  at_place f i e k s t ih lt lf r (ByStep step step' here there on steps) =
      subst (λ o. Match (both k) (act from (quiet from old f) o i e s) (act from' (quiet from' new f) (slice_get new i) i e t)) (sym here)
      (subst (λ o. Match (both k) (act from (quiet from old f) (Some step) i e s) (act from' (quiet from' new f) o i e t)) (sym there)
      (steps (quiet from old f) (quiet from' new f) (λ x u. quiet_past from' new f x x u (omega arith)) (λ u v q. ih (i + 1) e k u v on (omega arith) q) s t r))
  at_place f i e k s t ih lt lf r (ByBranch c c' holds fails here there ahead le one two p1 p2 on i1 i2 reads) =
      let R = before_place B fails.end e (both k) in
      let go = quiet from old f in let go' = quiet from' new f in
      subst (λ o. Match (both k) (act from go o i e s) (act from' go' (slice_get new i) i e t)) (sym here)
      (subst (λ o. Match (both k) (act from go (Some (Branch c holds fails)) i e s) (act from' go' o i e t)) (sym there)
      (with_match (both k) (λ s1 t1. before B holds (both one) s1 t1 × before B fails (both two) s1 t1) (read from c s) (read from' c' t)
      (λ v s1. then_do (either (is_so v) (run_span go holds) (run_span go fails) s1) (go fails.end e))
      (λ v s1. then_do (either (is_so v) (run_span go' holds) (run_span go' fails) s1) (go' fails.end e)) (reads s t r)
      (λ v s1 t1 q. then_match (both k) R (either (is_so v) (run_span go holds) (run_span go fails) s1) (either (is_so v) (run_span go' holds) (run_span go' fails) t1) (go fails.end e) (go' fails.end e)
      (either_match (going_on R (both k)) (before B holds (both one)) (before B fails (both two)) (is_so v) s1 t1 (run_span go holds) (run_span go' holds) (run_span go fails) (run_span go' fails)
      (λ x. into (both one) (going_on R (both k)) i1 (run_span go holds s1) (run_span go' holds t1) (span_match f i fails.end e holds one s1 t1 ih p1 le lf x))
      (λ x. into (both two) (going_on R (both k)) i2 (run_span go fails s1) (run_span go' fails t1) (span_match f i fails.end e fails two s1 t1 ih p2 le lf x)) q)
      (λ u v2 x. ih fails.end e k u v2 on (omega arith) x))))
  at_place f i e k s t ih lt lf r (ByLoop tested c c' test body step here there ahead le one two three p1 p2 p3 on i1 i2 i3 reads turning again top) =
      let R = before_place B step.end e (both k) in
      let go = quiet from old f in let go' = quiet from' new f in
      subst (λ o. Match (both k) (act from go o i e s) (act from' go' (slice_get new i) i e t)) (sym here)
      (subst (λ o. Match (both k) (act from go (Some (Loop tested c test body step)) i e s) (act from' go' o i e t)) (sym there)
      (then_match (both k) R (looped tested (λ s1. test_after from c (run_span go test s1)) (run_span go body) (run_span go step) s) (looped tested (λ s1. test_after from' c' (run_span go' test s1)) (run_span go' body) (run_span go' step) t) (go step.end e) (go' step.end e)
      (looped_match (both k) (before B test (both one)) (before B body (both two)) (before B step (both three)) R turning
      (λ s1. test_after from c (run_span go test s1)) (λ s1. test_after from' c' (run_span go' test s1)) (run_span go body) (run_span go' body) (run_span go step) (run_span go' step)
      (λ u v q. test_match from from' c c' (both k) (both one).next (before B body (both two)) R (run_span go test u) (run_span go' test v) (into (both one) (going_on (both one).next (both k)) i1 (run_span go test u) (run_span go' test v) (span_match f i step.end e test one u v ih p1 le lf q)) reads)
      (λ u v q. into (both two) (looping (before B step (both three)) R (both k)) i2 (run_span go body u) (run_span go' body v) (span_match f i step.end e body two u v ih p2 le lf q))
      (λ u v q. into (both three) (going_on (before B test (both one)) (both k)) i3 (run_span go step u) (run_span go' step v) (span_match f i step.end e step three u v ih p3 le lf q))
      tested again s t (top s t r))
      (λ u v q. ih step.end e k u v on (omega arith) q)))
  at_place f i e k s t ih lt lf r (ByCall body here there ahead le inner p on i1 top) =
      let R = before_place B body.end e (both k) in
      let go = quiet from old f in let go' = quiet from' new f in
      subst (λ o. Match (both k) (act from go o i e s) (act from' go' (slice_get new i) i e t)) (sym here)
      (subst (λ o. Match (both k) (act from go (Some (Call body)) i e s) (act from' go' o i e t)) (sym there)
      (then_match (both k) R (call_end (run_span go body s)) (call_end (run_span go' body t)) (go body.end e) (go' body.end e)
      (call_match (both k) R (run_span go body s) (run_span go' body t)
      (into (both inner) (calling R (both k)) i1 (run_span go body s) (run_span go' body t) (span_match f i body.end e body inner s t ih p le lf (top s t r))))
      (λ u v q. ih body.end e k u v on (omega arith) q)))

  pub follow : (f : ℕ) → Follow f
  follow zero i e k s t runs le r = at_end zero i e k s t (omega arith) r
  follow (suc f) i e k s t runs le r =
      ⊎_elim
      (λ lt. subst (λ o. Match (both k) o (quiet from' new (suc f) i e t)) (sym (quiet_more from old f i e s lt))
      (subst (λ o. Match (both k) (act from (quiet from old f) (slice_get old i) i e s) o) (sym (quiet_more from' new f i e t lt))
      (at_place f i e k s t (follow f) lt le (at_first i e (both k) s t lt r) (each i e k runs lt))))
      (λ ge. at_end (suc f) i e k s t ge r)
      (cases_lt i e)
