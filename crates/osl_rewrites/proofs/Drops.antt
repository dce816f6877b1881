-- An op whose symbol is dead after it may as well do nothing.
use Rattle.std.proofs.Common.{◌≡◌, ℕ, ◌+◌, ◌<◌, ◌≤◌, ◌⊎◌, inl, inr, ⊎_elim, List, [], ◌∷◌, length, Some, None, Bool, true, false, refl, sym, ap, ◌∙◌, subst, arith}
use Rattle.std.specs.Prelude.{slice_get, nat_lt, nat_eq, if◌then◌else◌}
use Rattle.std.proofs.lemmas.Bool.Decides.{eqb_tells}
use Rattle.osl_value.specs.declared.op_name.OpName.TheVariants.{Assign}
use Rattle.osl_value.specs.AnyValue.{AnyValue}
use Rattle.osl_value.specs.Apply.{apply}
use Rattle.oso_code.specs.Nesting.{IsClosed, IsInside, AreNested}
use Rattle.oso_code.specs.Run.{State, put, write, note, with_turns, Source, Own, Wired, Held, Sources, Gives, read, read_from, Outcome, with_value, then_do, arguments, call_end, act}
use Rattle.oso_code.specs.Steps.{Span, span, Way, Break, Continue, Return, Exit, Step, Compute, Branch, Loop, Call, Leave}
use Rattle.oso_code.specs.Uses.{reads_on_entry, reads_in_test, written_by}
use Rattle.oso_code.specs.declared.op.Section.{Section}
use Rattle.oso_code.proofs.Steady.{closed_later}
use Rattle.osl_rewrites.specs.Drop.{Agree, NoNewRead, ends_around, AllSure, MayGive, MayGiveAll, WiredOne, WiredAll, Spared, Stood, Died, Eased, Rewired, RewiredBranch, RewiredLoop}
use Rattle.osl_rewrites.specs.Flow.{left_to, first, entry, within_branch, within_test, within_step, within_body, within_call, IsAround, Surrounds, nexts_of, test_nexts, In, Among, Settled}
use Rattle.osl_rewrites.specs.declared.point.Around.{Around}
use Rattle.osl_rewrites.specs.declared.point.Spot.{Spot}
use Rattle.osl_rewrites.specs.declared.point.Spot.TheVariants.{At, Test}
use Rattle.osl_rewrites.specs.Quiet.{quiet}
use Rattle.osl_rewrites.specs.Side.{Relation, AtEnds, Match, MatchReading, going_on, looping, calling, Into, Turning, whether, before_place, before, Part, Place, ByStep, ByBranch, ByLoop, ByCall}
use Rattle.osl_rewrites.proofs.Held.{put_other}
use Rattle.osl_rewrites.proofs.Match.{weaken, with_match}
use Rattle.osl_rewrites.proofs.Side.{follow}

put_here : {X : Type 0} (k : ℕ) (v : X) (f g : ℕ → X) → put k v f k ≡ put k v g k
unfolding put
put_here k v f g = ⊎_elim (λ y. ap (λ b. if b then v else f k) y.0 ∙ sym (ap (λ b. if b then v else g k) y.0)) (λ n. absurd (n.1 refl)) (eqb_tells k k)

put_both : {X : Type 0} (k w : ℕ) (v : X) (f g : ℕ → X) → (k ≡ w) ⊎ (f k ≡ g k) → put w v f k ≡ put w v g k
unfolding put
put_both k w v f g (inl q) = subst (λ x. put w v f x ≡ put w v g x) (sym q) (put_here w v f g)
put_both k w v f g (inr q) = ap (λ x. if nat_eq k w then v else x) q

-- a note on both sides, and on the first alone
noted_both : (r : ℕ) (old new : ℕ → Bool) → ((k : ℕ) → new k ≡ true → old k ≡ true) → (k : ℕ) → put r true new k ≡ true → put r true old k ≡ true
unfolding put
noted_both r old new h k is = by (nat_eq k r) is
  where
    by : (b : Bool) → (if b then true else new k) ≡ true → (if b then true else old k) ≡ true
    by true q = refl
    by false q = h k q

noted_old : (r : ℕ) (old new : ℕ → Bool) → ((k : ℕ) → new k ≡ true → old k ≡ true) → (k : ℕ) → new k ≡ true → put r true old k ≡ true
unfolding put
noted_old r old new h k is = by (nat_eq k r)
  where
    by : (b : Bool) → (if b then true else old k) ≡ true
    by true = refl
    by false = h k is

pub agree_self : (row : ℕ → Bool) (s : State) → Agree row s s
agree_self row s = record { values = λ k h. refl; turns = refl; reads = λ k h. h }

pub narrow : (small large : ℕ → Bool) (s t : State) → ((k : ℕ) → small k ≡ true → large k ≡ true) → Agree large s t → Agree small s t
narrow small large s t h a = record { values = λ k q. a.values k (h k q); turns = a.turns; reads = a.reads }

no_new : (row : ℕ → Bool) (s t : State) → Agree row s t → NoNewRead s t
no_new row s t a = record { reads = a.reads }

note_both : (row : ℕ → Bool) (r : ℕ) (s t : State) → Agree row s t → Agree row (note r s) (note r t)
note_both row r s t a = record { values = a.values; turns = a.turns; reads = noted_both r s.reads t.reads a.reads }

note_old : (row : ℕ → Bool) (r : ℕ) (s t : State) → Agree row s t → Agree row (note r s) t
note_old row r s t a = record { values = a.values; turns = a.turns; reads = noted_old r s.reads t.reads a.reads }

read_agree : (rows : Spot → ℕ → Bool) (a : Around) (row : ℕ → Bool) (source : Source) (r : ℕ) (s t : State) → row r ≡ true → Agree row s t → MatchReading (ends_around rows a) (Agree row) (read_from source r s) (read_from source r t)
read_agree rows a row Own r s t h q = (t, ap (λ v. Gives v t) (sym (q.values r h)), q)
read_agree rows a row (Wired None) r s t h q = (note r t, refl, no_new row (note r s) (note r t) (note_both row r s t q))
read_agree rows a row (Wired (Some v)) r s t h q = (note r t, refl, note_both row r s t q)
read_agree rows a row (Held v) r s t h q = (t, refl, q)

-- reads of sure symbols, on one side only
may_read : (k : AtEnds) (row : ℕ → Bool) (source : Source) (r : ℕ) (s t : State) (go : AnyValue → State → Outcome) (o : Outcome) → (source ≡ Wired None → ⊥) → Agree row s t → ((v : AnyValue) (s1 : State) → MayGive source v → Agree row s1 t → Match k (go v s1) o) → Match k (with_value (read_from source r s) go) o
may_read k row Own r s t go o sure a h = h (s.values r) s tt a
may_read k row (Wired None) r s t go o sure a h = absurd (sure refl)
may_read k row (Wired (Some v)) r s t go o sure a h = h v (note r s) refl (note_old row r s t a)
may_read k row (Held v) r s t go o sure a h = h v s refl a

module _ (from : Sources) where
  may_args : (k : AtEnds) (row : ℕ → Bool) (rs : List ℕ) (s t : State) (go : List AnyValue → State → Outcome) (o : Outcome) → AllSure from rs → Agree row s t → ((vs : List AnyValue) (s1 : State) → MayGiveAll from rs vs → Agree row s1 t → Match k (go vs s1) o) → Match k (arguments from rs s go) o
  may_args k row [] s t go o sure a h = h [] s tt a
  may_args k row (r ∷ rs) s t go o sure a h =
      may_read k row (from r) r s t (λ v s1. arguments from rs s1 (λ vs s2. go (v ∷ vs) s2)) o sure.0 a
      (λ v s1 m b. may_args k row rs s1 t (λ vs s2. go (v ∷ vs) s2) o sure.1 b (λ vs s2 ms c. h (v ∷ vs) s2 (m, ms) c))

  wired_read : (rows : Spot → ℕ → Bool) (a : Around) (row : ℕ → Bool) (r q : ℕ) (s t : State) → row r ≡ true → WiredOne from r q → Agree row s t → MatchReading (ends_around rows a) (Agree row) (read from r s) (read from q t)
  wired_read rows a row r q s t h (inl e) g = subst (λ n. MatchReading (ends_around rows a) (Agree row) (read from r s) (read from n t)) e (read_agree rows a row (from r) r s t h g)
  wired_read rows a row r q s t h (inr (v, e1, e2)) g =
      subst (λ i. MatchReading (ends_around rows a) (Agree row) (read_from i r s) (read from q t)) (sym e1)
      (subst (λ i. MatchReading (ends_around rows a) (Agree row) (Gives v (note r s)) (read_from i q t)) (sym e2) (t, refl, note_old row r s t g))

  wired_args : (rows : Spot → ℕ → Bool) (a : Around) (row : ℕ → Bool) (rs qs : List ℕ) (s t : State) (go go' : List AnyValue → State → Outcome) → ((r : ℕ) → In r rs → row r ≡ true) → WiredAll from rs qs → Agree row s t → ((vs : List AnyValue) (s1 t1 : State) → Agree row s1 t1 → Match (ends_around rows a) (go vs s1) (go' vs t1)) → Match (ends_around rows a) (arguments from rs s go) (arguments from qs t go')
  wired_args rows a row [] [] s t go go' always wired g h = h [] s t g
  wired_args rows a row [] (q ∷ qs) s t go go' always wired g h = absurd wired
  wired_args rows a row (r ∷ rs) [] s t go go' always wired g h = absurd wired
  wired_args rows a row (r ∷ rs) (q ∷ qs) s t go go' always wired g h =
      with_match (ends_around rows a) (Agree row) (read from r s) (read from q t) (λ v s1. arguments from rs s1 (λ vs s2. go (v ∷ vs) s2)) (λ v s1. arguments from qs s1 (λ vs s2. go' (v ∷ vs) s2))
      (wired_read rows a row r q s t (always r (inl refl)) wired.0 g)
      (λ v s1 t1 b. wired_args rows a row rs qs s1 t1 (λ vs s2. go (v ∷ vs) s2) (λ vs s2. go' (v ∷ vs) s2) (λ x y. always x (inr y)) wired.1 b (λ vs s2 t2 c. h (v ∷ vs) s2 t2 c))

  wired_self : (rs : List ℕ) → WiredAll from rs rs
  wired_self [] = tt
  wired_self (r ∷ rs) = (inl refl, wired_self rs)

pick : (b : Bool) (row : Spot → ℕ → Bool) (i : ℕ) (a : Around) (s t : State) → Agree (row (if b then At i else a.next)) s t → whether b (Agree (row (At i)) s t) (Agree (row a.next) s t)
pick true row i a s t h = h
pick false row i a s t h = h

pick_back : (b : Bool) (row : Spot → ℕ → Bool) (i : ℕ) (a : Around) (s t : State) → whether b (Agree (row (At i)) s t) (Agree (row a.next) s t) → Agree (row (if b then At i else a.next)) s t
pick_back true row i a s t h = h
pick_back false row i a s t h = h

module _ (row : Spot → ℕ → Bool) where
  abbrev pub B : ℕ → Relation
  B n = Agree (row (At n))

  -- from a place, in the two ways to say it
  pub from_first : (i : ℕ) (a : Around) (s t : State) → Agree (row (first i a)) s t → before_place B i a.end (ends_around row a) s t
  from_first i a s t h = pick (nat_lt i a.end) row i a s t h

  pub first_from : (i : ℕ) (a : Around) (s t : State) → before_place B i a.end (ends_around row a) s t → Agree (row (first i a)) s t
  first_from i a s t h = pick_back (nat_lt i a.end) row i a s t h

  -- a part of an op runs into what follows the op
  into_next : (b : ℕ) (a : Around) (s : Span) (q : Spot) → q ≡ first b a → Into (ends_around row (record { end = s.end; next = q; breaks = a.breaks; continues = a.continues; returns = a.returns })) (going_on (before_place B b a.end (ends_around row a)) (ends_around row a))
  into_next b a s q is = record { next = λ u v r. from_first b a u v (subst (λ p. Agree (row p) u v) is r); jumps = left; spent = λ u v r. r }
    where
      left : (way : Way) (u v : State) → Agree (row (left_to (record { end = s.end; next = q; breaks = a.breaks; continues = a.continues; returns = a.returns }) way)) u v → Agree (row (left_to a way)) u v
      left Break u v r = r
      left Continue u v r = r
      left Return u v r = r
      left Exit u v r = r

  same_ways : (i : ℕ) (test : Span) (a : Around) → Into (ends_around row (within_test i test a)) (going_on (Agree (row (Test i))) (ends_around row a))
  same_ways i test a = record { next = λ u v r. r; jumps = left; spent = λ u v r. r }
    where
      left : (way : Way) (u v : State) → Agree (row (left_to (within_test i test a) way)) u v → Agree (row (left_to a way)) u v
      left Break u v r = r
      left Continue u v r = r
      left Return u v r = r
      left Exit u v r = r

  into_top : (i : ℕ) (test step : Span) (a : Around) → Into (ends_around row (within_step i test step a)) (going_on (before B test (ends_around row (within_test i test a))) (ends_around row a))
  into_top i test step a = record { next = λ u v r. from_first test.start (within_test i test a) u v r; jumps = left; spent = λ u v r. r }
    where
      left : (way : Way) (u v : State) → Agree (row (left_to (within_step i test step a) way)) u v → Agree (row (left_to a way)) u v
      left Break u v r = r
      left Continue u v r = r
      left Return u v r = r
      left Exit u v r = r

  out_of_loop : (i : ℕ) (test body step : Span) (a : Around) → Into (ends_around row (within_body i test body step a)) (looping (before B step (ends_around row (within_step i test step a))) (before_place B step.end a.end (ends_around row a)) (ends_around row a))
  out_of_loop i test body step a = record { next = λ u v r. from_first step.start (within_step i test step a) u v r; jumps = left; spent = λ u v r. r }
    where
      left : (way : Way) (u v : State) → Agree (row (left_to (within_body i test body step a) way)) u v → (looping (before B step (ends_around row (within_step i test step a))) (before_place B step.end a.end (ends_around row a)) (ends_around row a)).jumps way u v
      left Break u v r = from_first step.end a u v r
      left Continue u v r = from_first step.start (within_step i test step a) u v r
      left Return u v r = r
      left Exit u v r = r

  out_of_call : (body : Span) (a : Around) → Into (ends_around row (within_call body a)) (calling (before_place B body.end a.end (ends_around row a)) (ends_around row a))
  out_of_call body a = record { next = λ u v r. from_first body.end a u v r; jumps = left; spent = λ u v r. r }
    where
      left : (way : Way) (u v : State) → Agree (row (left_to (within_call body a) way)) u v → (calling (before_place B body.end a.end (ends_around row a)) (ends_around row a)).jumps way u v
      left Break u v r = from_first body.end a u v r
      left Continue u v r = from_first body.end a u v r
      left Return u v r = from_first body.end a u v r
      left Exit u v r = r

  turning : (i : ℕ) (a c : Around) → Turning (ends_around row c) (before_place B i a.end (ends_around row a))
  turning i a c = record {
    same = λ s t r. (first_from i a s t r).turns;
    none = λ s t r. no_new (row (first i a)) s t (first_from i a s t r);
    taken = λ n s t r. let q = first_from i a s t r in from_first i a (with_turns n s) (with_turns n t) (record { values = q.values; turns = refl; reads = q.reads });
  }

module _ (from : Sources) (old new : List Step) (sections : List Section) (nested : AreNested old) (around : ℕ → Around) (surrounds : Surrounds old sections around) (asked : ℕ → Bool) (row : Spot → ℕ → Bool) (settled : Settled old sections around asked row) where
  pub record RunsAs (i e : ℕ) (a : Around) : Type 0 where
    pub closed : IsClosed old i e
    pub within : e ≤ length old
    pub ends : a.end ≡ e
    pub holds : IsAround around i a

  -- the rows' conditions at the op at i
  at_reads : (i : ℕ) (step : Step) (k : ℕ) → slice_get old i ≡ Some step → In k (reads_on_entry step) → row (At i) k ≡ true
  at_reads i step k at h = settled.read (At i) k (subst (λ o. In k (elim o [ None ↦ [] | Some step ↦ reads_on_entry step ])) (sym at) h)

  at_pass : (i : ℕ) (step : Step) (q : Spot) (k : ℕ) → slice_get old i ≡ Some step → Among q (nexts_of i (around i) step) → (written_by step ≡ Some k → ⊥) → row q k ≡ true → row (At i) k ≡ true
  at_pass i step q k at h free r =
      settled.pass (At i) q k (subst (λ o. Among q (elim o [ None ↦ [] | Some step ↦ nexts_of i (around i) step ])) (sym at) h)
      (λ w. free (subst (λ o. elim o [ None ↦ None | Some step ↦ written_by step ] ≡ Some k) at w)) r

  test_read : (i : ℕ) (step : Step) (k : ℕ) → slice_get old i ≡ Some step → In k (reads_in_test step) → row (Test i) k ≡ true
  test_read i step k at h = settled.read (Test i) k (subst (λ o. In k (elim o [ None ↦ [] | Some step ↦ reads_in_test step ])) (sym at) h)

  test_pass : (i : ℕ) (step : Step) (q : Spot) (k : ℕ) → slice_get old i ≡ Some step → Among q (test_nexts i (around i) step) → row q k ≡ true → row (Test i) k ≡ true
  test_pass i step q k at h r =
      settled.pass (Test i) q k (subst (λ o. Among q (elim o [ None ↦ [] | Some step ↦ test_nexts i (around i) step ])) (sym at) h) (λ w. cc w) r

  -- to a spot that an op with no write leads to
  lead : (i : ℕ) (step : Step) (q : Spot) (s t : State) → slice_get old i ≡ Some step → Among q (nexts_of i (around i) step) → written_by step ≡ None → Agree (row (At i)) s t → Agree (row q) s t
  lead i step q s t at h none a = narrow (row q) (row (At i)) s t (λ k r. at_pass i step q k at h (λ w. cc (none, w)) r) a

  lead_test : (i : ℕ) (step : Step) (q : Spot) (s t : State) → slice_get old i ≡ Some step → Among q (test_nexts i (around i) step) → Agree (row (Test i)) s t → Agree (row q) s t
  lead_test i step q s t at h a = narrow (row q) (row (Test i)) s t (λ k r. test_pass i step q k at h r) a

  written : (i : ℕ) (name : _) (ty : _) (w : ℕ) (rs : List ℕ) (v : AnyValue) (s t : State) → slice_get old i ≡ Some (Compute name ty w rs) → Agree (row (At i)) s t → Agree (row (first (i + 1) (around i))) (write w v s) (write w v t)
  written i name ty w rs v s t at a = record {
    values = λ k r. put_both k w v s.values t.values (⊎_elim (λ y. inl y.1) (λ n. inr (a.values k (at_pass i (Compute name ty w rs) (first (i + 1) (around i)) k at (inl refl) (λ q. absurd (n.1 (cc q))) r))) (eqb_tells k w));
    turns = a.turns;
    reads = a.reads;
  }

  inside : (i next : ℕ) (s : Span) (c : Around) → IsInside old i next s → next ≤ length old → c.end ≡ s.end → IsAround around s.start c → Part Around RunsAs i next s c
  inside i next s c in_it le ends holds = let w = in_it.within in record { later = in_it.later; within = in_it.within; runs = record { closed = in_it.closed; within = omega (arith, w, le); ends = ends; holds = holds } }

  after_it : (i j e : ℕ) (a : Around) → i ≤ j → IsClosed old i e → e ≤ length old → a.end ≡ e → IsAround around j a → RunsAs j e a
  after_it i j e a le cl within ends holds = record { closed = closed_later old i j e le cl; within = within; ends = ends; holds = holds }

  abbrev At_i : ℕ → Type 0
  At_i i = Place from from old new Around (ends_around row) RunsAs (B row) i (around i).end (around i)

  at_branch : (i c c' : ℕ) (holds fails : Span) → slice_get old i ≡ Some (Branch c holds fails) → slice_get new i ≡ Some (Branch c' holds fails) → WiredOne from c c' → IsClosed old i (around i).end → (around i).end ≤ length old → i < (around i).end → At_i i
  at_branch i c c' holds fails at there wired cl within lt =
      let a = around i in let step = Branch c holds fails in let inner = surrounds.each i step at in let nest = nested.each i step at in
      let l : fails.end ≤ a.end = cl.ends i step (omega arith) lt at in let p = nest.1.later in let q = nest.1.ordered in
      let one = within_branch holds fails a in let two = within_branch fails fails a in
      ByBranch c c' holds fails at there (omega (arith, p, q)) l one two (inside i fails.end holds one nest.0 (omega (arith, l, within)) refl inner.0) (inside i fails.end fails two nest.1 (omega (arith, l, within)) refl inner.1)
      (after_it i fails.end a.end a (omega (arith, p, q)) cl within refl inner.2)
      (into_next row fails.end a holds (first fails.end a) refl) (into_next row fails.end a fails (first fails.end a) refl)
      (λ s t r. weaken (ends_around row a) (Agree (row (At i))) (λ s1 t1. before (B row) holds (ends_around row one) s1 t1 × before (B row) fails (ends_around row two) s1 t1)
      (λ s1 t1 g. (from_first row holds.start one s1 t1 (lead i step (entry holds one) s1 t1 at (inl refl) refl g), from_first row fails.start two s1 t1 (lead i step (entry fails two) s1 t1 at (inr (inl refl)) refl g)))
      (read from c s) (read from c' t) (wired_read from row a (row (At i)) c c' s t (at_reads i step c at (inl refl)) wired r))

  into_loop : (tested : Bool) (i c : ℕ) (test body step : Span) → slice_get old i ≡ Some (Loop tested c test body step) → (s t : State) → Agree (row (At i)) s t
      → whether tested (before (B row) test (ends_around row (within_test i test (around i))) s t) (before (B row) body (ends_around row (within_body i test body step (around i))) s t)
  into_loop true i c test body step at s t r = from_first row test.start (within_test i test (around i)) s t (lead i (Loop true c test body step) (entry test (within_test i test (around i))) s t at (inl refl) refl r)
  into_loop false i c test body step at s t r = from_first row body.start (within_body i test body step (around i)) s t (lead i (Loop false c test body step) (entry body (within_body i test body step (around i))) s t at (inl refl) refl r)

  at_loop : (tested : Bool) (i c c' : ℕ) (test body step : Span) → slice_get old i ≡ Some (Loop tested c test body step) → slice_get new i ≡ Some (Loop tested c' test body step) → WiredOne from c c' → IsClosed old i (around i).end → (around i).end ≤ length old → i < (around i).end → At_i i
  at_loop tested i c c' test body step at there wired cl within lt =
      let a = around i in let op = Loop tested c test body step in let inner = surrounds.each i op at in let nest = nested.each i op at in
      let l : step.end ≤ a.end = cl.ends i op (omega arith) lt at in let p = nest.2.later in let q = nest.2.ordered in
      let one = within_test i test a in let two = within_body i test body step a in let three = within_step i test step a in
      ByLoop tested c c' test body step at there (omega (arith, p, q)) l one two three
      (inside i step.end test one nest.0 (omega (arith, l, within)) refl inner.0) (inside i step.end body two nest.1 (omega (arith, l, within)) refl inner.1) (inside i step.end step three nest.2 (omega (arith, l, within)) refl inner.2)
      (after_it i step.end a.end a (omega (arith, p, q)) cl within refl inner.3)
      (same_ways row i test a) (out_of_loop row i test body step a) (into_top row i test step a)
      (λ s t r. weaken (ends_around row a) (Agree (row (Test i))) (λ s1 t1. before (B row) body (ends_around row two) s1 t1 × before_place (B row) step.end a.end (ends_around row a) s1 t1)
      (λ s1 t1 g. (from_first row body.start two s1 t1 (lead_test i op (entry body two) s1 t1 at (inl refl) g), from_first row step.end a s1 t1 (lead_test i op (first step.end a) s1 t1 at (inr (inl refl)) g)))
      (read from c s) (read from c' t) (wired_read from row a (row (Test i)) c c' s t (test_read i op c at (inl refl)) wired r))
      (turning row body.start two a) (turning row test.start one a) (into_loop tested i c test body step at)

  at_wired : (i : ℕ) (name : _) (ty : _) (w : ℕ) (rs qs : List ℕ) → slice_get old i ≡ Some (Compute name ty w rs) → slice_get new i ≡ Some (Compute name ty w qs) → WiredAll from rs qs → IsClosed old i (around i).end → (around i).end ≤ length old → i < (around i).end → At_i i
  at_wired i name ty w rs qs at there wired cl within lt =
      let a = around i in let op = Compute name ty w rs in
      ByStep op (Compute name ty w qs) at there (after_it i (i + 1) a.end a (omega arith) cl within refl (surrounds.each i op at))
      (λ go go' past on s t r. wired_args from row a (row (At i)) rs qs s t (λ vs s1. go (i + 1) a.end (write w (apply name ty vs) s1)) (λ vs s1. go' (i + 1) a.end (write w (apply name ty vs) s1)) (λ k h. at_reads i op k at h) wired r
      (λ vs s1 t1 b. on (write w (apply name ty vs) s1) (write w (apply name ty vs) t1) (from_first row (i + 1) a (write w (apply name ty vs) s1) (write w (apply name ty vs) t1) (written i name ty w rs (apply name ty vs) s1 t1 at b))))

  at_leave : (i : ℕ) (way : Way) → slice_get old i ≡ Some (Leave way) → slice_get new i ≡ Some (Leave way) → IsClosed old i (around i).end → (around i).end ≤ length old → i < (around i).end → At_i i
  at_leave i way at there cl within lt =
      ByStep (Leave way) (Leave way) at there (after_it i (i + 1) (around i).end (around i) (omega arith) cl within refl (surrounds.each i (Leave way) at))
      (λ go go' past on s t r. (t, refl, lead i (Leave way) (left_to (around i) way) s t at (inl refl) refl r))

  at_call : (i : ℕ) (body : Span) → slice_get old i ≡ Some (Call body) → slice_get new i ≡ Some (Call body) → IsClosed old i (around i).end → (around i).end ≤ length old → i < (around i).end → At_i i
  at_call i body at there cl within lt =
      let a = around i in let inner = surrounds.each i (Call body) at in let nest = nested.each i (Call body) at in
      let l : body.end ≤ a.end = cl.ends i (Call body) (omega arith) lt at in let p = nest.later in let q = nest.ordered in
      ByCall body at there (omega (arith, p, q)) l (within_call body a) (inside i body.end body (within_call body a) nest (omega (arith, l, within)) refl inner.0) (after_it i body.end a.end a (omega (arith, p, q)) cl within refl inner.1)
      (out_of_call row body a) (λ s t r. from_first row body.start (within_call body a) s t (lead i (Call body) (entry body (within_call body a)) s t at (inl refl) refl r))

  -- an op that is in both codes
  pub at_op : (i : ℕ) (step : Step) → slice_get old i ≡ Some step → slice_get new i ≡ Some step → IsClosed old i (around i).end → (around i).end ≤ length old → i < (around i).end → At_i i
  at_op i (Compute name ty w rs) at there cl within lt = at_wired i name ty w rs rs at there (wired_self from rs) cl within lt
  at_op i (Branch c holds fails) at there cl within lt = at_branch i c c holds fails at there (inl refl) cl within lt
  at_op i (Loop tested c test body step) at there cl within lt = at_loop tested i c c test body step at there (inl refl) cl within lt
  at_op i (Call body) at there cl within lt = at_call i body at there cl within lt
  at_op i (Leave way) at there cl within lt = at_leave i way at there cl within lt

  unwritten : (q : Spot) (w : ℕ) (v : AnyValue) (s t : State) → row q w ≡ false → Agree (row q) s t → Agree (row q) (write w v s) t
  unwritten q w v s t dead a = record {
    values = λ k r. put_other k w v s.values (λ z. let y : row q w ≡ true = subst (λ n. row q n ≡ true) z r in cc (dead, y)) ∙ a.values k r;
    turns = a.turns;
    reads = a.reads;
  }

  -- an op that is dead after it gives way to one that does nothing
  pub at_dead : (i : ℕ) (name : _) (ty : _) (w : ℕ) (rs : List ℕ) → slice_get old i ≡ Some (Compute name ty w rs) → slice_get new i ≡ Some (Call (span (i + 1) (i + 1))) → AllSure from rs → row (first (i + 1) (around i)) w ≡ false → IsClosed old i (around i).end → (around i).end ≤ length old → i < (around i).end → At_i i
  at_dead i name ty w rs at there sure dead cl within lt =
      let a = around i in let op = Compute name ty w rs in let q = first (i + 1) a in
      ByStep op (Call (span (i + 1) (i + 1))) at there (after_it i (i + 1) a.end a (omega arith) cl within refl (surrounds.each i op at))
      (λ go go' past on s t r. subst (λ o. Match (ends_around row a) (act from go (Some op) i a.end s) (then_do (call_end o) (go' (i + 1) a.end))) (sym (past (i + 1) t))
      (may_args from (ends_around row a) (row q) rs s t (λ vs s1. go (i + 1) a.end (write w (apply name ty vs) s1)) (go' (i + 1) a.end t) sure
      (narrow (row q) (row (At i)) s t (λ k h. at_pass i op q k at (inl refl) (λ e. let z : w ≡ k = cc e in let y : row q w ≡ true = subst (λ n. row q n ≡ true) (sym z) h in cc (dead, y)) h) r)
      (λ vs s1 m b. on (write w (apply name ty vs) s1) t (from_first row (i + 1) a (write w (apply name ty vs) s1) t (unwritten q w (apply name ty vs) s1 t dead b)))))

  -- an op that has one value, whatever its arguments
  at_eased : (i : ℕ) (name : _) (ty : _) (w : ℕ) (rs : List ℕ) (c : ℕ) (v : AnyValue) → slice_get old i ≡ Some (Compute name ty w rs) → slice_get new i ≡ Some (Compute Assign ty w (c ∷ [])) → AllSure from rs → from c ≡ Held v → ((vs : List AnyValue) → MayGiveAll from rs vs → apply name ty vs ≡ apply Assign ty (v ∷ [])) → IsClosed old i (around i).end → (around i).end ≤ length old → i < (around i).end → At_i i
  at_eased i name ty w rs c v at there sure is one cl within lt =
      let a = around i in let op = Compute name ty w rs in let u = apply Assign ty (v ∷ []) in
      ByStep op (Compute Assign ty w (c ∷ [])) at there (after_it i (i + 1) a.end a (omega arith) cl within refl (surrounds.each i op at))
      (λ go go' past on s t r. subst (λ x. Match (ends_around row a) (act from go (Some op) i a.end s) (with_value (read_from x c t) (λ v1 t1. go' (i + 1) a.end (write w (apply Assign ty (v1 ∷ [])) t1)))) (sym is)
      (may_args from (ends_around row a) (row (At i)) rs s t (λ vs s1. go (i + 1) a.end (write w (apply name ty vs) s1)) (go' (i + 1) a.end (write w u t)) sure r
      (λ vs s1 m b. subst (λ x. Match (ends_around row a) (go (i + 1) a.end (write w x s1)) (go' (i + 1) a.end (write w u t))) (sym (one vs m))
      (on (write w u s1) (write w u t) (from_first row (i + 1) a (write w u s1) (write w u t) (written i name ty w rs u s1 t at b))))))

  at_spared : (i : ℕ) → Spared from around row old new i → IsClosed old i (around i).end → (around i).end ≤ length old → i < (around i).end → At_i i
  at_spared i (Stood step at there) cl within lt = at_op i step at there cl within lt
  at_spared i (Died name ty w rs at there sure dead) cl within lt = at_dead i name ty w rs at there sure dead cl within lt
  at_spared i (Eased name ty w rs c v at there sure is one) cl within lt = at_eased i name ty w rs c v at there sure is one cl within lt
  at_spared i (Rewired name ty w rs qs at there wired) cl within lt = at_wired i name ty w rs qs at there wired cl within lt
  at_spared i (RewiredBranch c c' holds fails at there wired) cl within lt = at_branch i c c' holds fails at there wired cl within lt
  at_spared i (RewiredLoop tested c c' test body step at there wired) cl within lt = at_loop tested i c c' test body step at there wired cl within lt

  module _ (spared : (i : ℕ) → i < length old → Spared from around row old new i) where
    each : (i e : ℕ) (a : Around) → RunsAs i e a → i < e → Place from from old new Around (ends_around row) RunsAs (B row) i e a
    each i e a runs lt =
        let z = runs.ends in let w = runs.within in
        let q : around i ≡ a = runs.holds (omega (arith, z, lt)) in
        let en : (around i).end ≡ e = ap (λ c. c.end) q ∙ runs.ends in
        subst (λ n. Place from from old new Around (ends_around row) RunsAs (B row) i n a) runs.ends
        (subst (λ c. Place from from old new Around (ends_around row) RunsAs (B row) i c.end c) q
        (at_spared i (spared i (omega (arith, w, lt))) (subst (λ n. IsClosed old i n) (sym en) runs.closed) (omega (arith, en, w)) (omega (arith, en, lt))))

    -- a range of the old code, and the same range of the new
    pub dead_run : (f i e : ℕ) (a : Around) (s t : State) → RunsAs i e a → e ≤ f + i → Agree (row (first i a)) s t → Match (ends_around row a) (quiet from old f i e s) (quiet from new f i e t)
    dead_run f i e a s t runs lf agree =
        follow from from old new Around (ends_around row) RunsAs (B row) each f i e a s t runs lf (subst (λ n. before_place (B row) i n (ends_around row a) s t) runs.ends (from_first row i a s t agree))
