-- After the one assign of a held symbol its target may as well be read as that symbol.
use Rattle.std.proofs.Common.{◌≡◌, ℕ, ◌+◌, ◌<◌, ◌≤◌, ◌⊎◌, inl, inr, ⊎_elim, List, [], ◌∷◌, length, Some, None, Bool, true, false, refl, sym, ap, ◌∙◌, subst, arith}
use Rattle.std.specs.Prelude.{slice_get, nat_lt, nat_eq, if◌then◌else◌}
use Rattle.std.proofs.lemmas.Bool.{lt-ltb, ltb-true, cases_lt}
use Rattle.std.proofs.lemmas.Bool.Decides.{eqb_tells}
use Rattle.osl_value.specs.declared.op_name.OpName.TheVariants.{Assign}
use Rattle.osl_value.specs.AnyValue.{AnyValue, type_of}
use Rattle.osl_value.specs.Apply.{apply}
use Rattle.osl_value.proofs.TableLaws.{copies_its_type}
use Rattle.oso_code.specs.Nesting.{after, IsClosed, IsInside, AreNested}
use Rattle.oso_code.specs.Run.{State, put, write, note, with_turns, Source, Own, Wired, Held, Sources, Gives, read, read_from, Outcome, with_value, arguments, Next, Jumps, Spent}
use Rattle.oso_code.specs.Steps.{Span, Way, Break, Continue, Return, Exit, Step, Compute, Branch, Loop, Call, Leave}
use Rattle.oso_code.proofs.Steady.{closed_later}
use Rattle.osl_rewrites.specs.Once.{Once, CopiedOne, CopiedAll, CopyFate, Stood, Reread, RereadBranch, RereadLoop}
use Rattle.osl_rewrites.specs.Quiet.{quiet}
use Rattle.osl_rewrites.specs.Side.{Relation, AtEnds, Match, MatchReading, going_on, looping, calling, Into, Turning, whether, before_place, before, Part, Place, ByStep, ByBranch, ByLoop, ByCall}
use Rattle.osl_rewrites.proofs.Held.{put_other}
use Rattle.osl_rewrites.proofs.Match.{weaken, with_match}
use Rattle.osl_rewrites.proofs.Side.{follow}

put_is : {X : Type 0} (k : ℕ) (v : X) (f : ℕ → X) → put k v f k ≡ v
unfolding put
put_is k v f = ⊎_elim (λ y. ap (λ b. if b then v else f k) y.0) (λ n. absurd (n.1 refl)) (eqb_tells k k)

module _ (from : Sources) (old new : List Step) (nested : AreNested old) (p k c : ℕ) (v : AnyValue) (once : Once from old p k c v) where
  -- one state, in which the symbol has its value if that is said
  pub record R (past : Bool) (s t : State) : Type 0 where
    pub one : s ≡ t
    pub knows : past ≡ true → s.values k ≡ v

  abbrev at : ℕ → Bool
  at i = nat_lt p i

  abbrev B : ℕ → Relation
  B i = R (at i)

  abbrev both : Bool → AtEnds
  both b = record { next = R b; jumps = λ way. R b; spent = R false }

  weaker : (a b : Bool) (s t : State) → (b ≡ true → a ≡ true) → R a s t → R b s t
  weaker a b s t h r = record { one = r.one; knows = λ q. r.knows (h q) }

  pub record Runs (i e : ℕ) (past : Bool) : Type 0 where
    pub closed : IsClosed old i e
    pub within : e ≤ length old
    pub passed : past ≡ true → p < i

  is_at : (i : ℕ) → p < i → at i ≡ true
  is_at i lt = lt-ltb p i lt

  at_is : (i : ℕ) → at i ≡ true → p < i
  at_is i h = ltb-true p i h

  -- into a range at j from within the op at i, and back
  enter_by : (b : Bool) (i j : ℕ) (a : Bool) (s t : State) → (at j ≡ true → a ≡ true) → R a s t → whether b (B j s t) (R a s t)
  enter_by true i j a s t h r = weaker a (nat_lt p j) s t h r
  enter_by false i j a s t h r = r

  leave_by : (b : Bool) (j : ℕ) (a : Bool) (s t : State) → (a ≡ true → at j ≡ true) → whether b (B j s t) (R a s t) → R a s t
  leave_by true j a s t h r = weaker (nat_lt p j) a s t h r
  leave_by false j a s t h r = r

  read_copied : (i r q : ℕ) (s t : State) → (r ≡ q) ⊎ ((p < i) × (r ≡ k) × (q ≡ c)) → (b : Bool) → R (at i) s t → MatchReading (both b) (R (at i)) (read from r s) (read from q t)
  read_copied i r q s t (inl e) b g = subst (λ n. MatchReading (both b) (R (at i)) (read from r s) (read from n t)) e (by (from r))
    where
      by : (source : Source) → MatchReading (both b) (R (at i)) (read_from source r s) (read_from source r t)
      by Own = (t, ap (λ x. Gives (x.values r) t) (sym g.one), g)
      by (Wired None) = (note r t, refl, record { one = ap (note r) g.one; knows = λ x. absurd (cc x) })
      by (Wired (Some u)) = (note r t, refl, record { one = ap (note r) g.one; knows = g.knows })
      by (Held u) = (t, refl, g)
  read_copied i r q s t (inr (lt, e1, e2)) b g =
      subst (λ n. MatchReading (both b) (R (at i)) (read from n s) (read from q t)) (sym e1)
      (subst (λ n. MatchReading (both b) (R (at i)) (read from k s) (read from n t)) (sym e2)
      (subst (λ x. MatchReading (both b) (R (at i)) (read_from x k s) (read from c t)) (sym once.own)
      (subst (λ x. MatchReading (both b) (R (at i)) (Gives (s.values k) s) (read_from x c t)) (sym once.held)
      (t, ap (λ u. Gives u t) (sym (g.knows (is_at i lt))), g))))

  args_copied : (i : ℕ) (b : Bool) (rs qs : List ℕ) (s t : State) (go go' : List AnyValue → State → Outcome) → (rs ≡ qs) ⊎ ((p < i) × CopiedAll k c rs qs) → R (at i) s t → ((vs : List AnyValue) (x y : State) → R (at i) x y → Match (both b) (go vs x) (go' vs y)) → Match (both b) (arguments from rs s go) (arguments from qs t go')
  args_copied i b rs qs s t go go' (inl e) r h = subst (λ n. Match (both b) (arguments from rs s go) (arguments from n t go')) e (same rs s t go go' r h)
    where
      same : (rs : List ℕ) (s t : State) (go go' : List AnyValue → State → Outcome) → R (at i) s t → ((vs : List AnyValue) (x y : State) → R (at i) x y → Match (both b) (go vs x) (go' vs y)) → Match (both b) (arguments from rs s go) (arguments from rs t go')
      same [] s t go go' r h = h [] s t r
      same (x ∷ rs) s t go go' r h =
          with_match (both b) (R (at i)) (read from x s) (read from x t) (λ v s1. arguments from rs s1 (λ vs s2. go (v ∷ vs) s2)) (λ v s1. arguments from rs s1 (λ vs s2. go' (v ∷ vs) s2)) (read_copied i x x s t (inl refl) b r)
          (λ v y z q. same rs y z (λ vs s2. go (v ∷ vs) s2) (λ vs s2. go' (v ∷ vs) s2) q (λ vs m n o. h (v ∷ vs) m n o))
  args_copied i b [] [] s t go go' (inr q) r h = h [] s t r
  args_copied i b [] (y ∷ qs) s t go go' (inr q) r h = absurd q.1
  args_copied i b (x ∷ rs) [] s t go go' (inr q) r h = absurd q.1
  args_copied i b (x ∷ rs) (y ∷ qs) s t go go' (inr (lt, always)) r h =
      with_match (both b) (R (at i)) (read from x s) (read from y t) (λ v s1. arguments from rs s1 (λ vs s2. go (v ∷ vs) s2)) (λ v s1. arguments from qs s1 (λ vs s2. go' (v ∷ vs) s2))
      (read_copied i x y s t (⊎_elim (λ e. inl e) (λ e. inr (lt, e.0, e.1)) always.0) b r)
      (λ v m n g. args_copied i b rs qs m n (λ vs s2. go (v ∷ vs) s2) (λ vs s2. go' (v ∷ vs) s2) (inr (lt, always.1)) g (λ vs d e o. h (v ∷ vs) d e o))

  -- ranges of the op at i, in the context at i; what follows it goes on in b
  module _ (i e : ℕ) (b : Bool) (runs : Runs i e b) (other : i ≡ p → ⊥) where
    known_here : b ≡ true → at i ≡ true
    known_here q = is_at i (runs.passed q)

    -- a later place is past the assign just where the op is, if it lies before the assign's place or after the op
    Later : ℕ → Type 0
    Later j = (i < j) × (p < j → p < i)

    enters : (j x : ℕ) (s t : State) → Later j → R (at i) s t → before_place B j x (both (at i)) s t
    unfolding Later
    enters j x s t h r = enter_by (nat_lt j x) i j (at i) s t (λ q. is_at i (h.1 (at_is j q))) r

    goes_on : (j : ℕ) (s t : State) → Later j → R (at i) s t → before_place B j e (both b) s t
    unfolding Later
    goes_on j s t h r = by (nat_lt j e)
      where
        by : (a : Bool) → whether a (B j s t) (R b s t)
        by true = weaker (at i) (at j) s t (λ q. is_at i (h.1 (at_is j q))) r
        by false = weaker (at i) b s t known_here r

    comes : (j x : ℕ) (s t : State) → Later j → before_place B j x (both (at i)) s t → R (at i) s t
    unfolding Later
    comes j x s t h r = leave_by (nat_lt j x) j (at i) s t (λ q. let lt = at_is i q in let l = h.0 in is_at j (omega (arith, lt, l))) r

    into_rest : (j : ℕ) → Later j → Into (both (at i)) (going_on (before_place B j e (both b)) (both b))
    into_rest j h = record { next = λ s t r. goes_on j s t h r; jumps = λ way s t r. weaker (at i) b s t known_here r; spent = λ s t r. r }

    into_loop : (j m : ℕ) (step : Span) → Later step.start → Later m → Into (both (at i)) (looping (before B step (both (at i))) (before_place B m e (both b)) (both b))
    into_loop j m step h g = record { next = λ s t r. enters step.start step.end s t h r; jumps = left; spent = λ s t r. r }
      where
        left : (way : Way) (s t : State) → R (at i) s t → (looping (before B step (both (at i))) (before_place B m e (both b)) (both b)).jumps way s t
        left Break s t r = goes_on m s t g r
        left Continue s t r = enters step.start step.end s t h r
        left Return s t r = weaker (at i) b s t known_here r
        left Exit s t r = weaker (at i) b s t known_here r

    into_call : (m : ℕ) → Later m → Into (both (at i)) (calling (before_place B m e (both b)) (both b))
    into_call m g = record { next = λ s t r. goes_on m s t g r; jumps = left; spent = λ s t r. r }
      where
        left : (way : Way) (s t : State) → R (at i) s t → (calling (before_place B m e (both b)) (both b)).jumps way s t
        left Break s t r = goes_on m s t g r
        left Continue s t r = goes_on m s t g r
        left Return s t r = goes_on m s t g r
        left Exit s t r = weaker (at i) b s t known_here r

    turning : (j x : ℕ) → Later j → Turning (both b) (before_place B j x (both (at i)))
    turning j x h = record {
      same = λ s t r. ap (λ y. y.turns) (comes j x s t h r).one;
      none = λ s t r. weaker (at i) false s t (λ q. absurd (cc q)) (comes j x s t h r);
      taken = λ n s t r. let q = comes j x s t h r in enters j x (with_turns n s) (with_turns n t) h (record { one = ap (with_turns n) q.one; knows = q.knows });
    }

    Here : Type 0
    Here = Place from from old new Bool both Runs B i e b

    -- where an op's range begins, or what follows it
    later : (step : Step) (j : ℕ) → slice_get old i ≡ Some step → i < j → j ≤ after i step → Later j
    unfolding Later
    later step j is lt le = (lt, λ q. ⊎_elim (λ (x : i < p). absurd (let h = once.outside i step x is in omega (arith, h, le, q))) (λ (x : p ≤ i). ⊎_elim (λ (y : p < i). y) (λ (y : i ≤ p). absurd (other (omega (arith, x, y)))) (cases_lt p i)) (cases_lt i p))

    part : (next : ℕ) (s : Span) → IsInside old i next s → next ≤ e → Part Bool Runs i next s (at i)
    part next s o le = let a = o.later in let w = o.within in let x = runs.within in record { later = a; within = w; runs = record { closed = o.closed; within = omega (arith, w, le, x); passed = λ q. let lt = at_is i q in omega (arith, lt, a) } }

    on : (j : ℕ) → i ≤ j → Runs j e b
    on j le = record { closed = closed_later old i j e le runs.closed; within = runs.within; passed = λ q. let lt = runs.passed q in omega (arith, lt, le) }

    at_compute : (name : _) (ty : _) (target : ℕ) (rs qs : List ℕ) → slice_get old i ≡ Some (Compute name ty target rs) → slice_get new i ≡ Some (Compute name ty target qs) → (rs ≡ qs) ⊎ ((p < i) × CopiedAll k c rs qs) → Here
    unfolding Here
    at_compute name ty target rs qs here there copied =
        ByStep (Compute name ty target rs) (Compute name ty target qs) here there (on (i + 1) (omega arith))
        (λ go go' past h s t r. args_copied i b rs qs s t (λ vs s1. go (i + 1) e (write target (apply name ty vs) s1)) (λ vs s1. go' (i + 1) e (write target (apply name ty vs) s1)) copied r
        (λ vs x y q. h (write target (apply name ty vs) x) (write target (apply name ty vs) y)
        (goes_on (i + 1) (write target (apply name ty vs) x) (write target (apply name ty vs) y) (later (Compute name ty target rs) (i + 1) here (omega arith) (omega arith))
        (record { one = ap (write target (apply name ty vs)) q.one; knows = λ z. put_other k target (apply name ty vs) x.values (once.only i name ty target rs other here) ∙ q.knows z }))))

    at_branch : (r q : ℕ) (holds fails : Span) → slice_get old i ≡ Some (Branch r holds fails) → slice_get new i ≡ Some (Branch q holds fails) → (r ≡ q) ⊎ ((p < i) × (r ≡ k) × (q ≡ c)) → i < e → Here
    unfolding Here
    at_branch r q holds fails here there copied lt =
        let n = nested.each i (Branch r holds fails) here in let l : fails.end ≤ e = runs.closed.ends i (Branch r holds fails) (omega arith) lt here in
        let x = n.1.later in let y = n.1.ordered in let x0 = n.0.later in let w0 = n.0.within in let y0 = n.0.ordered in
        let l1 = later (Branch r holds fails) holds.start here x0 (omega (arith, y0, w0)) in let l2 = later (Branch r holds fails) fails.start here x y in
        let l3 = later (Branch r holds fails) fails.end here (omega (arith, x, y)) (omega arith) in
        ByBranch r q holds fails here there (omega (arith, x, y)) l (at i) (at i) (part fails.end holds n.0 l) (part fails.end fails n.1 l) (on fails.end (omega (arith, x, y))) (into_rest fails.end l3) (into_rest fails.end l3)
        (λ s t g. weaken (both b) (R (at i)) (λ s1 t1. before B holds (both (at i)) s1 t1 × before B fails (both (at i)) s1 t1) (λ s1 t1 z. (enters holds.start holds.end s1 t1 l1 z, enters fails.start fails.end s1 t1 l2 z)) (read from r s) (read from q t) (read_copied i r q s t copied b g))

    entered : (tested : Bool) (test body : Span) → Later test.start → Later body.start → (s t : State) → B i s t → whether tested (before B test (both (at i)) s t) (before B body (both (at i)) s t)
    entered true test body h g s t r = enters test.start test.end s t h r
    entered false test body h g s t r = enters body.start body.end s t g r

    at_loop : (tested : Bool) (r q : ℕ) (test body step : Span) → slice_get old i ≡ Some (Loop tested r test body step) → slice_get new i ≡ Some (Loop tested q test body step) → (r ≡ q) ⊎ ((p < i) × (r ≡ k) × (q ≡ c)) → i < e → Here
    unfolding Here
    at_loop tested r q test body step here there copied lt =
        let op = Loop tested r test body step in
        let n = nested.each i op here in let l : step.end ≤ e = runs.closed.ends i op (omega arith) lt here in
        let x = n.2.later in let y = n.2.ordered in let x0 = n.0.later in let y0 = n.0.ordered in let w0 = n.0.within in let x1 = n.1.later in let y1 = n.1.ordered in let w1 = n.1.within in
        let l0 = later op test.start here x0 (omega (arith, y0, w0)) in let l1 = later op body.start here x1 (omega (arith, y1, w1)) in let l2 = later op step.start here x y in let l3 = later op step.end here (omega (arith, x, y)) (omega arith) in
        ByLoop tested r q test body step here there (omega (arith, x, y)) l (at i) (at i) (at i) (part step.end test n.0 l) (part step.end body n.1 l) (part step.end step n.2 l) (on step.end (omega (arith, x, y)))
        (record { next = λ s t g. g; jumps = λ way s t g. weaker (at i) b s t known_here g; spent = λ s t g. g }) (into_loop body.start step.end step l2 l3)
        (record { next = λ s t g. enters test.start test.end s t l0 g; jumps = λ way s t g. weaker (at i) b s t known_here g; spent = λ s t g. g })
        (λ s t g. weaken (both b) (R (at i)) (λ s1 t1. before B body (both (at i)) s1 t1 × before_place B step.end e (both b) s1 t1) (λ s1 t1 z. (enters body.start body.end s1 t1 l1 z, goes_on step.end s1 t1 l3 z)) (read from r s) (read from q t) (read_copied i r q s t copied b g))
        (turning body.start body.end l1) (turning test.start test.end l0) (entered tested test body l0 l1)

    at_call : (body : Span) → slice_get old i ≡ Some (Call body) → slice_get new i ≡ Some (Call body) → i < e → Here
    unfolding Here
    at_call body here there lt =
        let n = nested.each i (Call body) here in let l : body.end ≤ e = runs.closed.ends i (Call body) (omega arith) lt here in let x = n.later in let y = n.ordered in
        ByCall body here there (omega (arith, x, y)) l (at i) (part body.end body n l) (on body.end (omega (arith, x, y))) (into_call body.end (later (Call body) body.end here (omega (arith, x, y)) (omega arith)))
        (λ s t r. enters body.start body.end s t (later (Call body) body.start here x y) r)

    at_leave : (way : Way) → slice_get old i ≡ Some (Leave way) → slice_get new i ≡ Some (Leave way) → Here
    unfolding Here
    at_leave way here there = ByStep (Leave way) (Leave way) here there (on (i + 1) (omega arith)) (λ go go' past h s t r. (t, refl, weaker (at i) b s t known_here r))

    stood : (step : Step) → slice_get old i ≡ Some step → slice_get new i ≡ Some step → i < e → Here
    stood (Compute name ty target rs) here there lt = at_compute name ty target rs rs here there (inl refl)
    stood (Branch r holds fails) here there lt = at_branch r r holds fails here there (inl refl) lt
    stood (Loop tested r test body step) here there lt = at_loop tested r r test body step here there (inl refl) lt
    stood (Call body) here there lt = at_call body here there lt
    stood (Leave way) here there lt = at_leave way here there

    one_of : (r q : ℕ) → p < i → CopiedOne k c r q → (r ≡ q) ⊎ ((p < i) × (r ≡ k) × (q ≡ c))
    one_of r q lt (inl e) = inl e
    one_of r q lt (inr (e1, e2)) = inr (lt, e1, e2)

    by_fate : CopyFate k c p old new i → i < e → Here
    by_fate (Stood step here there) lt = stood step here there lt
    by_fate (Reread name ty target rs qs here there past copied) lt = at_compute name ty target rs qs here there (inr (past, copied))
    by_fate (RereadBranch r q holds fails here there past copied) lt = at_branch r q holds fails here there (one_of r q past copied) lt
    by_fate (RereadLoop tested r q test body step here there past copied) lt = at_loop tested r q test body step here there (one_of r q past copied) lt

  -- the assign itself
  at_assign : (e : ℕ) (b : Bool) → Runs p e b → slice_get new p ≡ Some (Compute Assign (type_of v) k (c ∷ [])) → Place from from old new Bool both Runs B p e b
  at_assign e b runs there =
      ByStep (Compute Assign (type_of v) k (c ∷ [])) (Compute Assign (type_of v) k (c ∷ [])) once.assign there
      (record { closed = closed_later old p (p + 1) e (omega arith) runs.closed; within = runs.within; passed = λ q. let lt = runs.passed q in absurd (omega (arith, lt)) })
      (λ go go' past h s t r.
      subst (λ x. Match (both b) (with_value (read_from x c s) (λ u s1. go (p + 1) e (write k (apply Assign (type_of v) (u ∷ [])) s1))) (with_value (read_from x c t) (λ u s1. go' (p + 1) e (write k (apply Assign (type_of v) (u ∷ [])) s1)))) (sym once.held)
      (h (write k (apply Assign (type_of v) (v ∷ [])) s) (write k (apply Assign (type_of v) (v ∷ [])) t)
      (by (nat_lt (p + 1) e) (write k (apply Assign (type_of v) (v ∷ [])) s) (write k (apply Assign (type_of v) (v ∷ [])) t) (ap (write k (apply Assign (type_of v) (v ∷ []))) r.one) (put_is k (apply Assign (type_of v) (v ∷ [])) s.values ∙ copies_its_type v))))
    where
      by : (a : Bool) (s t : State) → s ≡ t → s.values k ≡ v → whether a (B (p + 1) s t) (R b s t)
      by true s t q w = record { one = q; knows = λ z. w }
      by false s t q w = record { one = q; knows = λ z. w }

  module _ (fates : (i : ℕ) → i < length old → CopyFate k c p old new i) (stays : slice_get new p ≡ Some (Compute Assign (type_of v) k (c ∷ []))) where
    each : (i e : ℕ) (b : Bool) → Runs i e b → i < e → Place from from old new Bool both Runs B i e b
    unfolding Here
    each i e b runs lt =
        ⊎_elim (λ (y : (nat_eq i p ≡ true) × (i ≡ p)). subst (λ n. Runs n e b → Place from from old new Bool both Runs B n e b) (sym y.1) (λ r. at_assign e b r stays) runs)
        (λ n. by_fate i e b runs n.1 (fates i (let w = runs.within in omega (arith, w, lt))) lt) (eqb_tells i p)

    pub copy_run : (f i e : ℕ) (s : State) → IsClosed old i e → e ≤ length old → i ≤ p → e ≤ f + i → Match (both false) (quiet from old f i e s) (quiet from new f i e s)
    copy_run f i e s cl within le lf =
        follow from from old new Bool both Runs B each f i e false s s (record { closed = cl; within = within; passed = λ q. absurd (cc q) }) lf (start (nat_lt i e))
      where
        start : (a : Bool) → whether a (B i s s) (R false s s)
        start true = record { one = refl; knows = λ q. absurd (let z = at_is i q in omega (arith, z, le)) }
        start false = record { one = refl; knows = λ q. absurd (cc q) }

-- the same end, in one state
same_end : (from : Sources) (old new : List Step) (nested : AreNested old) (p k c : ℕ) (v : AnyValue) (once : Once from old p k c v) (o o' : Outcome) → Match (both from old new nested p k c v once false) o o' → o ≡ o'
same_end from old new nested p k c v once (Next s) o' (t, is, r) = ap Next r.one ∙ sym is
same_end from old new nested p k c v once (Jumps way s) o' (t, is, r) = ap (Jumps way) r.one ∙ sym is
same_end from old new nested p k c v once (Spent s) o' (t, is, r) = ap Spent r.one ∙ sym is

pub copies_same : (from : Sources) (old new : List Step) (p k c : ℕ) (v : AnyValue) (f i e : ℕ) (s : State) → AreNested old → Once from old p k c v → ((j : ℕ) → j < length old → CopyFate k c p old new j)
    → slice_get new p ≡ Some (Compute Assign (type_of v) k (c ∷ [])) → IsClosed old i e → e ≤ length old → i ≤ p → e ≤ f + i → quiet from old f i e s ≡ quiet from new f i e s
copies_same from old new p k c v f i e s nested once fates stays closed within before bound =
    same_end from old new nested p k c v once (quiet from old f i e s) (quiet from new f i e s) (copy_run from old new nested p k c v once fates stays f i e s closed within before bound)
