-- The facts on numbers and the slot.
use Rattle.std.proofs.Common.{◌≡◌, ℕ, ◌+◌, ◌-◌, ◌<◌, ◌≤◌, ◌≢◌, inl, inr, ⊎_elim, eqb, cond, List, set, sym, refl, ap, ◌∙◌, subst, arith, eq-eqb, ne_eqb, sum_by}
use mathlib.Core.Option as maybe
use mathlib.Core.Logic.{dite}
use native.Mathlib.Decide.{ℕ_discrete}
use lib.ListN.{get_elem?}
use Rattle.atomic_table.proofs.Lists.{at_set}
use Rattle.osl_turnlock.specs.declared.board.Known.{Known}
use Rattle.osl_turnlock.specs.declared.board.Stage.{Stage}
use Rattle.osl_turnlock.specs.declared.board.Stage.TheVariants.{Idle, Waiting, Inside, Leaving}
use Rattle.osl_turnlock.specs.Views.{busy, carries, has, busy_of, carries_of, parts_of, stage_of}
use Rattle.osl_turnlock.specs.Rule.{Homes, Served, Lies, home, away, Numbered}
use Rattle.osl_turnlock.proofs.Stages.{busy_most, carrier, not_inside, served_next}
use Rattle.osl_turnlock.proofs.Totals.{sum_set, sum_at, sum_two, sum_le, sum_some}

module _ {E B : Type 0} where
  pub has_hit : (n : ℕ) (v : Known E B) → v.number ≡ n → has n v ≡ busy v.stage
  has_hit n v e = ap (λ b. cond b (busy v.stage) 0) (eq-eqb v.number n e)

  pub has_miss : (n : ℕ) (v : Known E B) → v.number ≢ n → has n v ≡ 0
  has_miss n v e = ap (λ b. cond b (busy v.stage) 0) (ne_eqb v.number n e)

  pub has_none : (n : ℕ) (v : Known E B) → busy v.stage ≡ 0 → has n v ≡ 0
  has_none n v e = dite (ℕ_discrete v.number n) (λ hit. has_hit n v hit ∙ e) (λ miss. has_miss n v miss)

module _ {T E B : Type 0} (seats turn waits : ℕ) (homes : Homes T) (views : List (Known E B)) (r : Numbered seats turn waits homes views) where
  -- there are never more numbers out than seats
  pub few_waits : waits ≤ 1024
  few_waits =
      let each : (id : ℕ) (v : Known E B) → get_elem? views id ≡ maybe.some v → busy_of v ≤ parts_of v =
      λ id v at. dite (ℕ_discrete v.parts 0) (λ none. let is : busy v.stage ≡ 0 = ap busy (r.resting id v at none) in omega arith) (λ some. let most = busy_most v.stage in omega arith) in
      let le = sum_le busy_of parts_of views each in let a = r.waiting in let b = r.shared in let c = r.few in omega arith

  module _ (id : ℕ) (v w : Known E B) (at : get_elem? views id ≡ maybe.some v) (live : 0 < v.parts) (parts : w.parts ≡ v.parts) where
    rests : (j : ℕ) (u : Known E B) → get_elem? (set views id w) j ≡ maybe.some u → u.parts ≡ 0 → u.stage ≡ Idle
    rests j u e none = ⊎_elim (λ t. let p : w.parts ≡ u.parts = ap parts_of t.1 in absurd (omega arith)) (λ t. r.resting j u t.1 none) (at_set views id j w u e)

    shares : sum_by parts_of (set views id w) ≡ seats
    shares = let s : sum_by parts_of (set views id w) + v.parts ≡ sum_by parts_of views + w.parts = sum_set parts_of views id v w at in let b = r.shared in omega arith

    -- a step that keeps the number
    pub keeps_number : busy w.stage ≡ busy v.stage → w.number ≡ v.number → Served turn w.number w.stage → (homes' : Homes T) → Lies homes' (sum_by carries_of (set views id w))
        → Numbered seats turn waits homes' (set views id w)
    keeps_number busy_same number_same serve homes' lies =
        let same : (n : ℕ) → has n w ≡ has n v = λ n. λ i. cond (eqb (number_same i) n) (busy_same i) 0 in
        let equal : (n : ℕ) → sum_by (has n) (set views id w) ≡ sum_by (has n) views = λ n. let s = sum_set (has n) views id v w at in let e = same n in omega arith in record {
          below = λ n lt. equal n ∙ r.below n lt;
          within = λ n le lt. equal n ∙ r.within n le lt;
          above = λ n le. equal n ∙ r.above n le;
          waiting = let s : sum_by busy_of (set views id w) + busy v.stage ≡ sum_by busy_of views + busy w.stage = sum_set busy_of views id v w at in let b = r.waiting in omega arith;
          shared = shares;
          few = r.few;
          served = λ j u e. ⊎_elim (λ t. subst (λ (z : Known E B). Served turn z.number z.stage) t.1 serve) (λ t. r.served j u t.1) (at_set views id j w u e);
          resting = rests;
          slot = lies;
        }

    -- the seat draws the next number
    pub draws_number : v.stage ≡ Idle → w.stage ≡ Waiting → w.number ≡ turn + waits → Numbered seats turn (waits + 1) homes (set views id w)
    draws_number idle waiting number =
        let no : busy v.stage ≡ 0 = ap busy idle in
        let yes : busy w.stage ≡ 1 = ap busy waiting in
        let lies : sum_by carries_of (set views id w) ≡ sum_by carries_of views =
        (let s : sum_by carries_of (set views id w) + carries v.stage ≡ sum_by carries_of views + carries w.stage = sum_set carries_of views id v w at in
        let a : carries v.stage ≡ 0 = ap carries idle in let b : carries w.stage ≡ 0 = ap carries waiting in omega arith) in
        let before : (n : ℕ) → sum_by (has n) (set views id w) ≡ sum_by (has n) views + has n w = λ n. let s = sum_set (has n) views id v w at in let e = has_none n v no in omega arith in
        let miss : (n : ℕ) → n ≢ turn + waits → sum_by (has n) (set views id w) ≡ sum_by (has n) views =
        λ n other. let e = has_miss n w (λ p. other (sym p ∙ number)) in let b = before n in omega arith in record {
          below = λ n lt. miss n (λ p. omega arith) ∙ r.below n lt;
          within = λ n le lt. dite (ℕ_discrete n (turn + waits)) (λ hit. let e = has_hit n w (number ∙ sym hit) in let b = before n in let a = r.above n (omega arith) in omega arith)
              (λ other. miss n other ∙ r.within n le (omega arith));
          above = λ n le. miss n (λ p. omega arith) ∙ r.above n (omega arith);
          waiting = let s : sum_by busy_of (set views id w) + busy v.stage ≡ sum_by busy_of views + busy w.stage = sum_set busy_of views id v w at in let b = r.waiting in omega arith;
          shared = shares;
          few = r.few;
          served = λ j u e. ⊎_elim (λ t. subst (λ (z : Known E B). Served turn z.number z.stage) t.1 (subst (λ (s : Stage). Served turn w.number s) (sym waiting) tt)) (λ t. r.served j u t.1) (at_set views id j w u e);
          resting = rests;
          slot = subst (λ (n : ℕ). Lies homes n) (sym lies) r.slot;
        }

    -- where a seat waits, and its number is served, the slot is at home
    pub at_home : v.stage ≡ Waiting → v.number ≡ turn → (x : T) × (homes ≡ home x) × (sum_by carries_of views ≡ 0)
    at_home waiting mine = ⊎_elim
        (λ out.
        let one : sum_by carries_of views ≡ 1 = out.1 in
        let other = sum_some carries_of views (omega arith) in
        let inside : other.1.stage ≡ Inside = carrier other.1.stage other.3 in
        let same : other.1.number ≡ turn = subst (λ (s : Stage). Served turn other.1.number s) inside (r.served other.0 other.1 other.2) in
        let apart : id ≢ other.0 = λ p. not_inside v.stage (ap carries waiting) (ap stage_of (maybe.some-injective v other.1 (sym at ∙ (ap (λ k. get_elem? views k) p ∙ other.2))) ∙ inside) in
        let two = sum_two (has turn) views id other.0 v other.1 apart at other.2 in
        let a : has turn v ≡ 1 = has_hit turn v mine ∙ ap busy waiting in
        let b : has turn other.1 ≡ 1 = has_hit turn other.1 same ∙ ap busy inside in
        let c = sum_at busy_of views id v at in
        let d : busy v.stage ≡ 1 = ap busy waiting in
        let e = r.waiting in
        let f = r.within turn (omega arith) (omega arith) in
        absurd (omega arith))
        (λ in_place. in_place) r.slot

    -- the seat takes the slot
    pub takes_slot : v.stage ≡ Waiting → v.number ≡ turn → w.stage ≡ Inside → w.number ≡ v.number → Numbered {T = T} seats turn waits away (set views id w)
    takes_slot waiting mine inside number =
        let none = (at_home waiting mine).2 in
        let s : sum_by carries_of (set views id w) + carries v.stage ≡ sum_by carries_of views + carries w.stage = sum_set carries_of views id v w at in
        let a : carries v.stage ≡ 0 = ap carries waiting in
        let b : carries w.stage ≡ 1 = ap carries inside in
        keeps_number (ap busy inside ∙ sym (ap busy waiting)) number (subst (λ (s : Stage). Served turn w.number s) (sym inside) (number ∙ mine)) away (inl (refl, omega arith))

    -- the seat gives the slot back
    pub gives_slot : (x : T) → v.stage ≡ Inside → w.stage ≡ Leaving → w.number ≡ v.number → (homes ≡ away) × Numbered seats turn waits (home x) (set views id w)
    gives_slot x inside leaving number =
        let mine : v.number ≡ turn = subst (λ (s : Stage). Served turn v.number s) inside (r.served id v at) in
        let s : sum_by carries_of (set views id w) + carries v.stage ≡ sum_by carries_of views + carries w.stage = sum_set carries_of views id v w at in
        let a : carries v.stage ≡ 1 = ap carries inside in
        let b : carries w.stage ≡ 0 = ap carries leaving in
        let c : carries v.stage ≤ sum_by carries_of views = sum_at carries_of views id v at in
        let out : (homes ≡ away) × (sum_by carries_of views ≡ 1) = ⊎_elim (λ o. o) (λ i. let n : sum_by carries_of views ≡ 0 = i.2 in absurd (omega arith)) r.slot in
        let one = out.1 in
        (out.0, keeps_number (ap busy leaving ∙ sym (ap busy inside)) number (subst (λ (s : Stage). Served turn w.number s) (sym leaving) (number ∙ mine)) (home x) (inr (x, refl, omega arith)))

    -- the next number is served
    pub ends_number : v.stage ≡ Leaving → w.stage ≡ Idle → (0 < waits) × Numbered seats (turn + 1) (waits - 1) homes (set views id w)
    ends_number leaving idle =
        let mine : v.number ≡ turn = subst (λ (s : Stage). Served turn v.number s) leaving (r.served id v at) in
        let yes : busy v.stage ≡ 1 = ap busy leaving in
        let no : busy w.stage ≡ 0 = ap busy idle in
        let least : busy v.stage ≤ sum_by busy_of views = sum_at busy_of views id v at in
        let all = r.waiting in
        let some : 0 < waits = omega arith in
        let lies : sum_by carries_of (set views id w) ≡ sum_by carries_of views =
        (let s : sum_by carries_of (set views id w) + carries v.stage ≡ sum_by carries_of views + carries w.stage = sum_set carries_of views id v w at in
        let a : carries v.stage ≡ 0 = ap carries leaving in let b : carries w.stage ≡ 0 = ap carries idle in omega arith) in
        let before : (n : ℕ) → sum_by (has n) (set views id w) + has n v ≡ sum_by (has n) views = λ n. let s = sum_set (has n) views id v w at in let e = has_none n w no in omega arith in
        let miss : (n : ℕ) → n ≢ turn → sum_by (has n) (set views id w) ≡ sum_by (has n) views =
        λ n other. let e = has_miss n v (λ p. other (sym p ∙ mine)) in let b = before n in omega arith in (
          some,
          record {
            below = λ n lt. dite (ℕ_discrete n turn) (λ hit. let e : has n v ≡ busy v.stage = has_hit n v (mine ∙ sym hit) in let b = before n in let a = r.within n (omega arith) (omega arith) in omega arith)
                (λ other. miss n other ∙ r.below n (omega arith));
            within = λ n le lt. miss n (λ p. omega arith) ∙ r.within n (omega arith) (omega arith);
            above = λ n le. miss n (λ p. omega arith) ∙ r.above n (omega arith);
            waiting = let s : sum_by busy_of (set views id w) + busy v.stage ≡ sum_by busy_of views + busy w.stage = sum_set busy_of views id v w at in omega arith;
            shared = shares;
            few = r.few;
            served = λ j u e. ⊎_elim (λ t. subst (λ (z : Known E B). Served (turn + 1) z.number z.stage) t.1 (subst (λ (s : Stage). Served (turn + 1) w.number s) (sym idle) tt))
                (λ t. served_next u.stage turn u.number (r.served j u t.1)
                (λ hers runs. let two = sum_two (has turn) views id j v u (λ p. t.0 (sym p)) at t.1 in let a : has turn v ≡ busy v.stage = has_hit turn v mine in let b : has turn u ≡ busy u.stage = has_hit turn u hers in
                let one = r.within turn (omega arith) (omega arith) in omega arith)) (at_set views id j w u e);
            resting = rests;
            slot = subst (λ (n : ℕ). Lies homes n) (sym lies) r.slot;
          },
        )

  -- the slot is out with one seat alone
  pub one_inside : (i j : ℕ) (v u : Known E B) → get_elem? views i ≡ maybe.some v → v.stage ≡ Inside → i ≢ j → get_elem? views j ≡ maybe.some u → u.stage ≡ Inside → ⊥
  one_inside i j v u at inside apart there hers =
      let two : carries v.stage + carries u.stage ≤ sum_by carries_of views = sum_two carries_of views i j v u apart at there in
      let a : carries v.stage ≡ 1 = ap carries inside in let b : carries u.stage ≡ 1 = ap carries hers in
      let most : sum_by carries_of views ≤ 1 = ⊎_elim (λ o. let e = o.1 in omega arith) (λ o. let e = o.2 in omega arith) r.slot in
      omega arith

  -- a seat that has all parts is the only one
  pub others_spent : (i j : ℕ) (v u : Known E B) → get_elem? views i ≡ maybe.some v → v.parts ≡ seats → j ≢ i → get_elem? views j ≡ maybe.some u → u.parts ≡ 0
  others_spent i j v u at all apart there =
      let two : v.parts + u.parts ≤ sum_by parts_of views = sum_two parts_of views i j v u (λ p. apart (sym p)) at there in let b = r.shared in omega arith
