-- Code in which a control op gave way to one of its ranges runs as before.
use Rattle.std.proofs.Common.{◌≡◌, ℕ, zero, suc, ◌+◌, ◌-◌, ◌<◌, ◌≤◌, ⊎_elim, List, length, Option, Some, None, Bool, true, false, refl, sym, ap, ◌∙◌, subst, arith, ◌⊎◌}
use Rattle.std.specs.Prelude.{slice_get}
use Rattle.std.proofs.lemmas.Bool.{cases_lt}
use Rattle.oso_code.specs.Nesting.{IsClosed, IsInside, AreNested, AreTiled}
use Rattle.oso_code.specs.Run.{State, Sources}
use Rattle.oso_code.specs.Steps.{Span, Step, Compute, Branch, Loop, Call, Leave}
use Rattle.oso_code.proofs.Steady.{closed_later}
use Rattle.osl_rewrites.specs.Choice.{Chosen, KeptChoice}
use Rattle.osl_rewrites.specs.Cut.{new_place, CutSteps, RunsIn, Parts, Goes, Fate, Kept, Gone, Moves}
use Rattle.osl_rewrites.specs.Quiet.{quiet, quiet_range}
use Rattle.osl_rewrites.proofs.Cuts.{rises, none_more, closed_cut, nested_cut, stays_cut}
use Rattle.osl_rewrites.proofs.Moved.{moved_run}
use Rattle.osl_rewrites.proofs.Uniform.{is_there}

module _ (from : Sources) (kept : ℕ → Bool) (old new : List Step) (p l m b : ℕ) (head : Step) (nested : AreNested old) (tiled : AreTiled old) (cut : CutSteps kept old new) (chosen : Chosen from old p l m b head) (choice : KeptChoice kept p l m b) where
  -- what begins among the op's ranges lies in the one that is run
  pub record Runs (i e : ℕ) : Type 0 where
    pub closed : IsClosed old i e
    pub within : e ≤ length old
    pub reach : i < e → p < i → i < b → (l ≤ i) × (e ≤ m)

  -- a range of the op at k, or what follows it
  sub : (k e i j : ℕ) → Runs k e → k < e → (k ≡ p → ⊥) → k < i → j ≤ e → IsClosed old i j → IsClosed old (k + 1) i → Runs i j
  sub k e i j r lt ne later le cl tile =
      let w = r.within in
      record {
        closed = cl;
        within = omega (arith, le, w);
        reach = λ a low high. ⊎_elim (λ (x : k < p). absurd (let z = tile.ends p head (omega (arith, x)) low chosen.here in let y = chosen.ends in omega (arith, z, y, high)))
            (λ (x : p ≤ k). let q : p < k = ⊎_elim (λ (u : p < k). u) (λ (u : k ≤ p). absurd (ne (omega (arith, x, u)))) (cases_lt p k) in
            let t = r.reach lt q (omega (arith, later, high)) in let t0 = t.0 in let t1 = t.1 in (omega (arith, t0, later), omega (arith, t1, le))) (cases_lt k p);
      }

  sub_in : (k next e : ℕ) (s : Span) → Runs k e → k < e → (k ≡ p → ⊥) → IsInside old k next s → next ≤ e → IsClosed old (k + 1) s.start → RunsIn Runs k next s
  sub_in k next e s r lt ne o le tile = let w = o.within in record { later = o.later; ordered = o.ordered; within = o.within; runs = sub k e s.start s.end r lt ne o.later (omega (arith, w, le)) o.closed tile }

  parts : (k e : ℕ) (step : Step) → slice_get old k ≡ Some step → Runs k e → k < e → (k ≡ p → ⊥) → Parts Runs step k e
  parts k e (Compute name ty target sources) at r lt ne = sub k e (k + 1) e r lt ne (omega arith) (omega arith) (closed_later old k (k + 1) e (omega arith) r.closed) (record { ends = λ j step a z is. absurd (omega arith) })
  parts k e (Branch c holds fails) at r lt ne =
      let n = nested.each k (Branch c holds fails) at in let t = tiled.each k (Branch c holds fails) at in let h = r.closed.ends k (Branch c holds fails) (omega arith) lt at in
      let x = n.1.later in let y = n.1.ordered in
      (h, sub_in k fails.end e holds r lt ne n.0 h t.0, sub_in k fails.end e fails r lt ne n.1 h t.1, sub k e fails.end e r lt ne (omega (arith, x, y)) (omega arith) (closed_later old k fails.end e (omega (arith, x, y)) r.closed) t.2)
  parts k e (Loop tested c test body step) at r lt ne =
      let n = nested.each k (Loop tested c test body step) at in let t = tiled.each k (Loop tested c test body step) at in let h = r.closed.ends k (Loop tested c test body step) (omega arith) lt at in
      let x = n.2.later in let y = n.2.ordered in
      (h, sub_in k step.end e test r lt ne n.0 h t.0, sub_in k step.end e body r lt ne n.1 h t.1, sub_in k step.end e step r lt ne n.2 h t.2, sub k e step.end e r lt ne (omega (arith, x, y)) (omega arith) (closed_later old k step.end e (omega (arith, x, y)) r.closed) t.3)
  parts k e (Call body) at r lt ne =
      let n = nested.each k (Call body) at in let t = tiled.each k (Call body) at in let h = r.closed.ends k (Call body) (omega arith) lt at in
      let x = n.later in let y = n.ordered in
      (h, sub_in k body.end e body r lt ne n h t.0, sub k e body.end e r lt ne (omega (arith, x, y)) (omega arith) (closed_later old k body.end e (omega (arith, x, y)) r.closed) t.1)
  parts k e (Leave way) at r lt ne = tt

  -- a range of ops that are all taken out has no place of its own
  none_out : (x y i d : ℕ) → ((k : ℕ) → x ≤ k → k < y → kept k ≡ false) → x ≤ i → d + i ≤ y → new_place kept (d + i) ≡ new_place kept i
  none_out x y i zero out a le = ap (new_place kept) (omega arith)
  none_out x y i (suc d) out a le =
      ap (new_place kept) (let e : suc d + i ≡ (d + i) + 1 = omega arith in e) ∙ none_more kept (d + i) (out (d + i) (omega arith) (omega arith)) ∙ none_out x y i d out a (omega arith)

  passed : (x y : ℕ) → x ≤ y → ((k : ℕ) → x ≤ k → k < y → kept k ≡ false) → new_place kept y ≡ new_place kept x
  passed x y le out = let e : (y - x) + x ≡ y = omega arith in ap (new_place kept) (sym e) ∙ none_out x y x (y - x) out (omega arith) (omega arith)

  gone : (e : ℕ) → Runs p e → p < e → Goes from old (new_place kept) Runs p e head l m b
  gone e r lt =
      let h = r.closed.ends p head (omega arith) lt chosen.here in let q = chosen.ends in let w = r.within in
      let t1 = chosen.later in let t2 = chosen.taken in let t3 = chosen.ahead in
      record {
        here = chosen.here;
        later = t1;
        order = t2;
        ahead = t3;
        within = omega (arith, h, q);
        first = passed p l (omega (arith, t1)) choice.before;
        rest = passed m b t3 choice.past;
        inner = record { closed = chosen.inner; within = omega (arith, t3, h, q, w); reach = λ a x y. (omega arith, omega arith) };
        outer = record { closed = closed_later old p b e (omega (arith, t1, t2, t3)) r.closed; within = w; reach = λ a x y. absurd (omega (arith, y)) };
        does = λ f s. chosen.does f e s;
      }

  stays : (i e : ℕ) (step : Step) → slice_get old i ≡ Some step → Runs i e → i < e → (i ≡ p → ⊥) → kept i ≡ true → Fate from old new (new_place kept) Runs i e
  stays i e step at r lt ne h = Kept step (stays_cut kept old new cut Runs i e step at h (parts i e step at r lt ne))

  fate : (i e : ℕ) (o : Option Step) → slice_get old i ≡ o → Runs i e → i < e → Fate from old new (new_place kept) Runs i e
  fate i e None at r lt = absurd (is_there old i at (let w = r.within in omega (arith, w, lt)))
  fate i e (Some step) at r lt =
      ⊎_elim (λ (x : i < p). stays i e step at r lt (λ q. absurd (omega (arith, x, q))) (choice.lower i x))
      (λ (x : p ≤ i). ⊎_elim
      (λ (y : p < i). ⊎_elim
      (λ (z : i < b). let t = r.reach lt y z in let t0 = t.0 in let t1 = t.1 in stays i e step at r lt (λ q. absurd (omega (arith, y, q))) (choice.inner i t0 (omega (arith, t1, lt))))
      (λ (z : b ≤ i). stays i e step at r lt (λ q. absurd (omega (arith, y, q))) (choice.upper i z)) (cases_lt i b))
      (λ (y : i ≤ p). let q : p ≡ i = omega (arith, x, y) in Gone head l m b (subst (λ n. Goes from old (new_place kept) Runs n e head l m b) q (gone e (subst (λ n. Runs n e) (sym q) r) (omega (arith, q, lt))))) (cases_lt p i)) (cases_lt i p)

  moves : Moves from old new (new_place kept) Runs
  moves = record {
    rises = rises kept;
    closed = λ i e r. closed_cut kept old new cut i e r.closed;
    bounded = λ i e r. let z = rises kept e (length old) r.within in let c = cut.size in omega (arith, z, c);
    each = λ i e r lt. fate i e (slice_get old i) refl r lt;
  }

  pub choice_run : (f g i e : ℕ) (s : State) → Runs i e → e ≤ f + i → new_place kept e ≤ g + new_place kept i → quiet from old f i e s ≡ quiet from new g (new_place kept i) (new_place kept e) s
  choice_run f g i e s r lf lg = moved_run from (new_place kept) Runs old new (nested_cut kept old new cut nested) moves f g i e s r lf lg

-- a range that does not start among the op's ranges
pub choice_range : (from : Sources) (kept : ℕ → Bool) (old new : List Step) (p l m b : ℕ) (head : Step) → AreNested old → AreTiled old → CutSteps kept old new → Chosen from old p l m b head → KeptChoice kept p l m b
    → (i e : ℕ) (s : State) → IsClosed old i e → e ≤ length old → (i ≤ p) ⊎ (b ≤ i) → quiet_range from old i e s ≡ quiet_range from new (new_place kept i) (new_place kept e) s
choice_range from kept old new p l m b head nested tiled cuts chosen choice i e s closed within outside =
    let r = rises kept e (length old) within in let z = cuts.size in
    choice_run from kept old new p l m b head nested tiled cuts chosen choice (length old) (length new) i e s
    (record { closed = closed; within = within; reach = λ x y w. absurd (⊎_elim (λ le. omega (arith, le, y)) (λ le. omega (arith, le, w)) outside) }) (omega (arith, within)) (omega (arith, r, z))
