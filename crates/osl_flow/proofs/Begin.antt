-- The rows before any pass, and the rows of spots that no pass computes.
use Rattle.std.proofs.Common.{◌≡◌, ℕ, suc, ◌+◌, ◌-◌, ◌<◌, ◌≤◌, inl, Bool, true, false, List, [], ◌∷◌, ◌++◌, length, get_or, replicate, None, Some, refl, sym, ap, ◌∙◌, subst, arith, ⊎_elim}
use Rattle.std.specs.Prelude.{◌||◌, ◌&&◌, if◌then◌else◌, slice_get}
use Rattle.std.proofs.lemmas.Bool.{cases_lt, lt-ltb, le-ltb}
use Rattle.std.proofs.lemmas.List.{length-append, length-replicate, get_or-replicate, get_or_past, get_or_append_left, get_or-append_right, get_or_at}
use Rattle.std.proofs.lemmas.List.Elements.{All-append, All-cons, All-replicate}
use Rattle.std.proofs.lemmas.Option.{slice_get_past}
use Rattle.osl_bits.specs.Row.{union}
use Rattle.oso_code.specs.Ranges.{steps_of}
use Rattle.oso_code.specs.Uses.{reads_on_entry, reads_in_test, written_by}
use Rattle.oso_code.specs.declared.raw.Raw.{Raw}
use Rattle.oso_code.proofs.Decoding.{length_steps}
use Rattle.osl_rewrites.specs.Flow.{Among, nexts, nexts_of, test_nexts, gate_nexts, Live, Passes, Asked}
use Rattle.osl_rewrites.specs.declared.point.Around.{Around}
use Rattle.osl_rewrites.specs.declared.point.Spot.{Spot}
use Rattle.osl_rewrites.specs.declared.point.Spot.TheVariants.{At, Test, Gate, Done}
use Rattle.osl_flow.specs.Flow.{AreSettled, first_rows}
use Rattle.osl_flow.specs.Rows.{number, before, IsReal, live_bit, SettledAt, AllEarned, Sized, Reached}
use Rattle.osl_flow.specs.Uses.{bit}
use Rattle.osl_flow.proofs.Bits.{no_bit}
use Rattle.osl_flow.proofs.Live.{all_settled}

pub union_none : (row : List Bool) → union (replicate (length row) false) row ≡ row
union_none [] = refl
union_none (x ∷ row) = ap (λ xs. x ∷ xs) (union_none row)

module _ (raw : Raw) (table : ℕ → Around) (asked : List Bool) (fits : length asked ≡ length raw.symbols) where
  -- of the rows before the passes, that of the end is what is asked
  pub first_end : get_or (first_rows raw asked) (length raw.ops + length raw.ops) [] ≡ asked
  first_end =
      let n = length raw.ops in
      let blank : List Bool = replicate (length raw.symbols) false in
      let size = length-append (replicate n blank) (replicate n blank) in
      let one = length-replicate n blank in
      get_or_at (replicate n blank ++ replicate n blank) asked (replicate (length raw.sections) blank) [] (n + n) (omega (arith, size, one))

  empty_at : (n x k : ℕ) → bit (get_or (replicate n (replicate (length raw.symbols) false)) x []) k ≡ false
  empty_at n x k =
      let blank : List Bool = replicate (length raw.symbols) false in
      ⊎_elim (λ (lt : x < n). ap (λ r. bit r k) (get_or-replicate n x blank [] lt) ∙ no_bit (length raw.symbols) k)
      (λ (past : n ≤ x). ap (λ r. bit r k) (get_or_past (replicate n blank) x [] (let e = length-replicate n blank in omega (arith, e)))) (cases_lt x n)

  -- and the others are empty
  first_empty : (x k : ℕ) → (x ≡ length raw.ops + length raw.ops → ⊥) → bit (get_or (first_rows raw asked) x []) k ≡ false
  first_empty x k ne =
      let n = length raw.ops in
      let blank : List Bool = replicate (length raw.symbols) false in
      let front = replicate n blank ++ replicate n blank in
      let back = asked ∷ replicate (length raw.sections) blank in
      let size = length-append (replicate n blank) (replicate n blank) in
      let one = length-replicate n blank in
      let long : length front ≡ n + n = omega (arith, size, one) in
      ⊎_elim
      (λ (lt : x < n + n). ap (λ r. bit r k) (get_or_append_left front back [] x (omega (arith, long, lt)))
      ∙ ⊎_elim
      (λ (first : x < n). ap (λ r. bit r k) (get_or_append_left (replicate n blank) (replicate n blank) [] x (omega (arith, one, first))) ∙ empty_at n x k)
      (λ (second : n ≤ x). ap (λ r. bit r k) (get_or-append_right (replicate n blank) (replicate n blank) n x [] one second) ∙ empty_at n (x - n) k)
      (cases_lt x n))
      (λ (le : n + n ≤ x).
      let y = x - (n + n) - 1 in
      let more : x - (n + n) ≡ y + 1 = omega arith in
      ap (λ r. bit r k) (get_or-append_right front back (n + n) x [] long le) ∙ ap (λ i. bit (get_or back i []) k) more ∙ later y)
      (cases_lt x (n + n))
    where
      later : (y : ℕ) → bit (get_or (asked ∷ replicate (length raw.sections) (replicate (length raw.symbols) false)) (y + 1) []) k ≡ false
      later y = let e : y + 1 ≡ suc y = omega arith in ap (λ i. bit (get_or (asked ∷ replicate (length raw.sections) (replicate (length raw.symbols) false)) i []) k) e ∙ empty_at (length raw.sections) y k

  pub first_sized : Sized raw table (first_rows raw asked)
  first_sized =
      let n = length raw.ops in
      let m = length raw.sections in
      let blank : List Bool = replicate (length raw.symbols) false in
      let P = λ (row : List Bool). length row ≡ length raw.symbols in
      let all = λ (n : ℕ). All-replicate (λ (row : List Bool). length row ≡ length raw.symbols) n blank (length-replicate (length raw.symbols) false) in
      let a = length-append (replicate n blank) (replicate n blank) in
      let b = length-append (replicate n blank ++ replicate n blank) (asked ∷ replicate m blank) in
      let c = length-replicate n blank in
      let d = length-replicate m blank in
      record {
        long = omega (arith, a, b, c, d);
        wide = record { each = All-append P (replicate n blank ++ replicate n blank) (asked ∷ replicate m blank) (All-append P (replicate n blank) (replicate n blank) (all n) (all n)) (All-cons P asked (replicate m blank) fits (all m)) };
      }

  -- a spot past the last section leads to the end
  past_gate : (j : ℕ) → length raw.sections ≤ j → Among Done (nexts (steps_of raw) raw.sections table (Gate j))
  past_gate j le = subst (λ o. Among Done (elim o [ None ↦ Done ∷ [] | Some section ↦ gate_nexts j section ])) (sym (slice_get_past raw.sections j le)) (inl refl)

  end_place : (j : ℕ) → length raw.sections ≤ j → number (length raw.ops) (length raw.sections) (Gate j) ≡ length raw.ops + length raw.ops
  end_place j le = ap (λ b. if b then length raw.ops + length raw.ops + 1 + j else length raw.ops + length raw.ops) (le-ltb j (length raw.sections) le)

  abbrev FirstLive : Spot → ℕ → Type 0
  FirstLive p k = live_bit raw table (first_rows raw asked) p k ≡ true → Live (steps_of raw) raw.sections table (bit asked) k p

  elsewhere : (p : Spot) (k : ℕ) → (number (length raw.ops) (length raw.sections) p ≡ length raw.ops + length raw.ops → ⊥) → FirstLive p k
  elsewhere p k ne h = absurd (let e = sym (first_empty (number (length raw.ops) (length raw.sections) p) k ne) ∙ h in cc e)

  at_end : (k : ℕ) → bit asked k ≡ true → Live (steps_of raw) raw.sections table (bit asked) k Done
  at_end k h = Asked h

  pub first_earned : AllEarned raw table (bit asked) (first_rows raw asked)
  first_earned (At i) k =
      let n = length raw.ops in let m = length raw.sections in
      elsewhere (At i) k (λ e. ⊎_elim
      (λ (lt : i < n). let f = ap (λ b. if b then i else n + n + 1 + m) (lt-ltb i n lt) in omega (arith, e, f, lt))
      (λ (le : n ≤ i). let f = ap (λ b. if b then i else n + n + 1 + m) (le-ltb i n le) in omega (arith, e, f))
      (cases_lt i n))
  first_earned (Test i) k =
      let n = length raw.ops in let m = length raw.sections in
      elsewhere (Test i) k (λ e. ⊎_elim
      (λ (lt : i < n). let f = ap (λ b. if b then n + i else n + n + 1 + m) (lt-ltb i n lt) in omega (arith, e, f, lt))
      (λ (le : n ≤ i). let f = ap (λ b. if b then n + i else n + n + 1 + m) (le-ltb i n le) in omega (arith, e, f))
      (cases_lt i n))
  first_earned (Gate j) k = λ h.
      let n = length raw.ops in let m = length raw.sections in
      ⊎_elim
      (λ (lt : j < m). elsewhere (Gate j) k (λ e. let f = ap (λ b. if b then n + n + 1 + j else n + n) (lt-ltb j m lt) in omega (arith, e, f)) h)
      (λ (le : m ≤ j). Passes (Gate j) Done (past_gate j le) (λ e. cc e) (at_end k (sym (ap (λ r. bit r k) (ap (λ x. get_or (first_rows raw asked) x []) (end_place j le) ∙ first_end)) ∙ h)))
      (cases_lt j m)
  first_earned Done k = λ h. at_end k (sym (ap (λ r. bit r k) first_end) ∙ h)

  module _ (rows : List (List Bool)) where
    no_step : (i : ℕ) → length raw.ops ≤ i → slice_get (steps_of raw) i ≡ None
    no_step i le = slice_get_past (steps_of raw) i (let e = length_steps raw.symbols 0 raw.ops in omega (arith, e, le))

    or_none : (b : Bool) → ((b || false) && true) || false ≡ true → b ≡ true
    or_none true h = refl
    or_none false h = h

    -- spots without a row of their own are settled as they are
    pub spots_settled : ((p : Spot) → IsReal raw p → SettledAt raw table rows p) → (p : Spot) → SettledAt raw table rows p
    spots_settled real (At i) = ⊎_elim (λ (lt : i < length raw.ops). real (At i) lt)
        (λ (le : length raw.ops ≤ i). λ k h. absurd (let e = sym (ap (λ o. before (live_bit raw table rows) (elim o [ None ↦ [] | Some step ↦ nexts_of i (table i) step ]) (elim o [ None ↦ None | Some step ↦ written_by step ]) (elim o [ None ↦ [] | Some step ↦ reads_on_entry step ]) k) (no_step i le)) ∙ h in cc e))
        (cases_lt i (length raw.ops))
    spots_settled real (Test i) = ⊎_elim (λ (lt : i < length raw.ops). real (Test i) lt)
        (λ (le : length raw.ops ≤ i). λ k h. absurd (let e = sym (ap (λ o. before (live_bit raw table rows) (elim o [ None ↦ [] | Some step ↦ test_nexts i (table i) step ]) None (elim o [ None ↦ [] | Some step ↦ reads_in_test step ]) k) (no_step i le)) ∙ h in cc e))
        (cases_lt i (length raw.ops))
    spots_settled real (Gate j) = ⊎_elim (λ (lt : j < length raw.sections). real (Gate j) lt)
        (λ (le : length raw.sections ≤ j). λ k h.
        let past = slice_get_past raw.sections j le in
        let e = sym (ap (λ o. before (live_bit raw table rows) (elim o [ None ↦ Done ∷ [] | Some section ↦ gate_nexts j section ]) None [] k) past) ∙ h in
        ap (λ x. bit (get_or rows x []) k) (end_place j le) ∙ or_none (live_bit raw table rows Done k) e)
        (cases_lt j (length raw.sections))
    spots_settled real Done = λ k h. absurd (cc h)

    pub rows_settled : Reached raw table (first_rows raw asked) rows → ((p : Spot) → IsReal raw p → SettledAt raw table rows p) → AreSettled raw table asked rows
    rows_settled reached real = record {
      wide = reached.sized.wide;
      settled = all_settled raw table (bit asked) rows (spots_settled real) (λ k h. reached.grows Done k (ap (λ r. bit r k) first_end ∙ h));
      earned = record { each = λ p k h. reached.earned (bit asked) first_earned p k h };
    }
