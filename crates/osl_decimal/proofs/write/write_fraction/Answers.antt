use Rattle.std.proofs.Common.{◌≡◌, ◌+◌, ◌%◌, ◌/◌, ◌^◌, ◌<◌, ◌⊎◌, ◌∷◌, length, drop, length-drop, inl, inr, sym, ap, ◌∙◌, arith}
use Rattle.std.proofs.lemmas.List.{drop_all}
use Rattle.osl_decimal.specs.Canonical.{places}
use Rattle.osl_decimal.proofs.Places.{places_more, places_none, places_left, fraction_text-some, fraction_text-none}
use Rattle.osl_decimal.proofs.write.write_fraction.Goals as goal
use Rattle.osl_decimal.proofs.write.write_fraction.Goals.{then-digit-gt0, then-digit-gt0-via-then-digit-gt0, then-digit-gt0-via-else-digit-gt0+then-start-end, else-digit-gt0+else-start-end}

pub loop-place-preserved : goal.loop-place-preserved
loop-place-preserved c =
    let fraction = c.args.fraction in
    let place = c.loop-place._place in
    let kept = c.loop-place.invariant in
    let digit = ap (λ n. n % 10) kept.left in
    let count = ap length kept.written in
    let behind = length-drop c.loop-place.start c.loop-place.bytes in
    let left : c.loop-place.left / 10 ≡ fraction / 10 ^ (place + 1) = ap (λ n. n / 10) kept.left ∙ places_left fraction place in
    elim c.if-digit-gt0.branch [
      | then-digit-gt0 w ↦
          let some : (0 < fraction / 10 ^ place % 10) ⊎ (0 < length (places place (fraction % 10 ^ place))) = elim w.then-digit-gt0.branch [
            | then-digit-gt0-via-then-digit-gt0 w' ↦ inl (omega arith)
            | then-digit-gt0-via-else-digit-gt0+then-start-end w' ↦ inr (omega (arith, count, behind))
          ] in
          record {
            room = omega arith;
            within = omega arith;
            left = left;
            written =
                rw (w.start-is, w.bytes-is)
                (w.put_before-start.ensures.written
                ∙ ap (λ n. (48 + n) ∷ drop c.loop-place.start c.loop-place.bytes) digit
                ∙ ap (λ rest. (48 + fraction / 10 ^ place % 10) ∷ rest) kept.written
                ∙ sym (places_more fraction place some));
          }
      | else-digit-gt0+else-start-end w ↦
          record {
            room = omega arith;
            within = omega arith;
            left = left;
            written =
                rw (w.start-is, w.bytes-is)
                (drop_all c.loop-place.start c.loop-place.bytes (omega arith)
                ∙ sym (places_none fraction place (omega arith) (omega (arith, count, behind))));
          }
    ]

pub returns-then-start-end-2-clause-written : goal.returns-then-start-end-2-clause-written
returns-then-start-end-2-clause-written c =
    let fraction = c.args.fraction in
    let all : c.loop-place._place ≡ 9 = omega arith in
    let written = c.loop-place.invariant.written ∙ ap (λ k. places k (fraction % 10 ^ k)) all in
    let count = ap length written in
    let behind = length-drop c.loop-place.start c.loop-place.bytes in
    c.put_before.ensures.written
    ∙ ap (λ rest. 46 ∷ rest) written
    ∙ fraction_text-some fraction c.requires.below_one (omega (arith, count, behind))

pub returns-else-start-end-2-clause-written : goal.returns-else-start-end-2-clause-written
returns-else-start-end-2-clause-written c =
    let fraction = c.args.fraction in
    let all : c.loop-place._place ≡ 9 = omega arith in
    let written = c.loop-place.invariant.written ∙ ap (λ k. places k (fraction % 10 ^ k)) all in
    let count = ap length written in
    let behind = length-drop c.loop-place.start c.loop-place.bytes in
    drop_all c.loop-place.start c.loop-place.bytes (omega arith)
    ∙ sym (fraction_text-none fraction c.requires.below_one (omega (arith, count, behind)))
