use Rattle.std.proofs.Common.{◌≡◌, ◌<◌, ◌≤◌, ◌++◌, [], ◌∷◌, length, get_or, ap, sym, ◌∙◌, subst, arith, List, Bool, ⊎_elim}
use Rattle.std.specs.List.{All, list_any}
use Rattle.oso_code.specs.Ranges.{steps_of}
use Rattle.osl_rewrites.specs.Flow.{nexts}
use Rattle.osl_rewrites.specs.declared.point.Spot.TheVariants.{At}
use Rattle.osl_flow.specs.Rows.{live_bit}
use Rattle.osl_flow.specs.Table.{table_of}
use Rattle.std.proofs.lemmas.Bool.{cases_lt}
use Rattle.std.proofs.lemmas.List.{length_push, get_or_push, get_or_append_left}
use Rattle.std.proofs.lemmas.List.Elements.{All-push}
use Rattle.osl_flow.specs.Uses.{bit}
use Rattle.osl_flow.proofs.liveness.after_ops.Goals as goal

pub loop-i-preserved : goal.loop-i-preserved
loop-i-preserved c =
    let old = c.loop-i.live.items in
    let row = c.in_ok-row.row in
    let e : c.push.new.self.items ≡ old ++ row ∷ [] = c.in_ok-push.ensures.items in
    let more = length_push old row in
    let long = c.loop-i.invariant.long in
    let P = λ (r : List Bool). length r ≡ length c.args.code.now.symbols in
    record {
      long = let f = ap length e in omega (arith, f, more, long);
      wide = record { each = subst (All P) (sym e) (All-push P old row c.loop-i.invariant.wide.each c.in_ok-row.ensures.len) };
      bits = λ i k lt. ⊎_elim
          (λ (lower : i < c.loop-i.i). ap (λ rows. bit (get_or rows i []) k) e ∙ ap (λ r. bit r k) (get_or_append_left old (row ∷ []) [] i (omega (arith, lower, long))) ∙ c.loop-i.invariant.bits i k lower)
          (λ (not_lower : c.loop-i.i ≤ i).
          let here : i ≡ c.loop-i.i = omega (arith, lt, not_lower) in
          ap (λ rows. bit (get_or rows i []) k) e ∙ ap (λ r. bit r k) (get_or_push old row [] i (omega (arith, long, here))) ∙ subst (λ z. bit row k ≡ list_any (λ q. live_bit c.args.code.now (table_of c.args.around.now) c.args.rows.now q k) (nexts (steps_of c.args.code.now) c.args.code.now.sections (table_of c.args.around.now) (At z))) (sym here) (c.in_ok-row.ensures.bits k))
          (cases_lt i c.loop-i.i);
    }
