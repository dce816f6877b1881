use Rattle.std.proofs.Common.{◌≡◌, ℕ, ◌<◌, [], length, get_or}
use Rattle.std.specs.List.{list_any}
use Rattle.oso_code.specs.Ranges.{steps_of}
use Rattle.osl_rewrites.specs.Flow.{nexts}
use Rattle.osl_rewrites.specs.declared.point.Spot.TheVariants.{At}
use Rattle.osl_flow.specs.Rows.{AreRows, live_bit}
use Rattle.osl_flow.specs.Table.{table_of}
use Rattle.osl_flow.specs.Uses.{bit}
use Rattle.osl_flow.proofs.liveness.after_ops.Given as goal

abbrev pub invariant-loop-i : goal.invariant-loop-i
invariant-loop-i l = record {
  long : length l.live.items ≡ l.i;
  wide : AreRows (length l.fn.code.symbols) l.live.items;
  bits : (i k : ℕ) → i < l.i → bit (get_or l.live.items i []) k ≡ list_any (λ q. live_bit l.fn.code (table_of l.fn.around) l.fn.rows q k) (nexts (steps_of l.fn.code) l.fn.code.sections (table_of l.fn.around) (At i));
}
