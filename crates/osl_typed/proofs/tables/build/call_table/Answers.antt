use Rattle.std.proofs.Common.{arith, refl, ap, sym, subst, ◌∙◌, ◌+◌, length}
use Rattle.std.proofs.lemmas.List.{length_push}
use Rattle.std.proofs.lemmas.Option.{slice_get_read}
use Rattle.osl_typed.specs.Measured.{IsCallTable, cut}
use Rattle.osl_typed.specs.Sizes.{call_weight, calls_below}
use Rattle.osl_typed.proofs.CallTables.{no_function, one_function}
use Rattle.osl_typed.proofs.tables.build.call_table.Goals as goal

pub loop-f-init : goal.loop-f-init
loop-f-init c =
    let none = ap length c.in_ok-table.ensures.items in
    record { known = no_function c.args.structures.now c.args.functions.now c.in_ok-table.table.items none; so_far = none }

pub loop-f-preserved : goal.loop-f-preserved
loop-f-preserved c =
    let items = c.in_ok-push.ensures.items in
    record {
      known = subst (IsCallTable c.args.structures.now c.args.functions.now) (sym items) (one_function c.args.structures.now c.args.functions.now c.loop-f.table.items c.loop-f.f-index c.f-item.result c.call_of-weight.result
          c.loop-f.invariant.known c.loop-f.invariant.so_far (slice_get_read c.args.functions.now _ c.loop-f.f-index c.f-item.result refl (omega arith) c.f-item.is)
          (c.call_of-weight.ensures ∙ (λ i. cut (call_weight c.args.structures.now (calls_below c.args.structures.now c.args.functions.now (length (c.as_slice.ensures.value i))) c.f-item.result))));
      so_far = ap length items ∙ length_push c.loop-f.table.items c.call_of-weight.result ∙ ap (λ n. n + 1) c.loop-f.invariant.so_far;
    }
