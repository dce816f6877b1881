use Rattle.std.proofs.Common.{arith, refl, ap, sym, subst, ◌∙◌, ◌+◌, length}
use Rattle.std.specs.List.{flat_map}
use Rattle.std.proofs.lemmas.List.{length_push}
use Rattle.std.proofs.lemmas.Option.{slice_get_read}
use Rattle.osl_typed.specs.Frames.{leaves_with, leaves_below}
use Rattle.osl_typed.specs.Measured.{IsLeafTable, shortened}
use Rattle.osl_typed.proofs.LeafTables.{no_structure, one_structure}
use Rattle.osl_typed.proofs.tables.build.leaf_table.Goals as goal

pub loop-structure-init : goal.loop-structure-init
loop-structure-init c =
    let none = ap length c.in_ok-table.ensures.items in
    record { known = no_structure c.args.structures.now c.in_ok-table.table.items none; so_far = none }

pub loop-structure-preserved : goal.loop-structure-preserved
loop-structure-preserved c =
    let items = c.in_ok-push.ensures.items in
    record {
      known = subst (IsLeafTable c.args.structures.now) (sym items) (one_structure c.args.structures.now c.loop-structure.table.items c.loop-structure.structure-index c.structure-item.result c.leaves_of_fields-leaves.result
          c.loop-structure.invariant.known c.loop-structure.invariant.so_far (slice_get_read c.args.structures.now _ c.loop-structure.structure-index c.structure-item.result refl (omega arith) c.structure-item.is)
          (c.leaves_of_fields-leaves.ensures ∙ (λ i. shortened (flat_map (leaves_with (leaves_below c.args.structures.now (length (c.as_slice.ensures.value i)))) (c.as_slice-in-loop-structure.ensures i)))));
      so_far = ap length items ∙ length_push c.loop-structure.table.items c.leaves_of_fields-leaves.result ∙ ap (λ n. n + 1) c.loop-structure.invariant.so_far;
    }
