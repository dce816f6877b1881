use denote.Ref.{Bor}
use Rattle.std.proofs.Common.{List, ℕ, [], arith}
use Rattle.oso_read.specs.Hints.{is_datum}
use Rattle.osl_valuetext.proofs.Pieces.{filter_more}
use Rattle.oso_read.proofs.hints.data_of.Goals as goal

pub loop-hint-preserved : goal.loop-hint-preserved
loop-hint-preserved c =
    let none : Bor (List ℕ) = record { ref_ptr = (0, 0); now = [] } in
    filter_more is_datum c.args.hints.now c.loop-hint.hint-index none _ _ _ (omega arith) c.in_ok-push_datum.ensures c.loop-hint.invariant
