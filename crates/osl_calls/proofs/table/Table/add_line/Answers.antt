use Rattle.std.proofs.Common.{arith}
use Rattle.osl_calls.specs.Table.{held}
use Rattle.osl_calls.proofs.Tables.{no_signature, more_takes}
use Rattle.osl_calls.proofs.table.Table.add_line.Goals as goal

pub loop-takes-init : goal.loop-takes-init
loop-takes-init c = λ name. no_signature (c.args.line.now.0).now c.args.line.now.1 name (held c.args.self.now name)

pub loop-takes-preserved : goal.loop-takes-preserved
loop-takes-preserved c = λ name.
    more_takes (c.args.line.now.0).now c.args.line.now.1 (c.args.line.now.2).now c.loop-takes.takes-index _ _ name (held c.args.self.now name) (held c.loop-takes.self name) (held c.push.new.self name) (omega arith)
    c.in_ok-signature.ensures (c.loop-takes.invariant name) (c.in_ok-push.ensures.ok name)
