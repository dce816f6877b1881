use Rattle.std.proofs.Common.{sym, ◌∙◌}
use Rattle.osl_interp.proofs.Frames.{no_frames}
use Rattle.osl_interp.proofs.leave.leave.Goals as goal

pub end_step-requires-clause-last : goal.end_step-requires-clause-last
end_step-requires-clause-last c = no_frames c.args.m.now.frames.items (sym c.innermost.ensures ∙ c.in-None.is)
