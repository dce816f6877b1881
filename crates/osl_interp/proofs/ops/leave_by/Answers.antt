use Rattle.std.proofs.Common.{Some, refl, ap, ◌∙◌}
use Rattle.oso_code.specs.Steps as S
use Rattle.oso_step.specs.Decoded.{seen_way}
use Rattle.osl_interp.specs.Meaning.{configuration}
use Rattle.osl_interp.specs.declared.frame.Mode.TheVariants as M
use Rattle.osl_interp.proofs.Acting.{mode_left, exit_left}
use Rattle.osl_interp.proofs.ops.leave_by.Goals as goal

pub returns-in-Exit : goal.returns-in-Exit
returns-in-Exit c =
    let op = c.requires.op ∙ ap (λ w. Some (S.Leave (seen_way w))) c.in-Exit.is in
    (refl, exit_left (configuration c.args.m.now) (record { ready = c.requires.ready; runs = c.requires.runs; inside = c.requires.inside; op = op }))

pub returns-in-Break : goal.returns-in-Break
returns-in-Break c =
    let op = c.requires.op ∙ ap (λ w. Some (S.Leave (seen_way w))) c.in-Break.is in
    mode_left (configuration c.args.m.now) S.Break M.Break (record { ready = c.requires.ready; runs = c.requires.runs; inside = c.requires.inside; op = op }) (λ from steps s. refl) refl

pub returns-in-Continue : goal.returns-in-Continue
returns-in-Continue c =
    let op = c.requires.op ∙ ap (λ w. Some (S.Leave (seen_way w))) c.in-Continue.is in
    mode_left (configuration c.args.m.now) S.Continue M.Continue (record { ready = c.requires.ready; runs = c.requires.runs; inside = c.requires.inside; op = op }) (λ from steps s. refl) refl

pub returns-in-Return : goal.returns-in-Return
returns-in-Return c =
    let op = c.requires.op ∙ ap (λ w. Some (S.Leave (seen_way w))) c.in-Return.is in
    mode_left (configuration c.args.m.now) S.Return M.Return (record { ready = c.requires.ready; runs = c.requires.runs; inside = c.requires.inside; op = op }) (λ from steps s. refl) refl
