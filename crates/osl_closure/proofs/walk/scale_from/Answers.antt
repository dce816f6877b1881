use Rattle.std.proofs.Common.{◌∙◌, ap, take, ◌++◌, map}
use Rattle.std.proofs.lemmas.List.{take_rest}
use Rattle.osl_closure.specs.Walk.{found_weighted}
use Rattle.osl_closure.proofs.Walking.{put_end}
use Rattle.osl_closure.proofs.walk.scale_from.Goals as goal

pub returns : goal.returns
returns c = put_end c.args.from c.args.found.now c.scale_all.new.found
    ∙ ap (λ l. take c.args.from c.args.found.now ++ l) (c.scale_all.ensures ∙ ap (map (found_weighted c.args.by)) (take_rest c.args.found.now c.args.from))
