use Rattle.std.proofs.Common.{◌&&◌, ◌==◌, map, replicate, sym, ap, ◌∙◌}
use Rattle.std.proofs.lemmas.List.{length-map}
use Rattle.std.specs.Cmp.Lexicographic.{pointwise}
use Rattle.std.specs.List.{list_all}
use Rattle.osl_value.specs.Forms.{ANumber, fits}
use Rattle.oso_code.specs.Ops.{type_at}
use Rattle.oso_code.proofs.Replicated.{each_fits_one}
use Rattle.oso_code.proofs.checks.allowed.made.Goals as goal

pub returns-then-fits : goal.returns-then-fits
returns-then-fits c =
    c.are.ensures
    ∙ sym (ap (λ n. (n == c.args.count) && list_all (fits ANumber) (map (type_at c.args.symbols.now) c.args.args.now)) (length-map c.args.args.now (type_at c.args.symbols.now)))
    ∙ sym (each_fits_one ANumber (map (type_at c.args.symbols.now) c.args.args.now) c.args.count)
    ∙ ap (λ b. b && pointwise fits (replicate c.args.count ANumber) (map (type_at c.args.symbols.now) c.args.args.now)) c.if-fits.ensures
