use Rattle.std.proofs.Common.{◌&&◌, map, length, eq-eqb, sym, ap, ◌∙◌}
use Rattle.std.proofs.lemmas.List.Folds.{list_all-map}
use Rattle.std.specs.List.{list_all}
use Rattle.osl_value.specs.Forms.{fits}
use Rattle.oso_code.specs.Allowed.{form_of}
use Rattle.oso_code.specs.Ops.{type_at}
use Rattle.oso_code.proofs.checks.form.are.Goals as goal

pub returns-then-args-count : goal.returns-then-args-count
returns-then-args-count c =
    c.all_fit.ensures
    ∙ sym (list_all-map (fits (form_of c.args.form)) (type_at c.args.symbols.now) c.args.args.now)
    ∙ sym (ap (λ b. b && list_all (fits (form_of c.args.form)) (map (type_at c.args.symbols.now) c.args.args.now)) (eq-eqb (length c.args.args.now) c.args.count c.if-args-count.true))
