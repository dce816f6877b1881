use Rattle.std.proofs.Common.{ap, ◌∙◌, rules}
use Rattle.osl_value.specs.declared.types.Base.TheVariants.{Float}
use Rattle.osl_value.specs.Types.{only}
use Rattle.osl_overload.specs.declared.signature.Kind.TheVariants.{Value}
use Rattle.osl_typed.specs.Measured.{cut}
use Rattle.osl_typed.specs.Sizes.{valued}
use Rattle.osl_typed.proofs.Ways.{too_few, enough, none_weigh, one_weighs}
use Rattle.osl_typed.proofs.tables.Tables.components.Goals as goal

pub returns-then-n-indices_wanted : goal.returns-then-n-indices_wanted
returns-then-n-indices_wanted c = none_weigh c.args.self.now.structures.now c.args.ty c.args.n (too_few c.args.ty c.args.n c.requires (search rules))

pub returns : goal.returns
returns c = one_weighs c.args.self.now.structures.now c.args.ty (only Float) c.args.n _ (enough c.args.ty c.args.n c.requires (search rules))
    (c.valued.ensures ∙ ap (λ ty. cut (valued c.args.self.now.structures.now (Value ty))) c.only.ensures)
