use Rattle.std.proofs.Common.{rules, ◌∙◌}
use Rattle.osl_value.specs.declared.types.Base.TheVariants.{Float}
use Rattle.osl_value.specs.Types.{only}
use Rattle.osl_typed.proofs.Ways.{too_few, enough, stays, leads_to}
use Rattle.osl_typed.proofs.tables.parts.component_type.Goals as goal

pub returns-then-n-indices_wanted : goal.returns-then-n-indices_wanted
returns-then-n-indices_wanted c = stays c.args.ty c.args.n (too_few c.args.ty c.args.n c.requires (search rules))

pub returns-else-n-indices_wanted : goal.returns-else-n-indices_wanted
returns-else-n-indices_wanted c = c.only.ensures ∙ leads_to c.args.ty (only Float) c.args.n (enough c.args.ty c.args.n c.requires (search rules))
