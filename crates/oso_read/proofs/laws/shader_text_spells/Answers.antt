use Rattle.std.proofs.Common.{◌≡◌, true, subst}
use Rattle.oso_code.specs.declared.raw.Raw.{Raw}
use Rattle.oso_read.specs.Spelt.{can_spell}
use Rattle.oso_read.proofs.CanonSpells.{canon_spells}
use Rattle.oso_read.proofs.laws.shader_text_spells.Goals as goal

pub returns : goal.returns
returns c = canon_spells c.args.shader.now c.raw.ensures.valid (subst (λ (r : Raw). can_spell r ≡ true) c.raw.ensures.value c.can_spell.ensures)
