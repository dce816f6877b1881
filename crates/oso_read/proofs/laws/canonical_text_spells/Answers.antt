use Rattle.oso_read.proofs.CanonSpells.{canon_spells}
use Rattle.oso_read.proofs.laws.canonical_text_spells.Goals as goal

pub returns : goal.returns
returns c = canon_spells
