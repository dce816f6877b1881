use Rattle.std.proofs.Common.{◌∙◌, ap, sym, length}
use Rattle.osl_bits.proofs.Rows.{length-bits_of}
use Rattle.osl_bits.proofs.row.BitRow.length.Goals as goal

pub returns : goal.returns
returns c = sym (length-bits_of c.self.inside.words.items c.self.inside.len) ∙ ap length c.self.view_is
