use Rattle.std.proofs.Common.{◌≡◌, false, rules}
use Rattle.oso_read.proofs.LinesBehind.{ended_before_text}
use Rattle.oso_read.proofs.parts.is_ended.Goals as goal

pub returns-then-not-is_last-clause-value : goal.returns-then-not-is_last-clause-value
returns-then-not-is_last-clause-value c =
    let reader = c.args.reader.now in
    let behind : c.is_last.result ≡ false = search rules in
    ended_before_text c.args.text.now reader.lines.rest.now reader.number reader.lines.number c.is_last.result c.is_last.ensures behind reader.here c.requires
