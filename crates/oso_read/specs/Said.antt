-- What a line that the code has split says, and other structs of the code as what they stand for.
use Rattle.std.specs.Prelude.{filter}
use Rattle.oso_read.specs.declared.hints.Said.{Said}
use Rattle.oso_read.specs.declared.symbol_line.HeadLine.{HeadLine}
use Rattle.oso_read.specs.declared.symbol_line.TypedWords.{TypedWords}
use Rattle.oso_read.specs.declared.op_line.OpLine.{OpLine}
use Rattle.oso_read.specs.Hints.{Saying, is_datum}
use Rattle.oso_read.specs.SymbolLine.{Head, Typed}
use Rattle.oso_read.specs.OpLine.{OpWords}
use Rattle.osl_valuetext.specs.Scan.{spoken}

abbrev pub seen : Said → Saying
seen said = record { words = spoken said.words.now; metadata = filter is_datum (spoken said.hints.now) }

abbrev pub head_of : HeadLine → Head
head_of head = record { kind = head.kind; name = head.name; metas = head.metas }

abbrev pub typed_of : TypedWords → Typed
typed_of typed = record { ty = typed.ty; rest = spoken typed.rest.now }

abbrev pub op_words_of : OpLine → OpWords
op_words_of op = record { name = op.name.now; args = spoken op.args.now; jumps = op.jumps.items }
