use Rattle.std.proofs.Common.{◌+◌, false, sym, ap, ◌∙◌}
use Rattle.std.proofs.lemmas.List.{take_rest}
use Rattle.osl_lex.specs.Scan.{string_end}
use Rattle.osl_lex.proofs.Standing.{string_at, open_string_at}
use Rattle.osl_lex.proofs.piece.string_at.Goals as goal

pub returns-in-Some : goal.returns-in-Some
returns-in-Some c =
    let source = c.args.source.now in
    let found = ap (string_end 0 false) (sym (take_rest source (c.args.at + 1))) ∙ sym c.in-Some.ensures.value in
    string_at source c.args.at c.in-Some.len c.requires.within c.requires.first found

pub returns-in-None : goal.returns-in-None
returns-in-None c =
    let source = c.args.source.now in
    open_string_at source c.args.at c.requires.within c.requires.first (ap (string_end 0 false) (sym (take_rest source (c.args.at + 1))) ∙ sym c.in-None.ensures.value)
