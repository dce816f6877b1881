use Rattle.std.proofs.Common.{◌+◌, false, sym, ap, ◌∙◌}
use Rattle.std.proofs.lemmas.List.{take_rest}
use Rattle.osl_tree.specs.Lexical.{block_comment}
use Rattle.osl_lex.specs.Scan.{comment_end}
use Rattle.osl_lex.proofs.Places.{ArePair}
use Rattle.osl_lex.proofs.Standing.{block_comment_at, open_comment_at}
use Rattle.osl_lex.proofs.piece.block_comment_at.Goals as goal

pub returns-in-Some : goal.returns-in-Some
returns-in-Some c =
    let source = c.args.source.now in
    let opens : ArePair source c.args.at 47 42 = record { first = c.requires.first; second = c.requires.second; within = c.requires.within } in
    let found = ap (comment_end 0 false) (sym (take_rest source (c.args.at + 2))) ∙ sym c.in-Some.ensures.value in
    block_comment (c.args.at + 2 + c.in-Some.len) (block_comment_at source c.args.at c.in-Some.len opens found)

pub returns-in-None : goal.returns-in-None
returns-in-None c =
    let source = c.args.source.now in
    let opens : ArePair source c.args.at 47 42 = record { first = c.requires.first; second = c.requires.second; within = c.requires.within } in
    open_comment_at source c.args.at opens (ap (comment_end 0 false) (sym (take_rest source (c.args.at + 2))) ∙ sym c.in-None.ensures.value)
