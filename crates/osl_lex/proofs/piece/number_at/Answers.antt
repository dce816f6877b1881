use Rattle.std.proofs.Common.{◌+◌, take, drop, sym, ap, subst, ◌∙◌}
use Rattle.std.proofs.lemmas.List.{take_rest}
use Rattle.osl_lex.specs.Scan.{number_len}
use Rattle.osl_lex.specs.Value.{number_of}
use Rattle.osl_tree.specs.Lexical.{IsTokenAt}
use Rattle.osl_lex.proofs.Standing.{token_of, number_at, bad_number_at}
use Rattle.osl_lex.proofs.piece.number_at.Goals as goal

pub returns-in-Some : goal.returns-in-Some
returns-in-Some c =
    let source = c.args.source.now in
    let at = c.args.at in
    let len = c.number_len-len.ensures.value ∙ ap number_len (take_rest source at) in
    let found = ap (λ n. number_of (take n (drop at source))) (sym len) ∙ ap (λ xs. number_of (take c.number_len-len.result xs)) (sym (take_rest source at)) ∙ sym c.in-Some.ensures in
    subst (λ n. IsTokenAt source at (token_of c.in-Some.kind at (at + n))) (sym len) (number_at source at c.in-Some.kind c.requires.within c.requires.begins found)

pub returns-in-None : goal.returns-in-None
returns-in-None c =
    let source = c.args.source.now in
    let at = c.args.at in
    let len = c.number_len-len.ensures.value ∙ ap number_len (take_rest source at) in
    let found = ap (λ n. number_of (take n (drop at source))) (sym len) ∙ ap (λ xs. number_of (take c.number_len-len.result xs)) (sym (take_rest source at)) ∙ sym c.in-None.ensures in
    bad_number_at source at c.requires.within c.requires.begins found
