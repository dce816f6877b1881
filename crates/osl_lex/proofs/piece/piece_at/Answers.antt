use Rattle.std.proofs.Common.{◌+◌, Some, slice_index, sym, ap, subst, ◌∙◌, arith, rules}
use Rattle.std.proofs.lemmas.Bool.{ne_eqb, false≢true}
use Rattle.std.proofs.lemmas.List.{take_rest}
use Rattle.osl_tree.specs.declared.token.TokenKind.TheVariants as kinds
use Rattle.osl_tree.specs.Lexical.{is_blank, begins_word, IsGap, IsTokenAt, line_comment, directive, bad_byte}
use Rattle.osl_lex.specs.Scan.{line_len, word_len}
use Rattle.osl_lex.specs.Signs.{longest_mark}
use Rattle.osl_lex.proofs.Places.{ArePair, get_index}
use Rattle.osl_lex.proofs.Standing.{token_of, first_read, second_read, read_within, only_marks, no_comment_read, blank_at, line_comment_at, word_at, mark_at, no_mark_at}
use Rattle.osl_lex.proofs.piece.piece_at.Goals as goal
use Rattle.osl_lex.proofs.piece.piece_at.Goals.{else-first-eq35-via-then-first-eq35+else-begins_line, else-first-eq35-via-else-first-eq35}

pub returns-then-is_blank : goal.returns-then-is_blank
returns-then-is_blank c =
    let source = c.args.source.now in
    let first = first_read source c.args.at c.byte_at-first.result c.byte_at-first.ensures in
    blank_at source c.args.at c.requires (ap is_blank (sym first) ∙ sym c.if-is_blank.ensures)

pub returns-then-second-eq47 : goal.returns-then-second-eq47
returns-then-second-eq47 c =
    let source = c.args.source.now in
    let at = c.args.at in
    let first = first_read source at c.byte_at-first.result c.byte_at-first.ensures in
    let second = second_read source at c.byte_at-second.result c.byte_at-second.ensures in
    let opens : ArePair source at 47 47 = record {
      first = sym first ∙ c.if-first-eq47.true;
      second = sym second ∙ c.if-second-eq47.true;
      within = read_within source (at + 1) c.byte_at-second.result second (omega arith);
    } in
    let len = c.line_len.ensures.value ∙ ap line_len (take_rest source at) in
    line_comment (at + c.line_len.result) (subst (λ n. Rattle.osl_tree.specs.Lexical.IsLineComment source at (at + n)) (sym len) (line_comment_at source at opens))

pub returns-then-begins_word : goal.returns-then-begins_word
returns-then-begins_word c =
    let source = c.args.source.now in
    let at = c.args.at in
    let first = first_read source at c.byte_at-first.result c.byte_at-first.ensures in
    let len = c.word_len.ensures.value ∙ ap word_len (take_rest source at) in
    subst (λ n. IsTokenAt source at (token_of kinds.Word at (at + n))) (sym len) (word_at source at c.requires (ap begins_word (sym first) ∙ sym c.if-begins_word.ensures))

pub returns-in-Some : goal.returns-in-Some
returns-in-Some c =
    let source = c.args.source.now in
    let at = c.args.at in
    let first = first_read source at c.byte_at-first.result c.byte_at-first.ensures in
    let second = second_read source at c.byte_at-second.result c.byte_at-second.ensures in
    let only = only_marks source at _ _ first second (sym c.if-begins_word.ensures) c.if-first-eq34.false (sym c.if-begins_number.ensures) in
    let no_comment = no_comment_read source at _ _ first second c.else-first-eq47.either c.else-first-eq47-2.either in
    mark_at source at c.in-Some.mark c.in-Some.len c.requires only no_comment (ap longest_mark (sym (take_rest source at)) ∙ sym c.in-Some.ensures.value)

pub returns-then-begins_line : goal.returns-then-begins_line
returns-then-begins_line c =
    let source = c.args.source.now in
    let at = c.args.at in
    let first = first_read source at c.byte_at-first.result c.byte_at-first.ensures in
    directive (get_index source at c.requires ∙ ap Some (sym first ∙ c.if-first-eq35.true)) (c.if-begins_line.ensures.0 (search rules))

pub returns-else-first-eq35 : goal.returns-else-first-eq35
returns-else-first-eq35 c =
    let source = c.args.source.now in
    let at = c.args.at in
    let first = first_read source at c.byte_at-first.result c.byte_at-first.ensures in
    let second = second_read source at c.byte_at-second.result c.byte_at-second.ensures in
    let only = only_marks source at _ _ first second (sym c.if-begins_word.ensures) c.if-first-eq34.false (sym c.if-begins_number.ensures) in
    bad_byte (slice_index source at) (get_index source at c.requires) (ap is_blank (sym first) ∙ sym c.if-is_blank.ensures) (ne_eqb _ 34 only.no_quote)
    (no_mark_at source at c.requires only (ap longest_mark (sym (take_rest source at)) ∙ sym c.in_default.ensures.value))
    (elim c.else-first-eq35.branch [
      | else-first-eq35-via-then-first-eq35+else-begins_line w ↦ λ same begins. false≢true (w.if-begins_line.ensures.1 begins)
      | else-first-eq35-via-else-first-eq35 w ↦ λ same begins. w.if-first-eq35.false (first ∙ same)
    ])
