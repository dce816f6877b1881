use Rattle.std.proofs.Common.{◌≡◌, length, sym, ap, ◌∙◌, rules, tests}
use Rattle.osl_grouptext.proofs.Cut.{words_end, words_go_on}
use Rattle.osl_grouptext.proofs.pieces.push_words.Goals as goal

pub returns-then-is_empty : goal.returns-then-is_empty
returns-then-is_empty c =
    let none : length c.split_at.result.1.now ≡ 0 = search (rules, tests) in
    words_end c.word_len.result c.loop-part.rest.now c.split_at.result.0.now _ _ _ c.word_len.ensures.value c.split_at.ensures.front (ap length (sym c.split_at.ensures.back) ∙ none) c.in_ok-push_word.ensures c.loop-part.invariant

pub loop-part-preserved : goal.loop-part-preserved
loop-part-preserved c =
    words_go_on c.word_len.result c.part_len.result c.loop-part.rest.now c.split_at.result.0.now c.split_at.result.1.now c.split_at-in-loop-part.result.0.now c.split_at-in-loop-part.result.1.now _ _ _ _
    c.word_len.ensures.value c.split_at.ensures.front c.split_at.ensures.back c.part_len.ensures.value c.split_at-in-loop-part.ensures.front c.split_at-in-loop-part.ensures.back
    c.in_ok-push_word.ensures c.in_ok-push_word-2.ensures c.loop-part.invariant
