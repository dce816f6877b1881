use denote.Ref.{Bor}
use Rattle.std.proofs.Common.{ℕ, List, sym, ap, ◌∙◌}
use Rattle.std.proofs.lemmas.List.{drop-map, take_rest}
use Rattle.osl_valuetext.specs.Scan.{spoken}
use Rattle.osl_grouptext.proofs.statement.later_words.Goals as goal

pub returns-then-count-words : goal.returns-then-count-words
returns-then-count-words c = ap spoken (take_rest c.args.words.now c.args.count) ∙ sym (drop-map (λ (word : Bor (List ℕ)). word.now) c.args.count c.args.words.now)
