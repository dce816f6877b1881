use denote.Ref.{Bor}
use Rattle.std.proofs.Common.{ℕ, List, sym}
use Rattle.std.proofs.lemmas.List.{take-map}
use Rattle.osl_grouptext.proofs.statement.front_words.Goals as goal

pub returns-then-count-words : goal.returns-then-count-words
returns-then-count-words c = sym (take-map (λ (word : Bor (List ℕ)). word.now) c.args.count c.args.words.now)
