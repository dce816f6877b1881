use Rattle.std.proofs.Common.{◌+◌, drop, List, ℕ, ◌∷◌, ap, ◌∙◌, sym}
use Rattle.std.specs.Str.Lines.{lines}
use Rattle.std.proofs.lemmas.List.{take_rest}
use Rattle.osl_lines.proofs.FirstLine.{at_line_feed, no_line_feed}
use Rattle.osl_lines.proofs.lines.first_line.Goals as goal

pub returns-in-Some-clause-lines : goal.returns-in-Some-clause-lines
returns-in-Some-clause-lines c =
    at_line_feed c.args.text.now c.in-Some.at (sym c.line_feed.ensures ∙ c.in-Some.is)
    ∙ ap (λ (line : List ℕ). line ∷ lines (drop (c.in-Some.at + 1) c.args.text.now)) (sym c.without_carriage_return.ensures)
    ∙ ap (λ (rest : List ℕ). c.without_carriage_return.result.now ∷ lines rest) (sym (take_rest c.args.text.now (c.in-Some.at + 1)))

pub returns-in-None-clause-lines : goal.returns-in-None-clause-lines
returns-in-None-clause-lines c = no_line_feed c.args.text.now (sym c.line_feed.ensures ∙ c.in-None.is) c.requires
