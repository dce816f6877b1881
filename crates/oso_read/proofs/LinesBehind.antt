-- Whether text stands after a line.
use Rattle.std.proofs.Common.{◌≡◌, ℕ, ◌+◌, ◌-◌, ◌<◌, Bool, true, false, not, ◌||◌, ◌==◌, nat_lt, List, [], ◌∷◌, length, Option, Some, None, refl, sym, ap, ◌∙◌, arith, rules, tests}
use Rattle.std.specs.Prelude.{slice_index}
use Rattle.std.specs.List.{position}
use Rattle.std.specs.Option.{IfSome, ForSome}
use Rattle.std.specs.Str.Lines.{lines}
use Rattle.oso_read.specs.Reading.{is_ended}
use Rattle.oso_read.specs.Spelt.{is_line_feed}
use Rattle.oso_read.specs.Text.{line_count}
use Rattle.oso_read.proofs.FirstLine.{at_line_feed, no_line_feed}

has_lines : (bytes : List ℕ) → 0 < length bytes → 0 < length (lines bytes)
has_lines bytes some = go (position is_line_feed bytes) refl
  where
    go : (o : Option ℕ) → position is_line_feed bytes ≡ o → 0 < length (lines bytes)
    go (Some at) h = omega (arith, ap length (at_line_feed bytes at h))
    go None h = omega (arith, ap length (no_line_feed bytes h some))

-- the line of a number is not the last, where text stands after it
text_behind : (n next : ℕ) (text rest : List ℕ) → next ≡ n + 1 → next + length (lines rest) ≡ line_count text + 1 → nat_lt n (line_count text) ≡ not (length rest == 0)
text_behind n next text [] e f = let past : nat_lt n (line_count text) ≡ false = search (rules, tests) in past
text_behind n next text (c ∷ rest) e f =
    let some = has_lines (c ∷ rest) (omega arith) in
    let before : n < line_count text = omega arith in
    let is : nat_lt n (line_count text) ≡ true = search (rules, tests) in
    let left : (length (c ∷ rest) == 0) ≡ false = search (rules, tests) in
    is ∙ ap (λ (b : Bool). not b) (sym left)

-- a line after which text stands has its line feed
pub ended_before_text : (text rest : List ℕ) (o : Option ℕ) (next : ℕ) (last : Bool) → last ≡ (length rest == 0) → last ≡ false → ForSome o (λ n. next ≡ n + 1)
    → next + length (lines rest) ≡ line_count text + 1 → IfSome o (λ n. not last ≡ is_ended text n)
ended_before_text text rest None next last is behind here after = tt
ended_before_text text rest (Some n) next last is behind here after =
    let feeds = slice_index text (length text - 1) == 10 in
    let before : nat_lt n (line_count text) ≡ true = text_behind n next text rest (here n refl) after ∙ ap (λ (b : Bool). not b) (sym is ∙ behind) in
    ap (λ (b : Bool). not b) behind ∙ sym (ap (λ (b : Bool). b || feeds) before)
