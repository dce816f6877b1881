use Rattle.std.proofs.Common.{ℕ, ◌≡◌, ◌+◌, length}
use Rattle.oso_read.proofs.Numbering.{for_some, for_none}
use Rattle.oso_read.proofs.reader.Reader.advance.Goals as goal

pub invariant_of-self-2 : goal.invariant_of-self-2
invariant_of-self-2 c =
    let lines = c.next.new.self in
    record {
      here = for_some c.in_ok-number.number (λ (n : ℕ). lines.number ≡ n + 1) c.in_ok-number.ensures.here;
      ended = for_none c.in_ok-number.number (length lines.rest.now ≡ 0) c.in_ok-number.ensures.ended;
    }
