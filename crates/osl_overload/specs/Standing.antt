-- How candidates stand after one more.
use Rattle.std.specs.Prelude.{ℕ, Option, None, Some, nat_lt, if◌then◌else◌}
use Rattle.osl_overload.specs.declared.standing.Standing.{Standing}
use Rattle.osl_overload.specs.declared.standing.Standing.TheVariants.{Nobody, One, Tie}

abbrev pub stands : ℕ → Option ℕ → Standing → Standing
stands i None so_far = so_far
stands i (Some cost) Nobody = One i cost
stands i (Some cost) (One j least) =
    if nat_lt cost least then One i cost else if nat_lt least cost then One j least else Tie least
stands i (Some cost) (Tie least) = if nat_lt cost least then One i cost else Tie least
