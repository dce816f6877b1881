-- Reading word by word, as a loop does.
use Rattle.std.proofs.Common.{List, ◌++◌, Option}
use Rattle.std.specs.Prelude.{option_map}

-- what was read before, and what is still read
abbrev pub behind_front : {X : Type 0} → List X → Option (List X) → Option (List X)
behind_front front read = option_map (λ more. front ++ more) read
