-- What is read of a file up to a limit.
use Rattle.std.proofs.Common.{◌≡◌, ℕ, ◌+◌, ◌≤◌, ◌<◌, List, ◌++◌, length, take, drop, Option, Some, None, refl, ap, ◌∙◌, arith, length-append}
use Rattle.std.proofs.lemmas.List.{take_all, length-take, length-drop}
use Rattle.std.proofs.KnownBytes.{starts_with_rest}
use Rattle.std.specs.Io.{StartsWith}
use Rattle.std.specs.Option.{option_map, IfSome}
use Rattle.osl_store.specs.Files.{Takes}

-- where fewer came than were asked for, all came
pub takes-all : (known : Option (List ℕ)) (limit most count : ℕ) (old new : List ℕ) → limit < most → count ≤ limit → length new ≡ length old + count
    → StartsWith new old → IfSome (option_map (take most) known) (λ bytes. new ≡ old ++ bytes) → Takes (option_map Some known) limit old new
takes-all None limit most count old new more within grown front all =
    (drop (length old) new, starts_with_rest new old front, omega (arith, within, grown, length-drop (length old) new), _)
takes-all (Some bytes) limit most count old new more within grown front all =
    let taken = take most bytes in
    let short : length bytes ≤ limit = omega (arith, more, within, grown, ap length all, length-append old taken, length-take most bytes) in
    (bytes, all ∙ ap (λ l. old ++ l) (take_all most bytes (omega (arith, short, more))), short, refl)
