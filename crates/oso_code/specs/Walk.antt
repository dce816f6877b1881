-- A walk over ops with the ranges that are open, the innermost first.
use Rattle.std.specs.Prelude.{ℕ, ◌+◌, nat_lt, nat_le, Bool, true, false, ◌&&◌, if◌then◌else◌, List, [], ◌∷◌, Option, Some, None}
use Rattle.osl_value.specs.declared.op_name.OpName.{OpName}
use Rattle.osl_value.specs.declared.op_name.OpName.TheVariants as O
use Rattle.oso_code.specs.declared.checks.opened.Open.{Open}
use Rattle.oso_code.specs.declared.checks.opened.Inside.{Inside}
use Rattle.oso_code.specs.declared.checks.role.Role.{Role}
use Rattle.oso_code.specs.declared.checks.role.Role.TheVariants.{LoopBody, CallBody, Part}
use Rattle.oso_code.specs.declared.op.Op.{Op}
use Rattle.oso_code.specs.declared.op.Section.{Section}
use Rattle.oso_code.specs.Ranges.{in_body, ascends, reach, ends_in_section}
use Rattle.oso_code.specs.Valid.{most_nested}

-- without the ranges that end at a place or before it
abbrev pub close : ℕ → List Open → List Open
close at [] = []
close at (range ∷ below) = if nat_lt at range.end then range ∷ below else close at below

-- what the place is in, where the section ends at `end`
abbrev pub inside_of : ℕ → List Open → Inside
inside_of end [] = record { end = end; depth = 0; in_loop = false }
inside_of end (range ∷ below) = record { end = range.end; depth = range.depth; in_loop = range.in_loop }

-- a range of an op
abbrev pub entered : Inside → Role → ℕ → ℕ → Open
entered inside role start end = record { start = start; end = end; role = role; depth = inside.depth + 1; in_loop = in_body role inside.in_loop }

abbrev pub open_two : Inside → ℕ → Role → Role → List ℕ → List ℕ → List Open
open_two inside at first second (c ∷ []) (a ∷ e ∷ []) = entered inside first (at + 1) a ∷ entered inside second a e ∷ []
open_two inside at first second args jumps = []

abbrev pub open_three : Inside → ℕ → List ℕ → List ℕ → List Open
open_three inside at (c ∷ []) (a ∷ s ∷ e ∷ []) = entered inside Part (at + 1) a ∷ entered inside LoopBody a s ∷ entered inside Part s e ∷ []
open_three inside at args jumps = []

abbrev pub open_one : Inside → ℕ → List ℕ → List ℕ → List Open
open_one inside at [] (e ∷ []) = entered inside CallBody (at + 1) e ∷ []
open_one inside at args jumps = []

-- the ranges of an op that are not empty by its form, as they follow each other
abbrev pub open_ranges : Inside → ℕ → OpName → List ℕ → List ℕ → List Open
open_ranges inside at O.If args jumps = open_two inside at Part Part args jumps
open_ranges inside at O.While args jumps = open_two inside at Part LoopBody args jumps
open_ranges inside at O.For args jumps = open_three inside at args jumps
open_ranges inside at O.DoWhile args jumps = open_two inside at LoopBody Part args jumps
open_ranges inside at O.FunctionCall args jumps = open_one inside at args jumps
open_ranges inside at _ args jumps = []

-- whether an op has ranges
abbrev pub opens_two : List ℕ → List ℕ → Bool
opens_two (c ∷ []) (a ∷ e ∷ []) = true
opens_two args jumps = false

abbrev pub opens_three : List ℕ → List ℕ → Bool
opens_three (c ∷ []) (a ∷ s ∷ e ∷ []) = true
opens_three args jumps = false

abbrev pub opens_one : List ℕ → List ℕ → Bool
opens_one [] (e ∷ []) = true
opens_one args jumps = false

abbrev pub opens : OpName → List ℕ → List ℕ → Bool
opens O.If args jumps = opens_two args jumps
opens O.While args jumps = opens_two args jumps
opens O.For args jumps = opens_three args jumps
opens O.DoWhile args jumps = opens_two args jumps
opens O.FunctionCall args jumps = opens_one args jumps
opens _ args jumps = false

-- `break` and `continue` are in a loop's body
abbrev pub may_leave : OpName → Bool → Bool
may_leave O.Break within = within
may_leave O.Continue within = within
may_leave _ within = true

-- the jumps of an op fit what it is in
abbrev pub fits_inside : Op → ℕ → Option Section → Inside → Bool
fits_inside op at section inside =
    (ascends (at + 1) op.jumps && ends_in_section (reach (at + 1) op.jumps) section)
    && (nat_le (reach (at + 1) op.jumps) inside.end && may_leave op.name inside.in_loop)

-- a place, if it is there and comes before another
abbrev pub if_before : ℕ → Option ℕ → Option ℕ
if_before n None = None
if_before n (Some p) = if nat_lt p n then Some p else None

-- the section's end, where there is one
abbrev pub section_end : Option Section → ℕ
section_end None = 0
section_end (Some section) = section.end

-- the first op whose ranges nest too deep, with one op more
abbrev pub or_deep : Option ℕ → Op → Inside → ℕ → Option ℕ
or_deep (Some p) op inside at = Some p
or_deep None op inside at = if opens op.name op.args op.jumps && nat_le most_nested inside.depth then Some at else None
