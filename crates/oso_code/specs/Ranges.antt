-- Where the ranges of control ops may end, and where `break` and `continue` may be (oso text, control ops and validity).
use Rattle.std.specs.Prelude.{ℕ, ◌+◌, nat_lt, nat_le, Bool, true, false, ◌&&◌, List, [], ◌∷◌, filter, flat_map, reverse, take, Option, Some, None}
use Rattle.std.specs.List.{list_all}
use Rattle.oso_code.specs.declared.checks.role.Role.{Role}
use Rattle.oso_code.specs.declared.checks.role.Role.TheVariants.{LoopBody, CallBody, Part}
use Rattle.oso_code.specs.declared.op.Op.{Op}
use Rattle.oso_code.specs.declared.op.Section.{Section}
use Rattle.oso_code.specs.declared.raw.Raw.{Raw}
use Rattle.oso_code.specs.declared.symbol.Symbol.{Symbol}
use Rattle.oso_code.specs.Faults.{misfits}
use Rattle.oso_code.specs.Ops.{section_at}
use Rattle.oso_code.specs.Steps.{Span, Way, Break, Continue, Return, Exit, Step, Compute, Branch, Loop, Call, Leave, step_of, steps_from}

pub record Ranged : Type 0 where
  pub role : Role
  pub span : Span

abbrev pub ranged : Role → Span → Ranged
ranged role span = record { role = role; span = span }

-- the ranges that an op runs, as they follow each other
abbrev pub ranges_of : Step → List Ranged
ranges_of (Compute name ty target sources) = []
ranges_of (Branch c holds fails) = ranged Part holds ∷ ranged Part fails ∷ []
ranges_of (Loop true c test body step) = ranged Part test ∷ ranged LoopBody body ∷ ranged Part step ∷ []
ranges_of (Loop false c test body step) = ranged LoopBody body ∷ ranged Part test ∷ ranged Part step ∷ []
ranges_of (Call body) = ranged CallBody body ∷ []
ranges_of (Leave way) = []

abbrev pub contains : ℕ → Ranged → Bool
contains k r = nat_le r.span.start k && nat_lt k r.span.end

-- the ranges of earlier ops that a place is in, the innermost first
abbrev pub around : List Step → ℕ → List Ranged
around steps k = filter (contains k) (flat_map ranges_of (reverse (take k steps)))

-- each jump is at least the place before it
abbrev pub ascends : ℕ → List ℕ → Bool
ascends from [] = true
ascends from (jump ∷ jumps) = nat_le from jump && ascends jump jumps

-- where the range around an op goes on after it
abbrev pub reach : ℕ → List ℕ → ℕ
reach from [] = from
reach from (jump ∷ jumps) = reach jump jumps

abbrev pub ends_in_section : ℕ → Option Section → Bool
ends_in_section end None = false
ends_in_section end (Some section) = nat_le end section.end

-- whether a range of the role lies in a loop's body, where the range around it does or does not
abbrev pub in_body : Role → Bool → Bool
in_body LoopBody within = true
in_body CallBody within = false
in_body Part within = within

-- whether the innermost body is a loop's
abbrev pub in_loop_body : List Ranged → Bool
in_loop_body [] = false
in_loop_body (r ∷ rs) = in_body r.role (in_loop_body rs)

-- `break` and `continue` are in a loop's body, with no call between
abbrev pub way_fits : List Ranged → Way → Bool
way_fits ranges Break = in_loop_body ranges
way_fits ranges Continue = in_loop_body ranges
way_fits ranges Return = true
way_fits ranges Exit = true

abbrev pub leaving_fits : List Ranged → Step → Bool
leaving_fits ranges (Compute name ty target sources) = true
leaving_fits ranges (Branch c holds fails) = true
leaving_fits ranges (Loop tested c test body step) = true
leaving_fits ranges (Call body) = true
leaving_fits ranges (Leave way) = way_fits ranges way

-- a range lies within its section and within the range that holds the op
abbrev pub jumps_in_fit : List Symbol → List Section → List Step → ℕ → Op → Bool
jumps_in_fit symbols sections steps at op =
    (ascends (at + 1) op.jumps && ends_in_section (reach (at + 1) op.jumps) (section_at sections at))
    && (list_all (λ r. nat_le (reach (at + 1) op.jumps) r.span.end) (around steps at) && leaving_fits (around steps at) (step_of symbols at op))

abbrev pub jumps_fit : Raw → List Step → ℕ → Op → Bool
jumps_fit raw steps at op = jumps_in_fit raw.symbols raw.sections steps at op

abbrev pub steps_of : Raw → List Step
steps_of raw = steps_from raw.symbols 0 raw.ops

abbrev pub jump_faults : Raw → List ℕ
jump_faults raw = misfits (jumps_fit raw (steps_of raw)) 0 raw.ops
