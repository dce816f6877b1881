-- The loop of a walk over ranges: what it has found so far.
use Rattle.std.proofs.Common.{◌≡◌, ℕ, ◌+◌, ◌<◌, ◌≤◌, ⊎_elim, List, [], ◌++◌, length, Option, Some, None, Bool, true, false, not, refl, sym, ap, ◌∙◌, subst, arith}
use Rattle.std.specs.Prelude.{slice_get, slice_index_or, reverse, nat_le, ◌&&◌, if◌then◌else◌, IsTrue}
use Rattle.std.proofs.lemmas.Bool.{lt-ltb, le-ltb, cases_lt}
use Rattle.std.proofs.lemmas.Option.{slice_get-get_or, slice_get_within}
use Rattle.oso_code.specs.declared.checks.opened.Open.{Open}
use Rattle.oso_code.specs.declared.checks.opened.Inside.{Inside}
use Rattle.oso_code.specs.declared.op.Op.{Op}
use Rattle.oso_code.specs.declared.op.Section.{Section}
use Rattle.oso_code.specs.declared.symbol.Symbol.{Symbol}
use Rattle.oso_code.specs.Faults.{misfits, least}
use Rattle.oso_code.specs.Ops.{section_at}
use Rattle.oso_code.specs.Ranges.{jumps_in_fit}
use Rattle.oso_code.specs.Steps.{Step, step_of, steps_from}
use Rattle.oso_code.specs.Valid.{nests_within, most_nested}
use Rattle.oso_code.specs.Walk.{close, inside_of, open_ranges, opens, fits_inside, section_end, or_deep, if_before}
use Rattle.oso_code.specs.Walked.{AreRangeFaults}
use Rattle.oso_code.proofs.Decoding.{steps_get}
use Rattle.oso_code.proofs.Firsts.{FromOn, FitTo, first_misfit, stops_here, goes_on, all_fit_to, fit_from}
use Rattle.oso_code.proofs.Fitting.{some_same}
use Rattle.oso_code.proofs.Walked.{Stacked, stands_in, close_keeps, close_ahead}
use Rattle.oso_code.proofs.OpeningOps.{op_keeps}
use Rattle.oso_code.proofs.RangeWalk.{fit_is, fits_jumps, nest_is}

-- the first op that nests too deep among the first k
abbrev pub DeepTo : List Step → ℕ → Option ℕ → Type 0
DeepTo steps k None = FitTo (nests_within steps) steps k
DeepTo steps k (Some p) = (p < k) × FitTo (nests_within steps) steps p × ((step : Step) × (slice_get steps p ≡ Some step) × (nests_within steps p step ≡ false))

before_from : (k : ℕ) (o : Option ℕ) → FromOn k o → None ≡ if_before k o
before_from k None h = refl
before_from k (Some p) h = sym (ap (λ b. if b then Some p else None) (le-ltb p k h))

pub deep_is : (steps : List Step) (k : ℕ) (o : Option ℕ) → DeepTo steps k o → o ≡ if_before k (least (misfits (nests_within steps) 0 steps))
deep_is steps k None h = before_from k (least (misfits (nests_within steps) 0 steps)) (fit_from (nests_within steps) steps k h)
deep_is steps k (Some p) h =
    sym (ap (if_before k) (first_misfit (nests_within steps) steps p h.2.0 h.1 h.2.1 h.2.2) ∙ ap (λ b. if b then Some p else None) (lt-ltb p k h.0))

deep_next : (steps : List Step) (k : ℕ) (o : Option ℕ) (op : Op) (inside : Inside) (step : Step) → slice_get steps k ≡ Some step → nests_within steps k step ≡ not (opens op.name op.args op.jumps && nat_le most_nested inside.depth) → DeepTo steps k o → DeepTo steps (k + 1) (or_deep o op inside k)
deep_next steps k (Some p) op inside step is nest h = (let l = h.0 in omega (arith, l), h.1, h.2)
deep_next steps k None op inside step is nest h = go (opens op.name op.args op.jumps && nat_le most_nested inside.depth) refl
  where
    lt : k < length steps
    lt = slice_get_within steps k step is

    go : (b : Bool) → (opens op.name op.args op.jumps && nat_le most_nested inside.depth) ≡ b → DeepTo steps (k + 1) (if b then Some k else None)
    go true e = (omega arith, h, (step, is, nest ∙ ap not e))
    go false e = λ j other below at.
        ⊎_elim (λ (lower : j < k). h j other lower at) (λ (above : k ≤ j).
        let same : j ≡ k = omega (arith, below, above) in
        let found = some_same step other (sym is ∙ ap (slice_get steps) (sym same) ∙ at) in
        subst (λ i. IsTrue (nests_within steps i other)) (sym same) (subst (λ z. IsTrue (nests_within steps k z)) found (nest ∙ ap not e))) (cases_lt j k)

-- what the walk knows before op k, whatever the symbols are
pub record Walking (symbols : List Symbol) (sections : List Section) (ops : List Op) (k : ℕ) (stack : List Open) (deep : Option ℕ) : Type 0 where
  pub stacked : Stacked (steps_from symbols 0 ops) k (reverse stack)
  pub fits : FitTo (jumps_in_fit symbols sections (steps_from symbols 0 ops)) ops k
  pub deep_to : DeepTo (steps_from symbols 0 ops) k deep

pub walk_begins : (symbols : List Symbol) (sections : List Section) (ops : List Op) → Walking symbols sections ops 0 [] None
walk_begins symbols sections ops = record {
  stacked = record { same = λ j from. refl; held = tt; begun = tt };
  fits = λ j op lt is. absurd (omega arith);
  deep_to = λ j step lt is. absurd (omega arith);
}

module _ (symbols : List Symbol) (sections : List Section) (ops : List Op) (k : ℕ) (stack : List Open) (deep : Option ℕ) (walking : Walking symbols sections ops k stack deep) where
  abbrev steps : List Step
  steps = steps_from symbols 0 ops

  -- all ops were passed
  pub walk_ends : k ≡ length ops → AreRangeFaults symbols sections ops (record { jump = None; deep = deep })
  walk_ends e = record {
    jump = all_fit_to (jumps_in_fit symbols sections steps) ops k walking.fits (omega (arith, e));
    deep = deep_is steps k deep walking.deep_to ∙ ap (λ n. if_before n (least (misfits (nests_within steps) 0 steps))) e;
  }

  module _ (op : Op) (lt : k < length ops) (is : op ≡ slice_index_or ops k op) where
    there : slice_get ops k ≡ Some op
    there = slice_get-get_or ops k op lt ∙ ap Some (sym is)

    step_there : slice_get steps k ≡ Some (step_of symbols k op)
    step_there = steps_get symbols ops k op there

    abbrev closed : List Open
    closed = close k (reverse stack)

    closed_stacked : Stacked steps k closed
    closed_stacked = close_keeps steps k (reverse stack) walking.stacked

    abbrev inside_here : Inside
    inside_here = inside_of (section_end (section_at sections k)) closed

    fit : jumps_in_fit symbols sections steps k op ≡ fits_inside op k (section_at sections k) inside_here
    fit = fit_is symbols sections steps k closed closed_stacked (close_ahead k (reverse stack)) op

    pub walk_depth : inside_here.depth ≤ k
    walk_depth = (stands_in k closed (section_end (section_at sections k)) closed_stacked.held closed_stacked.begun (close_ahead k (reverse stack))).low

    -- the op's jumps do not fit
    pub walk_stops : fits_inside op k (section_at sections k) inside_here ≡ false → AreRangeFaults symbols sections ops (record { jump = Some k; deep = deep })
    walk_stops h = record {
      jump = stops_here (jumps_in_fit symbols sections steps) ops k op walking.fits lt is (fit ∙ h);
      deep = deep_is steps k deep walking.deep_to;
    }

    -- they fit
    pub walk_goes : (after : List Open) → IsTrue (fits_inside op k (section_at sections k) inside_here) → reverse after ≡ open_ranges inside_here k op.name op.args op.jumps ++ closed → Walking symbols sections ops (k + 1) after (or_deep deep op inside_here k)
    walk_goes after h grown = record {
      stacked = subst (Stacked steps (k + 1)) (sym grown) (op_keeps steps k closed (section_end (section_at sections k)) closed_stacked (close_ahead k (reverse stack)) symbols op (fits_jumps symbols sections steps k closed closed_stacked (close_ahead k (reverse stack)) op h) step_there);
      fits = goes_on (jumps_in_fit symbols sections steps) ops k op walking.fits lt is (fit ∙ h);
      deep_to = deep_next steps k deep op inside_here (step_of symbols k op) step_there (nest_is symbols sections steps k closed closed_stacked (close_ahead k (reverse stack)) op) walking.deep_to;
    }
