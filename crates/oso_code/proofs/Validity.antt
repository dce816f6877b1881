-- Code is valid exactly where it has no flaw.
use Rattle.std.proofs.Common.{◌≡◌, ◌++◌, Option, None, refl, sym, ◌∙◌, ℕ, List, [], ◌∷◌, length, true, false, Some, ap, arith}
use Rattle.std.specs.Prelude.{is_none, is_some, if◌then◌else◌, IsTrue}
use Rattle.std.proofs.lemmas.Bool.{lt-ltb}
use Rattle.oso_code.specs.declared.error.FlawKind.{FlawKind}
use Rattle.oso_code.specs.declared.error.FlawKind.TheVariants as K
use Rattle.oso_code.specs.declared.raw.Raw.{Raw}
use Rattle.oso_code.specs.Faults.{misfits, unless, lesser, least}
use Rattle.oso_code.specs.Ops.{op_at_fits}
use Rattle.oso_code.specs.Ranges.{jumps_fit, jump_faults, steps_of}
use Rattle.oso_code.specs.Sections.{section_faults, op_faults}
use Rattle.oso_code.specs.Symbols.{is_empty, header_fits, symbol_at_fits, symbol_faults}
use Rattle.oso_code.specs.Valid.{nests_within, deep_faults, Flaw, first_of, first_flaw, fits_limits, IsValid, ValidityIsExact}
use Rattle.oso_code.specs.Walk.{if_before}
use Rattle.oso_code.proofs.Decoding.{length_steps}
use Rattle.oso_code.proofs.Firsts.{Below, misfits_within}
use Rattle.oso_code.proofs.Fitting.{unless_none, none_unless, both_none, first_none, none_first, each_fits, all_fit}

abbrev limits_flaw : Raw → Option Flaw
limits_flaw raw = first_of K.Limit (unless (fits_limits raw) 0) None

abbrev jumps_flaw : Raw → Option Flaw
jumps_flaw raw = first_of K.Jump (jump_faults raw) (limits_flaw raw)

abbrev ops_flaw : Raw → Option Flaw
ops_flaw raw = first_of K.Op (op_faults raw) (jumps_flaw raw)

flaw_is : (raw : Raw) → first_flaw raw ≡ first_of K.Symbol (symbol_faults raw) (ops_flaw raw)
unfolding first_flaw
flaw_is raw = refl

pub flawless_valid : (raw : Raw) → first_flaw raw ≡ None → IsValid raw
flawless_valid raw h =
    let symbols = first_none K.Symbol (symbol_faults raw) (ops_flaw raw) (sym (flaw_is raw) ∙ h) in
    let ops = first_none K.Op (op_faults raw) (jumps_flaw raw) symbols.1 in
    let jumps = first_none K.Jump (jump_faults raw) (limits_flaw raw) ops.1 in
    let limits = first_none K.Limit (unless (fits_limits raw) 0) None jumps.1 in
    let names = both_none (unless (header_fits raw) 0) (misfits (symbol_at_fits raw.symbols) 0 raw.symbols) symbols.0 in
    let places = both_none (misfits (op_at_fits raw) 0 raw.ops) (section_faults raw raw.sections) ops.0 in
    record {
      header = unless_none (header_fits raw) 0 names.0;
      symbols = each_fits (symbol_at_fits raw.symbols) raw.symbols names.1;
      ops = each_fits (op_at_fits raw) raw.ops places.0;
      sections = places.1;
      jumps = each_fits (jumps_fit raw (steps_of raw)) raw.ops jumps.0;
      limits = unless_none (fits_limits raw) 0 limits.0;
    }

pub valid_flawless : (raw : Raw) → IsValid raw → first_flaw raw ≡ None
valid_flawless raw v =
    flaw_is raw
    ∙ none_first K.Symbol (symbol_faults raw) (ops_flaw raw) ((λ j. none_unless (header_fits raw) 0 v.header j ++ all_fit (symbol_at_fits raw.symbols) raw.symbols v.symbols j))
    ∙ none_first K.Op (op_faults raw) (jumps_flaw raw) ((λ j. all_fit (op_at_fits raw) raw.ops v.ops j ++ v.sections j))
    ∙ none_first K.Jump (jump_faults raw) (limits_flaw raw) (all_fit (jumps_fit raw (steps_of raw)) raw.ops v.jumps)
    ∙ none_first K.Limit (unless (fits_limits raw) 0) None (none_unless (fits_limits raw) 0 v.limits)

pub validity_exact : ValidityIsExact
validity_exact raw = (valid_flawless raw, flawless_valid raw)

-- ---- the first flaw, kind by kind

first_some : (kind : FlawKind) (faults : List ℕ) (later : Option Flaw) (at : ℕ) → least faults ≡ Some at → first_of kind faults later ≡ Some (kind, at)
first_some kind faults later at h = ap (λ o. elim o as (λ _. Option Flaw) [ None ↦ later | Some p ↦ Some (kind, p) ]) h

first_later : (kind : FlawKind) (faults : List ℕ) (later : Option Flaw) → least faults ≡ None → first_of kind faults later ≡ later
first_later kind faults later h = ap (λ o. elim o as (λ _. Option Flaw) [ None ↦ later | Some p ↦ Some (kind, p) ]) h

module _ (raw : Raw) where
  pub symbol_flaw : (at : ℕ) → least (symbol_faults raw) ≡ Some at → first_flaw raw ≡ Some (K.Symbol, at)
  symbol_flaw at h = flaw_is raw ∙ first_some K.Symbol (symbol_faults raw) (ops_flaw raw) at h

  module _ (no_symbol : least (symbol_faults raw) ≡ None) where
    past_symbols : first_flaw raw ≡ ops_flaw raw
    past_symbols = flaw_is raw ∙ first_later K.Symbol (symbol_faults raw) (ops_flaw raw) no_symbol

    pub op_flaw : (at : ℕ) → least (op_faults raw) ≡ Some at → first_flaw raw ≡ Some (K.Op, at)
    op_flaw at h = past_symbols ∙ first_some K.Op (op_faults raw) (jumps_flaw raw) at h

    module _ (no_op : least (op_faults raw) ≡ None) where
      past_ops : first_flaw raw ≡ jumps_flaw raw
      past_ops = past_symbols ∙ first_later K.Op (op_faults raw) (jumps_flaw raw) no_op

      pub jump_flaw : (at : ℕ) → least (jump_faults raw) ≡ Some at → first_flaw raw ≡ Some (K.Jump, at)
      jump_flaw at h = past_ops ∙ first_some K.Jump (jump_faults raw) (limits_flaw raw) at h

      module _ (no_jump : least (jump_faults raw) ≡ None) where
        past_jumps : first_flaw raw ≡ limits_flaw raw
        past_jumps = past_ops ∙ first_later K.Jump (jump_faults raw) (limits_flaw raw) no_jump

        pub limit_flaw : fits_limits raw ≡ false → first_flaw raw ≡ Some (K.Limit, 0)
        limit_flaw h = past_jumps ∙ first_some K.Limit (unless (fits_limits raw) 0) None 0 (ap (λ b. least (unless b 0)) h)

        pub no_flaw : fits_limits raw ≡ true → first_flaw raw ≡ None
        no_flaw h = past_jumps ∙ first_later K.Limit (unless (fits_limits raw) 0) None (ap (λ b. least (unless b 0)) h)

        -- nothing nests too deep where the walk found nothing
        pub deep_none : (deep : Option ℕ) → deep ≡ if_before (length raw.ops) (least (deep_faults raw)) → is_none deep ≡ is_empty (deep_faults raw)
        deep_none deep is = ap is_none is ∙ beyond (deep_faults raw) refl (misfits_within (nests_within (steps_of raw)) (steps_of raw))
          where
            beyond : (faults : List ℕ) → faults ≡ faults → Below (length (steps_of raw)) (least faults) → is_none (if_before (length raw.ops) (least faults)) ≡ is_empty faults
            beyond [] same below = refl
            beyond (p ∷ ps) same below = there (p ∷ ps) (lesser p (least ps)) (is_there p (least ps)) below
              where
                there : (faults : List ℕ) (o : Option ℕ) → IsTrue (is_some o) → Below (length (steps_of raw)) o → is_none (if_before (length raw.ops) o) ≡ false
                there faults None h below = absurd (cc h)
                there faults (Some m) h below =
                    let n = length_steps raw.symbols 0 raw.ops in
                    ap (λ b. is_none (if b then Some m else None)) (lt-ltb m (length raw.ops) (omega (arith, n, below)))

                is_there : (n : ℕ) (o : Option ℕ) → IsTrue (is_some (lesser n o))
                is_there n None = refl
                is_there n (Some m) = refl
