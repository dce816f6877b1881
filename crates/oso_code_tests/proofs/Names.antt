-- Names, and which flaw of several is told.
use Rattle.std.proofs.Common.{◌≡◌, ℕ, refl, ap, ◌∙◌}
use Rattle.std.specs.Prelude.{Bool, true, false, ◌++◌, List, [], ◌∷◌, codes, filter, map, replicate, Option, None, Some}
use Rattle.std.specs.List.{range_with_len}
use Rattle.osl_value.specs.declared.types.Base.TheVariants as base
use Rattle.osl_value.specs.declared.types.Ty.{Ty}
use Rattle.osl_value.specs.Types.{only}
use Rattle.oso_code.specs.declared.error.FlawKind.{FlawKind}
use Rattle.oso_code.specs.declared.error.FlawKind.TheVariants as flaw
use Rattle.oso_code.specs.declared.raw.Raw.{Raw}
use Rattle.oso_code.specs.declared.symbol.Class.{Class}
use Rattle.oso_code.specs.declared.symbol.Class.TheVariants as class
use Rattle.oso_code.specs.Faults.{least, unless}
use Rattle.oso_code.specs.Names.{is_name, begins_name, continues_name, main_name}
use Rattle.oso_code.specs.Ranges.{jump_faults}
use Rattle.oso_code.specs.Sections.{op_faults}
use Rattle.oso_code.specs.Symbols.{symbol_faults, is_parameter, is_global, global_fits, has_value}
use Rattle.oso_code.specs.Valid.{Flaw, fits_limits, first_flaw, first_of, most_ops, most_symbols, most_slots, most_nested}

-- ---- names

abbrev bytes_that : (ℕ → Bool) → List ℕ
bytes_that test = filter test (range_with_len 0 256)

abbrev capitals : List ℕ
capitals = range_with_len 65 26

abbrev letters : List ℕ
letters = range_with_len 97 26

first_bytes : bytes_that begins_name ≡ 36 ∷ capitals ++ 95 ∷ letters
first_bytes = refl

further_bytes : bytes_that continues_name ≡ 36 ∷ 46 ∷ range_with_len 48 10 ++ capitals ++ 95 ∷ letters
further_bytes = refl

names : map is_name (codes "a" ∷ codes "_" ∷ codes "$1" ∷ codes "a$b" ∷ codes "a.b" ∷ codes "A9" ∷ codes "___main___" ∷ replicate 255 97 ∷ [])
    ≡ (true ∷ true ∷ true ∷ true ∷ true ∷ true ∷ true ∷ true ∷ [])
names = refl

no_names : map is_name ([] ∷ codes "1a" ∷ codes ".a" ∷ codes "a-b" ∷ codes "a b" ∷ codes "a@" ∷ (97 ∷ 200 ∷ []) ∷ replicate 256 97 ∷ [])
    ≡ (false ∷ false ∷ false ∷ false ∷ false ∷ false ∷ false ∷ false ∷ [])
no_names = refl

main : main_name ≡ codes "___main___"
main = refl

-- ---- classes of symbols

abbrev classes : List Class
classes = class.Param ∷ class.Oparam ∷ class.Global ∷ class.Const ∷ class.Local ∷ class.Temp ∷ []

parameters : map is_parameter classes ≡ (true ∷ true ∷ false ∷ false ∷ false ∷ false ∷ [])
parameters = refl

globals : map is_global classes ≡ (false ∷ false ∷ true ∷ false ∷ false ∷ false ∷ [])
globals = refl

values : map (λ of. has_value of (only base.Int)) classes ≡ (true ∷ true ∷ false ∷ true ∷ false ∷ false ∷ [])
values = refl

values_of_closures : map (λ of. has_value of (only base.Closure)) classes ≡ (false ∷ false ∷ false ∷ true ∷ false ∷ false ∷ [])
values_of_closures = refl

abbrev triples : List Ty
triples = only base.Point ∷ only base.Normal ∷ only base.Vector ∷ only base.Float ∷ only base.Closure ∷ []

abbrev of_global : List ℕ → List Bool
of_global name = map (global_fits class.Global name) triples

types_of_globals : map of_global (codes "P" ∷ codes "N" ∷ codes "Ng" ∷ codes "I" ∷ codes "u" ∷ codes "v" ∷ codes "Ci" ∷ codes "p" ∷ [])
    ≡ ((true ∷ false ∷ false ∷ false ∷ false ∷ [])
    ∷ (false ∷ true ∷ false ∷ false ∷ false ∷ [])
    ∷ (false ∷ true ∷ false ∷ false ∷ false ∷ [])
    ∷ (false ∷ false ∷ true ∷ false ∷ false ∷ [])
    ∷ (false ∷ false ∷ false ∷ true ∷ false ∷ [])
    ∷ (false ∷ false ∷ false ∷ true ∷ false ∷ [])
    ∷ (false ∷ false ∷ false ∷ false ∷ true ∷ [])
    ∷ (false ∷ false ∷ false ∷ false ∷ false ∷ []) ∷ [])
types_of_globals = refl

-- ---- flaws, by kind and then by place: of symbols, of ops, of jumps, and of limits last

bounds : (most_ops ∷ most_symbols ∷ most_slots ∷ most_nested ∷ []) ≡ (65536 ∷ 65536 ∷ 65536 ∷ 4608 ∷ [])
bounds = refl

of_several : least (7 ∷ 3 ∷ 5 ∷ []) ≡ Some 3
of_several = refl

there : (kind : FlawKind) (faults : List ℕ) (later : Option Flaw) (at : ℕ) → least faults ≡ Some at → first_of kind faults later ≡ Some (kind, at)
there kind faults later at is = ap (λ found. elim found [ None ↦ later | Some k ↦ Some (kind, k) ]) is

passed : (kind : FlawKind) (faults : List ℕ) (later : Option Flaw) → least faults ≡ None → first_of kind faults later ≡ later
passed kind faults later none = ap (λ found. elim found [ None ↦ later | Some k ↦ Some (kind, k) ]) none

module _ (raw : Raw) (at : ℕ) where
  symbol_first : least (symbol_faults raw) ≡ Some at → first_flaw raw ≡ Some (flaw.Symbol, at)
  unfolding first_flaw
  symbol_first is = there flaw.Symbol (symbol_faults raw) _ at is

  then_op : least (symbol_faults raw) ≡ None → least (op_faults raw) ≡ Some at → first_flaw raw ≡ Some (flaw.Op, at)
  unfolding first_flaw
  then_op no_symbol is = passed flaw.Symbol (symbol_faults raw) _ no_symbol ∙ there flaw.Op (op_faults raw) _ at is

  then_jump : least (symbol_faults raw) ≡ None → least (op_faults raw) ≡ None → least (jump_faults raw) ≡ Some at
      → first_flaw raw ≡ Some (flaw.Jump, at)
  unfolding first_flaw
  then_jump no_symbol no_op is =
      passed flaw.Symbol (symbol_faults raw) _ no_symbol
      ∙ passed flaw.Op (op_faults raw) _ no_op
      ∙ there flaw.Jump (jump_faults raw) _ at is

limit_last : (raw : Raw) → least (symbol_faults raw) ≡ None → least (op_faults raw) ≡ None → least (jump_faults raw) ≡ None → fits_limits raw ≡ false
    → first_flaw raw ≡ Some (flaw.Limit, 0)
unfolding first_flaw
limit_last raw no_symbol no_op no_jump over =
    passed flaw.Symbol (symbol_faults raw) _ no_symbol
    ∙ passed flaw.Op (op_faults raw) _ no_op
    ∙ passed flaw.Jump (jump_faults raw) _ no_jump
    ∙ ap (λ fits. first_of flaw.Limit (unless fits 0) None) over
