-- What may not stand in a reduced layer.
use Rattle.std.specs.Prelude.{◌≡◌, ℕ, ◌+◌, ◌<◌, ◌≤◌, ◌==◌, Bool, true, false, not, ◌&&◌, ◌||◌, List, [], ◌∷◌, length, filter, Option, Some, None, is_some, if◌then◌else◌, slice_get, IsTrue}
use Rattle.std.specs.List.{list_all, list_any}
use Rattle.osl_value.specs.declared.op_name.OpName.{OpName}
use Rattle.osl_value.specs.declared.op_name.OpName.TheVariants.{Assign}
use Rattle.osl_value.specs.declared.types.Base.TheVariants.{Closure}
use Rattle.osl_value.specs.declared.types.Ty.{Ty}
use Rattle.osl_value.specs.AnyValue.{AnyValue}
use Rattle.osl_value.specs.Types.{is_only, same_type, slot_count}
use Rattle.oso_code.specs.CodeRun.{stated}
use Rattle.oso_code.specs.Ops.{owner_at, is_owner, type_at, written}
use Rattle.oso_code.specs.Ranges.{around, steps_of}
use Rattle.oso_code.specs.Run.{is_so}
use Rattle.oso_code.specs.Steps.{Return, Exit, Step, Compute, Branch, Loop, Leave}
use Rattle.oso_code.specs.Symbols.{is_empty}
use Rattle.oso_code.specs.Uses.{reads_of}
use Rattle.oso_code.specs.Valid.{slots_of}
use Rattle.oso_code.specs.declared.op.Op.{Op}
use Rattle.oso_code.specs.declared.op.Section.{Section}
use Rattle.oso_code.specs.declared.raw.Raw.{Raw}
use Rattle.oso_code.specs.declared.symbol.Class.{Class}
use Rattle.oso_code.specs.declared.symbol.Class.TheVariants.{Param, Oparam, Global, Const, Local, Temp}
use Rattle.oso_code.specs.declared.symbol.Symbol.{Symbol}
use Rattle.osl_rewrites.specs.Flow.{Surrounds, LiveAfter}
use Rattle.osl_rewrites.specs.declared.point.Around.{Around}
use Rattle.osl_rewrites.specs.Identities.{Identity, forms_of, row_fits, no_longer_read}
use Rattle.osl_rewrites.specs.Known.{Known}

-- what is said of a layer from outside, by the numbers of its parameters, or of its symbols
pub record Outside : Type 0 where
  -- neither interactive nor connected, and the instance value if there is one
  pub locked : ℕ → Bool
  pub instance : ℕ → Option AnyValue
  -- connected to a layer that is not sure
  pub unsure : ℕ → Bool
  -- connected to a constant output, which has this value as the parameter's type
  pub constant : ℕ → Option AnyValue
  -- live at the layer's end
  pub asked : ℕ → Bool

-- ---- known symbols

-- some op outside the parameter's own section writes it
abbrev pub is_written_outside : List Section → ℕ → ℕ → List Op → Bool
is_written_outside sections k at [] = false
is_written_outside sections k at (op ∷ ops) =
    (elim (written op) [ None ↦ false | Some w ↦ (w == k) && not (is_owner (owner_at sections at) k) ]) || is_written_outside sections k (at + 1) ops

-- the parameter has a section of its own, which computes its default
abbrev pub has_section : List Section → ℕ → Bool
has_section sections k = list_any (λ section. is_owner section.param k) sections

-- the value of a parameter that is locked and not written outside its section: the instance value, or the stated one if no section computes it
abbrev pub held_value : Outside → Raw → ℕ → Symbol → Option AnyValue
held_value o raw k symbol =
    if not (o.locked k) || is_written_outside raw.sections k 0 raw.ops then None
    else elim (o.instance k) [ None ↦ if has_section raw.sections k then None else Some (stated symbol.ty symbol.value) | Some v ↦ Some v ]

-- of constants and of such parameters the value is known
abbrev pub known_class : Outside → Raw → ℕ → Symbol → Class → Option AnyValue
known_class o raw k symbol Param = held_value o raw k symbol
known_class o raw k symbol Oparam = held_value o raw k symbol
known_class o raw k symbol Global = None
known_class o raw k symbol Const = Some (stated symbol.ty symbol.value)
known_class o raw k symbol Local = None
known_class o raw k symbol Temp = None

-- the known symbols of code
unfoldable pub known_in : Outside → Raw → Known
known_in o raw k = elim (slice_get raw.symbols k) [ None ↦ None | Some symbol ↦ known_class o raw k symbol symbol.class ]

-- ---- assigns

-- the symbol and what it is assigned, where both have one type
abbrev pub plain_from : List Symbol → Step → Option (ℕ × ℕ)
plain_from symbols (Compute Assign ty target (c ∷ [])) = if same_type (type_at symbols c) ty then Some (target, c) else None
plain_from symbols step = None

-- the step writes the symbol
abbrev pub writes_it : ℕ → Step → Bool
writes_it k (Compute name ty target sources) = target == k
writes_it k step = false

-- how many steps write the symbol
abbrev pub writes_of : ℕ → List Step → ℕ
writes_of k steps = length (filter (writes_it k) steps)

-- a symbol that is not known is written once, by a plain assign of a known one at p, outside every range
pub record IsOnce (known : Known) (raw : Raw) (k p c : ℕ) (v : AnyValue) : Type 0 where
  pub unknown : known k ≡ None
  pub here : (step : Step) × (slice_get (steps_of raw) p ≡ Some step) × (plain_from raw.symbols step ≡ Some (k, c))
  pub value : known c ≡ Some v
  pub outside : IsTrue (is_empty (around (steps_of raw) p))
  pub alone : writes_of k (steps_of raw) ≡ 1

-- ---- what an op may not be

-- known, and a condition that does not hold
abbrev pub is_known_zero : Option AnyValue → Bool
is_known_zero None = false
is_known_zero (Some v) = not (is_so v)

-- an `if` with a known condition, a `while` or `for` with a known zero
abbrev pub decides : Known → Step → Bool
decides known (Branch c holds fails) = is_some (known c)
decides known (Loop true c test body step) = is_known_zero (known c)
decides known step = false

-- an op of known symbols alone that is no plain assign and writes no closure
abbrev pub folds : Known → List Symbol → Step → Bool
folds known symbols (Compute name ty target sources) =
    not (is_some (plain_from symbols (Compute name ty target sources)))
    && (not (is_only Closure ty) && (not (is_empty sources) && list_all (λ k. is_some (known k)) sources))
folds known symbols step = false

-- a row that applies, and drops nothing that comes from a layer that is not sure
abbrev pub row_applies : Outside → Known → Ty → List ℕ → Identity → Bool
row_applies o known ty sources id = row_fits known ty sources id && not (list_any (λ k. o.unsure k) (no_longer_read id.becomes sources))

-- an op with a row of the table that applies
abbrev pub simplifies : Outside → Known → Step → Bool
simplifies o known (Compute name ty target sources) = list_any (row_applies o known ty sources) (forms_of name)
simplifies o known step = false

-- the parameter is connected to a constant output
abbrev pub is_constant : Outside → ℕ → Bool
is_constant o k = is_some (o.constant k)

-- an op with a value that writes a dead symbol, and reads nothing from a layer that is not sure
pub record IsDead (o : Outside) (raw : Raw) (around : ℕ → Around) (i : ℕ) : Type 0 where
  pub name : OpName
  pub ty : Ty
  pub target : ℕ
  pub sources : List ℕ
  pub here : slice_get (steps_of raw) i ≡ Some (Compute name ty target sources)
  pub sure : list_any (λ k. o.unsure k) sources ≡ false
  pub dead : LiveAfter (steps_of raw) raw.sections around o.asked i target → ⊥

-- ---- roomy

-- the slots of all values that ops write
abbrev pub slots_written : List Step → ℕ
slots_written [] = 0
slots_written (Compute name ty target sources ∷ steps) = slot_count ty + slots_written steps
slots_written (step ∷ steps) = slots_written steps

-- the slots of connected parameters
abbrev pub connected_slots : (ℕ → Bool) → ℕ → List Symbol → ℕ
connected_slots wired at [] = 0
connected_slots wired at (symbol ∷ symbols) = (if wired at then slot_count symbol.ty else 0) + connected_slots wired (at + 1) symbols

-- the number of connected parameters
abbrev pub connected : (ℕ → Bool) → ℕ → List Symbol → ℕ
connected wired at [] = 0
connected wired at (symbol ∷ symbols) = (if wired at then 1 else 0) + connected wired (at + 1) symbols

-- code that stays within the limits if each op and each connected parameter adds a constant
pub record IsRoomy (wired : ℕ → Bool) (raw : Raw) : Type 0 where
  pub few : length raw.symbols + length raw.ops + connected wired 0 raw.symbols ≤ 65536
  pub small : slots_of raw.symbols + slots_written (steps_of raw) + connected_slots wired 0 raw.symbols ≤ 65536

-- ---- constant outputs

-- the step may end the layer early
abbrev pub leaves_layer : Step → Bool
leaves_layer (Leave Return) = true
leaves_layer (Leave Exit) = true
leaves_layer step = false

-- an output that has this value wherever the layer gives something
pub data Constant (known : Known) (raw : Raw) (k : ℕ) (v : AnyValue) : Type 0 where
  ByKnown : known k ≡ Some v → Constant known raw k v
  ByOnce : (p c : ℕ) → IsOnce known raw k p c v → owner_at raw.sections p ≡ None → ((i : ℕ) (step : Step) → i < p → slice_get (steps_of raw) i ≡ Some step → leaves_layer step ≡ false) → Constant known raw k v

-- ---- a reduced layer, by one table of what is around its ops

-- no rewrite applies: no decided condition, no op that folds or simplifies, no read that could be of a constant, no dead op; where code is too large for new constants, those that need one are not asked
pub record IsReducedLayer (o : Outside) (wired : ℕ → Bool) (old raw : Raw) : Type 0 where
  pub table : ℕ → Around
  pub surrounds : Surrounds (steps_of raw) raw.sections table
  pub conditions : (i : ℕ) (step : Step) → slice_get (steps_of raw) i ≡ Some step → decides (known_in o raw) step ≡ false
  pub folded : IsRoomy wired old → (i : ℕ) (step : Step) → slice_get (steps_of raw) i ≡ Some step → folds (known_in o raw) raw.symbols step ≡ false
  pub simplified : IsRoomy wired old → (i : ℕ) (step : Step) → slice_get (steps_of raw) i ≡ Some step → simplifies o (known_in o raw) step ≡ false
  pub copied : (k p c : ℕ) (v : AnyValue) → IsOnce (known_in o raw) raw k p c v → (i : ℕ) (step : Step) → p < i → owner_at raw.sections i ≡ owner_at raw.sections p → slice_get (steps_of raw) i ≡ Some step → list_any (λ x. x == k) (reads_of step) ≡ false
  pub wires : IsRoomy wired old → (i : ℕ) (step : Step) → slice_get (steps_of raw) i ≡ Some step → list_any (is_constant o) (reads_of step) ≡ false
  pub live : (i : ℕ) → IsDead o raw table i → ⊥
