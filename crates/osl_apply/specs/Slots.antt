-- What a slot holds.
use Rattle.std.specs.Prelude.{Bool, true, false, [], ◌∷◌}
use Rattle.osl_value.specs.declared.types.Base.{Base}
use Rattle.osl_value.specs.declared.types.Base.TheVariants as B
use Rattle.osl_value.specs.AnyValue.{AnyValue, Of, Parts, with_numbers, with_text}
use Rattle.osl_value.specs.Types.{only}
use Rattle.osl_apply.specs.declared.slot.Kind.{Kind}
use Rattle.osl_apply.specs.declared.slot.Kind.TheVariants as K
use Rattle.osl_apply.specs.declared.slot.Slot.{Slot}
use Rattle.osl_apply.specs.declared.slot.Slot.TheVariants.{Int, Float, Triple, Str, Whole, Lent, Closure}

-- the base type of a kind of triple
abbrev pub base_of : Kind → Base
base_of K.Color = B.Color
base_of K.Point = B.Point
base_of K.Vector = B.Vector
base_of K.Normal = B.Normal

-- the value of a slot
abbrev pub seen : Slot → AnyValue
seen (Int n) = with_numbers (only B.Int) (n ∷ [])
seen (Float x) = with_numbers (only B.Float) (x ∷ [])
seen (Triple kind floats) = with_numbers (only (base_of kind)) floats
seen (Str text) = with_text (only B.Str) text
seen (Whole v) = Of v.value
seen (Lent v) = Of v.now
seen (Closure node) = Parts node

-- a value that is kept as a whole, lent or the slot's own
abbrev pub is_value : Slot → Bool
is_value (Int n) = false
is_value (Float x) = false
is_value (Triple kind floats) = false
is_value (Str text) = false
is_value (Whole v) = true
is_value (Lent v) = true
is_value (Closure node) = false

abbrev pub is_whole : Slot → Bool
is_whole (Int n) = false
is_whole (Float x) = false
is_whole (Triple kind floats) = false
is_whole (Str text) = false
is_whole (Whole v) = true
is_whole (Lent v) = false
is_whole (Closure node) = false

-- kept as a whole, where it is no closure
abbrev pub is_kept : Slot → Bool
is_kept (Int n) = false
is_kept (Float x) = false
is_kept (Triple kind floats) = false
is_kept (Str text) = false
is_kept (Whole v) = true
is_kept (Lent v) = true
is_kept (Closure node) = true
