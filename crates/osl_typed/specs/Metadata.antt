-- What metadata says: the numbers and the strings of a datum (OSL specification, "Shader metadata"). Its value is a constant, so no variable and no function has a part in it.
use Rattle.std.specs.Prelude.{ℕ, ℤ, false, List, []}
use Rattle.osl_value.specs.AnyValue.{AnyValue, Parts, numbers_of, texts_of}
use Rattle.osl_overload.specs.declared.signature.Kind.TheVariants.{Value}
use Rattle.osl_layer.specs.Layer.{Default}
use Rattle.osl_typed.specs.declared.shader.TypedDatum.{TypedDatum}
use Rattle.osl_typed.specs.State.{State, ExpressionEnd, Gives, Exits, Spent}
use Rattle.osl_typed.specs.Parts.{Frame, single}
use Rattle.osl_typed.specs.Expressions.{Calls, Lost}
use Rattle.osl_typed.specs.Statements.{begun}

-- ---- where a constant is evaluated

abbrev pub no_frame : Frame
no_frame = record { structures = []; kinds = []; inputs = λ k. Default }

abbrev pub no_calls : Calls
no_calls f args globals turns reads = Lost turns reads

abbrev pub no_state : State
no_state = record { vars = λ k. Parts []; globals = λ g. Parts []; turns = 0; reads = λ k. false }

-- a constant gives its value; where none is given it is the empty closure
abbrev pub value_given : ExpressionEnd (List AnyValue) → AnyValue
value_given (Gives vs s) = single vs
value_given (Exits s) = Parts []
value_given (Spent s) = Parts []

-- ---- data

-- The value of a datum. An array has all its elements, of which those that are not listed are zero; a closure is the empty one.
abbrev pub datum_value : TypedDatum → AnyValue
datum_value datum = value_given (begun no_frame no_calls (Value datum.ty) datum.init no_state)

-- Its numbers, element after element: an int as itself and a float as its units. A closure has none.
abbrev pub datum_numbers : TypedDatum → List ℤ
datum_numbers datum = numbers_of (datum_value datum)

-- Its strings, element after element, each as its bytes, of which there may be more than in a string of the language.
abbrev pub datum_texts : TypedDatum → List (List ℕ)
datum_texts datum = texts_of (datum_value datum)
