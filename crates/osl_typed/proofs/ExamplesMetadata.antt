-- What data of metadata say, found by computing: numbers, negated ones, constructors, arrays that are not listed in full, strings of any length, and closures.
use Rattle.std.proofs.Common.{◌≡◌, ℕ, refl, ap, ◌∙◌}
use Rattle.std.specs.Int.{int_wrap}
use Rattle.std.specs.Prelude.{ℤ, pos, negsuc, List, [], ◌∷◌, replicate, codes}
use Rattle.osl_value.specs.declared.op_name.OpName.TheVariants as op
use Rattle.osl_value.specs.declared.types.Base.{Base}
use Rattle.osl_value.specs.declared.types.Base.TheVariants as base
use Rattle.osl_value.specs.declared.types.Ty.{Ty}
use Rattle.osl_value.specs.AnyValue.{numbers_of, texts_of}
use Rattle.osl_value.specs.Apply.{apply}
use Rattle.osl_value.specs.Types.{only}
use Rattle.osl_overload.specs.declared.signature.Kind.TheVariants.{Value}
use Rattle.osl_typed.specs.declared.shader.TypedDatum.{TypedDatum}
use Rattle.osl_typed.specs.declared.stmt.TypedInit.TheVariants as init
use Rattle.osl_typed.specs.Expressions.{Meaning}
use Rattle.osl_typed.specs.Metadata.{no_frame, no_calls, no_state, value_given, datum_value, datum_numbers, datum_texts}
use Rattle.osl_typed.specs.State.{Gives, in_order}
use Rattle.osl_typed.specs.Statements.{listed, with_elements}
use Rattle.osl_typed.proofs.Written as w

-- ---- data of written constants

abbrev of_one : Ty → w.Known → TypedDatum
of_one ty k = record { ty = ty; name = codes "x"; init = init.Expr k.tree }

abbrev of_list : Ty → List w.Known → TypedDatum
of_list ty ks = record { ty = ty; name = codes "x"; init = init.List (w.trees ks) }

one_is : (ty : Ty) (k : w.Known) → datum_value (of_one ty k) ≡ value_given (k.means no_frame no_calls no_state)
one_is ty k = ap (λ (m : Meaning). value_given (m no_state)) (k.same no_frame no_calls)

list_is : (ty : Ty) (ks : List w.Known) → datum_value (of_list ty ks)
    ≡ value_given (in_order (w.meanings no_frame no_calls ks) no_state (λ vs s. Gives (listed [] (Value ty) vs) s))
list_is ty ks =
    ap (λ (ms : List Meaning). value_given (in_order ms no_state (λ vs s. Gives (listed [] (Value ty) vs) s))) (w.all_same no_frame no_calls ks)

-- ---- words

abbrev int : Ty
int = only base.Int

abbrev float : Ty
float = only base.Float

abbrev color : Ty
color = only base.Color

abbrev matrix : Ty
matrix = only base.Matrix

abbrev string : Ty
string = only base.Str

abbrev closure : Ty
closure = only base.Closure

-- an array of two, or of three
abbrev two : Base → Ty
two b = record { base = b; len = 2 }

abbrev three : Base → Ty
three b = record { base = b; len = 3 }

abbrev number : ℕ → w.Known
number n = w.int (pos n)

-- ---- float x = -1

abbrev minus_one : w.Known
minus_one = w.promote float (w.apply_to op.Neg int (number 1 ∷ []))

negated : datum_numbers (of_one float minus_one) ≡ negsuc 999999999 ∷ []
unfolding in_order apply int_wrap
negated = ap numbers_of (one_is float minus_one) ∙ refl

-- ---- matrix x = matrix(2)

abbrev doubling : w.Known
doubling = w.apply_to op.Matrix matrix (number 2 ∷ [])

abbrev row : ℕ → ℕ → ℕ → ℕ → List ℤ → List ℤ
row a b c d more = pos a ∷ pos b ∷ pos c ∷ pos d ∷ more

constructed : datum_numbers (of_one matrix doubling) ≡ row 2000000000 0 0 0 (row 0 2000000000 0 0 (row 0 0 2000000000 0 (row 0 0 0 2000000000 [])))
unfolding in_order apply int_wrap
constructed = ap numbers_of (one_is matrix doubling) ∙ refl

-- ---- color x[2] = {color(1, 0, 0.5)}: the other element is zero

abbrev colors : List w.Known
colors = w.apply_to op.Triple color (number 1 ∷ number 0 ∷ w.number (pos 500000000) ∷ []) ∷ []

listed_in_part : datum_numbers (of_list (two base.Color) colors) ≡ pos 1000000000 ∷ pos 0 ∷ pos 500000000 ∷ pos 0 ∷ pos 0 ∷ pos 0 ∷ []
unfolding in_order with_elements apply int_wrap
listed_in_part = ap numbers_of (list_is (two base.Color) colors) ∙ refl

-- ---- int x[3] = {7, -1}: an int is itself

abbrev ints : List w.Known
ints = number 7 ∷ w.apply_to op.Neg int (number 1 ∷ []) ∷ []

listed_ints : datum_numbers (of_list (three base.Int) ints) ≡ pos 7 ∷ negsuc 0 ∷ pos 0 ∷ []
unfolding in_order with_elements apply int_wrap
listed_ints = ap numbers_of (list_is (three base.Int) ints) ∙ refl

-- ---- string x = "aa..a", with 600 bytes

abbrev long : List ℕ
long = replicate 600 97

said_whole : datum_texts (of_one string (w.text long)) ≡ long ∷ []
said_whole = ap texts_of (one_is string (w.text long)) ∙ refl

-- ---- string x[3] = {"a", "aa..a"}

listed_texts : datum_texts (of_list (three base.Str) (w.text (codes "a") ∷ w.text long ∷ [])) ≡ codes "a" ∷ long ∷ [] ∷ []
unfolding in_order with_elements apply int_wrap
listed_texts = ap texts_of (list_is (three base.Str) (w.text (codes "a") ∷ w.text long ∷ [])) ∙ refl

-- ---- closure color x = 0

abbrev nothing : w.Known
nothing = w.promote closure (number 0)

no_numbers : datum_numbers (of_one closure nothing) ≡ []
no_numbers = ap numbers_of (one_is closure nothing) ∙ refl

no_texts : datum_texts (of_one closure nothing) ≡ []
no_texts = ap texts_of (one_is closure nothing) ∙ refl
