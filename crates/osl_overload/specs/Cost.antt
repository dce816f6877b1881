-- What it costs to pass an argument.
use Rattle.std.specs.Prelude.{ℕ, ◌+◌, ◌==◌, Bool, true, false, ◌&&◌, if◌then◌else◌, List, [], ◌∷◌, Option, None, Some}
use Rattle.osl_value.specs.Types.{is_triple, only}
use Rattle.osl_value.specs.declared.types.Base.{Base}
use Rattle.osl_value.specs.declared.types.Base.TheVariants.{Int, Float, Point, Vector, Normal, Closure}
use Rattle.osl_overload.specs.Kinds.{same_kind}
use Rattle.osl_overload.specs.declared.signature.Kind.{Kind}
use Rattle.osl_overload.specs.declared.signature.Kind.TheVariants.{Value}
use Rattle.osl_overload.specs.declared.signature.Arg.{Arg}
use Rattle.osl_overload.specs.declared.signature.Formal.{Formal}

-- points, vectors and normals, which a color is not
abbrev pub is_spatial : Base → Bool
is_spatial Point = true
is_spatial Vector = true
is_spatial Normal = true
is_spatial _ = false

-- an int becomes a float, a number a triple by repetition, and the spatial triples one another
abbrev pub promotion : Base → Base → Option ℕ
promotion Int Float = Some 1
promotion Int to = if is_triple to then Some 3 else None
promotion Float to = if is_triple to then Some 2 else None
promotion from to = if is_spatial from && is_spatial to then Some 1 else None

-- arrays and structures become nothing else
abbrev pub promotion_of : Kind → Kind → Option ℕ
promotion_of (Value from) (Value to) = if from.len == 0 && to.len == 0 then promotion from.base to.base else None
promotion_of _ _ = None

-- the same kind costs nothing, and the literal 0 may be the empty closure
abbrev pub cost : Arg → Kind → Option ℕ
cost arg wanted =
    if same_kind arg.kind wanted then Some 0
    else if arg.zero_literal && same_kind wanted (Value (only Closure)) then Some 3
    else promotion_of arg.kind wanted

-- an output argument has the parameter's kind and may be written
abbrev pub argument_cost : Formal → Arg → Option ℕ
argument_cost formal arg =
    if formal.output then (if arg.writable && same_kind arg.kind formal.kind then Some 0 else None)
    else cost arg formal.kind

abbrev pub plus : Option ℕ → Option ℕ → Option ℕ
plus None b = None
plus (Some a) None = None
plus (Some a) (Some b) = Some (a + b)

-- the arguments are as many as the parameters, each fits, and they cost this together
abbrev pub total : List Formal → List Arg → Option ℕ
total [] [] = Some 0
total (formal ∷ formals) (arg ∷ args) = plus (argument_cost formal arg) (total formals args)
total _ _ = None
