-- The functions that are there before any is declared (OSL specification, "Standard library"): a line for each name.
use Rattle.std.specs.Prelude.{codes, ℕ, false, if◌then◌else◌, List, [], ◌∷◌, ◌++◌, map, bytes_eq}
use Rattle.std.specs.List.{filter, flat_map}
use Rattle.osl_value.specs.declared.op_name.OpName.{OpName}
use Rattle.osl_value.specs.declared.op_name.OpName.TheVariants as op
use Rattle.osl_value.specs.declared.types.Base.TheVariants.{Color, Point, Vector, Normal, Matrix, Str}
use Rattle.osl_value.specs.Types.{only}
use Rattle.osl_value.specs.AnyValue.{is_array}
use Rattle.osl_overload.specs.declared.signature.Formal.{Formal}
use Rattle.osl_overload.specs.declared.signature.Kind.{Kind}
use Rattle.osl_overload.specs.declared.signature.Kind.TheVariants.{Value, Void}
use Rattle.osl_overload.specs.declared.signature.Signature.{Signature}
use Rattle.osl_typed.specs.declared.found.Callee.{Callee}
use Rattle.osl_typed.specs.declared.found.Callee.TheVariants.{Operation, SubstrToEnd, Exit}
use Rattle.osl_typed.specs.Operators.{int, float, closure, is_type}
use Rattle.osl_typed.specs.Scopes.{Candidate}

-- ---- kinds

abbrev pub color : Kind
color = Value (only Color)

abbrev pub point : Kind
point = Value (only Point)

abbrev pub vector : Kind
vector = Value (only Vector)

abbrev pub normal : Kind
normal = Value (only Normal)

abbrev pub matrix : Kind
matrix = Value (only Matrix)

abbrev pub string : Kind
string = Value (only Str)

abbrev pub triples : List Kind
triples = color ∷ point ∷ vector ∷ normal ∷ []

-- the kinds that componentwise functions take
abbrev pub each : List Kind
each = float ∷ triples

-- ---- signatures

abbrev pub input : Kind → Formal
input kind = record { kind = kind; output = false }

-- inputs of these kinds, and what it gives
abbrev pub takes : List Kind → Kind → Signature
takes kinds result = record { params = map input kinds; result = result }

abbrev pub one : Kind → Signature
one kind = takes (kind ∷ []) kind

abbrev pub two : Kind → Signature
two kind = takes (kind ∷ kind ∷ []) kind

abbrev pub three : Kind → Signature
three kind = takes (kind ∷ kind ∷ kind ∷ []) kind

-- a blend by a float
abbrev pub blend : Kind → Signature
blend kind = takes (kind ∷ kind ∷ float ∷ []) kind

-- ---- the table

pub record Line : Type 0 where
  pub name : List ℕ
  pub callee : Callee
  pub signatures : List Signature

abbrev pub line : List ℕ → OpName → List Signature → Line
line name operation signatures = record { name = name; callee = Operation operation; signatures = signatures }

abbrev pub lines : List Line
lines =
    line (codes "abs") op.Abs (map one each ++ one int ∷ [])
    ∷ line (codes "sign") op.Sign (map one each)
    ∷ line (codes "floor") op.Floor (map one each)
    ∷ line (codes "ceil") op.Ceil (map one each)
    ∷ line (codes "round") op.Round (map one each)
    ∷ line (codes "trunc") op.Trunc (map one each)
    ∷ line (codes "sqrt") op.Sqrt (map one each)
    ∷ line (codes "inversesqrt") op.InverseSqrt (map one each)
    ∷ line (codes "min") op.Min (map two each ++ two int ∷ [])
    ∷ line (codes "max") op.Max (map two each ++ two int ∷ [])
    ∷ line (codes "fmod") op.Fmod (map two each)
    ∷ line (codes "mod") op.Mod (map two each)
    ∷ line (codes "step") op.Step (map two each)
    ∷ line (codes "clamp") op.Clamp (map three each ++ three int ∷ [])
    ∷ line (codes "mix") op.Mix (map three each ++ map blend triples)
    ∷ line (codes "smoothstep") op.SmoothStep (map three each)
    ∷ line (codes "dot") op.Dot (takes (vector ∷ vector ∷ []) float ∷ [])
    ∷ line (codes "cross") op.Cross (two vector ∷ [])
    ∷ line (codes "length") op.Length (takes (vector ∷ []) float ∷ [])
    ∷ line (codes "distance") op.Distance (takes (point ∷ point ∷ []) float ∷ [])
    ∷ line (codes "normalize") op.Normalize (one vector ∷ one normal ∷ [])
    ∷ line (codes "transform") op.Transform (takes (matrix ∷ point ∷ []) point ∷ takes (matrix ∷ vector ∷ []) vector ∷ [])
    ∷ line (codes "transpose") op.Transpose (one matrix ∷ [])
    ∷ line (codes "concat") op.Concat (two string ∷ [])
    ∷ line (codes "strlen") op.StrLen (takes (string ∷ []) int ∷ [])
    ∷ line (codes "startswith") op.StartsWith (takes (string ∷ string ∷ []) int ∷ [])
    ∷ line (codes "endswith") op.EndsWith (takes (string ∷ string ∷ []) int ∷ [])
    ∷ line (codes "substr") op.SubStr (takes (string ∷ int ∷ int ∷ []) string ∷ [])
    ∷ record { name = codes "substr"; callee = SubstrToEnd; signatures = takes (string ∷ int ∷ []) string ∷ [] }
    ∷ line (codes "getchar") op.GetChar (takes (string ∷ int ∷ []) int ∷ [])
    ∷ record { name = codes "exit"; callee = Exit; signatures = takes [] Void ∷ [] }
    ∷ line (codes "emission") op.ClEmission (takes [] closure ∷ [])
    ∷ line (codes "background") op.ClBackground (takes [] closure ∷ [])
    ∷ line (codes "holdout") op.ClHoldout (takes [] closure ∷ [])
    ∷ line (codes "transparent") op.ClTransparent (takes [] closure ∷ [])
    ∷ line (codes "diffuse") op.ClDiffuse (takes (normal ∷ []) closure ∷ [])
    ∷ line (codes "translucent") op.ClTranslucent (takes (normal ∷ []) closure ∷ [])
    ∷ line (codes "oren_nayar") op.ClOrenNayar (takes (normal ∷ float ∷ []) closure ∷ [])
    ∷ line (codes "reflection") op.ClReflection (takes (normal ∷ float ∷ []) closure ∷ [])
    ∷ line (codes "refraction") op.ClRefraction (takes (normal ∷ float ∷ []) closure ∷ [])
    ∷ line (codes "debug") op.ClDebug (takes (string ∷ []) closure ∷ [])
    ∷ []

abbrev pub of_line : Line → List Candidate
of_line x = map (λ signature. record { signature = signature; callee = x.callee }) x.signatures

-- `arraylength` takes any array: for arguments of these kinds it is the one function that takes just them
abbrev pub array_length : List Kind → List Candidate
array_length (kind ∷ []) =
    if is_type is_array kind then record { signature = takes (kind ∷ []) int; callee = Operation op.ArrayLength } ∷ [] else []
array_length _ = []

-- the built-in functions of a name, for arguments of these kinds
unfoldable pub built_in : List ℕ → List Kind → List Candidate
built_in name kinds =
    flat_map of_line (filter (λ x. bytes_eq x.name name) lines)
    ++ (if bytes_eq name (codes "arraylength") then array_length kinds else [])
