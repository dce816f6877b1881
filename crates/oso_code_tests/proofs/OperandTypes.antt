-- Which types each operation takes; what is written comes first.
use Rattle.std.proofs.Common.{◌≡◌, ℕ, refl}
use Rattle.std.specs.Prelude.{◌-◌, true, false, List, [], ◌∷◌, ◌++◌, map, replicate}
use Rattle.osl_value.specs.declared.op_name.OpName.TheVariants as op
use Rattle.osl_value.specs.declared.types.Base.TheVariants as base
use Rattle.osl_value.specs.declared.types.Ty.{Ty}
use Rattle.osl_value.specs.Apply.{is_allowed}
use Rattle.osl_value.specs.Types.{only}
use Rattle.oso_code.specs.Ops.{takes_types}
use Rattle.oso_code_tests.proofs.Words.{row}

abbrev int : Ty
int = only base.Int

abbrev float : Ty
float = only base.Float

abbrev color : Ty
color = only base.Color

abbrev point : Ty
point = only base.Point

abbrev vector : Ty
vector = only base.Vector

abbrev normal : Ty
normal = only base.Normal

abbrev matrix : Ty
matrix = only base.Matrix

abbrev string : Ty
string = only base.Str

abbrev closure : Ty
closure = only base.Closure

abbrev ints : ℕ → Ty
ints n = row n base.Int

abbrev floats : ℕ → Ty
floats n = row n base.Float

abbrev colors : ℕ → Ty
colors n = row n base.Color

abbrev points : ℕ → Ty
points n = row n base.Point

abbrev normals : ℕ → Ty
normals n = row n base.Normal

abbrev matrices : ℕ → Ty
matrices n = row n base.Matrix

abbrev strings : ℕ → Ty
strings n = row n base.Str

-- ---- copies

assign_takes : map (takes_types op.Assign)
    ((int ∷ int ∷ []) ∷ (float ∷ int ∷ []) ∷ (float ∷ float ∷ []) ∷ (color ∷ int ∷ []) ∷ (color ∷ float ∷ [])
    ∷ (color ∷ color ∷ []) ∷ (point ∷ color ∷ []) ∷ (normal ∷ vector ∷ []) ∷ (matrix ∷ matrix ∷ [])
    ∷ (string ∷ string ∷ []) ∷ (closure ∷ closure ∷ []) ∷ (ints 3 ∷ ints 3 ∷ []) ∷ (colors 2 ∷ colors 2 ∷ [])
    ∷ (floats 1 ∷ floats 1 ∷ []) ∷ [])
    ≡ replicate 14 true
unfolding is_allowed
assign_takes = refl

assign_refuses : map (takes_types op.Assign)
    ((int ∷ float ∷ []) ∷ (int ∷ color ∷ []) ∷ (float ∷ color ∷ []) ∷ (float ∷ string ∷ [])
    ∷ (color ∷ matrix ∷ []) ∷ (color ∷ string ∷ []) ∷ (matrix ∷ int ∷ []) ∷ (matrix ∷ float ∷ [])
    ∷ (matrix ∷ color ∷ []) ∷ (int ∷ string ∷ []) ∷ (string ∷ int ∷ []) ∷ (string ∷ closure ∷ [])
    ∷ (closure ∷ float ∷ []) ∷ (closure ∷ color ∷ []) ∷ (color ∷ closure ∷ []) ∷ (float ∷ floats 2 ∷ [])
    ∷ (floats 2 ∷ float ∷ []) ∷ (floats 1 ∷ float ∷ []) ∷ (float ∷ floats 1 ∷ []) ∷ (color ∷ floats 2 ∷ [])
    ∷ (floats 2 ∷ color ∷ []) ∷ (ints 3 ∷ ints 2 ∷ []) ∷ (floats 2 ∷ ints 3 ∷ [])
    ∷ (colors 2 ∷ points 2 ∷ []) ∷ (points 2 ∷ floats 2 ∷ []) ∷ (color ∷ colors 2 ∷ []) ∷ [] ∷ (int ∷ [])
    ∷ (float ∷ float ∷ float ∷ []) ∷ [])
    ≡ replicate 29 false
unfolding is_allowed
assign_refuses = refl

empty_takes : map (takes_types op.Empty)
    ((closure ∷ []) ∷ [])
    ≡ replicate 1 true
unfolding is_allowed
empty_takes = refl

empty_refuses : map (takes_types op.Empty)
    ((float ∷ []) ∷ (color ∷ []) ∷ (string ∷ []) ∷ (closure ∷ closure ∷ []) ∷ [] ∷ [])
    ≡ replicate 5 false
unfolding is_allowed
empty_refuses = refl

toint_takes : map (takes_types op.ToInt)
    ((int ∷ float ∷ []) ∷ [])
    ≡ replicate 1 true
unfolding is_allowed
toint_takes = refl

toint_refuses : map (takes_types op.ToInt)
    ((int ∷ int ∷ []) ∷ (float ∷ float ∷ []) ∷ (float ∷ int ∷ []) ∷ (int ∷ color ∷ []) ∷ (int ∷ string ∷ [])
    ∷ (int ∷ matrix ∷ []) ∷ (int ∷ floats 1 ∷ []) ∷ (floats 1 ∷ float ∷ []) ∷ (int ∷ float ∷ float ∷ [])
    ∷ (int ∷ []) ∷ [])
    ≡ replicate 10 false
unfolding is_allowed
toint_refuses = refl

-- ---- arithmetic

add_takes : map (takes_types op.Add)
    ((int ∷ int ∷ int ∷ []) ∷ (float ∷ float ∷ float ∷ []) ∷ (color ∷ float ∷ float ∷ [])
    ∷ (color ∷ color ∷ float ∷ []) ∷ (point ∷ float ∷ normal ∷ []) ∷ (vector ∷ point ∷ color ∷ [])
    ∷ (closure ∷ closure ∷ closure ∷ []) ∷ [])
    ≡ replicate 7 true
unfolding is_allowed
add_takes = refl

add_refuses : map (takes_types op.Add)
    ((float ∷ int ∷ float ∷ []) ∷ (float ∷ float ∷ int ∷ []) ∷ (float ∷ int ∷ int ∷ [])
    ∷ (int ∷ float ∷ float ∷ []) ∷ (int ∷ int ∷ float ∷ []) ∷ (int ∷ float ∷ int ∷ [])
    ∷ (color ∷ int ∷ color ∷ []) ∷ (color ∷ int ∷ int ∷ []) ∷ (point ∷ vector ∷ int ∷ [])
    ∷ (float ∷ color ∷ float ∷ []) ∷ (float ∷ float ∷ vector ∷ []) ∷ (float ∷ color ∷ color ∷ [])
    ∷ (int ∷ color ∷ color ∷ []) ∷ (matrix ∷ matrix ∷ matrix ∷ []) ∷ (string ∷ string ∷ string ∷ [])
    ∷ (closure ∷ closure ∷ color ∷ []) ∷ (closure ∷ float ∷ closure ∷ []) ∷ (closure ∷ color ∷ color ∷ [])
    ∷ (color ∷ closure ∷ closure ∷ []) ∷ (ints 3 ∷ ints 3 ∷ ints 3 ∷ []) ∷ (ints 2 ∷ ints 2 ∷ ints 2 ∷ [])
    ∷ (floats 2 ∷ floats 2 ∷ floats 2 ∷ []) ∷ (floats 2 ∷ floats 2 ∷ float ∷ [])
    ∷ (color ∷ colors 2 ∷ float ∷ []) ∷ (colors 2 ∷ colors 2 ∷ colors 2 ∷ []) ∷ (int ∷ int ∷ [])
    ∷ (float ∷ float ∷ []) ∷ (int ∷ int ∷ int ∷ int ∷ []) ∷ (float ∷ float ∷ float ∷ float ∷ [])
    ∷ (closure ∷ closure ∷ []) ∷ (closure ∷ closure ∷ closure ∷ closure ∷ []) ∷ [] ∷ [])
    ≡ replicate 32 false
unfolding is_allowed
add_refuses = refl

sub_takes : map (takes_types op.Sub)
    ((int ∷ int ∷ int ∷ []) ∷ (float ∷ float ∷ float ∷ []) ∷ (vector ∷ point ∷ point ∷ [])
    ∷ (normal ∷ float ∷ color ∷ []) ∷ [])
    ≡ replicate 4 true
unfolding is_allowed
sub_takes = refl

sub_refuses : map (takes_types op.Sub)
    ((int ∷ int ∷ float ∷ []) ∷ (float ∷ int ∷ float ∷ []) ∷ (float ∷ int ∷ int ∷ [])
    ∷ (float ∷ color ∷ float ∷ []) ∷ (color ∷ color ∷ int ∷ []) ∷ (closure ∷ closure ∷ closure ∷ [])
    ∷ (matrix ∷ matrix ∷ matrix ∷ []) ∷ (string ∷ string ∷ string ∷ [])
    ∷ (floats 2 ∷ floats 2 ∷ floats 2 ∷ []) ∷ (float ∷ float ∷ []) ∷ (int ∷ int ∷ int ∷ int ∷ []) ∷ [])
    ≡ replicate 11 false
unfolding is_allowed
sub_refuses = refl

mul_takes : map (takes_types op.Mul)
    ((int ∷ int ∷ int ∷ []) ∷ (float ∷ float ∷ float ∷ []) ∷ (color ∷ float ∷ color ∷ [])
    ∷ (vector ∷ normal ∷ point ∷ []) ∷ (matrix ∷ matrix ∷ matrix ∷ []) ∷ (closure ∷ int ∷ closure ∷ [])
    ∷ (closure ∷ float ∷ closure ∷ []) ∷ (closure ∷ color ∷ closure ∷ []) ∷ (closure ∷ closure ∷ int ∷ [])
    ∷ (closure ∷ closure ∷ float ∷ []) ∷ (closure ∷ closure ∷ color ∷ []) ∷ [])
    ≡ replicate 11 true
unfolding is_allowed
mul_takes = refl

mul_refuses : map (takes_types op.Mul)
    ((closure ∷ point ∷ closure ∷ []) ∷ (closure ∷ vector ∷ closure ∷ []) ∷ (closure ∷ normal ∷ closure ∷ [])
    ∷ (closure ∷ closure ∷ point ∷ []) ∷ (closure ∷ closure ∷ vector ∷ [])
    ∷ (closure ∷ closure ∷ normal ∷ []) ∷ (closure ∷ closure ∷ closure ∷ [])
    ∷ (closure ∷ matrix ∷ closure ∷ []) ∷ (closure ∷ closure ∷ string ∷ []) ∷ (closure ∷ color ∷ color ∷ [])
    ∷ (closure ∷ float ∷ float ∷ []) ∷ (float ∷ float ∷ closure ∷ []) ∷ (color ∷ color ∷ closure ∷ [])
    ∷ (closure ∷ floats 1 ∷ closure ∷ []) ∷ (closure ∷ closure ∷ colors 2 ∷ [])
    ∷ (matrix ∷ matrix ∷ float ∷ []) ∷ (matrix ∷ float ∷ matrix ∷ []) ∷ (matrix ∷ int ∷ matrix ∷ [])
    ∷ (color ∷ matrix ∷ color ∷ []) ∷ (point ∷ point ∷ matrix ∷ []) ∷ (float ∷ matrix ∷ matrix ∷ [])
    ∷ (float ∷ int ∷ float ∷ []) ∷ (int ∷ int ∷ float ∷ []) ∷ (float ∷ int ∷ int ∷ [])
    ∷ (color ∷ color ∷ int ∷ []) ∷ (float ∷ color ∷ float ∷ []) ∷ (floats 2 ∷ floats 2 ∷ floats 2 ∷ [])
    ∷ (matrices 1 ∷ matrix ∷ matrix ∷ []) ∷ (string ∷ string ∷ int ∷ []) ∷ (closure ∷ closure ∷ [])
    ∷ (matrix ∷ matrix ∷ matrix ∷ matrix ∷ []) ∷ [])
    ≡ replicate 31 false
unfolding is_allowed
mul_refuses = refl

div_takes : map (takes_types op.Div)
    ((int ∷ int ∷ int ∷ []) ∷ (float ∷ float ∷ float ∷ []) ∷ (color ∷ color ∷ color ∷ [])
    ∷ (normal ∷ normal ∷ float ∷ []) ∷ (point ∷ float ∷ float ∷ []) ∷ [])
    ≡ replicate 5 true
unfolding is_allowed
div_takes = refl

div_refuses : map (takes_types op.Div)
    ((int ∷ int ∷ float ∷ []) ∷ (float ∷ int ∷ float ∷ []) ∷ (float ∷ int ∷ int ∷ [])
    ∷ (color ∷ color ∷ int ∷ []) ∷ (float ∷ float ∷ color ∷ []) ∷ (int ∷ color ∷ color ∷ [])
    ∷ (closure ∷ closure ∷ float ∷ []) ∷ (matrix ∷ matrix ∷ matrix ∷ []) ∷ (matrix ∷ matrix ∷ float ∷ [])
    ∷ (string ∷ string ∷ string ∷ []) ∷ (floats 2 ∷ floats 2 ∷ float ∷ []) ∷ (float ∷ float ∷ []) ∷ [])
    ≡ replicate 12 false
unfolding is_allowed
div_refuses = refl

irem_takes : map (takes_types op.IRem)
    ((int ∷ int ∷ int ∷ []) ∷ [])
    ≡ replicate 1 true
unfolding is_allowed
irem_takes = refl

irem_refuses : map (takes_types op.IRem)
    ((float ∷ float ∷ float ∷ []) ∷ (int ∷ float ∷ int ∷ []) ∷ (int ∷ int ∷ float ∷ [])
    ∷ (float ∷ int ∷ int ∷ []) ∷ (color ∷ color ∷ color ∷ []) ∷ (int ∷ string ∷ int ∷ [])
    ∷ (ints 3 ∷ ints 3 ∷ ints 3 ∷ []) ∷ (int ∷ int ∷ []) ∷ (int ∷ int ∷ int ∷ int ∷ []) ∷ [])
    ≡ replicate 9 false
unfolding is_allowed
irem_refuses = refl

neg_takes : map (takes_types op.Neg)
    ((int ∷ int ∷ []) ∷ (float ∷ float ∷ []) ∷ (color ∷ color ∷ []) ∷ (point ∷ normal ∷ [])
    ∷ (vector ∷ float ∷ []) ∷ [])
    ≡ replicate 5 true
unfolding is_allowed
neg_takes = refl

neg_refuses : map (takes_types op.Neg)
    ((float ∷ int ∷ []) ∷ (int ∷ float ∷ []) ∷ (float ∷ color ∷ []) ∷ (color ∷ int ∷ [])
    ∷ (closure ∷ closure ∷ []) ∷ (matrix ∷ matrix ∷ []) ∷ (string ∷ string ∷ []) ∷ (floats 2 ∷ floats 2 ∷ [])
    ∷ (int ∷ int ∷ int ∷ []) ∷ (float ∷ float ∷ float ∷ []) ∷ (int ∷ []) ∷ [])
    ≡ replicate 11 false
unfolding is_allowed
neg_refuses = refl

-- ---- bits

compl_takes : map (takes_types op.Compl)
    ((int ∷ int ∷ []) ∷ [])
    ≡ replicate 1 true
unfolding is_allowed
compl_takes = refl

compl_refuses : map (takes_types op.Compl)
    ((float ∷ float ∷ []) ∷ (int ∷ float ∷ []) ∷ (float ∷ int ∷ []) ∷ (color ∷ color ∷ [])
    ∷ (ints 3 ∷ ints 3 ∷ []) ∷ (int ∷ string ∷ []) ∷ (int ∷ int ∷ int ∷ []) ∷ [])
    ≡ replicate 7 false
unfolding is_allowed
compl_refuses = refl

bitand_takes : map (takes_types op.BitAnd)
    ((int ∷ int ∷ int ∷ []) ∷ [])
    ≡ replicate 1 true
unfolding is_allowed
bitand_takes = refl

bitand_refuses : map (takes_types op.BitAnd)
    ((float ∷ float ∷ float ∷ []) ∷ (int ∷ int ∷ float ∷ []) ∷ (int ∷ float ∷ int ∷ [])
    ∷ (float ∷ int ∷ int ∷ []) ∷ (int ∷ color ∷ color ∷ []) ∷ (floats 1 ∷ int ∷ int ∷ [])
    ∷ (int ∷ int ∷ ints 1 ∷ []) ∷ (int ∷ int ∷ []) ∷ [])
    ≡ replicate 8 false
unfolding is_allowed
bitand_refuses = refl

bitor_takes : map (takes_types op.BitOr)
    ((int ∷ int ∷ int ∷ []) ∷ [])
    ≡ replicate 1 true
unfolding is_allowed
bitor_takes = refl

bitor_refuses : map (takes_types op.BitOr)
    ((float ∷ float ∷ float ∷ []) ∷ (int ∷ int ∷ float ∷ []) ∷ (int ∷ float ∷ int ∷ [])
    ∷ (float ∷ int ∷ int ∷ []) ∷ (int ∷ closure ∷ closure ∷ []) ∷ (int ∷ matrix ∷ matrix ∷ [])
    ∷ (int ∷ int ∷ int ∷ int ∷ []) ∷ [])
    ≡ replicate 7 false
unfolding is_allowed
bitor_refuses = refl

xor_takes : map (takes_types op.Xor)
    ((int ∷ int ∷ int ∷ []) ∷ [])
    ≡ replicate 1 true
unfolding is_allowed
xor_takes = refl

xor_refuses : map (takes_types op.Xor)
    ((float ∷ float ∷ float ∷ []) ∷ (int ∷ int ∷ float ∷ []) ∷ (int ∷ float ∷ int ∷ [])
    ∷ (float ∷ int ∷ int ∷ []) ∷ (color ∷ color ∷ color ∷ []) ∷ (int ∷ string ∷ string ∷ [])
    ∷ (int ∷ int ∷ []) ∷ [])
    ≡ replicate 7 false
unfolding is_allowed
xor_refuses = refl

shl_takes : map (takes_types op.Shl)
    ((int ∷ int ∷ int ∷ []) ∷ [])
    ≡ replicate 1 true
unfolding is_allowed
shl_takes = refl

shl_refuses : map (takes_types op.Shl)
    ((int ∷ int ∷ float ∷ []) ∷ (int ∷ float ∷ int ∷ []) ∷ (float ∷ float ∷ int ∷ [])
    ∷ (float ∷ int ∷ int ∷ []) ∷ (color ∷ color ∷ int ∷ []) ∷ (ints 3 ∷ ints 3 ∷ int ∷ []) ∷ (int ∷ int ∷ []) ∷ [])
    ≡ replicate 7 false
unfolding is_allowed
shl_refuses = refl

shr_takes : map (takes_types op.Shr)
    ((int ∷ int ∷ int ∷ []) ∷ [])
    ≡ replicate 1 true
unfolding is_allowed
shr_takes = refl

shr_refuses : map (takes_types op.Shr)
    ((int ∷ int ∷ float ∷ []) ∷ (int ∷ float ∷ int ∷ []) ∷ (float ∷ float ∷ int ∷ [])
    ∷ (float ∷ int ∷ int ∷ []) ∷ (int ∷ matrix ∷ int ∷ []) ∷ (int ∷ int ∷ int ∷ int ∷ []) ∷ [])
    ≡ replicate 6 false
unfolding is_allowed
shr_refuses = refl

not_takes : map (takes_types op.Not)
    ((int ∷ int ∷ []) ∷ (int ∷ float ∷ []) ∷ [])
    ≡ replicate 2 true
unfolding is_allowed
not_takes = refl

not_refuses : map (takes_types op.Not)
    ((float ∷ float ∷ []) ∷ (float ∷ int ∷ []) ∷ (int ∷ color ∷ []) ∷ (int ∷ normal ∷ [])
    ∷ (int ∷ matrix ∷ []) ∷ (int ∷ string ∷ []) ∷ (int ∷ closure ∷ []) ∷ (int ∷ ints 1 ∷ [])
    ∷ (int ∷ floats 1 ∷ []) ∷ (int ∷ int ∷ int ∷ []) ∷ (int ∷ []) ∷ [])
    ≡ replicate 11 false
unfolding is_allowed
not_refuses = refl

-- ---- comparisons

eq_takes : map (takes_types op.Eq)
    ((int ∷ int ∷ int ∷ []) ∷ (int ∷ float ∷ float ∷ []) ∷ (int ∷ float ∷ color ∷ [])
    ∷ (int ∷ vector ∷ float ∷ []) ∷ (int ∷ point ∷ normal ∷ []) ∷ (int ∷ color ∷ color ∷ [])
    ∷ (int ∷ matrix ∷ matrix ∷ []) ∷ (int ∷ string ∷ string ∷ []) ∷ [])
    ≡ replicate 8 true
unfolding is_allowed
eq_takes = refl

eq_refuses : map (takes_types op.Eq)
    ((int ∷ int ∷ float ∷ []) ∷ (int ∷ float ∷ int ∷ []) ∷ (int ∷ int ∷ color ∷ [])
    ∷ (int ∷ normal ∷ int ∷ []) ∷ (int ∷ matrix ∷ float ∷ []) ∷ (int ∷ color ∷ matrix ∷ [])
    ∷ (int ∷ matrix ∷ int ∷ []) ∷ (int ∷ string ∷ int ∷ []) ∷ (int ∷ string ∷ float ∷ [])
    ∷ (int ∷ closure ∷ closure ∷ []) ∷ (int ∷ closure ∷ string ∷ []) ∷ (float ∷ int ∷ int ∷ [])
    ∷ (float ∷ float ∷ float ∷ []) ∷ (color ∷ color ∷ color ∷ []) ∷ (matrix ∷ matrix ∷ matrix ∷ [])
    ∷ (string ∷ string ∷ string ∷ []) ∷ (int ∷ ints 3 ∷ ints 3 ∷ []) ∷ (int ∷ floats 2 ∷ floats 2 ∷ [])
    ∷ (int ∷ colors 2 ∷ colors 2 ∷ []) ∷ (int ∷ strings 1 ∷ strings 1 ∷ []) ∷ (ints 1 ∷ int ∷ int ∷ [])
    ∷ (int ∷ string ∷ strings 1 ∷ []) ∷ (int ∷ int ∷ []) ∷ (int ∷ int ∷ int ∷ int ∷ []) ∷ (int ∷ string ∷ []) ∷ [])
    ≡ replicate 25 false
unfolding is_allowed
eq_refuses = refl

neq_takes : map (takes_types op.Neq)
    ((int ∷ int ∷ int ∷ []) ∷ (int ∷ float ∷ float ∷ []) ∷ (int ∷ float ∷ vector ∷ [])
    ∷ (int ∷ normal ∷ float ∷ []) ∷ (int ∷ color ∷ point ∷ []) ∷ (int ∷ matrix ∷ matrix ∷ [])
    ∷ (int ∷ string ∷ string ∷ []) ∷ [])
    ≡ replicate 7 true
unfolding is_allowed
neq_takes = refl

neq_refuses : map (takes_types op.Neq)
    ((int ∷ int ∷ float ∷ []) ∷ (int ∷ float ∷ int ∷ []) ∷ (int ∷ int ∷ point ∷ [])
    ∷ (int ∷ color ∷ int ∷ []) ∷ (int ∷ matrix ∷ vector ∷ []) ∷ (int ∷ string ∷ color ∷ [])
    ∷ (int ∷ closure ∷ closure ∷ []) ∷ (float ∷ int ∷ int ∷ []) ∷ (float ∷ float ∷ float ∷ [])
    ∷ (color ∷ float ∷ color ∷ []) ∷ (int ∷ strings 2 ∷ strings 2 ∷ []) ∷ (int ∷ matrices 1 ∷ matrix ∷ [])
    ∷ (int ∷ float ∷ []) ∷ (int ∷ float ∷ float ∷ float ∷ []) ∷ [])
    ≡ replicate 14 false
unfolding is_allowed
neq_refuses = refl

lt_takes : map (takes_types op.Lt)
    ((int ∷ int ∷ int ∷ []) ∷ (int ∷ float ∷ float ∷ []) ∷ [])
    ≡ replicate 2 true
unfolding is_allowed
lt_takes = refl

lt_refuses : map (takes_types op.Lt)
    ((int ∷ int ∷ float ∷ []) ∷ (int ∷ float ∷ int ∷ []) ∷ (int ∷ color ∷ color ∷ [])
    ∷ (int ∷ point ∷ float ∷ []) ∷ (int ∷ float ∷ vector ∷ []) ∷ (int ∷ matrix ∷ matrix ∷ [])
    ∷ (int ∷ string ∷ string ∷ []) ∷ (int ∷ closure ∷ closure ∷ []) ∷ (float ∷ int ∷ int ∷ [])
    ∷ (float ∷ float ∷ float ∷ []) ∷ (int ∷ floats 1 ∷ floats 1 ∷ []) ∷ (int ∷ int ∷ [])
    ∷ (int ∷ float ∷ float ∷ float ∷ []) ∷ [])
    ≡ replicate 13 false
unfolding is_allowed
lt_refuses = refl

gt_takes : map (takes_types op.Gt)
    ((int ∷ int ∷ int ∷ []) ∷ (int ∷ float ∷ float ∷ []) ∷ [])
    ≡ replicate 2 true
unfolding is_allowed
gt_takes = refl

gt_refuses : map (takes_types op.Gt)
    ((int ∷ int ∷ float ∷ []) ∷ (int ∷ float ∷ int ∷ []) ∷ (int ∷ normal ∷ normal ∷ [])
    ∷ (int ∷ float ∷ color ∷ []) ∷ (int ∷ string ∷ string ∷ []) ∷ (int ∷ matrix ∷ matrix ∷ [])
    ∷ (float ∷ float ∷ float ∷ []) ∷ (int ∷ ints 3 ∷ ints 3 ∷ []) ∷ (int ∷ float ∷ []) ∷ [])
    ≡ replicate 9 false
unfolding is_allowed
gt_refuses = refl

le_takes : map (takes_types op.Le)
    ((int ∷ int ∷ int ∷ []) ∷ (int ∷ float ∷ float ∷ []) ∷ [])
    ≡ replicate 2 true
unfolding is_allowed
le_takes = refl

le_refuses : map (takes_types op.Le)
    ((int ∷ int ∷ float ∷ []) ∷ (int ∷ float ∷ int ∷ []) ∷ (int ∷ vector ∷ vector ∷ [])
    ∷ (int ∷ color ∷ float ∷ []) ∷ (int ∷ string ∷ string ∷ []) ∷ (int ∷ closure ∷ closure ∷ [])
    ∷ (float ∷ int ∷ int ∷ []) ∷ (ints 1 ∷ int ∷ int ∷ []) ∷ (int ∷ int ∷ int ∷ int ∷ []) ∷ [])
    ≡ replicate 9 false
unfolding is_allowed
le_refuses = refl

ge_takes : map (takes_types op.Ge)
    ((int ∷ int ∷ int ∷ []) ∷ (int ∷ float ∷ float ∷ []) ∷ [])
    ≡ replicate 2 true
unfolding is_allowed
ge_takes = refl

ge_refuses : map (takes_types op.Ge)
    ((int ∷ int ∷ float ∷ []) ∷ (int ∷ float ∷ int ∷ []) ∷ (int ∷ point ∷ point ∷ [])
    ∷ (int ∷ float ∷ normal ∷ []) ∷ (int ∷ string ∷ string ∷ []) ∷ (int ∷ matrix ∷ matrix ∷ [])
    ∷ (color ∷ float ∷ float ∷ []) ∷ (int ∷ float ∷ floats 1 ∷ []) ∷ (int ∷ int ∷ []) ∷ [])
    ≡ replicate 9 false
unfolding is_allowed
ge_refuses = refl

-- ---- elements

aref_takes : map (takes_types op.ARef)
    ((int ∷ ints 3 ∷ int ∷ []) ∷ (float ∷ floats 1 ∷ int ∷ []) ∷ (color ∷ colors 2 ∷ int ∷ [])
    ∷ (matrix ∷ matrices 2 ∷ int ∷ []) ∷ (string ∷ strings 2 ∷ int ∷ []) ∷ [])
    ≡ replicate 5 true
unfolding is_allowed
aref_takes = refl

aref_refuses : map (takes_types op.ARef)
    ((float ∷ floats 2 ∷ float ∷ []) ∷ (int ∷ ints 3 ∷ float ∷ []) ∷ (int ∷ floats 2 ∷ int ∷ [])
    ∷ (float ∷ ints 3 ∷ int ∷ []) ∷ (float ∷ colors 2 ∷ int ∷ []) ∷ (point ∷ colors 2 ∷ int ∷ [])
    ∷ (string ∷ ints 3 ∷ int ∷ []) ∷ (floats 2 ∷ floats 2 ∷ int ∷ []) ∷ (floats 1 ∷ floats 2 ∷ int ∷ [])
    ∷ (float ∷ float ∷ int ∷ []) ∷ (float ∷ color ∷ int ∷ []) ∷ (float ∷ matrix ∷ int ∷ [])
    ∷ (string ∷ string ∷ int ∷ []) ∷ (closure ∷ closure ∷ int ∷ []) ∷ (float ∷ int ∷ floats 2 ∷ [])
    ∷ (float ∷ floats 2 ∷ ints 1 ∷ []) ∷ (float ∷ floats 2 ∷ color ∷ []) ∷ (float ∷ floats 2 ∷ [])
    ∷ (float ∷ floats 2 ∷ int ∷ int ∷ []) ∷ [])
    ≡ replicate 19 false
unfolding is_allowed
aref_refuses = refl

aassign_takes : map (takes_types op.AAssign)
    ((ints 3 ∷ int ∷ int ∷ []) ∷ (floats 1 ∷ int ∷ float ∷ []) ∷ (colors 2 ∷ int ∷ color ∷ [])
    ∷ (matrices 2 ∷ int ∷ matrix ∷ []) ∷ (strings 2 ∷ int ∷ string ∷ []) ∷ [])
    ≡ replicate 5 true
unfolding is_allowed
aassign_takes = refl

aassign_refuses : map (takes_types op.AAssign)
    ((floats 2 ∷ float ∷ float ∷ []) ∷ (ints 3 ∷ float ∷ int ∷ []) ∷ (floats 2 ∷ int ∷ int ∷ [])
    ∷ (ints 3 ∷ int ∷ float ∷ []) ∷ (colors 2 ∷ int ∷ point ∷ []) ∷ (colors 2 ∷ int ∷ float ∷ [])
    ∷ (strings 2 ∷ int ∷ int ∷ []) ∷ (floats 2 ∷ int ∷ floats 2 ∷ []) ∷ (floats 2 ∷ int ∷ floats 1 ∷ [])
    ∷ (float ∷ int ∷ float ∷ []) ∷ (color ∷ int ∷ float ∷ []) ∷ (matrix ∷ int ∷ float ∷ [])
    ∷ (string ∷ int ∷ string ∷ []) ∷ (closure ∷ int ∷ closure ∷ []) ∷ (floats 2 ∷ ints 1 ∷ float ∷ [])
    ∷ (floats 2 ∷ float ∷ int ∷ []) ∷ (floats 2 ∷ int ∷ []) ∷ (floats 2 ∷ [])
    ∷ (floats 2 ∷ int ∷ float ∷ float ∷ []) ∷ (floats 2 ∷ int ∷ int ∷ float ∷ []) ∷ [])
    ≡ replicate 20 false
unfolding is_allowed
aassign_refuses = refl

arraylength_takes : map (takes_types op.ArrayLength)
    ((int ∷ ints 3 ∷ []) ∷ (int ∷ floats 1 ∷ []) ∷ (int ∷ colors 2 ∷ []) ∷ (int ∷ matrices 2 ∷ [])
    ∷ (int ∷ strings 2 ∷ []) ∷ [])
    ≡ replicate 5 true
unfolding is_allowed
arraylength_takes = refl

arraylength_refuses : map (takes_types op.ArrayLength)
    ((float ∷ floats 2 ∷ []) ∷ (floats 2 ∷ floats 2 ∷ []) ∷ (int ∷ int ∷ []) ∷ (int ∷ float ∷ [])
    ∷ (int ∷ color ∷ []) ∷ (int ∷ matrix ∷ []) ∷ (int ∷ string ∷ []) ∷ (int ∷ closure ∷ [])
    ∷ (int ∷ floats 2 ∷ int ∷ []) ∷ (int ∷ []) ∷ [])
    ≡ replicate 10 false
unfolding is_allowed
arraylength_refuses = refl

compref_takes : map (takes_types op.CompRef)
    ((float ∷ color ∷ int ∷ []) ∷ (float ∷ point ∷ int ∷ []) ∷ (float ∷ vector ∷ int ∷ [])
    ∷ (float ∷ normal ∷ int ∷ []) ∷ [])
    ≡ replicate 4 true
unfolding is_allowed
compref_takes = refl

compref_refuses : map (takes_types op.CompRef)
    ((float ∷ color ∷ float ∷ []) ∷ (int ∷ color ∷ int ∷ []) ∷ (color ∷ color ∷ int ∷ [])
    ∷ (float ∷ float ∷ int ∷ []) ∷ (float ∷ matrix ∷ int ∷ []) ∷ (float ∷ string ∷ int ∷ [])
    ∷ (float ∷ closure ∷ int ∷ []) ∷ (float ∷ floats 2 ∷ int ∷ []) ∷ (float ∷ colors 2 ∷ int ∷ [])
    ∷ (floats 1 ∷ color ∷ int ∷ []) ∷ (float ∷ color ∷ ints 1 ∷ []) ∷ (float ∷ color ∷ [])
    ∷ (float ∷ color ∷ int ∷ int ∷ []) ∷ [])
    ≡ replicate 13 false
unfolding is_allowed
compref_refuses = refl

compassign_takes : map (takes_types op.CompAssign)
    ((color ∷ int ∷ float ∷ []) ∷ (point ∷ int ∷ float ∷ []) ∷ (vector ∷ int ∷ float ∷ [])
    ∷ (normal ∷ int ∷ float ∷ []) ∷ [])
    ≡ replicate 4 true
unfolding is_allowed
compassign_takes = refl

compassign_refuses : map (takes_types op.CompAssign)
    ((color ∷ int ∷ int ∷ []) ∷ (color ∷ float ∷ float ∷ []) ∷ (color ∷ float ∷ int ∷ [])
    ∷ (color ∷ int ∷ color ∷ []) ∷ (color ∷ int ∷ string ∷ []) ∷ (float ∷ int ∷ float ∷ [])
    ∷ (matrix ∷ int ∷ float ∷ []) ∷ (closure ∷ int ∷ float ∷ []) ∷ (floats 2 ∷ int ∷ float ∷ [])
    ∷ (colors 2 ∷ int ∷ float ∷ []) ∷ (color ∷ ints 1 ∷ float ∷ []) ∷ (color ∷ int ∷ floats 1 ∷ [])
    ∷ (color ∷ int ∷ []) ∷ (color ∷ int ∷ int ∷ float ∷ []) ∷ (color ∷ color ∷ int ∷ float ∷ []) ∷ [])
    ≡ replicate 15 false
unfolding is_allowed
compassign_refuses = refl

mxcompref_takes : map (takes_types op.MxCompRef)
    ((float ∷ matrix ∷ int ∷ int ∷ []) ∷ [])
    ≡ replicate 1 true
unfolding is_allowed
mxcompref_takes = refl

mxcompref_refuses : map (takes_types op.MxCompRef)
    ((float ∷ matrix ∷ float ∷ int ∷ []) ∷ (float ∷ matrix ∷ int ∷ float ∷ [])
    ∷ (int ∷ matrix ∷ int ∷ int ∷ []) ∷ (color ∷ matrix ∷ int ∷ int ∷ [])
    ∷ (matrix ∷ matrix ∷ int ∷ int ∷ []) ∷ (float ∷ color ∷ int ∷ int ∷ [])
    ∷ (float ∷ float ∷ int ∷ int ∷ []) ∷ (float ∷ matrices 1 ∷ int ∷ int ∷ [])
    ∷ (float ∷ matrix ∷ ints 1 ∷ int ∷ []) ∷ (float ∷ matrix ∷ int ∷ [])
    ∷ (float ∷ matrix ∷ int ∷ int ∷ int ∷ []) ∷ [])
    ≡ replicate 11 false
unfolding is_allowed
mxcompref_refuses = refl

mxcompassign_takes : map (takes_types op.MxCompAssign)
    ((matrix ∷ int ∷ int ∷ float ∷ []) ∷ [])
    ≡ replicate 1 true
unfolding is_allowed
mxcompassign_takes = refl

mxcompassign_refuses : map (takes_types op.MxCompAssign)
    ((matrix ∷ int ∷ int ∷ int ∷ []) ∷ (matrix ∷ float ∷ int ∷ float ∷ [])
    ∷ (matrix ∷ int ∷ float ∷ float ∷ []) ∷ (matrix ∷ int ∷ int ∷ color ∷ [])
    ∷ (matrix ∷ int ∷ int ∷ matrix ∷ []) ∷ (color ∷ int ∷ int ∷ float ∷ [])
    ∷ (float ∷ int ∷ int ∷ float ∷ []) ∷ (matrices 1 ∷ int ∷ int ∷ float ∷ [])
    ∷ (matrix ∷ int ∷ int ∷ floats 1 ∷ []) ∷ (matrix ∷ int ∷ float ∷ []) ∷ (matrix ∷ int ∷ int ∷ [])
    ∷ (matrix ∷ matrix ∷ int ∷ int ∷ float ∷ []) ∷ [])
    ≡ replicate 12 false
unfolding is_allowed
mxcompassign_refuses = refl

triple_takes : map (takes_types op.Triple)
    ((color ∷ int ∷ int ∷ int ∷ []) ∷ (point ∷ float ∷ float ∷ float ∷ [])
    ∷ (vector ∷ float ∷ int ∷ float ∷ []) ∷ (normal ∷ int ∷ float ∷ int ∷ []) ∷ [])
    ≡ replicate 4 true
unfolding is_allowed
triple_takes = refl

triple_refuses : map (takes_types op.Triple)
    ((color ∷ float ∷ float ∷ []) ∷ (color ∷ float ∷ float ∷ float ∷ float ∷ []) ∷ (color ∷ float ∷ [])
    ∷ (color ∷ color ∷ []) ∷ (color ∷ color ∷ float ∷ float ∷ []) ∷ (color ∷ float ∷ float ∷ vector ∷ [])
    ∷ (color ∷ float ∷ string ∷ float ∷ []) ∷ (float ∷ float ∷ float ∷ float ∷ [])
    ∷ (floats 2 ∷ float ∷ float ∷ float ∷ []) ∷ (matrix ∷ float ∷ float ∷ float ∷ [])
    ∷ (normals 1 ∷ float ∷ float ∷ float ∷ []) ∷ (color ∷ float ∷ floats 1 ∷ float ∷ []) ∷ (color ∷ []) ∷ [])
    ≡ replicate 13 false
unfolding is_allowed
triple_refuses = refl

matrix_takes : map (takes_types op.Matrix)
    ((matrix ∷ int ∷ []) ∷ (matrix ∷ float ∷ []) ∷ [])
    ≡ replicate 2 true
unfolding is_allowed
matrix_takes = refl

matrix_refuses : map (takes_types op.Matrix)
    ((matrix ∷ color ∷ []) ∷ (matrix ∷ matrix ∷ []) ∷ (matrix ∷ string ∷ []) ∷ (matrix ∷ floats 1 ∷ [])
    ∷ (matrix ∷ float ∷ float ∷ []) ∷ (float ∷ float ∷ []) ∷ (color ∷ float ∷ []) ∷ (matrices 1 ∷ float ∷ [])
    ∷ (matrix ∷ []) ∷ [])
    ≡ replicate 9 false
unfolding is_allowed
matrix_refuses = refl

-- ---- componentwise

abs_takes : map (takes_types op.Abs)
    ((int ∷ int ∷ []) ∷ (float ∷ float ∷ []) ∷ (color ∷ color ∷ []) ∷ (normal ∷ point ∷ [])
    ∷ (vector ∷ float ∷ []) ∷ [])
    ≡ replicate 5 true
unfolding is_allowed
abs_takes = refl

abs_refuses : map (takes_types op.Abs)
    ((float ∷ int ∷ []) ∷ (int ∷ float ∷ []) ∷ (color ∷ int ∷ []) ∷ (float ∷ vector ∷ [])
    ∷ (int ∷ color ∷ []) ∷ (matrix ∷ matrix ∷ []) ∷ (string ∷ string ∷ []) ∷ (closure ∷ closure ∷ [])
    ∷ (floats 2 ∷ floats 2 ∷ []) ∷ (ints 3 ∷ ints 3 ∷ []) ∷ (int ∷ int ∷ int ∷ [])
    ∷ (float ∷ float ∷ float ∷ []) ∷ [])
    ≡ replicate 12 false
unfolding is_allowed
abs_refuses = refl

sign_takes : map (takes_types op.Sign)
    ((float ∷ float ∷ []) ∷ (vector ∷ point ∷ []) ∷ (color ∷ float ∷ []) ∷ [])
    ≡ replicate 3 true
unfolding is_allowed
sign_takes = refl

sign_refuses : map (takes_types op.Sign)
    ((int ∷ int ∷ []) ∷ (float ∷ int ∷ []) ∷ (int ∷ float ∷ []) ∷ (color ∷ int ∷ []) ∷ (float ∷ color ∷ [])
    ∷ (matrix ∷ matrix ∷ []) ∷ (floats 1 ∷ floats 1 ∷ []) ∷ (float ∷ float ∷ float ∷ []) ∷ [])
    ≡ replicate 8 false
unfolding is_allowed
sign_refuses = refl

floor_takes : map (takes_types op.Floor)
    ((float ∷ float ∷ []) ∷ (color ∷ color ∷ []) ∷ [])
    ≡ replicate 2 true
unfolding is_allowed
floor_takes = refl

floor_refuses : map (takes_types op.Floor)
    ((int ∷ float ∷ []) ∷ (int ∷ int ∷ []) ∷ (float ∷ int ∷ []) ∷ (point ∷ int ∷ []) ∷ (float ∷ point ∷ [])
    ∷ (matrix ∷ matrix ∷ []) ∷ (float ∷ []) ∷ [])
    ≡ replicate 7 false
unfolding is_allowed
floor_refuses = refl

ceil_takes : map (takes_types op.Ceil)
    ((float ∷ float ∷ []) ∷ (point ∷ vector ∷ []) ∷ [])
    ≡ replicate 2 true
unfolding is_allowed
ceil_takes = refl

ceil_refuses : map (takes_types op.Ceil)
    ((int ∷ float ∷ []) ∷ (int ∷ int ∷ []) ∷ (float ∷ int ∷ []) ∷ (color ∷ int ∷ []) ∷ (float ∷ color ∷ [])
    ∷ (string ∷ string ∷ []) ∷ (float ∷ float ∷ float ∷ []) ∷ [])
    ≡ replicate 7 false
unfolding is_allowed
ceil_refuses = refl

round_takes : map (takes_types op.Round)
    ((float ∷ float ∷ []) ∷ (vector ∷ float ∷ []) ∷ [])
    ≡ replicate 2 true
unfolding is_allowed
round_takes = refl

round_refuses : map (takes_types op.Round)
    ((int ∷ float ∷ []) ∷ (int ∷ int ∷ []) ∷ (float ∷ int ∷ []) ∷ (normal ∷ int ∷ []) ∷ (float ∷ normal ∷ [])
    ∷ (closure ∷ closure ∷ []) ∷ (floats 2 ∷ floats 2 ∷ []) ∷ [])
    ≡ replicate 7 false
unfolding is_allowed
round_refuses = refl

trunc_takes : map (takes_types op.Trunc)
    ((float ∷ float ∷ []) ∷ (normal ∷ normal ∷ []) ∷ [])
    ≡ replicate 2 true
unfolding is_allowed
trunc_takes = refl

trunc_refuses : map (takes_types op.Trunc)
    ((int ∷ float ∷ []) ∷ (int ∷ int ∷ []) ∷ (float ∷ int ∷ []) ∷ (vector ∷ int ∷ []) ∷ (float ∷ vector ∷ [])
    ∷ (int ∷ color ∷ []) ∷ (colors 2 ∷ colors 2 ∷ []) ∷ [])
    ≡ replicate 7 false
unfolding is_allowed
trunc_refuses = refl

sqrt_takes : map (takes_types op.Sqrt)
    ((float ∷ float ∷ []) ∷ (color ∷ color ∷ []) ∷ [])
    ≡ replicate 2 true
unfolding is_allowed
sqrt_takes = refl

sqrt_refuses : map (takes_types op.Sqrt)
    ((float ∷ int ∷ []) ∷ (int ∷ int ∷ []) ∷ (int ∷ float ∷ []) ∷ (color ∷ int ∷ []) ∷ (float ∷ color ∷ [])
    ∷ (matrix ∷ matrix ∷ []) ∷ (string ∷ float ∷ []) ∷ (float ∷ []) ∷ [])
    ≡ replicate 8 false
unfolding is_allowed
sqrt_refuses = refl

inversesqrt_takes : map (takes_types op.InverseSqrt)
    ((float ∷ float ∷ []) ∷ (color ∷ point ∷ []) ∷ [])
    ≡ replicate 2 true
unfolding is_allowed
inversesqrt_takes = refl

inversesqrt_refuses : map (takes_types op.InverseSqrt)
    ((float ∷ int ∷ []) ∷ (int ∷ int ∷ []) ∷ (int ∷ float ∷ []) ∷ (point ∷ int ∷ []) ∷ (float ∷ point ∷ [])
    ∷ (matrix ∷ float ∷ []) ∷ (float ∷ float ∷ float ∷ []) ∷ [])
    ≡ replicate 7 false
unfolding is_allowed
inversesqrt_refuses = refl

min_takes : map (takes_types op.Min)
    ((int ∷ int ∷ int ∷ []) ∷ (float ∷ float ∷ float ∷ []) ∷ (color ∷ color ∷ float ∷ [])
    ∷ (point ∷ float ∷ float ∷ []) ∷ (normal ∷ vector ∷ color ∷ []) ∷ [])
    ≡ replicate 5 true
unfolding is_allowed
min_takes = refl

min_refuses : map (takes_types op.Min)
    ((int ∷ int ∷ float ∷ []) ∷ (float ∷ int ∷ float ∷ []) ∷ (float ∷ int ∷ int ∷ [])
    ∷ (int ∷ float ∷ float ∷ []) ∷ (float ∷ color ∷ color ∷ []) ∷ (color ∷ int ∷ color ∷ [])
    ∷ (matrix ∷ matrix ∷ matrix ∷ []) ∷ (string ∷ string ∷ string ∷ []) ∷ (closure ∷ closure ∷ closure ∷ [])
    ∷ (ints 3 ∷ ints 3 ∷ ints 3 ∷ []) ∷ (int ∷ int ∷ []) ∷ (float ∷ float ∷ float ∷ float ∷ []) ∷ [])
    ≡ replicate 12 false
unfolding is_allowed
min_refuses = refl

max_takes : map (takes_types op.Max)
    ((int ∷ int ∷ int ∷ []) ∷ (float ∷ float ∷ float ∷ []) ∷ (vector ∷ float ∷ vector ∷ [])
    ∷ (color ∷ point ∷ normal ∷ []) ∷ [])
    ≡ replicate 4 true
unfolding is_allowed
max_takes = refl

max_refuses : map (takes_types op.Max)
    ((int ∷ float ∷ int ∷ []) ∷ (float ∷ float ∷ int ∷ []) ∷ (float ∷ int ∷ int ∷ [])
    ∷ (int ∷ float ∷ float ∷ []) ∷ (float ∷ float ∷ color ∷ []) ∷ (vector ∷ vector ∷ int ∷ [])
    ∷ (matrix ∷ matrix ∷ matrix ∷ []) ∷ (string ∷ string ∷ string ∷ []) ∷ (closure ∷ closure ∷ closure ∷ [])
    ∷ (floats 2 ∷ floats 2 ∷ floats 2 ∷ []) ∷ (float ∷ float ∷ []) ∷ (int ∷ int ∷ int ∷ int ∷ []) ∷ [])
    ≡ replicate 12 false
unfolding is_allowed
max_refuses = refl

fmod_takes : map (takes_types op.Fmod)
    ((float ∷ float ∷ float ∷ []) ∷ (color ∷ color ∷ float ∷ []) ∷ (point ∷ vector ∷ point ∷ []) ∷ [])
    ≡ replicate 3 true
unfolding is_allowed
fmod_takes = refl

fmod_refuses : map (takes_types op.Fmod)
    ((int ∷ int ∷ int ∷ []) ∷ (float ∷ int ∷ float ∷ []) ∷ (float ∷ float ∷ int ∷ [])
    ∷ (int ∷ float ∷ float ∷ []) ∷ (float ∷ color ∷ float ∷ []) ∷ (color ∷ color ∷ int ∷ [])
    ∷ (matrix ∷ matrix ∷ float ∷ []) ∷ (float ∷ float ∷ []) ∷ [])
    ≡ replicate 8 false
unfolding is_allowed
fmod_refuses = refl

mod_takes : map (takes_types op.Mod)
    ((float ∷ float ∷ float ∷ []) ∷ (vector ∷ vector ∷ float ∷ []) ∷ (color ∷ float ∷ float ∷ []) ∷ [])
    ≡ replicate 3 true
unfolding is_allowed
mod_takes = refl

mod_refuses : map (takes_types op.Mod)
    ((int ∷ int ∷ int ∷ []) ∷ (float ∷ int ∷ float ∷ []) ∷ (float ∷ float ∷ int ∷ [])
    ∷ (int ∷ float ∷ float ∷ []) ∷ (float ∷ float ∷ color ∷ []) ∷ (point ∷ int ∷ point ∷ [])
    ∷ (floats 2 ∷ floats 2 ∷ float ∷ []) ∷ (float ∷ float ∷ float ∷ float ∷ []) ∷ [])
    ≡ replicate 8 false
unfolding is_allowed
mod_refuses = refl

step_takes : map (takes_types op.Step)
    ((float ∷ float ∷ float ∷ []) ∷ (vector ∷ float ∷ vector ∷ []) ∷ (color ∷ color ∷ float ∷ []) ∷ [])
    ≡ replicate 3 true
unfolding is_allowed
step_takes = refl

step_refuses : map (takes_types op.Step)
    ((int ∷ int ∷ int ∷ []) ∷ (int ∷ float ∷ float ∷ []) ∷ (float ∷ int ∷ float ∷ [])
    ∷ (float ∷ float ∷ int ∷ []) ∷ (float ∷ color ∷ color ∷ []) ∷ (color ∷ int ∷ color ∷ [])
    ∷ (color ∷ color ∷ matrix ∷ []) ∷ (float ∷ float ∷ []) ∷ [])
    ≡ replicate 8 false
unfolding is_allowed
step_refuses = refl

clamp_takes : map (takes_types op.Clamp)
    ((int ∷ int ∷ int ∷ int ∷ []) ∷ (float ∷ float ∷ float ∷ float ∷ [])
    ∷ (color ∷ color ∷ float ∷ float ∷ []) ∷ (point ∷ float ∷ vector ∷ normal ∷ []) ∷ [])
    ≡ replicate 4 true
unfolding is_allowed
clamp_takes = refl

clamp_refuses : map (takes_types op.Clamp)
    ((int ∷ int ∷ int ∷ float ∷ []) ∷ (int ∷ float ∷ int ∷ int ∷ []) ∷ (float ∷ float ∷ int ∷ int ∷ [])
    ∷ (float ∷ int ∷ int ∷ int ∷ []) ∷ (int ∷ float ∷ float ∷ float ∷ [])
    ∷ (float ∷ color ∷ float ∷ float ∷ []) ∷ (color ∷ color ∷ int ∷ int ∷ [])
    ∷ (matrix ∷ matrix ∷ float ∷ float ∷ []) ∷ (string ∷ string ∷ string ∷ string ∷ [])
    ∷ (closure ∷ closure ∷ float ∷ float ∷ []) ∷ (floats 2 ∷ floats 2 ∷ float ∷ float ∷ [])
    ∷ (float ∷ float ∷ float ∷ []) ∷ (int ∷ int ∷ int ∷ []) ∷ (int ∷ int ∷ int ∷ int ∷ int ∷ []) ∷ [])
    ≡ replicate 14 false
unfolding is_allowed
clamp_refuses = refl

mix_takes : map (takes_types op.Mix)
    ((float ∷ float ∷ float ∷ float ∷ []) ∷ (color ∷ color ∷ color ∷ float ∷ [])
    ∷ (vector ∷ point ∷ normal ∷ color ∷ []) ∷ (color ∷ float ∷ float ∷ float ∷ []) ∷ [])
    ≡ replicate 4 true
unfolding is_allowed
mix_takes = refl

mix_refuses : map (takes_types op.Mix)
    ((int ∷ int ∷ int ∷ int ∷ []) ∷ (float ∷ float ∷ float ∷ int ∷ []) ∷ (float ∷ int ∷ int ∷ float ∷ [])
    ∷ (float ∷ color ∷ color ∷ float ∷ []) ∷ (color ∷ color ∷ color ∷ int ∷ [])
    ∷ (float ∷ float ∷ float ∷ color ∷ []) ∷ (matrix ∷ matrix ∷ matrix ∷ float ∷ [])
    ∷ (closure ∷ closure ∷ closure ∷ float ∷ []) ∷ (string ∷ string ∷ string ∷ float ∷ [])
    ∷ (colors 2 ∷ colors 2 ∷ colors 2 ∷ float ∷ []) ∷ (color ∷ color ∷ color ∷ [])
    ∷ (float ∷ float ∷ float ∷ float ∷ float ∷ []) ∷ [])
    ≡ replicate 12 false
unfolding is_allowed
mix_refuses = refl

smoothstep_takes : map (takes_types op.SmoothStep)
    ((float ∷ float ∷ float ∷ float ∷ []) ∷ (color ∷ float ∷ float ∷ color ∷ [])
    ∷ (point ∷ point ∷ point ∷ point ∷ []) ∷ [])
    ≡ replicate 3 true
unfolding is_allowed
smoothstep_takes = refl

smoothstep_refuses : map (takes_types op.SmoothStep)
    ((int ∷ int ∷ int ∷ int ∷ []) ∷ (float ∷ int ∷ int ∷ float ∷ []) ∷ (float ∷ float ∷ float ∷ int ∷ [])
    ∷ (int ∷ float ∷ float ∷ float ∷ []) ∷ (float ∷ float ∷ float ∷ vector ∷ [])
    ∷ (color ∷ float ∷ int ∷ color ∷ []) ∷ (matrix ∷ float ∷ float ∷ matrix ∷ [])
    ∷ (floats 2 ∷ floats 2 ∷ floats 2 ∷ floats 2 ∷ []) ∷ (float ∷ float ∷ float ∷ [])
    ∷ (float ∷ float ∷ float ∷ float ∷ float ∷ []) ∷ [])
    ≡ replicate 10 false
unfolding is_allowed
smoothstep_refuses = refl

-- ---- geometry

dot_takes : map (takes_types op.Dot)
    ((float ∷ vector ∷ vector ∷ []) ∷ (float ∷ normal ∷ color ∷ []) ∷ (float ∷ point ∷ vector ∷ []) ∷ [])
    ≡ replicate 3 true
unfolding is_allowed
dot_takes = refl

dot_refuses : map (takes_types op.Dot)
    ((float ∷ float ∷ vector ∷ []) ∷ (float ∷ vector ∷ float ∷ []) ∷ (float ∷ float ∷ float ∷ [])
    ∷ (color ∷ color ∷ color ∷ []) ∷ (int ∷ vector ∷ vector ∷ []) ∷ (vector ∷ vector ∷ float ∷ [])
    ∷ (float ∷ matrix ∷ matrix ∷ []) ∷ (float ∷ matrix ∷ vector ∷ []) ∷ (float ∷ vector ∷ int ∷ [])
    ∷ (float ∷ floats 2 ∷ floats 2 ∷ []) ∷ (float ∷ vector ∷ points 2 ∷ [])
    ∷ (floats 1 ∷ vector ∷ vector ∷ []) ∷ (float ∷ vector ∷ []) ∷ (float ∷ vector ∷ vector ∷ vector ∷ []) ∷ [])
    ≡ replicate 14 false
unfolding is_allowed
dot_refuses = refl

cross_takes : map (takes_types op.Cross)
    ((vector ∷ vector ∷ vector ∷ []) ∷ (color ∷ normal ∷ point ∷ []) ∷ (normal ∷ color ∷ color ∷ []) ∷ [])
    ≡ replicate 3 true
unfolding is_allowed
cross_takes = refl

cross_refuses : map (takes_types op.Cross)
    ((float ∷ vector ∷ vector ∷ []) ∷ (vector ∷ vector ∷ float ∷ []) ∷ (vector ∷ float ∷ vector ∷ [])
    ∷ (vector ∷ vector ∷ int ∷ []) ∷ (vector ∷ matrix ∷ vector ∷ []) ∷ (matrix ∷ vector ∷ vector ∷ [])
    ∷ (vector ∷ points 2 ∷ vector ∷ []) ∷ (points 2 ∷ vector ∷ vector ∷ []) ∷ (vector ∷ vector ∷ [])
    ∷ (vector ∷ vector ∷ vector ∷ vector ∷ []) ∷ [])
    ≡ replicate 10 false
unfolding is_allowed
cross_refuses = refl

length_takes : map (takes_types op.Length)
    ((float ∷ vector ∷ []) ∷ (float ∷ normal ∷ []) ∷ (float ∷ point ∷ []) ∷ (float ∷ color ∷ []) ∷ [])
    ≡ replicate 4 true
unfolding is_allowed
length_takes = refl

length_refuses : map (takes_types op.Length)
    ((float ∷ float ∷ []) ∷ (int ∷ vector ∷ []) ∷ (vector ∷ vector ∷ []) ∷ (float ∷ int ∷ [])
    ∷ (float ∷ matrix ∷ []) ∷ (float ∷ string ∷ []) ∷ (float ∷ floats 2 ∷ []) ∷ (float ∷ colors 2 ∷ [])
    ∷ (int ∷ string ∷ []) ∷ (int ∷ floats 2 ∷ []) ∷ (float ∷ vector ∷ vector ∷ []) ∷ (float ∷ []) ∷ [])
    ≡ replicate 12 false
unfolding is_allowed
length_refuses = refl

distance_takes : map (takes_types op.Distance)
    ((float ∷ point ∷ point ∷ []) ∷ (float ∷ color ∷ vector ∷ []) ∷ (float ∷ normal ∷ point ∷ []) ∷ [])
    ≡ replicate 3 true
unfolding is_allowed
distance_takes = refl

distance_refuses : map (takes_types op.Distance)
    ((point ∷ point ∷ point ∷ []) ∷ (int ∷ point ∷ point ∷ []) ∷ (float ∷ point ∷ float ∷ [])
    ∷ (float ∷ float ∷ point ∷ []) ∷ (float ∷ float ∷ float ∷ []) ∷ (float ∷ matrix ∷ point ∷ [])
    ∷ (float ∷ points 2 ∷ points 2 ∷ []) ∷ (float ∷ point ∷ []) ∷ (float ∷ point ∷ point ∷ point ∷ []) ∷ [])
    ≡ replicate 9 false
unfolding is_allowed
distance_refuses = refl

normalize_takes : map (takes_types op.Normalize)
    ((vector ∷ vector ∷ []) ∷ (normal ∷ normal ∷ []) ∷ (normal ∷ color ∷ []) ∷ (color ∷ point ∷ []) ∷ [])
    ≡ replicate 4 true
unfolding is_allowed
normalize_takes = refl

normalize_refuses : map (takes_types op.Normalize)
    ((float ∷ vector ∷ []) ∷ (vector ∷ float ∷ []) ∷ (float ∷ float ∷ []) ∷ (vector ∷ int ∷ [])
    ∷ (matrix ∷ matrix ∷ []) ∷ (vector ∷ matrix ∷ []) ∷ (normals 1 ∷ normal ∷ []) ∷ (normal ∷ normals 1 ∷ [])
    ∷ (normal ∷ normal ∷ float ∷ []) ∷ (vector ∷ []) ∷ [])
    ≡ replicate 10 false
unfolding is_allowed
normalize_refuses = refl

transpose_takes : map (takes_types op.Transpose)
    ((matrix ∷ matrix ∷ []) ∷ [])
    ≡ replicate 1 true
unfolding is_allowed
transpose_takes = refl

transpose_refuses : map (takes_types op.Transpose)
    ((float ∷ matrix ∷ []) ∷ (matrix ∷ float ∷ []) ∷ (color ∷ color ∷ []) ∷ (matrix ∷ color ∷ [])
    ∷ (matrices 1 ∷ matrix ∷ []) ∷ (matrix ∷ matrices 1 ∷ []) ∷ (matrices 1 ∷ matrices 1 ∷ [])
    ∷ (matrix ∷ matrix ∷ matrix ∷ []) ∷ (matrix ∷ []) ∷ [])
    ≡ replicate 9 false
unfolding is_allowed
transpose_refuses = refl

transform_takes : map (takes_types op.Transform)
    ((point ∷ matrix ∷ point ∷ []) ∷ (vector ∷ matrix ∷ vector ∷ []) ∷ (normal ∷ matrix ∷ normal ∷ [])
    ∷ (color ∷ matrix ∷ color ∷ []) ∷ (point ∷ matrix ∷ vector ∷ []) ∷ (vector ∷ matrix ∷ point ∷ []) ∷ [])
    ≡ replicate 6 true
unfolding is_allowed
transform_takes = refl

transform_refuses : map (takes_types op.Transform)
    ((point ∷ point ∷ matrix ∷ []) ∷ (point ∷ matrix ∷ []) ∷ (point ∷ point ∷ [])
    ∷ (point ∷ matrix ∷ float ∷ []) ∷ (point ∷ matrix ∷ int ∷ []) ∷ (float ∷ matrix ∷ point ∷ [])
    ∷ (matrix ∷ matrix ∷ point ∷ []) ∷ (matrix ∷ matrix ∷ matrix ∷ []) ∷ (point ∷ color ∷ point ∷ [])
    ∷ (point ∷ float ∷ point ∷ []) ∷ (point ∷ string ∷ point ∷ []) ∷ (point ∷ matrices 1 ∷ point ∷ [])
    ∷ (point ∷ matrix ∷ points 2 ∷ []) ∷ (points 2 ∷ matrix ∷ point ∷ [])
    ∷ (point ∷ matrix ∷ matrix ∷ point ∷ []) ∷ (point ∷ matrix ∷ point ∷ point ∷ []) ∷ [])
    ≡ replicate 16 false
unfolding is_allowed
transform_refuses = refl

-- ---- strings

concat_takes : map (takes_types op.Concat)
    ((string ∷ string ∷ string ∷ []) ∷ [])
    ≡ replicate 1 true
unfolding is_allowed
concat_takes = refl

concat_refuses : map (takes_types op.Concat)
    ((string ∷ string ∷ int ∷ []) ∷ (string ∷ int ∷ string ∷ []) ∷ (string ∷ float ∷ string ∷ [])
    ∷ (int ∷ string ∷ string ∷ []) ∷ (string ∷ string ∷ []) ∷ (string ∷ string ∷ string ∷ string ∷ [])
    ∷ (string ∷ string ∷ strings 1 ∷ []) ∷ (strings 2 ∷ string ∷ string ∷ [])
    ∷ (closure ∷ string ∷ string ∷ []) ∷ (string ∷ string ∷ closure ∷ []) ∷ [])
    ≡ replicate 10 false
unfolding is_allowed
concat_refuses = refl

strlen_takes : map (takes_types op.StrLen)
    ((int ∷ string ∷ []) ∷ [])
    ≡ replicate 1 true
unfolding is_allowed
strlen_takes = refl

strlen_refuses : map (takes_types op.StrLen)
    ((float ∷ string ∷ []) ∷ (string ∷ string ∷ []) ∷ (int ∷ int ∷ []) ∷ (int ∷ float ∷ [])
    ∷ (int ∷ strings 1 ∷ []) ∷ (int ∷ closure ∷ []) ∷ (ints 1 ∷ string ∷ []) ∷ (int ∷ string ∷ string ∷ [])
    ∷ (int ∷ []) ∷ [])
    ≡ replicate 9 false
unfolding is_allowed
strlen_refuses = refl

startswith_takes : map (takes_types op.StartsWith)
    ((int ∷ string ∷ string ∷ []) ∷ [])
    ≡ replicate 1 true
unfolding is_allowed
startswith_takes = refl

startswith_refuses : map (takes_types op.StartsWith)
    ((float ∷ string ∷ string ∷ []) ∷ (string ∷ string ∷ string ∷ []) ∷ (int ∷ string ∷ int ∷ [])
    ∷ (int ∷ int ∷ string ∷ []) ∷ (int ∷ string ∷ strings 1 ∷ []) ∷ (int ∷ string ∷ [])
    ∷ (int ∷ string ∷ string ∷ string ∷ []) ∷ [])
    ≡ replicate 7 false
unfolding is_allowed
startswith_refuses = refl

endswith_takes : map (takes_types op.EndsWith)
    ((int ∷ string ∷ string ∷ []) ∷ [])
    ≡ replicate 1 true
unfolding is_allowed
endswith_takes = refl

endswith_refuses : map (takes_types op.EndsWith)
    ((float ∷ string ∷ string ∷ []) ∷ (string ∷ string ∷ string ∷ []) ∷ (int ∷ string ∷ int ∷ [])
    ∷ (int ∷ float ∷ string ∷ []) ∷ (int ∷ strings 1 ∷ string ∷ []) ∷ (int ∷ string ∷ [])
    ∷ (int ∷ string ∷ string ∷ int ∷ []) ∷ [])
    ≡ replicate 7 false
unfolding is_allowed
endswith_refuses = refl

substr_takes : map (takes_types op.SubStr)
    ((string ∷ string ∷ int ∷ int ∷ []) ∷ [])
    ≡ replicate 1 true
unfolding is_allowed
substr_takes = refl

substr_refuses : map (takes_types op.SubStr)
    ((string ∷ string ∷ int ∷ []) ∷ (string ∷ string ∷ float ∷ int ∷ [])
    ∷ (string ∷ string ∷ int ∷ float ∷ []) ∷ (int ∷ string ∷ int ∷ int ∷ [])
    ∷ (string ∷ int ∷ int ∷ int ∷ []) ∷ (string ∷ string ∷ string ∷ int ∷ [])
    ∷ (string ∷ strings 1 ∷ int ∷ int ∷ []) ∷ (strings 1 ∷ string ∷ int ∷ int ∷ [])
    ∷ (string ∷ string ∷ int ∷ ints 1 ∷ []) ∷ (string ∷ string ∷ [])
    ∷ (string ∷ string ∷ int ∷ int ∷ int ∷ []) ∷ [])
    ≡ replicate 11 false
unfolding is_allowed
substr_refuses = refl

getchar_takes : map (takes_types op.GetChar)
    ((int ∷ string ∷ int ∷ []) ∷ [])
    ≡ replicate 1 true
unfolding is_allowed
getchar_takes = refl

getchar_refuses : map (takes_types op.GetChar)
    ((string ∷ string ∷ int ∷ []) ∷ (float ∷ string ∷ int ∷ []) ∷ (int ∷ string ∷ float ∷ [])
    ∷ (int ∷ int ∷ int ∷ []) ∷ (int ∷ string ∷ string ∷ []) ∷ (int ∷ strings 1 ∷ int ∷ [])
    ∷ (int ∷ string ∷ []) ∷ (int ∷ string ∷ int ∷ int ∷ []) ∷ [])
    ≡ replicate 8 false
unfolding is_allowed
getchar_refuses = refl

-- ---- closures

cl_emission_takes : map (takes_types op.ClEmission)
    ((closure ∷ []) ∷ [])
    ≡ replicate 1 true
unfolding is_allowed
cl_emission_takes = refl

cl_emission_refuses : map (takes_types op.ClEmission)
    ((color ∷ []) ∷ (float ∷ []) ∷ (string ∷ []) ∷ (closure ∷ color ∷ []) ∷ (closure ∷ normal ∷ [])
    ∷ (closure ∷ closure ∷ []) ∷ [] ∷ [])
    ≡ replicate 7 false
unfolding is_allowed
cl_emission_refuses = refl

cl_background_takes : map (takes_types op.ClBackground)
    ((closure ∷ []) ∷ [])
    ≡ replicate 1 true
unfolding is_allowed
cl_background_takes = refl

cl_background_refuses : map (takes_types op.ClBackground)
    ((color ∷ []) ∷ (normal ∷ []) ∷ (closure ∷ float ∷ []) ∷ (closure ∷ normal ∷ [])
    ∷ (closure ∷ closure ∷ []) ∷ [] ∷ [])
    ≡ replicate 6 false
unfolding is_allowed
cl_background_refuses = refl

cl_holdout_takes : map (takes_types op.ClHoldout)
    ((closure ∷ []) ∷ [])
    ≡ replicate 1 true
unfolding is_allowed
cl_holdout_takes = refl

cl_holdout_refuses : map (takes_types op.ClHoldout)
    ((int ∷ []) ∷ (color ∷ []) ∷ (closure ∷ int ∷ []) ∷ (closure ∷ normal ∷ []) ∷ (closure ∷ string ∷ [])
    ∷ [] ∷ [])
    ≡ replicate 6 false
unfolding is_allowed
cl_holdout_refuses = refl

cl_transparent_takes : map (takes_types op.ClTransparent)
    ((closure ∷ []) ∷ [])
    ≡ replicate 1 true
unfolding is_allowed
cl_transparent_takes = refl

cl_transparent_refuses : map (takes_types op.ClTransparent)
    ((matrix ∷ []) ∷ (color ∷ []) ∷ (closure ∷ color ∷ []) ∷ (closure ∷ normal ∷ []) ∷ (closure ∷ float ∷ [])
    ∷ [] ∷ [])
    ≡ replicate 6 false
unfolding is_allowed
cl_transparent_refuses = refl

cl_diffuse_takes : map (takes_types op.ClDiffuse)
    ((closure ∷ normal ∷ []) ∷ [])
    ≡ replicate 1 true
unfolding is_allowed
cl_diffuse_takes = refl

cl_diffuse_refuses : map (takes_types op.ClDiffuse)
    ((closure ∷ vector ∷ []) ∷ (closure ∷ point ∷ []) ∷ (closure ∷ color ∷ []) ∷ (closure ∷ float ∷ [])
    ∷ (closure ∷ closure ∷ []) ∷ (closure ∷ normals 1 ∷ []) ∷ (color ∷ normal ∷ []) ∷ (normal ∷ normal ∷ [])
    ∷ (closure ∷ []) ∷ (closure ∷ normal ∷ normal ∷ []) ∷ (closure ∷ normal ∷ float ∷ [])
    ∷ (closure ∷ float ∷ normal ∷ []) ∷ [] ∷ [])
    ≡ replicate 13 false
unfolding is_allowed
cl_diffuse_refuses = refl

cl_translucent_takes : map (takes_types op.ClTranslucent)
    ((closure ∷ normal ∷ []) ∷ [])
    ≡ replicate 1 true
unfolding is_allowed
cl_translucent_takes = refl

cl_translucent_refuses : map (takes_types op.ClTranslucent)
    ((closure ∷ vector ∷ []) ∷ (closure ∷ point ∷ []) ∷ (closure ∷ color ∷ []) ∷ (closure ∷ int ∷ [])
    ∷ (closure ∷ normals 1 ∷ []) ∷ (color ∷ normal ∷ []) ∷ (closure ∷ []) ∷ (closure ∷ normal ∷ normal ∷ [])
    ∷ (closure ∷ normal ∷ float ∷ []) ∷ [])
    ≡ replicate 9 false
unfolding is_allowed
cl_translucent_refuses = refl

cl_oren_nayar_takes : map (takes_types op.ClOrenNayar)
    ((closure ∷ normal ∷ float ∷ []) ∷ (closure ∷ normal ∷ int ∷ []) ∷ [])
    ≡ replicate 2 true
unfolding is_allowed
cl_oren_nayar_takes = refl

cl_oren_nayar_refuses : map (takes_types op.ClOrenNayar)
    ((closure ∷ vector ∷ float ∷ []) ∷ (closure ∷ point ∷ float ∷ []) ∷ (closure ∷ color ∷ float ∷ [])
    ∷ (closure ∷ normal ∷ color ∷ []) ∷ (closure ∷ normal ∷ string ∷ []) ∷ (closure ∷ normal ∷ normal ∷ [])
    ∷ (closure ∷ normal ∷ floats 1 ∷ []) ∷ (closure ∷ normals 1 ∷ float ∷ [])
    ∷ (closure ∷ float ∷ normal ∷ []) ∷ (color ∷ normal ∷ float ∷ []) ∷ (closure ∷ normal ∷ [])
    ∷ (closure ∷ float ∷ []) ∷ (closure ∷ normal ∷ float ∷ float ∷ []) ∷ (closure ∷ []) ∷ [])
    ≡ replicate 14 false
unfolding is_allowed
cl_oren_nayar_refuses = refl

cl_reflection_takes : map (takes_types op.ClReflection)
    ((closure ∷ normal ∷ float ∷ []) ∷ (closure ∷ normal ∷ int ∷ []) ∷ [])
    ≡ replicate 2 true
unfolding is_allowed
cl_reflection_takes = refl

cl_reflection_refuses : map (takes_types op.ClReflection)
    ((closure ∷ vector ∷ float ∷ []) ∷ (closure ∷ point ∷ int ∷ []) ∷ (closure ∷ normal ∷ vector ∷ [])
    ∷ (closure ∷ normal ∷ closure ∷ []) ∷ (closure ∷ int ∷ normal ∷ []) ∷ (color ∷ normal ∷ float ∷ [])
    ∷ (closure ∷ normal ∷ []) ∷ (closure ∷ normal ∷ float ∷ int ∷ []) ∷ (closure ∷ []) ∷ [])
    ≡ replicate 9 false
unfolding is_allowed
cl_reflection_refuses = refl

cl_refraction_takes : map (takes_types op.ClRefraction)
    ((closure ∷ normal ∷ float ∷ []) ∷ (closure ∷ normal ∷ int ∷ []) ∷ [])
    ≡ replicate 2 true
unfolding is_allowed
cl_refraction_takes = refl

cl_refraction_refuses : map (takes_types op.ClRefraction)
    ((closure ∷ vector ∷ int ∷ []) ∷ (closure ∷ color ∷ float ∷ []) ∷ (closure ∷ normal ∷ matrix ∷ [])
    ∷ (closure ∷ normal ∷ ints 1 ∷ []) ∷ (closure ∷ float ∷ normal ∷ []) ∷ (normal ∷ normal ∷ float ∷ [])
    ∷ (closure ∷ normal ∷ []) ∷ (closure ∷ normal ∷ normal ∷ float ∷ []) ∷ (closure ∷ []) ∷ [])
    ≡ replicate 9 false
unfolding is_allowed
cl_refraction_refuses = refl

cl_debug_takes : map (takes_types op.ClDebug)
    ((closure ∷ string ∷ []) ∷ [])
    ≡ replicate 1 true
unfolding is_allowed
cl_debug_takes = refl

cl_debug_refuses : map (takes_types op.ClDebug)
    ((closure ∷ int ∷ []) ∷ (closure ∷ float ∷ []) ∷ (closure ∷ normal ∷ []) ∷ (closure ∷ closure ∷ [])
    ∷ (closure ∷ strings 1 ∷ []) ∷ (string ∷ string ∷ []) ∷ (color ∷ string ∷ []) ∷ (closure ∷ [])
    ∷ (closure ∷ string ∷ string ∷ []) ∷ [] ∷ [])
    ≡ replicate 10 false
unfolding is_allowed
cl_debug_refuses = refl

-- ---- control

if_takes : map (takes_types op.If)
    ((int ∷ []) ∷ [])
    ≡ replicate 1 true
unfolding is_allowed
if_takes = refl

if_refuses : map (takes_types op.If)
    ((float ∷ []) ∷ (color ∷ []) ∷ (matrix ∷ []) ∷ (string ∷ []) ∷ (closure ∷ []) ∷ (ints 1 ∷ [])
    ∷ (int ∷ int ∷ []) ∷ [] ∷ [])
    ≡ replicate 8 false
unfolding is_allowed
if_refuses = refl

for_takes : map (takes_types op.For)
    ((int ∷ []) ∷ [])
    ≡ replicate 1 true
unfolding is_allowed
for_takes = refl

for_refuses : map (takes_types op.For)
    ((float ∷ []) ∷ (normal ∷ []) ∷ (matrix ∷ []) ∷ (string ∷ []) ∷ (closure ∷ []) ∷ (ints 3 ∷ [])
    ∷ (int ∷ int ∷ []) ∷ [] ∷ [])
    ≡ replicate 8 false
unfolding is_allowed
for_refuses = refl

while_takes : map (takes_types op.While)
    ((int ∷ []) ∷ [])
    ≡ replicate 1 true
unfolding is_allowed
while_takes = refl

while_refuses : map (takes_types op.While)
    ((float ∷ []) ∷ (point ∷ []) ∷ (matrix ∷ []) ∷ (string ∷ []) ∷ (closure ∷ []) ∷ (ints 1 ∷ [])
    ∷ (int ∷ int ∷ int ∷ []) ∷ [] ∷ [])
    ≡ replicate 8 false
unfolding is_allowed
while_refuses = refl

dowhile_takes : map (takes_types op.DoWhile)
    ((int ∷ []) ∷ [])
    ≡ replicate 1 true
unfolding is_allowed
dowhile_takes = refl

dowhile_refuses : map (takes_types op.DoWhile)
    ((float ∷ []) ∷ (vector ∷ []) ∷ (matrix ∷ []) ∷ (string ∷ []) ∷ (closure ∷ []) ∷ (ints 3 ∷ [])
    ∷ (int ∷ int ∷ []) ∷ [] ∷ [])
    ≡ replicate 8 false
unfolding is_allowed
dowhile_refuses = refl

functioncall_takes : map (takes_types op.FunctionCall)
    ([] ∷ [])
    ≡ replicate 1 true
unfolding is_allowed
functioncall_takes = refl

functioncall_refuses : map (takes_types op.FunctionCall)
    ((int ∷ []) ∷ (closure ∷ []) ∷ (int ∷ int ∷ []) ∷ [])
    ≡ replicate 3 false
unfolding is_allowed
functioncall_refuses = refl

break_refuses : map (takes_types op.Break)
    ((int ∷ []) ∷ (string ∷ []) ∷ [])
    ≡ replicate 2 false
unfolding is_allowed
break_refuses = refl

continue_refuses : map (takes_types op.Continue)
    ((int ∷ []) ∷ (float ∷ []) ∷ [])
    ≡ replicate 2 false
unfolding is_allowed
continue_refuses = refl

return_takes : map (takes_types op.Return)
    ([] ∷ [])
    ≡ replicate 1 true
unfolding is_allowed
return_takes = refl

return_refuses : map (takes_types op.Return)
    ((int ∷ []) ∷ (float ∷ []) ∷ (closure ∷ []) ∷ [])
    ≡ replicate 3 false
unfolding is_allowed
return_refuses = refl

exit_takes : map (takes_types op.Exit)
    ([] ∷ [])
    ≡ replicate 1 true
unfolding is_allowed
exit_takes = refl

exit_refuses : map (takes_types op.Exit)
    ((int ∷ []) ∷ (string ∷ []) ∷ (int ∷ int ∷ []) ∷ [])
    ≡ replicate 3 false
unfolding is_allowed
exit_refuses = refl

-- ---- a triple takes three numbers, and a matrix one or sixteen

abbrev all_ints : ℕ → List Ty
all_ints n = replicate n int

abbrev all_floats : ℕ → List Ty
all_floats n = replicate n float

abbrev counts : List ℕ
counts = 0 ∷ 1 ∷ 2 ∷ 3 ∷ 4 ∷ 14 ∷ 15 ∷ 16 ∷ 17 ∷ 18 ∷ []

a_triple_of_ints : map (λ n. takes_types op.Triple (normal ∷ all_ints n)) counts
    ≡ (false ∷ false ∷ false ∷ true ∷ false ∷ false ∷ false ∷ false ∷ false ∷ false ∷ [])
unfolding is_allowed
a_triple_of_ints = refl

a_matrix_of_ints : map (λ n. takes_types op.Matrix (matrix ∷ all_ints n)) counts
    ≡ (false ∷ true ∷ false ∷ false ∷ false ∷ false ∷ false ∷ true ∷ false ∷ false ∷ [])
unfolding is_allowed
a_matrix_of_ints = refl

a_triple_of_floats : map (λ n. takes_types op.Triple (normal ∷ all_floats n)) counts
    ≡ (false ∷ false ∷ false ∷ true ∷ false ∷ false ∷ false ∷ false ∷ false ∷ false ∷ [])
unfolding is_allowed
a_triple_of_floats = refl

a_matrix_of_floats : map (λ n. takes_types op.Matrix (matrix ∷ all_floats n)) counts
    ≡ (false ∷ true ∷ false ∷ false ∷ false ∷ false ∷ false ∷ true ∷ false ∷ false ∷ [])
unfolding is_allowed
a_matrix_of_floats = refl

a_matrix_of_both : map (λ n. takes_types op.Matrix (matrix ∷ all_ints n ++ all_floats (16 - n))) (1 ∷ 7 ∷ 15 ∷ [])
    ≡ (true ∷ true ∷ true ∷ [])
unfolding is_allowed
a_matrix_of_both = refl

a_matrix_of_another : map (λ n. takes_types op.Matrix (matrix ∷ all_floats n ++ color ∷ all_floats (15 - n))) (0 ∷ 1 ∷ 14 ∷ 15 ∷ [])
    ≡ (false ∷ false ∷ false ∷ false ∷ [])
unfolding is_allowed
a_matrix_of_another = refl
