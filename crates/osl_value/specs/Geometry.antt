-- Triples and matrices (OSL specification, "Geometric functions" and "Matrix functions"): a triple is seen here as its 3 floats, a matrix as its 16 floats by rows, a float as its units.
use Rattle.std.specs.Prelude.{ℕ, ◌+◌, ◌-◌, ◌*◌, ◌==◌, min, ℤ, pos, Bool, not, if◌then◌else◌, List, [], ◌∷◌, ◌++◌, map, length, slice_index_or, slice_set}
use Rattle.std.specs.List.{range_with_len}
use Rattle.std.specs.Cmp.Lexicographic.{pointwise}
use Rattle.std.specs.Ordering.{int_eq}
use Rattle.osl_value.specs.Numbers.{truth, count_of, Numeric, One, Two, value_at, fx_add, fx_sub, fx_mul, fx_div, fx_sqrt}

-- the nearest place in a row of so many
abbrev pub place : ℤ → ℕ → ℕ
place i len = min (count_of i) (len - 1)

-- the number at a place
abbrev pub number_at : List ℤ → ℕ → ℤ
number_at xs i = slice_index_or xs i (pos 0)

-- ---- component by component

-- a single float repeated, or the floats themselves
abbrev pub component : List ℤ → ℕ → ℤ
component xs k = number_at xs (if length xs == 1 then 0 else k)

abbrev pub repeated : ℕ → List ℤ → List ℤ
repeated n xs = map (component xs) (range_with_len 0 n)

-- the function's value on each of n components
abbrev pub each : ℕ → Numeric → List (List ℤ) → List ℤ
each n f args = map (λ k. value_at f (λ i. component (slice_index_or args i []) k)) (range_with_len 0 n)

-- whether all components are equal, a single float being repeated
abbrev same_floats : List ℤ → List ℤ → Bool
same_floats xs ys = pointwise int_eq (repeated 3 xs) (repeated 3 ys)

abbrev pub eq_floats : List ℤ → List ℤ → ℤ
eq_floats xs ys = truth (same_floats xs ys)

abbrev pub neq_floats : List ℤ → List ℤ → ℤ
neq_floats xs ys = truth (not (same_floats xs ys))

-- ---- triples

abbrev pub compref : List ℤ → ℤ → ℤ
compref t i = number_at t (place i 3)

abbrev pub compassign : List ℤ → ℤ → ℤ → List ℤ
compassign t i x = slice_set t (place i 3) x

abbrev pub dot : List ℤ → List ℤ → ℤ
dot a b =
    fx_add
    (fx_add (fx_mul (number_at a 0) (number_at b 0)) (fx_mul (number_at a 1) (number_at b 1)))
    (fx_mul (number_at a 2) (number_at b 2))

-- one component of a cross product: a_i * b_j - a_j * b_i
abbrev pub cross_at : List ℤ → List ℤ → ℕ → ℕ → ℤ
cross_at a b i j = fx_sub (fx_mul (number_at a i) (number_at b j)) (fx_mul (number_at a j) (number_at b i))

abbrev pub cross : List ℤ → List ℤ → List ℤ
cross a b = cross_at a b 1 2 ∷ cross_at a b 2 0 ∷ cross_at a b 0 1 ∷ []

abbrev pub length_of : List ℤ → ℤ
length_of a = fx_sqrt (dot a a)

abbrev pub distance : List ℤ → List ℤ → ℤ
distance a b = length_of (each 3 (Two fx_sub) (a ∷ b ∷ []))

abbrev pub normalize : List ℤ → List ℤ
normalize a = each 3 (One (λ x. fx_div x (length_of a))) (a ∷ [])

-- ---- matrices

-- the element in row i and column j
abbrev pub element_at : List ℤ → ℕ → ℕ → ℤ
element_at m i j = number_at m (4 * i + j)

-- the matrix with these elements
abbrev pub row_of : (ℕ → ℕ → ℤ) → ℕ → List ℤ
row_of f i = f i 0 ∷ f i 1 ∷ f i 2 ∷ f i 3 ∷ []

abbrev pub matrix_of : (ℕ → ℕ → ℤ) → List ℤ
matrix_of f = row_of f 0 ++ (row_of f 1 ++ (row_of f 2 ++ row_of f 3))

abbrev pub mxcompref : List ℤ → ℤ → ℤ → ℤ
mxcompref m row column = element_at m (place row 4) (place column 4)

abbrev pub mxcompassign : List ℤ → ℤ → ℤ → ℤ → List ℤ
mxcompassign m row column x = slice_set m (4 * place row 4 + place column 4) x

abbrev pub eq_matrices : List ℤ → List ℤ → ℤ
eq_matrices a b = truth (pointwise int_eq a b)

abbrev pub neq_matrices : List ℤ → List ℤ → ℤ
neq_matrices a b = truth (not (pointwise int_eq a b))

-- the number on the diagonal and 0 elsewhere
abbrev pub diagonal : ℤ → List ℤ
diagonal x = matrix_of (λ i j. if i == j then x else pos 0)

-- row i of a times column j of b, from left to right
abbrev pub product_at : List ℤ → List ℤ → ℕ → ℕ → ℤ
product_at a b i j =
    fx_add
    (fx_add
    (fx_add (fx_mul (element_at a i 0) (element_at b 0 j)) (fx_mul (element_at a i 1) (element_at b 1 j)))
    (fx_mul (element_at a i 2) (element_at b 2 j)))
    (fx_mul (element_at a i 3) (element_at b 3 j))

abbrev pub mat_mul : List ℤ → List ℤ → List ℤ
mat_mul a b = matrix_of (product_at a b)

abbrev pub transpose : List ℤ → List ℤ
transpose m = matrix_of (λ i j. element_at m j i)

-- component j of a triple times the upper three rows
abbrev pub turned_at : List ℤ → List ℤ → ℕ → ℤ
turned_at m p j =
    fx_add
    (fx_add (fx_mul (number_at p 0) (element_at m 0 j)) (fx_mul (number_at p 1) (element_at m 1 j)))
    (fx_mul (number_at p 2) (element_at m 2 j))

-- a point is moved by the last row too
abbrev pub transformed_at : Bool → List ℤ → List ℤ → ℕ → ℤ
transformed_at is_point m p j =
    if is_point then fx_add (turned_at m p j) (element_at m 3 j) else turned_at m p j

abbrev pub transform : Bool → List ℤ → List ℤ → List ℤ
transform is_point m p = transformed_at is_point m p 0 ∷ transformed_at is_point m p 1 ∷ transformed_at is_point m p 2 ∷ []
