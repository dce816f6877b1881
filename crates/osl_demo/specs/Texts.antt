-- The lines of the demonstration's files. A line that draws is given the state that it draws in.
use Rattle.std.specs.Prelude.{ℕ, ◌+◌, ◌*◌, ◌/◌, ◌%◌, nat_lt, List, [], ◌∷◌, ◌++◌, zero, suc, pos, codes, if◌then◌else◌}
use Rattle.osl_decimal.specs.Canonical.{int_text}
use Rattle.osl_demo.specs.Draws.{next, after, drawn}

unfoldable pub line_end : List ℕ
line_end = 10 ∷ []

-- `0.` and a number of thousandths in three digits
unfoldable pub fraction : ℕ → List ℕ
fraction t = codes "0." ++ (48 + t / 100) ∷ (48 + t / 10 % 10) ∷ (48 + t % 10) ∷ []

-- the first so many of a sequence of texts, one after another
abbrev pub joined : ℕ → (ℕ → List ℕ) → List ℕ
joined zero part = []
joined (suc k) part = joined k part ++ part k

unfoldable pub generator_text : List ℕ
generator_text = codes "shader gen(float a = 1, float b = 0 [[int lockgeom = 0]], output float r = 0) { float s = b + u; for (int i = 0; i < 8; ++i) s = s * 0.5 + a; r = s; }" ++ line_end

unfoldable pub top_text : List ℕ
top_text = codes "surface top(float k = 0.5) { Ci = k * diffuse(N) + 0.25 * emission(); }" ++ line_end

unfoldable pub shader_line : ℕ → List ℕ
shader_line layer = codes "shader gen g" ++ int_text (pos layer) ++ codes " ;" ++ line_end

unfoldable pub connect_line : ℕ → ℕ → List ℕ
connect_line source layer = codes "connect g" ++ int_text (pos source) ++ codes ".r g" ++ int_text (pos layer) ++ codes ".a ;" ++ line_end

-- The layer that comes after `source`, with its connection where the draw is not 0.
unfoldable pub next_layer : ℕ → ℕ → List ℕ
next_layer x source =
    shader_line (source + 1) ++ (if nat_lt 0 (drawn x 3) then connect_line source (source + 1) else [])

unfoldable pub top_lines : ℕ → List ℕ
top_lines last = codes "shader top t ;" ++ line_end ++ codes "connect g" ++ int_text (pos last) ++ codes ".r t.k ;" ++ line_end

-- Layer 0 draws nothing, and each other layer draws once.
unfoldable pub group_text : ℕ → ℕ → List ℕ
group_text x last = shader_line 0 ++ joined last (λ i. next_layer (after i x) i) ++ top_lines last

-- `u` is drawn before `v`.
unfoldable pub point_line : ℕ → List ℕ
point_line x =
    codes "point N 0 0 1 u " ++ fraction (drawn x 1000) ++ codes " v " ++ fraction (drawn (next x) 1000) ++ line_end

unfoldable pub points_text : ℕ → ℕ → List ℕ
points_text x count = joined count (λ i. point_line (after (2 * i) x))

-- The layer is drawn before the value.
unfoldable pub edit_line : ℕ → ℕ → List ℕ
edit_line layers x =
    codes "edit 0 float g" ++ int_text (pos (drawn x layers)) ++ codes ".b " ++ fraction (drawn (next x) 1000) ++ line_end

unfoldable pub edits_text : ℕ → ℕ → ℕ → List ℕ
edits_text layers x count = joined count (λ i. edit_line layers (after (2 * i) x))
