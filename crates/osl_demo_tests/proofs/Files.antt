-- The lines of the demonstration's files, and the draws that they are made of.
use Rattle.std.proofs.Common.{◌≡◌, ℕ, refl}
use Rattle.std.specs.Prelude.{List, [], ◌∷◌, ◌++◌, pos, codes, map}
use Rattle.osl_decimal.specs.Canonical.{int_text}
use Rattle.osl_demo.specs.Draws.{after, next, drawn}
use Rattle.osl_demo.specs.Files.{last_layer}
use Rattle.osl_demo.specs.Texts.{line_end, fraction, shader_line, next_layer, connect_line, top_lines, point_line, edit_line}

abbrev line : List ℕ → List ℕ
line text = text ++ (10 ∷ [])

-- ---- layers: the last one's number for the sizes 0 to 24

abbrev sizes : List ℕ
sizes = 0 ∷ 1 ∷ 2 ∷ 3 ∷ 4 ∷ 5 ∷ 6 ∷ 7 ∷ 8 ∷ 9 ∷ 10 ∷ 11 ∷ 12 ∷ 13 ∷ 14 ∷ 15 ∷ 16 ∷ 17 ∷ 18 ∷ 19 ∷ 20 ∷ 21 ∷ 22 ∷ 23
    ∷ 24 ∷ []

last_layers : map last_layer sizes ≡ (3 ∷ 4 ∷ 5 ∷ 6 ∷ 7 ∷ 8 ∷ 9 ∷ 10 ∷ 11 ∷ 12 ∷ 13 ∷ 14 ∷ 3 ∷ 4 ∷ 5 ∷ 6 ∷ 7 ∷ 8 ∷ 9
    ∷ 10 ∷ 11 ∷ 12 ∷ 13 ∷ 14 ∷ 3 ∷ [])
last_layers = refl

-- ---- draws from the state 1, and from the largest

states : map (λ k. after k 1) (1 ∷ 2 ∷ 3 ∷ 4 ∷ 5 ∷ 6 ∷ []) ≡ (1103527590 ∷ 377401575 ∷ 662824084 ∷ 1147902781
    ∷ 2035015474 ∷ 368800899 ∷ [])
unfolding next
states = refl

after_the_largest : next 2147483647 ≡ 1043980748
unfolding next
after_the_largest = refl

draws : map (drawn 1) (1 ∷ 2 ∷ 3 ∷ 10 ∷ 1000 ∷ []) ≡ (0 ∷ 0 ∷ 2 ∷ 8 ∷ 838 ∷ [])
unfolding drawn next
draws = refl

-- ---- lines of groups: a draw of 0 connects nothing

first_layer : shader_line 0 ≡ codes "shader gen g" ++ int_text (pos 0) ++ codes " ;" ++ 10 ∷ []
unfolding next drawn line_end fraction shader_line next_layer connect_line top_lines point_line edit_line
first_layer = refl

layer_0 : next_layer 0 6 ≡ shader_line 7 ++ []
unfolding next_layer drawn next
layer_0 = refl

layer_1 : next_layer 1 7 ≡ shader_line 8 ++ connect_line 7 8
unfolding next_layer drawn next
layer_1 = refl

layer_5 : next_layer 5 11 ≡ shader_line 12 ++ connect_line 11 12
unfolding next_layer drawn next
layer_5 = refl

layer_9 : next_layer 9 15 ≡ shader_line 16 ++ []
unfolding next_layer drawn next
layer_9 = refl

layer_11 : next_layer 11 17 ≡ shader_line 18 ++ []
unfolding next_layer drawn next
layer_11 = refl

connected : connect_line 6 7 ≡ codes "connect g" ++ int_text (pos 6) ++ codes ".r g" ++ int_text (pos 7) ++ codes ".a ;" ++ 10
    ∷ []
unfolding next drawn line_end fraction shader_line next_layer connect_line top_lines point_line edit_line
connected = refl

top : top_lines 9 ≡ (codes "shader top t ;" ++ 10
    ∷ []) ++ codes "connect g" ++ int_text (pos 9) ++ codes ".r t.k ;" ++ 10 ∷ []
unfolding next drawn line_end fraction shader_line next_layer connect_line top_lines point_line edit_line
top = refl

-- ---- lines of points and of edits: u before v, the layer before the value, three digits

point_1 : point_line 1 ≡ line (codes "point N 0 0 1 u 0.838 v 0.758")
unfolding next drawn line_end fraction shader_line next_layer connect_line top_lines point_line edit_line
point_1 = refl

edit_1 : edit_line 5 1 ≡ codes "edit 0 float g" ++ int_text (pos 3) ++ codes ".b " ++ codes "0.758" ++ 10 ∷ []
unfolding next drawn line_end fraction shader_line next_layer connect_line top_lines point_line edit_line
edit_1 = refl

point_2 : point_line 2 ≡ line (codes "point N 0 0 1 u 0.908 v 0.817")
unfolding next drawn line_end fraction shader_line next_layer connect_line top_lines point_line edit_line
point_2 = refl

edit_2 : edit_line 5 2 ≡ codes "edit 0 float g" ++ int_text (pos 3) ++ codes ".b " ++ codes "0.817" ++ 10 ∷ []
unfolding next drawn line_end fraction shader_line next_layer connect_line top_lines point_line edit_line
edit_2 = refl

point_7 : point_line 7 ≡ line (codes "point N 0 0 1 u 0.564 v 0.806")
unfolding next drawn line_end fraction shader_line next_layer connect_line top_lines point_line edit_line
point_7 = refl

edit_7 : edit_line 5 7 ≡ codes "edit 0 float g" ++ int_text (pos 4) ++ codes ".b " ++ codes "0.806" ++ 10 ∷ []
unfolding next drawn line_end fraction shader_line next_layer connect_line top_lines point_line edit_line
edit_7 = refl

point_256 : point_line 256 ≡ line (codes "point N 0 0 1 u 0.998 v 0.326")
unfolding next drawn line_end fraction shader_line next_layer connect_line top_lines point_line edit_line
point_256 = refl

edit_256 : edit_line 5 256 ≡ codes "edit 0 float g" ++ int_text (pos 3) ++ codes ".b " ++ codes "0.326" ++ 10 ∷ []
unfolding next drawn line_end fraction shader_line next_layer connect_line top_lines point_line edit_line
edit_256 = refl

point_2147483647 : point_line 2147483647 ≡ line (codes "point N 0 0 1 u 0.929 v 0.409")
unfolding next drawn line_end fraction shader_line next_layer connect_line top_lines point_line edit_line
point_2147483647 = refl

edit_2147483647 : edit_line 5 2147483647 ≡ codes "edit 0 float g" ++ int_text (pos 4) ++ codes ".b " ++ codes "0.409" ++ 10
    ∷ []
unfolding next drawn line_end fraction shader_line next_layer connect_line top_lines point_line edit_line
edit_2147483647 = refl

point_0 : point_line 0 ≡ line (codes "point N 0 0 1 u 0.000 v 0.468")
unfolding next drawn line_end fraction shader_line next_layer connect_line top_lines point_line edit_line
point_0 = refl

edit_0 : edit_line 5 0 ≡ codes "edit 0 float g" ++ int_text (pos 0) ++ codes ".b " ++ codes "0.468" ++ 10 ∷ []
unfolding next drawn line_end fraction shader_line next_layer connect_line top_lines point_line edit_line
edit_0 = refl

fractions : map fraction (0 ∷ 7 ∷ 70 ∷ 99 ∷ 100 ∷ 999 ∷ []) ≡ (codes "0.000" ∷ codes "0.007" ∷ codes "0.070"
    ∷ codes "0.099" ∷ codes "0.100" ∷ codes "0.999" ∷ [])
unfolding fraction
fractions = refl
