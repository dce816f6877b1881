-- Texts and their lines that mean something.
use Rattle.std.proofs.Common.{codes, ◌≡◌, ℕ, List, [], ◌∷◌, ◌++◌, refl}
use Rattle.osl_valuetext.specs.Words.{Line}
use Rattle.osl_valuetext.specs.Splitting.{words}
use Rattle.osl_lines.specs.declared.comment.Comments.TheVariants.{WholeLines, Anywhere}
use Rattle.osl_lines.specs.Comment.{uncommented}
use Rattle.osl_lines.specs.Lines.{Numbered, meant_from}

line : ℕ → Line → Numbered
line n words = record { number = n; line = words }

no_lines : meant_from Anywhere 1 [] ≡ []
unfolding meant_from
no_lines = refl

-- `point` with a carriage return, a comment, an empty line, and a last line with no line feed
text : List ℕ
text = codes "point#N" ++ 13 ∷ 10 ∷ codes "  # u" ++ 10 ∷ 10 ∷ 9 ∷ codes "point u 1 # 2"

comments_anywhere : meant_from Anywhere 1 text ≡ line 1 (codes "point" ∷ []) ∷ line 4 (codes "point" ∷ codes "u" ∷ codes "1" ∷ []) ∷ []
unfolding text line meant_from uncommented words
comments_anywhere = refl

comments_of_whole_lines : meant_from WholeLines 1 text ≡ line 1 (codes "point#N" ∷ []) ∷ line 4 (codes "point" ∷ codes "u" ∷ codes "1" ∷ codes "#" ∷ codes "2" ∷ []) ∷ []
unfolding text line meant_from uncommented words
comments_of_whole_lines = refl

-- a mark in a string, after a quote that a backslash escapes, begins no comment
string_with_a_mark : uncommented (34 ∷ 92 ∷ 34 ∷ 35 ∷ 34 ∷ 35 ∷ 34 ∷ []) ≡ 34 ∷ 92 ∷ 34 ∷ 35 ∷ 34 ∷ []
unfolding uncommented
string_with_a_mark = refl

-- a carriage return at the end of a text, which no line feed follows, belongs to the last word
last_carriage_return : meant_from Anywhere 7 (codes "a" ++ 13 ∷ []) ≡ line 7 ((97 ∷ 13 ∷ []) ∷ []) ∷ []
unfolding line meant_from uncommented words
last_carriage_return = refl
