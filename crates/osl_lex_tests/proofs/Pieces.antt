-- Blanks, words, escapes, comments, strings and marks.
use Rattle.std.proofs.Common.{◌≡◌, ℕ, refl}
use Rattle.std.specs.Prelude.{true, false, Bool, List, [], ◌∷◌, map, filter, codes, None, Some}
use Rattle.std.specs.List.{range_with_len}
use Rattle.osl_tree.specs.declared.token.Punct.TheVariants as p
use Rattle.osl_tree.specs.declared.terminal.Keyword.TheVariants as w
use Rattle.osl_tree.specs.Lexical.{is_blank, begins_word, is_word_byte}
use Rattle.osl_tree.specs.Lexemes.{is_octal, reserved, unescaped, unescaped_from}
use Rattle.osl_lex.specs.Scan.{comment_end, line_len, string_end, number_len, word_len, begins_number}
use Rattle.osl_lex.specs.Signs.{longest_mark}

-- ---- bytes: of all 256, these pass

abbrev bytes_that : (ℕ → Bool) → List ℕ
bytes_that test = filter test (range_with_len 0 256)

blanks : bytes_that is_blank ≡ (9 ∷ 10 ∷ 12 ∷ 13 ∷ 32 ∷ [])
blanks = refl

first_of_words : bytes_that begins_word ≡ (65 ∷ 66 ∷ 67 ∷ 68 ∷ 69 ∷ 70 ∷ 71 ∷ 72 ∷ 73 ∷ 74 ∷ 75 ∷ 76 ∷ 77 ∷ 78 ∷ 79
    ∷ 80 ∷ 81 ∷ 82 ∷ 83 ∷ 84 ∷ 85 ∷ 86 ∷ 87 ∷ 88 ∷ 89 ∷ 90 ∷ 95 ∷ 97 ∷ 98 ∷ 99 ∷ 100 ∷ 101 ∷ 102 ∷ 103 ∷ 104 ∷ 105
    ∷ 106 ∷ 107 ∷ 108 ∷ 109 ∷ 110 ∷ 111 ∷ 112 ∷ 113 ∷ 114 ∷ 115 ∷ 116 ∷ 117 ∷ 118 ∷ 119 ∷ 120 ∷ 121 ∷ 122 ∷ [])
first_of_words = refl

in_words : bytes_that is_word_byte ≡ (48 ∷ 49 ∷ 50 ∷ 51 ∷ 52 ∷ 53 ∷ 54 ∷ 55 ∷ 56 ∷ 57 ∷ 65 ∷ 66 ∷ 67 ∷ 68 ∷ 69 ∷ 70
    ∷ 71 ∷ 72 ∷ 73 ∷ 74 ∷ 75 ∷ 76 ∷ 77 ∷ 78 ∷ 79 ∷ 80 ∷ 81 ∷ 82 ∷ 83 ∷ 84 ∷ 85 ∷ 86 ∷ 87 ∷ 88 ∷ 89 ∷ 90 ∷ 95 ∷ 97 ∷ 98
    ∷ 99 ∷ 100 ∷ 101 ∷ 102 ∷ 103 ∷ 104 ∷ 105 ∷ 106 ∷ 107 ∷ 108 ∷ 109 ∷ 110 ∷ 111 ∷ 112 ∷ 113 ∷ 114 ∷ 115 ∷ 116 ∷ 117
    ∷ 118 ∷ 119 ∷ 120 ∷ 121 ∷ 122 ∷ [])
in_words = refl

octal : bytes_that is_octal ≡ (48 ∷ 49 ∷ 50 ∷ 51 ∷ 52 ∷ 53 ∷ 54 ∷ 55 ∷ [])
octal = refl

-- ---- words: reserved ones, and names beside them

keywords : map reserved (codes "struct" ∷ codes "int" ∷ codes "float" ∷ codes "color" ∷ codes "point" ∷ codes "vector"
    ∷ codes "normal" ∷ codes "matrix" ∷ codes "string" ∷ codes "closure" ∷ codes "void" ∷ codes "output"
    ∷ codes "surface" ∷ codes "displacement" ∷ codes "volume" ∷ codes "shader" ∷ codes "break" ∷ codes "continue"
    ∷ codes "return" ∷ codes "if" ∷ codes "else" ∷ codes "while" ∷ codes "do" ∷ codes "for" ∷ codes "not"
    ∷ codes "and" ∷ codes "or" ∷ []) ≡ (Some w.Struct ∷ Some w.Int ∷ Some w.Float ∷ Some w.Color ∷ Some w.Point
    ∷ Some w.Vector ∷ Some w.Normal ∷ Some w.Matrix ∷ Some w.Str ∷ Some w.Closure ∷ Some w.Void ∷ Some w.Output
    ∷ Some w.Surface ∷ Some w.Displacement ∷ Some w.Volume ∷ Some w.Shader ∷ Some w.Break ∷ Some w.Continue
    ∷ Some w.Return ∷ Some w.If ∷ Some w.Else ∷ Some w.While ∷ Some w.Do ∷ Some w.For ∷ Some w.Not ∷ Some w.And
    ∷ Some w.Or ∷ [])
unfolding reserved
keywords = refl

names : map reserved ((codes "Int") ∷ (codes "intx") ∷ (codes "in") ∷ (codes "elseif") ∷ (codes "Surface")
    ∷ (codes "_if") ∷ (codes "xor") ∷ (codes "main") ∷ (codes "public") ∷ (codes "triple") ∷ (codes "Ci")
    ∷ (codes "true") ∷ (codes "") ∷ []) ≡ (None ∷ None ∷ None ∷ None ∷ None ∷ None ∷ None ∷ None ∷ None ∷ None ∷ None
    ∷ None ∷ None ∷ [])
unfolding reserved
names = refl

-- ---- escapes: `\` is 92

escape_0 : unescaped (92 ∷ 110 ∷ []) ≡ (10 ∷ [])
unfolding unescaped unescaped_from
escape_0 = refl

escape_1 : unescaped (92 ∷ 116 ∷ []) ≡ (9 ∷ [])
unfolding unescaped unescaped_from
escape_1 = refl

escape_2 : unescaped (92 ∷ 114 ∷ []) ≡ (13 ∷ [])
unfolding unescaped unescaped_from
escape_2 = refl

escape_3 : unescaped (92 ∷ 92 ∷ []) ≡ (92 ∷ [])
unfolding unescaped unescaped_from
escape_3 = refl

escape_4 : unescaped (92 ∷ 34 ∷ []) ≡ (34 ∷ [])
unfolding unescaped unescaped_from
escape_4 = refl

escape_5 : unescaped (92 ∷ 97 ∷ []) ≡ (97 ∷ [])
unfolding unescaped unescaped_from
escape_5 = refl

escape_6 : unescaped (92 ∷ 78 ∷ []) ≡ (78 ∷ [])
unfolding unescaped unescaped_from
escape_6 = refl

escape_7 : unescaped (92 ∷ 48 ∷ []) ≡ (0 ∷ [])
unfolding unescaped unescaped_from
escape_7 = refl

escape_8 : unescaped (92 ∷ 55 ∷ []) ≡ (7 ∷ [])
unfolding unescaped unescaped_from
escape_8 = refl

escape_9 : unescaped (92 ∷ 56 ∷ []) ≡ (56 ∷ [])
unfolding unescaped unescaped_from
escape_9 = refl

escape_10 : unescaped (92 ∷ 49 ∷ 50 ∷ []) ≡ (10 ∷ [])
unfolding unescaped unescaped_from
escape_10 = refl

escape_11 : unescaped (92 ∷ 49 ∷ 50 ∷ 56 ∷ []) ≡ (10 ∷ 56 ∷ [])
unfolding unescaped unescaped_from
escape_11 = refl

escape_12 : unescaped (92 ∷ 49 ∷ 48 ∷ 49 ∷ []) ≡ (65 ∷ [])
unfolding unescaped unescaped_from
escape_12 = refl

escape_13 : unescaped (92 ∷ 49 ∷ 55 ∷ 55 ∷ []) ≡ (127 ∷ [])
unfolding unescaped unescaped_from
escape_13 = refl

escape_14 : unescaped (92 ∷ 50 ∷ 48 ∷ 48 ∷ []) ≡ (128 ∷ [])
unfolding unescaped unescaped_from
escape_14 = refl

escape_15 : unescaped (92 ∷ 51 ∷ 55 ∷ 55 ∷ []) ≡ (255 ∷ [])
unfolding unescaped unescaped_from
escape_15 = refl

escape_16 : unescaped (92 ∷ 52 ∷ 48 ∷ 48 ∷ []) ≡ (0 ∷ [])
unfolding unescaped unescaped_from
escape_16 = refl

escape_17 : unescaped (92 ∷ 55 ∷ 55 ∷ 55 ∷ []) ≡ (255 ∷ [])
unfolding unescaped unescaped_from
escape_17 = refl

escape_18 : unescaped (92 ∷ 49 ∷ 50 ∷ 51 ∷ 52 ∷ []) ≡ (83 ∷ 52 ∷ [])
unfolding unescaped unescaped_from
escape_18 = refl

escape_19 : unescaped (92 ∷ 48 ∷ 56 ∷ []) ≡ (0 ∷ 56 ∷ [])
unfolding unescaped unescaped_from
escape_19 = refl

escape_20 : unescaped (97 ∷ 92 ∷ 110 ∷ 98 ∷ 92 ∷ 92 ∷ 99 ∷ []) ≡ (97 ∷ 10 ∷ 98 ∷ 92 ∷ 99 ∷ [])
unfolding unescaped unescaped_from
escape_20 = refl

escape_21 : unescaped (92 ∷ 92 ∷ 110 ∷ []) ≡ (92 ∷ 110 ∷ [])
unfolding unescaped unescaped_from
escape_21 = refl

escape_22 : unescaped (codes "//") ≡ (47 ∷ 47 ∷ [])
unfolding unescaped unescaped_from
escape_22 = refl

escape_23 : unescaped [] ≡ ([])
unfolding unescaped unescaped_from
escape_23 = refl

-- ---- comments and strings: where they end, from behind `/*` and from behind the opening quote

block_comment_0 : comment_end 0 false (codes "*/") ≡ Some 2
block_comment_0 = refl

block_comment_1 : comment_end 0 false (codes "/") ≡ None
block_comment_1 = refl

block_comment_2 : comment_end 0 false (codes "/*/") ≡ Some 3
block_comment_2 = refl

block_comment_3 : comment_end 0 false (codes "**/") ≡ Some 3
block_comment_3 = refl

block_comment_4 : comment_end 0 false (codes "***/x") ≡ Some 4
block_comment_4 = refl

block_comment_5 : comment_end 0 false (codes "* /") ≡ None
block_comment_5 = refl

block_comment_6 : comment_end 0 false (codes "* / */") ≡ Some 6
block_comment_6 = refl

block_comment_7 : comment_end 0 false (codes "a*/b*/") ≡ Some 3
block_comment_7 = refl

block_comment_8 : comment_end 0 false (codes "*") ≡ None
block_comment_8 = refl

block_comment_9 : comment_end 0 false [] ≡ None
block_comment_9 = refl

block_comment_10 : comment_end 0 false (codes "//*/") ≡ Some 4
block_comment_10 = refl

line_comment_0 : line_len (codes "abc") ≡ 3
line_comment_0 = refl

line_comment_1 : line_len (97 ∷ 10 ∷ 98 ∷ []) ≡ 1
line_comment_1 = refl

line_comment_2 : line_len (10 ∷ []) ≡ 0
line_comment_2 = refl

line_comment_3 : line_len (97 ∷ 13 ∷ 98 ∷ 10 ∷ []) ≡ 3
line_comment_3 = refl

line_comment_4 : line_len [] ≡ 0
line_comment_4 = refl

line_comment_5 : line_len (42 ∷ 47 ∷ 32 ∷ 92 ∷ 10 ∷ 120 ∷ []) ≡ 4
line_comment_5 = refl

string_0 : string_end 0 false (34 ∷ []) ≡ Some 1
string_0 = refl

string_1 : string_end 0 false (97 ∷ 98 ∷ 34 ∷ 99 ∷ []) ≡ Some 3
string_1 = refl

string_2 : string_end 0 false (97 ∷ 92 ∷ 34 ∷ 98 ∷ 34 ∷ []) ≡ Some 5
string_2 = refl

string_3 : string_end 0 false (97 ∷ 92 ∷ 92 ∷ 34 ∷ []) ≡ Some 4
string_3 = refl

string_4 : string_end 0 false (97 ∷ 10 ∷ 98 ∷ 34 ∷ []) ≡ None
string_4 = refl

string_5 : string_end 0 false (97 ∷ 92 ∷ 10 ∷ 34 ∷ []) ≡ None
string_5 = refl

string_6 : string_end 0 false (codes "a") ≡ None
string_6 = refl

string_7 : string_end 0 false (97 ∷ 92 ∷ 34 ∷ []) ≡ None
string_7 = refl

string_8 : string_end 0 false [] ≡ None
string_8 = refl

string_9 : string_end 0 false (9 ∷ 34 ∷ []) ≡ Some 2
string_9 = refl

string_10 : string_end 0 false (47 ∷ 42 ∷ 34 ∷ []) ≡ Some 3
string_10 = refl

-- ---- how far words and numbers go on

word_0 : word_len (codes "abc+") ≡ 3
word_0 = refl

word_1 : word_len (codes "a1_b") ≡ 4
word_1 = refl

word_2 : word_len (codes "a.b") ≡ 1
word_2 = refl

word_3 : word_len (codes "a$") ≡ 1
word_3 = refl

word_4 : word_len (codes "_") ≡ 1
word_4 = refl

number_0 : number_len (codes "1+2") ≡ 1
number_0 = refl

number_1 : number_len (codes "1e+2") ≡ 4
number_1 = refl

number_2 : number_len (codes "1e-2-3") ≡ 4
number_2 = refl

number_3 : number_len (codes "1.5.2") ≡ 5
number_3 = refl

number_4 : number_len (codes "1x") ≡ 2
number_4 = refl

number_5 : number_len (codes "0x1e+2") ≡ 4
number_5 = refl

number_6 : number_len (codes "1E+1f;") ≡ 5
number_6 = refl

number_7 : number_len (codes ".5)") ≡ 2
number_7 = refl

number_8 : number_len (codes "1 2") ≡ 1
number_8 = refl

number_9 : number_len (codes "1,2") ≡ 1
number_9 = refl

begins : (begins_number 49 48 ∷ begins_number 48 120 ∷ begins_number 46 53 ∷ begins_number 46 46
    ∷ begins_number 46 101 ∷ begins_number 45 49 ∷ begins_number 95 49 ∷ []) ≡ (true ∷ true ∷ true ∷ false ∷ false
    ∷ false ∷ false ∷ [])
begins = refl

-- ---- marks: the longest

marks : map longest_mark (codes "(" ∷ codes ")" ∷ codes "{" ∷ codes "}" ∷ codes "[" ∷ codes "]" ∷ codes "[["
    ∷ codes "," ∷ codes ";" ∷ codes "." ∷ codes "?" ∷ codes ":" ∷ codes "=" ∷ codes "==" ∷ codes "!=" ∷ codes "<"
    ∷ codes ">" ∷ codes "<=" ∷ codes ">=" ∷ codes "<<" ∷ codes ">>" ∷ codes "+" ∷ codes "-" ∷ codes "*" ∷ codes "/"
    ∷ codes "%" ∷ codes "++" ∷ codes "--" ∷ codes "+=" ∷ codes "-=" ∷ codes "*=" ∷ codes "/=" ∷ codes "<<="
    ∷ codes ">>=" ∷ codes "&=" ∷ codes "|=" ∷ codes "^=" ∷ codes "&" ∷ codes "|" ∷ codes "^" ∷ codes "~" ∷ codes "!"
    ∷ codes "&&" ∷ codes "||" ∷ []) ≡ (Some (p.OpenParen, 1) ∷ Some (p.CloseParen, 1) ∷ Some (p.OpenBrace, 1)
    ∷ Some (p.CloseBrace, 1) ∷ Some (p.OpenBracket, 1) ∷ Some (p.CloseBracket, 1) ∷ Some (p.OpenMeta, 2)
    ∷ Some (p.Comma, 1) ∷ Some (p.Semicolon, 1) ∷ Some (p.Dot, 1) ∷ Some (p.Question, 1) ∷ Some (p.Colon, 1)
    ∷ Some (p.Assign, 1) ∷ Some (p.Equal, 2) ∷ Some (p.NotEqual, 2) ∷ Some (p.Less, 1) ∷ Some (p.Greater, 1)
    ∷ Some (p.LessEqual, 2) ∷ Some (p.GreaterEqual, 2) ∷ Some (p.ShiftLeft, 2) ∷ Some (p.ShiftRight, 2)
    ∷ Some (p.Plus, 1) ∷ Some (p.Minus, 1) ∷ Some (p.Star, 1) ∷ Some (p.Slash, 1) ∷ Some (p.Percent, 1)
    ∷ Some (p.Increment, 2) ∷ Some (p.Decrement, 2) ∷ Some (p.PlusAssign, 2) ∷ Some (p.MinusAssign, 2)
    ∷ Some (p.StarAssign, 2) ∷ Some (p.SlashAssign, 2) ∷ Some (p.ShiftLeftAssign, 3) ∷ Some (p.ShiftRightAssign, 3)
    ∷ Some (p.AndAssign, 2) ∷ Some (p.OrAssign, 2) ∷ Some (p.XorAssign, 2) ∷ Some (p.And, 1) ∷ Some (p.Or, 1)
    ∷ Some (p.Xor, 1) ∷ Some (p.Tilde, 1) ∷ Some (p.Bang, 1) ∷ Some (p.AndAnd, 2) ∷ Some (p.OrOr, 2) ∷ [])
marks = refl

-- with a letter behind it, each is found alike
marks_before_a_letter : map longest_mark (codes "(x" ∷ codes ")x" ∷ codes "{x" ∷ codes "}x" ∷ codes "[x" ∷ codes "]x"
    ∷ codes "[[x" ∷ codes ",x" ∷ codes ";x" ∷ codes ".x" ∷ codes "?x" ∷ codes ":x" ∷ codes "=x" ∷ codes "==x"
    ∷ codes "!=x" ∷ codes "<x" ∷ codes ">x" ∷ codes "<=x" ∷ codes ">=x" ∷ codes "<<x" ∷ codes ">>x" ∷ codes "+x"
    ∷ codes "-x" ∷ codes "*x" ∷ codes "/x" ∷ codes "%x" ∷ codes "++x" ∷ codes "--x" ∷ codes "+=x" ∷ codes "-=x"
    ∷ codes "*=x" ∷ codes "/=x" ∷ codes "<<=x" ∷ codes ">>=x" ∷ codes "&=x" ∷ codes "|=x" ∷ codes "^=x" ∷ codes "&x"
    ∷ codes "|x" ∷ codes "^x" ∷ codes "~x" ∷ codes "!x" ∷ codes "&&x" ∷ codes "||x" ∷ []) ≡ (Some (p.OpenParen, 1)
    ∷ Some (p.CloseParen, 1) ∷ Some (p.OpenBrace, 1) ∷ Some (p.CloseBrace, 1) ∷ Some (p.OpenBracket, 1)
    ∷ Some (p.CloseBracket, 1) ∷ Some (p.OpenMeta, 2) ∷ Some (p.Comma, 1) ∷ Some (p.Semicolon, 1) ∷ Some (p.Dot, 1)
    ∷ Some (p.Question, 1) ∷ Some (p.Colon, 1) ∷ Some (p.Assign, 1) ∷ Some (p.Equal, 2) ∷ Some (p.NotEqual, 2)
    ∷ Some (p.Less, 1) ∷ Some (p.Greater, 1) ∷ Some (p.LessEqual, 2) ∷ Some (p.GreaterEqual, 2)
    ∷ Some (p.ShiftLeft, 2) ∷ Some (p.ShiftRight, 2) ∷ Some (p.Plus, 1) ∷ Some (p.Minus, 1) ∷ Some (p.Star, 1)
    ∷ Some (p.Slash, 1) ∷ Some (p.Percent, 1) ∷ Some (p.Increment, 2) ∷ Some (p.Decrement, 2) ∷ Some (p.PlusAssign, 2)
    ∷ Some (p.MinusAssign, 2) ∷ Some (p.StarAssign, 2) ∷ Some (p.SlashAssign, 2) ∷ Some (p.ShiftLeftAssign, 3)
    ∷ Some (p.ShiftRightAssign, 3) ∷ Some (p.AndAssign, 2) ∷ Some (p.OrAssign, 2) ∷ Some (p.XorAssign, 2)
    ∷ Some (p.And, 1) ∷ Some (p.Or, 1) ∷ Some (p.Xor, 1) ∷ Some (p.Tilde, 1) ∷ Some (p.Bang, 1) ∷ Some (p.AndAnd, 2)
    ∷ Some (p.OrOr, 2) ∷ [])
marks_before_a_letter = refl

longest : map longest_mark (codes "===" ∷ codes "<<<" ∷ codes "<=<" ∷ codes "+++" ∷ codes "[[[" ∷ codes "]]"
    ∷ codes "%=" ∷ codes "~=" ∷ codes "!!" ∷ codes "&&=" ∷ codes "^^" ∷ codes "->" ∷ codes "::" ∷ codes "<>"
    ∷ codes "=<" ∷ codes ".." ∷ []) ≡ (Some (p.Equal, 2) ∷ Some (p.ShiftLeft, 2) ∷ Some (p.LessEqual, 2)
    ∷ Some (p.Increment, 2) ∷ Some (p.OpenMeta, 2) ∷ Some (p.CloseBracket, 1) ∷ Some (p.Percent, 1)
    ∷ Some (p.Tilde, 1) ∷ Some (p.Bang, 1) ∷ Some (p.AndAnd, 2) ∷ Some (p.Xor, 1) ∷ Some (p.Minus, 1)
    ∷ Some (p.Colon, 1) ∷ Some (p.Less, 1) ∷ Some (p.Assign, 1) ∷ Some (p.Dot, 1) ∷ [])
longest = refl

no_marks : map longest_mark (codes "a" ∷ codes "0" ∷ codes "_" ∷ codes "@" ∷ codes "$" ∷ codes "`" ∷ codes "#"
    ∷ codes "'" ∷ codes " " ∷ []) ≡ (None ∷ None ∷ None ∷ None ∷ None ∷ None ∷ None ∷ None ∷ None ∷ [])
no_marks = refl
