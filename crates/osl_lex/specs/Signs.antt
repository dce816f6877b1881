-- Marks by their bytes.
use Rattle.std.specs.Prelude.{ℕ, ◌==◌, ◌&&◌, if◌then◌else◌, List, Option, Some, None, option_map, slice_index}
use Rattle.std.specs.Option.{option_or}
use Rattle.osl_tree.specs.declared.token.Punct.{Punct}
use Rattle.osl_tree.specs.declared.token.Punct.TheVariants as p

-- the mark of one byte
abbrev pub one_byte_mark : ℕ → Option Punct
one_byte_mark c =
    if c == 40 then Some p.OpenParen
    else (if c == 41 then Some p.CloseParen
    else (if c == 123 then Some p.OpenBrace
    else (if c == 125 then Some p.CloseBrace
    else (if c == 91 then Some p.OpenBracket
    else (if c == 93 then Some p.CloseBracket
    else (if c == 44 then Some p.Comma
    else (if c == 59 then Some p.Semicolon
    else (if c == 46 then Some p.Dot
    else (if c == 63 then Some p.Question
    else (if c == 58 then Some p.Colon
    else (if c == 61 then Some p.Assign
    else (if c == 60 then Some p.Less
    else (if c == 62 then Some p.Greater
    else (if c == 43 then Some p.Plus
    else (if c == 45 then Some p.Minus
    else (if c == 42 then Some p.Star
    else (if c == 47 then Some p.Slash
    else (if c == 37 then Some p.Percent
    else (if c == 38 then Some p.And
    else (if c == 124 then Some p.Or
    else (if c == 94 then Some p.Xor
    else (if c == 126 then Some p.Tilde
    else (if c == 33 then Some p.Bang
    else None)))))))))))))))))))))))

-- the mark of a byte and a `=`
abbrev pub mark_with_equals : ℕ → Option Punct
mark_with_equals c =
    if c == 61 then Some p.Equal
    else (if c == 33 then Some p.NotEqual
    else (if c == 60 then Some p.LessEqual
    else (if c == 62 then Some p.GreaterEqual
    else (if c == 43 then Some p.PlusAssign
    else (if c == 45 then Some p.MinusAssign
    else (if c == 42 then Some p.StarAssign
    else (if c == 47 then Some p.SlashAssign
    else (if c == 38 then Some p.AndAssign
    else (if c == 124 then Some p.OrAssign
    else (if c == 94 then Some p.XorAssign
    else None))))))))))

-- the mark of a byte twice
abbrev pub doubled_mark : ℕ → Option Punct
doubled_mark c =
    if c == 91 then Some p.OpenMeta
    else (if c == 60 then Some p.ShiftLeft
    else (if c == 62 then Some p.ShiftRight
    else (if c == 43 then Some p.Increment
    else (if c == 45 then Some p.Decrement
    else (if c == 38 then Some p.AndAnd
    else (if c == 124 then Some p.OrOr
    else None))))))

-- the mark of two bytes
abbrev pub two_byte_mark : ℕ → ℕ → Option Punct
two_byte_mark c d = if d == 61 then mark_with_equals c else (if c == d then doubled_mark c else None)

-- the mark of three bytes
abbrev pub three_byte_mark : ℕ → ℕ → ℕ → Option Punct
three_byte_mark c d e =
    if (c == d) && (e == 61) then (if c == 60 then Some p.ShiftLeftAssign else (if c == 62 then Some p.ShiftRightAssign else None))
    else None

abbrev pub with_len : ℕ → Option Punct → Option (Punct × ℕ)
with_len n found = option_map (λ mark. (mark, n)) found

-- the longest mark at the front, with its length
abbrev pub longest_mark : List ℕ → Option (Punct × ℕ)
longest_mark bytes =
    let c = slice_index bytes 0 in
    let d = slice_index bytes 1 in
    let e = slice_index bytes 2 in
    option_or (with_len 3 (three_byte_mark c d e)) (option_or (with_len 2 (two_byte_mark c d)) (with_len 1 (one_byte_mark c)))
