-- Texts of groups, and what is read of them.
use Rattle.std.proofs.Common.{List, codes, ◌≡◌, pos, Bool, true, false, [], ◌∷◌, ◌++◌, Option, Some, None, Ok, Err, refl}
use Rattle.osl_decimal.specs.Decimal.{fx_of, is_decimal, whole, mantissa, decimals, exponent, exponent_digits, raising, lowering, numerator, denominator, decimal_units}
use Rattle.osl_value.specs.declared.types.Base.TheVariants.{Float, Str}
use Rattle.osl_value.specs.Types.{only}
use Rattle.osl_valuetext.specs.Identifiers.{pair_at}
use Rattle.osl_valuetext.specs.Literals.{string_at, text_at, numbers_at, strings_at, values_at, value_at}
use Rattle.osl_valuetext.specs.Types.{length_at, type_at}
use Rattle.osl_network.specs.declared.statement.Statement.{Statement}
use Rattle.osl_network.specs.declared.statement.Statement.TheVariants as statements
use Rattle.osl_grouptext.specs.Canon.{group_text}
use Rattle.osl_grouptext.specs.Pieces.{words}
use Rattle.osl_grouptext.specs.Reading.{reads, reading}
use Rattle.osl_grouptext.specs.Statements.{valued_at, param_at, shader_at, connect_at, output_at, statement_at}

matte : Statement
matte = statements.Shader (codes "matte") (codes "a")

-- ---- which pieces are words

marks_are_words : words (codes "a;b=[[c]]d[2]") ≡ codes "a" ∷ codes ";" ∷ codes "b" ∷ codes "=" ∷ codes "[[" ∷ codes "c" ∷ codes "]]" ∷ codes "d[2]" ∷ []
unfolding words
marks_are_words = refl

-- three brackets are a mark and a word
three_brackets : words (codes "[[[") ≡ codes "[[" ∷ codes "[" ∷ []
unfolding words
three_brackets = refl

-- each blank parts words, and a comment begins within a word and ends with its line
blanks_and_comments : words (codes "a" ++ 9 ∷ codes "b" ++ 10 ∷ codes "c" ++ 13 ∷ codes "d" ++ 12 ∷ codes "e#f;g" ++ 10 ∷ codes "h") ≡ codes "a" ∷ codes "b" ∷ codes "c" ∷ codes "d" ∷ codes "e" ∷ codes "h" ∷ []
unfolding words
blanks_and_comments = refl

-- in a string marks and blanks are bytes
string_is_one_word : words (34 ∷ codes "; # " ++ 92 ∷ 34 ∷ codes "=[[" ++ 34 ∷ codes ";") ≡ (34 ∷ codes "; # " ++ 92 ∷ 34 ∷ codes "=[[" ++ 34 ∷ []) ∷ codes ";" ∷ []
unfolding words
string_is_one_word = refl

-- ---- statements

nothing : reading [] ≡ Ok []
unfolding reading words reads
nothing = refl

one_statement : reading (codes "shader matte a ;") ≡ Ok (matte ∷ [])
unfolding matte reading words reads statement_at shader_at
one_statement = refl

comments_between : reading (codes "#;" ++ 10 ∷ codes "shader#" ++ 10 ∷ codes "matte a;#") ≡ Ok (matte ∷ [])
unfolding matte reading words reads statement_at shader_at
comments_between = refl

unended : reading (codes "shader matte a") ≡ Err 1
unfolding reading words reads statement_at shader_at
unended = refl

empty_statement : reading (codes "shader matte a;;") ≡ Err 2
unfolding reading words reads statement_at shader_at
empty_statement = refl

first_bad_statement : reading (codes "shader matte a; shader 1 b; shader") ≡ Err 2
unfolding reading words reads statement_at shader_at
first_bad_statement = refl

pairs : reading (codes "connect a.r b.x;output b.o;") ≡ Ok (statements.Connect (codes "a") (codes "r") (codes "b") (codes "x") ∷ statements.Output (codes "b") (codes "o") ∷ [])
unfolding reading words reads statement_at connect_at output_at pair_at
pairs = refl

pair_with_a_blank : reading (codes "output b .o;") ≡ Err 1
unfolding reading words reads statement_at output_at pair_at
pair_with_a_blank = refl

-- ---- parameters

text_param : Option Bool → Statement
text_param lockgeom = statements.Param (codes "s") (record { ty = only Str; nums = []; texts = codes "a;b" ∷ [] }) lockgeom

string_value : reading (codes "param string s " ++ 34 ∷ codes "a;b" ++ 34 ∷ codes "[[int lockgeom=1]];") ≡ Ok (text_param (Some true) ∷ [])
unfolding text_param reading words reads statement_at param_at valued_at type_at length_at value_at values_at strings_at text_at string_at
string_value = refl

other_lock : reading (codes "param string s " ++ 34 ∷ codes "a;b" ++ 34 ∷ codes " [[ int lockgeom = 00 ]] ;") ≡ Err 1
unfolding reading words reads statement_at param_at valued_at type_at length_at value_at values_at strings_at text_at string_at
other_lock = refl

number_param : Statement
number_param = statements.Param (codes "Kd") (record { ty = only Float; nums = pos 500000000 ∷ []; texts = [] }) None

number_value : reading (codes "param float Kd 00.50;") ≡ Ok (number_param ∷ [])
unfolding number_param reading words reads statement_at param_at valued_at type_at length_at value_at values_at numbers_at fx_of is_decimal whole mantissa decimals exponent exponent_digits raising lowering numerator denominator decimal_units
number_value = refl

two_values : reading (codes "param float Kd 1 2;") ≡ Err 1
unfolding reading words reads statement_at param_at valued_at type_at length_at value_at values_at numbers_at fx_of is_decimal whole mantissa decimals exponent exponent_digits raising lowering numerator denominator decimal_units
two_values = refl

closure_value : reading (codes "param closure color c;") ≡ Err 1
unfolding reading words reads statement_at param_at valued_at type_at length_at value_at
closure_value = refl

-- ---- what is written is read as the same

each_kind : List Statement
each_kind = text_param (Some false) ∷ matte ∷ statements.Connect (codes "a") (codes "r") (codes "b") (codes "x") ∷ statements.Output (codes "a") (codes "o") ∷ []

written : group_text each_kind
    ≡ codes "param string s " ++ 34 ∷ codes "a;b" ++ 34 ∷ codes " [[ int lockgeom = 0 ]] ;" ++ 10 ∷ codes "shader matte a ;" ++ 10 ∷ codes "connect a.r b.x ;" ++ 10 ∷ codes "output a.o ;" ++ 10 ∷ []
unfolding each_kind matte text_param group_text
written = refl

read_again : reading (group_text each_kind) ≡ Ok each_kind
unfolding each_kind matte text_param group_text reading words reads statement_at param_at shader_at connect_at output_at pair_at valued_at type_at length_at value_at values_at strings_at text_at string_at
read_again = refl
