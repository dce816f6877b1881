-- The statements of a group's text: the words of each, before its `;`.
use Rattle.std.specs.Prelude.{codes, ℕ, Bool, true, false, ◌==◌, if◌then◌else◌, List, [], ◌∷◌, ◌++◌, length, take, drop, Option, Some, None}
use Rattle.std.specs.Cmp.Lexicographic.{pointwise}
use Rattle.std.specs.Str.{bytes_eq}
use Rattle.osl_value.specs.declared.types.Ty.{Ty}
use Rattle.osl_value.specs.Plain.{Plain}
use Rattle.osl_value.specs.declared.types.Base.TheVariants.{Str}
use Rattle.osl_value.specs.Types.{same_base, number_count, text_count}
use Rattle.osl_valuetext.specs.declared.number.Spelling.TheVariants.{Free}
use Rattle.osl_valuetext.specs.Identifiers.{is_identifier, Pair, pair_at, pair_text}
use Rattle.osl_valuetext.specs.Literals.{◌>>=◌, value_at}
use Rattle.osl_valuetext.specs.Types.{type_at}
use Rattle.osl_valuetext.specs.Words.{Line, type_text, value_words}
use Rattle.osl_network.specs.declared.statement.Statement.{Statement}
use Rattle.osl_network.specs.declared.statement.Statement.TheVariants as statements

-- ---- what is written

abbrev pub lock_digit : Bool → List ℕ
lock_digit true = codes "1"
lock_digit false = codes "0"

-- `[[ int lockgeom = 0 ]]`, or with 1
abbrev pub lock_words : Bool → Line
lock_words locked = codes "[[" ∷ codes "int" ∷ codes "lockgeom" ∷ codes "=" ∷ lock_digit locked ∷ codes "]]" ∷ []

abbrev pub lock_or_none : Option Bool → Line
lock_or_none None = []
lock_or_none (Some locked) = lock_words locked

abbrev pub pair_of : List ℕ → List ℕ → Pair
pair_of layer param = record { layer = layer; param = param }

-- the words of a statement
abbrev pub statement_words : Statement → Line
statement_words (statements.Param name value lockgeom) =
    codes "param" ∷ type_text value.ty ∷ name ∷ value_words value.ty.base value.nums value.texts ++ lock_or_none lockgeom
statement_words (statements.Shader shader layer) = codes "shader" ∷ shader ∷ layer ∷ []
statement_words (statements.Connect src_layer src_param dst_layer dst_param) =
    codes "connect" ∷ pair_text (pair_of src_layer src_param) ∷ pair_text (pair_of dst_layer dst_param) ∷ []
statement_words (statements.Output layer param) = codes "output" ∷ pair_text (pair_of layer param) ∷ []

-- ---- what is read

-- the one word that there is
abbrev pub only_word : Line → Option (List ℕ)
only_word [] = None
only_word (word ∷ words) = if length words == 0 then Some word else None

-- a name
abbrev pub name_at : List ℕ → Option (List ℕ)
name_at word = if is_identifier word then Some word else None

-- whether a parameter is locked, if the words after its values say so
abbrev pub lock_at : Line → Option (Option Bool)
lock_at words =
    if length words == 0 then Some None
    else (if pointwise bytes_eq words (lock_words false) then Some (Some false)
    else (if pointwise bytes_eq words (lock_words true) then Some (Some true)
    else None))

-- how many words a value has
abbrev pub word_count : Ty → ℕ
word_count ty = if same_base ty.base Str then text_count ty else number_count ty

abbrev pub param_of : List ℕ → Plain → Option Bool → Statement
param_of name value lockgeom = statements.Param name value lockgeom

-- VALUES, and `[[ int lockgeom = 0 ]]` or nothing
unfoldable pub valued_at : List ℕ → Ty → Line → Option Statement
valued_at name ty words =
    value_at Free ty (take (word_count ty) words) >>= λ value. lock_at (drop (word_count ty) words) >>= λ lockgeom. Some (param_of name value lockgeom)

-- TYPE NAME VALUES ..
unfoldable pub param_at : Line → Option Statement
param_at [] = None
param_at (type ∷ []) = None
param_at (type ∷ name ∷ words) = type_at type >>= λ ty. name_at name >>= λ name. valued_at name ty words

-- SHADER LAYER
unfoldable pub shader_at : Line → Option Statement
shader_at [] = None
shader_at (shader ∷ words) = name_at shader >>= λ shader. only_word words >>= λ word. name_at word >>= λ layer. Some (statements.Shader shader layer)

abbrev pub connection : Pair → Pair → Statement
connection src dst = statements.Connect src.layer src.param dst.layer dst.param

-- LAYER.PARAM LAYER.PARAM
unfoldable pub connect_at : Line → Option Statement
connect_at [] = None
connect_at (src ∷ words) =
    pair_at src >>= λ src. only_word words >>= λ word. pair_at word >>= λ dst. Some (connection src dst)

-- LAYER.PARAM
unfoldable pub output_at : Line → Option Statement
output_at words = only_word words >>= λ word. pair_at word >>= λ pair. Some (statements.Output pair.layer pair.param)

-- the statement of these words
unfoldable pub statement_at : Line → Option Statement
statement_at [] = None
statement_at (kind ∷ words) =
    if bytes_eq kind (codes "param") then param_at words
    else (if bytes_eq kind (codes "shader") then shader_at words
    else (if bytes_eq kind (codes "connect") then connect_at words
    else (if bytes_eq kind (codes "output") then output_at words
    else None)))
