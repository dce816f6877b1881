-- The words of a statement are read as that statement.
use Rattle.std.proofs.Common.{◌≡◌, ℕ, ◌+◌, ◌*◌, Bool, true, false, List, [], ◌∷◌, ◌++◌, length, length-append, map, drop, Option, Some, None, refl, ap, ◌∙◌, arith}
use Rattle.std.specs.Prelude.{if◌then◌else◌}
use Rattle.std.proofs.lemmas.List.{take_at, drop_at}
use Rattle.osl_value.specs.declared.types.Base.{Base}
use Rattle.osl_value.specs.declared.types.Base.TheVariants.{Int, Float, Color, Point, Vector, Normal, Matrix, Str, Closure}
use Rattle.osl_value.specs.declared.types.Ty.{Ty}
use Rattle.osl_value.specs.Plain.{Plain, IsPlain}
use Rattle.osl_value.specs.Types.{number_count, text_count}
use Rattle.osl_valuetext.specs.declared.number.Spelling.TheVariants.{Free}
use Rattle.osl_valuetext.specs.Identifiers.{Pair, pair_at, pair_text}
use Rattle.osl_valuetext.specs.Literals.{◌>>=◌, value_at}
use Rattle.osl_valuetext.specs.Words.{Line, string_text, number_text, value_words}
use Rattle.osl_valuetext.proofs.Exact.{value_written, texts_are}
use Rattle.osl_valuetext.proofs.PairWords.{pair_there}
use Rattle.osl_valuetext.proofs.Plains.{plain_type_from}
use Rattle.osl_valuetext.proofs.TypeTexts.{type_written}
use Rattle.osl_network.specs.declared.statement.Statement.{Statement}
use Rattle.osl_network.specs.declared.statement.Statement.TheVariants as statements
use Rattle.osl_grouptext.specs.Fits.{IsName, Fits}
use Rattle.osl_grouptext.specs.Statements.{statement_words, lock_or_none, pair_of, name_at, lock_at, word_count, param_of, connection, valued_at, param_at, shader_at, connect_at, output_at, statement_at}

named : (name : List ℕ) → IsName name → (f : List ℕ → Option Statement) → (name_at name >>= f) ≡ f name
named name is f = ap (λ (b : Bool). (if b then Some name else None) >>= f) is

paired : (layer param : List ℕ) → IsName layer → IsName param → (f : Pair → Option Statement) → (pair_at (pair_text (pair_of layer param)) >>= f) ≡ f (pair_of layer param)
paired layer param is at f =
    ap (λ (o : Option Pair). o >>= f) (pair_there (pair_text (pair_of layer param)) (pair_of layer param) (record { text = refl; layer_is = is; param_is = at }))

-- ---- values

no_strings : (n : ℕ) → n + n * 0 ≡ n
no_strings n = omega arith

counts : (base : Base) (len : ℕ) → number_count (record { base = base; len = len }) + text_count (record { base = base; len = len }) ≡ word_count (record { base = base; len = len })
counts Int len = omega arith
counts Float len = omega arith
counts Color len = omega arith
counts Point len = omega arith
counts Vector len = omega arith
counts Normal len = omega arith
counts Matrix len = omega arith
counts Str len = omega arith
counts Closure len = omega arith

value_len : (v : Plain) → IsPlain v.ty v.nums v.texts → length (value_words v.ty.base v.nums v.texts) ≡ word_count v.ty
value_len v is =
    let both = length-append (map (number_text v.ty.base) v.nums) (map string_text v.texts) in
    let nums : length (map (number_text v.ty.base) v.nums) ≡ length v.nums = mapped (number_text v.ty.base) v.nums in
    let texts : length (map string_text v.texts) ≡ length v.texts = mapped string_text v.texts in
    omega (arith, both, nums, texts, is.nums_fit, is.texts_fit, counts v.ty.base v.ty.len)
  where
    mapped : {X Y : Type 0} (f : X → Y) (xs : List X) → length (map f xs) ≡ length xs
    mapped f [] = refl
    mapped f (x ∷ xs) = let more = mapped f xs in omega (arith, more)

lock_written : (lockgeom : Option Bool) → lock_at (lock_or_none lockgeom) ≡ Some lockgeom
lock_written None = refl
lock_written (Some true) = refl
lock_written (Some false) = refl

value_read : (name : List ℕ) (v : Plain) (lockgeom : Option Bool) → Fits (statements.Param name v lockgeom)
    → valued_at name v.ty (value_words v.ty.base v.nums v.texts ++ lock_or_none lockgeom) ≡ Some (statements.Param name v lockgeom)
unfolding valued_at
value_read name v lockgeom fits =
    let plain = fits.1.0 in
    let values = value_words v.ty.base v.nums v.texts in
    let lock = lock_or_none lockgeom in
    let rest : Line → Plain → Option Statement = λ words value. lock_at words >>= λ lockgeom. Some (param_of name value lockgeom) in
    let len = value_len v plain in
    ap (λ (ws : Line). value_at Free v.ty ws >>= rest (drop (word_count v.ty) (values ++ lock))) (take_at values lock (word_count v.ty) len)
    ∙ ap (λ (ws : Line). value_at Free v.ty values >>= rest ws) (drop_at values lock (word_count v.ty) len)
    ∙ ap (λ (o : Option Plain). o >>= rest lock) (value_written Free v plain (texts_are v.texts fits.1.1))
    ∙ ap (λ (o : Option (Option Bool)). o >>= λ lockgeom. Some (param_of name v lockgeom)) (lock_written lockgeom)

-- ---- statements

pub statement_written : (s : Statement) → Fits s → statement_at (statement_words s) ≡ Some s
unfolding statement_at param_at shader_at connect_at output_at
statement_written (statements.Param name v lockgeom) fits =
    let plain = fits.1.0 in
    let words = value_words v.ty.base v.nums v.texts ++ lock_or_none lockgeom in
    ap (λ (o : Option Ty). o >>= λ ty. name_at name >>= λ name. valued_at name ty words) (type_written v.ty (plain_type_from v.ty plain.no_closure plain.short))
    ∙ named name fits.0 (λ name. valued_at name v.ty words) ∙ value_read name v lockgeom fits
statement_written (statements.Shader shader layer) fits =
    named shader fits.0 (λ shader. name_at layer >>= λ layer. Some (statements.Shader shader layer))
    ∙ named layer fits.1 (λ layer. Some (statements.Shader shader layer))
statement_written (statements.Connect src_layer src_param dst_layer dst_param) fits =
    paired src_layer src_param fits.0.0 fits.0.1 (λ src. pair_at (pair_text (pair_of dst_layer dst_param)) >>= λ dst. Some (connection src dst))
    ∙ paired dst_layer dst_param fits.1.0 fits.1.1 (λ dst. Some (connection (pair_of src_layer src_param) dst))
statement_written (statements.Output layer param) fits =
    paired layer param fits.0 fits.1 (λ pair. Some (statements.Output pair.layer pair.param))
