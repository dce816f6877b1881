-- Each text is one thing as a source, and each plan has one verdict.
use Rattle.std.proofs.Common.{◌≡◌, ◌<◌, ◌≤◌, ℕ, List, length, Option, Some, None, Result, Ok, Err, refl, ap, sym, ◌∙◌, subst, arith, ⊎_elim}
use Rattle.std.proofs.lemmas.Bool.{cases_lt}
use Rattle.std.proofs.lemmas.Option.{none-some, same_Some}
use Rattle.osl_store.specs.Files.{Files}
use Rattle.osl_tree.specs.declared.token.Token.{Token}
use Rattle.osl_tree.specs.declared.token.LexKind.{LexKind}
use Rattle.osl_tree.specs.declared.tree.Tree.{Tree}
use Rattle.osl_tree.specs.Lexical.{Tokens, FirstBad}
use Rattle.osl_tree.specs.Lexemes.{lexemes}
use Rattle.osl_tree.specs.Files.{Spells}
use Rattle.osl_tree.specs.FileReading.{parsed}
use Rattle.osl_typed.specs.declared.shader.TypedShader.{TypedShader}
use Rattle.osl_typed.specs.FileTyping.{typed, IsTypingOf}
use Rattle.osl_lex.specs.declared.error.LexError.{LexError}
use Rattle.osl_lex.specs.declared.error.LexError.TheVariants.{Bad}
use Rattle.osl_lex.specs.Pieces.{IsFirstBad}
use Rattle.osl_lex.specs.Readings.{Reading, IsReading, SomeReading, OneReading}
use Rattle.osl_parse.specs.declared.error.SyntaxError.{SyntaxError}
use Rattle.osl_parse.specs.declared.error.SyntaxError.TheVariants as errors
use Rattle.osl_parse.specs.Reads.{IsNoTree}
use Rattle.osl_tree.specs.Sources.{LieWithin}
use Rattle.osl_tree.specs.Laws.{SpelledIsRead, ReadIsSpelled, TokensLieWithin}
use Rattle.osl_typing.specs.declared.error.TypeError.{TypeError}
use Rattle.osl_typing.specs.declared.error.TypeError.TheVariants as types
use Rattle.osl_job.specs.declared.shader_text.ShaderText.{ShaderText}
use Rattle.osl_job.specs.declared.shader_text.ShaderText.TheVariants.{NoTokens, NoTree, NoTyping}
use Rattle.osl_job.specs.Small.{small_shader}
use Rattle.osl_job.specs.ShaderTexts.{IsShaderText, no_tokens, no_tree, no_typing, has_typing, built}
use Rattle.osl_job.specs.Verdict.{Verdict}
use Rattle.osl_job.specs.Plan.{Plan, Read, Judge, Settled, IsVerdict, settled, absent, too_large, read, judged}

-- ---- what the laws of tokens and of trees say

-- each text is read in one way, and the tree that spells its tokens is the one that is read of them
pub record ReadingLaws : Type 0 where
  pub some_reading : SomeReading
  pub one_reading : OneReading
  pub is_read : SpelledIsRead
  pub spells : ReadIsSpelled

-- ---- sources

-- a text with a fault has no tokens
pub bad_has_none : OneReading → (text : List ℕ) (kind : LexKind) (at : ℕ) → FirstBad text kind at → (tokens : List Token) → Tokens text tokens → ⊥
bad_has_none one text kind at bad tokens is =
    let e : ◌≡◌ {A = Reading} (Ok tokens) (Err (kind, at)) = one text (Ok tokens) (Err (kind, at)) is bad in cc

one_list : OneReading → (text : List ℕ) (ts us : List Token) → Tokens text ts → Tokens text us → ts ≡ us
one_list one text ts us is js = let e : ◌≡◌ {A = Reading} (Ok ts) (Ok us) = one text (Ok ts) (Ok us) is js in cc

with_tree : (text : List ℕ) (tokens : List Token) (tree : Tree) (found : Option TypedShader) → Tokens text tokens → Spells tree text tokens → typed tree ≡ found → (source : ShaderText) × IsShaderText text source
with_tree text tokens tree None is spells e = (NoTyping, no_typing tokens tree is spells (λ t some. none-some t (sym e ∙ some)))
with_tree text tokens tree (Some t) is spells e =
    let source = built (small_shader (lexemes text tokens)) in
    (source, has_typing tokens tree t source is spells e refl)

with_tokens : ReadingLaws → (text : List ℕ) (tokens : List Token) (found : Option Tree) → Tokens text tokens → parsed (lexemes text tokens) ≡ found → (source : ShaderText) × IsShaderText text source
with_tokens laws text tokens None is e = (NoTree, no_tree tokens is (λ tree spells. none-some tree (sym e ∙ laws.is_read tree text tokens spells)))
with_tokens laws text tokens (Some tree) is e = with_tree text tokens tree (typed tree) is (laws.spells tree text tokens e) refl

source_of : ReadingLaws → (text : List ℕ) (reading : Reading) → IsReading text reading → (source : ShaderText) × IsShaderText text source
source_of laws text (Ok tokens) is = with_tokens laws text tokens (parsed (lexemes text tokens)) is refl
source_of laws text (Err fault) is = (NoTokens, no_tokens (bad_has_none laws.one_reading text fault.0 fault.1 is))

pub some_source : ReadingLaws → (text : List ℕ) → (source : ShaderText) × IsShaderText text source
some_source laws text = let found = laws.some_reading text in source_of laws text found.0 found.1

-- two spellings of one text are of one tree
same_tree : ReadingLaws → (text : List ℕ) (ts us : List Token) (x y : Tree) → Tokens text ts → Tokens text us → Spells x text ts → Spells y text us → x ≡ y
same_tree laws text ts us x y is js xs ys =
    let again : Spells y text ts = subst (λ (vs : List Token). Spells y text vs) (one_list laws.one_reading text us ts js is) ys in
    same_Some x y (sym (laws.is_read x text ts xs) ∙ laws.is_read y text ts again)

typing_differs : (tree other : Tree) (t : TypedShader) → tree ≡ other → ((u : TypedShader) → IsTypingOf tree u → ⊥) → IsTypingOf other t → ⊥
typing_differs tree other t same none some = none t (ap typed same ∙ some)

pub one_source : ReadingLaws → (text : List ℕ) (x y : ShaderText) → IsShaderText text x → IsShaderText text y → x ≡ y
one_source laws text _ _ (no_tokens none) (no_tokens _) = refl
one_source laws text _ _ (no_tokens none) (no_tree us is _) = absurd (none us is)
one_source laws text _ _ (no_tokens none) (no_typing us tree is _ _) = absurd (none us is)
one_source laws text _ _ (no_tokens none) (has_typing us tree t y is _ _ _) = absurd (none us is)
one_source laws text _ _ (no_tree ts is _) (no_tokens none) = absurd (none ts is)
one_source laws text _ _ (no_tree ts is _) (no_tree us js _) = refl
one_source laws text _ _ (no_tree ts is none) (no_typing us tree js spells _) = absurd (none tree (subst (λ (vs : List Token). Spells tree text vs) (one_list laws.one_reading text us ts js is) spells))
one_source laws text _ _ (no_tree ts is none) (has_typing us tree t y js spells _ _) = absurd (none tree (subst (λ (vs : List Token). Spells tree text vs) (one_list laws.one_reading text us ts js is) spells))
one_source laws text _ _ (no_typing ts tree is _ _) (no_tokens none) = absurd (none ts is)
one_source laws text _ _ (no_typing ts tree is spells _) (no_tree us js none) = absurd (none tree (subst (λ (vs : List Token). Spells tree text vs) (one_list laws.one_reading text ts us is js) spells))
one_source laws text _ _ (no_typing ts tree is _ _) (no_typing us other js _ _) = refl
one_source laws text _ _ (no_typing ts tree is xs none) (has_typing us other t y js ys some _) = absurd (typing_differs tree other t (same_tree laws text ts us tree other is js xs ys) none some)
one_source laws text _ _ (has_typing ts tree t x is _ _ _) (no_tokens none) = absurd (none ts is)
one_source laws text _ _ (has_typing ts tree t x is spells _ _) (no_tree us js none) = absurd (none tree (subst (λ (vs : List Token). Spells tree text vs) (one_list laws.one_reading text ts us is js) spells))
one_source laws text _ _ (has_typing ts tree t x is xs some _) (no_typing us other js ys none) = absurd (typing_differs other tree t (same_tree laws text us ts other tree js is ys xs) none some)
one_source laws text _ _ (has_typing ts tree t x is _ _ e) (has_typing us other u y js _ _ d) = e ∙ ap (λ vs. built (small_shader (lexemes text vs))) (one_list laws.one_reading text ts us is js) ∙ sym d

-- the same, at what the code has in its hands

pub bad_source : OneReading → (text : List ℕ) (error : LexError) (kind : LexKind) (at : ℕ) → error ≡ Bad kind at → IsFirstBad text error → IsShaderText text NoTokens
bad_source one text error kind at e bad = no_tokens (bad_has_none one text kind at (subst (λ (x : LexError). IsFirstBad text x) e bad))

pub treeless_source : (text : List ℕ) (ts us : List Token) (error : SyntaxError) → us ≡ ts → Tokens text ts → error ≡ errors.NoTree → (IsNoTree {A = Tree} (Err error) → (tree : Tree) → Spells tree text us → ⊥) → IsShaderText text NoTree
treeless_source text ts us error e is d none =
    let refused : IsNoTree {A = Tree} (Err error) = subst (λ (x : SyntaxError). IsNoTree {A = Tree} (Err x)) (sym d) tt in
    no_tree us (subst (λ (vs : List Token). Tokens text vs) (sym e) is) (none refused)

pub untyped_source : (text : List ℕ) (ts us : List Token) (tree : Tree) (error : TypeError) → us ≡ ts → Tokens text ts → Spells tree text us → error ≡ types.NoTyping
    → (◌≡◌ {A = Result TypedShader TypeError} (Err error) (Err types.NoTyping) → (t : TypedShader) → IsTypingOf tree t → ⊥) → IsShaderText text NoTyping
untyped_source text ts us tree error e is spells d none = no_typing us tree (subst (λ (xs : List Token). Tokens text xs) (sym e) is) spells (none (ap Err d))

pub typed_source : (text : List ℕ) (ts us vs : List Token) (tree : Tree) (t : TypedShader) (source : ShaderText) → us ≡ ts → vs ≡ ts → Tokens text ts → Spells tree text us → IsTypingOf tree t
    → source ≡ built (small_shader (lexemes text vs)) → IsShaderText text source
typed_source text ts us vs tree t source e d is spells some same =
    has_typing us tree t source (subst (λ (xs : List Token). Tokens text xs) (sym e) is) spells some (same ∙ ap (λ xs. built (small_shader (lexemes text xs))) (d ∙ sym e))

pub tokens_lie : TokensLieWithin → (text : List ℕ) (ts us : List Token) → us ≡ ts → Tokens text ts → LieWithin text us
tokens_lie lie text ts us e is = subst (λ (vs : List Token). LieWithin text vs) (sym e) (lie text ts is)

-- ---- verdicts

read_verdict : (files : Files) (name : List ℕ) (limit : ℕ) (next : List ℕ → Plan) (file : Option (List ℕ)) → files name ≡ file
    → ((bytes : List ℕ) → (v : Verdict) × IsVerdict files (next bytes) v) → (v : Verdict) × IsVerdict files (Read name limit next) v
read_verdict files name limit next None e more = (_, absent name limit next e)
read_verdict files name limit next (Some bytes) e more =
    ⊎_elim
    (λ (large : limit < length bytes). (_, too_large name bytes limit next e large))
    (λ (fits : length bytes ≤ limit). let v = more bytes in (v.0, read name bytes limit next v.0 e fits v.1))
    (cases_lt limit (length bytes))

-- what the law of shader texts says
pub record TextLaws : Type 0 where
  pub some : (text : List ℕ) → (source : ShaderText) × IsShaderText text source
  pub one : (text : List ℕ) (x y : ShaderText) → IsShaderText text x → IsShaderText text y → x ≡ y

pub some_verdict : TextLaws → (plan : Plan) (files : Files) → (v : Verdict) × IsVerdict files plan v
some_verdict laws (Read name limit next) files = read_verdict files name limit next (files name) refl (λ bytes. some_verdict laws (next bytes) files)
some_verdict laws (Judge text next) files =
    let source = laws.some text in
    let v = some_verdict laws (next source.0) files in
    (v.0, judged text source.0 next v.0 source.1 v.1)
some_verdict laws (Settled v) files = (v, settled v)

same_bytes : (file : Option (List ℕ)) (a b : List ℕ) → file ≡ Some a → file ≡ Some b → a ≡ b
same_bytes file a b e d = same_Some a b (sym e ∙ d)

too_long : (file : Option (List ℕ)) (a b : List ℕ) (limit : ℕ) → file ≡ Some a → file ≡ Some b → limit < length a → length b ≤ limit → ⊥
too_long file a b limit e d large fits = omega (arith, ap length (same_bytes file a b e d))

pub one_verdict : TextLaws → (files : Files) (plan : Plan) (x y : Verdict) → IsVerdict files plan x → IsVerdict files plan y → x ≡ y
one_verdict laws files _ _ _ (settled v) (settled w) = refl
one_verdict laws files _ _ _ (absent _ _ _ e) (absent _ _ _ d) = refl
one_verdict laws files _ _ _ (absent _ _ _ e) (too_large _ b _ _ d _) = absurd (none-some b (sym e ∙ d))
one_verdict laws files _ _ _ (absent _ _ _ e) (read _ b _ _ w d _ q) = absurd (none-some b (sym e ∙ d))
one_verdict laws files _ _ _ (too_large _ a _ _ e _) (absent _ _ _ d) = absurd (none-some a (sym d ∙ e))
one_verdict laws files _ _ _ (too_large _ a _ _ e _) (too_large _ b _ _ d _) = refl
one_verdict laws files _ _ _ (too_large name a limit _ e large) (read _ b _ _ w d fits q) = absurd (too_long (files name) a b limit e d large fits)
one_verdict laws files _ _ _ (read _ a _ _ v e _ p) (absent _ _ _ d) = absurd (none-some a (sym d ∙ e))
one_verdict laws files _ _ _ (read name a limit _ v e fits p) (too_large _ b _ _ d large) = absurd (too_long (files name) b a limit d e large fits)
one_verdict laws files _ _ _ (read name a limit next v e _ p) (read _ b _ _ w d _ q) =
    one_verdict laws files (next a) v w p (subst (λ (c : List ℕ). IsVerdict files (next c) w) (same_bytes (files name) b a d e) q)
one_verdict laws files _ _ _ (judged text s next v is p) (judged _ t _ w js q) =
    one_verdict laws files (next s) v w p (subst (λ (u : ShaderText). IsVerdict files (next u) w) (laws.one text t s js is) q)
