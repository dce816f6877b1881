-- The tree that is parsed is the one that spells the tokens.
use Rattle.std.proofs.Common.{◌≡◌, ℕ, List, [], ◌∷◌, Some, None, refl, sym, ap, ◌∙◌, arith, append-nil, subst}
use Rattle.std.proofs.lemmas.Option.{same_Some, none-some}
use Rattle.osl_tree.specs.declared.token.Token.{Token}
use Rattle.osl_tree.specs.declared.tree.Tree.{Tree}
use Rattle.osl_tree.specs.Lexemes.{lexemes}
use Rattle.osl_tree.specs.Files.{IsTree, Spells}
use Rattle.osl_tree.specs.Parser.{Read}
use Rattle.osl_tree.specs.FileReading.{source, none_left, parsed}
use Rattle.osl_tree.proofs.FileSound.{source_sound}
use Rattle.osl_tree.proofs.FileComplete.{source_complete}

-- What is spelled is parsed.
pub parsed_again : (x : Tree) (bytes : List ℕ) (ts : List Token) → Spells x bytes ts → parsed (lexemes bytes ts) ≡ Some x
unfolding parsed
parsed_again x bytes ts s =
    let low = s.low in
    let r = source_complete 255 s.height x (lexemes bytes ts) [] s.is (omega arith) in
    ap none_left (ap (source 255) (sym (append-nil (lexemes bytes ts))) ∙ r)

-- What is parsed is spelled.
pub parsed_spells : (x : Tree) (bytes : List ℕ) (ts : List Token) → parsed (lexemes bytes ts) ≡ Some x → Spells x bytes ts
unfolding parsed
parsed_spells x bytes ts e = by (source 255 (lexemes bytes ts)) refl e
  where
    by : (r : Read (Tree × ℕ)) → source 255 (lexemes bytes ts) ≡ r → none_left r ≡ Some x → Spells x bytes ts
    by None s e = absurd (none-some x e)
    by (Some (y, [])) s e =
        let d = source_sound 255 (lexemes bytes ts) [] y s in
        let all : lexemes bytes ts ≡ d.front = d.split ∙ append-nil d.front in
        let same : y.0 ≡ x = same_Some y.0 x e in
        let low = d.low in
        record {
          height = y.1;
          is = subst (λ z. IsTree z (lexemes bytes ts) y.1) same (subst (λ us. IsTree y.0 us y.1) (sym all) d.is);
          low = omega arith;
        }
    by (Some (y, t ∷ us)) s e = absurd (none-some x e)

pub one_tree : (x y : Tree) (bytes : List ℕ) (ts : List Token) → Spells x bytes ts → Spells y bytes ts → x ≡ y
one_tree x y bytes ts s t = same_Some x y (sym (parsed_again x bytes ts s) ∙ parsed_again y bytes ts t)
