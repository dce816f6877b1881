-- A text is a token of one kind and value at most.
use Rattle.std.proofs.Common.{◌≡◌, ◌⊎◌, ℕ, Bool, true, false, ◌||◌, ◌&&◌, List, [], ◌∷◌, nat_eq, slice_index, Option, Some, None, refl, sym, ap, ◌∙◌, inl, inr, arith}
use Rattle.std.specs.Char.{is_ascii_digit}
use Rattle.std.proofs.lemmas.Bool.{both_ways}
use Rattle.osl_tree.specs.declared.token.Punct.{Punct}
use Rattle.osl_tree.specs.declared.token.Punct.TheVariants as p
use Rattle.osl_tree.specs.declared.token.TokenKind.{TokenKind}
use Rattle.osl_tree.specs.declared.token.TokenKind.TheVariants as kinds
use Rattle.osl_tree.specs.Lexical.{is_number, IsToken, spelling, mark}
use Rattle.osl_lex.specs.Signs.{one_byte_mark, two_byte_mark, three_byte_mark}
use Rattle.osl_lex.proofs.Firsts.{Sort, a_word, a_number, a_string, a_mark, sort, only_word, only_string}
use Rattle.osl_lex.proofs.MarkFronts.{Found, of_one, of_two, of_three, found}
use Rattle.osl_lex.proofs.Numbers.{begins_as_number}
use Rattle.osl_lex.proofs.Values.{number_again}

-- ---- marks

-- Two marks of one spelling are one.
pub same_mark : (x y : Punct) → spelling x ≡ spelling y → x ≡ y
same_mark x y e = go (found x) (found y)
  where
    some_same : {o : Option Punct} → o ≡ Some x → o ≡ Some y → x ≡ y
    some_same f g = cc (f, g)

    go : Found x → Found y → x ≡ y
    go (of_one c s f) (of_one d t g) = let same = sym s ∙ e ∙ t in let at : c ≡ d = cc (same) in some_same f (ap one_byte_mark at ∙ g)
    go (of_one c s f) (of_two d d' t g) = let same = sym s ∙ e ∙ t in cc (same)
    go (of_one c s f) (of_three d d' d'' t g) = let same = sym s ∙ e ∙ t in cc (same)
    go (of_two c c' s f) (of_one d t g) = let same = sym s ∙ e ∙ t in cc (same)
    go (of_two c c' s f) (of_two d d' t g) =
        let same = sym s ∙ e ∙ t in
        let at : c ≡ d = cc (same) in
        let at' : c' ≡ d' = cc (same) in
        some_same f (ap (λ n. two_byte_mark n c') at ∙ ap (two_byte_mark d) at' ∙ g)
    go (of_two c c' s f) (of_three d d' d'' t g) = let same = sym s ∙ e ∙ t in cc (same)
    go (of_three c c' c'' s f) (of_one d t g) = let same = sym s ∙ e ∙ t in cc (same)
    go (of_three c c' c'' s f) (of_two d d' t g) = let same = sym s ∙ e ∙ t in cc (same)
    go (of_three c c' c'' s f) (of_three d d' d'' t g) =
        let same = sym s ∙ e ∙ t in
        let at : c ≡ d = cc (same) in
        let at' : c' ≡ d' = cc (same) in
        let at'' : c'' ≡ d'' = cc (same) in
        some_same f (ap (λ n. three_byte_mark n c' c'') at ∙ ap (λ n. three_byte_mark d n c'') at' ∙ ap (three_byte_mark d d') at'' ∙ g)

-- ---- kinds

-- No mark is spelled as a number begins.
no_number_mark : (sign : Punct) → begins_as_number (spelling sign) ≡ false
no_number_mark p.OpenParen = refl
no_number_mark _ = refl

pub same_kind : (text : List ℕ) (k j : TokenKind) → IsToken text k → IsToken text j → k ≡ j
same_kind text k j is other = go k (sort text k is) j other (sort text j other)
  where
    go : (k : TokenKind) → Sort text k → (j : TokenKind) → IsToken text j → Sort text j → k ≡ j
    go _ (a_word is first) j other sort_j = sym (only_word text j other first).1
    go _ (a_string is first) j other sort_j = sym (only_string text j other first).1
    go _ (a_number k number is begins) j other (a_word is' first) = let e = (only_word text k is first).1 in e
    go _ (a_number k number is begins) j other (a_string is' first) = (only_string text k is first).1
    go _ (a_number k number is begins) j other (a_number _ number' is' begins') =
        let e = sym (number_again text k is number) ∙ number_again text j other number' in some_same e
      where
        some_same : Some k ≡ Some j → k ≡ j
        some_same e = cc
    go _ (a_number k number is begins) j other (a_mark sign e) =
        absurd (both_ways _ (no_number_mark sign) (ap begins_as_number (sym e) ∙ begins))
    go _ (a_mark sign e) j other (a_word is' first) = (only_word text (kinds.Punct sign) (mark text sign e) first).1
    go _ (a_mark sign e) j other (a_string is' first) = (only_string text (kinds.Punct sign) (mark text sign e) first).1
    go _ (a_mark sign e) j other (a_number _ number' is' begins') =
        absurd (both_ways _ (no_number_mark sign) (ap begins_as_number (sym e) ∙ begins'))
    go _ (a_mark sign e) _ other (a_mark sign' e') = ap kinds.Punct (same_mark sign sign' (sym e ∙ e'))
