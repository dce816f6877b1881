-- What a line says, and the word that it begins with.
use Rattle.std.proofs.Common.{◌≡◌, ℕ, zero, suc, List, [], ◌∷◌, ◌++◌, take, drop, filter, Option, Some, sym, ap, ◌∙◌, append-nil}
use Rattle.std.specs.Prelude.{option_map}
use Rattle.std.specs.List.{list_all, AllByRecursion}
use Rattle.osl_valuetext.specs.Words.{Line}
use Rattle.oso_read.specs.Hints.{is_hint, is_datum, Saying, word_count, saying, said}
use Rattle.oso_read.proofs.Passing.{some_of, tested}
use Rattle.oso_read.proofs.SaidLines.{IsNoHint, parts_are, says_parts}

pub words_of : (l front : Line) → AllByRecursion IsNoHint front → said l ≡ Some front → saying l ≡ Some (record { words = front; metadata = [] })
words_of l front none h = says_parts l front [] none tt (h ∙ ap Some (sym (append-nil front)))

pub saying_said : (l : Line) (s : Saying) → saying l ≡ Some s → said l ≡ Some (s.words ++ s.metadata)
saying_said l s h = ap (λ (o : Option Saying). option_map (λ s. s.words ++ s.metadata) o) h

-- ---- the first word

words_taken : (l : Line) (s : Saying) → saying l ≡ Some s → s.words ≡ take (word_count l) l
unfolding saying
words_taken l s h =
    let made = parts_are (take (word_count l) l) (filter is_datum (drop (word_count l) l)) in
    let test = tested (list_all is_hint (drop (word_count l) l)) (Some made) s h in
    ap (λ (t : Saying). t.words) (sym (some_of made s test.1))

pub record BeginsWith (l : Line) (word : List ℕ) : Type 0 where
  pub rest : Line
  pub is : l ≡ word ∷ rest

front_begins : (n : ℕ) (l : Line) (word : List ℕ) (words : Line) → take n l ≡ word ∷ words → BeginsWith l word
front_begins zero l word words h = absurd (cc h)
front_begins (suc n) [] word words h = absurd (cc h)
front_begins (suc n) (x ∷ l) word words h = let same : x ≡ word = cc h in record { rest = l; is = ap (λ (w : List ℕ). w ∷ l) same }

pub saying_begins : (l : Line) (s : Saying) (word : List ℕ) (words : Line) → saying l ≡ Some s → s.words ≡ word ∷ words → BeginsWith l word
saying_begins l s word words h first = front_begins (word_count l) l word words (sym (words_taken l s h) ∙ first)
