-- Where a string ends.
use Rattle.std.proofs.Common.{◌≡◌, ℕ, ◌+◌, Bool, true, false, List, [], ◌∷◌, ◌++◌, length, Some, None, if◌then◌else◌, nat_eq, refl, sym, ap, subst, ◌∙◌, arith}
use Rattle.std.proofs.lemmas.Bool.{eqb-true}
use Rattle.osl_tree.specs.Lexical.{IsInside, nothing, plain, escaped}
use Rattle.osl_lex.specs.Scan.{string_end}

-- What stands between the quotes; the flag says that a `\\` stands before it, which escapes its first byte.
abbrev pub InsideFrom : Bool → List ℕ → Type 0
InsideFrom false cs = IsInside cs
InsideFrom true [] = ⊥
InsideFrom true (c ∷ cs) = (nat_eq c 10 ≡ false) × IsInside cs

-- These bytes, which stand at a place, begin with the inside of a string and the quote that closes it, and there it ends.
pub record Closes (flag : Bool) (at : ℕ) (bytes : List ℕ) (end : ℕ) : Type 0 where
  pub inside : List ℕ
  pub after : List ℕ
  pub is : InsideFrom flag inside
  pub split : bytes ≡ inside ++ 34 ∷ after
  pub place : end ≡ at + length inside + 1

-- one byte more in front
longer : (flag next : Bool) (at : ℕ) (c : ℕ) (cs : List ℕ) (end : ℕ) → ((inside : List ℕ) → InsideFrom next inside → InsideFrom flag (c ∷ inside))
    → Closes next (at + 1) cs end → Closes flag at (c ∷ cs) end
longer flag next at c cs end more r = record {
  inside = c ∷ r.inside;
  after = r.after;
  is = more r.inside r.is;
  split = ap (λ (xs : List ℕ). c ∷ xs) r.split;
  place = let p = r.place in omega arith;
}

pub string_closes : (bytes : List ℕ) (at : ℕ) (flag : Bool) (end : ℕ) → string_end at flag bytes ≡ Some end → Closes flag at bytes end
string_closes [] at flag end e = cc
string_closes (c ∷ cs) at true end e = on_line (nat_eq c 10) refl e (string_closes cs (at + 1) false end)
  where
    on_line : (b : Bool) → nat_eq c 10 ≡ b → (if b then None else string_end (at + 1) false cs) ≡ Some end
        → (string_end (at + 1) false cs ≡ Some end → Closes false (at + 1) cs end) → Closes true at (c ∷ cs) end
    on_line true s e rest = cc
    on_line false s e rest = longer true false at c cs end (λ inside is. (s, is)) (rest e)
string_closes (c ∷ cs) at false end e = on_line (nat_eq c 10) refl (nat_eq c 34) refl (nat_eq c 92) refl e (string_closes cs (at + 1) (nat_eq c 92) end)
  where
    on_line : (b : Bool) → nat_eq c 10 ≡ b → (q : Bool) → nat_eq c 34 ≡ q → (h : Bool) → nat_eq c 92 ≡ h
        → (if b then None else (if q then Some (at + 1) else string_end (at + 1) h cs)) ≡ Some end
        → (string_end (at + 1) h cs ≡ Some end → Closes h (at + 1) cs end) → Closes false at (c ∷ cs) end
    on_line true s q t h u e rest = cc
    on_line false s true t h u e rest = record {
      inside = [];
      after = cs;
      is = nothing;
      split = ap (λ (x : ℕ). x ∷ cs) (eqb-true c 34 t);
      place = let f : at + 1 ≡ end = cc in omega arith;
    }
    on_line false s false t true u e rest = longer false true at c cs end escape (rest e)
      where
        escape : (inside : List ℕ) → InsideFrom true inside → IsInside (c ∷ inside)
        escape [] is = absurd is
        escape (d ∷ ds) is = subst (λ x. IsInside (x ∷ d ∷ ds)) (sym (eqb-true c 92 u)) (escaped d ds is.0 is.1)
    on_line false s false t false u e rest = longer false false at c cs end (λ inside is. plain c inside t u s is) (rest e)

-- The inside of a string and its quote are read up to the quote.
pub string_ends : (inside after : List ℕ) (at : ℕ) → IsInside inside → string_end at false (inside ++ 34 ∷ after) ≡ Some (at + length inside + 1)
string_ends _ after at nothing = ap Some (omega arith)
string_ends _ after at (plain c cs no_quote no_escape on_line is) = rw (on_line, no_quote, no_escape) (string_ends cs after (at + 1) is ∙ ap Some (omega arith))
string_ends _ after at (escaped c cs on_line is) = rw on_line (string_ends cs after (at + 1 + 1) is ∙ ap Some (omega arith))
