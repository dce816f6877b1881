-- Where comments end.
use Rattle.std.proofs.Common.{◌≡◌, ℕ, zero, suc, ◌+◌, ◌<◌, Bool, true, false, ◌&&◌, List, [], ◌∷◌, length, Some, None, if◌then◌else◌, nat_eq, slice_index, refl, arith}
use Rattle.std.proofs.lemmas.Bool.{eqb-true, and_parts}
use Rattle.std.proofs.lemmas.Bool.Decides.{nat_tests}
use Rattle.osl_lex.specs.Scan.{comment_end}

-- `*/` stands at a place of a list
abbrev pub IsClose : List ℕ → ℕ → Type 0
IsClose bytes k = (slice_index bytes k ≡ 42) × (slice_index bytes (suc k) ≡ 47)

-- Behind the byte `before`, the first `*/` ends there, of bytes that stand at a place.
pub record ClosesFirst (before at : ℕ) (bytes : List ℕ) (end : ℕ) : Type 0 where
  pub star : ℕ
  pub within : star < length bytes
  pub closes : IsClose (before ∷ bytes) star
  pub place : end ≡ at + star + 1
  pub first : (k : ℕ) → k < star → IsClose (before ∷ bytes) k → ⊥

-- no `*/`, with the byte `before` in front
abbrev pub NeverCloses : ℕ → List ℕ → Type 0
NeverCloses before bytes = (k : ℕ) → k < length bytes → IsClose (before ∷ bytes) k → ⊥

not_here : (before c : ℕ) (cs : List ℕ) → (nat_eq before 42 && nat_eq c 47) ≡ false → IsClose (before ∷ c ∷ cs) 0 → ⊥
not_here before c cs e close = grind (arith, nat_tests)

pub comment_closes : (bytes : List ℕ) (before at end : ℕ) → comment_end at (nat_eq before 42) bytes ≡ Some end → ClosesFirst before at bytes end
comment_closes [] before at end e = cc
comment_closes (c ∷ cs) before at end e = go (nat_eq before 42 && nat_eq c 47) refl e (comment_closes cs c (at + 1) end)
  where
    go : (b : Bool) → (nat_eq before 42 && nat_eq c 47) ≡ b → (if b then Some (at + 1) else comment_end (at + 1) (nat_eq c 42) cs) ≡ Some end
        → (comment_end (at + 1) (nat_eq c 42) cs ≡ Some end → ClosesFirst c (at + 1) cs end) → ClosesFirst before at (c ∷ cs) end
    go true s e rest = record {
      star = 0;
      within = omega arith;
      closes = (eqb-true before 42 (and_parts _ _ s).0, eqb-true c 47 (and_parts _ _ s).1);
      place = let f : at + 1 ≡ end = cc in omega arith;
      first = λ k low. absurd (omega arith);
    }
    go false s e rest =
        let r = rest e in
        record {
          star = suc r.star;
          within = let w = r.within in omega arith;
          closes = r.closes;
          place = let p = r.place in omega arith;
          first = earlier r.star r.first;
        }
      where
        earlier : (star : ℕ) → ((k : ℕ) → k < star → IsClose (c ∷ cs) k → ⊥) → (k : ℕ) → k < suc star → IsClose (before ∷ c ∷ cs) k → ⊥
        earlier star first zero low close = not_here before c cs s close
        earlier star first (suc k) low close = first k (omega arith) close

still_never : (before c : ℕ) (cs : List ℕ) → (nat_eq before 42 && nat_eq c 47) ≡ false → NeverCloses c cs → NeverCloses before (c ∷ cs)
still_never before c cs s never zero within close = not_here before c cs s close
still_never before c cs s never (suc k) within close = never k (omega arith) close

pub comment_never_closes : (bytes : List ℕ) (before at : ℕ) → comment_end at (nat_eq before 42) bytes ≡ None → NeverCloses before bytes
comment_never_closes [] before at e = λ k within close. absurd (omega arith)
comment_never_closes (c ∷ cs) before at e = go (nat_eq before 42 && nat_eq c 47) refl e (comment_never_closes cs c (at + 1))
  where
    go : (b : Bool) → (nat_eq before 42 && nat_eq c 47) ≡ b → (if b then Some (at + 1) else comment_end (at + 1) (nat_eq c 42) cs) ≡ None
        → (comment_end (at + 1) (nat_eq c 42) cs ≡ None → NeverCloses c cs) → NeverCloses before (c ∷ cs)
    go true s e rest = cc
    go false s e rest = still_never before c cs s (rest e)
