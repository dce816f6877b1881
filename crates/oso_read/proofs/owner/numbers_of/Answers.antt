use denote.Ref.{Bor}
use Rattle.std.proofs.Common.{◌≡◌, ℕ, suc, ◌+◌, ◌<◌, List, [], ◌∷◌, ◌++◌, length, get_or, drop, Option, Some, None, refl, sym, ap, ◌∙◌, append_assoc, drop-cons, add-one}
use Rattle.osl_valuetext.specs.Literals.{◌>>=◌, each}
use Rattle.oso_read.specs.Reading.{symbol_number}
use Rattle.osl_valuetext.specs.Scan.{spoken}
use Rattle.osl_valuetext.proofs.Each.{behind_front}
use Rattle.oso_read.proofs.owner.numbers_of.Goals as goal

module _ (f : List ℕ → Option ℕ) (names : List (Bor (List ℕ))) (i : ℕ) (d : Bor (List ℕ)) (lt : i < length names) where
  behind : Option (List ℕ)
  behind = each f (spoken (drop (i + 1) names))

  -- the name that is read, and those after it
  next : (o : Option ℕ) → f (get_or names i d).now ≡ o → each f (spoken (drop i names)) ≡ (o >>= λ n. each f (spoken (drop (i + 1) names)) >>= λ ns. Some (n ∷ ns))
  next o is =
      ap (λ rest. each f (spoken rest)) (drop-cons names i d lt)
      ∙ ap (λ (p : Option ℕ). p >>= λ n. each f (spoken (drop (suc i) names)) >>= λ ns. Some (n ∷ ns)) is
      ∙ ap (λ (k : ℕ). o >>= λ n. each f (spoken (drop k names)) >>= λ ns. Some (n ∷ ns)) (sym (add-one i))

  unknown : (front : List ℕ) → f (get_or names i d).now ≡ None → behind_front front (each f (spoken (drop i names))) ≡ each f (spoken names) → None ≡ each f (spoken names)
  unknown front is all = sym (ap (behind_front front) (next None is)) ∙ all

  one_more : (front : List ℕ) (n : ℕ) (o : Option (List ℕ)) → behind_front front (o >>= λ ns. Some (n ∷ ns)) ≡ behind_front (front ++ n ∷ []) o
  one_more front n None = refl
  one_more front n (Some ns) = ap Some (sym (append_assoc front (n ∷ []) ns))

  known : (front : List ℕ) (n : ℕ) → f (get_or names i d).now ≡ Some n → behind_front front (each f (spoken (drop i names))) ≡ each f (spoken names)
      → behind_front (front ++ n ∷ []) (each f (spoken (drop (i + 1) names))) ≡ each f (spoken names)
  known front n is all = sym (one_more front n (each f (spoken (drop (i + 1) names)))) ∙ sym (ap (behind_front front) (next (Some n) is)) ∙ all

pub returns-in_default : goal.returns-in_default
returns-in_default c =
    unknown (symbol_number c.args.table.now.symbols.items) c.args.names.now c.loop-name.name-index _ c.loop-name-test.true c.loop-name.numbers.items
    (sym c.number_of.ensures ∙ c.in_default.is) c.loop-name.invariant

pub loop-name-preserved : goal.loop-name-preserved
loop-name-preserved c =
    ap (λ (front : List ℕ). behind_front front (each (symbol_number c.args.table.now.symbols.items) (spoken (drop (c.loop-name.name-index + 1) c.args.names.now)))) c.in_ok-push.ensures.items
    ∙ known (symbol_number c.args.table.now.symbols.items) c.args.names.now c.loop-name.name-index _ c.loop-name-test.true c.loop-name.numbers.items c.in-Some.number
    (sym c.number_of.ensures ∙ c.in-Some.is) c.loop-name.invariant
