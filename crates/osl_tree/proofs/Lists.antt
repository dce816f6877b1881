-- Lists with commas between their items: what is read is spelled, and what is spelled is read.
use Rattle.std.proofs.Common.{◌≡◌, ℕ, zero, suc, ◌≤◌, ◌<◌, max, Bool, true, false, not, ◌&&◌, if◌then◌else◌, List, [], ◌∷◌, ◌++◌, length, Some, refl, sym, ap, ◌∙◌, arith, append_assoc, length-append, subst}
use Rattle.osl_tree.specs.declared.token.Punct.TheVariants as p
use Rattle.osl_tree.specs.declared.terminal.Terminal.{Terminal}
use Rattle.osl_tree.specs.declared.terminal.Terminal.TheVariants as m
use Rattle.osl_tree.specs.Lexeme.{Lexeme}
use Rattle.osl_tree.specs.Terminals.{sign}
use Rattle.osl_tree.specs.Statements.{AreListed, last, more}
use Rattle.osl_tree.specs.Files.{AreTrailed, bare, with_comma}
use Rattle.osl_tree.specs.Parser.{Read, Parser, same_terminal, rest, sees, listed_from, listed, trailed_from, trailed}
use Rattle.osl_tree.proofs.Steps.{steps, ended, seen, sees_terminal, ate, did, didn't, bound, eats, skips}

-- the tree x and its height are spelled by the tokens in front of after
pub record Spelt {A : Type 0} (Is : A → List Lexeme → ℕ → Type 0) (top : ℕ) (ts : List Lexeme) (x : A × ℕ) (after : List Lexeme) : Type 0 where
  pub front : List Lexeme
  pub split : ts ≡ front ++ after
  pub is : Is x.0 front x.1
  pub low : x.1 ≤ top

pub respelt : {A : Type 0} {Is : A → List Lexeme → ℕ → Type 0} {top : ℕ} {ts us : List Lexeme} {x : A × ℕ} {after : List Lexeme} → us ≡ ts → Spelt Is top ts x after → Spelt Is top us x after
respelt e r = record { front = r.front; split = e ∙ r.split; is = r.is; low = r.low }

-- What a parser reads is spelled, and it is no higher than top.
abbrev pub SoundFor : {A : Type 0} → (A → List Lexeme → ℕ → Type 0) → ℕ → Parser (A × ℕ) → Type 0
SoundFor {A} Is top one = (ts after : List Lexeme) (x : A × ℕ) → one ts ≡ Some (x, after) → Spelt Is top ts x after

-- What is spelled, and no higher than top, is read where such tokens follow.
abbrev pub CompleteFor : {A : Type 0} → (A → List Lexeme → ℕ → Type 0) → ℕ → (List Lexeme → Type 0) → Parser (A × ℕ) → Type 0
CompleteFor {A} Is top Follows one = (h : ℕ) (x : A) (a after : List Lexeme) → Is x a h → h ≤ top → Follows after → one (a ++ after) ≡ Some ((x, h), after)

-- more items, after those that were read
record More {A : Type 0} (Is : A → List Lexeme → ℕ → Type 0) (top : ℕ) (xs : List A) (h : ℕ) (ts : List Lexeme) (ys : List A × ℕ) (after : List Lexeme) : Type 0 where
  next : List A
  high : ℕ
  front : List Lexeme
  split : ts ≡ front ++ after
  is : AreListed Is next front high
  all : ys.0 ≡ xs ++ next
  peak : ys.1 ≡ max h high
  low : high ≤ top

module _ {A : Type 0} (Is : A → List Lexeme → ℕ → Type 0) (top : ℕ) (one : Parser (A × ℕ)) (sound : SoundFor Is top one) (high : (x : A) (a : List Lexeme) (h : ℕ) → Is x a h → 0 < h) where
  listed_high : {xs : List A} {a : List Lexeme} {h : ℕ} → AreListed Is xs a h → 0 < h
  listed_high (last {h} {x} {a} d) = high x a h d
  listed_high (more {h} {i} {x} {xs} {a} {b} d d') = let k = high x a h d in omega arith

  one_item : (xs : List A) (h : ℕ) (ts between after : List Lexeme) (x : A × ℕ) (ys : List A × ℕ) → Spelt Is top ts x between
      → ◌≡◌ {A = Read (List A × ℕ)} (Some ((xs ++ x.0 ∷ [], max h x.1), between)) (Some (ys, after)) → More Is top xs h ts ys after
  one_item xs h ts between after x ys d e = ended (λ zs vs. More Is top xs h ts zs vs) e (record {
    next = x.0 ∷ [];
    high = x.1;
    front = d.front;
    split = d.split;
    is = last d.is;
    all = refl;
    peak = refl;
    low = d.low;
  })

  and_further : (xs : List A) (h : ℕ) (ts between us after : List Lexeme) (x : A × ℕ) (ys : List A × ℕ) → Spelt Is top ts x between
      → between ≡ sign p.Comma ∷ us → More Is top (xs ++ x.0 ∷ []) (max h x.1) us ys after → More Is top xs h ts ys after
  and_further xs h ts between us after x ys d e r =
      let peak = r.peak in
      let low = d.low in
      let low' = r.low in
      record {
        next = x.0 ∷ r.next;
        high = max x.1 r.high;
        front = d.front ++ sign p.Comma ∷ r.front;
        split = d.split ∙ ap (λ vs. d.front ++ vs) (e ∙ ap (λ vs. sign p.Comma ∷ vs) r.split) ∙ sym (append_assoc d.front (sign p.Comma ∷ r.front) after);
        is = more d.is r.is;
        all = r.all ∙ append_assoc xs (x.0 ∷ []) r.next;
        peak = omega arith;
        low = omega arith;
      }

  listed_from_sound : (n : ℕ) (xs : List A) (h : ℕ) (ts after : List Lexeme) (ys : List A × ℕ) → listed_from one n xs h ts ≡ Some (ys, after) → More Is top xs h ts ys after
  unfolding listed_from
  listed_from_sound zero xs h ts after ys eq = cc
  listed_from_sound (suc n) xs h ts after ys eq =
      let s = steps (one ts) _ ys after eq in
      let d = sound ts s.between s.value s.was in
      elim (ate (m.Punct p.Comma) s.between _ _ ys after s.goes) [
        | did us se eq ↦ and_further xs h ts s.between us after s.value ys d se (listed_from_sound n _ _ us after ys eq)
        | didn't f eq ↦ one_item xs h ts s.between after s.value ys d eq
      ]

  all_of : (ts after : List Lexeme) (ys : List A × ℕ) → More Is top [] 1 ts ys after → Spelt (AreListed Is) top ts ys after
  all_of ts after ys r =
      let k = listed_high r.is in
      let peak : ys.1 ≡ r.high = let q = r.peak in omega arith in
      record {
        front = r.front;
        split = r.split;
        is = subst (λ zs. AreListed Is zs r.front ys.1) (sym r.all) (subst (λ h. AreListed Is r.next r.front h) (sym peak) r.is);
        low = let low = r.low in omega arith;
      }

  pub listed_sound : SoundFor (AreListed Is) top (listed one)
  unfolding listed
  listed_sound ts after ys eq = all_of ts after ys (listed_from_sound (length ts) [] 1 ts after ys eq)

  -- ---- with a comma after the last

  record Further (xs : List A) (h : ℕ) (ts : List Lexeme) (ys : List A × ℕ) (after : List Lexeme) : Type 0 where
    next : List A
    height : ℕ
    front : List Lexeme
    split : ts ≡ front ++ after
    is : AreTrailed Is next front height
    all : ys.0 ≡ xs ++ next
    peak : ys.1 ≡ max h height
    low : height ≤ top

  trailed_high : {xs : List A} {a : List Lexeme} {h : ℕ} → AreTrailed Is xs a h → 0 < h
  trailed_high (bare d) = listed_high d
  trailed_high (with_comma d) = listed_high d

  one_more_listed : {x : A} {xs : List A} {a b : List Lexeme} {h i : ℕ} → Is x a h → AreTrailed Is xs b i → AreTrailed Is (x ∷ xs) (a ++ sign p.Comma ∷ b) (max h i)
  one_more_listed d (bare d') = bare (more d d')
  one_more_listed {x} {xs} {a} {h} {i} d (with_comma {a = b} d') =
      subst (λ us. AreTrailed Is (x ∷ xs) us (max h i)) (append_assoc a (sign p.Comma ∷ b) (sign p.Comma ∷ [])) (with_comma (more d d'))

  last_trailed : (xs : List A) (h : ℕ) (ts between after : List Lexeme) (x : A × ℕ) (ys : List A × ℕ) → Spelt Is top ts x between
      → ◌≡◌ {A = Read (List A × ℕ)} (Some ((xs ++ x.0 ∷ [], max h x.1), between)) (Some (ys, after)) → Further xs h ts ys after
  last_trailed xs h ts between after x ys d e =
      ended (λ zs vs. Further xs h ts zs vs) e (record { next = x.0 ∷ []; height = x.1; front = d.front; split = d.split; is = bare (last d.is); all = refl; peak = refl; low = d.low })

  last_with_comma : (xs : List A) (h : ℕ) (ts between us after : List Lexeme) (x : A × ℕ) (ys : List A × ℕ) → Spelt Is top ts x between → between ≡ sign p.Comma ∷ us
      → ◌≡◌ {A = Read (List A × ℕ)} (Some ((xs ++ x.0 ∷ [], max h x.1), us)) (Some (ys, after)) → Further xs h ts ys after
  last_with_comma xs h ts between us after x ys d s e = ended (λ zs vs. Further xs h ts zs vs) e (record {
    next = x.0 ∷ [];
    height = x.1;
    front = d.front ++ sign p.Comma ∷ [];
    split = d.split ∙ ap (λ vs. d.front ++ vs) s ∙ sym (append_assoc d.front (sign p.Comma ∷ []) us);
    is = with_comma (last d.is);
    all = refl;
    peak = refl;
    low = d.low;
  })

  trailed_further : (xs : List A) (h : ℕ) (ts between us after : List Lexeme) (x : A × ℕ) (ys : List A × ℕ) → Spelt Is top ts x between
      → between ≡ sign p.Comma ∷ us → Further (xs ++ x.0 ∷ []) (max h x.1) us ys after → Further xs h ts ys after
  trailed_further xs h ts between us after x ys d e r =
      let peak = r.peak in
      let low = d.low in
      let low' = r.low in
      record {
        next = x.0 ∷ r.next;
        height = max x.1 r.height;
        front = d.front ++ sign p.Comma ∷ r.front;
        split = d.split ∙ ap (λ vs. d.front ++ vs) (e ∙ ap (λ vs. sign p.Comma ∷ vs) r.split) ∙ sym (append_assoc d.front (sign p.Comma ∷ r.front) after);
        is = one_more_listed d.is r.is;
        all = r.all ∙ append_assoc xs (x.0 ∷ []) r.next;
        peak = omega arith;
        low = omega arith;
      }

  behind_comma : (close : Terminal) (go : List A → ℕ → Parser (List A × ℕ)) (xs : List A) (h : ℕ) (ts between us after : List Lexeme) (x : A × ℕ) (ys : List A × ℕ)
      → ((zs : List A) (i : ℕ) (vs : List Lexeme) → go zs i vs ≡ Some (ys, after) → Further zs i vs ys after)
      → Spelt Is top ts x between → between ≡ sign p.Comma ∷ us → (b : Bool)
      → (if not b then go (xs ++ x.0 ∷ []) (max h x.1) else (λ vs. Some ((xs ++ x.0 ∷ [], max h x.1), vs))) us ≡ Some (ys, after) → Further xs h ts ys after
  behind_comma close go xs h ts between us after x ys again d s true e = last_with_comma xs h ts between us after x ys d s e
  behind_comma close go xs h ts between us after x ys again d s false e = trailed_further xs h ts between us after x ys d s (again _ _ us e)

  behind_item : (close : Terminal) (go : List A → ℕ → Parser (List A × ℕ)) (xs : List A) (h : ℕ) (ts between after : List Lexeme) (x : A × ℕ) (ys : List A × ℕ)
      → ((zs : List A) (i : ℕ) (vs : List Lexeme) → go zs i vs ≡ Some (ys, after) → Further zs i vs ys after)
      → Spelt Is top ts x between → (b : Bool) → sees (m.Punct p.Comma) between ≡ b
      → (if b && not (sees close (if b then rest between else between)) then go (xs ++ x.0 ∷ []) (max h x.1) else (λ us. Some ((xs ++ x.0 ∷ [], max h x.1), us)))
      (if b then rest between else between) ≡ Some (ys, after) → Further xs h ts ys after
  behind_item close go xs h ts between after x ys again d true s e = behind_comma close go xs h ts between (rest between) after x ys again d (seen (m.Punct p.Comma) between s) (sees close (rest between)) e
  behind_item close go xs h ts between after x ys again d false s e = last_trailed xs h ts between after x ys d e

  trailed_from_sound : (close : Terminal) (n : ℕ) (xs : List A) (h : ℕ) (ts after : List Lexeme) (ys : List A × ℕ) → trailed_from close one n xs h ts ≡ Some (ys, after) → Further xs h ts ys after
  unfolding trailed_from
  trailed_from_sound close zero xs h ts after ys eq = cc
  trailed_from_sound close (suc n) xs h ts after ys eq =
      let s = steps (one ts) _ ys after eq in
      let d = sound ts s.between s.value s.was in
      behind_item close (trailed_from close one n) xs h ts s.between after s.value ys (λ zs i vs e. trailed_from_sound close n zs i vs after ys e) d (sees (m.Punct p.Comma) s.between) refl s.goes

  pub trailed_sound : (close : Terminal) → SoundFor (AreTrailed Is) top (trailed close one)
  unfolding trailed
  trailed_sound close ts after ys eq =
      let r = trailed_from_sound close (length ts) [] 1 ts after ys eq in
      let k = trailed_high r.is in
      let peak : ys.1 ≡ r.height = let q = r.peak in omega arith in
      record {
        front = r.front;
        split = r.split;
        is = subst (λ zs. AreTrailed Is zs r.front ys.1) (sym r.all) (subst (λ h. AreTrailed Is r.next r.front h) (sym peak) r.is);
        low = let low = r.low in omega arith;
      }

-- ---- what is spelled is read

module _ {A : Type 0} (Is : A → List Lexeme → ℕ → Type 0) (top : ℕ) (one : Parser (A × ℕ)) (Follows : List Lexeme → Type 0) (complete : CompleteFor Is top Follows one)
    (high : (x : A) (a : List Lexeme) (h : ℕ) → Is x a h → 0 < h) (some : (x : A) (a : List Lexeme) (h : ℕ) → Is x a h → 0 < length a) (comma : (ts : List Lexeme) → Follows (sign p.Comma ∷ ts)) where
  listed_length : {xs : List A} {a : List Lexeme} {h : ℕ} → AreListed Is xs a h → length xs ≤ length a
  listed_length (last {h} {x} {a} d) = omega (arith, some x a h d)
  listed_length (more {a} {b} d d') = omega (arith, listed_length d', length-append a (sign p.Comma ∷ b))

  listed_is_high : {xs : List A} {a : List Lexeme} {h : ℕ} → AreListed Is xs a h → 0 < h
  listed_is_high (last {h} {x} {a} d) = high x a h d
  listed_is_high (more {h} {i} {x} {xs} {a} {b} d d') = let k = high x a h d in omega arith

  listed_from_complete : (n : ℕ) {next : List A} {a : List Lexeme} {h : ℕ} (xs : List A) (i : ℕ) (after : List Lexeme) → AreListed Is next a h → h ≤ top → length next ≤ n
      → Follows after → sees (m.Punct p.Comma) after ≡ false
      → listed_from one n xs i (a ++ after) ≡ Some ((xs ++ next, max i h), after)
  unfolding listed_from
  listed_from_complete zero xs i after (last d) low short f s = absurd (omega arith)
  listed_from_complete zero xs i after (more d d') low short f s = absurd (omega arith)
  listed_from_complete (suc n) xs i after (last {h} {x} {a} d) low short f s = bound _ (complete h x a after d low f) (skips (m.Punct p.Comma) after _ _ s refl)
  listed_from_complete (suc n) xs i after (more {h} {i = j} {x} {xs = next} {a} {b} d d') low short f s =
      ap (λ ts. listed_from one (suc n) xs i ts) (append_assoc a (sign p.Comma ∷ b) after)
      ∙ bound _ (complete h x a (sign p.Comma ∷ b ++ after) d (omega arith) (comma (b ++ after)))
      (eats (m.Punct p.Comma) (b ++ after) _ _
      (listed_from_complete n (xs ++ x ∷ []) (max i h) after d' (omega arith) (omega arith) f s
      ∙ ap (λ ys. Some ((ys, max (max i h) j), after)) (append_assoc xs (x ∷ []) next)
      ∙ ap (λ k. Some ((xs ++ x ∷ next, k), after)) (let e : max (max i h) j ≡ max i (max h j) = omega arith in e)))

  -- where no comma follows
  pub listed_complete : CompleteFor (AreListed Is) top (λ ts. Follows ts × (sees (m.Punct p.Comma) ts ≡ false)) (listed one)
  unfolding listed
  listed_complete h xs a after d low f =
      let long : length xs ≤ length (a ++ after) = omega (arith, listed_length d, length-append a after) in
      let peak : max 1 h ≡ h = let k = listed_is_high d in omega arith in
      listed_from_complete (length (a ++ after)) [] 1 after d low long f.0 f.1 ∙ ap (λ k. Some ((xs, k), after)) peak

  -- ---- with a comma after the last

  module _ (close : Terminal) (closes : (ts : List Lexeme) → sees close ts ≡ true → Follows ts) (other : same_terminal close (m.Punct p.Comma) ≡ false)
      (not_close : (x : A) (a : List Lexeme) (h : ℕ) (c : List Lexeme) → Is x a h → sees close (a ++ c) ≡ false) where
    no_comma : (ts : List Lexeme) → sees close ts ≡ true → sees (m.Punct p.Comma) ts ≡ false
    unfolding sees
    no_comma ts e = rw (seen close ts e) other

    listed_open : {xs : List A} {a : List Lexeme} {h : ℕ} (c : List Lexeme) → AreListed Is xs a h → sees close (a ++ c) ≡ false
    listed_open c (last {h} {x} {a} d) = not_close x a h c d
    listed_open c (more {h} {x} {a} {b} d d') = ap (sees close) (append_assoc a (sign p.Comma ∷ b) c) ∙ not_close x a h (sign p.Comma ∷ b ++ c) d

    behind : (us : List Lexeme) (this other : Parser (List A × ℕ)) (b : Bool) {y : Read (List A × ℕ)} → sees close us ≡ b → (if not b then this else other) us ≡ y
        → (if sees (m.Punct p.Comma) (sign p.Comma ∷ us) && not (sees close (if sees (m.Punct p.Comma) (sign p.Comma ∷ us) then us else sign p.Comma ∷ us)) then this else other)
        (if sees (m.Punct p.Comma) (sign p.Comma ∷ us) then us else sign p.Comma ∷ us) ≡ y
    behind us this other b s e = rw (sees_terminal (m.Punct p.Comma) us) (rw s e)

    trailed_from_complete : (n : ℕ) {next : List A} {a : List Lexeme} {h : ℕ} (xs : List A) (i : ℕ) (after : List Lexeme) → AreListed Is next a h → h ≤ top → length next ≤ n
        → sees close after ≡ true
        → trailed_from close one n xs i (a ++ after) ≡ Some ((xs ++ next, max i h), after)
    unfolding trailed_from
    trailed_from_complete zero xs i after (last d) low short f = absurd (omega arith)
    trailed_from_complete zero xs i after (more d d') low short f = absurd (omega arith)
    trailed_from_complete (suc n) xs i after (last {h} {x} {a} d) low short f = bound _ (complete h x a after d low (closes after f)) (rw (no_comma after f) refl)
    trailed_from_complete (suc n) xs i after (more {h} {i = j} {x} {xs = next} {a} {b} d d') low short f =
        ap (λ ts. trailed_from close one (suc n) xs i ts) (append_assoc a (sign p.Comma ∷ b) after)
        ∙ bound _ (complete h x a (sign p.Comma ∷ b ++ after) d (omega arith) (comma (b ++ after)))
        (behind (b ++ after) _ _ false (listed_open after d')
        (trailed_from_complete n (xs ++ x ∷ []) (max i h) after d' (omega arith) (omega arith) f
        ∙ ap (λ ys. Some ((ys, max (max i h) j), after)) (append_assoc xs (x ∷ []) next)
        ∙ ap (λ k. Some ((xs ++ x ∷ next, k), after)) (let e : max (max i h) j ≡ max i (max h j) = omega arith in e)))

    with_comma_complete : (n : ℕ) {next : List A} {a : List Lexeme} {h : ℕ} (xs : List A) (i : ℕ) (after : List Lexeme) → AreListed Is next a h → h ≤ top → length next ≤ n
        → sees close after ≡ true
        → trailed_from close one n xs i (a ++ sign p.Comma ∷ after) ≡ Some ((xs ++ next, max i h), after)
    unfolding trailed_from
    with_comma_complete zero xs i after (last d) low short f = absurd (omega arith)
    with_comma_complete zero xs i after (more d d') low short f = absurd (omega arith)
    with_comma_complete (suc n) xs i after (last {h} {x} {a} d) low short f = bound _ (complete h x a (sign p.Comma ∷ after) d low (comma after)) (behind after _ _ true f refl)
    with_comma_complete (suc n) xs i after (more {h} {i = j} {x} {xs = next} {a} {b} d d') low short f =
        let us = b ++ sign p.Comma ∷ after in
        ap (λ ts. trailed_from close one (suc n) xs i ts) (append_assoc a (sign p.Comma ∷ b) (sign p.Comma ∷ after))
        ∙ bound _ (complete h x a (sign p.Comma ∷ us) d (omega arith) (comma us))
        (behind us _ _ false (listed_open (sign p.Comma ∷ after) d')
        (with_comma_complete n (xs ++ x ∷ []) (max i h) after d' (omega arith) (omega arith) f
        ∙ ap (λ ys. Some ((ys, max (max i h) j), after)) (append_assoc xs (x ∷ []) next)
        ∙ ap (λ k. Some ((xs ++ x ∷ next, k), after)) (let e : max (max i h) j ≡ max i (max h j) = omega arith in e)))

    pub trailed_complete : CompleteFor (AreTrailed Is) top (λ ts. sees close ts ≡ true) (trailed close one)
    unfolding trailed
    trailed_complete h xs a after (bare d) low f =
        let long : length xs ≤ length (a ++ after) = omega (arith, listed_length d, length-append a after) in
        let peak : max 1 h ≡ h = let k = listed_is_high d in omega arith in
        trailed_from_complete (length (a ++ after)) [] 1 after d low long f ∙ ap (λ k. Some ((xs, k), after)) peak
    trailed_complete h xs _ after (with_comma {a} d) low f =
        let us = a ++ sign p.Comma ∷ after in
        let long : length xs ≤ length us = omega (arith, listed_length d, length-append a (sign p.Comma ∷ after)) in
        let peak : max 1 h ≡ h = let k = listed_is_high d in omega arith in
        ap (trailed close one) (append_assoc a (sign p.Comma ∷ []) after)
        ∙ with_comma_complete (length us) [] 1 after d low long f ∙ ap (λ k. Some ((xs, k), after)) peak
