-- Two codes that are equal under what is known run alike, each from a start of its own.
use Rattle.std.proofs.Common.{◌≡◌, ℕ, suc, List, [], ◌∷◌, length, Option, Some, None, refl, sym, ap, ◌∙◌, subst, arith}
use Rattle.std.specs.Prelude.{slice_get}
use Rattle.osl_value.specs.AnyValue.{AnyValue}
use Rattle.oso_code.specs.Nesting.{AreNested}
use Rattle.oso_code.specs.Run.{State, Sources, Outcome, Next, Jumps, Spent, then_do}
use Rattle.oso_code.specs.Steps.{Step}
use Rattle.oso_code.specs.declared.op.Section.{Section}
use Rattle.osl_rewrites.specs.Known.{Known, hold, Sound, Knowing}
use Rattle.osl_rewrites.specs.Quiet.{quiet, quiet_range, quiet_sections}
use Rattle.osl_rewrites.specs.Side.{Match, always, MayRun, SameState, SameEnd}
use Rattle.osl_rewrites.specs.Laws.{AllClosed, InSections}
use Rattle.osl_rewrites.proofs.Held.{held}
use Rattle.osl_rewrites.proofs.Match.{then_match}

abbrev pub MayRunAll : List Step → (ℕ → Type 0) → List Section → Type 0
MayRunAll steps May sections = (j : ℕ) (section : Section) → slice_get sections j ≡ Some section → MayRun steps May section.start section.end

module _ (known : Known) (from : Sources) (May : ℕ → Type 0) where
  pub sections_held : (steps : List Step) → AreNested steps → Sound known from steps May → (sections : List Section) → MayRunAll steps May sections → (s t : State) → Knowing known s t
      → Match (always (Knowing known)) (quiet_sections from steps sections s) (quiet_sections (hold known from) steps sections t)
  sections_held steps nested sound [] may s t r = (t, refl, r)
  sections_held steps nested sound (section ∷ sections) may s t r =
      then_match (always (Knowing known)) (Knowing known) (quiet_range from steps section.start section.end s) (quiet_range (hold known from) steps section.start section.end t) (quiet_sections from steps sections) (quiet_sections (hold known from) steps sections)
      (held known from steps May nested sound (length steps) section.start section.end s t (may 0 section refl) (let w = (may 0 section refl).within in omega (arith, w)) r)
      (sections_held steps nested sound sections (λ j x is. may (suc j) x is))

  sections_equal : (old new : List Step) → length old ≡ length new → ((f i e : ℕ) (s : State) → quiet (hold known from) old f i e s ≡ quiet (hold known from) new f i e s) → (sections : List Section) (s : State)
      → quiet_sections (hold known from) old sections s ≡ quiet_sections (hold known from) new sections s
  sections_equal old new size same [] s = refl
  sections_equal old new size same (section ∷ sections) s =
      (λ j. then_do (same (length old) section.start section.end s j) (λ t. sections_equal old new size same sections t j))
      ∙ ap (λ n. then_do (quiet (hold known from) new n section.start section.end s) (quiet_sections (hold known from) new sections)) size

  both : (s t m n : State) → Knowing known s m → Knowing known t n → m ≡ n → SameState s t
  both s t m n a b e = record {
    values = λ k. by k (known k) refl;
    turns = a.alike.turns ∙ ap (λ x. x.turns) e ∙ sym b.alike.turns;
    reads = a.alike.reads ∙ ap (λ x. x.reads) e ∙ sym b.alike.reads;
  }
    where
      by : (k : ℕ) (o : Option AnyValue) → known k ≡ o → s.values k ≡ t.values k
      by k None is = a.alike.values k is ∙ ap (λ x. x.values k) e ∙ sym (b.alike.values k is)
      by k (Some v) is = a.knows.each k v is ∙ sym (b.knows.each k v is)

  meet : (o o' m : Outcome) → Match (always (Knowing known)) o m → Match (always (Knowing known)) o' m → SameEnd o o'
  meet (Next s) (Next t) m (a, is, r) (b, js, q) = (t, refl, both s t a b r q (let e : Next a ≡ Next b = sym is ∙ js in cc e))
  meet (Jumps way s) (Jumps way' t) m (a, is, r) (b, js, q) =
      let e : Jumps way a ≡ Jumps way' b = sym is ∙ js in let w : way ≡ way' = cc e in
      (t, ap (λ x. Jumps x t) (sym w), both s t a b r q (cc e))
  meet (Spent s) (Spent t) m (a, is, r) (b, js, q) = (t, refl, both s t a b r q (let e : Spent a ≡ Spent b = sym is ∙ js in cc e))
  meet (Next s) (Jumps way t) m (a, is, r) (b, js, q) = absurd (cc (is, js))
  meet (Next s) (Spent t) m (a, is, r) (b, js, q) = absurd (cc (is, js))
  meet (Jumps way s) (Next t) m (a, is, r) (b, js, q) = absurd (cc (is, js))
  meet (Jumps way s) (Spent t) m (a, is, r) (b, js, q) = absurd (cc (is, js))
  meet (Spent s) (Next t) m (a, is, r) (b, js, q) = absurd (cc (is, js))
  meet (Spent s) (Jumps way t) m (a, is, r) (b, js, q) = absurd (cc (is, js))

  -- equal under what is known, each from a start that knows, with a state between that is like both
  pub folded_run : (old new : List Step) → AreNested old → AreNested new → Sound known from old May → Sound known from new May → length old ≡ length new
      → ((f i e : ℕ) (s : State) → quiet (hold known from) old f i e s ≡ quiet (hold known from) new f i e s)
      → (sections : List Section) → MayRunAll old May sections → MayRunAll new May sections → (s t m : State) → Knowing known s m → Knowing known t m
      → SameEnd (quiet_sections from old sections s) (quiet_sections from new sections t)
  folded_run old new n1 n2 s1 s2 size same sections m1 m2 s t m a b =
      meet (quiet_sections from old sections s) (quiet_sections from new sections t) (quiet_sections (hold known from) new sections m)
      (subst (λ o. Match (always (Knowing known)) (quiet_sections from old sections s) o) (sections_equal old new size same sections m) (sections_held old n1 s1 sections m1 s m a))
      (sections_held new n2 s2 sections m2 t m b)

-- over the places of the sections
pub folded_sections : (known : Known) (from : Sources) (old new : List Step) (sections : List Section) (s t between : State) → AreNested old → AreNested new → length old ≡ length new → AllClosed old sections → AllClosed new sections
    → Sound known from old (InSections sections) → Sound known from new (InSections sections) → ((f i e : ℕ) (u : State) → quiet (hold known from) old f i e u ≡ quiet (hold known from) new f i e u)
    → Knowing known s between → Knowing known t between → SameEnd (quiet_sections from old sections s) (quiet_sections from new sections t)
folded_sections known from old new sections s t between n1 n2 size c1 c2 s1 s2 same a b =
    folded_run known from (InSections sections) old new n1 n2 s1 s2 size same sections
    (λ j section is. record { closed = (c1 j section is).0; within = (c1 j section is).1; each = λ k x y. (j, section, is, x, y) })
    (λ j section is. record { closed = (c2 j section is).0; within = (c2 j section is).1; each = λ k x y. (j, section, is, x, y) }) s t between a b
