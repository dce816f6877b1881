-- A run from a state that has the known symbols' values is the run with those symbols held, from any state that agrees on the others.
use Rattle.std.proofs.Common.{◌≡◌, ℕ, ◌+◌, ◌≤◌, ⊎_elim, List, Option, Some, None, true, refl, sym, ap, ◌∙◌, subst, ◌<◌, length, arith}
use Rattle.std.specs.Prelude.{slice_get, nat_eq, if◌then◌else◌}
use Rattle.std.proofs.lemmas.Bool.Decides.{eqb_tells}
use Rattle.osl_value.specs.AnyValue.{AnyValue}
use Rattle.osl_value.specs.Apply.{apply}
use Rattle.oso_code.specs.Nesting.{AreNested, IsClosed}
use Rattle.oso_code.specs.Run.{State, read, put, write, note, Source, Own, Wired, Held, Sources, Gives, read_from}
use Rattle.oso_code.specs.Steps.{Step, Compute, Branch, Loop, Call, Leave}
use Rattle.osl_rewrites.specs.Known.{Known, held_as, hold, Sound, Knowing}
use Rattle.osl_rewrites.specs.Quiet.{quiet, quiet_range}
use Rattle.osl_rewrites.specs.Side.{Match, MatchReading, always, MayRun, Twin, Same, Swapped}
use Rattle.osl_rewrites.proofs.Uniform.{args_match, uniform}

pub put_other : {X : Type 0} (k w : ℕ) (v : X) (f : ℕ → X) → (k ≡ w → ⊥) → put w v f k ≡ f k
unfolding put
put_other k w v f h = ⊎_elim (λ y. absurd (h y.1)) (λ n. ap (λ b. if b then v else f k) n.0) (eqb_tells k w)

pub put_same : {X : Type 0} (k w : ℕ) (v : X) (f g : ℕ → X) → f k ≡ g k → put w v f k ≡ put w v g k
unfolding put
put_same k w v f g is = ap (λ x. if nat_eq k w then v else x) is

module _ (known : Known) where
  noted : (k : ℕ) (s t : State) → Knowing known s t → Knowing known (note k s) (note k t)
  noted k s t r = record { alike = record { values = r.alike.values; turns = r.alike.turns; reads = ap (put k true) r.alike.reads }; knows = record { each = r.knows.each } }

  read_held : (source : Source) (o : Option AnyValue) (k : ℕ) (s t : State) → Knowing known s t → known k ≡ o → ((v : AnyValue) → o ≡ Some v → source ≡ Own) → MatchReading (always (Knowing known)) (Knowing known) (read_from source k s) (read_from (held_as o source) k t)
  read_held Own None k s t r is own = (t, ap (λ x. Gives x t) (sym (r.alike.values k is)), r)
  read_held (Wired None) None k s t r is own = (note k t, refl, noted k s t r)
  read_held (Wired (Some v)) None k s t r is own = (note k t, refl, noted k s t r)
  read_held (Held v) None k s t r is own = (t, refl, r)
  read_held source (Some v) k s t r is own =
      subst (λ x. MatchReading (always (Knowing known)) (Knowing known) (read_from x k s) (Gives v t)) (sym (own v refl)) (t, ap (λ x. Gives x t) (sym (r.knows.each k v is)), r)

  wrote : (w : ℕ) (v : AnyValue) (s t : State) → known w ≡ None → Knowing known s t → Knowing known (write w v s) (write w v t)
  wrote w v s t free r = record {
    alike = record { values = λ k q. put_same k w v s.values t.values (r.alike.values k q); turns = r.alike.turns; reads = r.alike.reads };
    knows = record { each = λ k u q. put_other k w v s.values (λ z. let y : known w ≡ Some u = subst (λ n. known n ≡ Some u) z q in cc (free, y)) ∙ r.knows.each k u q };
  }

  -- known symbols may as well be held, whatever the state says of them
  pub held : (from : Sources) (steps : List Step) (May : ℕ → Type 0) → AreNested steps → Sound known from steps May → (f i e : ℕ) (s t : State) → MayRun steps May i e → e ≤ f + i → Knowing known s t
      → Match (always (Knowing known)) (quiet from steps f i e s) (quiet (hold known from) steps f i e t)
  held from steps May nested sound f i e s t m lf r =
      uniform from (hold known from) steps steps nested May (Knowing known) both
      (λ a b q. q.alike.turns) (λ n a b q. record { alike = record { values = q.alike.values; turns = refl; reads = q.alike.reads }; knows = record { each = q.knows.each } })
      (λ w v. known w ≡ None) (λ w v a b free q. wrote w v a b free q) twins f i e s t m lf r
    where
      both : (k : ℕ) (a b : State) → Knowing known a b → MatchReading (always (Knowing known)) (Knowing known) (read from k a) (read (hold known from) k b)
      both k a b q = read_held (from k) (known k) k a b q refl (λ v p. sound.own k v p)

      twins : (j : ℕ) (step : Step) → May j → slice_get steps j ≡ Some step → Twin from (hold known from) steps (Knowing known) (λ w v. known w ≡ None) j step
      twins j (Compute name ty target sources) may at =
          Swapped name ty target sources name sources at
          (λ go go' h a b q. args_match from (hold known from) (Knowing known) both sources a b (λ vs s1. go (apply name ty vs) s1) (λ vs s1. go' (apply name ty vs) s1) q (λ vs c d x. h (apply name ty vs) c d (sound.kept j (Compute name ty target sources) may at) x))
      twins j (Branch c holds fails) may at = Same (Branch c holds fails) tt at
      twins j (Loop tested c test body step) may at = Same (Loop tested c test body step) tt at
      twins j (Call body) may at = Same (Call body) tt at
      twins j (Leave way) may at = Same (Leave way) tt at

-- a range by itself
pub range_held : (known : Known) (from : Sources) (steps : List Step) (i e : ℕ) (s t : State) → AreNested steps → IsClosed steps i e → e ≤ length steps → Sound known from steps (λ k. (i ≤ k) × (k < e)) → Knowing known s t
    → Match (always (Knowing known)) (quiet_range from steps i e s) (quiet_range (hold known from) steps i e t)
range_held known from steps i e s t nested closed within sound r =
    held known from steps (λ k. (i ≤ k) × (k < e)) nested sound (length steps) i e s t (record { closed = closed; within = within; each = λ k a b. (a, b) }) (omega (arith, within)) r
