-- A layer's sections, one after another.
use Rattle.std.proofs.Common.{◌≡◌, ℕ, suc, ◌+◌, ◌<◌, ◌≤◌, inl, inr, List, [], ◌∷◌, length, map, filter, Option, Some, None, Bool, true, false, refl, sym, ap, ◌∙◌, subst, arith}
use Rattle.std.specs.Prelude.{slice_get, if◌then◌else◌}
use Rattle.osl_layer.specs.Layer.{Inputs}
use Rattle.oso_code.specs.CodeRun.{is_run, is_default}
use Rattle.oso_code.specs.Nesting.{IsClosed, AreNested}
use Rattle.oso_code.specs.Run.{State, Sources, then_do}
use Rattle.oso_code.specs.Steps.{Way, Break, Continue, Return, Exit, Step}
use Rattle.oso_code.specs.declared.op.Section.{Section}
use Rattle.osl_rewrites.specs.Cut.{moved_section}
use Rattle.osl_rewrites.specs.Drop.{layer_ends, Agree, ends_around, Spared}
use Rattle.osl_rewrites.specs.Flow.{left_to, first, within_section, Surrounds, gate_nexts, Among, Settled}
use Rattle.osl_rewrites.specs.declared.point.Around.{Around}
use Rattle.osl_rewrites.specs.declared.point.Spot.{Spot}
use Rattle.osl_rewrites.specs.declared.point.Spot.TheVariants.{Gate, Done}
use Rattle.osl_rewrites.specs.Quiet.{quiet, quiet_range, quiet_sections}
use Rattle.osl_rewrites.specs.Side.{Match, going_on, Into}
use Rattle.osl_rewrites.proofs.Drops.{narrow, dead_run}
use Rattle.osl_rewrites.proofs.Match.{into, then_match}

-- ---- equal sections, where ops moved

module _ (from : Sources) (old new : List Step) (to : ℕ → ℕ) (inputs : Inputs) where
  abbrev SameSection : Section → Type 0
  SameSection section = (s : State) → quiet_range from old section.start section.end s ≡ quiet_range from new (to section.start) (to section.end) s

  same_by : (b : Bool) (section : Section) (sections sections' : List Section) → SameSection section → ((s : State) → quiet_sections from old sections s ≡ quiet_sections from new sections' s)
      → (s : State) → quiet_sections from old (if b then section ∷ sections else sections) s ≡ quiet_sections from new (if b then moved_section to section ∷ sections' else sections') s
  same_by true section sections sections' h rest s =
      (λ j. then_do (h s j) (quiet_sections from old sections)) ∙ (λ j. then_do (quiet_range from new (to section.start) (to section.end) s) (λ t. rest t j))
  same_by false section sections sections' h rest s = rest s

  pub sections_same : (sections : List Section) → ((j : ℕ) (section : Section) → slice_get sections j ≡ Some section → SameSection section)
      → (s : State) → quiet_sections from old (filter (is_run inputs) sections) s ≡ quiet_sections from new (filter (is_run inputs) (map (moved_section to) sections)) s
  sections_same [] h s = refl
  sections_same (section ∷ sections) h s =
      same_by (is_run inputs section) section (filter (is_run inputs) sections) (filter (is_run inputs) (map (moved_section to) sections)) (h 0 section refl) (sections_same sections (λ j x is. h (suc j) x is)) s

-- ---- sections with dead ops

module _ (from : Sources) (old new : List Step) (sections : List Section) (nested : AreNested old) (around : ℕ → Around) (surrounds : Surrounds old sections around) (asked : ℕ → Bool) (row : Spot → ℕ → Bool) (settled : Settled old sections around asked row)
    (spared : (i : ℕ) → i < length old → Spared from around row old new i) (same_size : length old ≡ length new) (inputs : Inputs)
    (closed : (j : ℕ) (section : Section) → slice_get sections j ≡ Some section → IsClosed old section.start section.end × (section.end ≤ length old)) where
  gate_pass : (j : ℕ) (o : Option Section) (q : Spot) (s t : State) → slice_get sections j ≡ o → Among q (elim o [ None ↦ Done ∷ [] | Some section ↦ gate_nexts j section ]) → Agree (row (Gate j)) s t → Agree (row q) s t
  gate_pass j o q s t at h a =
      narrow (row q) (row (Gate j)) s t (λ k r. settled.pass (Gate j) q k (subst (λ x. Among q (elim x [ None ↦ Done ∷ [] | Some section ↦ gate_nexts j section ])) (sym at) h) (λ w. cc w) r) a

  into_gate : (j : ℕ) (section : Section) → Into (ends_around row (within_section j section)) (going_on (Agree (row (Gate (j + 1)))) (layer_ends row))
  into_gate j section = record { next = λ s t r. r; jumps = left; spent = λ s t r. r }
    where
      left : (way : Way) (s t : State) → Agree (row (left_to (within_section j section) way)) s t → Agree (row Done) s t
      left Break s t r = r
      left Continue s t r = r
      left Return s t r = r
      left Exit s t r = r

  -- the sections from the j-th on
  abbrev Tail : ℕ → List Section → Type 0
  Tail j rest = (k : ℕ) → slice_get sections (j + k) ≡ slice_get rest k

  abbrev FromGate : ℕ → List Section → Type 0
  FromGate j rest = (s t : State) → Agree (row (Gate j)) s t → Match (layer_ends row) (quiet_sections from old (filter (is_run inputs) rest) s) (quiet_sections from new (filter (is_run inputs) rest) t)

  run_section : (j : ℕ) (section : Section) (rest : List Section) → slice_get sections j ≡ Some section → FromGate (j + 1) rest → (s t : State) → Agree (row (Gate j)) s t
      → Match (layer_ends row) (quiet_sections from old (section ∷ filter (is_run inputs) rest) s) (quiet_sections from new (section ∷ filter (is_run inputs) rest) t)
  run_section j section rest at h s t a =
      let w = within_section j section in
      then_match (layer_ends row) (Agree (row (Gate (j + 1)))) (quiet_range from old section.start section.end s) (quiet_range from new section.start section.end t) (quiet_sections from old (filter (is_run inputs) rest)) (quiet_sections from new (filter (is_run inputs) rest))
      (into (ends_around row w) (going_on (Agree (row (Gate (j + 1)))) (layer_ends row)) (into_gate j section) (quiet_range from old section.start section.end s) (quiet_range from new section.start section.end t)
      (subst (λ n. Match (ends_around row w) (quiet_range from old section.start section.end s) (quiet from new n section.start section.end t)) same_size
      (dead_run from old new sections nested around surrounds asked row settled spared (length old) section.start section.end w s t
      (record { closed = (closed j section at).0; within = (closed j section at).1; ends = refl; holds = surrounds.start j section at }) (let c = (closed j section at).1 in omega (arith, c))
      (gate_pass j (Some section) (first section.start w) s t at (inl refl) a))))
      h

  pass_by : (b : Bool) (o : Option ℕ) (j : ℕ) (section : Section) (rest : List Section) → section.param ≡ o → (elim o [ None ↦ true | Some p ↦ is_default (inputs p) ]) ≡ b → slice_get sections j ≡ Some section → FromGate (j + 1) rest → (s t : State) → Agree (row (Gate j)) s t
      → Match (layer_ends row) (quiet_sections from old (if b then section ∷ filter (is_run inputs) rest else filter (is_run inputs) rest) s) (quiet_sections from new (if b then section ∷ filter (is_run inputs) rest else filter (is_run inputs) rest) t)
  pass_by true o j section rest is so at h s t a = run_section j section rest at h s t a
  pass_by false None j section rest is so at h s t a = absurd (cc so)
  pass_by false (Some p) j section rest is so at h s t a =
      h s t (gate_pass j (Some section) (Gate (j + 1)) s t at (inr (subst (λ o. Among (Gate (j + 1)) (elim o [ None ↦ [] | Some p ↦ Gate (j + 1) ∷ [] ])) (sym is) (inl refl))) a)

  pub gate_run : (rest : List Section) (j : ℕ) → Tail j rest → FromGate j rest
  gate_run [] j tail s t a = let z : j + 0 ≡ j = omega arith in (t, refl, gate_pass j None Done s t (ap (slice_get sections) (sym z) ∙ tail 0) (inl refl) a)
  gate_run (section ∷ rest) j tail s t a =
      let z : j + 0 ≡ j = omega arith in
      pass_by (is_run inputs section) (section.param) j section rest refl refl (ap (slice_get sections) (sym z) ∙ tail 0)
      (gate_run rest (j + 1) (λ k. let y : (j + 1) + k ≡ j + suc k = omega arith in ap (slice_get sections) y ∙ tail (suc k))) s t a

  -- all sections
  pub dead_sections : (s t : State) → Agree (row (Gate 0)) s t → Match (layer_ends row) (quiet_sections from old (filter (is_run inputs) sections) s) (quiet_sections from new (filter (is_run inputs) sections) t)
  dead_sections s t a = gate_run sections 0 (λ k. let z : 0 + k ≡ k = omega arith in ap (slice_get sections) z) s t a
