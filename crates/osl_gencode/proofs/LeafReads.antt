-- An op that reads a leaf of a variable, which may be a connected parameter: both sides note the parameter, or end where it was given nothing.
use Rattle.std.proofs.Common.{◌≡◌, ℕ, ◌+◌, ◌≤◌, ◌≢◌, List, [], ◌∷◌, map, Option, Some, None, Bool, true, refl, sym, ap, ◌∙◌, subst, arith}
use Rattle.std.specs.Prelude.{slice_get, if◌then◌else◌, ◌==◌}
use Rattle.osl_value.specs.declared.op_name.OpName.{OpName}
use Rattle.osl_value.specs.declared.types.Ty.{Ty}
use Rattle.osl_value.specs.AnyValue.{AnyValue, type_of}
use Rattle.osl_value.specs.Apply.{apply}
use Rattle.osl_layer.specs.Layer.{Input, From, Fixed, Default}
use Rattle.oso_code.specs.declared.symbol.Symbol.{Symbol}
use Rattle.oso_code.specs.CodeRun.{source_of}
use Rattle.oso_code.specs.Run as R
use Rattle.oso_code.specs.Steps.{Step, Compute}
use Rattle.osl_typed.specs.State.{State, Gives, noted}
use Rattle.osl_typed.specs.Parts.{single, read_input}
use Rattle.osl_gencode.specs.PartCodes.{AllOwn}
use Rattle.osl_gencode.specs.Relation.{Kept, Related}
use Rattle.osl_gencode.specs.Bodies.{symbol_of, Body, IsVariable, Room, frame_end}
use Rattle.osl_gencode.specs.RunEnds.{GivesCode}
use Rattle.osl_gencode.proofs.Growing.{get_some}
use Rattle.osl_gencode.proofs.RelatedStates.{one_apart, related_temp, wrote_one, kept_older}
use Rattle.osl_gencode.proofs.RangeRuns.{one_ends, one_leads, put_other, args_own, compute_leads}

-- both sides note the same parameter
same_notes : (k : ℕ) (f : ℕ → Bool) → R.put k true f ≡ (λ j. if j == k then true else f j)
unfolding R.put
same_notes k f = refl

-- symbol w got what an operation gives of the leaf and of what the symbols hs hold; all else is as it was
pub record HasRead (syms : List Symbol) (w : ℕ) (name : OpName) (ty to : Ty) (hs : List ℕ) (old : R.State) (vs : List AnyValue) (new : R.State) : Type 0 where
  pub value : new.values w ≡ apply name to (single vs ∷ map old.values hs)
  pub others : (k : ℕ) → k ≢ w → new.values k ≡ old.values k
  pub typed : type_of (single vs) ≡ ty

module _ (b : Body) (from : R.Sources) (steps : List Step) (syms : List Symbol) (room : Room b syms) where
  related_noted : (k : ℕ) (src : State) (x : R.State) → Related b syms src x → Related b syms (noted k src) (R.note k x)
  related_noted k src x r = record {
    vars = r.vars;
    typed = r.typed;
    globals = r.globals;
    global_types = r.global_types;
    turns = r.turns;
    reads = ap (R.put k true) r.reads ∙ same_notes k src.reads;
    consts = r.consts;
  }

  wrote : (s0 i w : ℕ) (name : OpName) (ty to : Ty) (hs : List ℕ) (v : AnyValue) (src : State) (x1 x y : R.State) → y ≡ R.write w (apply name to (v ∷ map x.values hs)) (R.ticked x1) → ((k : ℕ) → x1.values k ≡ x.values k) → s0 ≤ w → frame_end b ≤ w → IsVariable syms w to → type_of v ≡ ty → Related b syms src x1 → Related b syms src y × Kept b s0 x y × HasRead syms w name ty to hs x (v ∷ []) y
  wrote s0 i w name ty to hs v src x1 x y is same le above var tv rel =
      let u = apply name to (v ∷ map x.values hs) in
      let z = R.write w u (R.ticked x1) in
      let wr = wrote_one w u x1 in
      let held : z.values w ≡ u = (let e : w + 0 ≡ w = omega arith in ap z.values (sym e) ∙ wr.inside.each 0 u refl) in
      let other : (k : ℕ) → k ≢ w → z.values k ≡ x.values k = λ k ne. put_other w k u x1.values ne ∙ same k in
      subst (λ q. Related b syms src q × Kept b s0 x q × HasRead syms w name ty to hs x (v ∷ []) q) (sym is) (
        related_temp b syms room w (u ∷ []) src x1 z above (one_apart b syms room w to var) wr rel,
        kept_older b s0 x z (λ k h. other k (λ e. absurd (omega (arith, h, e, le)))),
        record { value = held; others = other; typed = tv },
      )

  own_gives : (s0 i w k q : ℕ) (name : OpName) (ty to : Ty) (hs : List ℕ) (src : State) (x : R.State) → s0 ≤ w → frame_end b ≤ w → IsVariable syms w to → slice_get b.types q ≡ Some ty → from (symbol_of b q) ≡ R.Own → slice_get steps i ≡ Some (Compute name to w (symbol_of b q ∷ hs)) → AllOwn from hs → Related b syms src x → GivesCode b from steps syms s0 (HasRead syms w name ty to hs x) i (i + 1) x (Gives (src.vars q ∷ []) src)
  own_gives s0 i w k q name ty to hs src x le above var here is at owns rel =
      let lt = get_some b.types q ty here in
      let v_is = rel.vars q lt in
      let y = R.write w (apply name to (map x.values (symbol_of b q ∷ hs))) (R.ticked x) in
      let done = wrote s0 i w name ty to hs (src.vars q) src x x y (ap (λ z. R.write w (apply name to (z ∷ map x.values hs)) (R.ticked x)) v_is) (λ k. refl) le above var (rel.typed q ty here) rel in (
        y,
        record {
          leads = compute_leads from steps i w name to (symbol_of b q ∷ hs) x at (is, owns);
          related = done.0;
          kept = done.1;
        },
        done.2,
      )

  -- the symbol of leaf q is read by an op, and by its source
  pub read_gives : (s0 i w k q : ℕ) (name : OpName) (ty to : Ty) (hs : List ℕ) (input : Input) (src : State) (x : R.State) → s0 ≤ w → frame_end b ≤ w → IsVariable syms w to → slice_get b.types q ≡ Some ty → from (symbol_of b q) ≡ source_of input → ((o : Option AnyValue) → input ≡ From o → symbol_of b q ≡ k) → ((v : AnyValue) → input ≡ From (Some v) → type_of v ≡ ty) → slice_get steps i ≡ Some (Compute name to w (symbol_of b q ∷ hs)) → AllOwn from hs → Related b syms src x → GivesCode b from steps syms s0 (HasRead syms w name ty to hs x) i (i + 1) x (read_input input k (src.vars q ∷ []) src)
  read_gives s0 i w k q name ty to hs (From None) src x le above var here is first typed at owns rel =
      let y = R.note k (R.ticked x) in
      let e = first None refl in (
        y,
        record {
          finishes = one_ends from steps i x (R.Spent y) (Compute name to w (symbol_of b q ∷ hs)) at (λ g z. ap (λ o. R.with_value (R.read_from o (symbol_of b q) (R.ticked x)) (λ v s1. R.arguments from hs s1 (λ vs s2. R.run from steps g (i + 1) z (R.write w (apply name to (v ∷ vs)) s2)))) is ∙ ap (λ n. R.Spent (R.note n (R.ticked x))) e);
          reads = ap (R.put k true) rel.reads ∙ same_notes k src.reads;
        },
      )
  read_gives s0 i w k q name ty to hs (From (Some v)) src x le above var here is first typed at owns rel =
      let e = first (Some v) refl in
      let x1 = R.note k x in
      let y = R.write w (apply name to (v ∷ map x.values hs)) (R.ticked x1) in
      let tv = typed v refl in
      let done = wrote s0 i w name ty to hs v (noted k src) x1 x y refl (λ j. refl) le above var tv (related_noted k src x rel) in (
        y,
        record {
          leads = one_leads from steps i x y (Compute name to w (symbol_of b q ∷ hs)) at (λ g z.
              ap (λ o. R.with_value (R.read_from o (symbol_of b q) (R.ticked x)) (λ u s1. R.arguments from hs s1 (λ vs s2. R.run from steps g (i + 1) z (R.write w (apply name to (u ∷ vs)) s2)))) is
              ∙ ap (λ n. R.arguments from hs (R.note n (R.ticked x)) (λ vs s2. R.run from steps g (i + 1) z (R.write w (apply name to (v ∷ vs)) s2))) e
              ∙ args_own from steps hs (R.note k (R.ticked x)) (λ vs s2. R.run from steps g (i + 1) z (R.write w (apply name to (v ∷ vs)) s2)) owns);
          related = done.0;
          kept = done.1;
        },
        done.2,
      )
  read_gives s0 i w k q name ty to hs (Fixed v) src x le above var here is first typed at owns rel = own_gives s0 i w k q name ty to hs src x le above var here is at owns rel
  read_gives s0 i w k q name ty to hs Default src x le above var here is first typed at owns rel = own_gives s0 i w k q name ty to hs src x le above var here is at owns rel
