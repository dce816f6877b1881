-- An output that is a whole structure is copied back: one op for each leaf.
use Rattle.std.proofs.Common.{◌≡◌, ℕ, ◌+◌, ◌<◌, ◌≤◌, inr, List, [], ◌∷◌, length, map, Option, Some, false, refl, sym, ap, ◌∙◌, subst, arith}
use Rattle.osl_value.specs.declared.types.Ty.{Ty}
use Rattle.osl_value.specs.AnyValue.{AnyValue, type_of}
use Rattle.osl_layer.specs.Layer.{Inputs}
use Rattle.osl_overload.specs.declared.signature.Kind.TheVariants.{Structure}
use Rattle.oso_code.specs.declared.op.Op.{Op}
use Rattle.oso_code.specs.declared.symbol.Symbol.{Symbol}
use Rattle.oso_code.specs.Run as R
use Rattle.oso_code.specs.Steps.{Step}
use Rattle.osl_typed.specs.declared.expr.Part.{Part}
use Rattle.osl_typed.specs.declared.expr.Root.{Root}
use Rattle.osl_typed.specs.declared.expr.Root.TheVariants as root
use Rattle.osl_typed.specs.Frames.{leaves_before, place_of, kind_in}
use Rattle.osl_typed.specs.State.{State, write_leaves}
use Rattle.osl_typed.specs.Parts.{Frame, first_leaf, write_part}
use Rattle.osl_typed.specs.Expressions.{Passed, Copied, Lent, copied_back}
use Rattle.osl_gencode.specs.CallCodes.{IndicesIn, ArgPlace, FinalsIn, BackCode}
use Rattle.osl_gencode.specs.Relation.{Related, Wired, Kept, In}
use Rattle.osl_gencode.specs.Growth.{Extends, Covers}
use Rattle.osl_gencode.specs.Bodies.{Body, Room, frame_end, frame_at}
use Rattle.osl_gencode.specs.RunEnds.{Leads}
use Rattle.osl_gencode.proofs.Growing.{extends_self}
use Rattle.osl_gencode.proofs.RelatedStates.{above_own, room_later}
use Rattle.osl_gencode.proofs.BlockMoves.{AreLeaves, leaves_variables, row_held, block_moves, IsRow, related_block, row_sources, MoveCode, kept_block}
use Rattle.osl_gencode.proofs.CopyingBack.{some_pair}

structure_put : (frame : Frame) (k m : ℕ) (part : Part) (is xs : List AnyValue) (s : State) → part.kind ≡ Structure m → write_part frame (root.Variable k) part is xs s ≡ write_leaves (first_leaf frame k part) xs s
structure_put frame k m part is xs s e =
    ap (λ z. write_part frame (root.Variable k) (record { fields = part.fields; kind = z; component = part.component }) is xs s) e

-- what one formal parameter holds
one_final : (types : List Ty) (finals : List (List AnyValue)) → map (map type_of) finals ≡ types ∷ [] → (vs : List AnyValue) × (finals ≡ vs ∷ []) × (map type_of vs ≡ types)
one_final types [] e = absurd (let n = ap length e in omega (arith, n))
one_final types (vs ∷ []) e = (vs, refl, ap (λ l. elim l [ [] ↦ types | x ∷ xs ↦ x ]) e)
one_final types (vs ∷ (ws ∷ more)) e = absurd (let n = ap length e in omega (arith, n))

module _ (b inner : Body) (at : ℕ) where
  pub back_structure : (ops0 ops1 : List Op) (syms0 : List Symbol) (p : ArgPlace) (k m : ℕ) (part : Part) (w : ℕ) (types : List Ty) (rs : List (Option ℕ)) → b.calm ≡ false → Room b syms0 → p.target ≡ Some (root.Variable k, part) → part.kind ≡ Structure m → AreLeaves b (place_of b.structures b.kinds k + leaves_before b.structures (kind_in b.kinds k) part.fields) w types → w + length types ≤ frame_end b → frame_end b ≤ inner.shift → IsRow rs (inner.shift + at) (length types) → MoveCode ops0 ops1 w rs → BackCode b inner at (types ∷ []) ops0 ops1 syms0 syms0 (p ∷ [])
  back_structure ops0 ops1 syms0 p k m part w types rs loud room target kind leaves inside order row mv =
      record {
        grows = record { ops = mv.grows; syms = extends_self syms0 };
        runs = λ inputs from steps syms passed finals s old wired cov ext rel indices held typed.
            let v = one_final types finals typed in
            back inputs from steps syms passed finals s old wired cov ext rel indices held (v.0) v.1 v.2;
      }
    where
      back : (inputs : Inputs) (from : R.Sources) (steps : List Step) (syms : List Symbol) (passed : List Passed) (finals : List (List AnyValue)) (s : State) (old : R.State) → Wired b inputs from → Covers syms steps ops1 (length ops0) → Extends syms0 syms → Related b syms s old → IndicesIn (p ∷ []) passed old → FinalsIn inner at finals old → (vs : List AnyValue) → finals ≡ vs ∷ [] → map type_of vs ≡ types → (new : R.State) × Leads from steps (length ops0) (length ops1) old new × Related b syms (copied_back (frame_at b inputs) passed finals s) new × Kept b (length syms0) old new
      back inputs from steps syms [] finals s old wired cov ext rel indices held vs is typed = absurd indices
      back inputs from steps syms (Copied u ∷ more) finals s old wired cov ext rel indices held vs is typed = absurd (let q = indices.0 in cc (q, target))
      back inputs from steps syms (Lent u r q js ∷ (other ∷ more)) finals s old wired cov ext rel indices held vs is typed = absurd (indices.2)
      back inputs from steps syms (Lent u r q js ∷ []) finals s old wired cov ext rel indices held vs is typed =
          let k0 = place_of b.structures b.kinds k + leaves_before b.structures (kind_in b.kinds k) part.fields in
          let source = inner.shift + at in
          let roomS = room_later b syms0 syms ext room in
          let same = some_pair {A = Root} {B = Part} (root.Variable k, part) (r, q) (sym target ∙ indices.0) in
          let held1 = subst (λ z. FinalsIn inner at z old) is held in
          let value : In source types vs old = record { held = held1.0; typed = typed } in
          let own : (j : ℕ) → j < length types → _ = λ j lt. above_own b syms0 room (source + j) (omega (arith, order)) in
          let did = block_moves b ops0 ops1 w rs types vs inputs from steps syms old mv wired cov (leaves_variables b syms k0 w types roomS leaves) (row_sources b w source (length types) rs row own (inr (omega (arith, inside, order)))) (row_held rs source types vs old row value) in
          let y = did.0 in
          let means : copied_back (frame_at b inputs) (Lent u r q js ∷ []) finals s ≡ write_leaves k0 vs s
          = ap (λ z. copied_back (frame_at b inputs) (Lent u r q js ∷ []) z s) is
          ∙ ap (λ z. write_part (frame_at b inputs) z q js vs s) (sym (same.0))
          ∙ ap (λ z. write_part (frame_at b inputs) (root.Variable k) z js vs s) (sym (same.1))
          ∙ structure_put (frame_at b inputs) k m part js vs s kind in
          (y, did.1, subst (λ z. Related b syms z y) (sym means) (related_block b syms roomS k0 w types leaves vs s old y typed did.2 rel), kept_block b syms roomS k0 w types leaves (length syms0) vs old y loud typed did.2)
