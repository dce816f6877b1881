-- What may be written: a leaf of a variable, or a global. What is shown of an assignment needs no more of its target than this.
use Rattle.std.proofs.Common.{◌≡◌, ℕ, ◌+◌, ◌<◌, ◌≤◌, ◌≢◌, ◌⊎◌, inl, inr, ⊎_elim, List, [], ◌∷◌, length, Some, true, false, refl, sym, ap, ◌∙◌, arith}
use Rattle.std.specs.Prelude.{slice_get, if◌then◌else◌}
use Rattle.std.proofs.lemmas.Bool.{cond_both}
use Rattle.osl_value.specs.declared.op_name.OpName.TheVariants.{AAssign, CompAssign, MxCompAssign}
use Rattle.osl_value.specs.declared.types.Base.TheVariants.{Matrix}
use Rattle.osl_value.specs.declared.types.Ty.{Ty}
use Rattle.osl_value.specs.AnyValue.{AnyValue, type_of, is_array}
use Rattle.osl_value.specs.Laws.{HasValues}
use Rattle.osl_value.specs.Types.{is_only}
use Rattle.osl_value.proofs.TableLaws.{applied_type}
use Rattle.osl_layer.specs.Globals.{type_of_global}
use Rattle.osl_layer.specs.Layer.{Inputs, Input, From, Fixed, Default}
use Rattle.osl_layer.specs.declared.global.GlobalName.{GlobalName}
use Rattle.osl_layer.specs.declared.global.GlobalName.TheVariants as G
use Rattle.osl_overload.specs.declared.signature.Kind.TheVariants.{Value}
use Rattle.osl_typed.specs.declared.expr.Part.{Part}
use Rattle.osl_typed.specs.declared.expr.Root.{Root}
use Rattle.osl_typed.specs.declared.expr.Root.TheVariants as root
use Rattle.osl_typed.specs.Frames.{leaf_count, leaves_before, place_of, kind_in}
use Rattle.osl_typed.specs.State.{State, leaves_at, write_leaves, write_global, same_global}
use Rattle.osl_typed.specs.Parts.{Frame, single, with_selected, with_matrix_element, write_part, first_leaf, all_indices}
use Rattle.oso_code.specs.declared.symbol.Symbol.{Symbol}
use Rattle.oso_code.specs.CodeRun.{source_of}
use Rattle.oso_code.specs.Run as R
use Rattle.osl_gencode.specs.Growth.{Extends}
use Rattle.osl_gencode.specs.Bodies.{IsVariable, Body, symbol_of, frame_end, global_of, Room, frame_at}
use Rattle.osl_gencode.specs.Relation.{IsOwn, Related, Kept}
use Rattle.osl_gencode.specs.PartCodes.{Stored}
use Rattle.osl_gencode.proofs.Growing.{get_some}
use Rattle.osl_gencode.proofs.RelatedStates.{leaf_within, global_apart, globals_apart, global_low, global_own, room_later}
use Rattle.osl_gencode.proofs.PartStores.{related_stored}

-- Symbol w is what a part of a root is written into, once its indices are known: `leaf` is the leaf that it stands for, and `put` a state with another value in it.
pub record Target (b : Body) (syms0 : List Symbol) (r : Root) (part : Part) (ty : Ty) (w : ℕ) : Type 0 where
  pub leaf : State → AnyValue
  pub put : AnyValue → State → State
  pub own : IsOwn b w
  pub first : b.start ≤ w
  pub low : w < frame_end b
  pub variable : IsVariable syms0 w ty
  pub holds : (syms : List Symbol) (s : State) (x : R.State) → Related b syms s x → x.values w ≡ leaf s
  pub typed : (syms : List Symbol) (s : State) (x : R.State) → Related b syms s x → type_of (leaf s) ≡ ty
  pub writes : (inputs : Inputs) (is xs : List AnyValue) (s : State) → write_part (frame_at b inputs) r part is xs s ≡ put (with_selected ty (leaf s) (all_indices part is) (single xs)) s
  pub related : (syms : List Symbol) (s0 : ℕ) (v : AnyValue) (s : State) (x y : R.State) → Extends syms0 syms → frame_end b ≤ s0 → type_of v ≡ ty → Stored syms w v s0 x y → Related b syms s x → Related b syms (put v s) y

-- a write of a target keeps what is older
pub kept_target : (b : Body) (syms0 : List Symbol) (r : Root) (part : Part) (ty : Ty) (w : ℕ) → Target b syms0 r part ty w → b.calm ≡ false → (syms : List Symbol) (s0 : ℕ) (v : AnyValue) (x y : R.State) → Stored syms w v s0 x y → Kept b s0 x y
kept_target b syms0 r part ty w t loud syms s0 v x y st =
    let a = t.first in let l = t.low in
    record { keeps = λ j h o. st.others j h (λ e. absurd (omega (arith, e, a, l, o))); all = λ calm j h. absurd (cc (calm, loud)) }

-- what is written has the type of what it is written into
pub stored_type : (ty : Ty) (v : AnyValue) (is : List AnyValue) (x : AnyValue) → HasValues ty → type_of v ≡ ty → (is ≡ [] → type_of x ≡ ty) → type_of (with_selected ty v is x) ≡ ty
unfolding with_selected
stored_type ty v [] x sound tv tx = tx refl
stored_type ty v (i ∷ is) x sound tv tx =
    cond_both (is_array ty) _ _ (λ z. type_of z ≡ ty) (λ a. applied_type AAssign ty _ sound) (λ flat.
    cond_both (is_only Matrix ty) _ _ (λ z. type_of z ≡ ty) (λ m. matrix is) (λ other. applied_type CompAssign ty _ sound))
  where
    matrix : (rest : List AnyValue) → type_of (with_matrix_element ty v i rest x) ≡ ty
    matrix [] = tv
    matrix (j ∷ more) = applied_type MxCompAssign ty (v ∷ i ∷ j ∷ x ∷ []) sound

-- ---- a leaf of a variable

-- what is written into a leaf of a variable
leaf_written : (frame : Frame) (k : ℕ) (part : Part) (ty : Ty) (is xs : List AnyValue) (s : State) → part.kind ≡ Value ty → write_part frame (root.Variable k) part is xs s ≡ write_leaves (first_leaf frame k part) (with_selected ty (s.vars (first_leaf frame k part)) (all_indices part is) (single xs) ∷ []) s
unfolding leaves_at
leaf_written frame k part ty is xs s e =
    ap (λ z. write_part frame (root.Variable k) (record { fields = part.fields; kind = z; component = part.component }) is xs s) e

-- the symbol of what may be assigned is connected to nothing
pub stored_own : (b : Body) (k j : ℕ) → b.stored k ≡ true → place_of b.structures b.kinds k + j < length b.types → j < leaf_count b.structures (kind_in b.kinds k) → IsOwn b (symbol_of b (place_of b.structures b.kinds k + j))
stored_own b k j may lt lj inputs from wired = wired.here k j lt lj ∙ by_input (inputs k) refl
  where
    by_input : (i : Input) → inputs k ≡ i → source_of i ≡ R.Own
    by_input (From o) e = absurd (wired.unwired k o may e)
    by_input (Fixed v) e = refl
    by_input Default e = refl

module _ (b : Body) (syms0 : List Symbol) (room : Room b syms0) where
  pub variable_target : (k : ℕ) (part : Part) (ty : Ty) → b.stored k ≡ true → part.kind ≡ Value ty → slice_get b.types (place_of b.structures b.kinds k + leaves_before b.structures (kind_in b.kinds k) part.fields) ≡ Some ty → leaves_before b.structures (kind_in b.kinds k) part.fields < leaf_count b.structures (kind_in b.kinds k)
      → Target b syms0 (root.Variable k) part ty (symbol_of b (place_of b.structures b.kinds k + leaves_before b.structures (kind_in b.kinds k) part.fields))
  variable_target k part ty may kind at inside =
      let j = leaves_before b.structures (kind_in b.kinds k) part.fields in
      let k0 = place_of b.structures b.kinds k + j in
      let lt : k0 < length b.types = get_some b.types k0 ty at in
      let within = leaf_within b syms0 room k0 lt in
      record {
        leaf = λ s. s.vars k0;
        put = λ v s. write_leaves k0 (v ∷ []) s;
        own = stored_own b k j may lt inside;
        first = within.0;
        low = within.1;
        variable = room.leaves k0 ty at;
        holds = λ syms s x rel. rel.vars k0 lt;
        typed = λ syms s x rel. rel.typed k0 ty at;
        writes = λ inputs is xs s. leaf_written (frame_at b inputs) k part ty is xs s kind;
        related = λ syms n v s x y ext le tv st rel. related_stored b syms (room_later b syms0 syms ext room) n k0 ty v s x y le lt at tv st rel;
      }

-- ---- a global

-- the same name, or not
pub global_cases : (h g : GlobalName) → ((same_global h g ≡ true) × (h ≡ g)) ⊎ ((same_global h g ≡ false) × (h ≢ g))
global_cases G.P G.P = inl (refl, refl)
global_cases G.N G.N = inl (refl, refl)
global_cases G.Ng G.Ng = inl (refl, refl)
global_cases G.I G.I = inl (refl, refl)
global_cases G.U G.U = inl (refl, refl)
global_cases G.V G.V = inl (refl, refl)
global_cases G.Ci G.Ci = inl (refl, refl)
global_cases h g = inr (refl, λ e. absurd (cc e))

global_written : (frame : Frame) (g : GlobalName) (part : Part) (ty : Ty) (is xs : List AnyValue) (s : State) → part.kind ≡ Value ty → write_part frame (root.Global g) part is xs s ≡ write_global g (with_selected ty (s.globals g) (all_indices part is) (single xs)) s
global_written frame g part ty is xs s e =
    ap (λ z. write_part frame (root.Global g) (record { fields = part.fields; kind = z; component = part.component }) is xs s) e

module _ (b : Body) (syms0 : List Symbol) (room : Room b syms0) where
  related_global : (g : GlobalName) (syms : List Symbol) (s0 : ℕ) (v : AnyValue) (s : State) (x y : R.State) → Extends syms0 syms → frame_end b ≤ s0 → type_of v ≡ type_of_global g → Stored syms (global_of b g) v s0 x y → Related b syms s x → Related b syms (write_global g v s) y
  related_global g syms s0 v s x y ext le tv st rel =
      let roomS = room_later b syms0 syms ext room in
      record {
        vars = λ k h. (let q = (leaf_within b syms roomS k h).1 in st.others (symbol_of b k) (omega (arith, q, le)) (λ e. global_apart b syms roomS g k (sym e))) ∙ rel.vars k h;
        typed = rel.typed;
        globals = λ h. ⊎_elim (λ (yes_ : (same_global h g ≡ true) × (h ≡ g)). ap (λ z. y.values (global_of b z)) (yes_.1) ∙ st.value ∙ sym (ap (λ z. if z then v else s.globals h) (yes_.0))) (λ (other : (same_global h g ≡ false) × (h ≢ g)). (let q = global_low b syms roomS h in st.others (global_of b h) (omega (arith, q, le)) (globals_apart b h g (other.1))) ∙ rel.globals h ∙ sym (ap (λ z. if z then v else s.globals h) (other.0))) (global_cases h g);
        global_types = λ h. ⊎_elim (λ (yes_ : (same_global h g ≡ true) × (h ≡ g)). ap (λ z. type_of (if z then v else s.globals h)) (yes_.0) ∙ tv ∙ ap type_of_global (sym (yes_.1))) (λ (other : (same_global h g ≡ false) × (h ≢ g)). ap (λ z. type_of (if z then v else s.globals h)) (other.0) ∙ rel.global_types h) (global_cases h g);
        turns = st.turns ∙ rel.turns;
        reads = st.reads ∙ rel.reads;
        consts = λ i symbol here is. st.consts i symbol here is ∙ rel.consts i symbol here is;
      }

  -- where the frame is the shader's, a global is written
  pub global_target : (g : GlobalName) (part : Part) → b.start ≡ 0 → part.kind ≡ Value (type_of_global g) → Target b syms0 (root.Global g) part (type_of_global g) (global_of b g)
  global_target g part outer kind = record {
    leaf = λ s. s.globals g;
    put = λ v s. write_global g v s;
    own = global_own b syms0 room g;
    first = omega (arith, outer);
    low = global_low b syms0 room g;
    variable = room.globals g;
    holds = λ syms s x rel. rel.globals g;
    typed = λ syms s x rel. rel.global_types g;
    writes = λ inputs is xs s. global_written (frame_at b inputs) g part (type_of_global g) is xs s kind;
    related = λ syms n v s x y ext le tv st rel. related_global g syms n v s x y ext le tv st rel;
  }
