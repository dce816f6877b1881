-- Values of several leaves: a variable that is a structure, a field that is one, and structures that are assigned.
use Rattle.std.proofs.Common.{◌≡◌, ℕ, zero, suc, ◌+◌, ◌<◌, ◌≤◌, ◌⊎◌, ⊎_elim, List, [], ◌∷◌, length, Some, true, refl, sym, ap, ◌∙◌, subst, arith, false, map, Option, None, inl, inr}
use Rattle.std.specs.Prelude.{slice_get, drop, take}
use Rattle.osl_value.specs.declared.types.Ty.{Ty}
use Rattle.osl_value.specs.AnyValue.{AnyValue, type_of}
use Rattle.osl_layer.specs.Layer.{Inputs, Input, From, Fixed, Default}
use Rattle.osl_overload.specs.declared.signature.Kind.TheVariants.{Structure}
use Rattle.oso_code.specs.declared.op.Op.{Op}
use Rattle.oso_code.specs.declared.symbol.Symbol.{Symbol}
use Rattle.oso_code.specs.Run as R
use Rattle.osl_typed.specs.declared.expr.Part.{Part}
use Rattle.osl_typed.specs.declared.expr.Root.TheVariants as root
use Rattle.osl_typed.specs.Frames.{leaf_count, leaves_of, leaves_before, place_of, kind_in}
use Rattle.osl_typed.specs.State.{State, Gives, then_value, leaves_at, in_order, write_leaves}
use Rattle.osl_typed.specs.Parts.{Frame, read_input, part_leaves, first_leaf, write_part, selection, field_leaves}
use Rattle.osl_typed.specs.Expressions.{read_part, Meaning, assigned, part_taken}
use Rattle.osl_overload.specs.declared.signature.Kind.{Kind}
use Rattle.std.proofs.lemmas.Bool.{cases_lt}
use Rattle.std.proofs.lemmas.List.{length-map}
use Rattle.osl_gencode.specs.Relation.{In, IsOwn, Wired, Related}
use Rattle.osl_gencode.specs.Codes.{ExprCode, Anything}
use Rattle.osl_gencode.specs.Bodies.{frame_at, Room, Body, symbol_of, HasType}
use Rattle.osl_gencode.specs.RunEnds.{GivesCode}
use Rattle.osl_gencode.proofs.BlockMoves.{AreLeaves, leaves_variables, row_held, block_moves, IsRow, related_block, row_sources, MoveCode, kept_block}
use Rattle.osl_gencode.proofs.Growing.{variable_typed, get_some, extends_self, get_there, extends_on, covers_before}
use Rattle.osl_gencode.proofs.RelatedStates.{kept_self, room_later}
use Rattle.osl_gencode.proofs.RangeRuns.{leads_self}
use Rattle.osl_gencode.proofs.Targets.{stored_own}
use Rattle.osl_gencode.proofs.CallNode.{leaf_is, leaves_length, leaves_typed}
use Rattle.osl_gencode.proofs.CodeLists.{code_as}
use Rattle.osl_gencode.proofs.Sequels.{seq_code}
use Rattle.osl_gencode.proofs.CalmCode.{code_to}

-- ---- leaves of the frame

pub leaves_in_row : (b : Body) (syms : List Symbol) (k0 w : ℕ) (types : List Ty) (s : State) (x : R.State) → AreLeaves b k0 w types → Related b syms s x → In w types (leaves_at s.vars k0 (length types)) x
leaves_in_row b syms k0 w types s x leaves rel = record {
  held = record {
    each = λ k v at.
        let l = get_some (leaves_at s.vars k0 (length types)) k v at in let n = leaves_length s.vars k0 (length types) in
        let t = get_there types k (omega (arith, l, n)) in
        let lt = get_some b.types (k0 + k) (t.0) (leaves.typed k (t.0) (t.1)) in
        sym (ap x.values (leaves.symbols k (omega (arith, l, n)))) ∙ rel.vars (k0 + k) lt ∙ leaf_is s.vars k0 (length types) k v at;
  };
  typed = leaves_typed s.vars k0 types (λ k ty at. rel.typed (k0 + k) ty (leaves.typed k ty at));
}

-- a structure of a variable is read whole, by its kind
read_whole : (frame : Frame) (k m : ℕ) (part : Part) (s : State) → part.kind ≡ Structure m → read_part frame (root.Variable k) part [] s ≡ then_value (read_input (frame.inputs k) k (leaves_at s.vars (first_leaf frame k part) (part_leaves frame part)) s) (λ vs s1. Gives vs s1)
read_whole frame k m part s e =
    ap (λ z. read_part frame (root.Variable k) (record { fields = part.fields; kind = z; component = part.component }) [] s) e
    ∙ ap (λ z. then_value (read_input (frame.inputs k) k (leaves_at s.vars (first_leaf frame k part) (leaf_count frame.structures z)) s) (λ vs s1. Gives vs s1)) (sym e)

module _ (b : Body) (k m : ℕ) (part : Part) where
  -- a structure, or a field of one that is a structure, is read where it is
  pub structure_code : (ops0 : List Op) (syms0 : List Symbol) (w : ℕ) → Room b syms0 → b.stored k ≡ true → part.kind ≡ Structure m → AreLeaves b (place_of b.structures b.kinds k + leaves_before b.structures (kind_in b.kinds k) part.fields) w (leaves_of b.structures part.kind) → leaves_before b.structures (kind_in b.kinds k) part.fields + leaf_count b.structures part.kind ≤ leaf_count b.structures (kind_in b.kinds k) → w + leaf_count b.structures part.kind ≤ length syms0
      → ExprCode b ops0 ops0 syms0 syms0 w (leaves_of b.structures part.kind) (λ inputs s. read_part (frame_at b inputs) (root.Variable k) part [] s)
  structure_code ops0 syms0 w room may kind leaves inside within =
      let j0 = leaves_before b.structures (kind_in b.kinds k) part.fields in
      let k0 = place_of b.structures b.kinds k + j0 in
      let types = leaves_of b.structures part.kind in
      record {
        within = within;
        own = λ j lt. own j lt (get_there types j lt);
        places = record { each = λ j ty at. variable_typed syms0 (w + j) ty ((leaves_variables b syms0 k0 w types room leaves).each j ty at) };
        code = record {
          grows = record { ops = extends_self ops0; syms = extends_self syms0 };
          runs = λ inputs from steps syms a s x wired cov ext rel p.
              subst (GivesCode b from steps syms (length syms0) (In w types) (length ops0) (length ops0) x) (sym (read_whole (frame_at b inputs) k m part s kind ∙ unconnected inputs from wired s (leaves_at s.vars k0 (length types)) (inputs k) refl)) (
                x,
                record { leads = leads_self from steps (length ops0) x; related = rel; kept = kept_self b (length syms0) x },
                leaves_in_row b syms k0 w types s x leaves rel,
              );
        };
      }
    where
      own : (j : ℕ) → j < leaf_count b.structures part.kind → (ty : Ty) × (slice_get (leaves_of b.structures part.kind) j ≡ Some ty) → IsOwn b (w + j)
      own j lt (ty, at) =
          let j0 = leaves_before b.structures (kind_in b.kinds k) part.fields in
          let p0 = place_of b.structures b.kinds k in
          let e : p0 + (j0 + j) ≡ (p0 + j0) + j = omega arith in
          subst (IsOwn b) (ap (symbol_of b) e ∙ leaves.symbols j lt) (stored_own b k (j0 + j) may (let l = get_some b.types ((p0 + j0) + j) ty (leaves.typed j ty at) in omega (arith, l, e)) (omega (arith, lt, inside)))

      unconnected : (inputs : Inputs) (from : R.Sources) → Wired b inputs from → (s : State) (vs : List AnyValue) (i : Input) → inputs k ≡ i → then_value (read_input i k vs s) (λ us s1. Gives us s1) ≡ Gives vs s
      unconnected inputs from wired s vs (From o) e = absurd (wired.unwired k o may e)
      unconnected inputs from wired s vs (Fixed v) e = refl
      unconnected inputs from wired s vs Default e = refl

-- ---- a field of a value

dropped : (vs : List AnyValue) (n k : ℕ) → slice_get (drop n vs) k ≡ slice_get vs (n + k)
dropped vs zero k = let e : k ≡ 0 + k = omega arith in ap (slice_get vs) e
dropped [] (suc n) k = refl
dropped (v ∷ vs) (suc n) k = dropped vs n k ∙ (let e : suc (n + k) ≡ suc n + k = omega arith in ap (slice_get (v ∷ vs)) e)

taken_get : (vs : List AnyValue) (n k : ℕ) → k < n → slice_get (take n vs) k ≡ slice_get vs k
taken_get vs zero k lt = absurd (omega (arith, lt))
taken_get [] (suc n) k lt = refl
taken_get (v ∷ vs) (suc n) zero lt = refl
taken_get (v ∷ vs) (suc n) (suc k) lt = taken_get vs n k (omega (arith, lt))

taken_short : (vs : List AnyValue) (n : ℕ) → length (take n vs) ≤ n
taken_short vs zero = omega arith
taken_short [] (suc n) = omega arith
taken_short (v ∷ vs) (suc n) = let r = taken_short vs n in omega (arith, r)

-- lists of types that agree at each place
same_types : (xs ys : List Ty) → ((k : ℕ) → slice_get xs k ≡ slice_get ys k) → xs ≡ ys
same_types [] [] same = refl
same_types [] (y ∷ ys) same = absurd (let e = same 0 in cc e)
same_types (x ∷ xs) [] same = absurd (let e = same 0 in cc e)
same_types (x ∷ xs) (y ∷ ys) same =
    let e : Some x ≡ Some y = same 0 in
    ap (λ z. z ∷ xs) (cc e) ∙ ap (λ l. y ∷ l) (same_types xs ys (λ k. same (suc k)))

map_get : (vs : List AnyValue) (k : ℕ) → slice_get (map type_of vs) k ≡ elim (slice_get vs k) [ None ↦ None | Some v ↦ Some (type_of v) ]
map_get [] k = refl
map_get (v ∷ vs) zero = refl
map_get (v ∷ vs) (suc k) = map_get vs k

past : {X : Type 0} (xs : List X) (k : ℕ) → length xs ≤ k → slice_get xs k ≡ None
past [] k le = refl
past (x ∷ xs) zero le = absurd (omega (arith, le))
past (x ∷ xs) (suc k) le = past xs k (omega (arith, le))

-- n leaves of a value, from leaf m on
pub in_field : (ra m : ℕ) (types inner : List Ty) (vs : List AnyValue) (x : R.State) → ((k : ℕ) (ty : Ty) → slice_get inner k ≡ Some ty → slice_get types (m + k) ≡ Some ty) → In ra types vs x → In (ra + m) inner (take (length inner) (drop m vs)) x
in_field ra m types inner vs x fits p = record {
  held = record {
    each = λ k v at.
        let l = get_some (take (length inner) (drop m vs)) k v at in let s = taken_short (drop m vs) (length inner) in
        let e : (ra + m) + k ≡ ra + (m + k) = omega arith in
        ap x.values e ∙ p.held.each (m + k) v (sym (dropped vs m k) ∙ sym (taken_get (drop m vs) (length inner) k (omega (arith, l, s))) ∙ at);
  };
  typed = same_types (map type_of (take (length inner) (drop m vs))) inner (λ k. ⊎_elim (λ (lt : k < length inner).
      let t = get_there inner k lt in
      map_get (take (length inner) (drop m vs)) k
      ∙ ap (λ o. elim o [ None ↦ None | Some v ↦ Some (type_of v) ]) (taken_get (drop m vs) (length inner) k lt ∙ dropped vs m k)
      ∙ sym (map_get vs (m + k))
      ∙ ap (λ l. slice_get l (m + k)) p.typed
      ∙ fits k (t.0) (t.1)
      ∙ sym (t.1)) (λ (le : length inner ≤ k).
      let s = taken_short (drop m vs) (length inner) in let n = length-map (take (length inner) (drop m vs)) type_of in
      past (map type_of (take (length inner) (drop m vs))) k (omega (arith, le, s, n)) ∙ sym (past inner k le)) (cases_lt k (length inner)));
}

field_taken : (frame : Frame) (kind : Kind) (m : ℕ) (part : Part) (vs : List AnyValue) → part.kind ≡ Structure m → selection part (field_leaves frame kind part vs) [] ≡ take (part_leaves frame part) (drop (leaves_before frame.structures kind part.fields) vs)
field_taken frame kind m part vs e =
    ap (λ z. selection (record { fields = part.fields; kind = z; component = part.component }) (field_leaves frame kind (record { fields = part.fields; kind = z; component = part.component }) vs) []) e
    ∙ ap (λ z. take (leaf_count frame.structures z) (drop (leaves_before frame.structures kind part.fields) vs)) (sym e)

-- a field that is a structure: some of the symbols of the value
pub field_code : (b : Body) (kind : Kind) (m : ℕ) (part : Part) (ops0 ops1 : List Op) (syms0 syms1 : List Symbol) (ra : ℕ) (types : List Ty) (sem : Inputs → Meaning) → part.kind ≡ Structure m → ((k : ℕ) (ty : Ty) → slice_get (leaves_of b.structures part.kind) k ≡ Some ty → slice_get types (leaves_before b.structures kind part.fields + k) ≡ Some ty) → leaves_before b.structures kind part.fields + leaf_count b.structures part.kind ≤ length types → ExprCode b ops0 ops1 syms0 syms1 ra types sem → ExprCode b ops0 ops1 syms0 syms1 (ra + leaves_before b.structures kind part.fields) (leaves_of b.structures part.kind) (λ inputs. part_taken (frame_at b inputs) kind (sem inputs) part [])
unfolding in_order
field_code b kind m part ops0 ops1 syms0 syms1 ra types sem is_kind fits inside c =
    let j0 = leaves_before b.structures kind part.fields in
    let inner = leaves_of b.structures part.kind in
    let w = c.within in
    record {
      within = omega (arith, w, inside);
      own = λ k lt. let e : ra + (j0 + k) ≡ (ra + j0) + k = omega arith in subst (IsOwn b) e (c.own (j0 + k) (omega (arith, lt, inside)));
      places = record { each = λ k ty at. let e : ra + (j0 + k) ≡ (ra + j0) + k = omega arith in subst (λ z. HasType syms1 z ty) e (c.places.each (j0 + k) ty (fits k ty at)) };
      code = code_as b ops0 ops1 syms0 syms1 Anything (In (ra + j0) inner) _ _ (λ i inputs a s. then_value (sem inputs s) (λ vs s1. Gives (sym (field_taken (frame_at b inputs) kind m part vs is_kind) i) s1)) (
          code_to b ops0 ops1 syms0 syms1 Anything (In ra types) (In (ra + j0) inner) (λ vs. take (length inner) (drop j0 vs)) (λ inputs a. sem inputs) (λ syms vs s x ext rel p. in_field ra j0 types inner vs x fits p) c.code);
    }

-- ---- a structure is assigned

structure_written : (frame : Frame) (k m : ℕ) (part : Part) (xs : List AnyValue) (s : State) → part.kind ≡ Structure m → write_part frame (root.Variable k) part [] xs s ≡ write_leaves (first_leaf frame k part) xs s
structure_written frame k m part xs s e =
    ap (λ z. write_part frame (root.Variable k) (record { fields = part.fields; kind = z; component = part.component }) [] xs s) e

-- one op for each leaf; the value stays where it was
pub assign_structure_code : (b : Body) (k m : ℕ) (part : Part) (ops0 ops1 ops2 : List Op) (syms0 syms1 : List Symbol) (r w : ℕ) (types : List Ty) (rs : List (Option ℕ)) (sem : Inputs → Meaning) → b.calm ≡ false → Room b syms0 → part.kind ≡ Structure m → AreLeaves b (place_of b.structures b.kinds k + leaves_before b.structures (kind_in b.kinds k) part.fields) w types → IsRow rs r (length types) → (r + length types ≤ w) ⊎ (w + length types ≤ r) → ExprCode b ops0 ops1 syms0 syms1 r types sem → MoveCode ops1 ops2 w rs → ExprCode b ops0 ops2 syms0 syms1 r types (λ inputs. assigned (frame_at b inputs) (root.Variable k) part [] (sem inputs))
unfolding in_order
assign_structure_code b k m part ops0 ops1 ops2 syms0 syms1 r w types rs sem loud room kind leaves row apart c mv =
    let k0 = place_of b.structures b.kinds k + leaves_before b.structures (kind_in b.kinds k) part.fields in
    let l0 = c.code.grows.ops.longer in let l1 = mv.grows.longer in
    record {
      within = c.within;
      own = c.own;
      places = c.places;
      code = record {
        grows = record { ops = extends_on ops0 ops1 ops2 c.code.grows.ops mv.grows; syms = c.code.grows.syms };
        runs = λ inputs from steps syms a src cod wired cov ext rel nothing.
            let roomS = room_later b syms0 syms (extends_on syms0 syms1 syms c.code.grows.syms ext) room in
            seq_code b from steps syms (In r types) (In r types) (length syms0) (length syms0) (length ops0) (length ops1) (length ops2) cod (sem inputs src) (λ v s. Gives v (write_part (frame_at b inputs) (root.Variable k) part [] v s)) (omega arith) l1 (c.code.runs inputs from steps syms tt src cod wired (covers_before syms steps ops1 ops2 (length ops0) (length ops0) (omega arith) mv.grows cov) ext rel tt) (λ v s x rel1 kept1 p.
            let did = block_moves b ops1 ops2 w rs types v inputs from steps syms x mv wired (covers_before syms steps ops2 ops2 (length ops0) (length ops1) l0 (extends_self ops2) cov) (leaves_variables b syms k0 w types roomS leaves) (row_sources b w r (length types) rs row c.own apart) (row_held rs r types v x row p) in
            let y = did.0 in
            let n : length v ≡ length types = sym (length-map v type_of) ∙ ap length p.typed in
            let rel2 = related_block b syms roomS k0 w types leaves v s x y p.typed did.2 rel1 in (
              y,
              record {
                leads = did.1;
                related = subst (λ z. Related b syms z y) (sym (structure_written (frame_at b inputs) k m part v s kind)) rel2;
                kept = kept_block b syms roomS k0 w types leaves (length syms0) v x y loud p.typed did.2;
              },
              record {
                held = record { each = λ j u at. let lt = get_some v j u at in did.2.outside (r + j) (⊎_elim (λ l. inl (omega (arith, l, lt, n))) (λ g. inr (omega (arith, g, n))) apart) ∙ p.held.each j u at };
                typed = p.typed;
              },
            ));
      };
    }
