-- Reading variables, globals and parts of them: the indices, and then the leaf.
use Rattle.std.proofs.Common.{◌≡◌, ℕ, ◌+◌, ◌<◌, ◌≤◌, ⊎_elim, List, [], ◌∷◌, ◌++◌, length, map, Option, Some, true, refl, sym, ap, ◌∙◌, subst, arith}
use Rattle.std.specs.Prelude.{slice_get}
use Rattle.osl_value.specs.declared.types.Ty.{Ty}
use Rattle.osl_value.specs.AnyValue.{AnyValue, type_of}
use Rattle.osl_layer.specs.Globals.{type_of_global}
use Rattle.osl_layer.specs.Layer.{Inputs, Input, From, Fixed, Default}
use Rattle.osl_layer.specs.declared.global.GlobalName.{GlobalName}
use Rattle.osl_overload.specs.declared.signature.Kind.TheVariants.{Value}
use Rattle.oso_code.specs.declared.op.Op.{Op}
use Rattle.oso_code.specs.declared.symbol.Symbol.{Symbol}
use Rattle.oso_code.specs.Run as R
use Rattle.oso_code.specs.Steps.{Step}
use Rattle.osl_typed.specs.declared.expr.Part.{Part}
use Rattle.osl_typed.specs.declared.expr.Root.{Root}
use Rattle.osl_typed.specs.declared.expr.Root.TheVariants as root
use Rattle.osl_typed.specs.Frames.{leaf_count, leaves_before, place_of, kind_in}
use Rattle.osl_typed.specs.State.{State, Gives, then_value, in_order, leaves_at}
use Rattle.osl_typed.specs.Parts.{Frame, single, selected, read_input, first_leaf, all_indices}
use Rattle.osl_typed.specs.Expressions.{Meaning, read_part, indexed}
use Rattle.osl_value.specs.declared.op_name.OpName.{OpName}
use Rattle.osl_value.specs.Apply.{apply}
use Rattle.std.proofs.lemmas.List.{length-map}
use Rattle.osl_value.proofs.TableLaws.{applied_type}
use Rattle.osl_gencode.specs.PartCodes.{Computed, SelectCode, AllUnder, AllOwn, Selects}
use Rattle.osl_gencode.specs.Relation.{IsOwn, Wired, In, Related}
use Rattle.osl_gencode.specs.Growth.{Extends, Covers}
use Rattle.osl_gencode.specs.Codes.{ExprCode, ListCode, AllIn, Place, Anything, AllWithin, Code}
use Rattle.osl_gencode.specs.Bodies.{symbol_of, global_of, Body, IsVariable, Room, frame_at, frame_end, IsNew}
use Rattle.osl_gencode.specs.RunEnds.{GivesCode}
use Rattle.osl_gencode.proofs.Operations.{all_unwired, AllSingle, firsts, one_place, own_one}
use Rattle.osl_gencode.proofs.Growing.{get_some, variable_later, extends_on, variable_typed, covers_before, extends_self, push_length, extends_push, at_push, get_seam}
use Rattle.osl_gencode.proofs.RelatedStates.{above_own, global_own, global_low, room_later, kept_older, leaf_within}
use Rattle.osl_gencode.proofs.Assignments.{indices_are, unnamed, Named, unwired_append, named, named_unwired, map_append}
use Rattle.osl_gencode.proofs.CodeLists.{code_then, code_more, in_order_then, code_as}
use Rattle.osl_gencode.proofs.OneOp.{in_one, all_own, op_of, reading_step}
use Rattle.osl_gencode.proofs.Targets.{stored_own}
use Rattle.osl_gencode.proofs.LeafReads.{read_gives, HasRead}
use Rattle.osl_gencode.proofs.AndNode.{new_variable}
use Rattle.osl_gencode.proofs.PartSelects.{own_left, own_right, under_more, same_values, under_right}
use Rattle.osl_gencode.proofs.Sequels.{seq_code}

-- ---- states

-- one symbol after the frame was written
pub related_computed : (b : Body) (syms : List Symbol) (room : Room b syms) (r : ℕ) (v : AnyValue) (s0 : ℕ) (src : State) (x y : R.State) → frame_end b ≤ s0 → Computed syms r v s0 x y → Related b syms src x → Related b syms src y
related_computed b syms room r v s0 src x y le c rel = record {
  vars = λ k h. (let q = (leaf_within b syms room k h).1 in c.older (symbol_of b k) (omega (arith, q, le))) ∙ rel.vars k h;
  typed = rel.typed;
  globals = λ g. (let q = global_low b syms room g in c.older (global_of b g) (omega (arith, q, le))) ∙ rel.globals g;
  global_types = rel.global_types;
  turns = c.turns ∙ rel.turns;
  reads = c.reads ∙ rel.reads;
  consts = λ k symbol here is. c.consts k symbol here is ∙ rel.consts k symbol here is;
}

module _ (b : Body) (from : R.Sources) (steps : List Step) (syms : List Symbol) (room : Room b syms) where
  -- what indices select of a symbol
  pub select_gives : (ops0 ops1 : List Op) (syms0 syms1 : List Symbol) (w : ℕ) (ty : Ty) (rs : List ℕ) (r : ℕ) (to : Ty) (v : AnyValue) (is : List AnyValue) (src : State) (x : R.State) → SelectCode ops0 ops1 syms0 syms1 w ty rs r to → Covers syms steps ops1 (length ops0) → Extends syms1 syms → frame_end b ≤ length syms0 → ((k : ℕ) → length syms0 ≤ k → from k ≡ R.Own) → AllOwn from (w ∷ rs) → AllUnder (length syms0) (w ∷ rs) → x.values w ≡ v → type_of v ≡ ty → map x.values rs ≡ is → Related b syms src x → GivesCode b from steps syms (length syms0) (In r (to ∷ [])) (length ops0) (length ops1) x (Gives (selected ty v is ∷ []) src)
  select_gives ops0 ops1 syms0 syms1 w ty rs r to v is src x c cov ext le above own under v_is tv values rel =
      let did = c.runs from steps syms x cov ext (ap type_of v_is ∙ tv) own above under in
      let y = did.0 in
      let value = did.2.value ∙ ap (λ z. selected ty z (map x.values rs)) v_is ∙ ap (selected ty v) values in (
        y,
        record {
          leads = did.1;
          related = related_computed b syms room r (selected ty (x.values w) (map x.values rs)) (length syms0) src x y le did.2 rel;
          kept = kept_older b (length syms0) x y did.2.older;
        },
        in_one r to (selected ty v is) y value (sym (ap type_of value) ∙ did.3),
      )

pub singles_under : (b : Body) (hi n : ℕ) (ps : List Place) → hi ≤ n → AllSingle ps → AllWithin b hi ps → AllUnder n (firsts ps)
singles_under b hi n [] le one all = tt
singles_under b hi n (p ∷ ps) le one all = let a = all.0 in let o = one.0 in (omega (arith, a, o, le), singles_under b hi n ps le one.1 all.2)

pub under_append : (n : ℕ) (rs cs : List ℕ) → AllUnder n rs → AllUnder n cs → AllUnder n (rs ++ cs)
under_append n [] cs a c = c
under_append n (r ∷ rs) cs a c = (a.0, under_append n rs cs a.1 c)

pub named_under : (b : Body) (syms : List Symbol) (o : Option ℕ) (cs : List ℕ) → Named b syms o cs → AllUnder (length syms) cs
named_under b syms _ _ unnamed = tt
named_under b syms _ _ (named m c symbol here is v own) = (get_some syms c symbol here, tt)

-- the symbol that is given at the end is no input
pub selected_own : (b : Body) (syms0 : List Symbol) (room : Room b syms0) (ops ops1 : List Op) (syms syms1 : List Symbol) (w : ℕ) (ty : Ty) (rs : List ℕ) (r : ℕ) (to : Ty) → Extends syms0 syms → IsOwn b w → SelectCode ops ops1 syms syms1 w ty rs r to → IsOwn b r
selected_own b syms0 room ops ops1 syms syms1 w ty rs r to ext own c =
    let rw = room.within in let l = ext.longer in
    ⊎_elim (λ (q : (r ≡ w) × (rs ≡ [])). subst (IsOwn b) (sym (q.0)) own) (λ (q : (length syms ≤ r) × (r < length syms1)). let a = q.0 in above_own b syms0 room r (omega (arith, rw, l, a))) c.place

pub selected_within : (ops ops1 : List Op) (syms syms1 : List Symbol) (w : ℕ) (ty : Ty) (rs : List ℕ) (r : ℕ) (to : Ty) → w < length syms → SelectCode ops ops1 syms syms1 w ty rs r to → r + 1 ≤ length syms1
selected_within ops ops1 syms syms1 w ty rs r to lt c =
    let l = c.grows.syms.longer in
    ⊎_elim (λ (q : (r ≡ w) × (rs ≡ [])). let e = q.0 in omega (arith, e, lt, l)) (λ (q : (length syms ≤ r) × (r < length syms1)). let a = q.1 in omega (arith, a)) c.place

-- ---- what no input reaches

-- symbol w is the leaf that a part of a root is read from
pub record LeafSource (b : Body) (syms0 : List Symbol) (rt : Root) (part : Part) (ty : Ty) (w : ℕ) : Type 0 where
  pub leaf : State → AnyValue
  pub own : IsOwn b w
  pub low : w < frame_end b
  pub variable : IsVariable syms0 w ty
  pub holds : (syms : List Symbol) (s : State) (x : R.State) → Related b syms s x → x.values w ≡ leaf s
  pub typed : (syms : List Symbol) (s : State) (x : R.State) → Related b syms s x → type_of (leaf s) ≡ ty
  pub reads : (inputs : Inputs) (from : R.Sources) → Wired b inputs from → (is : List AnyValue) (s : State) → read_part (frame_at b inputs) rt part is s ≡ Gives (selected ty (leaf s) (all_indices part is) ∷ []) s

-- the leaf of a part, by the kind
leaf_read : (frame : Frame) (k : ℕ) (part : Part) (ty : Ty) (is : List AnyValue) (s : State) → part.kind ≡ Value ty → read_part frame (root.Variable k) part is s ≡ then_value (read_input (frame.inputs k) k (s.vars (first_leaf frame k part) ∷ []) s) (λ vs s1. Gives (selected ty (single vs) (all_indices part is) ∷ []) s1)
unfolding leaves_at
leaf_read frame k part ty is s e =
    ap (λ z. read_part frame (root.Variable k) (record { fields = part.fields; kind = z; component = part.component }) is s) e

global_read : (frame : Frame) (g : GlobalName) (part : Part) (ty : Ty) (is : List AnyValue) (s : State) → part.kind ≡ Value ty → read_part frame (root.Global g) part is s ≡ Gives (selected ty (s.globals g) (all_indices part is) ∷ []) s
global_read frame g part ty is s e =
    ap (λ z. read_part frame (root.Global g) (record { fields = part.fields; kind = z; component = part.component }) is s) e

module _ (b : Body) (syms0 : List Symbol) (room : Room b syms0) where
  pub variable_source : (k : ℕ) (part : Part) (ty : Ty) → b.stored k ≡ true → part.kind ≡ Value ty → slice_get b.types (place_of b.structures b.kinds k + leaves_before b.structures (kind_in b.kinds k) part.fields) ≡ Some ty → leaves_before b.structures (kind_in b.kinds k) part.fields < leaf_count b.structures (kind_in b.kinds k)
      → LeafSource b syms0 (root.Variable k) part ty (symbol_of b (place_of b.structures b.kinds k + leaves_before b.structures (kind_in b.kinds k) part.fields))
  variable_source k part ty may kind at inside =
      let j = leaves_before b.structures (kind_in b.kinds k) part.fields in
      let k0 = place_of b.structures b.kinds k + j in
      let lt : k0 < length b.types = get_some b.types k0 ty at in
      record {
        leaf = λ s. s.vars k0;
        own = stored_own b k j may lt inside;
        low = (leaf_within b syms0 room k0 lt).1;
        variable = room.leaves k0 ty at;
        holds = λ syms s x rel. rel.vars k0 lt;
        typed = λ syms s x rel. rel.typed k0 ty at;
        reads = λ inputs from wired is s. leaf_read (frame_at b inputs) k part ty is s kind ∙ unconnected inputs from wired is s (inputs k) refl;
      }
    where
      unconnected : (inputs : Inputs) (from : R.Sources) → Wired b inputs from → (is : List AnyValue) (s : State) (i : Input) → inputs k ≡ i → then_value (read_input i k (s.vars (first_leaf (frame_at b inputs) k part) ∷ []) s) (λ vs s1. Gives (selected ty (single vs) (all_indices part is) ∷ []) s1) ≡ Gives (selected ty (s.vars (first_leaf (frame_at b inputs) k part)) (all_indices part is) ∷ []) s
      unconnected inputs from wired is s (From o) e = absurd (wired.unwired k o may e)
      unconnected inputs from wired is s (Fixed v) e = refl
      unconnected inputs from wired is s Default e = refl

  pub global_source : (g : GlobalName) (part : Part) → part.kind ≡ Value (type_of_global g) → LeafSource b syms0 (root.Global g) part (type_of_global g) (global_of b g)
  global_source g part kind = record {
    leaf = λ s. s.globals g;
    own = global_own b syms0 room g;
    low = global_low b syms0 room g;
    variable = room.globals g;
    holds = λ syms s x rel. rel.globals g;
    typed = λ syms s x rel. rel.global_types g;
    reads = λ inputs from wired is s. global_read (frame_at b inputs) g part (type_of_global g) is s kind;
  }

-- ---- the nodes

module _ (b : Body) (rt : Root) (part : Part) (ps : List Place) (cs : List ℕ) (r : ℕ) (to : Ty) where
  abbrev Read : (Inputs → List Meaning) → Inputs → Meaning
  Read indices inputs s = indexed (indices inputs) s (λ is s1. read_part (frame_at b inputs) rt part is s1)

  meaning : (indices : Inputs → List Meaning) (inputs : Inputs) (s : State) → Read indices inputs s ≡ then_value (in_order (indices inputs) s Gives) (λ vss s1. read_part (frame_at b inputs) rt part (map single vss) s1)
  meaning indices inputs s = in_order_then (indices inputs) s (λ vss s1. read_part (frame_at b inputs) rt part (map single vss) s1)

  -- after the indices: what the source reads of the leaf
  pub source_reads : (opsI ops1 : List Op) (syms0 symsI symsN syms1 : List Symbol) (w : ℕ) (ty : Ty) → Room b syms0 → LeafSource b syms0 rt part ty w → AllSingle ps → AllWithin b (length symsI) ps → Extends syms0 symsI → Extends symsI symsN → Named b symsN part.component cs → SelectCode opsI ops1 symsN syms1 w ty (firsts ps ++ cs) r to → Code b opsI ops1 symsN syms1 (AllIn ps) (In r (to ∷ [])) (λ inputs vss s1. read_part (frame_at b inputs) rt part (map single vss) s1)
  source_reads opsI ops1 syms0 symsI symsN syms1 w ty room src one places extI extN name c =
      let rw = room.within in let lI = extI.longer in let lN = extN.longer in let low = src.low in
      let ext0 = extends_on syms0 symsI symsN extI extN in
      record {
        grows = c.grows;
        runs = λ inputs from steps syms vss s x wired cov ext rel all.
            let extS = extends_on symsN syms1 syms c.grows.syms ext in
            let roomS = room_later b syms0 syms (extends_on syms0 symsN syms ext0 extS) room in
            let owns = all_own b inputs from (w ∷ (firsts ps ++ cs)) wired (src.own, unwired_append b (firsts ps) cs (all_unwired b (length symsI) ps one places) (named_unwired b symsN part.component cs name)) in
            let under = under_append (length symsN) (firsts ps) cs (singles_under b (length symsI) (length symsN) ps lN one places) (named_under b symsN part.component cs name) in
            subst (GivesCode b from steps syms (length symsN) (In r (to ∷ [])) (length opsI) (length ops1) x) (sym (src.reads inputs from wired (map single vss) s)) (
            select_gives b from steps syms roomS opsI ops1 symsN syms1 w ty (firsts ps ++ cs) r to (src.leaf s) (all_indices part (map single vss)) s x c cov ext (omega (arith, rw, lI, lN)) (λ k l. above_own b syms0 room k (omega (arith, rw, lI, lN, l)) inputs from wired) owns (omega (arith, low, rw, lI, lN), under) (src.holds syms s x rel) (src.typed syms s x rel) (indices_are b symsN syms part ps cs vss s x extS name one all rel) rel);
      }

  -- a leaf that no input reaches is read where it is, and without indices it needs no op
  pub source_code : (ops0 opsI ops1 : List Op) (syms0 symsI symsN syms1 : List Symbol) (w : ℕ) (ty : Ty) (indices : Inputs → List Meaning) → Room b syms0 → LeafSource b syms0 rt part ty w → AllSingle ps → ListCode b ops0 opsI syms0 symsI ps indices → Extends symsI symsN → Named b symsN part.component cs → SelectCode opsI ops1 symsN syms1 w ty (firsts ps ++ cs) r to → ExprCode b ops0 ops1 syms0 syms1 r (to ∷ []) (Read indices)
  source_code ops0 opsI ops1 syms0 symsI symsN syms1 w ty indices room src one ci extN name c =
      let rw = room.within in let lI = ci.code.grows.syms.longer in let lN = extN.longer in let low = src.low in
      let ext0 = extends_on syms0 symsI symsN ci.code.grows.syms extN in
      record {
        within = selected_within opsI ops1 symsN syms1 w ty (firsts ps ++ cs) r to (omega (arith, low, rw, lI, lN)) c;
        own = own_one b r (selected_own b syms0 room opsI ops1 symsN syms1 w ty (firsts ps ++ cs) r to ext0 src.own c);
        places = one_place syms1 r to (c.typed (variable_typed symsN w ty (variable_later syms0 symsN w ty ext0 src.variable)));
        code = code_as b ops0 ops1 syms0 syms1 Anything (In r (to ∷ [])) _ _ (λ j inputs a s. sym (meaning indices inputs s) j) (
            code_then b ops0 opsI ops1 syms0 symsN syms1 Anything (AllIn ps) (In r (to ∷ [])) (λ inputs a s. in_order (indices inputs) s Gives) (λ inputs vss s1. read_part (frame_at b inputs) rt part (map single vss) s1) (code_more b ops0 opsI syms0 symsI symsN Anything (AllIn ps) (λ inputs a s. in_order (indices inputs) s Gives) extN ci.code) (source_reads opsI ops1 syms0 symsI symsN syms1 w ty room src one ci.within ci.code.grows.syms extN name c));
      }

-- ---- what may be connected

-- a list of indices that was split
split_values : (f : ℕ → AnyValue) (hs rs ks : List ℕ) → hs ++ rs ≡ ks → map f ks ≡ map f hs ++ map f rs
split_values f hs rs ks e = sym (ap (map f) e) ∙ map_append f hs rs

split_under : (n : ℕ) (hs rs ks : List ℕ) → hs ++ rs ≡ ks → AllUnder n ks → AllUnder n rs
split_under n hs rs ks e all = under_right n hs rs (subst (AllUnder n) (sym e) all)

module _ (b : Body) (k : ℕ) (part : Part) (ps : List Place) (cs : List ℕ) (r : ℕ) (last : Ty) where
  -- The first op reads the variable, and is of the first indices, or copies the leaf where there are none. The others are of what it gives.
  pub variable_code : (ops0 opsI ops1 : List Op) (syms0 symsI symsN syms1 : List Symbol) (ty mid : Ty) (name : OpName) (hs rs : List ℕ) (symbol : Symbol) (indices : Inputs → List Meaning) → Room b syms0 → part.kind ≡ Value ty → slice_get b.types (place_of b.structures b.kinds k + leaves_before b.structures (kind_in b.kinds k) part.fields) ≡ Some ty → leaves_before b.structures (kind_in b.kinds k) part.fields < leaf_count b.structures (kind_in b.kinds k)
      → AllSingle ps → ListCode b ops0 opsI syms0 symsI ps indices → Extends symsI symsN → Named b symsN part.component cs → hs ++ rs ≡ firsts ps ++ cs → IsNew symbol mid → Selects ty name mid (length hs) (length rs)
      → SelectCode (opsI ++ op_of name (length symsN) (symbol_of b (place_of b.structures b.kinds k + leaves_before b.structures (kind_in b.kinds k) part.fields) ∷ hs) ∷ []) ops1 (symsN ++ symbol ∷ []) syms1 (length symsN) mid rs r last
      → ExprCode b ops0 ops1 syms0 syms1 r (last ∷ []) (λ inputs s. indexed (indices inputs) s (λ is s1. read_part (frame_at b inputs) (root.Variable k) part is s1))
  variable_code ops0 opsI ops1 syms0 symsI symsN syms1 ty mid name hs rs symbol indices room kind here inside one ci extN is_named split new sel c =
      let j = leaves_before b.structures (kind_in b.kinds k) part.fields in
      let k0 = place_of b.structures b.kinds k + j in
      let t = length symsN in
      let op = op_of name t (symbol_of b k0 ∷ hs) in
      let opsF = opsI ++ op ∷ [] in
      let symsT = symsN ++ symbol ∷ [] in
      let rw = room.within in let lI = ci.code.grows.syms.longer in let lN = extN.longer in let kT = push_length symsN symbol in let kC = c.grows.syms.longer in
      let lF = push_length opsI op in let lC = c.grows.ops.longer in
      let lt : k0 < length b.types = get_some b.types k0 ty here in
      let ext0 = extends_on syms0 symsI symsN ci.code.grows.syms extN in
      let extN1 = extends_on symsN symsT syms1 (extends_push symsN symbol) c.grows.syms in
      let toT = extends_on opsI opsF ops1 (extends_push opsI op) c.grows.ops in
      let all = unwired_append b (firsts ps) cs (all_unwired b (length symsI) ps one ci.within) (named_unwired b symsN part.component cs is_named) in
      let under = under_append t (firsts ps) cs (singles_under b (length symsI) t ps lN one ci.within) (named_under b symsN part.component cs is_named) in
      let own_t : IsOwn b t = above_own b syms0 room t (omega (arith, rw, lI, lN)) in
      record {
        within = selected_within opsF ops1 symsT syms1 t mid rs r last (omega (arith, kT)) c;
        own = own_one b r (selected_own b syms0 room opsF ops1 symsT syms1 t mid rs r last (extends_on syms0 symsN symsT ext0 (extends_push symsN symbol)) own_t c);
        places = one_place syms1 r last (c.typed (record { symbol = symbol; here = get_seam symsN symbol; type = new.typed }));
        code = code_as b ops0 ops1 syms0 syms1 Anything (In r (last ∷ [])) _ _ (λ i inputs a s. sym (in_order_then (indices inputs) s (λ vss s1. read_part (frame_at b inputs) (root.Variable k) part (map single vss) s1)) i) (
            code_then b ops0 opsI ops1 syms0 symsN syms1 Anything (AllIn ps) (In r (last ∷ [])) (λ inputs a s. in_order (indices inputs) s Gives) (λ inputs vss s1. read_part (frame_at b inputs) (root.Variable k) part (map single vss) s1) (code_more b ops0 opsI syms0 symsI symsN Anything (AllIn ps) (λ inputs a s. in_order (indices inputs) s Gives) extN ci.code) (record {
              grows = record { ops = toT; syms = extN1 };
              runs = λ inputs from steps syms vss s x wired cov ext rel all_in.
                  let extT = extends_on symsT syms1 syms c.grows.syms ext in
                  let extS = extends_on symsN syms1 syms extN1 ext in
                  let roomS = room_later b syms0 syms (extends_on syms0 symsN syms ext0 extS) room in
                  let var = new_variable symsN syms symbol mid new extT in
                  let owns = subst (AllOwn from) (sym split) (all_own b inputs from (firsts ps ++ cs) wired all) in
                  let cov1 = covers_before syms steps opsF ops1 (length opsI) (length opsI) (omega arith) c.grows.ops cov in
                  let covC = covers_before syms steps ops1 ops1 (length opsI) (length opsF) (omega (arith, lF)) (extends_self ops1) cov in
                  let at = at_push syms steps opsI op (length opsI) (omega arith) cov1 ∙ ap Some (reading_step syms (length opsI) name t mid (symbol_of b k0 ∷ hs) sel.plain sel.reading var) in
                  let is = map single vss in
                  let values : map x.values hs ++ map x.values rs ≡ all_indices part is = sym (split_values x.values hs rs (firsts ps ++ cs) split) ∙ indices_are b symsN syms part ps cs vss s x extS is_named one all_in rel in
                  let first : (o : Option AnyValue) → inputs k ≡ From o → symbol_of b k0 ≡ k = λ o e. let f = wired.first k o e in let n = f.1 in (let z : k0 ≡ place_of b.structures b.kinds k = omega (arith, inside, n) in ap (symbol_of b) z ∙ f.0) in
                  let typed : (v : AnyValue) → inputs k ≡ From (Some v) → type_of v ≡ ty = λ v e. wired.typed k v ty e (let n = (wired.first k (Some v) e).1 in let z : place_of b.structures b.kinds k ≡ k0 = omega (arith, inside, n) in ap (slice_get b.types) z ∙ here) in
                  let read = read_gives b from steps syms roomS t (length opsI) t k k0 name ty mid hs (inputs k) s x (omega arith) (omega (arith, rw, lI, lN)) var here (wired.here k j lt inside) first typed at (own_left from hs rs owns) rel in
                  let read1 = subst (λ z. GivesCode b from steps syms t (HasRead syms t name ty mid hs x) (length opsI) z x (read_input (inputs k) k (s.vars k0 ∷ []) s)) (sym lF) read in
                  subst (GivesCode b from steps syms t (In r (last ∷ [])) (length opsI) (length ops1) x) (sym (leaf_read (frame_at b inputs) k part ty is s kind)) (
                  seq_code b from steps syms (HasRead syms t name ty mid hs x) (In r (last ∷ [])) t (length symsT) (length opsI) (length opsF) (length ops1) x (read_input (inputs k) k (s.vars k0 ∷ []) s) (λ vs s1. Gives (selected ty (single vs) (all_indices part is) ∷ []) s1) (omega (arith, kT)) lC read1 (λ vs s1 y rel1 kept1 p.
                  let same : (i : ℕ) → i < t → y.values i ≡ x.values i = λ i l. p.others i (λ e. absurd (omega (arith, e, l))) in
                  let under_rs = split_under t hs rs (firsts ps ++ cs) split under in
                  let v = apply name mid (single vs ∷ map x.values hs) in
                  let value : selected ty (single vs) (all_indices part is) ≡ selected mid v (map x.values rs) = ap (selected ty (single vs)) (sym values) ∙ sel.means (single vs) (map x.values hs) (map x.values rs) p.typed (length-map hs x.values) (length-map rs x.values) in
                  subst (λ z. GivesCode b from steps syms (length symsT) (In r (last ∷ [])) (length opsF) (length ops1) y (Gives (z ∷ []) s1)) (sym value) (
                  select_gives b from steps syms roomS opsF ops1 symsT syms1 t mid rs r last v (map x.values rs) s1 y c covC ext (omega (arith, rw, lI, lN, kT)) (λ i l. above_own b syms0 room i (omega (arith, rw, lI, lN, kT, l)) inputs from wired) (own_t inputs from wired, own_right from hs rs owns) (omega (arith, kT), under_more t (length symsT) rs (omega (arith, kT)) under_rs) p.value (applied_type name mid (single vs ∷ map x.values hs) sel.has) (same_values t rs x y same under_rs) rel1)));
            }));
      }
