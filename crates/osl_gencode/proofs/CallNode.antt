-- The node of a call: its arguments, the frame, the body, and the outputs.
use Rattle.std.proofs.Common.{◌≡◌, ℕ, zero, suc, ◌+◌, ◌<◌, ◌≤◌, inr, List, [], ◌∷◌, ◌++◌, length, map, Some, true, refl, sym, ap, ◌∙◌, subst, arith}
use Rattle.std.specs.Prelude.{slice_get, slice_set}
use Rattle.std.specs.List.{flat_map}
use Rattle.std.proofs.Math.ListN.{length-set}
use Rattle.std.proofs.lemmas.List.{length-map}
use Rattle.osl_value.specs.declared.types.Ty.{Ty}
use Rattle.osl_value.specs.AnyValue.{AnyValue, type_of}
use Rattle.osl_layer.specs.Layer.{Inputs, Default}
use Rattle.osl_overload.specs.declared.signature.Formal.{Formal}
use Rattle.oso_code.specs.declared.op.Op.{Op}
use Rattle.oso_code.specs.declared.symbol.Symbol.{Symbol}
use Rattle.oso_code.specs.CodeRun.{stated}
use Rattle.oso_code.specs.Run as R
use Rattle.oso_code.specs.Steps.{Step, Exit}
use Rattle.osl_typed.specs.State.{State, Globals, Reads, ExpressionEnd, Gives, in_order, leaves_at}
use Rattle.osl_typed.specs.Frames.{leaves_of, leaf_count, place_of}
use Rattle.osl_typed.specs.Expressions.{Calls, Called, Came, Left, Lost, Passed, Copied, Lent, Passing, value_passed, after_call, called, indexed}
use Rattle.osl_typed.specs.Statements.{exec_all, finals_from, call_end, entered, function_frame}
use Rattle.osl_typed.specs.declared.shader.TypedFunction.{TypedFunction}
use Rattle.osl_value.specs.Laws.{HasValues}
use Rattle.osl_gencode.specs.Growth.{Extends, Covers}
use Rattle.osl_gencode.specs.Bodies.{is_const, Body, frame_end, symbol_of, global_of, frame_at, Room}
use Rattle.osl_gencode.specs.Relation.{Wired, Related, Kept, In}
use Rattle.osl_gencode.specs.RunEnds.{Leads, GivesCode, DoesCode}
use Rattle.osl_gencode.specs.Codes.{Code, Anything, ExprCode, StmtCode}
use Rattle.osl_gencode.specs.CallCodes.{ArgPlace, AllPassed, Entered, EnterCode, FinalsIn, IndicesIn, BackCode}
use Rattle.osl_gencode.specs.PartCodes.{AllUnder}
use Rattle.osl_gencode.proofs.Growing.{get_some, extends_self, extends_on, extends_push, extends_set, covers_before, covers_after, at_set, push_length, types_later}
use Rattle.osl_gencode.proofs.RangeRuns.{leads_on, end_later}
use Rattle.osl_gencode.proofs.RelatedStates.{high_symbol, leaf_within, global_low, room_later, params_low, kept_older, above_own}
use Rattle.osl_gencode.proofs.Sequels.{seq_code, gives_after}
use Rattle.osl_gencode.proofs.CodeLists.{in_order_then}
use Rattle.osl_gencode.proofs.InlinedBodies.{call_op, call_step, CalledCode, inlined}

-- ---- the caller's state after a call

back_related : (b : Body) (syms : List Symbol) (room : Room b syms) (lo : ℕ) (turns : ℕ) (reads : Reads) (s : State) (old new : R.State) → frame_end b ≤ lo → ((k : ℕ) → k < lo → new.values k ≡ old.values k) → new.turns ≡ turns → new.reads ≡ reads → ((k : ℕ) (symbol : Symbol) → slice_get syms k ≡ Some symbol → is_const symbol.class ≡ true → new.values k ≡ stated symbol.ty symbol.value) → Related b syms s old → Related b syms (record { vars = s.vars; globals = s.globals; turns = turns; reads = reads }) new
back_related b syms room lo turns reads s old new le low t r consts rel = record {
  vars = λ k h. let q = (leaf_within b syms room k h).1 in low (symbol_of b k) (omega (arith, q, le)) ∙ rel.vars k h;
  typed = rel.typed;
  globals = λ g. let q = global_low b syms room g in low (global_of b g) (omega (arith, q, le)) ∙ rel.globals g;
  global_types = rel.global_types;
  turns = t;
  reads = r;
  consts = consts;
}

-- ---- what is kept of the arguments

abbrev pub AllIndexed : ℕ → List ArgPlace → Type 0
AllIndexed lo [] = Unit {0}
AllIndexed lo (p ∷ ps) = AllUnder lo p.indices × AllIndexed lo ps

-- the formal parameters lie in the frame
abbrev pub FormalsFit : Body → ℕ → List Formal → Type 0
FormalsFit inner at [] = Unit {0}
FormalsFit inner at (f ∷ fs) = (at + leaf_count inner.structures f.kind ≤ length inner.types) × FormalsFit inner (at + leaf_count inner.structures f.kind) fs

pub leaves_length : (vars : ℕ → AnyValue) (at n : ℕ) → length (leaves_at vars at n) ≡ n
unfolding leaves_at
leaves_length vars at zero = refl
leaves_length vars at (suc n) = let h = leaves_length vars (at + 1) n in omega (arith, h)

pub leaf_is : (vars : ℕ → AnyValue) (at n k : ℕ) (v : AnyValue) → slice_get (leaves_at vars at n) k ≡ Some v → vars (at + k) ≡ v
unfolding leaves_at
leaf_is vars at zero k v h = absurd (cc h)
leaf_is vars at (suc n) zero v h = let e : at + 0 ≡ at = omega arith in let some : Some (vars at) ≡ Some v = h in ap vars e ∙ cc some
leaf_is vars at (suc n) (suc k) v h = let e : at + suc k ≡ (at + 1) + k = omega arith in ap vars e ∙ leaf_is vars (at + 1) n k v h

indices_kept : (lo : ℕ) (ps : List ArgPlace) (passed : List Passed) (x y : R.State) → ((k : ℕ) → k < lo → y.values k ≡ x.values k) → AllIndexed lo ps → AllPassed ps passed x → IndicesIn ps passed y
indices_kept lo [] [] x y same all p = tt
indices_kept lo [] (v ∷ vs) x y same all p = absurd p
indices_kept lo (q ∷ ps) [] x y same all p = absurd p
indices_kept lo (q ∷ ps) (Copied v ∷ vs) x y same all p = (p.0.1, indices_kept lo ps vs x y same all.1 p.1)
indices_kept lo (q ∷ ps) (Lent v root part is ∷ vs) x y same all p =
    (p.0.1, map_kept q.indices all.0 ∙ p.0.2, indices_kept lo ps vs x y same all.1 p.1)
  where
    map_kept : (rs : List ℕ) → AllUnder lo rs → map y.values rs ≡ map x.values rs
    map_kept [] u = refl
    map_kept (r ∷ rs) u = ap (λ z. z ∷ map y.values rs) (same r u.0) ∙ ap (λ l. x.values r ∷ l) (map_kept rs u.1)

-- the formal parameters have their types in the frame
abbrev pub FormalsTyped : Body → ℕ → List Formal → Type 0
FormalsTyped inner at [] = Unit {0}
FormalsTyped inner at (f ∷ fs) =
    ((k : ℕ) (ty : Ty) → slice_get (leaves_of inner.structures f.kind) k ≡ Some ty → slice_get inner.types (at + k) ≡ Some ty)
    × FormalsTyped inner (at + leaf_count inner.structures f.kind) fs

abbrev pub types_of_formals : Body → List Formal → List (List Ty)
types_of_formals inner formals = map (λ f. leaves_of inner.structures f.kind) formals

pub leaves_typed : (vars : ℕ → AnyValue) (at : ℕ) (types : List Ty) → ((k : ℕ) (ty : Ty) → slice_get types k ≡ Some ty → type_of (vars (at + k)) ≡ ty) → map type_of (leaves_at vars at (length types)) ≡ types
unfolding leaves_at
leaves_typed vars at [] h = refl
leaves_typed vars at (t ∷ types) h =
    let e : at ≡ at + 0 = omega arith in
    ap (λ z. z ∷ map type_of (leaves_at vars (at + 1) (length types))) (ap (λ z. type_of (vars z)) e ∙ h 0 t refl)
    ∙ ap (λ l. t ∷ l) (leaves_typed vars (at + 1) types (λ k ty is. let q : (at + 1) + k ≡ at + suc k = omega arith in ap (λ z. type_of (vars z)) q ∙ h (suc k) ty is))

finals_typed : (inner : Body) (at : ℕ) (formals : List Formal) (s : State) → FormalsTyped inner at formals → ((k : ℕ) (ty : Ty) → slice_get inner.types k ≡ Some ty → type_of (s.vars k) ≡ ty) → map (map type_of) (finals_from inner.structures at formals s.vars) ≡ types_of_formals inner formals
unfolding finals_from
finals_typed inner at [] s fit typed = refl
finals_typed inner at (f ∷ fs) s fit typed =
    ap (λ z. z ∷ map (map type_of) (finals_from inner.structures (at + leaf_count inner.structures f.kind) fs s.vars)) (leaves_typed s.vars at (leaves_of inner.structures f.kind) (λ k ty is. typed (at + k) ty (fit.0 k ty is)))
    ∙ ap (λ l. leaves_of inner.structures f.kind ∷ l) (finals_typed inner (at + leaf_count inner.structures f.kind) fs s fit.1 typed)

-- what the formal parameters hold at the end stands in the frame
finals_in : (inner : Body) (at : ℕ) (formals : List Formal) (s : State) (x : R.State) → FormalsFit inner at formals → ((k : ℕ) → k < length inner.types → x.values (inner.shift + k) ≡ s.vars k) → FinalsIn inner at (finals_from inner.structures at formals s.vars) x
unfolding finals_from
finals_in inner at [] s x fit vars = tt
finals_in inner at (f ∷ fs) s x fit vars =
    let n = leaf_count inner.structures f.kind in
    let e = leaves_length s.vars at n in (
      record {
        each = λ k v here. let l = get_some (leaves_at s.vars at n) k v here in let f0 = fit.0 in
            (let q : inner.shift + at + k ≡ inner.shift + (at + k) = omega arith in ap x.values q ∙ vars (at + k) (omega (arith, l, e, f0)) ∙ leaf_is s.vars at n k v here);
      },
      subst (λ z. FinalsIn inner (at + z) (finals_from inner.structures (at + n) fs s.vars) x) (sym e) (finals_in inner (at + n) fs s x fit.1 vars),
    )

-- ---- the node

module _ (b inner : Body) where
  enter_related : (result : List Ty) (s0 : ℕ) (syms : List Symbol) (passed : List Passed) (s : State) (x y : R.State) → Room b syms → frame_end b ≤ s0 → inner.split ≡ 0 → inner.globals ≡ b.globals → Related b syms s x → Entered inner result s0 (map value_passed passed) syms x y → Related inner syms (entered inner.types (map value_passed passed) s.globals s.turns s.reads) y
  enter_related result s0 syms passed s x y room le split globals rel en = record {
    vars = λ k h. ap y.values (high_symbol inner k (omega (arith, split))) ∙ en.frame k h;
    typed = en.typed;
    globals = λ g. let q = global_low b syms room g in (let e : global_of inner g ≡ global_of b g = omega (arith, globals) in ap y.values e) ∙ en.low (global_of b g) (omega (arith, q, le)) ∙ rel.globals g;
    global_types = rel.global_types;
    turns = en.turns ∙ rel.turns;
    reads = en.reads ∙ rel.reads;
    consts = en.consts;
  }

  -- the three ends of a call
  called_gives : (from : R.Sources) (steps : List Step) (syms : List Symbol) (inputs : Inputs) (types : List Ty) (formals : List Formal) (syms1 symsB syms2 : List Symbol) (opsJ ops2 : List Op) (ps : List ArgPlace) (passed : List Passed) (i m : ℕ) (s : State) (x0 x : R.State) (end : Called) → Room b syms → frame_end b ≤ length syms1 → length syms1 ≤ inner.start → inner.start ≡ inner.shift → inner.split ≡ 0 → frame_end inner + length types ≤ length symsB → length syms1 ≤ length symsB → inner.structures ≡ b.structures → m ≡ length opsJ → i ≤ m → FormalsFit inner 0 formals → FormalsTyped inner 0 formals → AllIndexed (length syms1) ps → AllPassed ps passed x0 → ((k : ℕ) → k < length syms1 → x.values k ≡ x0.values k) → Wired b inputs from → Covers syms steps ops2 (length opsJ) → Extends syms2 syms → Related b syms s x0 → BackCode b inner 0 (types_of_formals inner formals) opsJ ops2 symsB syms2 ps → CalledCode inner from steps syms types formals i m x end → GivesCode b from steps syms (length syms1) (In (frame_end inner) types) i (length ops2) x (after_call (frame_at b inputs) passed s end)
  called_gives from steps syms inputs types formals syms1 symsB syms2 opsJ ops2 ps passed i m s x0 x (Came result finals turns reads) room le later first split within sB same_s is_m order fit fitted indexed all low0 wired cov ext rel back (s', y, c) =
      let low : (k : ℕ) → k < length syms1 → y.values k ≡ x0.values k = λ k lt. c.low k (omega (arith, lt, later)) ∙ low0 k lt in
      let rel1 = back_related b syms room (length syms1) turns reads s x0 y le low (c.related.turns ∙ c.left) (c.related.reads ∙ c.seen) c.related.consts rel in
      let held = subst (λ z. FinalsIn inner 0 z y) (sym c.ends) (finals_in inner 0 formals s' y fit (λ k h. (let e = high_symbol inner k (omega (arith, split)) in sym (ap y.values e)) ∙ c.related.vars k h)) in
      let done = back.runs inputs from steps syms passed finals (record { vars = s.vars; globals = s.globals; turns = turns; reads = reads }) y wired cov ext rel1 (indices_kept (length syms1) ps passed x0 y low indexed all) held (ap (map (map type_of)) c.ends ∙ finals_typed inner 0 formals s' fitted c.related.typed) in
      let z = done.0 in
      let kept : Kept b (length syms1) x z = record { keeps = λ k h o. done.3.keeps k (omega (arith, h, sB)) o ∙ c.low k (omega (arith, h, later)); all = λ calm k h. done.3.all calm k (omega (arith, h, sB)) ∙ c.low k (omega (arith, h, later)) } in (
        z,
        record {
          leads = leads_on from steps i m (length ops2) x y z (let l = back.grows.ops.longer in omega (arith, l, is_m)) c.leads (subst (λ q. Leads from steps q (length ops2) y z) (sym is_m) done.1);
          related = done.2;
          kept = kept;
        },
        record {
          held = record { each = λ k v at. let l = get_some result k v at in let e : length result ≡ length types = sym (length-map result type_of) ∙ ap length c.typed in done.3.keeps (frame_end inner + k) (omega (arith, l, e, within)) (inr (omega (arith, le, later, first))) ∙ c.holds.each k v at };
          typed = c.typed;
        },
      )
  called_gives from steps syms inputs types formals syms1 symsB syms2 opsJ ops2 ps passed i m s x0 x (Left turns reads) room le later first split within sB same_s is_m order fit fitted indexed all low0 wired cov ext rel back (s', y, c) =
      let low : (k : ℕ) → k < length syms1 → y.values k ≡ x0.values k = λ k lt. c.low k (omega (arith, lt, later)) ∙ low0 k lt in
      let rel1 = back_related b syms room (length syms1) turns reads s x0 y le low (c.related.turns ∙ c.left) (c.related.reads ∙ c.seen) c.related.consts rel in (
        y,
        record {
          finishes = end_later from steps i m (length ops2) x (R.Jumps Exit y) (let l = back.grows.ops.longer in omega (arith, l, is_m)) c.finishes;
          related = rel1;
          kept = kept_older b (length syms1) x y (λ k h. c.low k (omega (arith, h, later)));
        },
      )
  called_gives from steps syms inputs types formals syms1 symsB syms2 opsJ ops2 ps passed i m s x0 x (Lost turns reads) room le later first split within sB same_s is_m order fit fitted indexed all low0 wired cov ext rel back (y, c) =
      (y, record { finishes = end_later from steps i m (length ops2) x (R.Spent y) (let l = back.grows.ops.longer in omega (arith, l, is_m)) c.finishes; reads = c.seen })

  pub call_code : (calls outer : Calls) (f : ℕ) (fn : TypedFunction) (ops0 ops1 opsP opsB ops2 : List Op) (syms0 syms1 symsF symsB syms2 : List Symbol) (types : List Ty) (ps : List ArgPlace) (x : Op) (args : Inputs → List Passing)
      → Room b syms0 → inner.types ≡ flat_map (leaves_of b.structures) fn.frame → types ≡ leaves_of b.structures fn.result → inner.kinds ≡ fn.frame
      → ((k : ℕ) (ty : Ty) → slice_get types k ≡ Some ty → HasValues ty) → FormalsFit inner 0 fn.formals → FormalsTyped inner 0 fn.formals → AllIndexed (length syms1) ps
      → ((vs : List (List AnyValue)) (globals : Globals) (turns : ℕ) (reads : Reads) → outer f vs globals turns reads ≡ call_end b.structures fn (exec_all (function_frame b.structures fn) calls fn.body (entered (flat_map (leaves_of b.structures) fn.frame) vs globals turns reads)))
      → Code b ops0 ops1 syms0 syms1 Anything (AllPassed ps) (λ inputs a s. in_order (args inputs) s Gives)
      → EnterCode b inner types ops1 opsP syms1 symsF ps
      → StmtCode inner types (opsP ++ x ∷ []) opsB symsF symsB (λ inputs. exec_all (frame_at inner inputs) calls fn.body)
      → BackCode b inner 0 (types_of_formals inner fn.formals) (slice_set opsB (length opsP) (call_op (length opsB))) ops2 symsB syms2 ps
      → ExprCode b ops0 ops2 syms0 syms2 (frame_end inner) types (λ inputs. called (frame_at b inputs) outer f (args inputs))
  call_code calls outer f fn ops0 ops1 opsP opsB ops2 syms0 syms1 symsF symsB syms2 types ps x args room is_types is_result is_kinds sound fit fitted indexed is_call ca ce cb ck =
      let i = length opsP in
      let opsX = opsP ++ x ∷ [] in
      let jump = call_op (length opsB) in
      let opsJ = slice_set opsB i jump in
      let lA = ca.grows.ops.longer in let lE = ce.grows.ops.longer in let lX = push_length opsP x in let lB = cb.grows.ops.longer in
      let lJ = length-set opsB i jump in let lK = ck.grows.ops.longer in
      let kA = ca.grows.syms.longer in let kE = ce.grows.syms.longer in let kB = cb.grows.syms.longer in let kK = ck.grows.syms.longer in
      let later = ce.later in let within = ce.within in let rw = room.within in
      let first = ce.own_frame.start in let split = ce.own_frame.split in let same_g = ce.own_frame.globals in let same_s = ce.own_frame.structures in let same_p = ce.own_frame.params in let low = params_low b syms0 room in
      let toB = extends_on opsP opsX opsB (extends_push opsP x) cb.grows.ops in
      let toJ = extends_set opsP opsB i jump toB (omega arith) in
      let to2 = extends_on opsP opsJ ops2 toJ ck.grows.ops in
      let ops12 = extends_on ops1 opsP ops2 ce.grows.ops to2 in
      let s12 = extends_on symsF symsB syms2 cb.grows.syms ck.grows.syms in
      let go : Inputs → List Passed → State → ExpressionEnd (List AnyValue) = λ inputs passed s1. after_call (frame_at b inputs) passed s1 (outer f (map value_passed passed) s1.globals s1.turns s1.reads) in
      record {
        within = omega (arith, within, kB, kK);
        own = λ k lt. above_own b syms0 room (frame_end inner + k) (omega (arith, rw, kA, later, first));
        places = types_later symsF syms2 (frame_end inner) types s12 ce.places;
        code = record {
          grows = record { ops = extends_on ops0 ops1 ops2 ca.grows.ops ops12; syms = extends_on syms0 syms1 syms2 ca.grows.syms (extends_on syms1 symsF syms2 ce.grows.syms s12) };
          runs = λ inputs from steps syms a src cod wired cov ext rel nothing.
              let extB = extends_on symsB syms2 syms ck.grows.syms ext in
              let extF = extends_on symsF symsB syms cb.grows.syms extB in
              let ext1 = extends_on syms1 symsF syms ce.grows.syms extF in
              let roomS = room_later b syms0 syms (extends_on syms0 syms1 syms ca.grows.syms ext1) room in
              let cov1 = covers_before syms steps ops1 ops2 (length ops0) (length ops0) (omega arith) ops12 cov in
              let covP = covers_before syms steps opsP ops2 (length ops0) (length ops1) lA to2 cov in
              let covJ = covers_before syms steps opsJ ops2 (length ops0) (length ops0) (omega arith) ck.grows.ops cov in
              let covK = covers_before syms steps ops2 ops2 (length ops0) (length opsJ) (omega (arith, lA, lE, lX, lB, lJ)) (extends_self ops2) cov in
              let atJ = at_set syms steps opsB i (length ops0) jump (omega (arith, lA, lE)) (omega (arith, lX, lB)) covJ ∙ ap Some (call_step syms i (length opsB)) in
              let covB = covers_after syms steps opsB i (length ops0) (length opsX) jump (omega (arith, lA, lE, lX)) (omega (arith, lX)) covJ in
              let defaults : Inputs = λ k. Default in
              let wired' : Wired inner defaults from = record {
                here = λ k j l1 l2. let p = place_of inner.structures inner.kinds k + j in let e = high_symbol inner p (omega (arith, split)) in wired.above (symbol_of inner p) (omega (arith, e, kA, later, first, rw, low));
                first = λ k o is. absurd (cc is);
                typed = λ k v ty is at. absurd (cc is);
                unwired = λ k o is e. absurd (cc e);
                above = λ k l. wired.above k (omega (arith, l, same_p));
              } in
              subst (GivesCode b from steps syms (length syms0) (In (frame_end inner) types) (length ops0) (length ops2) cod) (sym (in_order_then (args inputs) src (go inputs))) (
              seq_code b from steps syms (AllPassed ps) (In (frame_end inner) types) (length syms0) (length syms1) (length ops0) (length ops1) (length ops2) cod (in_order (args inputs) src Gives) (go inputs) kA ops12.longer (ca.runs inputs from steps syms tt src cod wired cov1 ext1 rel tt) (λ passed s y rel1 kept1 all.
              let en = ce.runs from steps syms passed y covP extF wired.above rel1.consts all in
              let z = en.0 in
              let in_frame = enter_related types (length syms1) syms passed s y z roomS (omega (arith, kA, rw)) split same_g rel1 en.2 in
              let ticked : Related inner syms (entered inner.types (map value_passed passed) s.globals s.turns s.reads) (R.ticked z) = record { vars = in_frame.vars; typed = in_frame.typed; globals = in_frame.globals; global_types = in_frame.global_types; turns = in_frame.turns; reads = in_frame.reads; consts = in_frame.consts } in
              let ran = cb.runs defaults from steps syms (entered inner.types (map value_passed passed) s.globals s.turns s.reads) (R.ticked z) wired' covB extB ticked in
              let ran1 = subst (λ q. DoesCode inner from steps syms (length symsF) types q (length opsB) (R.ticked z) (exec_all (frame_at inner defaults) calls fn.body (entered inner.types (map value_passed passed) s.globals s.turns s.reads))) lX ran in
              let came = inlined from steps i (length opsB) (omega (arith, lX, lB)) atJ inner syms types (length symsF) within (omega (arith, first)) z en.2.zeros sound fn (exec_all (frame_at inner defaults) calls fn.body (entered inner.types (map value_passed passed) s.globals s.turns s.reads)) (is_result ∙ ap (λ q. leaves_of q fn.result) (sym same_s)) ran1 in
              let means : call_end inner.structures fn (exec_all (frame_at inner defaults) calls fn.body (entered inner.types (map value_passed passed) s.globals s.turns s.reads)) ≡ outer f (map value_passed passed) s.globals s.turns s.reads
              = ap (λ q. call_end q fn (exec_all (record { structures = q; kinds = inner.kinds; inputs = defaults }) calls fn.body (entered inner.types (map value_passed passed) s.globals s.turns s.reads))) same_s
              ∙ ap (λ q. call_end b.structures fn (exec_all (record { structures = b.structures; kinds = q; inputs = defaults }) calls fn.body (entered inner.types (map value_passed passed) s.globals s.turns s.reads))) is_kinds
              ∙ ap (λ q. call_end b.structures fn (exec_all (function_frame b.structures fn) calls fn.body (entered q (map value_passed passed) s.globals s.turns s.reads))) is_types
              ∙ sym (is_call (map value_passed passed) s.globals s.turns s.reads) in
              let gives = called_gives from steps syms inputs types fn.formals syms1 symsB syms2 opsJ ops2 ps passed i (length opsB) s y z (outer f (map value_passed passed) s.globals s.turns s.reads) roomS (omega (arith, kA, rw)) later first split (omega (arith, within, kB)) (omega (arith, kE, kB)) same_s (sym lJ) (omega (arith, lX, lB)) fit fitted indexed all en.2.low wired covK ext rel1 ck (subst (CalledCode inner from steps syms types fn.formals i (length opsB) z) means came) in
              gives_after b from steps syms (In (frame_end inner) types) (length syms1) (length syms1) (length ops1) i (length ops2) y z (go inputs passed s) (omega arith) to2.longer en.1 (kept_older b (length syms1) y z (λ k h. en.2.low k h)) gives));
        };
      }
