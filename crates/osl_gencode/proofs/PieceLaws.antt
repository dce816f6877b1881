-- Pieces of code that make up a piece: nothing, an op, one piece after another, and pieces as the ranges of an op.
use Rattle.std.proofs.Common.{◌≡◌, ℕ, ◌+◌, ◌≤◌, List, [], ◌∷◌, ◌++◌, length, Option, Some, Bool, true, false, refl, sym, ap, ◌∙◌, subst, arith}
use Rattle.std.specs.Prelude.{slice_get, slice_set, IsTrue}
use Rattle.std.proofs.Math.ListN.{length-set}
use Rattle.osl_value.specs.declared.op_name.OpName.{OpName}
use Rattle.osl_value.specs.declared.op_name.OpName.TheVariants as O
use Rattle.osl_value.specs.declared.shader_kind.ShaderKind.{ShaderKind}
use Rattle.osl_value.specs.declared.types.Base.TheVariants.{Int}
use Rattle.osl_value.specs.Table.{is_control}
use Rattle.osl_value.specs.Types.{only}
use Rattle.oso_code.specs.declared.op.Op.{Op}
use Rattle.oso_code.specs.declared.symbol.Symbol.{Symbol}
use Rattle.oso_code.specs.Ops.{op_fits, operands, type_at}
use Rattle.oso_code.specs.Steps.{Step, Compute, Branch, Loop, Call, Leave, Way, Break, Continue, Return, Exit, span, step_of}
use Rattle.osl_gencode.specs.Growth.{Extends, Covers, Grows}
use Rattle.osl_gencode.specs.Pieces.{NeedsLoop, AreRanges, Piece}
use Rattle.osl_gencode.specs.Validity.{Fitting, Takes}
use Rattle.osl_gencode.proofs.AndNode.{if_op, if_step}
use Rattle.osl_gencode.proofs.FittingOps.{fitting_none, fitting_later, fitting_on, fitting_push, fitting_set, condition_fits, bare_fits}
use Rattle.osl_gencode.proofs.Growing.{extends_self, extends_on, extends_push, extends_set, push_length, covers_before, covers_after, at_set, at_push, grows_on}
use Rattle.osl_gencode.proofs.InlinedBodies.{call_op, call_step}
use Rattle.osl_gencode.proofs.LoopNodes.{while_op, while_step, for_op, for_step, do_op, do_step}
use Rattle.osl_gencode.proofs.LoopsAround.{leaves_none, leaves_on, leaves_plain, leaves_branch, leaves_call, leaves_loop, leaves_past, leaves_inside}
use Rattle.osl_gencode.proofs.NestedRanges.{shaped_none, shaped_on, shaped_plain, shaped_branch, shaped_for, shaped_do, shaped_call}
use Rattle.osl_gencode.proofs.OneOp.{op_of}
use Rattle.osl_gencode.proofs.RangeDepth.{deep_none, deep_more, deep_on, deep_plain, deep_branch, deep_loop, deep_do, deep_call}
use Rattle.osl_gencode.proofs.RangeRuns.{step_plain}

-- ---- ranges

ranges_none : (inside : Bool) (d : ℕ) (steps : List Step) (i : ℕ) → AreRanges inside d steps i i
ranges_none inside d steps i = record { shaped = shaped_none steps i; leaves = leaves_none steps inside i; deep = deep_none steps i d }

ranges_on : (inside : Bool) (d : ℕ) (steps : List Step) (i m e : ℕ) → i ≤ m → m ≤ e → AreRanges inside d steps i m → AreRanges inside d steps m e → AreRanges inside d steps i e
ranges_on inside d steps i m e l1 l2 s t = record {
  shaped = shaped_on steps i m e l2 s.shaped t.shaped;
  leaves = leaves_on steps inside i m e l1 s.shaped.closed s.leaves t.leaves;
  deep = deep_on steps i m e d l1 s.shaped s.deep t.deep;
}

-- an op that runs no ranges
compute_ranges : (inside : Bool) (d : ℕ) (steps : List Step) (i : ℕ) (name : OpName) (ty : _) (w : ℕ) (rs : List ℕ) → slice_get steps i ≡ Some (Compute name ty w rs) → AreRanges inside d steps i (i + 1)
compute_ranges inside d steps i name ty w rs here = record {
  shaped = shaped_plain steps i (Compute name ty w rs) here refl tt;
  leaves = leaves_plain steps inside i (Compute name ty w rs) here tt;
  deep = deep_plain steps i d (Compute name ty w rs) here (omega arith);
}

leave_ranges : (inside : Bool) (d : ℕ) (steps : List Step) (i : ℕ) (way : Way) → slice_get steps i ≡ Some (Leave way) → NeedsLoop (Leave way) (inside ≡ true) → AreRanges inside d steps i (i + 1)
leave_ranges inside d steps i way here needs = record {
  shaped = shaped_plain steps i (Leave way) here refl tt;
  leaves = leaves_plain steps inside i (Leave way) here needs;
  deep = deep_plain steps i d (Leave way) here (omega arith);
}

branch_ranges : (inside : Bool) (d : ℕ) (steps : List Step) (i c a e : ℕ) → slice_get steps i ≡ Some (Branch c (span (i + 1) a) (span a e)) → i + 1 ≤ a → a ≤ e → AreRanges inside d steps (i + 1) a → AreRanges inside d steps a e → AreRanges inside (1 + d) steps i e
branch_ranges inside d steps i c a e here l1 l2 s t = record {
  shaped = shaped_branch steps i c a e here l1 l2 s.shaped t.shaped;
  leaves = leaves_branch steps inside i c e (span (i + 1) a) (span a e) here (leaves_on steps inside (i + 1) a e l1 s.shaped.closed s.leaves t.leaves);
  deep = deep_branch steps i c a e d here (deep_on steps (i + 1) a e d l1 s.shaped s.deep t.deep);
}

-- a loop that tests first: its condition, its body and its step
loop_ranges : (inside : Bool) (d : ℕ) (steps : List Step) (i c a m e : ℕ) → slice_get steps i ≡ Some (Loop true c (span (i + 1) a) (span a m) (span m e)) → i + 1 ≤ a → a ≤ m → m ≤ e → AreRanges false d steps (i + 1) a → AreRanges true d steps a m → AreRanges false d steps m e → AreRanges inside (1 + d) steps i e
loop_ranges inside d steps i c a m e here l1 l2 l3 s t u = record {
  shaped = shaped_for steps i c a m e here l1 l2 l3 s.shaped t.shaped u.shaped;
  leaves = leaves_past steps inside i m e (omega (arith, l1, l2)) (leaves_loop steps inside true i c a m (span (i + 1) a) (span a m) (span m e) here l1 s.shaped.closed false true (λ z. absurd (cc z)) (λ z. (omega arith, omega arith)) s.leaves t.leaves) u.leaves;
  deep = deep_loop steps i c a m e d here l2 (deep_on steps (i + 1) a e d l1 s.shaped s.deep (deep_on steps a m e d l2 t.shaped t.deep u.deep));
}

-- a loop that tests last: its body and its condition
do_ranges : (inside : Bool) (d : ℕ) (steps : List Step) (i c a e : ℕ) → slice_get steps i ≡ Some (Loop false c (span a e) (span (i + 1) a) (span e e)) → i + 1 ≤ a → a ≤ e → AreRanges true d steps (i + 1) a → AreRanges false d steps a e → AreRanges inside (1 + d) steps i e
do_ranges inside d steps i c a e here l1 l2 s t = record {
  shaped = shaped_do steps i c a e here l1 l2 s.shaped t.shaped;
  leaves = leaves_loop steps inside false i c a e (span a e) (span (i + 1) a) (span e e) here l1 s.shaped.closed true false (λ z. (omega arith, omega arith)) (λ z. absurd (cc z)) s.leaves t.leaves;
  deep = deep_do steps i c a e d here l2 (deep_on steps (i + 1) a e d l1 s.shaped s.deep t.deep);
}

call_ranges : (inside : Bool) (d : ℕ) (steps : List Step) (i e : ℕ) → slice_get steps i ≡ Some (Call (span (i + 1) e)) → i + 1 ≤ e → AreRanges false d steps (i + 1) e → AreRanges inside (1 + d) steps i e
call_ranges inside d steps i e here le s = record {
  shaped = shaped_call steps i e here le s.shaped;
  leaves = leaves_call steps inside i e (span (i + 1) e) here s.leaves;
  deep = deep_call steps i e d here s.deep;
}

-- ---- pieces

module _ (kind : ShaderKind) (owner : Option ℕ) where
  module _ (inside : Bool) (d : ℕ) where
    pub piece_none : (ops : List Op) (syms0 syms1 : List Symbol) → Extends syms0 syms1 → Piece kind owner inside d ops ops syms0 syms1
    piece_none ops syms0 syms1 ext = record {
      grows = record { ops = extends_self ops; syms = ext };
      fits = fitting_none kind owner syms1 ops;
      ranges = λ syms steps cov. ranges_none inside d steps (length ops);
    }

    -- where there are more symbols
    pub piece_symbols : (ops0 ops1 : List Op) (syms0 syms1 syms2 : List Symbol) → Extends syms1 syms2 → Piece kind owner inside d ops0 ops1 syms0 syms1 → Piece kind owner inside d ops0 ops1 syms0 syms2
    piece_symbols ops0 ops1 syms0 syms1 syms2 ext p = record {
      grows = record { ops = p.grows.ops; syms = extends_on syms0 syms1 syms2 p.grows.syms ext };
      fits = fitting_later kind owner syms1 syms2 ops0 ops1 ext p.fits;
      ranges = p.ranges;
    }

    -- symbols first
    pub piece_after : (ops0 ops1 : List Op) (syms0 syms1 syms2 : List Symbol) → Extends syms0 syms1 → Piece kind owner inside d ops0 ops1 syms1 syms2 → Piece kind owner inside d ops0 ops1 syms0 syms2
    piece_after ops0 ops1 syms0 syms1 syms2 ext p = record {
      grows = record { ops = p.grows.ops; syms = extends_on syms0 syms1 syms2 ext p.grows.syms };
      fits = p.fits;
      ranges = p.ranges;
    }

    -- one piece after another
    pub piece_on : (ops0 ops1 ops2 : List Op) (syms0 syms1 syms2 : List Symbol) → Piece kind owner inside d ops0 ops1 syms0 syms1 → Piece kind owner inside d ops1 ops2 syms1 syms2 → Piece kind owner inside d ops0 ops2 syms0 syms2
    piece_on ops0 ops1 ops2 syms0 syms1 syms2 p q =
        let l1 = p.grows.ops.longer in let l2 = q.grows.ops.longer in record {
          grows = grows_on ops0 ops1 ops2 syms0 syms1 syms2 p.grows q.grows;
          fits = fitting_on kind owner syms2 ops0 ops1 ops2 q.grows.ops (fitting_later kind owner syms1 syms2 ops0 ops1 q.grows.syms p.fits) q.fits;
          ranges = λ syms steps cov. ranges_on inside d steps (length ops0) (length ops1) (length ops2) l1 l2 (p.ranges syms steps (covers_before syms steps ops1 ops2 (length ops0) (length ops0) (omega arith) q.grows.ops cov)) (q.ranges syms steps (covers_before syms steps ops2 ops2 (length ops0) (length ops1) l1 (extends_self ops2) cov));
        }

    -- an operation, and the symbols that it needs
    pub piece_op : (ops : List Op) (syms0 syms1 : List Symbol) (name : OpName) (w : ℕ) (rs : List ℕ) → Extends syms0 syms1 → is_control name ≡ false → IsTrue (op_fits kind syms1 owner (op_of name w rs)) → Piece kind owner inside d ops (ops ++ op_of name w rs ∷ []) syms0 syms1
    piece_op ops syms0 syms1 name w rs ext plain fits =
        let op = op_of name w rs in record {
          grows = record { ops = extends_push ops op; syms = ext };
          fits = fitting_push kind owner syms1 ops op fits;
          ranges = λ syms steps cov. subst (AreRanges inside d steps (length ops)) (sym (push_length ops op)) (
              compute_ranges inside d steps (length ops) name (type_at syms w) w (operands name (w ∷ rs)) (at_push syms steps ops op (length ops) (omega arith) cov ∙ ap Some (step_plain syms (length ops) name w rs plain)));
        }

    -- more operations, one at a time
    pub piece_then : (ops0 ops1 : List Op) (syms0 syms1 syms2 : List Symbol) (name : OpName) (w : ℕ) (rs : List ℕ) → Extends syms1 syms2 → is_control name ≡ false → IsTrue (op_fits kind syms2 owner (op_of name w rs)) → Piece kind owner inside d ops0 ops1 syms0 syms1 → Piece kind owner inside d ops0 (ops1 ++ op_of name w rs ∷ []) syms0 syms2
    piece_then ops0 ops1 syms0 syms1 syms2 name w rs ext plain fits p = piece_on ops0 ops1 (ops1 ++ op_of name w rs ∷ []) syms0 syms1 syms2 p (piece_op ops1 syms1 syms2 name w rs ext plain fits)

    leave_piece : (ops : List Op) (syms0 syms1 : List Symbol) (op : Op) (way : Way) → Extends syms0 syms1 → ((syms : List Symbol) (at : ℕ) → step_of syms at op ≡ Leave way) → IsTrue (op_fits kind syms1 owner op) → NeedsLoop (Leave way) (inside ≡ true) → Piece kind owner inside d ops (ops ++ op ∷ []) syms0 syms1
    leave_piece ops syms0 syms1 op way ext is fits needs = record {
      grows = record { ops = extends_push ops op; syms = ext };
      fits = fitting_push kind owner syms1 ops op fits;
      ranges = λ syms steps cov. subst (AreRanges inside d steps (length ops)) (sym (push_length ops op)) (leave_ranges inside d steps (length ops) way (at_push syms steps ops op (length ops) (omega arith) cov ∙ ap Some (is syms (length ops))) needs);
    }

    pub piece_exit : (ops : List Op) (syms : List Symbol) → Piece kind owner inside d ops (ops ++ record { name = O.Exit; args = []; jumps = [] } ∷ []) syms syms
    unfolding step_of
    piece_exit ops syms = leave_piece ops syms syms (record { name = O.Exit; args = []; jumps = [] }) Exit (extends_self syms) (λ s at. refl) (bare_fits kind owner syms O.Exit [] refl refl refl) tt

    pub piece_return : (ops : List Op) (syms : List Symbol) → Piece kind owner inside d ops (ops ++ record { name = O.Return; args = []; jumps = [] } ∷ []) syms syms
    unfolding step_of
    piece_return ops syms = leave_piece ops syms syms (record { name = O.Return; args = []; jumps = [] }) Return (extends_self syms) (λ s at. refl) (bare_fits kind owner syms O.Return [] refl refl refl) tt

    pub piece_break : (ops : List Op) (syms : List Symbol) → inside ≡ true → Piece kind owner inside d ops (ops ++ record { name = O.Break; args = []; jumps = [] } ∷ []) syms syms
    unfolding step_of
    piece_break ops syms is = leave_piece ops syms syms (record { name = O.Break; args = []; jumps = [] }) Break (extends_self syms) (λ s at. refl) (bare_fits kind owner syms O.Break [] refl refl refl) is

    pub piece_continue : (ops : List Op) (syms : List Symbol) → inside ≡ true → Piece kind owner inside d ops (ops ++ record { name = O.Continue; args = []; jumps = [] } ∷ []) syms syms
    unfolding step_of
    piece_continue ops syms is = leave_piece ops syms syms (record { name = O.Continue; args = []; jumps = [] }) Continue (extends_self syms) (λ s at. refl) (bare_fits kind owner syms O.Continue [] refl refl refl) is

  -- what is valid outside loops is valid anywhere, and at a greater depth
  pub piece_inside : (inside : Bool) (d d1 : ℕ) (ops0 ops1 : List Op) (syms0 syms1 : List Symbol) → d ≤ d1 → Piece kind owner false d ops0 ops1 syms0 syms1 → Piece kind owner inside d1 ops0 ops1 syms0 syms1
  piece_inside inside d d1 ops0 ops1 syms0 syms1 le p = record {
    grows = p.grows;
    fits = p.fits;
    ranges = λ syms steps cov. let r = p.ranges syms steps cov in record { shaped = r.shaped; leaves = leaves_inside steps inside (length ops0) (length ops1) r.leaves; deep = deep_more steps (length ops0) (length ops1) d d1 le r.deep };
  }

  pub piece_deeper : (inside : Bool) (d d1 : ℕ) (ops0 ops1 : List Op) (syms0 syms1 : List Symbol) → d ≤ d1 → Piece kind owner inside d ops0 ops1 syms0 syms1 → Piece kind owner inside d1 ops0 ops1 syms0 syms1
  piece_deeper inside d d1 ops0 ops1 syms0 syms1 le p = record {
    grows = p.grows;
    fits = p.fits;
    ranges = λ syms steps cov. let r = p.ranges syms steps cov in record { shaped = r.shaped; leaves = r.leaves; deep = deep_more steps (length ops0) (length ops1) d d1 le r.deep };
  }

  -- ---- pieces as ranges of an op, which was set aside before them

  -- the last of the ranges of an op ends the code
  module _ (inside : Bool) (d : ℕ) (ops : List Op) (x : Op) where
    abbrev over : List Op → Op → List Op
    over opsE op = slice_set opsE (length ops) op

    set_grows : (opsE : List Op) (op : Op) (syms0 syms1 : List Symbol) → Extends (ops ++ x ∷ []) opsE → Extends syms0 syms1 → Grows ops (over opsE op) syms0 syms1
    set_grows opsE op syms0 syms1 ext more = record { ops = extends_set ops opsE (length ops) op (extends_on ops (ops ++ x ∷ []) opsE (extends_push ops x) ext) (omega arith); syms = more }

    set_fits : (opsE : List Op) (op : Op) (syms0 syms1 : List Symbol) (flag : Bool) (c : ℕ) → IsTrue (op_fits kind syms1 owner op) → Piece kind owner flag c (ops ++ x ∷ []) opsE syms0 syms1 → Fitting kind owner syms1 ops (over opsE op)
    set_fits opsE op syms0 syms1 flag c fits p = fitting_set kind owner syms1 ops ops opsE x op p.grows.ops fits (fitting_none kind owner syms1 ops) p.fits

    -- what a part covers, where the op is written over
    part_covers : (opsE opsM : List Op) (op : Op) (syms : List Symbol) (steps : List Step) (from : ℕ) → length ops + 1 ≤ from → Extends opsM opsE → Covers syms steps (over opsE op) (length ops) → Covers syms steps opsM from
    part_covers opsE opsM op syms steps from le ext cov =
        covers_before syms steps opsM opsE from from (omega arith) ext (covers_after syms steps opsE (length ops) (length ops) from op (omega (arith, le)) (omega (arith, le)) cov)

    set_length : (opsE : List Op) (op : Op) → length (over opsE op) ≡ length opsE
    set_length opsE op = length-set opsE (length ops) op

    low : (opsA : List Op) → Extends (ops ++ x ∷ []) opsA → length ops + 1 ≤ length opsA
    low opsA ext = let l = ext.longer in let n = push_length ops x in omega (arith, l, n)

    pub piece_branch : (opsA opsB : List Op) (symsC symsA symsB : List Symbol) (c : ℕ) → Takes owner symsB (c ∷ []) (only Int ∷ []) → Piece kind owner inside d (ops ++ x ∷ []) opsA symsC symsA → Piece kind owner inside d opsA opsB symsA symsB → Piece kind owner inside (1 + d) ops (over opsB (if_op c (length opsA) (length opsB))) symsC symsB
    piece_branch opsA opsB symsC symsA symsB c take p q =
        let op = if_op c (length opsA) (length opsB) in
        let both = piece_on inside d (ops ++ x ∷ []) opsA opsB symsC symsA symsB p q in
        let l1 = low opsA p.grows.ops in let l2 = q.grows.ops.longer in
        let fits = condition_fits kind owner symsB O.If c (length opsA ∷ length opsB ∷ []) refl refl refl take in
        record {
          grows = set_grows opsB op symsC symsB both.grows.ops both.grows.syms;
          fits = set_fits opsB op symsC symsB inside d fits both;
          ranges = λ syms steps cov.
              let here = at_set syms steps opsB (length ops) (length ops) op (omega arith) (omega (arith, l1, l2)) cov ∙ ap Some (if_step syms (length ops) c (length opsA) (length opsB)) in
              let n = push_length ops x in
              subst (AreRanges inside (1 + d) steps (length ops)) (sym (set_length opsB op)) (branch_ranges inside d steps (length ops) c (length opsA) (length opsB) here l1 l2 (subst (λ z. AreRanges inside d steps z (length opsA)) n (p.ranges syms steps (part_covers opsB opsA op syms steps (length (ops ++ x ∷ [])) (omega (arith, n)) q.grows.ops cov))) (q.ranges syms steps (part_covers opsB opsB op syms steps (length opsA) l1 (extends_self opsB) cov)));
        }

    -- a loop that tests first, with a step that may be nothing
    pub piece_for : (opsC opsB opsS : List Op) (syms0 symsC symsB symsS : List Symbol) (c : ℕ) → Takes owner symsS (c ∷ []) (only Int ∷ []) → Piece kind owner false d (ops ++ x ∷ []) opsC syms0 symsC → Piece kind owner true d opsC opsB symsC symsB → Piece kind owner false d opsB opsS symsB symsS → Piece kind owner inside (1 + d) ops (over opsS (for_op c (length opsC) (length opsB) (length opsS))) syms0 symsS
    piece_for opsC opsB opsS syms0 symsC symsB symsS c take p q r =
        let op = for_op c (length opsC) (length opsB) (length opsS) in
        let all = piece_on true d (ops ++ x ∷ []) opsB opsS syms0 symsB symsS (piece_on true d (ops ++ x ∷ []) opsC opsB syms0 symsC symsB (piece_inside true d d (ops ++ x ∷ []) opsC syms0 symsC (omega arith) p) q) (piece_inside true d d opsB opsS symsB symsS (omega arith) r) in
        let l1 = low opsC p.grows.ops in let l2 = q.grows.ops.longer in let l3 = r.grows.ops.longer in
        let fits = condition_fits kind owner symsS O.For c (length opsC ∷ length opsB ∷ length opsS ∷ []) refl refl refl take in
        record {
          grows = set_grows opsS op syms0 symsS all.grows.ops all.grows.syms;
          fits = set_fits opsS op syms0 symsS true d fits all;
          ranges = λ syms steps cov.
              let here = at_set syms steps opsS (length ops) (length ops) op (omega arith) (omega (arith, l1, l2, l3)) cov ∙ ap Some (for_step syms (length ops) c (length opsC) (length opsB) (length opsS)) in
              let n = push_length ops x in
              let e1 = extends_on opsC opsB opsS q.grows.ops r.grows.ops in
              subst (AreRanges inside (1 + d) steps (length ops)) (sym (set_length opsS op)) (loop_ranges inside d steps (length ops) c (length opsC) (length opsB) (length opsS) here l1 l2 l3 (subst (λ z. AreRanges false d steps z (length opsC)) n (p.ranges syms steps (part_covers opsS opsC op syms steps (length (ops ++ x ∷ [])) (omega (arith, n)) e1 cov))) (q.ranges syms steps (part_covers opsS opsB op syms steps (length opsC) l1 r.grows.ops cov)) (r.ranges syms steps (part_covers opsS opsS op syms steps (length opsB) (omega (arith, l1, l2)) (extends_self opsS) cov)));
        }

    pub piece_while : (opsC opsB : List Op) (syms0 symsC symsB : List Symbol) (c : ℕ) → Takes owner symsB (c ∷ []) (only Int ∷ []) → Piece kind owner false d (ops ++ x ∷ []) opsC syms0 symsC → Piece kind owner true d opsC opsB symsC symsB → Piece kind owner inside (1 + d) ops (over opsB (while_op c (length opsC) (length opsB))) syms0 symsB
    piece_while opsC opsB syms0 symsC symsB c take p q =
        let op = while_op c (length opsC) (length opsB) in
        let all = piece_on true d (ops ++ x ∷ []) opsC opsB syms0 symsC symsB (piece_inside true d d (ops ++ x ∷ []) opsC syms0 symsC (omega arith) p) q in
        let l1 = low opsC p.grows.ops in let l2 = q.grows.ops.longer in
        let fits = condition_fits kind owner symsB O.While c (length opsC ∷ length opsB ∷ []) refl refl refl take in
        record {
          grows = set_grows opsB op syms0 symsB all.grows.ops all.grows.syms;
          fits = set_fits opsB op syms0 symsB true d fits all;
          ranges = λ syms steps cov.
              let here = at_set syms steps opsB (length ops) (length ops) op (omega arith) (omega (arith, l1, l2)) cov ∙ ap Some (while_step syms (length ops) c (length opsC) (length opsB)) in
              let n = push_length ops x in
              subst (AreRanges inside (1 + d) steps (length ops)) (sym (set_length opsB op)) (loop_ranges inside d steps (length ops) c (length opsC) (length opsB) (length opsB) here l1 l2 (omega arith) (subst (λ z. AreRanges false d steps z (length opsC)) n (p.ranges syms steps (part_covers opsB opsC op syms steps (length (ops ++ x ∷ [])) (omega (arith, n)) q.grows.ops cov))) (q.ranges syms steps (part_covers opsB opsB op syms steps (length opsC) l1 (extends_self opsB) cov)) (ranges_none false d steps (length opsB)));
        }

    -- a loop that tests last
    pub piece_do : (opsB opsC : List Op) (syms0 symsB symsC : List Symbol) (c : ℕ) → Takes owner symsC (c ∷ []) (only Int ∷ []) → Piece kind owner true d (ops ++ x ∷ []) opsB syms0 symsB → Piece kind owner false d opsB opsC symsB symsC → Piece kind owner inside (1 + d) ops (over opsC (do_op c (length opsB) (length opsC))) syms0 symsC
    piece_do opsB opsC syms0 symsB symsC c take p q =
        let op = do_op c (length opsB) (length opsC) in
        let all = piece_on true d (ops ++ x ∷ []) opsB opsC syms0 symsB symsC p (piece_inside true d d opsB opsC symsB symsC (omega arith) q) in
        let l1 = low opsB p.grows.ops in let l2 = q.grows.ops.longer in
        let fits = condition_fits kind owner symsC O.DoWhile c (length opsB ∷ length opsC ∷ []) refl refl refl take in
        record {
          grows = set_grows opsC op syms0 symsC all.grows.ops all.grows.syms;
          fits = set_fits opsC op syms0 symsC true d fits all;
          ranges = λ syms steps cov.
              let here = at_set syms steps opsC (length ops) (length ops) op (omega arith) (omega (arith, l1, l2)) cov ∙ ap Some (do_step syms (length ops) c (length opsB) (length opsC)) in
              let n = push_length ops x in
              subst (AreRanges inside (1 + d) steps (length ops)) (sym (set_length opsC op)) (do_ranges inside d steps (length ops) c (length opsB) (length opsC) here l1 l2 (subst (λ z. AreRanges true d steps z (length opsB)) n (p.ranges syms steps (part_covers opsC opsB op syms steps (length (ops ++ x ∷ [])) (omega (arith, n)) q.grows.ops cov))) (q.ranges syms steps (part_covers opsC opsC op syms steps (length opsB) l1 (extends_self opsC) cov)));
        }

    -- the body of a call, whose loops are its own
    pub piece_call : (opsB : List Op) (syms0 symsB : List Symbol) → Piece kind owner false d (ops ++ x ∷ []) opsB syms0 symsB → Piece kind owner inside (1 + d) ops (over opsB (call_op (length opsB))) syms0 symsB
    piece_call opsB syms0 symsB p =
        let op = call_op (length opsB) in
        let l1 = low opsB p.grows.ops in
        let fits = bare_fits kind owner symsB O.FunctionCall (length opsB ∷ []) refl refl refl in
        record {
          grows = set_grows opsB op syms0 symsB p.grows.ops p.grows.syms;
          fits = set_fits opsB op syms0 symsB false d fits p;
          ranges = λ syms steps cov.
              let here = at_set syms steps opsB (length ops) (length ops) op (omega arith) (omega (arith, l1)) cov ∙ ap Some (call_step syms (length ops) (length opsB)) in
              let n = push_length ops x in
              subst (AreRanges inside (1 + d) steps (length ops)) (sym (set_length opsB op)) (call_ranges inside d steps (length ops) (length opsB) here l1 (subst (λ z. AreRanges false d steps z (length opsB)) n (p.ranges syms steps (part_covers opsB opsB op syms steps (length (ops ++ x ∷ [])) (omega (arith, n)) (extends_self opsB) cov))));
        }
