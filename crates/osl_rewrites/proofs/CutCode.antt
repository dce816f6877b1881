-- Ops taken out of code are steps taken out.
use Rattle.std.proofs.Common.{◌≡◌, ℕ, zero, suc, ◌+◌, List, [], ◌∷◌, length, map, Some, Bool, true, false, refl, sym, ap, ◌∙◌, subst, arith}
use Rattle.std.specs.Prelude.{slice_get, if◌then◌else◌}
use Rattle.osl_value.specs.declared.op_name.OpName.{OpName}
use Rattle.osl_value.specs.declared.op_name.OpName.TheVariants as O
use Rattle.oso_code.specs.Ranges.{steps_of}
use Rattle.oso_code.specs.Steps.{span, Branch, Loop, Call, step_of, named_step, compute, branch_step, while_step, for_step, do_step, call_step}
use Rattle.oso_code.specs.declared.op.Op.{Op}
use Rattle.oso_code.specs.declared.raw.Raw.{Raw}
use Rattle.oso_code.specs.declared.symbol.Symbol.{Symbol}
use Rattle.oso_code.proofs.Decoding.{steps_get, length_steps, step_at, came_from}
use Rattle.osl_rewrites.specs.Cut.{new_place, moved, moved_op, cut_from, cut, CutSteps}
use Rattle.osl_rewrites.proofs.Cuts.{one_more, none_more, rises}

module _ (kept : ℕ → Bool) where
  abbrev to : ℕ → ℕ
  to = new_place kept

  -- ---- the list of ops

  size_by : (b : Bool) (at : ℕ) (op : Op) (ops : List Op) → kept at ≡ b → length (cut_from kept (at + 1) ops) + to (at + 1) ≡ to ((at + 1) + length ops)
      → length (if b then moved_op to op ∷ cut_from kept (at + 1) ops else cut_from kept (at + 1) ops) + to at ≡ to ((at + 1) + length ops)
  size_by true at op ops is h = let m = one_more kept at is in omega (arith, m, h)
  size_by false at op ops is h = let m = none_more kept at is in omega (arith, m, h)

  pub cut_size : (at : ℕ) (ops : List Op) → length (cut_from kept at ops) + to at ≡ to (at + length ops)
  cut_size at [] = let z : at ≡ at + 0 = omega arith in let q : to at ≡ to (at + 0) = ap to z in omega (arith, q)
  cut_size at (op ∷ ops) = size_by (kept at) at op ops refl (cut_size (at + 1) ops) ∙ ap to (omega arith)

  -- an op that stays is at its place
  abbrev There : ℕ → List Op → Type 0
  There at ops = (k n : ℕ) (op : Op) → slice_get ops k ≡ Some op → kept (at + k) ≡ true → n + to at ≡ to (at + k) → slice_get (cut_from kept at ops) n ≡ Some (moved_op to op)

  there_by : (b : Bool) (at : ℕ) (first : Op) (ops : List Op) → kept at ≡ b → There (at + 1) ops → (k n : ℕ) (op : Op) → slice_get (first ∷ ops) k ≡ Some op → kept (at + k) ≡ true → n + to at ≡ to (at + k)
      → slice_get (if b then moved_op to first ∷ cut_from kept (at + 1) ops else cut_from kept (at + 1) ops) n ≡ Some (moved_op to op)
  there_by true at first ops is h zero n op here stays e =
      let z : at + zero ≡ at = omega arith in let q : n + to at ≡ to at = e ∙ ap to z in let w : n ≡ 0 = omega (arith, q) in
      subst (λ x. slice_get (moved_op to first ∷ cut_from kept (at + 1) ops) x ≡ Some (moved_op to op)) (sym w) (ap (λ o. Some (moved_op to o)) (let c : first ≡ op = cc here in c))
  there_by false at first ops is h zero n op here stays e = let z : at + zero ≡ at = omega arith in let s : kept at ≡ true = ap kept (sym z) ∙ stays in absurd (cc (s, is))
  there_by true at first ops is h (suc k) zero op here stays e =
      let m = one_more kept at is in let z : at + suc k ≡ (at + 1) + k = omega arith in
      let low = rises kept (at + 1) ((at + 1) + k) (omega arith) in let q : 0 + to at ≡ to ((at + 1) + k) = e ∙ ap to z in absurd (omega (arith, low, q, m))
  there_by true at first ops is h (suc k) (suc n) op here stays e =
      let m = one_more kept at is in let z : at + suc k ≡ (at + 1) + k = omega arith in let q : suc n + to at ≡ to ((at + 1) + k) = e ∙ ap to z in
      h k n op here (ap kept (sym z) ∙ stays) (omega (arith, m, q))
  there_by false at first ops is h (suc k) n op here stays e =
      let m = none_more kept at is in let z : at + suc k ≡ (at + 1) + k = omega arith in let q : n + to at ≡ to ((at + 1) + k) = e ∙ ap to z in
      h k n op here (ap kept (sym z) ∙ stays) (omega (arith, m, q))

  pub cut_there : (at : ℕ) (ops : List Op) → There at ops
  cut_there at [] k n op here stays e = absurd (cc here)
  cut_there at (first ∷ ops) k n op here stays e = there_by (kept at) at first ops refl (cut_there (at + 1) ops) k n op here stays e

  -- an op of the new list came from one that stays
  pub record CameOp (at : ℕ) (ops : List Op) (j : ℕ) (new : Op) : Type 0 where
    pub k : ℕ
    pub op : Op
    pub stays : kept (at + k) ≡ true
    pub here : slice_get ops k ≡ Some op
    pub there : j + to at ≡ to (at + k)
    pub is : new ≡ moved_op to op

  further : (at j j' : ℕ) (first : Op) (ops : List Op) (new : Op) → j + to at ≡ j' + to (at + 1) → CameOp (at + 1) ops j' new → CameOp at (first ∷ ops) j new
  further at j j' first ops new e c =
      let z : (at + 1) + c.k ≡ at + suc c.k = omega arith in let t = c.there in
      record { k = suc c.k; op = c.op; stays = ap kept (sym z) ∙ c.stays; here = c.here; there = e ∙ t ∙ ap to z; is = c.is }

  back_by : (b : Bool) (at : ℕ) (first : Op) (ops : List Op) → kept at ≡ b → ((j : ℕ) (new : Op) → slice_get (cut_from kept (at + 1) ops) j ≡ Some new → CameOp (at + 1) ops j new)
      → (j : ℕ) (new : Op) → slice_get (if b then moved_op to first ∷ cut_from kept (at + 1) ops else cut_from kept (at + 1) ops) j ≡ Some new → CameOp at (first ∷ ops) j new
  back_by true at first ops is h zero new e =
      let z : at + zero ≡ at = omega arith in
      record { k = zero; op = first; stays = ap kept z ∙ is; here = refl; there = let q : to at ≡ to (at + zero) = ap to (sym z) in omega (arith, q); is = let c : moved_op to first ≡ new = cc e in sym c }
  back_by true at first ops is h (suc j) new e = let m = one_more kept at is in further at (suc j) j first ops new (omega (arith, m)) (h j new e)
  back_by false at first ops is h j new e = let m = none_more kept at is in further at j j first ops new (omega (arith, m)) (h j new e)

  pub cut_back : (at : ℕ) (ops : List Op) (j : ℕ) (new : Op) → slice_get (cut_from kept at ops) j ≡ Some new → CameOp at ops j new
  cut_back at [] j new e = absurd (cc e)
  cut_back at (first ∷ ops) j new e = back_by (kept at) at first ops refl (cut_back (at + 1) ops) j new e

  -- ---- their steps

  module _ (k : ℕ) (stays : kept k ≡ true) where
    one : to (k + 1) ≡ to k + 1
    one = one_more kept k stays

    branch_moved : (args jumps : List ℕ) → branch_step (to k) args (map to jumps) ≡ moved to (branch_step k args jumps)
    branch_moved [] jumps = refl
    branch_moved (c ∷ d ∷ cs) jumps = refl
    branch_moved (c ∷ []) [] = refl
    branch_moved (c ∷ []) (a ∷ []) = refl
    branch_moved (c ∷ []) (a ∷ e ∷ []) = ap (λ n. Branch c (span n (to a)) (span (to a) (to e))) (sym one)
    branch_moved (c ∷ []) (a ∷ e ∷ x ∷ js) = refl

    while_moved : (args jumps : List ℕ) → while_step (to k) args (map to jumps) ≡ moved to (while_step k args jumps)
    while_moved [] jumps = refl
    while_moved (c ∷ d ∷ cs) jumps = refl
    while_moved (c ∷ []) [] = refl
    while_moved (c ∷ []) (a ∷ []) = refl
    while_moved (c ∷ []) (a ∷ e ∷ []) = ap (λ n. Loop true c (span n (to a)) (span (to a) (to e)) (span (to e) (to e))) (sym one)
    while_moved (c ∷ []) (a ∷ e ∷ x ∷ js) = refl

    for_moved : (args jumps : List ℕ) → for_step (to k) args (map to jumps) ≡ moved to (for_step k args jumps)
    for_moved [] jumps = refl
    for_moved (c ∷ d ∷ cs) jumps = refl
    for_moved (c ∷ []) [] = refl
    for_moved (c ∷ []) (a ∷ []) = refl
    for_moved (c ∷ []) (a ∷ s ∷ []) = refl
    for_moved (c ∷ []) (a ∷ s ∷ e ∷ []) = ap (λ n. Loop true c (span n (to a)) (span (to a) (to s)) (span (to s) (to e))) (sym one)
    for_moved (c ∷ []) (a ∷ s ∷ e ∷ x ∷ js) = refl

    do_moved : (args jumps : List ℕ) → do_step (to k) args (map to jumps) ≡ moved to (do_step k args jumps)
    do_moved [] jumps = refl
    do_moved (c ∷ d ∷ cs) jumps = refl
    do_moved (c ∷ []) [] = refl
    do_moved (c ∷ []) (a ∷ []) = refl
    do_moved (c ∷ []) (a ∷ e ∷ []) = ap (λ n. Loop false c (span (to a) (to e)) (span n (to a)) (span (to e) (to e))) (sym one)
    do_moved (c ∷ []) (a ∷ e ∷ x ∷ js) = refl

    call_moved : (args jumps : List ℕ) → call_step (to k) args (map to jumps) ≡ moved to (call_step k args jumps)
    call_moved (c ∷ cs) jumps = refl
    call_moved [] [] = refl
    call_moved [] (e ∷ []) = ap (λ n. Call (span n (to e))) (sym one)
    call_moved [] (e ∷ x ∷ js) = refl

    compute_moved : (symbols : List Symbol) (name : OpName) (args : List ℕ) → compute symbols name args ≡ moved to (compute symbols name args)
    compute_moved symbols name [] = refl
    compute_moved symbols name (target ∷ others) = refl

    named_moved : (symbols : List Symbol) (name : OpName) (args jumps : List ℕ) → named_step symbols (to k) name args (map to jumps) ≡ moved to (named_step symbols k name args jumps)
    named_moved symbols O.If args jumps = branch_moved args jumps
    named_moved symbols O.While args jumps = while_moved args jumps
    named_moved symbols O.For args jumps = for_moved args jumps
    named_moved symbols O.DoWhile args jumps = do_moved args jumps
    named_moved symbols O.FunctionCall args jumps = call_moved args jumps
    named_moved symbols O.Break args jumps = refl
    named_moved symbols O.Continue args jumps = refl
    named_moved symbols O.Return args jumps = refl
    named_moved symbols O.Exit args jumps = refl
    named_moved symbols name args jumps = compute_moved symbols name args

    pub step_moved : (symbols : List Symbol) (op : Op) → step_of symbols (to k) (moved_op to op) ≡ moved to (step_of symbols k op)
    unfolding step_of
    step_moved symbols op = named_moved symbols op.name op.args op.jumps

  zero_place : to 0 ≡ 0
  unfolding new_place
  zero_place = refl

  pub cut_steps : (raw : Raw) → CutSteps kept (steps_of raw) (steps_of (cut kept raw))
  unfolding cut
  cut_steps raw = record {
    size =
        let a = length_steps raw.symbols 0 (cut_from kept 0 raw.ops) in let b = length_steps raw.symbols 0 raw.ops in let c = cut_size 0 raw.ops in
        let e : to (0 + length raw.ops) ≡ to (length (steps_of raw)) = ap to (omega (arith, b)) in omega (arith, a, c, zero_place, e);
    there = λ k step at stays.
        let c = came_from raw k step at in
        let z : 0 + k ≡ k = omega arith in
        let e : to k + to 0 ≡ to (0 + k) = let y = ap to z in omega (arith, zero_place, y) in
        steps_get raw.symbols (cut_from kept 0 raw.ops) (to k) (moved_op to c.op) (cut_there 0 raw.ops k (to k) c.op c.here (ap kept z ∙ stays) e)
        ∙ ap Some (step_moved k stays raw.symbols c.op ∙ ap (moved to) (sym c.is));
    back = λ j step at.
        let n = came_from (cut kept raw) j step at in
        let o = cut_back 0 raw.ops j n.op n.here in
        let z : 0 + o.k ≡ o.k = omega arith in
        let stays : kept o.k ≡ true = ap kept (sym z) ∙ o.stays in
        let there : to o.k ≡ j = let t = o.there in let y = ap to z in omega (arith, t, zero_place, y) in
        record {
          from_place = o.k;
          from_step = step_of raw.symbols o.k o.op;
          stayed = stays;
          here = step_at raw o.k o.op o.here;
          there = there;
          is = n.is ∙ ap (λ x. step_of raw.symbols j x) o.is ∙ ap (λ x. step_of raw.symbols x (moved_op to o.op)) (sym there) ∙ step_moved o.k stays raw.symbols o.op;
        };
  }
