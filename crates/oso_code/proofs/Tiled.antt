-- The ranges of an op of valid code lie side by side.
use Rattle.std.proofs.Common.{◌≡◌, ℕ, ◌+◌, ◌<◌, ◌≤◌, ⊎_elim, List, [], ◌∷◌, length, map, Some, refl, sym, subst, arith}
use Rattle.std.specs.Prelude.{slice_get, ◌==◌, IsTrue}
use Rattle.std.proofs.lemmas.Bool.{cases_lt}
use Rattle.osl_value.specs.declared.op_name.OpName.{OpName}
use Rattle.osl_value.specs.declared.op_name.OpName.TheVariants as O
use Rattle.oso_code.specs.Nesting.{IsClosed, Nests, Tiles, AreTiled}
use Rattle.oso_code.specs.Ops.{range_count, takes_types, type_at}
use Rattle.oso_code.specs.Ranges.{steps_of}
use Rattle.oso_code.specs.Steps.{Step, step_of, named_step, branch_step, while_step, for_step, do_step, call_step, compute}
use Rattle.oso_code.specs.Valid.{IsValid}
use Rattle.oso_code.specs.declared.op.Op.{Op}
use Rattle.oso_code.specs.declared.raw.Raw.{Raw}
use Rattle.oso_code.proofs.Decoding.{WithOne, WithTwo, WithThree, one, two, three, with_one, with_two, with_three, came_from}
use Rattle.oso_code.proofs.Nested.{op_facts, valid_nested}

module _ (steps : List Step) where
  -- one range, and the next
  join : (i j e : ℕ) → IsClosed steps i j → IsClosed steps j e → j ≤ e → IsClosed steps i e
  join i j e a b le = record { ends = λ k step x y at. ⊎_elim (λ (z : k < j). let h = a.ends k step x z at in omega (arith, h, le)) (λ (z : j ≤ k). b.ends k step z y at) (cases_lt k j) }

  none : (i : ℕ) → IsClosed steps i i
  none i = record { ends = λ k step a b at. absurd (omega arith) }

  branch_tiles : (k : ℕ) (args jumps : List ℕ) → WithTwo args jumps → Nests steps k (branch_step k args jumps) → Tiles steps k (branch_step k args jumps)
  branch_tiles k _ _ (two c a e) n = (none (k + 1), n.0.closed, join (k + 1) a e n.0.closed n.1.closed n.1.ordered)

  while_tiles : (k : ℕ) (args jumps : List ℕ) → WithTwo args jumps → Nests steps k (while_step k args jumps) → Tiles steps k (while_step k args jumps)
  while_tiles k _ _ (two c a e) n = let all = join (k + 1) a e n.0.closed n.1.closed n.1.ordered in (none (k + 1), n.0.closed, all, all)

  for_tiles : (k : ℕ) (args jumps : List ℕ) → WithThree args jumps → Nests steps k (for_step k args jumps) → Tiles steps k (for_step k args jumps)
  for_tiles k _ _ (three c a s e) n = let first = join (k + 1) a s n.0.closed n.1.closed n.1.ordered in (none (k + 1), n.0.closed, first, join (k + 1) s e first n.2.closed n.2.ordered)

  do_tiles : (k : ℕ) (args jumps : List ℕ) → WithTwo args jumps → Nests steps k (do_step k args jumps) → Tiles steps k (do_step k args jumps)
  do_tiles k _ _ (two c a e) n = let all = join (k + 1) a e n.1.closed n.0.closed n.0.ordered in (n.1.closed, none (k + 1), all, all)

  call_tiles : (k : ℕ) (args jumps : List ℕ) → WithOne args jumps → Nests steps k (call_step k args jumps) → Tiles steps k (call_step k args jumps)
  call_tiles k _ _ (one e) n = (none (k + 1), n.closed)

module _ (raw : Raw) (valid : IsValid raw) where
  compute_tiles : (k : ℕ) (name : OpName) (args : List ℕ) → Tiles (steps_of raw) k (compute raw.symbols name args)
  compute_tiles k name [] = tt
  compute_tiles k name (target ∷ others) = tt

  named_tiles : (k : ℕ) (name : OpName) (args jumps : List ℕ) → IsTrue (length jumps == range_count name) → IsTrue (takes_types name (map (type_at raw.symbols) args)) → Nests (steps_of raw) k (named_step raw.symbols k name args jumps) → Tiles (steps_of raw) k (named_step raw.symbols k name args jumps)
  named_tiles k O.If args jumps n t h = branch_tiles (steps_of raw) k args jumps (with_two raw.symbols O.If refl args jumps n t) h
  named_tiles k O.While args jumps n t h = while_tiles (steps_of raw) k args jumps (with_two raw.symbols O.While refl args jumps n t) h
  named_tiles k O.For args jumps n t h = for_tiles (steps_of raw) k args jumps (with_three raw.symbols args jumps n t) h
  named_tiles k O.DoWhile args jumps n t h = do_tiles (steps_of raw) k args jumps (with_two raw.symbols O.DoWhile refl args jumps n t) h
  named_tiles k O.FunctionCall args jumps n t h = call_tiles (steps_of raw) k args jumps (with_one raw.symbols args jumps n t) h
  named_tiles k O.Break args jumps n t h = tt
  named_tiles k O.Continue args jumps n t h = tt
  named_tiles k O.Return args jumps n t h = tt
  named_tiles k O.Exit args jumps n t h = tt
  named_tiles k name args jumps n t h = compute_tiles k name args

  step_tiles : (k : ℕ) (op : Op) → slice_get raw.ops k ≡ Some op → Nests (steps_of raw) k (step_of raw.symbols k op) → Tiles (steps_of raw) k (step_of raw.symbols k op)
  unfolding step_of
  step_tiles k op is nests = let fits = op_facts raw k op (valid.ops k op is) in named_tiles k op.name op.args op.jumps fits.count fits.types nests

  pub valid_tiled : AreTiled (steps_of raw)
  valid_tiled = record {
    each = λ k step is.
        let from = came_from raw k step is in
        subst (Tiles (steps_of raw) k) (sym from.is) (step_tiles k from.op from.here (subst (Nests (steps_of raw) k) from.is ((valid_nested raw valid).each k step is)));
  }
