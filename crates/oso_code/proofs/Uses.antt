-- A step of valid code uses what its op does.
use Rattle.std.proofs.Common.{◌≡◌, ℕ, List, [], ◌∷◌, length, map, Some, refl}
use Rattle.std.specs.Prelude.{slice_get, ◌==◌, IsTrue}
use Rattle.std.proofs.lemmas.List.{append-nil}
use Rattle.osl_value.specs.declared.op_name.OpName.{OpName}
use Rattle.osl_value.specs.declared.op_name.OpName.TheVariants as O
use Rattle.oso_code.specs.Ops.{range_count, takes_condition, takes_types, type_at, operands}
use Rattle.oso_code.specs.Steps.{step_of, named_step}
use Rattle.oso_code.specs.Uses.{UsesAs}
use Rattle.oso_code.specs.Valid.{IsValid}
use Rattle.oso_code.specs.declared.op.Op.{Op}
use Rattle.oso_code.specs.declared.raw.Raw.{Raw}
use Rattle.oso_code.specs.declared.symbol.Symbol.{Symbol}
use Rattle.oso_code.proofs.Decoding.{WithOne, WithTwo, WithThree, one, two, three, with_one, with_two, with_three}
use Rattle.oso_code.proofs.Nested.{op_facts}

abbrev op_with : OpName → List ℕ → List ℕ → Op
op_with name args jumps = record { name = name; args = args; jumps = jumps }

module _ (symbols : List Symbol) (k : ℕ) where
  abbrev Alike : OpName → List ℕ → List ℕ → Type 0
  Alike name args jumps = UsesAs (named_step symbols k name args jumps) (op_with name args jumps)

  if_alike : (args jumps : List ℕ) → WithTwo args jumps → Alike O.If args jumps
  if_alike _ _ (two c a e) = record { reads = refl; written = refl; overwritten = refl }

  while_alike : (args jumps : List ℕ) → WithTwo args jumps → Alike O.While args jumps
  while_alike _ _ (two c a e) = record { reads = refl; written = refl; overwritten = refl }

  for_alike : (args jumps : List ℕ) → WithThree args jumps → Alike O.For args jumps
  for_alike _ _ (three c a s e) = record { reads = refl; written = refl; overwritten = refl }

  do_alike : (args jumps : List ℕ) → WithTwo args jumps → Alike O.DoWhile args jumps
  do_alike _ _ (two c a e) = record { reads = refl; written = refl; overwritten = refl }

  call_alike : (args jumps : List ℕ) → WithOne args jumps → Alike O.FunctionCall args jumps
  call_alike _ _ (one e) = record { reads = refl; written = refl; overwritten = refl }

  break_alike : (args jumps : List ℕ) → IsTrue (takes_condition O.Break (map (type_at symbols) args)) → Alike O.Break args jumps
  break_alike [] jumps h = record { reads = refl; written = refl; overwritten = refl }
  break_alike (c ∷ []) jumps h = absurd (cc h)
  break_alike (c ∷ d ∷ more) jumps h = absurd (cc h)

  continue_alike : (args jumps : List ℕ) → IsTrue (takes_condition O.Continue (map (type_at symbols) args)) → Alike O.Continue args jumps
  continue_alike [] jumps h = record { reads = refl; written = refl; overwritten = refl }
  continue_alike (c ∷ []) jumps h = absurd (cc h)
  continue_alike (c ∷ d ∷ more) jumps h = absurd (cc h)

  return_alike : (args jumps : List ℕ) → IsTrue (takes_condition O.Return (map (type_at symbols) args)) → Alike O.Return args jumps
  return_alike [] jumps h = record { reads = refl; written = refl; overwritten = refl }
  return_alike (c ∷ []) jumps h = absurd (cc h)
  return_alike (c ∷ d ∷ more) jumps h = absurd (cc h)

  exit_alike : (args jumps : List ℕ) → IsTrue (takes_condition O.Exit (map (type_at symbols) args)) → Alike O.Exit args jumps
  exit_alike [] jumps h = record { reads = refl; written = refl; overwritten = refl }
  exit_alike (c ∷ []) jumps h = absurd (cc h)
  exit_alike (c ∷ d ∷ more) jumps h = absurd (cc h)

  named_alike : (name : OpName) (args jumps : List ℕ) → IsTrue (length jumps == range_count name) → IsTrue (takes_types name (map (type_at symbols) args)) → Alike name args jumps
  named_alike O.If args jumps n t = if_alike args jumps (with_two symbols O.If refl args jumps n t)
  named_alike O.While args jumps n t = while_alike args jumps (with_two symbols O.While refl args jumps n t)
  named_alike O.For args jumps n t = for_alike args jumps (with_three symbols args jumps n t)
  named_alike O.DoWhile args jumps n t = do_alike args jumps (with_two symbols O.DoWhile refl args jumps n t)
  named_alike O.FunctionCall args jumps n t = call_alike args jumps (with_one symbols args jumps n t)
  named_alike O.Break args jumps n t = break_alike args jumps t
  named_alike O.Continue args jumps n t = continue_alike args jumps t
  named_alike O.Return args jumps n t = return_alike args jumps t
  named_alike O.Exit args jumps n t = exit_alike args jumps t
  named_alike name [] jumps n t = absurd (cc t)
  named_alike name (target ∷ others) jumps n t = record { reads = append-nil (operands name (target ∷ others)); written = refl; overwritten = refl }

module _ (raw : Raw) (valid : IsValid raw) where
  pub step_uses : (k : ℕ) (op : Op) → slice_get raw.ops k ≡ Some op → UsesAs (step_of raw.symbols k op) op
  unfolding step_of
  step_uses k op is = let fits = op_facts raw k op (valid.ops k op is) in named_alike raw.symbols k op.name op.args op.jumps fits.count fits.types
