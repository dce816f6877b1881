use Rattle.std.proofs.Common.{◌≡◌, ℕ, ◌≤◌, false, length, replicate, Some}
use Rattle.std.specs.Prelude.{slice_get}
use Rattle.oso_code.specs.declared.op.Section.{Section}
use Rattle.osl_flow.specs.Rows.{Passed, SettledSection}
use Rattle.osl_flow.specs.Table.{table_of}
use Rattle.osl_flow.proofs.passes.pass.Given as goal

abbrev pub invariant-loop-j : goal.invariant-loop-j
invariant-loop-j l = record {
  within : l.j ≤ length l.fn.code.sections;
  passed : Passed l.fn.code (table_of l.fn.around) l.initial.rows l.rows l.changed;
  settled : l.changed ≡ false → (k : ℕ) (section : Section) → l.j ≤ k → slice_get l.fn.code.sections k ≡ Some section → SettledSection l.fn.code (table_of l.fn.around) l.rows k section;
  emptied : l.more ≡ replicate (length l.fn.code.symbols) false;
}

abbrev pub decreases-loop-j : goal.decreases-loop-j
decreases-loop-j l = l.j
