use Rattle.std.proofs.Common.{◌≡◌, ◌∙◌, List, Some, sym, ap}
use Rattle.oso_code.specs.declared.op.Op.{Op}
use Rattle.oso_code.specs.declared.op.Section.{Section}
use Rattle.oso_read.specs.Reading.{raw_of, range_fault, in_range}
use Rattle.oso_read.specs.SymbolLine.{Head}
use Rattle.oso_read.proofs.ReadContract.{fails_in_range}
use Rattle.oso_read.proofs.whole.in_range.Goals as goal

pub returns-in-Some : goal.returns-in-Some
returns-in-Some c =
    let raw = c.args.raw in
    let head : Head = record { kind = raw.kind; name = raw.name; metas = raw.metas } in
    let is : c.in_ok-kind.field-0 ≡ range_fault raw =
    c.in_ok-kind.ensures head raw.symbols ∙ ap (λ (ss : List Section). range_fault (raw_of head raw.symbols ss c.as_slice-2.result.now)) c.as_slice.ensures
    ∙ ap (λ (os : List Op). range_fault (raw_of head raw.symbols raw.sections os)) c.as_slice-2.ensures in
    let some : c.in_ok-kind.field-0 ≡ Some (c.in-Some.kind, c.in-Some.op) = cc in
    fails_in_range raw c.args.lines.now c.in_ok-kind.field-0 c.in-Some.kind c.in-Some.op c.line_of.result c.bad.result is some c.line_of.ensures c.bad.ensures

pub returns-in-None : goal.returns-in-None
returns-in-None c =
    let raw = c.args.raw in
    let head : Head = record { kind = raw.kind; name = raw.name; metas = raw.metas } in
    let is : c.in_ok-kind.field-0 ≡ range_fault raw =
    c.in_ok-kind.ensures head raw.symbols ∙ ap (λ (ss : List Section). range_fault (raw_of head raw.symbols ss c.as_slice-2.result.now)) c.as_slice.ensures
    ∙ ap (λ (os : List Op). range_fault (raw_of head raw.symbols raw.sections os)) c.as_slice-2.ensures in
    ap (in_range raw c.args.lines.now) (sym is ∙ c.in-None.is)
