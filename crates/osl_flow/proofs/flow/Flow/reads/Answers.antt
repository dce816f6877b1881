use Rattle.std.proofs.Common.{◌≡◌, ◌<◌, [], length, arith, ap, sym, ◌∙◌, subst}
use Rattle.std.specs.Prelude.{slice_get, None, Some}
use Rattle.std.specs.List.{All}
use Rattle.oso_code.specs.Ops.{reads}
use Rattle.oso_code.specs.declared.raw.Raw.{Raw}
use Rattle.osl_flow.specs.Flow.{View}
use Rattle.osl_flow.specs.Uses.{has, row_of}
use Rattle.osl_flow.proofs.Live.{reads_below}
use Rattle.osl_flow.proofs.Loops.{item_at}
use Rattle.osl_flow.proofs.flow.Flow.reads.Goals as goal

pub reads-requires : goal.reads-requires
reads-requires c =
    let raw = c.self.inside.code.now in
    let e : raw ≡ c.args.self.now.code = ap (λ (v : View). v.code) c.self.view_is in
    let n = c.requires.row ∙ sym (ap (λ (r : Raw). length r.symbols) e) in
    let ops = c.as_slice.ensures ∙ ap (λ (r : Raw). r.ops) c.raw.ensures.value in
    let lt : c.args.op < length c.as_slice.result.now = let s = ap length (ops ∙ ap (λ (r : Raw). r.ops) e) in let w = c.requires.op in omega (arith, s, w) in
    let here : slice_get raw.ops c.args.op ≡ Some c.index-as_slice-op.result = item_at c.as_slice.result.now raw.ops c.args.op c.index-as_slice-op.result ops lt c.index-as_slice-op.is in
    subst (λ n. All (λ k. k < n) (reads c.index-as_slice-op.result)) (sym n) (reads_below raw c.raw.ensures.valid c.args.op c.index-as_slice-op.result here)

pub returns : goal.returns
returns c =
    let raw = c.args.self.now.code in
    let e = ap (λ (v : View). v.code) c.self.view_is in
    let ops = c.as_slice.ensures ∙ ap (λ (r : Raw). r.ops) (c.raw.ensures.value ∙ e) in
    let lt : c.args.op < length c.as_slice.result.now = let s = ap length ops in let w = c.requires.op in omega (arith, s, w) in
    let op = c.index-as_slice-op.result in
    let here : slice_get raw.ops c.args.op ≡ Some op = item_at c.as_slice.result.now raw.ops c.args.op op ops lt c.index-as_slice-op.is in
    c.reads.ensures ∙ ap (λ n. row_of n (has (reads op))) c.requires.row ∙ sym (ap (λ o. row_of (length raw.symbols) (has (elim o [ None ↦ [] | Some op ↦ reads op ]))) here)
