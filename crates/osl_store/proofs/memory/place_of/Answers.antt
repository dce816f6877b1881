use Rattle.std.proofs.Common.{◌≡◌, ◌≢◌, ◌∙◌, sym, slice_index_or, false}
use Rattle.std.specs.Str.{bytes_eq}
use borrow.Author.Count.{below_more}
use Rattle.osl_store.specs.Memory.{name_of}
use Rattle.osl_store.proofs.Lookup.{differs, content-drop}
use Rattle.osl_store.proofs.memory.place_of.Goals as goal

pub loop-at-preserved : goal.loop-at-preserved
loop-at-preserved c =
    let no : bytes_eq (name_of c.index-files-at.result) c.args.name.now ≡ false = rw (← c.as_str.ensures.value) (sym c.eq.ensures ∙ c.if-eq.false) in
    record {
      earlier = λ d. below_more (λ k. name_of (slice_index_or c.args.files.now k d) ≢ c.args.name.now) _ (c.loop-at.invariant.earlier d)
          (differs c.args.files.now c.args.name.now _ c.index-files-at.result d c.loop-at-test.true c.index-files-at.is no);
      rest = c.loop-at.invariant.rest ∙ content-drop c.args.files.now c.args.name.now _ c.index-files-at.result c.loop-at-test.true c.index-files-at.is no;
    }
