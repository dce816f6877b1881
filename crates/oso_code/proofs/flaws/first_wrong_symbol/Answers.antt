use Rattle.std.proofs.Common.{◌≡◌, ◌++◌, ◌+◌, ◌∷◌, [], false, sym, ap, ◌∙◌, subst}
use Rattle.std.specs.Prelude.{◌&&◌, IsTrue}
use Rattle.std.specs.List.{list_any}
use Rattle.std.specs.Str.{bytes_eq}
use Rattle.oso_code.specs.Symbols.{is_parameter}
use Rattle.oso_code.proofs.Naming.{Passed, wrong_self, wrong_name, passes, all_passed, is_found, is_new, grown}
use Rattle.oso_code.proofs.flaws.first_wrong_symbol.Goals as goal
use Rattle.oso_code.proofs.flaws.first_wrong_symbol.Goals.{then-leading, else-leading}

pub returns-then-not-symbol_fits : goal.returns-then-not-symbol_fits
returns-then-not-symbol_fits c =
    wrong_self c.args.symbols.now c.loop-at.at c.loop-at.names.keys c.loop-at.leading c.loop-at.invariant c.index-symbols-at.result c.loop-at-test.true c.index-symbols-at.is (sym c.if-not-symbol_fits.ensures)

pub returns-then-not-branch : goal.returns-then-not-branch
returns-then-not-branch c =
    let found = is_found _ c.in_ok-insert.field-0 c.in_ok-insert.ensures.added c.if-not-branch.true in
    wrong_name c.args.symbols.now c.loop-at.at c.loop-at.names.keys c.loop-at.leading c.loop-at.invariant c.index-symbols-at.result c.loop-at-test.true c.index-symbols-at.is (subst (λ n. IsTrue (list_any (λ key. bytes_eq n key.now) c.loop-at.names.keys)) c.bytes.ensures.value found)

pub loop-at-preserved : goal.loop-at-preserved
loop-at-preserved c =
    let new = is_new _ c.in_ok-insert.field-0 c.in_ok-insert.ensures.added c.if-not-branch.false in
    let keys = c.in_ok-insert.ensures.keys ∙ grown _ c.loop-at.names.keys (c.loop-at.names.keys ++ c.bytes.result ∷ []) new in
    let leads : c.if-leading.leading ≡ (c.loop-at.leading && is_parameter c.index-symbols-at.result.class) =
    elim c.if-leading.branch [
      | then-leading w ↦ w.leading-is ∙ w.is_parameter-leading.ensures ∙ ap (λ b. b && is_parameter c.index-symbols-at.result.class) (sym w.if-leading.true)
      | else-leading w ↦ w.leading-is ∙ w.if-leading.false ∙ ap (λ b. b && is_parameter c.index-symbols-at.result.class) (sym w.if-leading.false)
    ] in
    let done =
    passes c.args.symbols.now c.loop-at.at c.loop-at.names.keys c.loop-at.leading c.loop-at.invariant c.index-symbols-at.result c.loop-at-test.true c.index-symbols-at.is c.bytes.result c.if-leading.leading c.bytes.ensures.value (sym c.if-not-symbol_fits.ensures) (subst (λ n. list_any (λ key. bytes_eq n key.now) c.loop-at.names.keys ≡ false) c.bytes.ensures.value new) leads in
    subst (λ ks. Passed c.args.symbols.now (c.loop-at.at + 1) ks c.if-leading.leading) (sym keys) done

pub returns : goal.returns
returns c = let past = c.loop-at-test.false in all_passed c.args.symbols.now c.loop-at.at c.loop-at.names.keys c.loop-at.leading c.loop-at.invariant past
