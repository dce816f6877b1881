use Rattle.std.proofs.Common.{sym, subst}
use Rattle.osl_group.proofs.Parameters.{AllFit, new_name}
use Rattle.osl_group.proofs.loaded.parameter_names.Goals as goal

pub push-requires : goal.push-requires
push-requires c =
    let symbols = c.as_slice-symbol-items.result.now in
    let fit = subst AllFit (sym c.as_slice-symbol-items.ensures) c.requires.symbols in
    new_name symbols c.loop-symbol.symbol-index c.symbol-item.result c.loop-symbol-test.true c.symbol-item.is fit c.loop-symbol.names c.bytes.result.now c.loop-symbol.invariant c.bytes.ensures.value
