use Rattle.std.proofs.Common.{Bool, length, sym, ap, ◌∙◌, subst}
use Rattle.std.specs.Prelude.{◌&&◌, nat_le, unwrap_or}
use Rattle.oso_code.specs.declared.raw.Raw.{Raw}
use Rattle.oso_code.specs.Faults.{least}
use Rattle.oso_code.specs.Walk.{if_before}
use Rattle.oso_code.specs.Walked.{AreRangeFaults}
use Rattle.oso_code.specs.Valid.{deep_faults, most_ops, most_symbols, most_slots, slots_of}
use Rattle.oso_code.proofs.Validity.{symbol_flaw, op_flaw, jump_flaw, limit_flaw, no_flaw, deep_none}
use Rattle.oso_code.proofs.flaws.first_flaw.Goals as goal

abbrev counts : Raw → Bool
counts raw = (nat_le (length raw.symbols) most_symbols && nat_le (length raw.ops) most_ops) && nat_le (slots_of raw.symbols) most_slots

pub returns-in-Some : goal.returns-in-Some
returns-in-Some c = sym (symbol_flaw c.args.raw.now c.in-Some.at (sym c.in_ok-at.ensures ∙ c.in-Some.is))

pub returns-in-Some-2 : goal.returns-in-Some-2
returns-in-Some-2 c =
    let symbols = sym c.in_ok-at.ensures ∙ c.in_default.is in
    sym (op_flaw c.args.raw.now symbols c.in-Some-2.at (sym c.in_ok-at-2.ensures ∙ c.in-Some-2.is))

pub returns-in-Some-jump : goal.returns-in-Some-jump
returns-in-Some-jump c =
    let symbols = sym c.in_ok-at.ensures ∙ c.in_default.is in
    let ops = sym c.in_ok-at-2.ensures ∙ c.in_default-2.is in
    let faults = subst (λ o. AreRangeFaults c.args.raw.now.symbols c.args.raw.now.sections o c.in_ok-faults.faults) c.as_slice-2.ensures (subst (λ s. AreRangeFaults c.args.raw.now.symbols s c.as_slice-2.result.now c.in_ok-faults.faults) c.as_slice.ensures (c.in_ok-faults.ensures c.args.raw.now.symbols)) in
    sym (jump_flaw c.args.raw.now symbols ops c.in-Some-jump.at (sym faults.jump ∙ c.in-Some-jump.is))

pub returns-then-not-fits_limits : goal.returns-then-not-fits_limits
returns-then-not-fits_limits c =
    let raw = c.args.raw.now in
    let symbols = sym c.in_ok-at.ensures ∙ c.in_default.is in
    let ops = sym c.in_ok-at-2.ensures ∙ c.in_default-2.is in
    let faults = subst (λ o. AreRangeFaults raw.symbols raw.sections o c.in_ok-faults.faults) c.as_slice-2.ensures (subst (λ s. AreRangeFaults raw.symbols s c.as_slice-2.result.now c.in_ok-faults.faults) c.as_slice.ensures (c.in_ok-faults.ensures raw.symbols)) in
    let jumps = sym faults.jump ∙ c.in_default-jump.is in
    let deep = deep_none raw symbols ops jumps c.in_ok-faults.faults.deep (faults.deep ∙ ap (λ j. if_before (unwrap_or j (length raw.ops)) (least (deep_faults raw))) c.in_default-jump.is) in
    sym (limit_flaw raw symbols ops jumps (sym (ap (λ b. counts raw && b) deep) ∙ sym c.if-not-fits_limits.ensures))

pub returns : goal.returns
returns c =
    let raw = c.args.raw.now in
    let symbols = sym c.in_ok-at.ensures ∙ c.in_default.is in
    let ops = sym c.in_ok-at-2.ensures ∙ c.in_default-2.is in
    let faults = subst (λ o. AreRangeFaults raw.symbols raw.sections o c.in_ok-faults.faults) c.as_slice-2.ensures (subst (λ s. AreRangeFaults raw.symbols s c.as_slice-2.result.now c.in_ok-faults.faults) c.as_slice.ensures (c.in_ok-faults.ensures raw.symbols)) in
    let jumps = sym faults.jump ∙ c.in_default-jump.is in
    let deep = deep_none raw symbols ops jumps c.in_ok-faults.faults.deep (faults.deep ∙ ap (λ j. if_before (unwrap_or j (length raw.ops)) (least (deep_faults raw))) c.in_default-jump.is) in
    sym (no_flaw raw symbols ops jumps (sym (ap (λ b. counts raw && b) deep) ∙ sym c.if-not-fits_limits.ensures))
