use Rattle.std.proofs.Common.{map, sym, ap, ◌∙◌, arith, false}
use Rattle.osl_overload.specs.declared.signature.Kind.TheVariants.{Void}
use Rattle.std.specs.Option.{option_copied}
use Rattle.osl_typed.specs.Typing.{root_of}
use Rattle.osl_calls.specs.Roots.{passed_in}
use Rattle.osl_calls.proofs.Apart.{no_output, begins, no_argument, no_parameter, passed_none, passed_root, found_clash}
use Rattle.osl_calls.proofs.outputs.apart.Goals as goal
use Rattle.osl_calls.proofs.outputs.apart.Goals.{in-Some-root_of+in_ok-before+else-clashes, in_default-root_of}

pub returns-then-not-has_output : goal.returns-then-not-has_output
returns-then-not-has_output c = sym (no_output c.args.formals.now (map root_of c.args.args.now) (sym c.if-not-has_output.ensures))

pub loop-i-init : goal.loop-i-init
loop-i-init c = begins (passed_in c.new-roots.result) c.args.formals.now (map root_of c.args.args.now) c.new-roots.ensures

pub returns-in_default : goal.returns-in_default
returns-in_default c =
    no_argument (passed_in c.loop-i.roots) c.args.formals.now c.args.args.now c.loop-i.i _ c.loop-i.invariant (sym c.at.ensures ∙ ap option_copied c.in_default.is)

pub returns-then-clashes : goal.returns-then-clashes
returns-then-clashes c =
    found_clash (passed_in c.loop-i.roots) c.args.formals.now c.args.args.now c.loop-i.i _ c.loop-i.invariant _ c.in-Some.arg.now (omega arith)
    (sym c.at.ensures ∙ ap option_copied c.in-Some.is) c.in-Some-root_of.root c.in_ok-before.before c.clashes.result (sym c.root_of.ensures ∙ c.in-Some-root_of.is)
    c.in_ok-before.ensures.before c.clashes.ensures c.if-clashes.true

pub loop-i-preserved : goal.loop-i-preserved
loop-i-preserved c = elim c.match-root_of.branch [
  | in-Some-root_of+in_ok-before+else-clashes w ↦
      passed_root (passed_in c.loop-i.roots) c.args.formals.now c.args.args.now c.loop-i.i _ c.loop-i.invariant _ c.in-Some.arg.now (omega arith)
      (sym c.at.ensures ∙ ap option_copied c.in-Some.is) w.in-Some-root_of.root w.in_ok-before.before w.clashes.result (passed_in c.match-root_of.roots)
      (sym c.root_of.ensures ∙ w.in-Some-root_of.is) w.in_ok-before.ensures.before w.clashes.ensures w.if-clashes.false (ap passed_in w.roots-is ∙ w.in_ok-before.ensures.after)
  | in_default-root_of w ↦
      passed_none (passed_in c.loop-i.roots) c.args.formals.now c.args.args.now c.loop-i.i _ c.loop-i.invariant (record { kind = Void; output = false }) c.in-Some.arg.now (omega arith)
      (sym c.at.ensures ∙ ap option_copied c.in-Some.is) (passed_in c.match-root_of.roots) (sym c.root_of.ensures ∙ w.in_default-root_of.is) (ap passed_in w.roots-is)
]

pub returns : goal.returns
returns c = no_parameter (passed_in c.loop-i.roots) c.args.formals.now c.args.args.now c.loop-i.i _ c.loop-i.invariant (omega arith)
