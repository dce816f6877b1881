use Rattle.std.proofs.Common.{Some, map, rules, sym, ap, ◌∙◌, map-id}
use Rattle.std.proofs.lemmas.Iterator.Adapters.{YieldsList-from_vec}
use Rattle.std.proofs.lemmas.Iterator.Consumers.{YieldsList-end}
use Rattle.osl_typed.specs.Typing.{tree_of}
use Rattle.osl_typing.proofs.Arguments.{one_more_tree}
use Rattle.osl_typing.proofs.constructors.trees.Goals as goal

pub loop-a-preserved : goal.loop-a-preserved
loop-a-preserved c = one_more_tree c.loop-a.yielded c.loop-a.trees c.push.new.self c.in-Some.a c.tree_of-tree.result c.loop-a.invariant c.tree_of-tree.ensures c.in_ok-push.ensures.ok

pub returns : goal.returns
returns c =
    let end = YieldsList-end (YieldsList-from_vec {s = c.into_iter-a-iterator.result} c.args.args.items (search rules) (search rules))
    c.loop-a.yielded c.loop-a.a-iterator c.loop-a.yielded_by c.next.result c.next.new.self c.in-None.is c.next.ensures.steps in
    ap Some (ap (map tree_of) (sym end.0 ∙ map-id c.loop-a.yielded) ∙ sym c.loop-a.invariant)
