use Rattle.std.proofs.Common.{rules, ap, ◌∙◌, arith}
use Rattle.osl_closure.proofs.Walking.{visit_full, visit_leaf, visit_add, visit_scale, multiply, size-positive, put_whole}
use Rattle.std.proofs.lemmas.List.{length-map}
use Rattle.std.proofs.Common.{length}
use Rattle.osl_closure.specs.Parts.{parts}
use Rattle.osl_closure.proofs.walk.step.Goals as goal

pub returns-then-len-eq-MOST_PARTS-clause-same : goal.returns-then-len-eq-MOST_PARTS-clause-same
returns-then-len-eq-MOST_PARTS-clause-same c = rw c.in-Visit.is (visit_full c.args.tasks.now.items c.in-Visit.shape c.args.found.now.items (search rules))

pub returns-then-len-eq-MOST_PARTS-clause-less : goal.returns-then-len-eq-MOST_PARTS-clause-less
returns-then-len-eq-MOST_PARTS-clause-less c = rw c.in-Visit.is (omega (arith, size-positive c.in-Visit.shape.now))

pub returns-in_ok-find-in-Leaf-clause-same : goal.returns-in_ok-find-in-Leaf-clause-same
returns-in_ok-find-in-Leaf-clause-same c = rw c.in-Visit.is (visit_leaf c.args.tasks.now.items c.in-Visit.shape c.args.found.now.items _ _ (search rules) (ap parts c.in-Leaf.is) c.in_ok-find-in-Leaf.ensures.added)

pub returns-in_ok-push-in-Add-2-clause-same : goal.returns-in_ok-push-in-Add-2-clause-same
returns-in_ok-push-in-Add-2-clause-same c = rw (c.in_ok-push-in-Add-2.ensures.items, c.in_ok-push-in-Add.ensures.items, c.in-Visit.is) (visit_add c.args.tasks.now.items c.in-Visit.shape c.in-Add.left c.in-Add.right _ (ap parts c.in-Add.is))

pub returns-in_ok-push-in-Scale-2-clause-same : goal.returns-in_ok-push-in-Scale-2-clause-same
returns-in_ok-push-in-Scale-2-clause-same c = rw (c.in_ok-push-in-Scale-2.ensures.items, c.in_ok-push-in-Scale.ensures.items, c.in-Visit.is) (visit_scale c.args.tasks.now.items c.in-Visit.shape c.in-Scale.inner c.in-Scale.by _ _ (rw length-map (search rules)) (search rules) (ap parts c.in-Scale.is))

pub returns-then-from-len-clause-same : goal.returns-then-from-len-clause-same
returns-then-from-len-clause-same c = rw c.in-Multiply.is (multiply c.args.tasks.now.items c.in-Multiply.from c.in-Multiply.by c.args.found.now.items _ (put_whole _ c.scale_from.new.found c.args.found.now.items (c.scale_from.auto.found ∙ ap length c.as_mut_slice.ensures.value) (search rules) ∙ rw (← c.as_mut_slice.ensures.value) c.scale_from.ensures))
