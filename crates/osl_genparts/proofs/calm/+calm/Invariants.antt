use Rattle.std.proofs.Common.{◌≡◌, ◌&&◌, map, drop}
use Rattle.osl_genparts.specs.Calm.{all_of, is_calm, passes_calm}
use Rattle.osl_genparts.proofs.calm.+calm.Given as goal

-- those so far and those to come are all of them
abbrev pub invariant-are_calm-loop-item : goal.invariant-are_calm-loop-item
invariant-are_calm-loop-item l = (l.calm && all_of (map is_calm (drop l.item-index l.items))) ≡ all_of (map is_calm l.items)

abbrev pub invariant-pass_calm-loop-arg : goal.invariant-pass_calm-loop-arg
invariant-pass_calm-loop-arg l = (l.calm && all_of (map passes_calm (drop l.arg-index l.args))) ≡ all_of (map passes_calm l.args)
