use Rattle.std.proofs.Common.{◌≡◌, drop}
use Rattle.osl_check.specs.Above.{sight_of}
use Rattle.osl_check.specs.BodyParts.{placed}
use Rattle.osl_check.proofs.Walks.{before}
use Rattle.osl_check.proofs.declarations.placed.Given as goal

abbrev pub invariant-loop-place : goal.invariant-loop-place
invariant-loop-place l = before l.all (placed (sight_of l.sight) l.scope l.kind l.place (drop l.place l.items)) ≡ placed (sight_of l.sight) l.scope l.kind 0 l.items
