use Rattle.std.proofs.Common.{◌≡◌, Some, IsSome, refl, ap, ◌∙◌, sym, subst}
use mathlib.Core.Option as maybe
use Rattle.osl_turnlock.proofs.Ends.{closes}
use Rattle.osl_turnlock.proofs.lock.TurnLock.finish.Goals as goal

pub unwrap-requires : goal.unwrap-requires
unwrap-requires g c =
    let end = closes g.T.Held.log g.T.Held.mark g.T.Held.base _ _ _ _ _ c.close_with-closed.ensures.values.2 c.requires.lock.1 c.requires.alone.0 c.requires.alone.1 in
    let is : Some end.0 ≡ c.take-slot.result = maybe.some-injective _ _ (sym end.1 ∙ c.take-slot.ensures.value) in
    subst IsSome is refl

pub returns : goal.returns
returns g c =
    let end = closes g.T.Held.log g.T.Held.mark g.T.Held.base _ _ _ _ _ c.close_with-closed.ensures.values.2 c.requires.lock.1 c.requires.alone.0 c.requires.alone.1 in
    let is : Some end.0 ≡ c.take-slot.result = maybe.some-injective _ _ (sym end.1 ∙ c.take-slot.ensures.value) in
    let x : c.unwrap.result ≡ end.0 = cc (is, c.unwrap.ensures) in record {
      log = ap g.T.Held.log x ∙ end.2;
      mark = ap g.T.Held.mark x ∙ end.3;
      base = ap (λ y. Some (g.T.Held.base y)) x ∙ end.4;
      own = end.5;
    }
