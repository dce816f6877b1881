use Rattle.std.proofs.Common.{◌≡◌, ℕ, List, [], ◌∷◌, ◌++◌, map, bytes_eq, if◌then◌else◌, OnOk, OnErr, subst, sym, ap, ◌∙◌}
use Rattle.osl_calls.specs.Named.{candidate}
use Rattle.osl_calls.specs.Table.{Table, held}
use Rattle.osl_calls.proofs.Names.{key_bytes, seen, pushed_ok, pushed_err, inserted_first}
use Rattle.osl_calls.proofs.table.Table.push.Goals as goal

pub returns-in-Some-clause-ok : goal.returns-in-Some-clause-ok
returns-in-Some-clause-ok c =
    subst (λ (t : Table). OnOk c.push.result ((other : List ℕ) → held (map (seen key_bytes) (c.get_mut.follows.lender c.push.new.self).entries) other
    ≡ (if bytes_eq other c.args.name.now then held t other ++ candidate c.args.signature c.args.callee ∷ [] else held t other)))
    c.self.view_is
    (pushed_ok key_bytes c.push.result c.args.name.now c.in-Some.named.now c.push.new.self c.self.inside.by_name.entries (c.get_mut.follows.lender c.push.new.self).entries
    (sym c.in-Some.ensures.value) (c.get_mut.follows.holds c.push.new.self).0 (candidate c.args.signature c.args.callee) c.push.ensures.ok)

pub returns-in-Some-clause-err : goal.returns-in-Some-clause-err
returns-in-Some-clause-err c =
    subst (λ (t : Table). OnErr c.push.result ((other : List ℕ) → held (map (seen key_bytes) (c.get_mut.follows.lender c.push.new.self).entries) other ≡ held t other))
    c.self.view_is
    (pushed_err key_bytes c.push.result c.args.name.now c.in-Some.named.now c.push.new.self c.self.inside.by_name.entries (c.get_mut.follows.lender c.push.new.self).entries
    (sym c.in-Some.ensures.value) (c.get_mut.follows.holds c.push.new.self).0 c.push.ensures.err)

pub returns-clause-ok : goal.returns-clause-ok
returns-clause-ok c = λ other.
    inserted_first key_bytes c.args.name.now c.in_ok-key.key (candidate c.args.signature c.args.callee) c.self.inside.by_name.entries c.get_mut.follows.lender-at-none.entries c.insert.new.self.entries c.push-2.new.self
    c.in_ok-insert.ensures.entries (ap (λ m. m.entries) c.get_mut.follows.holds-at-none) c.in_ok-key.ensures.items (sym c.in_default.ensures.value)
    (c.in_ok-push.ensures.ok ∙ ap (λ xs. xs ++ candidate c.args.signature c.args.callee ∷ []) c.new-named.ensures) other
    ∙ ap (λ t. if bytes_eq other c.args.name.now then held t other ++ candidate c.args.signature c.args.callee ∷ [] else held t other) c.self.view_is
