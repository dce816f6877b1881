use Rattle.std.proofs.Common.{[], ◌∷◌, sym, ◌∙◌}
use Rattle.osl_value.specs.Geometry.{each}
use Rattle.osl_value.specs.Table.{table}
use Rattle.osl_apply.specs.Slots.{seen, base_of}
use Rattle.osl_apply.proofs.Componentwise.{on_triples, on_floats, kind_is_triple}
use Rattle.osl_apply.proofs.floats.on_one.Goals as goal

pub returns-in-Some : goal.returns-in-Some
returns-in-Some c =
    let same_a = c.as_slice.ensures ∙ sym c.floats-a.ensures.floats in
    on_triples c.args.name c.args.ty (seen c.args.a.now ∷ []) (base_of c.in-Some.kind) c.one.new.out c.requires.types c.in-Some.ensures (kind_is_triple c.in-Some.kind)
    (c.one.ensures ∙ λ i. each 3 (table c.args.name).floats (same_a i ∷ []))

pub returns : goal.returns
returns c =
    let same_a = c.as_slice-2.ensures ∙ sym c.floats-a.ensures.floats in
    on_floats c.args.name c.args.ty (seen c.args.a.now ∷ []) c.one-2.new.out c.index-out-0.result c.requires.types c.in_default.ensures
    (c.one-2.ensures ∙ λ i. each 1 (table c.args.name).floats (same_a i ∷ []))
