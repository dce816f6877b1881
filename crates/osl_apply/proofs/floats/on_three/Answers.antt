use Rattle.std.proofs.Common.{[], ◌∷◌, length, ap, sym, ◌∙◌, inl}
use Rattle.osl_value.specs.AnyValue.{type_of}
use Rattle.osl_value.specs.Geometry.{each}
use Rattle.osl_value.specs.Table.{table}
use Rattle.osl_apply.specs.Slots.{seen, base_of}
use Rattle.osl_apply.proofs.Componentwise.{on_triples, on_floats, kind_is_triple, part_is_floats, part_is_one, three_parts}
use Rattle.osl_apply.proofs.floats.on_three.Goals as goal

pub returns-in-Some : goal.returns-in-Some
returns-in-Some c =
    let same_a = c.as_slice.ensures ∙ sym c.floats-a.ensures.floats in
    let same_b = c.as_slice-in-Some.ensures ∙ sym c.floats-b.ensures.floats in
    let same_c = c.as_slice-in-Some-2.ensures ∙ sym c.floats-c.ensures.floats in
    on_triples c.args.name c.args.ty (seen c.args.a.now ∷ seen c.args.b.now ∷ seen c.args.c.now ∷ []) (base_of c.in-Some.kind) c.three.new.out c.requires.types c.in-Some.ensures (kind_is_triple c.in-Some.kind)
    (c.three.ensures ∙ λ i. each 3 (table c.args.name).floats (same_a i ∷ same_b i ∷ same_c i ∷ []))

pub returns : goal.returns
returns c =
    let same_a = c.as_slice-2.ensures ∙ sym c.floats-a.ensures.floats in
    let same_b = c.as_slice-3.ensures ∙ sym c.floats-b.ensures.floats in
    let same_c = c.as_slice-4.ensures ∙ sym c.floats-c.ensures.floats in
    on_floats c.args.name c.args.ty (seen c.args.a.now ∷ seen c.args.b.now ∷ seen c.args.c.now ∷ []) c.three-2.new.out c.index-out-0.result c.requires.types c.in_default.ensures
    (c.three-2.ensures ∙ λ i. each 1 (table c.args.name).floats (same_a i ∷ same_b i ∷ same_c i ∷ []))

pub floats-b-requires : goal.floats-b-requires
floats-b-requires c = part_is_floats c.args.ty (type_of (seen c.args.b.now)) (three_parts c.args.name c.args.ty (type_of (seen c.args.a.now)) (type_of (seen c.args.b.now)) (type_of (seen c.args.c.now)) c.requires.types).second

pub floats-c-requires : goal.floats-c-requires
floats-c-requires c = part_is_floats c.args.ty (type_of (seen c.args.c.now)) (three_parts c.args.name c.args.ty (type_of (seen c.args.a.now)) (type_of (seen c.args.b.now)) (type_of (seen c.args.c.now)) c.requires.types).third

pub three-requires-2-clause-b : goal.three-requires-2-clause-b
three-requires-2-clause-b c =
    inl (ap length c.as_slice-3.ensures ∙ c.floats-b.ensures.count
    ∙ part_is_one c.args.ty (type_of (seen c.args.b.now)) c.in_default.ensures (three_parts c.args.name c.args.ty (type_of (seen c.args.a.now)) (type_of (seen c.args.b.now)) (type_of (seen c.args.c.now)) c.requires.types).second)

pub three-requires-2-clause-c : goal.three-requires-2-clause-c
three-requires-2-clause-c c =
    inl (ap length c.as_slice-4.ensures ∙ c.floats-c.ensures.count
    ∙ part_is_one c.args.ty (type_of (seen c.args.c.now)) c.in_default.ensures (three_parts c.args.name c.args.ty (type_of (seen c.args.a.now)) (type_of (seen c.args.b.now)) (type_of (seen c.args.c.now)) c.requires.types).third)
