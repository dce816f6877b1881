-- The jumps of valid code are numbers of ops.
use Rattle.std.proofs.Common.{◌≡◌, ℕ, suc, ◌+◌, ◌≤◌, Bool, true, false, List, [], ◌∷◌, length, Some, refl, arith}
use Rattle.std.specs.Prelude.{if◌then◌else◌, nat_le, nat_lt, slice_get}
use Rattle.std.specs.List.{AllByRecursion}
use Rattle.std.proofs.lemmas.Bool.{and_parts, leb-true}
use Rattle.oso_code.specs.declared.op.Op.{Op}
use Rattle.oso_code.specs.declared.op.Section.{Section}
use Rattle.oso_code.specs.declared.raw.Raw.{Raw}
use Rattle.oso_code.specs.Ops.{section_at}
use Rattle.oso_code.specs.Ranges.{ascends, reach, ends_in_section}
use Rattle.oso_code.specs.Valid.{IsValid, most_ops}
use Rattle.oso_code.proofs.Chained.{valid_section}
use Rattle.oso_code.proofs.Nested.{jump_facts}
use Rattle.oso_read.proofs.Limits.{limits}

all_within : (from top : ℕ) (jumps : List ℕ) → ascends from jumps ≡ true → reach from jumps ≤ top → (from ≤ top) × AllByRecursion (λ (j : ℕ). j ≤ top) jumps
all_within from top [] h le = (le, tt)
all_within from top (jump ∷ jumps) h le =
    let parts = and_parts (nat_le from jump) (ascends jump jumps) h in
    let rest = all_within jump top jumps parts.1 le in
    let here : from ≤ jump = leb-true from jump parts.0 in
    let upto : jump ≤ top = rest.0 in
    (omega arith, (upto, rest.1))

section_ends : (raw : Raw) → IsValid raw → (sections : List Section) → ((j : ℕ) (section : Section) → slice_get sections j ≡ Some section → section.end ≤ length raw.ops)
    → (end k : ℕ) → ends_in_section end (section_at sections k) ≡ true → end ≤ length raw.ops
section_ends raw valid [] within end k h = absurd cc
section_ends raw valid (section ∷ sections) within end k h = go (nat_lt k section.end) (section_ends raw valid sections (λ j s is. within (suc j) s is) end k) h
  where
    go : (b : Bool) → (ends_in_section end (section_at sections k) ≡ true → end ≤ length raw.ops)
        → ends_in_section end (if b then Some section else section_at sections k) ≡ true → end ≤ length raw.ops
    go true more e =
        let upto : end ≤ section.end = leb-true end section.end e in
        let inside : section.end ≤ length raw.ops = within 0 section refl in
        omega arith
    go false more e = more e

pub jumps_small : (raw : Raw) → IsValid raw → (k : ℕ) (op : Op) → slice_get raw.ops k ≡ Some op → AllByRecursion (λ (j : ℕ). j ≤ most_ops) op.jumps
jumps_small raw valid k op is =
    let facts = jump_facts raw k op (valid.jumps k op is) in
    let ends : reach (k + 1) op.jumps ≤ length raw.ops =
    section_ends raw valid raw.sections (λ j section there. (valid_section raw valid j section there).within) (reach (k + 1) op.jumps) k facts.section in
    let few = (limits raw valid).ops in
    (all_within (k + 1) most_ops op.jumps facts.ascend (omega arith)).1
