use Rattle.std.proofs.Common.{◌≡◌, ap, ◌∙◌}
use Rattle.std.specs.Int.{w32}
use Rattle.std.proofs.lemmas.Int.{to_z-of_z}
use Rattle.osl_value.specs.Numbers.{count_of}
use Rattle.osl_value.specs.Strings.{begin_of}
use Rattle.osl_strops.proofs.Parts.{part_is}
use Rattle.osl_strops.proofs.strings.substr.Goals as goal

pub returns : goal.returns
returns c =
    let start = to_z-of_z w32 c.args.start c.ranges.start in
    let from : c.begin_of.result ≡ begin_of c.args.s.now c.args.start = c.begin_of.ensures.place ∙ (λ i. begin_of (c.bytes-bytes.ensures.value i) (start i)) in
    let count : c.count_of.result ≡ count_of c.args.len = c.count_of.ensures ∙ ap count_of (to_z-of_z w32 c.args.len c.ranges.len) in
    let text = c.text_of.ensures ∙ c.in_ok-part.ensures.items ∙ c.first_bytes.ensures.value in
    part_is _ _ _ _ _ _ _ _ c.bytes-bytes.ensures.value c.bytes_from-rest.ensures.value text from count
