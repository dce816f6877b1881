use Rattle.std.proofs.Common.{ℤ, pos, ◌++◌, get_or, ap, ◌∙◌, arith, rules}
use Rattle.std.proofs.lemmas.Int.{to_z-of_z}
use Rattle.std.specs.Int.{w64}
use Rattle.osl_valuetext.specs.Words.{number_text}
use Rattle.osl_valuetext.proofs.Texts.{words_more}
use Rattle.osl_valuetext.proofs.write.write_numbers.Goals as goal

pub loop-n-preserved : goal.loop-n-preserved
loop-n-preserved c =
    let same = to_z-of_z w64 (get_or c.args.nums.now c.loop-n.n-index (pos 0)) (search rules) in
    words_more c.args.mark (number_text c.args.base) c.args.nums.now c.loop-n.n-index (pos 0) c.args.out.now.items _ _ _ (omega arith)
    c.loop-n.invariant (search rules) (c.in_ok-write_number.ensures ∙ ap (λ (n : ℤ). c.push.new.self.items ++ number_text c.args.base n) same)
