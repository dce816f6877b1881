use Rattle.std.proofs.Common.{◌≡◌, length, ap, rules, arith}
use Rattle.osl_valuetext.specs.Scan.{spoken}
use Rattle.osl_grouptext.specs.Pieces.{words}
use Rattle.osl_grouptext.proofs.Cut.{words_fit}
use Rattle.osl_grouptext.proofs.Numbers.{spoken_len}
use Rattle.osl_grouptext.proofs.pieces.words.Goals as goal

pub returns-clause-few : goal.returns-clause-few
unfolding words
returns-clause-few c =
    let found = c.push_words.new.into.items in
    let said : spoken found ≡ words c.args.text.now = search rules in
    let same : length (spoken found) ≡ length (words c.args.text.now) = ap length said in
    omega (arith, words_fit c.args.text.now, same, spoken_len found)
