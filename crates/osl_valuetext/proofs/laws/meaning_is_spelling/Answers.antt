use Rattle.osl_valuetext.proofs.Exact.{string_spelled, string_there, text_spelled, text_there, type_spelled, type_there, literal_spelled, literal_there, value_spelled, value_exact}
use Rattle.osl_valuetext.proofs.PairWords.{pair_spelled, pair_there}
use Rattle.osl_valuetext.proofs.laws.meaning_is_spelling.Goals as goal

pub returns-clause-strings : goal.returns-clause-strings
returns-clause-strings c = λ word bytes. (string_spelled word bytes, string_there word bytes)

pub returns-clause-texts : goal.returns-clause-texts
returns-clause-texts c = λ word text. (text_spelled word text, text_there word text)

pub returns-clause-types : goal.returns-clause-types
returns-clause-types c = λ word ty. (type_spelled word ty, type_there word ty)

pub returns-clause-numbers : goal.returns-clause-numbers
returns-clause-numbers c = λ s base word n. (literal_spelled s base word n, literal_there s base word n)

pub returns-clause-values : goal.returns-clause-values
returns-clause-values c = λ s ty words v. (value_spelled s ty words v, value_exact s ty words v)

pub returns-clause-pairs : goal.returns-clause-pairs
returns-clause-pairs c = λ word pair. (pair_spelled word pair, pair_there word pair)
