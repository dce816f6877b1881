use Rattle.std.proofs.lemmas.List.Elements.{recursion_from_All}
use Rattle.osl_valuetext.specs.Spells.{IsByte}
use Rattle.osl_valuetext.proofs.Canonicals.{number_written}
use Rattle.osl_valuetext.proofs.Escapes.{string_written}
use Rattle.osl_valuetext.proofs.Exact.{value_written, texts_are}
use Rattle.osl_valuetext.proofs.Plains.{plain_type_from}
use Rattle.osl_valuetext.proofs.TypeTexts.{type_written}
use Rattle.osl_valuetext.proofs.laws.reading_undoes_writing.Goals as goal

pub returns-clause-strings : goal.returns-clause-strings
returns-clause-strings c = λ bytes all. string_written bytes (recursion_from_All IsByte bytes all)

pub returns-clause-types : goal.returns-clause-types
returns-clause-types c = λ ty other short. type_written ty (plain_type_from ty other short)

pub returns-clause-numbers : goal.returns-clause-numbers
returns-clause-numbers c = number_written

pub returns-clause-values : goal.returns-clause-values
returns-clause-values c = λ s v is texts. value_written s v is (texts_are v.texts texts)
