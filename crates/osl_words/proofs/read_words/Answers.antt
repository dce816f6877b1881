use Rattle.std.proofs.Common.{◌≡◌, ◌∙◌, sym, ap, Some}
use Rattle.std.specs.Prelude.{string_bytes, slice_get}
use Rattle.osl_words.specs.Words.{job_of}
use Rattle.osl_words.proofs.Commands.{job_of-no_command, words_from}
use Rattle.osl_words.proofs.read_words.Goals as goal

pub returns-in_default-as_str : goal.returns-in_default-as_str
returns-in_default-as_str c =
    let e = c.as_str.ensures.value in
    let first : slice_get c.args.words.now 0 ≡ Some c.in-Some.name.now = sym c.in-Some.ensures.value in
    let words = words_from c.args.words.now c.in-Some.name.now first in
    sym (ap job_of words.1 ∙ job_of-no_command (string_bytes c.in-Some.name.now) words.0
    (λ n. c.in_default-as_str.not-shade (e ∙ n), (λ n. c.in_default-as_str.not-oslc (e ∙ n), (λ n. c.in_default-as_str.not-demo (e ∙ n), (λ n. c.in_default-as_str.not-text (e ∙ n), _)))))
