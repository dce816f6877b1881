use Rattle.std.proofs.Common.{◌∙◌, ap₂}
use Rattle.clap.specs.Words.{with_rule}
use Rattle.osl_words.proofs.shade.command.Goals as goal

pub returns : goal.returns
returns c =
    let group = c.in_ok-command.ensures.shape c.required.ensures.local ∙ ap₂ with_rule c.bare-command.ensures c.required.ensures.rule in
    let points = c.in_ok-command-2.ensures.shape c.required-2.ensures.local ∙ ap₂ with_rule group c.required-2.ensures.rule in
    let edits = c.in_ok-command-3.ensures.shape c.option.ensures.local ∙ ap₂ with_rule points c.option.ensures.rule in
    let workers = c.in_ok-command-4.ensures.shape c.option-2.ensures.local ∙ ap₂ with_rule edits c.option-2.ensures.rule in
    let budget = c.in_ok-command-5.ensures.shape c.option-3.ensures.local ∙ ap₂ with_rule workers c.option-3.ensures.rule in
    let settle = c.in_ok-command-6.ensures.shape c.flag.ensures.local ∙ ap₂ with_rule budget c.flag.ensures.rule in
    let serial = c.in_ok-command-7.ensures.shape c.flag-2.ensures.local ∙ ap₂ with_rule settle c.flag-2.ensures.rule in
    c.in_ok-command-8.ensures.shape c.option-4.ensures.local ∙ ap₂ with_rule serial c.option-4.ensures.rule
