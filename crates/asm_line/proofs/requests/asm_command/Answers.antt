use Rattle.std.proofs.Common.{◌∙◌, ap₂}
use Rattle.std.proofs.lemmas.Result.{IfOk-weaker}
use Rattle.clap.specs.Words.{with_rule}
use Rattle.asm_line.proofs.requests.asm_command.Goals as goal

pub returns : goal.returns
returns c =
    let files_added = c.in_ok-with_files.ensures.shape c.repeated_word.ensures.local
    ∙ ap₂ with_rule c.new.ensures.app c.repeated_word.ensures.rule in
    let hart_added = c.in_ok-with_hart.ensures.shape c.repeated_option.ensures.local
    ∙ ap₂ with_rule files_added c.repeated_option.ensures.rule in
    let harts_added = c.in_ok-with_harts.ensures.shape c.single_option.ensures.local
    ∙ ap₂ with_rule hart_added c.single_option.ensures.rule in
    IfOk-weaker c.arg-4.result _ _
    (λ command added. added.shape c.flag.ensures.local ∙ ap₂ with_rule harts_added c.flag.ensures.rule)
    c.arg-4.ensures
