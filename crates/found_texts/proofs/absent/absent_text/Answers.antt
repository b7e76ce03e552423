use Rattle.std.proofs.Common.{◌∙◌}
use Rattle.std.proofs.lemmas.Result.{IfOk-weaker}
use Rattle.found_texts.proofs.FoundLemmas.{said_json, said_lines}
use Rattle.found_texts.proofs.absent.absent_text.Goals as goal

pub returns-in-Text : goal.returns-in-Text
returns-in-Text c =
    rw c.in-Text.is
    (IfOk-weaker c.absent_lines.result _ _
    (λ text is. is ∙ said_lines c.args.left_out c.args.complete c.args.image.now c.args.states) c.absent_lines.ensures)

pub returns-in-Json : goal.returns-in-Json
returns-in-Json c =
    rw c.in-Json.is
    (IfOk-weaker c.json_line.result _ _
    (λ text is. is ∙ said_json c.args.left_out c.args.complete c.args.image.now c.args.states) c.json_line.ensures)
