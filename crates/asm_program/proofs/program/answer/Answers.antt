use Rattle.std.proofs.Common.{◌≡◌, ◌<◌, ◌≤◌, arith, length, refl, ◌∙◌, ap, sym, map, false}
use Rattle.std.proofs.lemmas.Result.{err_from_is_err_and}
use Rattle.asm_line.specs.Requests.{asm_asked, asm_asked_by}
use Rattle.asm_program.specs.Faults.{own_failure}
use Rattle.asm_program.specs.Program.{IsAnswer, command_line}
use Rattle.asm_program.specs.Texts.{text_items}
use Rattle.asm_program.proofs.ProgramLemmas.{asked_printed, asked_fails, asked_fault, asked_something, files_unread, none_answers, texts_fail, texts_printed}
use Rattle.asm_program.proofs.TextLemmas.{read_length}
use Rattle.program_io.proofs.FaultLemmas.{command_fails, refused_words}
use Rattle.asm_program.proofs.program.answer.Goals as goal

pub returns-in_err-request-clause-failed : goal.returns-in_err-request-clause-failed
returns-in_err-request-clause-failed g c =
    let p = err_from_is_err_and c.from_residual-in_err-request.result c.from_residual-in_err-request.ensures.1 in
    let same : map (λ arg. arg.now) c.as_slice.result.now ≡ command_line c.args.args.now =
    ap (map (λ arg. arg.now)) c.as_slice.ensures.value ∙ c.in_ok-args.ensures in
    rw (p.1, p.2)
    (command_fails own_failure false (IsAnswer (g.F.Files.bytes_of c.args.files.now) (asm_asked (command_line c.args.args.now))) _ _
    c.asm_request.result c.in_err-request.field-0.0 c.in_err-request.was
    (λ usage. none_answers (g.F.Files.bytes_of c.args.files.now) _ (ap asm_asked (sym same) ∙ c.asm_request.ensures.usage usage)) refl)

pub returns-in_err-request-clause-nothing : goal.returns-in_err-request-clause-nothing
returns-in_err-request-clause-nothing g c =
    let p = err_from_is_err_and c.from_residual-in_err-request.result c.from_residual-in_err-request.ensures.1 in
    rw (p.1, p.2) (λ none. refused_words c.in_err-request.field-0.0)

pub returns-in_err-texts-clause-failed : goal.returns-in_err-texts-clause-failed
returns-in_err-texts-clause-failed g c =
    let p = err_from_is_err_and c.from_residual-in_err-texts.result c.from_residual-in_err-texts.ensures.1 in
    let same : map (λ arg. arg.now) c.as_slice.result.now ≡ command_line c.args.args.now =
    ap (map (λ arg. arg.now)) c.as_slice.ensures.value ∙ c.in_ok-args.ensures in
    rw (p.1, p.2)
    (asked_fault (g.F.Files.bytes_of c.args.files.now) (asm_asked (command_line c.args.args.now)) (asm_asked_by c.in_ok-request.request)
    c.in_err-texts.field-0.0 _ _ (ap asm_asked (sym same) ∙ c.in_ok-request.ensures.asked)
    (files_unread (g.F.Files.bytes_of c.args.files.now) (asm_asked_by c.in_ok-request.request) c.in_err-texts.field-0.0 _ _
    (rw c.as_slice-2.ensures.value at c.in_err-texts.ensures.refused) refl))

pub returns-in_err-texts-clause-nothing : goal.returns-in_err-texts-clause-nothing
returns-in_err-texts-clause-nothing g c =
    let same : map (λ arg. arg.now) c.as_slice.result.now ≡ command_line c.args.args.now =
    ap (map (λ arg. arg.now)) c.as_slice.ensures.value ∙ c.in_ok-args.ensures in
    asked_something (asm_asked (command_line c.args.args.now)) (asm_asked_by c.in_ok-request.request)
    (ap asm_asked (sym same) ∙ c.in_ok-request.ensures.asked)

pub write_assembled-requires : goal.write_assembled-requires
write_assembled-requires g c =
    let count : length c.in_ok-texts.texts.items ≡ length c.in_ok-request.request.files.items =
    read_length (g.F.Files.bytes_of c.args.files.now) c.in_ok-request.request.files.items c.in_ok-texts.texts.items
    (rw c.as_slice-2.ensures.value at c.in_ok-texts.ensures.read) in
    let few : length c.in_ok-request.request.files.items ≤ 16 = c.in_ok-request.ensures.few in
    let small : length c.in_ok-texts.texts.items < 4294967296 = omega arith in
    rw c.as_slice-3.ensures.value small

pub returns-clause-printed : goal.returns-clause-printed
returns-clause-printed g c =
    let same : map (λ arg. arg.now) c.as_slice.result.now ≡ command_line c.args.args.now =
    ap (map (λ arg. arg.now)) c.as_slice.ensures.value ∙ c.in_ok-args.ensures in
    asked_printed (g.F.Files.bytes_of c.args.files.now) (asm_asked (command_line c.args.args.now))
    (asm_asked_by c.in_ok-request.request) c.write_assembled.result _ _ (ap asm_asked (sym same) ∙ c.in_ok-request.ensures.asked)
    (texts_printed (g.F.Files.bytes_of c.args.files.now) (asm_asked_by c.in_ok-request.request) (map text_items c.in_ok-texts.texts.items)
    (rw c.as_slice-2.ensures.value at c.in_ok-texts.ensures.read) c.write_assembled.result _ _
    (rw c.as_slice-3.ensures.value at c.write_assembled.ensures.printed))

pub returns-clause-failed : goal.returns-clause-failed
returns-clause-failed g c =
    let same : map (λ arg. arg.now) c.as_slice.result.now ≡ command_line c.args.args.now =
    ap (map (λ arg. arg.now)) c.as_slice.ensures.value ∙ c.in_ok-args.ensures in
    asked_fails (g.F.Files.bytes_of c.args.files.now) (asm_asked (command_line c.args.args.now))
    (asm_asked_by c.in_ok-request.request) c.write_assembled.result _ _ (ap asm_asked (sym same) ∙ c.in_ok-request.ensures.asked)
    (texts_fail (g.F.Files.bytes_of c.args.files.now) (asm_asked_by c.in_ok-request.request) (map text_items c.in_ok-texts.texts.items)
    (rw c.as_slice-2.ensures.value at c.in_ok-texts.ensures.read) c.write_assembled.result _ _
    (rw c.as_slice-3.ensures.value at c.write_assembled.ensures.failed))

pub returns-clause-nothing : goal.returns-clause-nothing
returns-clause-nothing g c =
    let same : map (λ arg. arg.now) c.as_slice.result.now ≡ command_line c.args.args.now =
    ap (map (λ arg. arg.now)) c.as_slice.ensures.value ∙ c.in_ok-args.ensures in
    asked_something (asm_asked (command_line c.args.args.now)) (asm_asked_by c.in_ok-request.request)
    (ap asm_asked (sym same) ∙ c.in_ok-request.ensures.asked)
