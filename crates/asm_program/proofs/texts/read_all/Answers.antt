use Rattle.std.proofs.Common.{◌≡◌, ◌++◌, ◌∷◌, [], ◌∙◌, ap, map, rules}
use Rattle.std.proofs.lemmas.List.{map-append}
use Rattle.std.proofs.lemmas.Result.{err_from_is_err_and}
use Rattle.asm_program.specs.Texts.{text_items}
use Rattle.asm_program.proofs.TextLemmas.{next_read, next_unread}
use Rattle.asm_program.proofs.texts.read_all.Goals as goal

pub returns-in_err-text-clause-refused : goal.returns-in_err-text-clause-refused
returns-in_err-text-clause-refused g c =
    let p = err_from_is_err_and c.from_residual.result c.from_residual.ensures.1 in
    rw (p.1, p.2)
    (next_unread (g.F.Files.bytes_of c.args.files.now) c.args.names.now c.loop-name.name-index _ c.loop-name-test.true
    (map text_items c.loop-name.texts.items) c.in_err-text.field-0.0 c.loop-name.invariant.0
    (rw c.loop-name.invariant.1 at c.in_err-text.ensures.refused))

pub loop-name-preserved : goal.loop-name-preserved
loop-name-preserved g c =
    let more : c.push.new.self.items ≡ c.loop-name.texts.items ++ c.in_ok-text.text ∷ [] = search rules in
    let pushed = ap (map text_items) more ∙ map-append text_items c.loop-name.texts.items (c.in_ok-text.text ∷ []) in (
      rw pushed (next_read (g.F.Files.bytes_of c.args.files.now) c.args.names.now c.loop-name.name-index _ c.loop-name-test.true
          (map text_items c.loop-name.texts.items) c.in_ok-text.text.items c.loop-name.invariant.0
          (rw c.loop-name.invariant.1 at c.in_ok-text.ensures.bytes)),
      c.in_ok-text.ensures.kept ∙ c.loop-name.invariant.1,
    )
