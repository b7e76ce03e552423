-- What is left of CBuildCap's table where no line on what the word says holds.
use Rattle.std.proofs.Common.{arith, sym, ◌∙◌}
use Rattle.cheri_caps.proofs.BuildLines.{built_kept, built_lost, built_ordered}
use Rattle.cheri_caps.proofs.reasons.encoding_reason.Goals as goal

pub overflow_sub-top : goal.overflow_sub-top
overflow_sub-top c =
    let ordered = built_ordered c.args.v c.args.w c.tag.ensures.lawful c.tag-2.ensures.lawful c.requires.passed in
    let base = c.requires.base in
    let top = c.requires.top in
    let from = c.from.ensures in
    omega arith

pub returns-in-Ok : goal.returns-in-Ok
returns-in-Ok c =
    let is = rw (
      c.from.ensures,
      c.requires.base,
      c.requires.top,
      c.addr.ensures.value,
      c.perm.ensures.value,
    ) at (sym c.make.ensures ∙ c.in-Ok.is) in
    built_kept c.args.v c.args.w c.tag.ensures.lawful c.tag-2.ensures.lawful c.requires.passed c.in-Ok.field-0 is

pub returns-in-Err : goal.returns-in-Err
returns-in-Err c =
    let is = rw (
      c.from.ensures,
      c.requires.base,
      c.requires.top,
      c.addr.ensures.value,
      c.perm.ensures.value,
    ) at (sym c.make.ensures ∙ c.in-Err.is) in
    built_lost c.args.v c.args.w c.tag.ensures.lawful c.tag-2.ensures.lawful c.requires.passed c.in-Err.field-0 is
