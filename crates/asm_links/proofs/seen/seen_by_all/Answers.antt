use Rattle.asm_symbols.specs.Globals.{wants}
use Rattle.asm_symbols.specs.Names.{names_of}
use Rattle.asm_files.specs.Programs.{program_parts}
use Rattle.asm_links.proofs.SeenLemmas.{publish_done, publish_refused}
use Rattle.asm_links.proofs.seen.seen_by_all.Goals as goal

pub returns-in-Ok : goal.returns-in-Ok
unfolding wants
returns-in-Ok c =
    publish_done (program_parts c.args.program.now) (names_of c.in-Ok.names)
    (rw (c.as_slice.ensures.value, c.as_slice-symbols.ensures.value) at c.in-Ok.ensures)

pub returns-in-Err : goal.returns-in-Err
unfolding wants
returns-in-Err c =
    let refused = publish_refused (program_parts c.args.program.now) c.in-Err.fault
    (rw (c.as_slice.ensures.value, c.as_slice-symbols.ensures.value) at c.in-Err.ensures) in
    rw c.publish_fault.ensures refused
