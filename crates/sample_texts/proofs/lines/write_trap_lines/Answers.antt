use Rattle.std.proofs.Common.{List, length, append_assoc, ap, sym, ◌≡◌, ◌∙◌, subst}
use Rattle.std.specs.Prelude.{All}
use Rattle.std.proofs.lemmas.List.{length-map}
use Rattle.sample_tallies.specs.Counts.{entry_of}
use Rattle.sample_tallies.specs.Sums.{traps_in_order}
use Rattle.sample_tallies.specs.Within.{is_drawable}
use Rattle.sample_tallies.specs.declared.seen.TrapSeen.{TrapSeen}
use Rattle.sample_texts.specs.SampleTexts.{trap_lines}
use Rattle.sample_texts.proofs.DrawableLemmas.{traps_drawn}
use Rattle.sample_texts.proofs.lines.write_trap_lines.Goals as goal

pub write_traps-requires : goal.write_traps-requires
write_traps-requires c =
    subst (λ (l : List TrapSeen). All (λ (trap : TrapSeen). is_drawable trap.seen) l) (sym c.as_slice-told.ensures.value)
    (traps_drawn c.args.tally.now.sum c.in_ok-traps.traps.items c.requires.within c.in_ok-traps.ensures)

pub returns-clause-written : goal.returns-clause-written
unfolding trap_lines
returns-clause-written c =
    let count : length c.in_ok-traps.traps.items ≡ length (traps_in_order c.args.tally.now.sum) =
    sym (length-map c.in_ok-traps.traps.items entry_of) ∙ ap length c.in_ok-traps.ensures in
    let e = simp (c.in_ok-writeln.ensures.bytes, c.as_slice-told.ensures.value, c.in_ok-traps.ensures, count) at c.write_traps.ensures.written in
    simp append_assoc at e
