use Rattle.std.proofs.Common.{List, append_assoc, sym, subst}
use Rattle.std.specs.Prelude.{All}
use Rattle.sample_tallies.specs.Within.{is_drawable}
use Rattle.sample_tallies.specs.declared.seen.TrapSeen.{TrapSeen}
use Rattle.sample_texts.specs.SampleJson.{traps_json}
use Rattle.sample_texts.proofs.DrawableLemmas.{traps_drawn}
use Rattle.sample_texts.proofs.members.write_traps_member.Goals as goal

pub write_traps-requires : goal.write_traps-requires
write_traps-requires c =
    subst (λ (l : List TrapSeen). All (λ (trap : TrapSeen). is_drawable trap.seen) l) (sym c.as_slice.ensures.value)
    (traps_drawn c.args.tally.now.sum c.in_ok-traps.traps.items c.requires.within c.in_ok-traps.ensures)

pub returns-clause-written : goal.returns-clause-written
unfolding traps_json
returns-clause-written c =
    let e = simp (
      c.in_ok-write_traps.ensures.written,
      c.as_slice.ensures.value,
      c.in_ok-traps.ensures,
      c.in_ok-push_str.ensures.bytes,
    ) at c.in_ok-push_str-2.ensures.bytes in
    simp append_assoc at e
