-- The outcomes so far are written; the state is of the same size.
use Rattle.std.proofs.Common.{◌≡◌, ◌*◌, ◌++◌, drop, length, string_bytes}
use Rattle.outcome_texts.specs.OutcomeParts.{kept_part}
use Rattle.report_lines.specs.Texts.{numbered}
use Rattle.outcome_texts.proofs.listed.write_outcomes.Given as goal

abbrev pub invariant-loop-number : goal.invariant-loop-number
invariant-loop-number l = record {
  written : string_bytes l.out ++ numbered (kept_part l.format l.kept) l.number (drop l.number l.outcomes)
      ≡ string_bytes l.initial.out ++ numbered (kept_part l.format l.kept) 0 l.outcomes;
  harts : length l.state.harts ≡ length l.kept.image.harts;
  granules : 16 * length l.state.memory ≡ l.kept.image.ram;
}
