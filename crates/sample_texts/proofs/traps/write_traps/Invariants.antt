-- those so far are written
use Rattle.std.proofs.Common.{◌≡◌, ◌++◌, drop, string_bytes, map}
use Rattle.report_lines.specs.Texts.{numbered}
use Rattle.sample_texts.specs.SampleJson.{trap_part}
use Rattle.sample_tallies.specs.Counts.{entry_of}
use Rattle.sample_texts.proofs.traps.write_traps.Given as goal

abbrev pub invariant-loop-place : goal.invariant-loop-place
invariant-loop-place l = record {
  written : string_bytes l.out ++ numbered (trap_part l.format l.fn.orders) l.place (map entry_of (drop l.place l.traps))
      ≡ string_bytes l.initial.out ++ numbered (trap_part l.format l.fn.orders) 0 (map entry_of l.traps);
  same : l.orders ≡ l.fn.orders;
}
