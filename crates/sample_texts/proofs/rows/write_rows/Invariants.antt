-- those so far are written
use Rattle.std.proofs.Common.{◌≡◌, ◌++◌, drop, string_bytes, map}
use Rattle.report_lines.specs.Texts.{numbered}
use Rattle.sample_texts.specs.SampleJson.{row_part}
use Rattle.sample_texts.specs.ShownRows.{shown_part}
use Rattle.sample_texts.proofs.rows.write_rows.Given as goal

abbrev pub invariant-loop-place : goal.invariant-loop-place
invariant-loop-place l = record {
  written : string_bytes l.out ++ numbered (row_part l.format l.fn.orders (map (λ name. name.now) l.names)) l.place (map shown_part (drop l.place l.rows))
      ≡ string_bytes l.initial.out ++ numbered (row_part l.format l.fn.orders (map (λ name. name.now) l.names)) 0 (map shown_part l.rows);
  same : l.orders ≡ l.fn.orders;
}
