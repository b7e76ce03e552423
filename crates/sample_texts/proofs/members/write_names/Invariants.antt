-- those so far are written
use Rattle.std.proofs.Common.{◌≡◌, ◌++◌, drop, string_bytes, map}
use Rattle.report_lines.specs.Texts.{numbered}
use Rattle.serde_json.specs.Data.{string}
use Rattle.report_lines.specs.JsonText.{item_text}
use Rattle.sample_texts.proofs.members.write_names.Given as goal

abbrev pub invariant-loop-place : goal.invariant-loop-place
invariant-loop-place l =
    string_bytes l.out ++ numbered (item_text string) l.place (map (λ name. name.now) (drop l.place l.names))
    ≡ string_bytes l.initial.out ++ numbered (item_text string) 0 (map (λ name. name.now) l.names)
