use Rattle.std.proofs.Common.{◌≡◌, ◌++◌, ℕ, List, length, take, drop, ap, sym, ◌∙◌, rules}
use Rattle.std.specs.Prelude.{slice_get, Some}
use Rattle.std.proofs.Math.Seq.{take-append_seam}
use Rattle.graph_nodes.proofs.KeptLemmas.{rows_copied}
use Rattle.graph_nodes.proofs.packed.PackedRows.unpacked.Goals as goal

-- what was written to a row of this length is the row
written : (len : ℕ) (to items : List ℕ) → len ≡ length to → take len (to ++ drop (length to) items) ≡ to
written len to items same = rw same (take-append_seam to (drop (length to) items))

pub loop-number-preserved : goal.loop-number-preserved
loop-number-preserved c =
    let len : c.loop-number.row.len ≡ length c.read.new.row = search rules in
    let back = written c.loop-number.row.len c.read.new.row c.loop-number.row.items len in
    let row : c.as_slice.result.now ≡ c.read.new.row = c.as_slice.ensures.value ∙ back in
    let wide : length c.read.new.row ≡ c.args.self.now.width = search rules in
    let there : slice_get c.args.self.now.rows c.loop-number.number ≡ Some c.as_slice.result.now =
    search rules ∙ ap (λ r. Some r) (sym row) in
    record {
      ending = c.loop-number.invariant.ending;
      wide = c.insert.ensures.same_width ∙ c.loop-number.invariant.wide;
      room = ap length back ∙ wide;
      rows = rows_copied c.args.self.now c.loop-number.wide c.insert.new.self c.loop-number.number
          c.in_ok-insert.field-0 c.as_slice.result.now c.len-number-end.ensures.distinct there
          c.loop-number.invariant.rows c.in_ok-insert.ensures.interned;
    }
