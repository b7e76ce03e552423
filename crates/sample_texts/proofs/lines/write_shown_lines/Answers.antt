use Rattle.std.proofs.Common.{List, ◌≡◌, length, ap, sym, ◌∙◌, append_assoc, subst}
use Rattle.std.specs.Prelude.{All}
use Rattle.std.proofs.lemmas.List.{length-map}
use Rattle.conditions.specs.declared.parts.Shown.{Shown}
use Rattle.sample_tallies.specs.Sums.{ends_in_order}
use Rattle.sample_tallies.specs.Within.{is_drawable}
use Rattle.sample_texts.specs.declared.table.ShownRow.{ShownRow}
use Rattle.sample_texts.specs.ShownRows.{rows_of, shown_part, shown_rows}
use Rattle.sample_texts.proofs.lines.write_shown_lines.Goals as goal

pub write_rows-requires : goal.write_rows-requires
write_rows-requires c =
    subst (λ (l : List ShownRow). All (λ (row : ShownRow). is_drawable row.seen) l) (sym c.as_slice-told.ensures.value)
    c.in_ok-rows.ensures.within

pub returns-clause-written : goal.returns-clause-written
returns-clause-written c =
    let ends = ends_in_order c.args.tally.now.sum in
    let items = c.args.items.now.shown.items in
    let are : rows_of c.in_ok-rows.rows.items ≡ shown_rows items ends =
    c.in_ok-rows.ensures.rows ∙ ap (λ (s : List Shown). shown_rows s ends) c.as_slice.ensures.value in
    let count : length c.in_ok-rows.rows.items ≡ length (shown_rows items ends) =
    sym (length-map c.in_ok-rows.rows.items shown_part) ∙ ap length are in
    let e = simp (
      c.in_ok-writeln.ensures.bytes,
      c.as_slice-told.ensures.value,
      c.as_slice-names.ensures.value,
      are,
      count,
    ) at c.write_rows.ensures.written in
    simp append_assoc at e
