use Rattle.std.proofs.Common.{List, ◌≡◌, ap, sym, ◌∙◌, append_assoc, subst}
use Rattle.std.specs.Prelude.{All}
use Rattle.conditions.specs.declared.parts.Shown.{Shown}
use Rattle.sample_tallies.specs.Sums.{ends_in_order}
use Rattle.sample_tallies.specs.Within.{is_drawable}
use Rattle.sample_texts.specs.declared.table.ShownRow.{ShownRow}
use Rattle.sample_texts.specs.ShownRows.{rows_of, shown_rows}
use Rattle.sample_texts.proofs.members.write_row_list.Goals as goal

pub write_rows-requires : goal.write_rows-requires
write_rows-requires c =
    subst (λ (l : List ShownRow). All (λ (row : ShownRow). is_drawable row.seen) l) (sym c.as_slice-told.ensures.value)
    c.in_ok-rows.ensures.within

pub returns-clause-written : goal.returns-clause-written
returns-clause-written c =
    let ends = ends_in_order c.args.tally.now.sum in
    let items = c.args.items.now.shown.items in
    let are : rows_of c.in_ok-rows.rows.items ≡ shown_rows items ends =
    c.in_ok-rows.ensures.rows ∙ ap (λ (s : List Shown). shown_rows s ends) c.as_slice.ensures.value in
    let e = simp (
      c.in_ok-write_rows.ensures.written,
      c.as_slice-told.ensures.value,
      c.as_slice-names.ensures.value,
      are,
      c.in_ok-push_str.ensures.bytes,
    ) at c.in_ok-push_str-2.ensures.bytes in
    simp append_assoc at e
