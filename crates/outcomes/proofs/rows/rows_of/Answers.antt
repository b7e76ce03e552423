use Rattle.std.proofs.Common.{◌≡◌, ℕ, List, length, ap, sym, ◌∙◌, subst, arith}
use Rattle.std.proofs.lemmas.Option.{slice_get-get_or}
use Rattle.interner.specs.Rows.{IsInterned}
use Rattle.std.specs.Prelude.{slice_index_or}
use Rattle.outcomes.specs.Items.{codes_of}
use Rattle.outcomes.specs.Rows.{values_at}
use Rattle.outcomes.proofs.CodeLemmas.{rows_same, row_size}
use Rattle.outcomes.proofs.TableLemmas.{interned_rows, number_within, rows_by, table_step, table_end, row_room}
use Rattle.outcomes.proofs.rows.rows_of.Goals as goal

pub row_code-requires : goal.row_code-requires
row_code-requires g c =
    let i = c.loop-outcome.outcome-index in
    (c.requires.outcomes.each i (slice_index_or c.args.outcomes.now i 0) (slice_get-get_or c.args.outcomes.now i 0 c.loop-outcome-test.true)).0

pub insert-requires : goal.insert-requires
insert-requires g c =
    let i = c.loop-outcome.outcome-index in
    ap length c.as_slice.ensures.value
    ∙ (ap length c.in_ok-code.ensures
    ∙ (row_size (g.S.NumberedStates.at c.args.states.now) c.args.shown.now (slice_index_or c.args.outcomes.now i 0)
    ∙ sym (c.loop-outcome.invariant.width ∙ c.in_ok-width.ensures (omega (arith, c.loop-outcome-test.true)))))

pub count-requires-clause-within : goal.count-requires-clause-within
count-requires-clause-within g c =
    number_within c.loop-outcome.codes c.insert.new.self c.as_slice.result.now c.in_ok-number.number (length c.loop-outcome.rows.items)
    c.in_ok-number.ensures.interned c.loop-outcome.invariant.table.even

pub count-requires-clause-room : goal.count-requires-clause-room
count-requires-clause-room g c k r at =
    let code : ℕ → List ℕ = λ n. codes_of (values_at (g.S.NumberedStates.at c.args.states.now) c.args.shown.now n) in
    row_room code c.args.outcomes.now c.loop-outcome.outcome-index k c.loop-outcome.codes.rows c.loop-outcome.rows.items r
    c.loop-outcome-test.true c.loop-outcome.invariant.table at

pub loop-outcome-preserved : goal.loop-outcome-preserved
loop-outcome-preserved g c =
    let i = c.loop-outcome.outcome-index in
    let x = slice_index_or c.args.outcomes.now i 0 in
    let code : ℕ → List ℕ = λ n. codes_of (values_at (g.S.NumberedStates.at c.args.states.now) c.args.shown.now n) in
    let same : c.as_slice.result.now ≡ code x = c.as_slice.ensures.value ∙ c.in_ok-code.ensures in
    let interned = subst (λ (row : List ℕ). IsInterned c.loop-outcome.codes c.insert.new.self row c.in_ok-number.number) same
    c.in_ok-number.ensures.interned in
    let rows = interned_rows c.loop-outcome.codes c.insert.new.self (code x) c.in_ok-number.number interned in
    record {
      width = c.insert.ensures.same_width ∙ c.loop-outcome.invariant.width;
      distinct = c.len-count.ensures.distinct;
      table =
          table_step code c.args.outcomes.now i 0 c.in_ok-number.number c.loop-outcome.codes.rows c.insert.new.self.rows
          c.loop-outcome.rows.items c.count.new.rows.items c.loop-outcome-test.true c.loop-outcome.invariant.table
          c.requires.outcomes.ascending rows.0 rows.1 c.len-count.ensures.distinct c.in_ok-count.ensures;
    }

pub returns : goal.returns
returns g c =
    let at = g.S.NumberedStates.at c.args.states.now in
    let code : ℕ → List ℕ = λ n. codes_of (values_at at c.args.shown.now n) in
    rows_by (values_at at c.args.shown.now) code c.args.outcomes.now c.loop-outcome.codes.rows c.loop-outcome.rows.items
    (rows_same at c.args.shown.now) (λ m n same. ap codes_of same)
    (table_end code c.args.outcomes.now c.loop-outcome.outcome-index c.loop-outcome.codes.rows c.loop-outcome.rows.items
    c.loop-outcome-test.false c.loop-outcome.invariant.table) c.loop-outcome.invariant.distinct
