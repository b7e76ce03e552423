use Rattle.std.proofs.Common.{◌≡◌, ◌+◌, ℕ, length, sym, ap, ◌∙◌, subst}
use Rattle.std.specs.Prelude.{Some}
use Rattle.cheri_model.specs.runs.Machine.{MachineState}
use Rattle.state_store.specs.Stores.{Stored, state_of, IsOneRow}
use Rattle.state_store.proofs.StoreLemmas.{keeps_on}
use Rattle.state_store.proofs.SeenLemmas.{seen_count}
use Rattle.sample_tallies.specs.Counts.{EndsParts}
use Rattle.sample_tallies.proofs.EndLemmas.{ends_kept, ends_after, table_after}
use Rattle.sample_tallies.proofs.ends.Ends.see.Goals as goal

pub invariant_of-self : goal.invariant_of-self
invariant_of-self c =
    let e = c.self.inside in
    ends_kept e.numbering.store c.number_memory.new.self.store e.harts e.rows e.seen.items c.number_memory.ensures.kept c.self.invariant

pub invariant_of-self-in_err-put_row : goal.invariant_of-self-in_err-put_row
invariant_of-self-in_err-put_row c =
    let e = c.self.inside in
    let keeps = keeps_on e.numbering.store c.number_memory.new.self.store c.put_row.new.numbering.store c.number_memory.ensures.kept
    c.put_row.ensures.kept in
    ends_kept e.numbering.store c.put_row.new.numbering.store e.harts e.rows e.seen.items keeps c.self.invariant

pub invariant_of-self-2 : goal.invariant_of-self-2
invariant_of-self-2 c =
    let e = c.self.inside in
    let keeps = keeps_on e.numbering.store c.number_memory.new.self.store c.put_row.new.numbering.store c.number_memory.ensures.kept
    c.put_row.ensures.kept in
    let state : MachineState = record { harts = c.args.harts.now; memory = c.args.ram.now } in
    let is : state_of c.put_row.new.numbering.store c.as_slice.result.now ≡ Some state =
    ap (state_of c.put_row.new.numbering.store) c.as_slice.ensures.value
    ∙ c.in_ok-put_row.ensures.state c.args.ram.now c.in_ok-memory.ensures.numbered in
    let width : length c.as_slice.result.now ≡ e.harts + 1 =
    seen_count c.put_row.new.numbering.store c.as_slice.result.now state is ∙ ap (λ (n : ℕ). n + 1) c.requires.harts
    ∙ ap (λ (p : EndsParts). p.harts + 1) (sym c.self.view_is) in
    ends_after c.see_row.result e.numbering.store c.put_row.new.numbering.store e.harts e.rows c.see_row.new.rows
    c.as_slice.result.now state c.args.seen e.seen.items c.see_row.new.ended.items keeps c.self.invariant width is
    c.see_row.ensures.seen c.see_row.ensures.same_rows c.see_row.ensures.unchanged c.see_row.ensures.as_many

pub see_row-requires-clause-width : goal.see_row-requires-clause-width
see_row-requires-clause-width c =
    let state : MachineState = record { harts = c.args.harts.now; memory = c.args.ram.now } in
    let is : state_of c.put_row.new.numbering.store c.as_slice.result.now ≡ Some state =
    ap (state_of c.put_row.new.numbering.store) c.as_slice.ensures.value
    ∙ c.in_ok-put_row.ensures.state c.args.ram.now c.in_ok-memory.ensures.numbered in
    seen_count c.put_row.new.numbering.store c.as_slice.result.now state is ∙ ap (λ (n : ℕ). n + 1) c.requires.harts
    ∙ ap (λ (p : EndsParts). p.harts + 1) (sym c.self.view_is) ∙ sym c.self.invariant.width

pub returns-clause-table : goal.returns-clause-table
returns-clause-table c =
    let e = c.self.inside in
    let keeps = keeps_on e.numbering.store c.number_memory.new.self.store c.put_row.new.numbering.store c.number_memory.ensures.kept
    c.put_row.ensures.kept in
    let state : MachineState = record { harts = c.args.harts.now; memory = c.args.ram.now } in
    let is : state_of c.put_row.new.numbering.store c.as_slice.result.now ≡ Some state =
    ap (state_of c.put_row.new.numbering.store) c.as_slice.ensures.value
    ∙ c.in_ok-put_row.ensures.state c.args.ram.now c.in_ok-memory.ensures.numbered in
    let one : IsOneRow c.put_row.new.numbering.store =
    subst (λ (s : Stored). IsOneRow s) c.store.ensures c.granules.ensures.one_row in
    table_after c.see_row.result e.numbering.store c.put_row.new.numbering.store e.harts e.rows c.see_row.new.rows
    c.as_slice.result.now state c.args.seen e.seen.items c.see_row.new.ended.items c.args.self.now.table keeps
    c.self.invariant one c.len.ensures.distinct is (ap (λ (p : EndsParts). p.table) c.self.view_is)
    c.see_row.ensures.seen
