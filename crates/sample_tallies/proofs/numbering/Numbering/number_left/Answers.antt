use Rattle.std.proofs.Common.{◌≡◌, true, List, ap, ◌∙◌, rules}
use Rattle.std.specs.Prelude.{Some}
use Rattle.cap_model.specs.values.CapValue.{CapValue}
use Rattle.sample_steps.specs.declared.writes.Change.{Change}
use Rattle.sample_runs.specs.Memories.{undone}
use Rattle.state_store.specs.Stores.{memory_at}
use Rattle.state_store.proofs.StoreLemmas.{memory_at_kept}
use Rattle.sample_tallies.specs.Known.{IsNumbering, NumberingParts, opening_of}
use Rattle.sample_tallies.proofs.NumberingLemmas.{numbering_kept, opening_kept, opens_as, memory_added}
use Rattle.sample_tallies.proofs.numbering.Numbering.number_left.Goals as goal
use Rattle.sample_tallies.proofs.numbering.Numbering.number_left.Goals.{After-number_memory-2, After-keep_memory}

pub invariant_of-self-then-not-branch : goal.invariant_of-self-then-not-branch
invariant_of-self-then-not-branch c =
    let n = c.self.inside in
    numbering_kept n.store c.number_memory.new.self n.opening n.harts.items n.memories.items c.number_memory.ensures.kept
    c.self.invariant

pub returns-then-not-branch-clause-opening : goal.returns-then-not-branch-clause-opening
returns-then-not-branch-clause-opening c =
    let n = c.self.inside in
    let first = c.args.memory.now.opening in
    let named : opening_of n.store n.opening ≡ Some first = ap (λ (p : NumberingParts). p.opening) c.self.view_is
    ∙ c.in_ok-opening.ensures.opening ∙ ap (λ (m : List CapValue). Some m) c.opening.ensures.value in
    opens_as n.store c.number_memory.new.self n.opening first c.number_memory.ensures.kept c.self.invariant.begun named

-- its opening memory is this one's
named : (c : After-number_memory-2) → opening_of c.self.inside.store c.self.inside.opening ≡ Some c.args.memory.now.opening
named c =
    ap (λ (p : NumberingParts). p.opening) c.self.view_is ∙ c.in_ok-opening.ensures.opening
    ∙ ap (λ (m : List CapValue). Some m) c.opening.ensures.value

pub invariant_of-self-in_err-number : goal.invariant_of-self-in_err-number
invariant_of-self-in_err-number c =
    let n = c.self.inside in
    numbering_kept n.store c.number_memory-2.new.self n.opening n.harts.items n.memories.items c.number_memory-2.ensures.kept
    c.self.invariant

pub returns-in_err-number-clause-opening : goal.returns-in_err-number-clause-opening
returns-in_err-number-clause-opening c =
    let n = c.self.inside in
    opens_as n.store c.number_memory-2.new.self n.opening c.args.memory.now.opening c.number_memory-2.ensures.kept c.self.invariant.begun
    (named (goal.at.returns-in_err-number-clause-opening c).After-number_memory-2)

pub invariant_of-self-in_err-changed : goal.invariant_of-self-in_err-changed
invariant_of-self-in_err-changed c =
    let n = c.self.inside in
    numbering_kept n.store c.number_memory-2.new.self n.opening n.harts.items n.memories.items c.number_memory-2.ensures.kept
    c.self.invariant

pub returns-in_err-changed-clause-opening : goal.returns-in_err-changed-clause-opening
returns-in_err-changed-clause-opening c =
    let n = c.self.inside in
    opens_as n.store c.number_memory-2.new.self n.opening c.args.memory.now.opening c.number_memory-2.ensures.kept c.self.invariant.begun
    (named (goal.at.returns-in_err-changed-clause-opening c).After-number_memory-2)

-- the numbering with the memory that was added
added : (c : After-keep_memory)
    → IsNumbering c.number_memory-2.new.self c.self.inside.opening c.self.inside.harts.items c.keep_memory.new.memories.items
added c =
    let n = c.self.inside in
    let first = c.args.memory.now.opening in
    let named : opening_of n.store n.opening ≡ Some first = ap (λ (p : NumberingParts). p.opening) c.self.view_is
    ∙ c.in_ok-opening.ensures.opening ∙ ap (λ (m : List CapValue). Some m) c.opening.ensures.value in
    let now = c.args.memory.now.now in
    let store = c.number_memory-2.new.self in
    let keeps = c.number_memory-2.ensures.kept in
    let opens : memory_at n.store c.in_ok-opening.opening ≡ Some first =
    ap (λ (p : NumberingParts). memory_at p.store c.in_ok-opening.opening) c.self.view_is
    ∙ c.in_ok-opening.ensures.numbered ∙ ap (λ (m : List CapValue). Some m) c.opening.ensures.value in
    let all : c.in_ok-list_changed.field-0 ≡ true = search rules in
    let leads : undone c.in_ok-changed.changed.items first ≡ now =
    ap (λ (cs : List Change). undone cs first) (c.in_ok-changed.ensures.items ∙ c.as_slice-4.ensures.value)
    ∙ c.in_ok-list_changed.ensures all in
    let there : memory_at store c.in_ok-number.number ≡ Some now =
    c.in_ok-number.ensures.numbered ∙ ap (λ (m : List CapValue). Some m) c.ram-2.ensures in
    memory_added store n.opening c.in_ok-opening.opening first now n.harts.items n.memories.items
    c.keep_memory.new.memories.items
    (record { number = c.in_ok-number.number; changed = c.in_ok-changed.changed }) c.keep_memory.ensures
    (memory_at_kept n.store store keeps c.in_ok-opening.opening first opens)
    (opening_kept n.store store n.opening keeps c.self.invariant.begun ∙ named) there leads
    (numbering_kept n.store store n.opening n.harts.items n.memories.items keeps c.self.invariant)

pub invariant_of-self-in_err-keep_memory : goal.invariant_of-self-in_err-keep_memory
invariant_of-self-in_err-keep_memory c = added (goal.at.invariant_of-self-in_err-keep_memory c).After-keep_memory

pub returns-in_err-keep_memory-clause-opening : goal.returns-in_err-keep_memory-clause-opening
returns-in_err-keep_memory-clause-opening c =
    let n = c.self.inside in
    opens_as n.store c.number_memory-2.new.self n.opening c.args.memory.now.opening c.number_memory-2.ensures.kept c.self.invariant.begun
    (named (goal.at.returns-in_err-keep_memory-clause-opening c).After-number_memory-2)

pub invariant_of-self-2 : goal.invariant_of-self-2
invariant_of-self-2 c = added (goal.at.invariant_of-self-2 c).After-keep_memory

pub returns-clause-opening : goal.returns-clause-opening
returns-clause-opening c =
    let n = c.self.inside in
    opens_as n.store c.number_memory-2.new.self n.opening c.args.memory.now.opening c.number_memory-2.ensures.kept c.self.invariant.begun
    (named (goal.at.returns-clause-opening c).After-number_memory-2)
