use Rattle.std.proofs.Common.{List, sym, ap, ◌∙◌}
use Rattle.std.specs.Prelude.{slice_get}
use Rattle.state_store.specs.Stores.{hart_at}
use Rattle.sample_tallies.specs.declared.numbering.KnownHart.{KnownHart}
use Rattle.sample_tallies.specs.Known.{NumberingParts}
use Rattle.sample_tallies.proofs.NumberingLemmas.{numbering_kept, opening_kept, hart_added}
use Rattle.sample_tallies.proofs.numbering.Numbering.number_hart.Goals as goal

pub invariant_of-self : goal.invariant_of-self
invariant_of-self c =
    let n = c.self.inside in
    numbering_kept n.store c.number_hart.new.self n.opening n.harts.items n.memories.items c.number_hart.ensures.kept
    c.self.invariant

pub returns-in-Some-clause-numbered : goal.returns-in-Some-clause-numbered
returns-in-Some-clause-numbered c =
    let found = c.in-Some.ensures in
    let known : KnownHart = record { number = c.in-Some.number; hart = c.args.hart.now } in
    ap (λ (p : NumberingParts). hart_at p.store c.in-Some.number) (sym c.self.view_is)
    ∙ c.self.invariant.harts_are found.0 known
    (ap (λ (l : List KnownHart). slice_get l found.0) (sym c.as_slice.ensures.value) ∙ found.1)

pub returns-in_err-number-clause-opening : goal.returns-in_err-number-clause-opening
returns-in_err-number-clause-opening c =
    let n = c.self.inside in
    opening_kept n.store c.number_hart.new.self n.opening c.number_hart.ensures.kept c.self.invariant.begun
    ∙ ap (λ (p : NumberingParts). p.opening) c.self.view_is

pub invariant_of-self-in_err-keep_hart : goal.invariant_of-self-in_err-keep_hart
invariant_of-self-in_err-keep_hart c =
    let n = c.self.inside in
    hart_added c.number_hart.new.self n.opening n.harts.items c.keep_hart.new.harts.items n.memories.items
    (record { number = c.in_ok-number.number; hart = c.args.hart.now }) c.keep_hart.ensures
    c.in_ok-number.ensures.numbered
    (numbering_kept n.store c.number_hart.new.self n.opening n.harts.items n.memories.items c.number_hart.ensures.kept
    c.self.invariant)

pub returns-in_err-keep_hart-clause-opening : goal.returns-in_err-keep_hart-clause-opening
returns-in_err-keep_hart-clause-opening c =
    let n = c.self.inside in
    opening_kept n.store c.number_hart.new.self n.opening c.number_hart.ensures.kept c.self.invariant.begun
    ∙ ap (λ (p : NumberingParts). p.opening) c.self.view_is

pub invariant_of-self-2 : goal.invariant_of-self-2
invariant_of-self-2 c =
    let n = c.self.inside in
    hart_added c.number_hart.new.self n.opening n.harts.items c.keep_hart.new.harts.items n.memories.items
    (record { number = c.in_ok-number.number; hart = c.args.hart.now }) c.keep_hart.ensures
    c.in_ok-number.ensures.numbered
    (numbering_kept n.store c.number_hart.new.self n.opening n.harts.items n.memories.items c.number_hart.ensures.kept
    c.self.invariant)

pub returns-clause-opening : goal.returns-clause-opening
returns-clause-opening c =
    let n = c.self.inside in
    opening_kept n.store c.number_hart.new.self n.opening c.number_hart.ensures.kept c.self.invariant.begun
    ∙ ap (λ (p : NumberingParts). p.opening) c.self.view_is
