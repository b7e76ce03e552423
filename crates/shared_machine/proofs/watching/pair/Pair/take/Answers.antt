-- An operation that is not refused is taken by the copies, and the order grows by it.
use Rattle.std.proofs.Common.{[], ◌∷◌, ◌++◌, List, ◌≡◌, sym, ap, ◌∙◌, drop, fold}
use Rattle.std.specs.Prelude.{None}
use Rattle.cheri_model.specs.declared.operation.Op.{Op}
use Rattle.cheri_model.specs.runs.Replay.{operations_of}
use Rattle.shared_machine.specs.Copies.{shown_after}
use Rattle.cores.specs.Cores.{CoreParts, core_after, refused}
use Rattle.shared_machine.specs.Names.{order_named}
use Rattle.shared_machine.specs.declared.watching.shown.Shown.{Shown}
use Rattle.shared_machine.specs.declared.watching.shown.Ticket.{Ticket}
use Rattle.shared_machine.specs.declared.watching.shown.Ticket.TheVariants.{Take, Tell}
use Rattle.cores.proofs.CoreLemmas.{operations_after}
use Rattle.shared_machine.proofs.CopyLemmas.{tickets_of, grown_by, taken_core, taken_shown, image_after}
use Rattle.shared_machine.proofs.watching.pair.Pair.take.Given.{Over}
use Rattle.shared_machine.proofs.watching.pair.Pair.take.Goals.{After-tell}
use Rattle.shared_machine.proofs.watching.pair.Pair.take.Goals as goal

-- the operation was appended and added to the order, and then what was seen of the order
module _ (g : Over) (c : After-tell g) where
  abbrev shown : Shown
  shown = c.tell.new.copies.desk.shown.value

  abbrev pending : List Ticket
  pending = drop c.tell.new.copies.behind c.tell.new.copies.log.items

  same : shown ≡ c.self.inside.copies.desk.shown.value
  same = ap (λ d. d.shown.value) (c.tell.ensures.shown ∙ c.append.ensures.desk)

  seen : shown.core ≡ c.args.self.now
  seen = ap (λ (v : Shown). v.core) same ∙ c.self.view_is

  none : refused shown.core c.args.op ≡ None
  none = ap (λ (k : CoreParts). refused k c.args.op) seen ∙ c.requires.none

  both : pending ≡ tickets_of c.args.op c.token-2.result
  both =
      let before : drop c.append.new.self.behind c.append.new.self.log.items ≡ Take c.args.op ∷ [] =
      c.in-Ok.ensures.pending ∙ ap (λ (ts : List Ticket). ts ++ Take c.args.op ∷ []) c.self.invariant.1 in
      grown_by pending (drop c.append.new.self.behind c.append.new.self.log.items) (Take c.args.op) (Tell c.token-2.result) before c.tell.ensures.pending

  grown : c.add.new.self ≡ operations_of shown.core.trace ++ c.args.op ∷ []
  grown =
      let before = c.requires.order ∙ ap (λ (k : CoreParts). operations_of k.trace) (sym seen) in
      c.add.ensures ∙ ap (λ (os : List Op). os ++ c.args.op ∷ []) before

  -- what is shown then
  after : (next : Shown) → next ≡ fold shown_after shown pending → next.core ≡ core_after shown.core c.args.op
  after next is =
      ap (λ (v : Shown). v.core) is ∙ taken_core shown c.args.op c.token-2.result pending none both

  image : (next : Shown) → next ≡ fold shown_after shown pending → next.core.image ≡ g.J.Naming.image
  image next is =
      ap (λ (k : CoreParts). k.image) (after next is)
      ∙ (image_after shown.core c.args.op ∙ (ap (λ (v : Shown). v.core.image) same ∙ c.self.invariant.0))

pub replace_with-requires : goal.replace_with-requires
replace_with-requires g c =
    let told = (goal.at.replace_with-requires g c).After-tell in
    taken_shown g.J.Naming.image (order_named g.J.Naming.names) (shown g told) c.args.op c.token-2.result (pending g told) (none g told) (both g told)
    c.token-2.ensures.book (sym c.token-2.ensures.order ∙ (c.seen.ensures ∙ grown g told))

pub invariant_of-self-2 : goal.invariant_of-self-2
invariant_of-self-2 g c =
    let told = (goal.at.invariant_of-self-2 g c).After-tell in
    (image g told c.replace_with.new.dest.desk.shown.value c.replace_with.ensures.0, c.replace_with.ensures.1)

pub returns-clause-ok : goal.returns-clause-ok
returns-clause-ok g c =
    let told = (goal.at.returns-clause-ok g c).After-tell in
    after g told c.replace_with.new.dest.desk.shown.value c.replace_with.ensures.0
    ∙ ap (λ (k : CoreParts). core_after k c.args.op) (seen g told)

pub returns-clause-order : goal.returns-clause-order
returns-clause-order g c =
    let told = (goal.at.returns-clause-order g c).After-tell in
    let next = after g told c.replace_with.new.dest.desk.shown.value c.replace_with.ensures.0 in
    grown g told
    ∙ (sym (operations_after (shown g told).core c.args.op) ∙ ap (λ (k : CoreParts). operations_of k.trace) (sym next))

pub returns-clause-image : goal.returns-clause-image
returns-clause-image g c =
    let told = (goal.at.returns-clause-image g c).After-tell in
    image g told c.replace_with.new.dest.desk.shown.value c.replace_with.ensures.0
