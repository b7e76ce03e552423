use Rattle.std.proofs.Common.{◌≡◌, ℕ, List, length, arith, sym, ◌∙◌, subst}
use Rattle.authorities.specs.Authorities.{AreGreatest, hart_values}
use Rattle.authorities.specs.declared.rights.Authority.{Authority}
use Rattle.alike_authority.specs.GroupRights.{group_values}
use Rattle.alike_authority.proofs.GroupLemmas.{group_more, group_none, group_same, list_at}
use Rattle.alike_authority.proofs.groups.group_list.Goals as goal
use Rattle.alike_authority.proofs.groups.group_list.Goals.{then-stands_for+in_ok-merge, else-stands_for}

pub loop-other-init : goal.loop-other-init
loop-other-init c found each = rw c.new-greatest.ensures.items (group_none c.args.groups.now c.args.hart found)

pub loop-other-preserved : goal.loop-other-preserved
loop-other-preserved c found each =
    let groups = c.args.groups.now in
    let hart = c.args.hart in
    let other = c.loop-other.other in
    let before = c.loop-other.invariant found each in
    elim c.if-stands_for.branch [
      | then-stands_for+in_ok-merge w ↦
          let own = list_at found c.args.lists.now other _ c.loop-other-test.true each in
          let list : AreGreatest found (hart_values other) w.as_slice.result.now =
          subst (λ (l : List Authority). AreGreatest found (hart_values other) l) (sym w.as_slice.ensures.value)
          (rw w.index-lists-other.is own) in
          rw w.greatest-is
          (group_more groups hart found other _ (sym c.stands_for.ensures ∙ w.if-stands_for.true)
          (w.in_ok-merge.ensures found (group_values groups hart other) (hart_values other) before list))
      | else-stands_for w ↦
          rw w.greatest-is (group_same groups hart found other _ (sym c.stands_for.ensures ∙ w.if-stands_for.false) before)
    ]

pub returns : goal.returns
returns c found each =
    let ended : c.loop-other.other ≡ length c.args.lists.now =
    omega (arith, c.loop-other-test.false, c.loop-other.auto.other-end) in
    subst (λ (n : ℕ). AreGreatest found (group_values c.args.groups.now c.args.hart n) c.loop-other.greatest.items) ended
    (c.loop-other.invariant found each)
