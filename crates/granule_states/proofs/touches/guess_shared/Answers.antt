use Rattle.std.proofs.Common.{◌≡◌, Bool, Global, Vec, sym, subst}
use Rattle.std.specs.Prelude.{true}
use Rattle.granule_states.specs.Graphs.{is_shared}
use Rattle.granule_states.proofs.Places.{shared_more}
use Rattle.granule_states.proofs.touches.guess_shared.Goals as goal
use Rattle.granule_states.proofs.touches.guess_shared.Goals.{then-granule-len+then-touch+then-touch-2+then-not-index, else-granule-len}

pub loop-granule-preserved : goal.loop-granule-preserved
loop-granule-preserved c granule is =
    let before = c.loop-granule.invariant granule is in
    elim c.if-granule-len.branch [
      | then-granule-len+then-touch+then-touch-2+then-not-index w ↦
          subst (λ (v : Vec Bool Global). is_shared v.items granule ≡ true) (sym w.more-is)
          (shared_more c.loop-granule.more.items c.loop-granule.granule granule before)
      | else-granule-len w ↦ subst (λ (v : Vec Bool Global). is_shared v.items granule ≡ true) (sym w.more-is) before
    ]
