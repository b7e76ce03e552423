use Rattle.explore_turns.proofs.ImageSizes.{harts_few}
use Rattle.reductions.proofs.finding.groups_by.Goals as goal

pub returns-else-keeps : goal.returns-else-keeps
returns-else-keeps c =
    rw c.if-keeps.false (c.groups_of.ensures, harts_few c.args.image.now c.granules-granules.ensures.formed)
