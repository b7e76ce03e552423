-- the harts so far are those of the images so far
use Rattle.std.proofs.Common.{◌≡◌, take, map}
use Rattle.std.specs.Prelude.{All}
use Rattle.cheri_model.specs.runs.Authority.{EachOfHart}
use Rattle.cap_model.specs.values.CapValue.{IsLawfulValue}
use Rattle.cheri_model.specs.runs.Image.{opening_hart}
use Rattle.cores.proofs.opening.opening_harts.Given as goal

abbrev pub invariant-loop-image : goal.invariant-loop-image
invariant-loop-image l =
    (l.harts.items ≡ map opening_hart (take l.image-index l.images)) × All (EachOfHart IsLawfulValue) l.harts.items
