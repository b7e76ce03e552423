-- Names for `unfolding(..)` that open what their own line names, and for `using(..)` of a long path.
use Rattle.cheri_model.specs.declared.image.HartImage.{HartImage}
use Rattle.cheri_model.specs.steps.Hart.{HartState, register, put, next}
use Rattle.cheri_model.specs.runs.Image.{opening_hart}

unfoldable pub hart : HartImage → HartState
unfolding opening_hart register put next
hart image = opening_hart image
