-- Harts that hold nothing.
use Rattle.std.specs.Prelude.{replicate}
use Rattle.cheri_model.specs.declared.image.HartImage.{HartImage}
use Rattle.cheri_model.specs.steps.Hart.{null}

-- what a hart holds before its first step, where that is null everywhere
abbrev pub empty_hart : HartImage
empty_hart = record { pcc = null; regs = replicate 31 null }
