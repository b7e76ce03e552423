-- What every hart of the machine keeps: 32 registers, of which c0 is null, and lawful values in all
-- of them.
use Rattle.std.specs.Prelude.{◌≡◌, List, length, slice_index_or, All}
use Rattle.cap_model.specs.values.CapValue.{CapValue, IsLawfulValue}
use Rattle.cheri_model.specs.steps.Hart.{null}

pub record IsHart (registers : List CapValue) (counter : CapValue) : Type 0 where
  pub count : length registers ≡ 32
  pub null_first : slice_index_or registers 0 null ≡ null
  pub regs : All IsLawfulValue registers
  pub pcc : IsLawfulValue counter
