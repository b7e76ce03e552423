-- What an instruction reads, what it writes and where it leads, by its form.
use Rattle.std.specs.Prelude.{ℕ, suc, ◌==◌, Bool, true, false, ◌||◌}
use Rattle.cheri_model.specs.declared.form.Form.{Form}
use Rattle.cheri_model.specs.declared.form.Form.TheVariants.{Three, Two, Immediate, Shift}
use Rattle.cheri_model.specs.declared.form.Form.TheVariants.{WordShift, SetBoundsImm, Upper, Load}
use Rattle.cheri_model.specs.declared.form.Form.TheVariants.{Store, Swap, Branch, Jump, Invoke}
use Rattle.cheri_model.specs.declared.form.Form.TheVariants.{Alone}
use Rattle.cheri_model.specs.declared.form.LoadOp.TheVariants.{CJalr}
use Rattle.live_registers.specs.declared.operands.Way.{Way}
use Rattle.live_registers.specs.declared.operands.Way.TheVariants.{Next, To, NextOr}
use Rattle.live_registers.specs.declared.operands.Way.TheVariants.{Anywhere, Nowhere}
use Rattle.cheri_model.specs.steps.Actions.{address_of_target}
use Rattle.cheri_model.specs.steps.HartStep.{invoked_data}

-- the registers that it reads; c0, which is always null, where there are fewer than two
unfoldable pub reads : Form → ℕ × ℕ
reads (Three op cd c1 c2) = (c1, c2)
reads (Two op cd c1) = (c1, 0)
reads (Immediate op cd c1 imm) = (c1, 0)
reads (Shift op cd c1 amount) = (c1, 0)
reads (WordShift op cd c1 amount) = (c1, 0)
reads (SetBoundsImm cd c1 len) = (c1, 0)
reads (Upper op cd imm) = (0, 0)
reads (Load op cd c1 imm) = (c1, 0)
reads (Store op c2 c1 imm) = (c1, c2)
reads (Swap cd c2 c1) = (c1, c2)
reads (Branch op c1 c2 target) = (c1, c2)
reads (Jump cd target) = (0, 0)
reads (Invoke c1 c2) = (c1, c2)
reads Alone = (0, 0)

-- the register that it writes; c0, which no write changes, where there is none
unfoldable pub writes : Form → ℕ
writes (Three op cd c1 c2) = cd
writes (Two op cd c1) = cd
writes (Immediate op cd c1 imm) = cd
writes (Shift op cd c1 amount) = cd
writes (WordShift op cd c1 amount) = cd
writes (SetBoundsImm cd c1 len) = cd
writes (Upper op cd imm) = cd
writes (Load op cd c1 imm) = cd
writes (Store op c2 c1 imm) = 0
writes (Swap cd c2 c1) = cd
writes (Branch op c1 c2 target) = 0
writes (Jump cd target) = cd
writes (Invoke c1 c2) = invoked_data
writes Alone = 0

-- whether the register that it writes is all that it is for: it asks for no memory, and neither
-- traps nor jumps
unfoldable pub only_computes : Form → Bool
only_computes (Three op cd c1 c2) = true
only_computes (Two op cd c1) = true
only_computes (Immediate op cd c1 imm) = true
only_computes (Shift op cd c1 amount) = true
only_computes (WordShift op cd c1 amount) = true
only_computes (SetBoundsImm cd c1 len) = true
only_computes (Upper op cd imm) = true
only_computes (Load op cd c1 imm) = false
only_computes (Store op c2 c1 imm) = false
only_computes (Swap cd c2 c1) = false
only_computes (Branch op c1 c2 target) = false
only_computes (Jump cd target) = false
only_computes (Invoke c1 c2) = false
only_computes Alone = false

-- where the next one may be, if it doesn't stop the hart: what goes through a capability may lead
-- anywhere
unfoldable pub way_of : Form → Way
way_of (Load CJalr cd c1 imm) = Anywhere
way_of (Branch op c1 c2 target) = NextOr target
way_of (Jump cd target) = To target
way_of (Invoke c1 c2) = Anywhere
way_of Alone = Nowhere
way_of form = Next

-- whether a way leads to an address, from the instruction with this number
unfoldable pub may_lead_to : Way → ℕ → ℕ → Bool
may_lead_to Next number addr = addr == address_of_target (suc number)
may_lead_to (To target) number addr = addr == address_of_target target
may_lead_to (NextOr target) number addr =
    (addr == address_of_target (suc number)) || (addr == address_of_target target)
may_lead_to Anywhere number addr = true
may_lead_to Nowhere number addr = false
