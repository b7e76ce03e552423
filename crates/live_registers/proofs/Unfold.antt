-- Names for `unfolding(..)` that open what their own line names.
use Rattle.std.specs.Prelude.{ℕ}
use Rattle.cheri_model.specs.declared.form.Form.{Form}
use Rattle.live_registers.specs.Operands.{reads, writes, only_computes, way_of}
use Rattle.live_registers.specs.LiveSets.{set_at, forgets_any, set_of, forgotten_hart}

unfoldable pub operands : Form → ℕ × ℕ
unfolding reads writes only_computes way_of
operands form = reads form

unfoldable pub live : ℕ
unfolding set_at forgets_any set_of forgotten_hart
live = 0
