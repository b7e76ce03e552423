use Rattle.std.proofs.Common.{◌≡◌, ℕ, true, inl, inr}
use Rattle.std.specs.Prelude.{slice_index_or}
use Rattle.live_registers.specs.RegisterSets.{IsWithin, IsWithinBut}
use Rattle.live_registers.specs.Operands.{writes, way_of, may_lead_to}
use Rattle.live_registers.specs.LiveSets.{set_at}
use Rattle.live_registers.proofs.ScanLemmas.{right_before}
use Rattle.live_registers.proofs.live.LiveRegisters.is_right_before.Goals as goal

pub returns-then-is_unneeded : goal.returns-then-is_unneeded
returns-then-is_unneeded c = λ everywhere t.
    let there : (addr : ℕ) → may_lead_to (way_of c.args.form.now) c.args.number addr ≡ true → IsWithin (set_at c.args.self.now addr) c.behind-behind.result =
    rw c.way_of.ensures at (c.behind-behind.ensures everywhere) in
    let within : IsWithinBut c.behind-behind.result (writes c.args.form.now) (slice_index_or c.args.self.now.sets c.args.number c.args.self.now.asked) =
    rw (c.writes.ensures, c.numbered-set.ensures) at (c.is_within_but.ensures c.if-not-is_within_but.false) in
    right_before c.args.self.now c.args.number c.args.form.now _ c.behind-behind.result there within
    (inl (c.is_unneeded.ensures c.if-is_unneeded.true))

pub returns : goal.returns
returns c = λ everywhere t.
    let there : (addr : ℕ) → may_lead_to (way_of c.args.form.now) c.args.number addr ≡ true → IsWithin (set_at c.args.self.now addr) c.behind-behind.result =
    rw c.way_of.ensures at (c.behind-behind.ensures everywhere) in
    let within : IsWithinBut c.behind-behind.result (writes c.args.form.now) (slice_index_or c.args.self.now.sets c.args.number c.args.self.now.asked) =
    rw (c.writes.ensures, c.numbered-set.ensures) at (c.is_within_but.ensures c.if-not-is_within_but.false) in
    right_before c.args.self.now c.args.number c.args.form.now _ c.behind-behind.result there within
    (inr (rw c.numbered-set.ensures at (c.has_read.ensures t)))
