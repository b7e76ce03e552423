-- Whether two states, or two places of traps, are the same.
use Rattle.std.specs.Prelude.{◌==◌, Bool, true, false, ◌&&◌, List, [], ◌∷◌}
use Rattle.cap_model.specs.values.Capability.{Capability}
use Rattle.cap_model.specs.values.CapValue.{CapValue, valid, raw}
use Rattle.cheri_model.specs.declared.trace.Status.{Status}
use Rattle.cheri_model.specs.declared.trace.Status.TheVariants.{Running, Halted, Trapped}
use Rattle.cheri_model.specs.steps.Hart.{HartState}
use Rattle.cheri_model.specs.runs.Machine.{MachineState}
use Rattle.sample_tallies.specs.declared.seen.TrapPlace.{TrapPlace}

unfoldable pub same_capability : Capability → Capability → Bool
same_capability c d =
    (c.base == d.base) && (c.top == d.top) && (c.addr == d.addr) && (c.perms == d.perms)
    && (c.flag == d.flag) && (c.otype == d.otype)

unfoldable pub same_value : CapValue → CapValue → Bool
same_value (valid c) (valid d) = same_capability c d
same_value (raw word) (raw other) = word == other
same_value (valid c) (raw word) = false
same_value (raw word) (valid d) = false

unfoldable pub same_status : Status → Status → Bool
same_status Running Running = true
same_status Halted Halted = true
same_status (Trapped trap) (Trapped other) =
    (trap.cause == other.cause) && (trap.reg == other.reg)
same_status Running Halted = false
same_status Running (Trapped other) = false
same_status Halted Running = false
same_status Halted (Trapped other) = false
same_status (Trapped trap) Running = false
same_status (Trapped trap) Halted = false

-- two lists of as many items, each of them the same
unfoldable pub same_lists : {A : Type 0} → (A → A → Bool) → List A → List A → Bool
same_lists same [] [] = true
same_lists same [] (y ∷ ys) = false
same_lists same (x ∷ xs) [] = false
same_lists same (x ∷ xs) (y ∷ ys) = same x y && same_lists same xs ys

unfoldable pub same_hart : HartState → HartState → Bool
same_hart a b =
    same_status a.status b.status && same_value a.pcc b.pcc
    && same_lists same_value a.regs b.regs

unfoldable pub same_state : MachineState → MachineState → Bool
same_state s t =
    same_lists same_hart s.harts t.harts && same_lists same_value s.memory t.memory

abbrev pub same_place : TrapPlace → TrapPlace → Bool
same_place a b = (a.hart == b.hart) && (a.cause == b.cause)
