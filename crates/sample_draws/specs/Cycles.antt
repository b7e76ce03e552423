-- Whether the steps of one hart have brought it back to a state that it had (Brent's way to find a
-- cycle): it is compared with its state at the first of them, and after 1, 3, 7, 15, .. of them.
use Rattle.std.specs.Prelude.{◌+◌, ◌*◌, ◌==◌, Bool, true, false, ◌&&◌, if◌then◌else◌, List, []}
use Rattle.std.specs.Prelude.{◌∷◌}
use Rattle.cap_model.specs.values.CapValue.{CapValue, bits_of, tag_of}
use Rattle.cheri_model.specs.steps.Hart.{HartState}
use Rattle.cheri_model.specs.runs.Machine.{is_running}
use Rattle.sample_draws.specs.declared.cycles.Cycle.{Cycle}

-- two tests are the same
abbrev pub same_test : Bool → Bool → Bool
same_test true true = true
same_test true false = false
same_test false true = false
same_test false false = true

-- two values have the same tag and the same bits
unfoldable pub same_value : CapValue → CapValue → Bool
same_value v w = same_test (tag_of v) (tag_of w) && (bits_of v == bits_of w)

unfoldable pub same_values : List CapValue → List CapValue → Bool
same_values [] [] = true
same_values [] (w ∷ ws) = false
same_values (v ∷ vs) [] = false
same_values (v ∷ vs) (w ∷ ws) = same_value v w && same_values vs ws

-- two harts that run have the same PCC and the same registers
unfoldable pub same_hart : HartState → HartState → Bool
same_hart a b =
    is_running a.status && is_running b.status && same_value a.pcc b.pcc
    && same_values a.regs b.regs

-- a hart before its first step
abbrev pub cycle_from : HartState → Cycle
cycle_from hart = record { marked = hart; since = 0; span = 1 }

-- the hart is back
abbrev pub is_back : Cycle → HartState → Bool
is_back cycle hart = same_hart cycle.marked hart

-- it isn't, after one more step: it is marked anew where this was the last step of the span, and
-- the next span is twice as long
abbrev pub gone_on : HartState → Cycle → Cycle
gone_on hart cycle =
    if cycle.since + 1 == cycle.span
    then (record { marked = hart; since = 0; span = 2 * cycle.span })
    else (record cycle { since = cycle.since + 1 })
