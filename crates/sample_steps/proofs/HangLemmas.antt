-- A hart that is let on alone, one step after another.
use Rattle.std.proofs.Common.{◌≡◌, ◌≢◌, ℕ, ◌+◌, ◌-◌, ◌*◌, ◌<◌, ◌≤◌, eqb, cond, subst, suc, Bool, true, false, ◌&&◌, List, length, drop, get_or, refl, sym, ap, ◌∙◌, arith}
use Rattle.std.proofs.lemmas.Bool.{and_left}
use Rattle.std.proofs.lemmas.Bool.Decides.{nat_tests}
use Rattle.std.proofs.lemmas.List.{at_drop_more, at_drop_all}
use Rattle.cap_model.specs.values.CapValue.{CapValue}
use Rattle.cheri_model.specs.declared.instr.Instr.{Instr}
use Rattle.cheri_model.specs.steps.Hart.{HartState}
use Rattle.cheri_model.specs.steps.HartStep.{hart_step}
use Rattle.cheri_model.specs.runs.Machine.{is_running}
use Rattle.sample_draws.specs.declared.cycles.Cycle.{Cycle}
use Rattle.sample_draws.specs.Cycles.{is_back, gone_on}
use Rattle.sample_draws.specs.Orders.{is_changed}
use Rattle.sample_steps.specs.Hangs.{goes_round, stays, all_stay}

changed_suc : (program : List Instr) (l left : ℕ) (cycle : Cycle) (hart : HartState) (m : List CapValue) → left ≡ suc l
    → is_changed m (hart_step program hart m).memory ≡ true → goes_round program left cycle hart m ≡ false
unfolding goes_round
changed_suc program l left cycle hart m e changed = rw e (rw changed refl)

pub round_changed : (program : List Instr) (left : ℕ) (cycle : Cycle) (hart : HartState) (m after : List CapValue) → 0 < left
    → after ≡ (hart_step program hart m).memory → is_changed m after ≡ true
    → goes_round program left cycle hart m ≡ false
round_changed program left cycle hart m after some is changed =
    changed_suc program (left - 1) left cycle hart m (omega arith) (ap (λ a. is_changed m a) (sym is) ∙ changed)

stopped_suc : (program : List Instr) (l left : ℕ) (cycle : Cycle) (hart : HartState) (m : List CapValue) → left ≡ suc l
    → is_changed m (hart_step program hart m).memory ≡ false
    → is_running (hart_step program hart m).hart.status ≡ false → goes_round program left cycle hart m ≡ false
unfolding goes_round
stopped_suc program l left cycle hart m e changed stopped = rw e (rw changed (rw stopped refl))

pub round_stopped : (program : List Instr) (left : ℕ) (cycle : Cycle) (hart now : HartState) (m after : List CapValue) → 0 < left
    → now ≡ (hart_step program hart m).hart → after ≡ (hart_step program hart m).memory
    → is_changed m after ≡ false → is_running now.status ≡ false
    → goes_round program left cycle hart m ≡ false
round_stopped program left cycle hart now m after some is_now is changed stopped =
    stopped_suc program (left - 1) left cycle hart m (omega arith) (ap (λ a. is_changed m a) (sym is) ∙ changed)
    (ap (λ (h : HartState). is_running h.status) (sym is_now) ∙ stopped)

back_suc : (program : List Instr) (l left : ℕ) (cycle : Cycle) (hart : HartState) (m : List CapValue) → left ≡ suc l
    → is_changed m (hart_step program hart m).memory ≡ false
    → is_running (hart_step program hart m).hart.status ≡ true
    → is_back cycle (hart_step program hart m).hart ≡ true → goes_round program left cycle hart m ≡ true
unfolding goes_round
back_suc program l left cycle hart m e changed runs back = rw e (rw changed (rw runs (rw back refl)))

pub round_back : (program : List Instr) (left : ℕ) (cycle : Cycle) (hart now : HartState) (m after : List CapValue) → 0 < left
    → now ≡ (hart_step program hart m).hart → after ≡ (hart_step program hart m).memory
    → is_changed m after ≡ false → is_running now.status ≡ true → is_back cycle now ≡ true
    → goes_round program left cycle hart m ≡ true
round_back program left cycle hart now m after some is_now is changed runs back =
    back_suc program (left - 1) left cycle hart m (omega arith) (ap (λ a. is_changed m a) (sym is) ∙ changed)
    (ap (λ (h : HartState). is_running h.status) (sym is_now) ∙ runs)
    (ap (λ h. is_back cycle h) (sym is_now) ∙ back)

on_suc : (program : List Instr) (l left : ℕ) (cycle : Cycle) (hart : HartState) (m : List CapValue) → left ≡ suc l
    → is_changed m (hart_step program hart m).memory ≡ false
    → is_running (hart_step program hart m).hart.status ≡ true
    → is_back cycle (hart_step program hart m).hart ≡ false
    → goes_round program left cycle hart m
    ≡ goes_round program l (gone_on (hart_step program hart m).hart cycle) (hart_step program hart m).hart (hart_step program hart m).memory
unfolding goes_round
on_suc program l left cycle hart m e changed runs back = rw e (rw changed (rw runs (rw back refl)))

pub round_on : (program : List Instr) (left : ℕ) (cycle next : Cycle) (hart now : HartState) (m after : List CapValue) → 0 < left
    → now ≡ (hart_step program hart m).hart → after ≡ (hart_step program hart m).memory
    → is_changed m after ≡ false → is_running now.status ≡ true → is_back cycle now ≡ false
    → next ≡ gone_on now cycle
    → goes_round program left cycle hart m ≡ goes_round program (left - 1) next now after
round_on program left cycle next hart now m after some is_now is changed runs back is_next =
    on_suc program (left - 1) left cycle hart m (omega arith) (ap (λ a. is_changed m a) (sym is) ∙ changed)
    (ap (λ (h : HartState). is_running h.status) (sym is_now) ∙ runs)
    (ap (λ h. is_back cycle h) (sym is_now) ∙ back)
    ∙ rw is_next (rw is_now (rw is refl))

pub round_none : (program : List Instr) (left : ℕ) (cycle : Cycle) (hart : HartState) (m : List CapValue) → left ≡ 0
    → goes_round program left cycle hart m ≡ false
unfolding goes_round
round_none program left cycle hart m e = rw e refl

pub stay_end : (program : List Instr) (m : List CapValue) (harts : List HartState) (i : ℕ) → length harts ≤ i
    → all_stay program m (drop i harts) ≡ true
unfolding all_stay
stay_end program m harts i h = at_drop_all (all_stay program m) harts i h

gone_either : (hart : HartState) (cycle : Cycle) (b : Bool) → cycle.since < cycle.span
    → (b ≡ true → cycle.since + 1 ≡ cycle.span) → (b ≡ false → cycle.since + 1 ≢ cycle.span)
    → let next : Cycle = cond b (record { marked = hart; since = 0; span = 2 * cycle.span }) (record cycle { since = cycle.since + 1 }) in
    (next.since < next.span) × (next.span + next.since ≤ cycle.span + cycle.since + 1)
gone_either hart cycle true h last other = let e = last refl in (omega arith, omega arith)
gone_either hart cycle false h last other = let e = other refl in (omega arith, omega arith)

is_last : (m n : ℕ) → eqb m n ≡ true → m ≡ n
is_last m n is = grind (arith, nat_tests)

is_not_last : (m n : ℕ) → eqb m n ≡ false → m ≢ n
is_not_last m n is = grind (arith, nat_tests)

-- a cycle that goes on stays small
pub gone_within : (hart : HartState) (cycle next : Cycle) → cycle.since < cycle.span → next ≡ gone_on hart cycle
    → (next.since < next.span) × (next.span + next.since ≤ cycle.span + cycle.since + 1)
gone_within hart cycle next h is =
    let P : Cycle → Type 0 = λ n. (n.since < n.span) × (n.span + n.since ≤ cycle.span + cycle.since + 1) in
    subst P (sym is)
    (gone_either hart cycle (eqb (cycle.since + 1) cycle.span) h
    (is_last (cycle.since + 1) cycle.span) (is_not_last (cycle.since + 1) cycle.span))

-- all harts: one that doesn't go round decides
pub one_leaves : (program : List Instr) (m : List CapValue) (harts : List HartState) (i : ℕ) (d : HartState) (whole : Bool) → i < length harts
    → stays program m (get_or harts i d) ≡ false → all_stay program m (drop i harts) ≡ whole → false ≡ whole
unfolding all_stay
one_leaves program m harts i d whole h leaves all =
    sym (at_drop_more (all_stay program m) harts i d h ∙ and_left (stays program m (get_or harts i d)) _ leaves) ∙ all

pub one_stays : (program : List Instr) (m : List CapValue) (harts : List HartState) (i : ℕ) (d : HartState) (whole : Bool) → i < length harts
    → stays program m (get_or harts i d) ≡ true → all_stay program m (drop i harts) ≡ whole
    → all_stay program m (drop (i + 1) harts) ≡ whole
unfolding all_stay
one_stays program m harts i d whole h holds all =
    sym (at_drop_more (all_stay program m) harts i d h ∙ ap (λ b. b && all_stay program m (drop (i + 1) harts)) holds) ∙ all
