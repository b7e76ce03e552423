-- What a hart forgets makes no difference to its steps and to sweeps.
use Rattle.std.proofs.Common.{◌≡◌, ℕ, length, List, map, sym, ap, ◌∙◌, inl, inr}
use Rattle.std.specs.Prelude.{Bool, true, false, ◌&&◌, if◌then◌else◌, All}
use Rattle.std.proofs.lemmas.Bool.{cases_lt}
use Rattle.std.proofs.lemmas.List.{length-map, get_or-map, get_or_past}
use Rattle.cap_model.specs.values.CapValue.{CapValue, tag_of}
use Rattle.cap_model.specs.results.Addresses.{address_of, clear_tag}
use Rattle.cap_model.specs.results.Swept.{is_in_sweep, swept}
use Rattle.cheri_model.specs.declared.instr.Instr.{Instr}
use Rattle.cheri_model.specs.runs.Machine.{is_running}
use Rattle.cheri_model.specs.runs.Sweeps.{swept_hart}
use Rattle.cheri_model.specs.steps.Hart.{HartState, null, register}
use Rattle.cheri_model.specs.steps.HartStep.{Stepped, hart_step}
use Rattle.live_registers.specs.RegisterSets.{has, IsWithin, kept, forgotten}
use Rattle.live_registers.specs.LiveSets.{LiveSets, set_at, set_of, forgotten_hart, IsRight}
use Rattle.live_registers.proofs.SetLemmas.{AreAlike, kept_in, kept_alike, alike_kept, alike_within}
use Rattle.live_registers.proofs.StepLemmas.{IsLike, step_like, asked_of}

-- harts that differ in registers that don't matter forget to be the same
same_forgotten : (live : LiveSets) (h : HartState) (xs : List CapValue) → AreAlike (set_of live h) xs h.regs →
    forgotten_hart live (record h { regs = xs }) ≡ forgotten_hart live h
unfolding forgotten_hart forgotten set_of
same_forgotten live h xs alike =
    ap (λ (regs : List CapValue). record h { regs = regs }) (alike_kept (set_of live h) xs h.regs alike)

pub forgotten_twice : (live : LiveSets) (h : HartState) → forgotten_hart live (forgotten_hart live h) ≡ forgotten_hart live h
unfolding forgotten_hart forgotten set_of
forgotten_twice live h = same_forgotten live h (kept (set_of live h) h.regs) (kept_alike (set_of live h) h.regs)

pub asked_stays : (program : List Instr) (live : LiveSets) (h : HartState) (reg : ℕ) → IsRight program live →
    has live.asked reg ≡ true → register (forgotten_hart live h) reg ≡ register h reg
unfolding forgotten_hart forgotten register
asked_stays program live h reg right held = kept_in (set_of live h) h.regs reg (asked_of live right.asked h reg held)

-- ---- steps

like_forgotten : (live : LiveSets) (s t : Stepped) → IsLike live s t → forgotten_hart live s.hart ≡ forgotten_hart live t.hart
like_forgotten live s t like = rw like.same (same_forgotten live t.hart like.regs like.alike)

forgets : (program : List Instr) (live : LiveSets) (h : HartState) (m : List CapValue) → IsRight program live → is_running h.status ≡ true →
    IsLike live (hart_step program (forgotten_hart live h) m) (hart_step program h m)
unfolding forgotten_hart forgotten
forgets program live h m right running =
    step_like program live right h (kept (set_of live h) h.regs) m running (kept_alike (set_of live h) h.regs)

pub forgets_hart : (program : List Instr) (live : LiveSets) (h : HartState) (m : List CapValue) → IsRight program live → is_running h.status ≡ true →
    forgotten_hart live (hart_step program (forgotten_hart live h) m).hart ≡ forgotten_hart live (hart_step program h m).hart
forgets_hart program live h m right running = like_forgotten live _ _ (forgets program live h m right running)

pub forgets_memory : (program : List Instr) (live : LiveSets) (h : HartState) (m : List CapValue) → IsRight program live → is_running h.status ≡ true →
    (hart_step program (forgotten_hart live h) m).memory ≡ (hart_step program h m).memory
forgets_memory program live h m right running = ap (λ (s : Stepped). s.memory) (forgets program live h m right running).same

pub forgets_outcome : (program : List Instr) (live : LiveSets) (h : HartState) (m : List CapValue) → IsRight program live → is_running h.status ≡ true →
    (hart_step program (forgotten_hart live h) m).outcome ≡ (hart_step program h m).outcome
forgets_outcome program live h m right running = ap (λ (s : Stepped). s.outcome) (forgets program live h m right running).same

-- ---- sweeps

map_alike : (f : CapValue → CapValue) (set : List Bool) (xs ys : List CapValue) → AreAlike set xs ys → AreAlike set (map f xs) (map f ys)
map_alike f set xs ys alike = record {
  size = length-map xs f ∙ alike.size ∙ sym (length-map ys f);
  same = λ reg held. elim (cases_lt reg (length xs)) [
    | inl inside ↦
        get_or-map f xs reg null null inside ∙ ap f (alike.same reg held)
        ∙ sym (get_or-map f ys reg null null (rw alike.size at inside))
    | inr outside ↦
        get_or_past (map f xs) reg null (rw (length-map xs f) outside)
        ∙ sym (get_or_past (map f ys) reg null (rw (length-map ys f, ← alike.size) outside))
  ];
}

-- a sweep makes no more registers matter
swept_within : (live : LiveSets) → All (IsWithin live.asked) live.sets → (lo hi : ℕ) (h : HartState) →
    IsWithin (set_of live (swept_hart lo hi h)) (set_of live h)
unfolding set_of swept_hart swept
swept_within live each lo hi h =
    elim (is_in_sweep lo hi h.pcc)
    as (λ (cleared : Bool). IsWithin
    (if is_running h.status && tag_of (if cleared then clear_tag h.pcc else h.pcc)
    then set_at live (address_of (if cleared then clear_tag h.pcc else h.pcc)) else live.asked)
    (set_of live h)) [
      | true ↦ elim (is_running h.status)
          as (λ (runs : Bool). IsWithin (if runs && false then set_at live (address_of (clear_tag h.pcc)) else live.asked) (set_of live h)) [
            | true ↦ asked_of live each h
            | false ↦ asked_of live each h
          ]
      | false ↦ λ reg held. held
    ]

-- what is the same but for registers that don't matter forgets to be the same
same_swept : (live : LiveSets) (lo hi : ℕ) (h : HartState) (regs : List CapValue) →
    AreAlike (set_of live (swept_hart lo hi h)) (map (swept lo hi) regs) (map (swept lo hi) h.regs) →
    forgotten_hart live (swept_hart lo hi (record h { regs = regs })) ≡ forgotten_hart live (swept_hart lo hi h)
unfolding swept_hart
same_swept live lo hi h regs alike = same_forgotten live (swept_hart lo hi h) (map (swept lo hi) regs) alike

pub sweep_forgets : (program : List Instr) (live : LiveSets) (lo hi : ℕ) (h : HartState) → IsRight program live →
    forgotten_hart live (swept_hart lo hi (forgotten_hart live h)) ≡ forgotten_hart live (swept_hart lo hi h)
unfolding forgotten_hart forgotten
sweep_forgets program live lo hi h right =
    let set = set_of live h in
    same_swept live lo hi h (kept set h.regs)
    (alike_within (set_of live (swept_hart lo hi h)) set _ _ (swept_within live right.asked lo hi h)
    (map_alike (swept lo hi) set (kept set h.regs) h.regs (kept_alike set h.regs)))
