-- What each step leaves in a register: what it holds already, or what the step gives.
use Rattle.std.proofs.Common.{◌≡◌, ◌⊎◌, inl, inr, ℕ, zero, suc, ◌-◌, ◌==◌, Bool, true, false, List, [], ◌∷◌, Option, Some, None, Ok, Err, refl, sym, ap, ◌∙◌, get_or, set}
use Rattle.std.specs.Prelude.{Result}
use Rattle.cap_model.specs.values.CapValue.{CapValue, raw}
use Rattle.cap_ops.specs.declared.making.MakeFault.{MakeFault}
use Rattle.asm_capabilities.specs.declared.code.Reach.{Reach}
use Rattle.asm_capabilities.specs.Capabilities.{pcc_at, sentry_at, stack_at}
use Rattle.asm_harts.specs.declared.registers.Registers.{Registers}
use Rattle.asm_harts.specs.declared.hart.HartPlaces.{HartPlaces}
use Rattle.asm_harts.specs.declared.hart.OpenHart.{OpenHart}
use Rattle.asm_harts.specs.declared.hart.Stack.{Stack}
use Rattle.asm_harts.specs.Registers.{is_set, with_register, or_register}
use Rattle.asm_harts.specs.Harts.{stack_of, with_stack, with_exit, with_number, hart_of, hart_from, ◌>>=◌}
use Rattle.asm_harts.specs.declared.hart.TheConstants.{STACK, LINK, ARGUMENT}
use Rattle.asm_harts.specs.Given.{IsExit, IsStack, IsGiven}

-- a list with one item set
either : (xs : List CapValue) (i n : ℕ) (v d : CapValue)
    → (get_or (set xs i v) n d ≡ v) ⊎ (get_or (set xs i v) n d ≡ get_or xs n d)
either [] i n v d = inr refl
either (x ∷ xs) zero zero v d = inl refl
either (x ∷ xs) zero (suc n) v d = inr refl
either (x ∷ xs) (suc i) zero v d = inr refl
either (x ∷ xs) (suc i) (suc n) v d = either xs i n v d

-- the value at a place
abbrev held : Registers → ℕ → CapValue
held r n = get_or r.values n (raw 0)

put_in : (zero_register : Bool) (r : Registers) (register : ℕ) (v : CapValue) (n : ℕ) → (register == 0) ≡ zero_register
    → (held (with_register r register v) n ≡ v) ⊎ (held (with_register r register v) n ≡ held r n)
unfolding with_register
put_in true r register v n e = inr (rw e refl)
put_in false r register v n e = rw e (either r.values (register - 1) n v (raw 0))

put : (r : Registers) (register : ℕ) (v : CapValue) (n : ℕ)
    → (held (with_register r register v) n ≡ v) ⊎ (held (with_register r register v) n ≡ held r n)
put r register v n = put_in (register == 0) r register v n refl

or_put_in : (there : Bool) (r : Registers) (register : ℕ) (v : CapValue) (n : ℕ) → is_set r register ≡ there
    → (held (or_register r register v) n ≡ v) ⊎ (held (or_register r register v) n ≡ held r n)
unfolding or_register
or_put_in true r register v n e = inr (rw e refl)
or_put_in false r register v n e = rw e (put r register v n)

or_put : (r : Registers) (register : ℕ) (v : CapValue) (n : ℕ)
    → (held (or_register r register v) n ≡ v) ⊎ (held (or_register r register v) n ≡ held r n)
or_put r register v n = or_put_in (is_set r register) r register v n refl

numbered : (r : Registers) (number n : ℕ)
    → (held (with_number r number) n ≡ raw number) ⊎ (held (with_number r number) n ≡ held r n)
unfolding with_number
numbered r number n = or_put r ARGUMENT (raw number) n

-- the exit, where there is one
linked_by : (sentry : Result CapValue MakeFault) (r after : Registers) (reach : Reach) (addr n : ℕ) → sentry_at reach addr ≡ sentry
    → with_exit r reach (Some addr) ≡ Ok after
    → (sentry_at reach addr ≡ Ok (held after n)) ⊎ (held after n ≡ held r n)
unfolding with_exit
linked_by (Ok v) r after reach addr n e h =
    let is : or_register r LINK v ≡ after = cc (rw e at h) in
    elim (or_put r LINK v n) [
      | inl given ↦ inl (e ∙ ap Ok (sym given ∙ ap (λ (a : Registers). held a n) is))
      | inr kept ↦ inr (sym (ap (λ (a : Registers). held a n) is) ∙ kept)
    ]
linked_by (Err fault) r after reach addr n e h = absurd (cc (rw e at h))

linked : (exit : Option ℕ) (r after : Registers) (reach : Reach) (n : ℕ) → with_exit r reach exit ≡ Ok after
    → ((addr : ℕ) × (exit ≡ Some addr) × (sentry_at reach addr ≡ Ok (held after n))) ⊎ (held after n ≡ held r n)
unfolding with_exit
linked None r after reach n h = let is : r ≡ after = cc in inr (sym (ap (λ (a : Registers). held a n) is))
linked (Some addr) r after reach n h =
    elim (linked_by (sentry_at reach addr) r after reach addr n refl h) [
      | inl given ↦ inl (addr, refl, given)
      | inr kept ↦ inr kept
    ]

-- the stack, where there is one
stacked_by : (value : Result CapValue MakeFault) (r after : Registers) (stack : Stack) (n : ℕ) → stack_at stack.base stack.size ≡ value
    → with_stack r (Some stack) ≡ Ok after
    → (stack_at stack.base stack.size ≡ Ok (held after n)) ⊎ (held after n ≡ held r n)
unfolding with_stack
stacked_by (Ok v) r after stack n e h =
    let is : with_register r STACK v ≡ after = cc (rw e at h) in
    elim (put r STACK v n) [
      | inl given ↦ inl (e ∙ ap Ok (sym given ∙ ap (λ (a : Registers). held a n) is))
      | inr kept ↦ inr (sym (ap (λ (a : Registers). held a n) is) ∙ kept)
    ]
stacked_by (Err fault) r after stack n e h = absurd (cc (rw e at h))

stacked : (stack : Option Stack) (r after : Registers) (n : ℕ) → with_stack r stack ≡ Ok after
    → ((one : Stack) × (stack ≡ Some one) × (stack_at one.base one.size ≡ Ok (held after n))) ⊎ (held after n ≡ held r n)
unfolding with_stack
stacked None r after n h = let is : r ≡ after = cc in inr (sym (ap (λ (a : Registers). held a n) is))
stacked (Some one) r after n h =
    elim (stacked_by (stack_at one.base one.size) r after one n refl h) [
      | inl given ↦ inl (one, refl, given)
      | inr kept ↦ inr kept
    ]

-- the steps one after another
pub record Steps (registers : Registers) (places : HartPlaces) (hart : OpenHart) : Type 0 where
  pub pcc : CapValue
  pub first : Registers
  pub second : Registers
  pub made_at : pcc_at places.reach places.entry ≡ Ok pcc
  pub with_stack_is : with_stack registers (stack_of registers places) ≡ Ok first
  pub with_exit_is : with_exit first places.reach places.exit ≡ Ok second
  pub whole : hart_from pcc (stack_of registers places) (with_number second places.number) places.memory_end ≡ hart

exit_step : (r : Result Registers MakeFault) (registers first : Registers) (places : HartPlaces) (hart : OpenHart) (pcc : CapValue)
    → pcc_at places.reach places.entry ≡ Ok pcc → with_stack registers (stack_of registers places) ≡ Ok first
    → with_exit first places.reach places.exit ≡ r
    → (r >>= λ linked. Ok (hart_from pcc (stack_of registers places) (with_number linked places.number) places.memory_end)) ≡ Ok hart
    → Steps registers places hart
exit_step (Ok second) registers first places hart pcc m s e h =
    record { pcc = pcc; first = first; second = second; made_at = m; with_stack_is = s; with_exit_is = e; whole = cc }
exit_step (Err fault) registers first places hart pcc m s e h = absurd (cc)

stack_step : (r : Result Registers MakeFault) (registers : Registers) (places : HartPlaces) (hart : OpenHart) (pcc : CapValue)
    → pcc_at places.reach places.entry ≡ Ok pcc → with_stack registers (stack_of registers places) ≡ r
    → (r >>= λ stacked. with_exit stacked places.reach places.exit >>= λ linked.
    Ok (hart_from pcc (stack_of registers places) (with_number linked places.number) places.memory_end)) ≡ Ok hart
    → Steps registers places hart
stack_step (Ok first) registers places hart pcc m s h = exit_step (with_exit first places.reach places.exit) registers first places hart pcc m s refl h
stack_step (Err fault) registers places hart pcc m s h = absurd (cc)

pcc_step : (r : Result CapValue MakeFault) (registers : Registers) (places : HartPlaces) (hart : OpenHart) → pcc_at places.reach places.entry ≡ r
    → (r >>= λ pcc. with_stack registers (stack_of registers places) >>= λ stacked. with_exit stacked places.reach places.exit >>= λ linked.
    Ok (hart_from pcc (stack_of registers places) (with_number linked places.number) places.memory_end)) ≡ Ok hart
    → Steps registers places hart
pcc_step (Ok pcc) registers places hart m h = stack_step (with_stack registers (stack_of registers places)) registers places hart pcc m refl h
pcc_step (Err fault) registers places hart m h = absurd (cc)

pub steps_of : (registers : Registers) (places : HartPlaces) (hart : OpenHart) → hart_of registers places ≡ Ok hart → Steps registers places hart
unfolding hart_of
steps_of registers places hart h = pcc_step (pcc_at places.reach places.entry) registers places hart refl h

pub given : (registers : Registers) (places : HartPlaces) (hart : OpenHart) (n : ℕ) → hart_of registers places ≡ Ok hart → IsGiven registers places hart n
given registers places hart n h =
    let steps = steps_of registers places hart h in
    let stack_is : hart.stack ≡ stack_of registers places = ap (λ (o : OpenHart). o.stack) (sym steps.whole) in
    let held_is : get_or hart.image.regs n (raw 0) ≡ held (with_number steps.second places.number) n =
    ap (λ (o : OpenHart). get_or o.image.regs n (raw 0)) (sym steps.whole) in
    elim (numbered steps.second places.number n) [
      | inl number ↦ inr (inl (held_is ∙ number))
      | inr kept ↦ elim (linked places.exit steps.first steps.second places.reach n steps.with_exit_is) [
        | inl exit ↦ inr (inr (inl (exit.0, exit.1, exit.2 ∙ ap Ok (sym kept ∙ sym held_is))))
        | inr before ↦ elim (stacked (stack_of registers places) registers steps.first n steps.with_stack_is) [
          | inl stack ↦ inr (inr (inr (stack.0, stack_is ∙ stack.1, stack.2 ∙ ap Ok (sym before ∙ sym kept ∙ sym held_is))))
          | inr first ↦ inl (held_is ∙ kept ∙ before ∙ first)
        ]
      ]
    ]
