-- Steps along a stretch: each instruction that writes a register, and nothing else, is done.
use Rattle.std.proofs.Common.{◌≡◌, refl, sym, ap, subst, cond, not, if◌then◌else◌, ◌∙◌, ℕ, suc, ◌+◌}
use Rattle.std.proofs.Common.{◌-◌, ◌*◌, ◌/◌, ◌%◌, ◌^◌, ◌<◌, ◌≤◌, ◌==◌, Bool, true, false, List, []}
use Rattle.std.proofs.Common.{◌∷◌, ◌++◌, length, drop, get_or, arith, eq-eqb, leb-true, le-leb}
use Rattle.std.proofs.Common.{lt-ltb}
use Rattle.std.specs.Prelude.{nat_le, nat_lt, slice_set, find, Some, Ok}
use Rattle.std.proofs.lemmas.Bool.{and_parts, and_from, false≢true}
use Rattle.std.proofs.lemmas.List.{drop_more, length-drop}
use Rattle.cheri_model.specs.declared.instr.Instr.{Instr}
use Rattle.cheri_model.specs.declared.instr.Instr.TheVariants.{Ecall}
use Rattle.cap_model.specs.values.CapValue.{CapValue, valid, raw, tag_of, parts_of}
use Rattle.cap_model.specs.values.Capability.{unsealed_type}
use Rattle.cap_model.specs.results.Addresses.{address_of, with_address, is_open, has_permission}
use Rattle.cap_model.specs.results.Addresses.{in_bounds}
use Rattle.cheri_model.specs.steps.Actions.{Action, action, Put}
use Rattle.cheri_model.specs.steps.Checks.{CheckLine, verdict_of, first_failing, fetch_table}
use Rattle.cheri_model.specs.steps.Checks.{has_type, is_in_code}
use Rattle.cheri_model.specs.steps.Hart.{HartState, put, next, next_pcc}
use Rattle.cheri_model.specs.steps.HartStep.{done, hart_step, execute, instruction_at}
use Rattle.asm_laws.specs.Stretches.{StandsAt}

-- ---- the fetch

number_below : (program instrs behind : List Instr) (i : Instr) (n : ℕ) →
    drop n program ≡ i ∷ instrs ++ behind → n < length program
number_below program instrs behind i n there =
    let same = ap length there in
    let size = length-drop n program in
    omega arith

-- the first instruction, and what follows it
first_is : (program instrs behind : List Instr) (i : Instr) (n : ℕ) →
    drop n program ≡ i ∷ instrs ++ behind →
    (get_or program n Ecall ≡ i) × (drop (n + 1) program ≡ instrs ++ behind)
first_is program instrs behind i n there =
    let inside = number_below program instrs behind i n there in
    let split = drop_more program n Ecall inside in
    let both : get_or program n Ecall ∷ drop (n + 1) program ≡ i ∷ instrs ++ behind =
    sym split ∙ there in
    (cc, cc)

four_within : (v : CapValue) (p n : ℕ) → in_bounds v p (4 * suc n) ≡ true → in_bounds v p 4 ≡ true
four_within v p n within =
    let inside = and_parts (nat_le (parts_of v).base p) _ within in
    let to = leb-true _ _ inside.1 in
    let ends : p + 4 ≤ (parts_of v).top = omega arith in
    and_from (nat_le (parts_of v).base p) (nat_le (p + 4) (parts_of v).top) inside.0 (le-leb _ _ ends)

rest_within : (v : CapValue) (p n : ℕ) → in_bounds v p (4 * suc n) ≡ true →
    in_bounds v (p + 4) (4 * n) ≡ true
rest_within v p n within =
    let inside = and_parts (nat_le (parts_of v).base p) _ within in
    let from = leb-true _ _ inside.0 in
    let to = leb-true _ _ inside.1 in
    let begins : (parts_of v).base ≤ p + 4 = omega arith in
    let ends : p + 4 + 4 * n ≤ (parts_of v).top = omega arith in
    and_from (nat_le (parts_of v).base (p + 4)) (nat_le (p + 4 + 4 * n) (parts_of v).top) (le-leb _ _ begins) (le-leb _ _ ends)

in_code : (n count : ℕ) → n < count → is_in_code count (268435456 + 4 * n) ≡ true
in_code n count below =
    let from : 268435456 ≤ 268435456 + 4 * n = omega arith in
    let number : (268435456 + 4 * n - 268435456) / 4 < count = omega arith in
    and_from (nat_le 268435456 (268435456 + 4 * n)) (nat_lt ((268435456 + 4 * n - 268435456) / 4) count) (le-leb _ _ from) (lt-ltb _ _ number)

-- a table passes where its first line doesn't fail and the others pass
pub line_passes : (line : CheckLine) (table : List CheckLine) → line.fails ≡ false →
    first_failing table ≡ Ok tt →
    first_failing (line ∷ table) ≡ Ok tt
unfolding first_failing
line_passes line table = by_fails line.fails
  where
    by_fails : (b : Bool) → b ≡ false → verdict_of (find (λ l. l.fails) table) ≡ Ok tt →
        verdict_of (cond b (Some line) (find (λ l. l.fails) table)) ≡ Ok tt
    by_fails true same passed = absurd (false≢true (sym same))
    by_fails false same passed = passed

pub none_passes : first_failing [] ≡ Ok tt
unfolding first_failing
none_passes = refl

pub holds : (b : Bool) → b ≡ true → not b ≡ false
holds true same = refl
holds false same = absurd (false≢true same)

fetch_passes : (program instrs : List Instr) (i : Instr) (hart : HartState) →
    StandsAt program (i ∷ instrs) hart →
    first_failing (fetch_table hart.pcc (length program)) ≡ Ok tt
unfolding fetch_table
fetch_passes program instrs i hart at =
    let pcc = hart.pcc in
    let pc = address_of hart.pcc in
    let place = at.place in
    let parts = and_parts (tag_of pcc) _ at.opened in
    let within = four_within pcc pc (length instrs) at.within in
    let aligned : (pc % 4 == 0) ≡ true = eq-eqb (pc % 4) 0 (omega arith) in
    let inside = number_below program instrs at.rest i at.number at.there in
    let placed : is_in_code (length program) pc ≡ true =
    ap (λ (a : ℕ). is_in_code (length program) a) place
    ∙ in_code at.number (length program) inside in
    line_passes _ _ (holds (tag_of pcc) parts.0)
    (line_passes _ _ (holds (has_type pcc unsealed_type) parts.1)
    (line_passes _ _ (holds (has_permission pcc 1) at.executes)
    (line_passes _ _ (holds (in_bounds pcc pc 4) within)
    (line_passes _ _ (holds (pc % 4 == 0) aligned)
    (line_passes _ _ (holds (is_in_code (length program) pc) placed) none_passes)))))

-- the instruction at PC is the first of the stretch
instruction_is : (program instrs : List Instr) (i : Instr) (hart : HartState) →
    StandsAt program (i ∷ instrs) hart →
    instruction_at program (address_of hart.pcc) ≡ i
unfolding instruction_at
instruction_is program instrs i hart at =
    let place = at.place in
    let number : (address_of hart.pcc - 268435456) / 4 ≡ at.number = omega arith in
    ap (λ (n : ℕ). get_or program n Ecall) number
    ∙ (first_is program instrs at.rest i at.number at.there).0

-- ---- a step

-- a step does what the first instruction of the stretch asks for
pub any_step : (program instrs : List Instr) (i : Instr) (hart : HartState) (memory : List CapValue) → StandsAt program (i ∷ instrs) hart →
    hart_step program hart memory ≡ execute (action i hart) hart memory
unfolding hart_step
any_step program instrs i hart memory at =
    rw (fetch_passes program instrs i hart at, instruction_is program instrs i hart at) refl

-- a step of an instruction that writes a register
pub put_step : (program instrs : List Instr) (i : Instr) (hart : HartState) (memory : List CapValue) (cd : ℕ) (v : CapValue) →
    StandsAt program (i ∷ instrs) hart → action i hart ≡ Put cd v →
    hart_step program hart memory ≡ done (next (put cd v hart)) memory
unfolding execute
put_step program instrs i hart memory cd v at is =
    any_step program instrs i hart memory at ∙ ap (λ (a : Action). execute a hart memory) is

pub pcc-put : (cd : ℕ) (v : CapValue) (hart : HartState) → (put cd v hart).pcc ≡ hart.pcc
unfolding put
pcc-put cd v hart =
    elim (cd == 0) as (λ z. (if z then hart else record hart {
      regs =
          slice_set hart.regs cd v;
    }).pcc ≡ hart.pcc) [
      | true ↦ refl
      | false ↦ refl
    ]

-- what an open capability is with another address
pub moved_open : (v : CapValue) (a : ℕ) → is_open v ≡ true → is_open (with_address v a) ≡ true
unfolding with_address
moved_open (valid c) a opened = opened
moved_open (raw word) a opened = absurd (false≢true opened)

pub moved_permits : (v : CapValue) (a number : ℕ) → is_open v ≡ true →
    has_permission v number ≡ true → has_permission (with_address v a) number ≡ true
unfolding with_address
moved_permits (valid c) a number opened permits = permits
moved_permits (raw word) a number opened permits = absurd (false≢true opened)

pub moved_within : (v : CapValue) (a p n : ℕ) → is_open v ≡ true → in_bounds v p n ≡ true →
    in_bounds (with_address v a) p n ≡ true
unfolding with_address
moved_within (valid c) a p n opened within = within
moved_within (raw word) a p n opened within = absurd (false≢true opened)

pub moved_address : (v : CapValue) (a : ℕ) → is_open v ≡ true → address_of (with_address v a) ≡ a
unfolding with_address address_of
moved_address (valid c) a opened = refl
moved_address (raw word) a opened = absurd (false≢true opened)

-- the rest of the stretch is at the next PC
pub next_stands : (program instrs : List Instr) (i : Instr) (hart after : HartState) →
    StandsAt program (i ∷ instrs) hart →
    after.pcc ≡ next_pcc hart.pcc → StandsAt program instrs after
unfolding next_pcc
next_stands program instrs i hart after at is =
    let a = (address_of hart.pcc + 4) % 2 ^ 64 in
    let back : with_address hart.pcc a ≡ after.pcc = sym is in
    let inside = number_below program instrs at.rest i at.number at.there in
    let size = at.size in
    let place = at.place in
    let on : a ≡ address_of hart.pcc + 4 = omega arith in
    let addr : address_of after.pcc ≡ address_of hart.pcc + 4 =
    ap address_of is ∙ moved_address hart.pcc a at.opened ∙ on in
    let within : in_bounds after.pcc (address_of hart.pcc + 4) (4 * length instrs) ≡ true =
    subst (λ (v : CapValue). in_bounds v (address_of hart.pcc + 4) (4 * length instrs) ≡ true) back
    (moved_within hart.pcc a _ _ at.opened (rest_within hart.pcc (address_of hart.pcc) (length instrs) at.within)) in
    record {
      number = at.number + 1;
      rest = at.rest;
      inside = omega arith;
      there = (first_is program instrs at.rest i at.number at.there).1;
      size = at.size;
      place = addr ∙ omega arith;
      opened = subst (λ (v : CapValue). is_open v ≡ true) back (moved_open hart.pcc a at.opened);
      executes =
          subst (λ (v : CapValue). has_permission v 1 ≡ true) back (moved_permits hart.pcc a 1 at.opened at.executes);
      within = subst (λ (p : ℕ). in_bounds after.pcc p (4 * length instrs) ≡ true) (sym addr) within;
    }
