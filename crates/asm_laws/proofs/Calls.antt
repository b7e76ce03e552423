-- Calls and tail calls arrive at their place.
use Rattle.std.proofs.Common.{◌≡◌, ◌≢◌, refl, sym, ap, ◌∙◌, ℕ, ◌+◌, ◌*◌, ◌/◌, ◌%◌, ◌^◌, ◌<◌, ◌==◌}
use Rattle.std.proofs.Common.{Bool, true, false, List, [], ◌∷◌, length, arith, eq-eqb, eqb-true}
use Rattle.std.specs.Prelude.{ℤ, pos, slice_set, ◌&&◌, ◌||◌, if◌then◌else◌, Ok}
use Rattle.std.proofs.lemmas.Bool.{false≢true, and_parts}
use Rattle.cheri_model.specs.declared.instr.Instr.{Instr}
use Rattle.cheri_model.specs.declared.instr.Instr.TheVariants.{CJalr}
use Rattle.cap_model.specs.values.Capability.{unsealed_type, sentry_type}
use Rattle.cap_model.specs.values.CapValue.{CapValue, valid, raw, tag_of}
use Rattle.cap_model.specs.results.Addresses.{address_of, with_address, is_open, has_permission}
use Rattle.cap_model.specs.results.Addresses.{in_bounds}
use Rattle.cap_model.specs.results.Seals.{unsealed, seal_entry}
use Rattle.cheri_model.specs.instructions.Integers.{sum, immediate}
use Rattle.cheri_model.specs.steps.Actions.{action, even}
use Rattle.cheri_model.specs.steps.Checks.{first_failing, jump_table, has_type}
use Rattle.cheri_model.specs.steps.Hart.{HartState, register, put, next, next_pcc, link}
use Rattle.cheri_model.specs.steps.HartStep.{Stepped, done, hart_step, execute, trapped}
use Rattle.cheri_model.specs.declared.trace.TheConstants.Trap.{TAG}
use Rattle.asm_expansions.specs.Immediates.{bits_of, low}
use Rattle.asm_laws.specs.Stretches.{StandsAt, HasRegisters, after_steps}
use Rattle.asm_laws.specs.Pairs.{Reaches, IsEntry, arrived, link_behind}
use Rattle.asm_laws.proofs.Steps.{line_passes, none_passes, holds, any_step, pcc-put, moved_address}
use Rattle.asm_laws.proofs.Steps.{moved_open, moved_permits, moved_within}
use Rattle.asm_laws.proofs.Writes.{Writes, advanced, read_back, put_put, moved_again}
use Rattle.asm_laws.proofs.PairLemmas.{first_is}

-- an open capability is unsealed already
unsealed_is : (v : CapValue) → is_open v ≡ true → unsealed v ≡ v
unfolding unsealed
unsealed_is (raw word) opened = absurd (false≢true opened)
unsealed_is (valid c) opened =
    let parts = and_parts true (c.otype == unsealed_type) opened in
    ap (λ (t : ℕ). valid (record c { otype = t })) (sym (eqb-true c.otype unsealed_type parts.1))

or_from : (a b : Bool) → a ≡ true → (a || b) ≡ true
or_from true b is = refl
or_from false b is = absurd (false≢true is)

-- a jump through an open capability that may execute, to an aligned place of its bounds
jump_passes : (v : CapValue) (reg target : ℕ) (entry : Bool) → is_open v ≡ true →
    has_permission v 1 ≡ true → in_bounds v target 4 ≡ true →
    target % 4 ≡ 0 → first_failing (jump_table v reg entry target) ≡ Ok tt
unfolding jump_table
jump_passes v reg target entry opened executes within aligned =
    let parts = and_parts (tag_of v) _ opened in
    line_passes _ _ (holds (tag_of v) parts.0)
    (line_passes _ _ (holds (has_type v unsealed_type || (has_type v sentry_type && entry)) (or_from _ _ parts.1))
    (line_passes _ _ (holds (has_permission v 1) executes)
    (line_passes _ _ (holds (in_bounds v target 4) within)
    (line_passes _ _ (holds (target % 4 == 0) (eq-eqb (target % 4) 0 aligned)) none_passes))))

-- the step of a jump
jump_step : (program : List Instr) (hart : HartState) (memory : List CapValue) (ra cd place : ℕ) (imm : ℤ) (v : CapValue) →
    StandsAt program (CJalr ra cd imm ∷ []) hart → register hart cd ≡ v →
    even (sum (address_of v) (immediate imm)) ≡ place →
    is_open v ≡ true → has_permission v 1 ≡ true → in_bounds v place 4 ≡ true → place % 4 ≡ 0 →
    hart_step program hart memory ≡ done (record (put ra (link hart.pcc) hart) {
      pcc =
          with_address v place;
    }) memory
unfolding action execute
jump_step program hart memory ra cd place imm v at reads there opened executes within aligned =
    any_step program [] (CJalr ra cd imm) hart memory at
    ∙ rw (reads, there, jump_passes v cd place (immediate imm == 0) opened executes within aligned, unsealed_is v opened) refl

-- the link behind the two instructions
link_is : (hart : HartState) → is_open hart.pcc ≡ true →
    link (next_pcc hart.pcc) ≡ link_behind 2 hart
unfolding link next_pcc
link_is hart opened =
    let pc = address_of hart.pcc in
    let b = (pc + 4) % 2 ^ 64 in
    let on : (b + 4) % 2 ^ 64 ≡ (pc + 4 * 2) % 2 ^ 64 = omega arith in
    ap seal_entry
    (ap (λ (a : ℕ). with_address (with_address hart.pcc b) ((a + 4) % 2 ^ 64)) (moved_address hart.pcc b opened)
    ∙ ap (with_address (with_address hart.pcc b)) on
    ∙ moved_again hart.pcc b _ opened)

arrive_put : (ra : ℕ) (x y : CapValue) (hart : HartState) →
    record (put ra x (next hart)) { pcc = y } ≡ record (put ra x hart) { pcc = y }
unfolding put next
arrive_put ra x y hart =
    elim (ra == 0) as (λ z. record (if z then next hart else record (next hart) {
      regs =
          slice_set hart.regs ra x;
    }) { pcc = y }
    ≡ record (if z then hart else record hart { regs = slice_set hart.regs ra x }) { pcc = y }) [
      | true ↦ refl
      | false ↦ refl
    ]

pub two_steps : (program : List Instr) (hart mid after : HartState) (memory : List CapValue) →
    after_steps program 1 (done hart memory) ≡ done mid memory →
    hart_step program mid memory ≡ done after memory →
    after_steps program 2 (done hart memory) ≡ done after memory
unfolding after_steps
two_steps program hart mid after memory first second =
    ap (λ (s : Stepped). hart_step program s.hart s.memory) first ∙ second

-- `unimp` traps on the tag of c0
pub unimp_traps : (program : List Instr) (hart : HartState) (memory : List CapValue) →
    HasRegisters hart →
    StandsAt program (CJalr 0 0 (pos 0) ∷ []) hart →
    hart_step program hart memory ≡ trapped (record { cause = TAG; reg = 0 }) hart memory
unfolding action execute first_failing jump_table
unimp_traps program hart memory has at =
    any_step program [] (CJalr 0 0 (pos 0)) hart memory at ∙ rw has.zero refl

-- where the two instructions of a call lead, whatever register has the link
landed : (program : List Instr) (hart : HartState) (memory : List CapValue) (ra cd : ℕ) (distance : ℤ) (place : ℕ) → cd < 32 → cd ≢ 0 →
    (is : Reaches program cd (CJalr ra cd (low (bits_of distance))) distance place hart) →
    IsEntry place hart →
    (w : CapValue) × (after_steps program 2 (done hart memory)
    ≡ done (arrived place hart (put ra (link_behind 2 hart) (put cd w hart))) memory)
unfolding Writes advanced sum next
landed program hart memory ra cd distance place below some is entry =
    let second = CJalr ra cd (low (bits_of distance)) in
    let first = first_is program cd second distance place hart is in
    let opened = is.stands.opened in
    let w = with_address hart.pcc first.addr in
    let count = is.registers.count in
    let inside : cd < length hart.regs = omega arith in
    let h = next (put cd w hart) in
    let at = first.writes.stands program (second ∷ []) is.stands in
    let reads : register h cd ≡ w = read_back 1 cd w hart some inside in
    let on = first.on in
    let is_below = entry.below in
    let is_aligned = entry.aligned in
    let there : even (sum (address_of w) (immediate (low (bits_of distance)))) ≡ place =
    ap (λ (a : ℕ). (a + bits_of (low (bits_of distance))) % 2 ^ 64 / 2 * 2) (moved_address hart.pcc first.addr opened)
    ∙ omega arith in
    let jumped = jump_step program h memory ra cd place (low (bits_of distance)) w at reads there
    (moved_open hart.pcc first.addr opened) (moved_permits hart.pcc first.addr 1 opened is.stands.executes)
    (moved_within hart.pcc first.addr place 4 opened entry.within) entry.aligned in
    let written = put cd w hart in
    let linked : link h.pcc ≡ link_behind 2 hart =
    ap (λ (pcc : CapValue). link (next_pcc pcc)) (pcc-put cd w hart) ∙ link_is hart opened in
    let arrival : record (put ra (link h.pcc) h) {
      pcc =
          with_address w place;
    } ≡ arrived place hart (put ra (link_behind 2 hart) written) =
    arrive_put ra (link h.pcc) (with_address w place) written
    ∙ ap (λ (x : CapValue). record (put ra x written) { pcc = with_address w place }) linked
    ∙ ap (λ (y : CapValue). record (put ra (link_behind 2 hart) written) {
      pcc =
          y;
    }) (moved_again hart.pcc first.addr place opened) in (
      w,
      two_steps program hart h _ memory (first.writes.steps program (second ∷ []) memory is.stands) jumped
          ∙ ap (λ (a : HartState). done a memory) arrival,
    )

-- the link in the register that the call goes through
pub call_arrives : (program : List Instr) (hart : HartState) (memory : List CapValue) (cd : ℕ) (distance : ℤ) (place : ℕ) → cd < 32 → cd ≢ 0 →
    Reaches program cd (CJalr cd cd (low (bits_of distance))) distance place hart →
    IsEntry place hart →
    after_steps program 2 (done hart memory) ≡ done (arrived place hart (put cd (link_behind 2 hart) hart)) memory
call_arrives program hart memory cd distance place below some is entry =
    let lands = landed program hart memory cd cd distance place below some is entry in
    lands.1 ∙ ap (λ (a : HartState). done (arrived place hart a) memory) (put_put cd (link_behind 2 hart) lands.0 hart)

-- no link; the register that the jump goes through has something else
pub tail_arrives : (program : List Instr) (hart : HartState) (memory : List CapValue) (distance : ℤ) (place : ℕ) →
    Reaches program 6 (CJalr 0 6 (low (bits_of distance))) distance place hart →
    IsEntry place hart →
    (w : CapValue) × (after_steps program 2 (done hart memory) ≡ done (arrived place hart (put 6 w hart)) memory)
unfolding put
tail_arrives program hart memory distance place is entry =
    let lands =
    landed program hart memory 0 6 distance place (omega arith) (λ e. omega arith) is entry in
    (lands.0, lands.1)

pub ruleset calls = (call_arrives, tail_arrives, unimp_traps)
