-- `clgc` loads the entry of the capability table at its place.
use Rattle.std.proofs.Common.{◌≡◌, ◌≢◌, refl, ap, ◌∙◌, ℕ, ◌+◌, ◌%◌, ◌^◌, ◌<◌, ◌==◌, Bool, true}
use Rattle.std.proofs.Common.{if◌then◌else◌, List, [], ◌∷◌, length, arith, eq-eqb}
use Rattle.std.specs.Prelude.{ℤ, Ok, None}
use Rattle.std.proofs.lemmas.Bool.{and_parts}
use Rattle.cheri_model.specs.declared.access.Access.TheVariants.{LoadCap}
use Rattle.cheri_model.specs.declared.instr.Instr.{Instr}
use Rattle.cheri_model.specs.declared.instr.Instr.TheVariants.{Lc}
use Rattle.cap_model.specs.values.Capability.{unsealed_type}
use Rattle.cap_model.specs.values.CapValue.{CapValue, tag_of}
use Rattle.cap_model.specs.results.Addresses.{address_of, with_address, is_open, has_permission}
use Rattle.cap_model.specs.results.Addresses.{in_bounds, clear_tag}
use Rattle.cheri_model.specs.instructions.Integers.{sum, immediate}
use Rattle.cheri_model.specs.steps.Actions.{action}
use Rattle.cheri_model.specs.steps.Checks.{first_failing, access_table, has_type}
use Rattle.cheri_model.specs.steps.Hart.{HartState, register, put, next}
use Rattle.cheri_model.specs.steps.HartStep.{done, hart_step, execute, permitted}
use Rattle.cheri_model.specs.steps.Memory.{is_in_ram, load_capability}
use Rattle.asm_expansions.specs.Immediates.{bits_of, low}
use Rattle.asm_laws.specs.Stretches.{StandsAt, Leaves}
use Rattle.asm_laws.specs.Pairs.{pair, Reaches, IsEntryOfTable}
use Rattle.asm_laws.proofs.Steps.{line_passes, none_passes, holds, any_step, pcc-put, moved_address}
use Rattle.asm_laws.proofs.Steps.{moved_open, moved_permits, moved_within}
use Rattle.asm_laws.proofs.Writes.{Writes, advanced, advanced_put, advanced_is_behind, put_put}
use Rattle.asm_laws.proofs.Writes.{read_back}
use Rattle.asm_laws.proofs.PairLemmas.{first_is}
use Rattle.asm_laws.proofs.Calls.{two_steps}

-- a load through an open capability that may load, of an aligned granule of RAM in its bounds
load_passes : (v : CapValue) (reg addr : ℕ) (memory : List CapValue) → is_open v ≡ true →
    has_permission v 2 ≡ true →
    in_bounds v addr 16 ≡ true → addr % 16 ≡ 0 → is_in_ram memory addr 16 ≡ true →
    first_failing (access_table v reg addr LoadCap None memory) ≡ Ok tt
unfolding access_table
load_passes v reg addr memory opened loads within aligned placed =
    let parts = and_parts (tag_of v) _ opened in
    line_passes _ _ (holds (tag_of v) parts.0)
    (line_passes _ _ (holds (has_type v unsealed_type) parts.1)
    (line_passes _ _ (holds (has_permission v 2) loads)
    (line_passes _ _ refl
    (line_passes _ _ refl
    (line_passes _ _ refl
    (line_passes _ _ (holds (in_bounds v addr 16) within)
    (line_passes _ _ (holds (addr % 16 == 0) (eq-eqb (addr % 16) 0 aligned))
    (line_passes _ _ (holds (is_in_ram memory addr 16) placed) none_passes))))))))

permitted_is : (auth v : CapValue) → has_permission auth 4 ≡ true → permitted auth v ≡ v
unfolding permitted
permitted_is auth v may = ap (λ (z : Bool). if z then v else clear_tag v) may

-- the step of the load
load_step : (program : List Instr) (hart : HartState) (memory : List CapValue) (cd place : ℕ) (imm : ℤ) (v : CapValue) →
    StandsAt program (Lc cd cd imm ∷ []) hart → register hart cd ≡ v →
    sum (address_of v) (immediate imm) ≡ place →
    is_open v ≡ true → has_permission v 2 ≡ true → has_permission v 4 ≡ true →
    in_bounds v place 16 ≡ true → place % 16 ≡ 0 →
    is_in_ram memory place 16 ≡ true →
    hart_step program hart memory ≡ done (next (put cd (load_capability memory place) hart)) memory
unfolding action execute
load_step program hart memory cd place imm v at reads there opened loads keeps within aligned placed =
    any_step program [] (Lc cd cd imm) hart memory at
    ∙ rw (reads, there, load_passes v cd place memory opened loads within aligned placed, permitted_is v (load_capability memory place) keeps) refl

pub clgc_leaves : (program : List Instr) (hart : HartState) (memory : List CapValue) (cd : ℕ) (distance : ℤ) (place : ℕ) → cd < 32 → cd ≢ 0 →
    Reaches program cd (Lc cd cd (low (bits_of distance))) distance place hart →
    IsEntryOfTable place hart memory →
    Leaves program (pair cd (Lc cd cd (low (bits_of distance))) distance) hart memory (put cd (load_capability memory place) hart)
unfolding Writes advanced sum
clgc_leaves program hart memory cd distance place below some is entry =
    let second = Lc cd cd (low (bits_of distance)) in
    let first = first_is program cd second distance place hart is in
    let opened = is.stands.opened in
    let w = with_address hart.pcc first.addr in
    let v = load_capability memory place in
    let count = is.registers.count in
    let inside : cd < length hart.regs = omega arith in
    let h = next (put cd w hart) in
    let at = first.writes.stands program (second ∷ []) is.stands in
    let reads : register h cd ≡ w = read_back 1 cd w hart some inside in
    let on = first.on in
    let is_below = entry.below in
    let there : sum (address_of w) (immediate (low (bits_of distance))) ≡ place =
    ap (λ (a : ℕ). (a + bits_of (low (bits_of distance))) % 2 ^ 64) (moved_address hart.pcc first.addr opened) ∙ omega arith in
    let loaded = load_step program h memory cd place (low (bits_of distance)) w at reads there
    (moved_open hart.pcc first.addr opened) (moved_permits hart.pcc first.addr 2 opened entry.loads)
    (moved_permits hart.pcc first.addr 4 opened entry.keeps) (moved_within hart.pcc first.addr place 16 opened entry.within)
    entry.aligned entry.placed in
    let place_of_pc = is.stands.place in
    let number = is.stands.inside in
    let size = is.stands.size in
    let after = put cd v hart in
    let same = pcc-put cd v hart in
    let final : next (put cd v h) ≡ advanced 2 after =
    ap next (advanced_put 1 cd v (put cd w hart))
    ∙ ap (λ (a : HartState). advanced 2 a) (put_put cd v w hart) in
    two_steps program hart h (next (put cd v h)) memory (first.writes.steps program (second ∷ []) memory is.stands) loaded
    ∙ ap (λ (a : HartState). done a memory)
    (final ∙ advanced_is_behind 2 after (ap is_open same ∙ opened) (rw same (omega arith)))

pub ruleset loads = (clgc_leaves)
