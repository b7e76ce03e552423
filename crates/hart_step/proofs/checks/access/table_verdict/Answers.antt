-- The code's table is the definition's, line by line.
use Rattle.std.proofs.Common.{ℕ, ◌%◌, ◌==◌, Bool, ◌&&◌, not, refl, ap, ◌∙◌}
use Rattle.cap_model.specs.declared.permission.TheConstants as permission
use Rattle.cheri_model.specs.declared.trace.TheConstants.Trap as cause
use Rattle.cheri_model.specs.steps.Checks.{access_table, check_line, first_failing}
use Rattle.cheri_model.specs.steps.Memory.{is_in_ram}
use Rattle.cap_model.specs.results.Addresses.{has_permission, in_bounds}
use Rattle.hart_step.proofs.Verdicts.{cons_same}
use Rattle.hart_step.proofs.checks.access.table_verdict.Goals as goal

pub returns : goal.returns
unfolding access_table
returns c =
    let auth = c.args.auth in
    let reg = c.args.reg in
    let addr = c.args.addr in
    let bytes = c.size_of-bytes.ensures.value in
    let load = c.without_needed.ensures
    ∙ ap (λ (n : Bool). check_line (n && not (has_permission auth permission.LOAD)) cause.LOAD reg) c.is_load.ensures in
    let store = c.without_needed-2.ensures
    ∙ ap (λ (n : Bool). check_line (n && not (has_permission auth permission.STORE)) cause.STORE reg) c.is_store.ensures in
    let tagged = c.without_needed-3.ensures
    ∙ ap (λ (n : Bool). check_line (n && not (has_permission auth permission.STORE_CAP)) cause.STORE_CAP reg) c.stored_kind-tagged.ensures.tagged in
    let local = c.without_needed-4.ensures
    ∙ ap (λ (n : Bool). check_line (n && not (has_permission auth permission.STORE_LOCAL)) cause.STORE_LOCAL reg) c.stored_kind-tagged.ensures.local in
    let length = c.outside.ensures ∙ ap (λ (n : ℕ). check_line (not (in_bounds auth addr n)) cause.LENGTH reg) bytes in
    let aligned = c.unaligned.ensures ∙ ap (λ (n : ℕ). check_line (not (addr % n == 0)) cause.ALIGNMENT reg) bytes in
    let placed = c.check.ensures
    ∙ ap (λ (b : Bool). check_line (not b) cause.PLACE reg) (c.holds.ensures ∙ ap (λ (n : ℕ). is_in_ram c.args.ram.now addr n) bytes) in
    c.first_failing.ensures
    ∙ ap first_failing
    (cons_same c.untagged.ensures (cons_same c.sealed.ensures (cons_same load (cons_same store (cons_same tagged
    (cons_same local (cons_same length (cons_same aligned (cons_same placed refl)))))))))
