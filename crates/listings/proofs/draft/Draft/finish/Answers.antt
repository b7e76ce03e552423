use Rattle.std.proofs.Common.{◌≡◌, ◌==◌, ◌∙◌, false, length, sym, subst, ap, arith}
use Rattle.std.specs.Prelude.{ok_or}
use Rattle.std.proofs.lemmas.Bool.Decides.{nat_tests}
use Rattle.cheri_model.specs.steps.Memory.{IsMemory}
use Rattle.tagged_mem.proofs.PackedRam.{IsMemory-unpacked}
use Rattle.grammar.specs.declared.fault.ListingFaultKind.TheVariants.{Size}
use Rattle.listings.specs.Meaning.{whole_fault}
use Rattle.listings.proofs.ImageLemmas.{finished_image}
use Rattle.listings.proofs.draft.Draft.finish.Goals as goal

pub returns : goal.returns
returns c =
    let d = c.self.inside in
    let test : (d.harts.len == 0) ≡ false = sym c.is_empty.ensures ∙ c.if-is_empty.false in
    let same = d.harts.ok.0 in
    let some : (length d.harts.items == 0) ≡ false = grind (arith, nat_tests, test, same) in
    rw (← c.self.view_is)
    (finished_image (record { program = d.program.items; harts = d.harts.items; set = d.set; memory = d.ram; sized = d.sized })
    c.size.result c.in_ok-granules.granules.items c.ok_or.result (subst IsMemory c.ram.view_is (IsMemory-unpacked _ _ c.ram.invariant)) c.self.invariant.0 c.self.invariant.1 some
    c.size.ensures c.in_ok-granules.ensures (c.ok_or.ensures.value ∙ ap (λ o. ok_or o (whole_fault Size)) c.new.ensures))
