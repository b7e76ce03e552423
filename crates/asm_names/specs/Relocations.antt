-- The names of relocation functions, which come after `%`.
use Rattle.std.specs.Prelude.{ℕ, List, [], ◌∷◌, codes, Option}
use Rattle.cheri_model.specs.instructions.Tables.{found_at}
use Rattle.asm_names.specs.declared.relocations.Relocation.{Relocation}
use Rattle.asm_names.specs.declared.relocations.Relocation.TheVariants.{Hi, Lo, PcrelHi, PcrelLo}
use Rattle.asm_names.specs.declared.relocations.Relocation.TheVariants.{CaptabPcrelHi, Outside}

abbrev pub relocation_table : List (List ℕ × Relocation)
relocation_table =
    (codes "hi", Hi) ∷ (codes "lo", Lo) ∷ (codes "pcrel_hi", PcrelHi) ∷
    (codes "pcrel_lo", PcrelLo) ∷ (codes "captab_pcrel_hi", CaptabPcrelHi) ∷
    (codes "got_pcrel_hi", Outside) ∷ (codes "tprel_hi", Outside) ∷ (codes "tprel_lo", Outside) ∷
    (codes "tprel_add", Outside) ∷ (codes "tprel_cincoffset", Outside) ∷
    (codes "tls_ie_pcrel_hi", Outside) ∷ (codes "tls_gd_pcrel_hi", Outside) ∷
    (codes "tls_ie_captab_pcrel_hi", Outside) ∷ (codes "tls_gd_captab_pcrel_hi", Outside) ∷
    (codes "ccall", Outside) ∷ (codes "cheriot_compartment_hi", Outside) ∷
    (codes "cheriot_compartment_lo_i", Outside) ∷ (codes "cheriot_compartment_lo_s", Outside) ∷ []

-- the relocation function of a name
unfoldable pub relocation_of : List ℕ → Option Relocation
relocation_of name = found_at relocation_table name
