-- How an opening ended, by what its listing means.
use Rattle.std.proofs.Common.{◌≡◌, ◌∙◌, refl, sym, ap, Bool, true, false, ℕ, ◌≤◌, List, length, Result, OnOk, inl, inr}
use Rattle.std.specs.Prelude.{◌↔◌, ◌⊎◌, if◌then◌else◌, Some, None, Ok, Err}
use Rattle.cheri_model.specs.runs.Image.{ImageParts}
use Rattle.listings.specs.declared.fault.ListingFault.{ListingFault}
use Rattle.listings.specs.Faults.{Gives}
use Rattle.listings.specs.Meaning.{listing_limit, listing_meaning}
use Rattle.simulation.proofs.SimulationLemmas.{listing_fits}
use Rattle.cores.specs.Cores.{CoreParts, is_limit, opening_core}
use Rattle.cores.specs.declared.faults.BootFault.{BootFault}
use Rattle.cores.specs.declared.faults.BootFault.TheVariants as boot
use Rattle.cheri_machine.specs.declared.fault.OpenFault.{OpenFault}
use Rattle.cheri_machine.specs.declared.fault.OpenFault.TheVariants.{Limit, NoMemory}
use Rattle.cheri_machine.specs.Openings.{listing_fault, boot_fault, opening_of, opened_by, opened_by_fault, core_given, IsOpening}

-- a listing that was refused
pub refused_by_listing : (refused : ListingFault) (meaning : Result ImageParts ListingFault) (limit : ℕ) →
    Gives (Err refused) meaning →
    (listing_fault refused ≡ NoMemory) ⊎ (opening_of meaning limit ≡ Err (listing_fault refused))
refused_by_listing refused meaning limit (inl none) = inl (ap listing_fault none)
refused_by_listing refused meaning limit (inr is) = inr (ap (λ (m : Result ImageParts ListingFault). opening_of m limit) is)

-- whether a core is opened depends on the limit alone
abbrev chosen : Bool → CoreParts → Result CoreParts OpenFault
chosen good core = if good then Ok core else Err Limit

-- a machine that was not booted
pub refused_by_boot : (fault : BootFault) (image : ImageParts) (meaning : Result ImageParts ListingFault) (limit : ℕ) →
    meaning ≡ Ok image → (◌≡◌ {A = Result CoreParts BootFault} (Err fault) (Err boot.Limit)) ↔ (is_limit limit ≡ false) →
    (boot_fault fault ≡ NoMemory) ⊎ (opening_of meaning limit ≡ Err (boot_fault fault))
refused_by_boot boot.Limit image meaning limit is clause =
    inr (ap (λ (m : Result ImageParts ListingFault). opening_of m limit) is
    ∙ ap (λ (good : Bool). chosen good (opening_core image limit)) (clause.0 refl))
refused_by_boot boot.NoMemory image meaning limit is clause = inl refl

picked : (good : Bool) (core : CoreParts) → (◌≡◌ {A = Result CoreParts BootFault} (Ok core) (Err boot.Limit)) ↔ (good ≡ false) →
    chosen good core ≡ Ok core
picked true core clause = refl
picked false core clause = none (clause.1 refl)
  where
    none : ◌≡◌ {A = Result CoreParts BootFault} (Ok core) (Err boot.Limit) → chosen false core ≡ Ok core
    none is = absurd cc

-- one that was
pub booted_core : (core : CoreParts) (image : ImageParts) (meaning : Result ImageParts ListingFault) (limit : ℕ) →
    meaning ≡ Ok image → core ≡ opening_core image limit →
    (◌≡◌ {A = Result CoreParts BootFault} (Ok core) (Err boot.Limit)) ↔ (is_limit limit ≡ false) →
    opening_of meaning limit ≡ Ok core
booted_core core image meaning limit is opened clause =
    ap (λ (m : Result ImageParts ListingFault). opening_of m limit) is
    ∙ (ap (chosen (is_limit limit)) (sym opened) ∙ picked (is_limit limit) core clause)

-- what an opening answers and leaves
pub opening_done : (meant : Result CoreParts OpenFault) (core : CoreParts) → meant ≡ Ok core →
    IsOpening meant (opened_by (Ok core)) (Some core)
opening_done meant core is = inr (ap opened_by (sym is), ap core_given (sym is))

pub opening_refused : (meant : Result CoreParts OpenFault) (fault : OpenFault) → (fault ≡ NoMemory) ⊎ (meant ≡ Err fault) →
    IsOpening meant (opened_by_fault fault) None
opening_refused meant fault (inl none) = inl (ap opened_by_fault none, refl)
opening_refused meant fault (inr is) = inr (ap opened_by (sym is), ap core_given (sym is))

-- a listing that was read is not too long
pub read_fits : (text : List ℕ) (read : Result ImageParts ListingFault) → Gives read (listing_meaning text) →
    OnOk read (length text ≤ listing_limit)
read_fits text (Ok image) means = listing_fits text image means
read_fits text (Err fault) means = tt

pub ruleset openings = (opening_done, opening_refused, booted_core, refused_by_boot, refused_by_listing, read_fits)
