-- What is told of the faulty lines of a listing.
use Rattle.std.specs.Prelude.{ℕ, List, None}
use Rattle.std.specs.List.{flat_map}
use Rattle.report_lines.specs.Texts.{line}
use Rattle.listings.specs.declared.fault.ListingFault.{ListingFault}
use Rattle.listing_faults.specs.Faults.{faults_of}
use Rattle.cheri_page.specs.declared.fault.Fault.TheVariants.{Listing}
use Rattle.cheri_page.specs.Answers.{Told, IsTold}
use Rattle.cheri_page.specs.Faults.{fault_text}

-- the line of a fault, as a listing's check says it
abbrev pub fault_line : ListingFault → List ℕ
fault_line fault = line (fault_text (Listing fault))

-- the lines of all faults
unfoldable pub faults_text : List ℕ → List ℕ
faults_text listing = flat_map fault_line (faults_of listing)

abbrev pub IsFaultyTold : List ℕ → Told → Type 0
IsFaultyTold listing told =
    IsTold (record { text = faults_text listing; fault = None }) told
