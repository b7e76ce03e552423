-- What readings find, one after another.
use Rattle.std.proofs.Common.{◌≡◌, ◌∙◌, refl, sym, ap, ℕ, ◌≢◌, suc, true, false, true≢false, List, ◌++◌, arith, inl, inr}
use Rattle.std.proofs.lemmas.Bool.Decides.{nat_tests}
use Rattle.std.proofs.lemmas.List.{append_assoc, append-nil}
use Rattle.std.specs.Prelude.{◌⊎◌, ◌==◌, Option, Some, None, Result, Ok, Err}
use Rattle.cheri_model.specs.runs.Image.{ImageParts}
use Rattle.listings.specs.Faults.{no_memory}
use Rattle.listings.specs.Meaning.{listing_meaning}
use Rattle.listings.specs.declared.fault.ListingFault.{ListingFault}
use Rattle.listing_faults.specs.Lines.{text_of, without}
use Rattle.listing_faults.specs.Faults.{faults_from, and_more, is_no_memory, line_fault, told}

-- ---- the fault of a line

pub good : (meaning : Result ImageParts ListingFault) (image : ImageParts) → meaning ≡ Ok image → None ≡ line_fault meaning
good meaning image is = sym (ap line_fault is)

-- a fault that is not of memory is the listing's
refused : (meaning : Result ImageParts ListingFault) (fault : ListingFault) → (fault ≡ no_memory) ⊎ (meaning ≡ Err fault) → is_no_memory fault.kind ≡ false
    → line_fault meaning ≡ line_fault (Err fault)
refused meaning fault (inl none) is = absurd (true≢false (sym (ap (λ (f : ListingFault). is_no_memory f.kind) none) ∙ is))
refused meaning fault (inr means) is = ap line_fault means

is_zero : (line : ℕ) → line ≡ 0 → (line == 0) ≡ true
is_zero line is = grind (arith, nat_tests)

not_zero : (line : ℕ) → line ≢ 0 → (line == 0) ≡ false
not_zero line is = grind (arith, nat_tests)

pub of_whole : (meaning : Result ImageParts ListingFault) (fault : ListingFault) → (fault ≡ no_memory) ⊎ (meaning ≡ Err fault) → is_no_memory fault.kind ≡ false
    → fault.line ≡ 0 → None ≡ line_fault meaning
of_whole meaning fault gives other is = sym (refused meaning fault gives other ∙ rw (is_zero fault.line is) refl)

pub of_line : (meaning : Result ImageParts ListingFault) (fault : ListingFault) → (fault ≡ no_memory) ⊎ (meaning ≡ Err fault) → is_no_memory fault.kind ≡ false
    → fault.line ≢ 0 → Some fault ≡ line_fault meaning
of_line meaning fault gives other is = sym (refused meaning fault gives other ∙ rw (not_zero fault.line is) refl)

-- ---- one reading more

step : (left last : ℕ) (lines : List (List ℕ)) (found : Option ListingFault) → found ≡ line_fault (listing_meaning (text_of lines))
    → faults_from (suc left) last lines ≡ and_more last (λ number. faults_from left number (without last number lines)) found
unfolding faults_from
step left last lines found is =
    ap (and_more last (λ number. faults_from left number (without last number lines))) (sym is)

pub ended : (done all : List ListingFault) (left next last : ℕ) (lines : List (List ℕ)) → left ≡ suc next
    → None ≡ line_fault (listing_meaning (text_of lines)) → done ++ faults_from left last lines ≡ all → done ≡ all
ended done all left next last lines some is so =
    sym (append-nil done)
    ∙ (ap (λ (xs : List ListingFault). done ++ xs) (sym (step next last lines None is))
    ∙ (ap (λ (n : ℕ). done ++ faults_from n last lines) (sym some) ∙ so))

pub one_more : (done more all : List ListingFault) (left next last : ℕ) (lines after : List (List ℕ)) (fault : ListingFault) → left ≡ suc next
    → Some fault ≡ line_fault (listing_meaning (text_of lines)) → more ≡ done ++ told last fault → after ≡ without last fault.line lines
    → done ++ faults_from left last lines ≡ all → more ++ faults_from next fault.line after ≡ all
one_more done more all left next last lines after fault some is added taken so =
    ap (λ (xs : List ListingFault). xs ++ faults_from next fault.line after) added
    ∙ (ap (λ (ls : List (List ℕ)). (done ++ told last fault) ++ faults_from next fault.line ls) taken
    ∙ (append_assoc done (told last fault) (faults_from next fault.line (without last fault.line lines))
    ∙ (ap (λ (xs : List ListingFault). done ++ xs) (sym (step next last lines (Some fault) is))
    ∙ (ap (λ (n : ℕ). done ++ faults_from n last lines) (sym some) ∙ so))))

pub none_left : (done all : List ListingFault) (left last : ℕ) (lines : List (List ℕ)) → left ≡ 0 → done ++ faults_from left last lines ≡ all → done ≡ all
unfolding faults_from
none_left done all left last lines none so =
    sym (append-nil done) ∙ (ap (λ (n : ℕ). done ++ faults_from n last lines) (sym none) ∙ so)

pub ruleset faults = (good, of_whole, of_line)
