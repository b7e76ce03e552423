-- What was read of files, and why they were refused.
use Rattle.std.specs.Prelude.{◌≡◌, ℕ, List, Option, None, Result, Ok, Err, ⊤, ◌⊎◌}
use Rattle.cheri_model.specs.runs.Image.{ImageParts}
use Rattle.listings.specs.declared.fault.ListingFault.{ListingFault}
use Rattle.listings.specs.Meaning.{listing_meaning}
use Rattle.inputs.specs.Faults.{listing_fault}
use Rattle.inputs.specs.Files.{AreBytesOf}
use Rattle.inputs.specs.declared.fault.InputFault.{InputFault}
use Rattle.inputs.specs.declared.fault.InputFault.TheVariants.{NoMemory, CannotReadListing}
use Rattle.inputs.specs.declared.fault.InputFault.TheVariants.{CannotReadOrder, Listing}

-- the image that a listing's bytes mean, or their fault
abbrev pub image_of_meaning : Result ImageParts ListingFault → Result ImageParts InputFault
image_of_meaning (Ok image) = Ok image
image_of_meaning (Err fault) = Err (listing_fault fault)

abbrev pub image_meant : List ℕ → Result ImageParts InputFault
image_meant bytes = image_of_meaning (listing_meaning bytes)

-- the bytes of a file, where they are known, mean this image
abbrev pub MeansImage : Option (List ℕ) → ImageParts → Type 0
MeansImage file image =
    (bytes : List ℕ) × AreBytesOf file bytes × (image_meant bytes ≡ Ok image)

-- Each fault of a file whose bytes are these, where they are known: when it holds. Memory may run
-- out at any time.
abbrev pub IsListingUnread : Option (List ℕ) → InputFault → Type 0
IsListingUnread file NoMemory = ⊤
IsListingUnread file CannotReadListing = file ≡ None
IsListingUnread file _ = ⊥

abbrev pub IsOrderUnread : Option (List ℕ) → InputFault → Type 0
IsOrderUnread file NoMemory = ⊤
IsOrderUnread file CannotReadOrder = file ≡ None
IsOrderUnread file _ = ⊥

-- of a listing and an order, which is read after a listing that can be read
abbrev pub AreTextsUnread : Option (List ℕ) → Option (List ℕ) → InputFault → Type 0
AreTextsUnread listing order NoMemory = ⊤
AreTextsUnread listing order CannotReadListing = listing ≡ None
AreTextsUnread listing order CannotReadOrder =
    ((bytes : List ℕ) × AreBytesOf listing bytes) × (order ≡ None)
AreTextsUnread listing order _ = ⊥

-- of a listing that is judged
abbrev pub IsImageRefused : Option (List ℕ) → InputFault → Type 0
IsImageRefused file NoMemory = ⊤
IsImageRefused file CannotReadListing = file ≡ None
IsImageRefused file (Listing fault) =
    (bytes : List ℕ) × AreBytesOf file bytes × (image_meant bytes ≡ Err (Listing fault))
IsImageRefused file _ = ⊥

-- What is answered of a file: that it cannot be read, where it is not known what it holds; or what
-- is so of its bytes.
abbrev pub OfFile : {A : Type 0} → Option (List ℕ) → A → (List ℕ → Type 0) → A → Type 0
OfFile file unread IsSo answer =
    ((file ≡ None) × (answer ≡ unread)) ⊎ ((bytes : List ℕ) × AreBytesOf file bytes × IsSo bytes)

-- of a listing and an order
abbrev pub OfTexts : {A : Type 0} → Option (List ℕ) → Option (List ℕ) → (InputFault → A)
    → (List ℕ → List ℕ → Type 0) → A → Type 0
OfTexts listing order refused IsSo answer =
    OfFile listing (refused CannotReadListing)
    (λ first. OfFile order (refused CannotReadOrder) (λ second. IsSo first second) answer) answer

-- of the image that a listing means
abbrev pub OfMeant : {A : Type 0} → Result ImageParts InputFault → (InputFault → A)
    → (ImageParts → Type 0) → A → Type 0
OfMeant (Ok image) refused IsSo answer = IsSo image
OfMeant (Err fault) refused IsSo answer = answer ≡ refused fault

abbrev pub OfImage : {A : Type 0} → Option (List ℕ) → (InputFault → A) → (ImageParts → Type 0)
    → A → Type 0
OfImage file refused IsSo answer =
    OfFile file (refused CannotReadListing)
    (λ bytes. OfMeant (image_meant bytes) refused IsSo answer) answer
