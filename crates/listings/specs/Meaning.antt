-- The meaning of a listing: the image that its lines make one after another, or the first fault.
use Rattle.std.specs.Prelude.{ℕ, ◌+◌, ◌*◌, ◌==◌, nat_lt, if◌then◌else◌, List, [], ◌∷◌, length}
use Rattle.std.specs.Prelude.{Result, Ok, Err}
use Rattle.std.specs.List.{list_all}
use Rattle.cheri_model.specs.declared.memory.TheConstants.{GRANULE_BYTES}
use Rattle.cap_model.specs.values.CapValue.{CapValue}
use Rattle.cheri_model.specs.steps.Memory.{ram_base}
use Rattle.cheri_model.specs.runs.Image.{ImageParts}
use Rattle.cheri_model.specs.runs.ImageRules.{is_listed}
use Rattle.listings.specs.declared.reader.TheConstants.{LISTING_LIMIT}
use Rattle.listings.specs.declared.fault.ListingFault.{ListingFault}
use Rattle.grammar.specs.declared.fault.ListingFaultKind.{ListingFaultKind}
use Rattle.grammar.specs.declared.fault.ListingFaultKind.TheVariants.{NotAscii, NoHart, Size}
use Rattle.grammar.specs.Faults.{◌>>=◌}
use Rattle.grammar.specs.Lines.{lines_of, is_plain}
use Rattle.grammar.specs.Tokens.{tokens_of}
use Rattle.grammar.specs.Labels.{LabelParts, labels_of}
use Rattle.listings.specs.Statement.{tokens_meaning}
use Rattle.listings.specs.Draft.{DraftParts, empty_draft}

-- a fault of the whole listing, which has no line
abbrev pub whole_fault : ListingFaultKind → ListingFault
whole_fault kind = record { line = 0; kind = kind }

-- What a line of this number makes of what the lines before it made. Its comment says nothing, but
-- may have no byte outside ASCII either.
unfoldable pub line_meaning : LabelParts → ℕ → DraftParts → List ℕ
    → Result DraftParts ListingFaultKind
line_meaning labels number draft line =
    if list_all is_plain line then tokens_meaning labels number draft (tokens_of line)
    else Err NotAscii

-- a line's result, or its kind of fault at its number
abbrev pub at_line : {X : Type 0} → ℕ → Result X ListingFaultKind → Result X ListingFault
at_line number (Ok x) = Ok x
at_line number (Err kind) = Err (record { line = number; kind = kind })

-- what lines make one after another, the first of this number, up to the first fault
unfoldable pub lines_meaning : LabelParts → ℕ → DraftParts → List (List ℕ)
    → Result DraftParts ListingFault
lines_meaning labels number draft [] = Ok draft
lines_meaning labels number draft (line ∷ lines) = do
  next ← at_line number (line_meaning labels number draft line)
  lines_meaning labels (number + 1) next lines

-- the granules that are tagged or not all 0, the first of them at this address
unfoldable pub listed_from : ℕ → List CapValue → List (ℕ × CapValue)
listed_from addr [] = []
listed_from addr (v ∷ memory) =
    if is_listed v then (addr, v) ∷ listed_from (addr + GRANULE_BYTES) memory
    else listed_from (addr + GRANULE_BYTES) memory

-- the image of all lines
unfoldable pub finished : DraftParts → Result ImageParts ListingFault
finished draft =
    if length draft.harts == 0 then Err (whole_fault NoHart)
    else if length draft.program == 0 then Err (whole_fault Size)
    else
    Ok (record {
      program = draft.program;
      ram = GRANULE_BYTES * length draft.memory;
      granules = listed_from ram_base draft.memory;
      harts = draft.harts;
    })

-- the most bytes of a listing
abbrev pub listing_limit : ℕ
listing_limit = LISTING_LIMIT

-- The meaning of a text as a listing.
unfoldable pub listing_meaning : List ℕ → Result ImageParts ListingFault
listing_meaning text =
    if nat_lt listing_limit (length text) then Err (whole_fault Size)
    else (do
      draft ← lines_meaning (labels_of text) 1 empty_draft (lines_of text)
      finished draft)
