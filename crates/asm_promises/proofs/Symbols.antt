-- Symbols' bytes, and the capability table, end before the harts' stacks begin.
use Rattle.std.proofs.Common.{◌≡◌, ℕ, zero, suc, ◌+◌, ◌-◌, ◌%◌, ◌^◌, ◌≤◌, ◌<◌, ◌==◌, nat_le, Bool, true, false, cond, List, [], ◌∷◌, inl, inr, length, slice_get, slice_index_or, Option, Some, None, Ok, Err, All, refl, sym, ap, ◌∙◌, subst, arith}
use Rattle.std.proofs.lemmas.Bool.Decides.{nat_tests}
use Rattle.std.proofs.lemmas.List.Elements.{All-nil, All-cons, All-weaker}
use Rattle.cheri_model.specs.declared.code.TheConstants.{CODE_BASE}
use Rattle.cheri_model.specs.declared.memory.TheConstants.{RAM_BASE}
use Rattle.asm_tokens.specs.declared.fault.AsmFaultKind.{AsmFaultKind}
use Rattle.asm_tokens.specs.Faults.{◌>>=◌}
use Rattle.asm_values.specs.declared.values.Value.{Value}
use Rattle.asm_values.specs.declared.values.Value.TheVariants.{Number, At}
use Rattle.asm_capabilities.specs.Capabilities.{table_length}
use Rattle.asm_layout.specs.declared.chunk.Chunk.{Chunk}
use Rattle.asm_layout.specs.declared.chunk.ChunkKind.{ChunkKind}
use Rattle.asm_layout.specs.declared.chunk.ChunkKind.TheVariants as kinds
use Rattle.asm_layout.specs.Placement.{rank}
use Rattle.asm_layout.specs.Layout.{LayoutParts, layout_of}
use Rattle.asm_symbols.specs.declared.definitions.Meaning.{Meaning}
use Rattle.asm_symbols.specs.declared.definitions.Meaning.TheVariants.{Place, Assigned}
use Rattle.asm_symbols.specs.Definitions.{DefinitionParts}
use Rattle.asm_chunks.specs.Chunks.{no_chunk}
use Rattle.asm_drafts.specs.Names.{or_zero}
use Rattle.asm_places.specs.Places.{PlacesParts, then_some, kind_or_dropped, kind_of, chunk_address, address_in}
use Rattle.asm_places.specs.Capabilities.{place_in, place_or_none, place_of, length_of}
use Rattle.asm_harts.specs.declared.hart.Stack.{Stack}
use Rattle.asm_files.specs.Programs.{ProgramParts}
use Rattle.asm_chains.specs.Scenes.{SceneParts}
use Rattle.asm_chains.specs.Chains.{known_values}
use Rattle.asm_links.specs.Order.{order_of}
use Rattle.asm_links.specs.Sections.{sections_judged}
use Rattle.asm_links.specs.Seen.{seen_of}
use Rattle.asm_links.specs.Sizes.{first_sizes}
use Rattle.asm_late.specs.Lengths.{rest_of, rest_in, rest_by, known_operand, or_rest, said_or_rest, length_said, length_by, length_of as length_said_of, lengths_from}
use Rattle.asm_late.specs.Linked.{LinkedParts, places_by, linked_with, linked_of}
use Rattle.asm_late.specs.Late.{places_of, objects_of}
use Rattle.asm_late.specs.Scene.{scene_of}
use Rattle.asm_starts.specs.Starts.{NoteParts}
use Rattle.asm_tables.specs.Tables.{table_of}
use Rattle.asm_pictures.specs.Asked.{HartsParts}
use Rattle.asm_image.specs.Whole.{AssembledParts, assembly_meaning}
use Rattle.asm_listable.proofs.Starts.{then_ok}
use Rattle.asm_promises.specs.Given.{objects_in}
use Rattle.asm_promises.specs.Stacks.{AreApart, end_behind, IsBehind, AreBehind, DataBeginsAfter, EndsBefore, table_end, OverlapsNone}
use Rattle.asm_promises.proofs.Steps.{steps_of}
use Rattle.asm_promises.proofs.Runs.{few, total_least}
use Rattle.asm_promises.proofs.Late.{got}
use Rattle.asm_promises.proofs.Reading.{Phases, phases_of}
use Rattle.asm_promises.proofs.Sizes.{found, IsInChunk, EndsIn, size_at}
use Rattle.asm_promises.proofs.Made.{IsSized, made_sized}
use Rattle.asm_promises.proofs.Coverage.{all_in_order}
use Rattle.asm_promises.proofs.Counts.{order_count, sections_few, table_few}
use Rattle.asm_promises.proofs.Placed.{IsData, IsLaid, laid}
use Rattle.asm_promises.proofs.Stacks.{stacks_apart}

-- ---- how many bytes a symbol has

rest_by_test : (test : Bool) (rest size : ℕ) → size ≤ rest → cond test rest size ≤ rest
rest_by_test true rest size h = omega arith
rest_by_test false rest size h = h

within_by : (test : Bool) (n rest : ℕ) (fault : AsmFaultKind) → nat_le n rest ≡ test → or_rest rest (cond test (Ok n) (Err fault)) ≤ rest
within_by true n rest fault t = let less : n ≤ rest = grind (arith, nat_tests) in rest_by_test (n == 0) rest n less
within_by false n rest fault t = omega arith

said_most : (rest : ℕ) (o : Option Value) → said_or_rest rest o ≤ rest
said_most rest (Some (Number n)) = within_by (nat_le n rest) n rest _ refl
said_most rest (Some (At location)) = omega arith
said_most rest None = omega arith

got_size : (chunks : List Chunk) (number : ℕ) (chunk : Chunk) → slice_get chunks number ≡ Some chunk → size_at chunks number ≡ chunk.size
got_size [] number chunk e = absurd (cc)
got_size (c ∷ chunks) zero chunk e = let is : c ≡ chunk = cc in ap (λ (k : Chunk). k.size) is
got_size (c ∷ chunks) (suc number) chunk e = got_size chunks number chunk e

kind_most : (kind : ChunkKind) (offset size rest : ℕ) → offset ≤ size → rest_of offset kind size ≡ Some rest → offset + rest ≤ size
kind_most kinds.Code offset size rest h e = absurd (cc)
kind_most kinds.Dropped offset size rest h e = absurd (cc)
kind_most _ offset size rest h e = let is : size - offset ≡ rest = cc in omega arith

rest_most : (chunks : List Chunk) (number offset rest : ℕ) (o : Option Chunk) → slice_get chunks number ≡ o → offset ≤ size_at chunks number → rest_in offset o ≡ Some rest
    → offset + rest ≤ size_at chunks number
rest_most chunks number offset rest (Some chunk) g h e =
    let is = got_size chunks number chunk g in
    let most = kind_most chunk.kind offset chunk.size rest (omega arith) e in
    omega arith
rest_most chunks number offset rest None g h e = absurd (cc)

module _ (program : ProgramParts) (scene : SceneParts) (values : List (Option Value)) where
  said_by : (file rest : ℕ) (size : Option ℕ) → length_said program scene values file rest size ≤ rest
  said_by file rest (Some statement) = said_most rest (known_operand program scene values file statement)
  said_by file rest None = omega arith

  pub by_most : (file offset most : ℕ) (size bytes rest : Option ℕ) → offset + or_zero bytes ≤ most → ((n : ℕ) → rest ≡ Some n → offset + n ≤ most)
      → offset + length_by program scene values file size bytes rest ≤ most
  by_most file offset most size (Some bytes) rest h k = h
  by_most file offset most size None (Some rest) h k = let said = said_by file rest size in let most_of = k rest refl in omega arith
  by_most file offset most size None None h k = h

  pub symbol_most : (size : Option ℕ) (d : DefinitionParts) (chunk offset : ℕ) → d.meaning ≡ Place chunk offset → IsInChunk program.made.chunks d
      → offset + length_said_of program scene values size d ≤ size_at program.made.chunks chunk
  unfolding length_said_of
  symbol_most size d chunk offset m h =
      let ends : offset + or_zero d.bytes ≤ size_at program.made.chunks chunk = subst (λ (k : Meaning). EndsIn program.made.chunks d.bytes k) m h.ends in
      let rest_is : rest_by program.made.chunks d.meaning ≡ rest_in offset (slice_get program.made.chunks chunk) = ap (λ (k : Meaning). rest_by program.made.chunks k) m in
      by_most d.file offset (size_at program.made.chunks chunk) size d.bytes (rest_by program.made.chunks d.meaning) ends
      (λ n e. rest_most program.made.chunks chunk offset n (slice_get program.made.chunks chunk) refl (omega arith) (sym rest_is ∙ e))

  lengths_at : (sizes : List (Option ℕ)) (number : ℕ) (symbols : List DefinitionParts) (symbol : ℕ) (d : DefinitionParts) → slice_get symbols symbol ≡ Some d
      → (size : Option ℕ) × (slice_index_or (lengths_from program scene values sizes number symbols) symbol 0 ≡ length_said_of program scene values size d)
  unfolding lengths_from
  lengths_at sizes number [] symbol d e = absurd (cc)
  lengths_at sizes number (one ∷ symbols) zero d e =
      let is : one ≡ d = cc in
      (slice_index_or sizes number None, ap (λ (k : DefinitionParts). length_said_of program scene values (slice_index_or sizes number None) k) is)
  lengths_at sizes number (one ∷ symbols) (suc symbol) d e = lengths_at sizes (number + 1) symbols symbol d e

-- ---- where it is

record IsPlaceOf (symbols : List DefinitionParts) (symbol : ℕ) (place : ℕ × ℕ) : Type 0 where
  definition : DefinitionParts
  there : slice_get symbols symbol ≡ Some definition
  is : definition.meaning ≡ Place place.0 place.1

meaning_is : (meaning : Meaning) (place : ℕ × ℕ) → place_in meaning ≡ Some place → meaning ≡ Place place.0 place.1
meaning_is (Place chunk offset) place e =
    let is : (chunk, offset) ≡ place = cc in ap (λ (p : ℕ × ℕ). Place p.0 p.1) is
meaning_is (Assigned statement) place e = absurd (cc)

place_is : (symbols : List DefinitionParts) (symbol : ℕ) (place : ℕ × ℕ) (o : Option DefinitionParts) → slice_get symbols symbol ≡ o → place_or_none o ≡ Some place
    → IsPlaceOf symbols symbol place
place_is symbols symbol place (Some d) g e = record { definition = d; there = g; is = meaning_is d.meaning place e }
place_is symbols symbol place None g e = absurd (cc)

pub then_is : (o : Option ℕ) (offset base : ℕ) → then_some o (λ start. Some ((start + offset) % 2 ^ 64)) ≡ Some base
    → (start : ℕ) × (o ≡ Some start) × ((start + offset) % 2 ^ 64 ≡ base)
then_is (Some start) offset base e = (start, refl, cc)
then_is None offset base e = absurd (cc)

kept_test : (dropped : Bool) (o : Option ℕ) (start : ℕ) → cond dropped None o ≡ Some start → dropped ≡ false
kept_test true o start e = absurd (cc)
kept_test false o start e = refl

kept_is : (dropped : Bool) (o : Option ℕ) (start : ℕ) → cond dropped None o ≡ Some start → o ≡ Some start
kept_is true o start e = absurd (cc)
kept_is false o start e = e

pub kind_same : (chunks : List Chunk) (number : ℕ) → kind_or_dropped (slice_get chunks number) ≡ (slice_index_or chunks number no_chunk).kind
kind_same [] number = refl
kind_same (chunk ∷ chunks) zero = refl
kind_same (chunk ∷ chunks) (suc number) = kind_same chunks number

is_data : (kind : ChunkKind) → (rank kind == rank kinds.Code) ≡ false → (rank kind == rank kinds.Dropped) ≡ false → IsData kind
is_data kinds.Code c d = absurd (cc)
is_data kinds.Dropped c d = absurd (cc)
is_data kind c d = tt

-- a chunk that has an address is one of those that there are, and not dropped
record IsKept (places : PlacesParts) (chunk : ℕ) : Type 0 where
  less : chunk < length places.addresses
  kept : (rank (kind_of places chunk) == rank kinds.Dropped) ≡ false

chunk_kept : (places : PlacesParts) (chunk offset base : ℕ) → address_in places chunk offset ≡ Some base → IsKept places chunk
unfolding address_in chunk_address
chunk_kept places chunk offset base e =
    let x = then_is (cond (rank (kind_of places chunk) == rank kinds.Dropped) None (slice_get places.addresses chunk)) offset base e in
    record {
      less = (found places.addresses chunk x.0 0 (kept_is (rank (kind_of places chunk) == rank kinds.Dropped) (slice_get places.addresses chunk) x.0 x.1)).0;
      kept = kept_test (rank (kind_of places chunk) == rank kinds.Dropped) (slice_get places.addresses chunk) x.0 x.1;
    }

pub address_is : (places : PlacesParts) (chunk offset base : ℕ) → address_in places chunk offset ≡ Some base → (slice_index_or places.addresses chunk 0 + offset) % 2 ^ 64 ≡ base
unfolding address_in chunk_address
address_is places chunk offset base e =
    let x = then_is (cond (rank (kind_of places chunk) == rank kinds.Dropped) None (slice_get places.addresses chunk)) offset base e in
    let start_is : slice_index_or places.addresses chunk 0 ≡ x.0 = (found places.addresses chunk x.0 0 (kept_is (rank (kind_of places chunk) == rank kinds.Dropped) (slice_get places.addresses chunk) x.0 x.1)).1 in
    ap (λ (n : ℕ). (n + offset) % 2 ^ 64) start_is ∙ x.2

fits : (start offset length size end base : ℕ) → start + size ≤ end → end < 2 ^ 64 → offset + length ≤ size → (start + offset) % 2 ^ 64 ≡ base → base + length ≤ end
fits start offset length size end base h low within is = omega arith

starts : (start offset size end base from : ℕ) → start + size ≤ end → end < 2 ^ 64 → offset ≤ size → (start + offset) % 2 ^ 64 ≡ base → from ≤ start → from ≤ base
starts start offset size end base from h low within is behind = omega arith

-- where the bytes of a symbol are
record LiesIn (chunks : List Chunk) (layout : LayoutParts) (chunk base length : ℕ) : Type 0 where
  low : CODE_BASE ≤ slice_index_or layout.addresses chunk 0
  begins : slice_index_or layout.addresses chunk 0 ≤ base
  ends : base + length ≤ slice_index_or layout.addresses chunk 0 + size_at chunks chunk

lies : (start offset length size end base : ℕ) → start + size ≤ end → end < 2 ^ 64 → offset + length ≤ size → (start + offset) % 2 ^ 64 ≡ base → (start ≤ base) × (base + length ≤ start + size)
lies start offset length size end base h low within is = (omega arith, omega arith)

-- ---- all of them

-- symbols of data begin behind the capability table; the bytes of each symbol end before memory that is taken does, and so does the table
record LieInMemory (program : ProgramParts) (l : LinkedParts) : Type 0 where
  apart : AreApart (objects_of (record { program = program; linked = l }))
  begins : DataBeginsAfter (objects_of (record { program = program; linked = l })) (RAM_BASE + table_length (length l.table.symbols))
  symbols : EndsBefore (objects_of (record { program = program; linked = l })) l.layout.memory_end
  table : RAM_BASE + table_length (length l.table.symbols) ≤ l.layout.memory_end

by_code : {A : Type 0} (test : Bool) → (test ≡ true → A) → (test ≡ false → A) → A
by_code true code other = code refl
by_code false code other = other refl

module _ (texts : List (List ℕ)) (program : ProgramParts) (few_files : length texts ≤ 16) (phases : Phases texts program) (exits : Bool) (seen : List ℕ → Option ℕ) where
  sized : IsSized (length program.files) program.made
  sized = made_sized _ program.files program.made phases.files phases.made

  pub laid_out : (linked_with program exits seen).instructions ≤ 16384
      → IsLaid program.made.chunks (order_of program) (length (table_of program seen).symbols) (layout_of program.made.chunks (order_of program) (length (table_of program seen).symbols))
  unfolding linked_with
  laid_out small =
      let count = phases.count in
      let rows = sized.rows in
      let chunks = sized.few in
      let order = order_count program (omega arith) in
      let sections = sections_few program.files phases.files in
      let sections_is = phases.sections in
      let table = table_few program seen phases.files in
      laid program.made.chunks (order_of program) (length (table_of program seen).symbols) sized.small (omega arith) (omega arith) small

  -- a symbol's bytes are in its chunk, which is placed
  lies_with : (small : (linked_with program exits seen).instructions ≤ 16384) (symbol base : ℕ) (place : ℕ × ℕ)
      → place_of (objects_of (record { program = program; linked = linked_with program exits seen })) symbol ≡ Some place
      → address_in (objects_of (record { program = program; linked = linked_with program exits seen })).places place.0 place.1 ≡ Some base
      → LiesIn program.made.chunks (linked_with program exits seen).layout place.0 base (length_of (objects_of (record { program = program; linked = linked_with program exits seen })) symbol)
  unfolding linked_with objects_of places_of place_of kind_of
  lies_with small symbol base place placed begins =
      let l = laid_out small in
      let layout : LayoutParts = layout_of program.made.chunks (order_of program) (length (table_of program seen).symbols) in
      let scene : SceneParts = scene_of program seen (places_by program layout) in
      let places : PlacesParts = places_by program layout in
      let p = place_is program.made.symbols symbol place (slice_get program.made.symbols symbol) refl placed in
      let d = p.definition in
      let inside : IsInChunk program.made.chunks d = got (IsInChunk program.made.chunks) program.made.symbols symbol d sized.inside p.there in
      let length_is = lengths_at program scene (known_values scene) (first_sizes program) 0 program.made.symbols symbol d p.there in
      let most = symbol_most program scene (known_values scene) length_is.0 d place.0 place.1 p.is inside in
      let is = length_is.1 in
      let kept = chunk_kept places place.0 place.1 base begins in
      let less : place.0 < length program.made.chunks = (let few_chunks = kept.less in let count = l.count in omega arith) in
      let same = kind_same program.made.chunks place.0 in
      let member = all_in_order texts program place.0 phases less in
      let address = address_is places place.0 place.1 base begins in
      let ends = l.ends place.0 in
      let low = l.low in
      let bytes : ℕ = slice_index_or (lengths_from program scene (known_values scene) (first_sizes program) 0 program.made.symbols) symbol 0 in
      let at = lies (slice_index_or layout.addresses place.0 0) place.1 bytes (size_at program.made.chunks place.0) layout.memory_end base ends low (omega arith) address in
      let begins_at = at.0 in
      let ends_at = at.1 in
      let placed_at : CODE_BASE ≤ slice_index_or layout.addresses place.0 0 =
      by_code (rank (kind_or_dropped (slice_get program.made.chunks place.0)) == rank kinds.Code)
      (λ code. l.code place.0 member less (sym (ap (λ (k : ChunkKind). rank k == rank kinds.Code) same) ∙ code))
      (λ other. (let start = l.starts place.0 member less (subst IsData same (is_data (kind_or_dropped (slice_get program.made.chunks place.0)) other kept.kept)) in omega arith)) in
      record { low = placed_at; begins = begins_at; ends = omega arith }

  ends_with : (linked_with program exits seen).instructions ≤ 16384 → LieInMemory program (linked_with program exits seen)
  unfolding linked_with objects_of places_of place_of kind_of
  ends_with small =
      let l = laid_out small in
      let layout : LayoutParts = layout_of program.made.chunks (order_of program) (length (table_of program seen).symbols) in
      let scene : SceneParts = scene_of program seen (places_by program layout) in
      let places : PlacesParts = places_by program layout in
      record {
        apart = λ one other base later place there placed_one placed_other differ begins_one begins_other.
            (let first = lies_with small one base place placed_one begins_one in
            let second = lies_with small other later there placed_other begins_other in
            let from_one = first.begins in
            let to_one = first.ends in
            let from_other = second.begins in
            let to_other = second.ends in
            elim (l.apart place.0 there.0 differ first.low second.low) [
              | inl before ↦ inl (omega arith)
              | inr after ↦ inr (omega arith)
            ]);
        begins = λ symbol base place placed code begins.
            (let p = place_is program.made.symbols symbol place (slice_get program.made.symbols symbol) refl placed in
            let d = p.definition in
            let inside : IsInChunk program.made.chunks d = got (IsInChunk program.made.chunks) program.made.symbols symbol d sized.inside p.there in
            let most = symbol_most program scene (known_values scene) None d place.0 place.1 p.is inside in
            let kept = chunk_kept places place.0 place.1 base begins in
            let less : place.0 < length program.made.chunks = (let few_chunks = kept.less in let count = l.count in omega arith) in
            let same = kind_same program.made.chunks place.0 in
            let data_is : IsData (kind_or_dropped (slice_get program.made.chunks place.0)) = is_data (kind_or_dropped (slice_get program.made.chunks place.0)) code kept.kept in
            let start = l.starts place.0 (all_in_order texts program place.0 phases less) less (subst IsData same data_is) in
            let address = address_is places place.0 place.1 base begins in
            let ends = l.ends place.0 in
            let low = l.low in
            starts (slice_index_or layout.addresses place.0 0) place.1 (size_at program.made.chunks place.0) layout.memory_end base _ ends low (omega arith) address start);
        symbols = λ symbol base begins.
            (let place = begins.0 in
            let p = place_is program.made.symbols symbol place (slice_get program.made.symbols symbol) refl begins.1 in
            let d = p.definition in
            let inside : IsInChunk program.made.chunks d = got (IsInChunk program.made.chunks) program.made.symbols symbol d sized.inside p.there in
            let length_is = lengths_at program scene (known_values scene) (first_sizes program) 0 program.made.symbols symbol d p.there in
            let most = symbol_most program scene (known_values scene) length_is.0 d place.0 place.1 p.is inside in
            let address = address_is (places_by program layout) place.0 place.1 base begins.2 in
            let ends = l.ends place.0 in
            let is = length_is.1 in
            fits (slice_index_or layout.addresses place.0 0) place.1 _ (size_at program.made.chunks place.0) layout.memory_end base ends l.low (omega arith) address);
        table = l.begins;
      }

ends_by : (texts : List (List ℕ)) (program : ProgramParts) (exits : Bool) (linked : LinkedParts) → length texts ≤ 16 → Phases texts program → linked_of program exits ≡ Ok linked
    → linked.instructions ≤ 16384 → LieInMemory program linked
unfolding linked_of
ends_by texts program exits linked few_files phases e =
    let x = then_ok (seen_of program) (λ seen. sections_judged program >>= λ u. Ok (linked_with program exits seen)) linked e in
    let y = then_ok (sections_judged program) (λ u. Ok (linked_with program exits x.0)) linked x.2 in
    let is : linked_with program exits x.0 ≡ linked = (let k = y.2 in cc) in
    subst (λ (l : LinkedParts). l.instructions ≤ 16384 → LieInMemory program l) is (λ small. ends_with texts program few_files phases exits x.0 small)

end_all : (texts : List (List ℕ)) (harts : HartsParts) (a : AssembledParts) → length texts ≤ 16 → assembly_meaning texts harts ≡ Ok a → LieInMemory a.program a.linked
end_all texts harts a few_files e =
    let s = steps_of texts harts a e in
    let most : _ ≤ 16384 = few a.linked.instructions a.exit a.linked.layout.memory_end s.judged in
    let least = total_least a.linked.instructions a.exit in
    ends_by texts a.program a.exit a.linked few_files (phases_of texts a.program s.read) s.linked (omega arith)

-- ---- stacks

grows_behind : (end : ℕ) (o : Option Stack) → IsBehind end o → end ≤ end_behind end o
grows_behind end (Some stack) h = omega arith
grows_behind end None h = omega arith

earlier : (first end : ℕ) (o : Option Stack) → first ≤ end → IsBehind end o → IsBehind first o
earlier first end (Some stack) h k = omega arith
earlier first end None h k = tt

all_behind : (first end : ℕ) (notes : List NoteParts) → first ≤ end → AreBehind end notes → All (λ (note : NoteParts). IsBehind first note.stack) notes
all_behind first end [] h k = All-nil (λ (note : NoteParts). IsBehind first note.stack)
all_behind first end (note ∷ notes) h k =
    let more = grows_behind end note.stack k.0 in
    All-cons (λ (n : NoteParts). IsBehind first n.stack) note notes (earlier first end note.stack h k.0) (all_behind first (end_behind end note.stack) notes (omega arith) k.1)

overlaps_none : (a : AssembledParts) → LieInMemory a.program a.linked → (o : Option Stack) → IsBehind a.linked.layout.memory_end o → OverlapsNone a o
overlaps_none a h (Some stack) behind =
    (λ symbol base begins. (let ends = h.symbols symbol base begins in omega arith), (let ends = h.table in omega arith))
overlaps_none a h None behind = tt

pub stacks_overlap_none : (texts : List (List ℕ)) (harts : HartsParts) (a : AssembledParts) → length texts ≤ 16 → assembly_meaning texts harts ≡ Ok a
    → All (λ (note : NoteParts). OverlapsNone a note.stack) a.harts
stacks_overlap_none texts harts a few_files e =
    let h = end_all texts harts a few_files e in
    let behind = all_behind a.linked.layout.memory_end a.linked.layout.memory_end a.harts (omega arith) (stacks_apart texts harts a e) in
    All-weaker (λ (note : NoteParts). IsBehind a.linked.layout.memory_end note.stack) (λ (note : NoteParts). OverlapsNone a note.stack) (λ note k. overlaps_none a h note.stack k) a.harts behind

pub symbols_begin : (texts : List (List ℕ)) (harts : HartsParts) (a : AssembledParts) → length texts ≤ 16 → assembly_meaning texts harts ≡ Ok a
    → DataBeginsAfter (objects_in a) (table_end a)
symbols_begin texts harts a few_files e = (end_all texts harts a few_files e).begins

pub symbols_apart : (texts : List (List ℕ)) (harts : HartsParts) (a : AssembledParts) → length texts ≤ 16 → assembly_meaning texts harts ≡ Ok a → AreApart (objects_in a)
symbols_apart texts harts a few_files e = (end_all texts harts a few_files e).apart

pub symbols_end : (texts : List (List ℕ)) (harts : HartsParts) (a : AssembledParts) → length texts ≤ 16 → assembly_meaning texts harts ≡ Ok a
    → EndsBefore (objects_in a) a.linked.layout.memory_end
symbols_end texts harts a few_files e = (end_all texts harts a few_files e).symbols

pub table_ends : (texts : List (List ℕ)) (harts : HartsParts) (a : AssembledParts) → length texts ≤ 16 → assembly_meaning texts harts ≡ Ok a
    → RAM_BASE + table_length (length a.linked.table.symbols) ≤ a.linked.layout.memory_end
table_ends texts harts a few_files e = (end_all texts harts a few_files e).table
