-- The canonical listing of a listable image means that image.
use Rattle.std.proofs.Common.{◌≡◌, ℕ, ◌+◌, ◌*◌, ◌/◌, ◌^◌, ◌<◌, ◌≤◌, ◌==◌, nat_lt, nat_le, Bool, true, false, List, [], ◌∷◌, ◌++◌, length, Ok, refl, sym, ap, ◌∙◌, subst, append_assoc, arith}
use Rattle.std.specs.Prelude.{codes, decimal, replicate}
use Rattle.std.proofs.lemmas.Bool.Decides.{nat_tests}
use Rattle.std.proofs.lemmas.List.{append-nil}
use Rattle.cap_model.specs.values.CapValue.{raw}
use Rattle.cheri_model.specs.steps.Memory.{ram_base, cleared_memory, is_ram_size}
use Rattle.cheri_model.specs.runs.Image.{ImageParts}
use Rattle.grammar.specs.Tokens.{is_blank, tokens_of}
use Rattle.grammar.specs.Lines.{lines_of}
use Rattle.grammar.specs.Labels.{LabelParts, labels_of, instruction_lines}
use Rattle.listings.specs.Statement.{tokens_meaning}
use Rattle.listings.specs.Draft.{DraftParts, empty_draft, no_registers}
use Rattle.listings.specs.Meaning.{line_meaning, lines_meaning, listed_from, finished, listing_limit, listing_meaning}
use Rattle.canonical.specs.Canon.{each, granule_line, hart_lines, program_line, canon}
use Rattle.canonical.specs.Listable.{IsListable}
use Rattle.grammar.proofs.PermissionTexts.{first, second}
use Rattle.canonical.proofs.round_trip.Words.{is_open, is_word_byte, IsWord}
use Rattle.canonical.proofs.round_trip.Lines.{last_word, then_space}
use Rattle.canonical.proofs.round_trip.Numbers.{decimal_word}
use Rattle.canonical.proofs.round_trip.Reading.{Reads, reads_both, reads_line}
use Rattle.canonical.proofs.round_trip.Statements.{ram_means}
use Rattle.canonical.proofs.round_trip.Memories.{sized_draft, granules_read}
use Rattle.canonical.proofs.round_trip.Registers.{hart_draft}
use Rattle.canonical.proofs.round_trip.Programs.{harts_read, program_draft, program_read}

ram_name : IsWord (codes ".ram")
unfolding is_word_byte is_open is_blank
ram_name = record { filled = refl; bytes = refl }

ram_limit : (ram : ℕ) → is_ram_size ram ≡ true → ram ≤ 1048576
ram_limit ram e = let most : nat_le ram 1048576 ≡ true = second (nat_le 16 ram) _ (first _ _ e) in grind (arith, nat_tests)

-- an empty line changes nothing
last_line : (labels : LabelParts) (number : ℕ) (draft : DraftParts) → lines_meaning labels number draft (lines_of []) ≡ Ok draft
unfolding lines_meaning line_meaning tokens_meaning tokens_of
last_line labels number draft = refl

module _ (image : ImageParts) (h : IsListable image) where
  abbrev enough : ℕ
  enough = length image.program

  small : enough < 2 ^ 128
  small = let most = h.most_instructions in omega arith

  ram_low : image.ram ≤ 1048576
  ram_low = ram_limit image.ram h.size

  count_of_granules : image.ram / 16 ≡ length h.memory
  count_of_granules = let e = h.whole in omega arith

  cleared : cleared_memory image.ram ≡ replicate (length h.memory) (raw 0)
  cleared = ap (λ n. replicate n (raw 0)) count_of_granules

  ram_reads : Reads enough ((codes ".ram " ++ decimal image.ram) ++ 0x0A ∷ []) empty_draft (sized_draft (replicate (length h.memory) (raw 0))) 0
  ram_reads =
      reads_line enough (codes ".ram" ++ 0x20 ∷ decimal image.ram) (codes ".ram" ∷ decimal image.ram ∷ []) empty_draft (sized_draft (replicate (length h.memory) (raw 0))) 0
      (then_space (codes ".ram") _ _ ram_name (last_word (decimal image.ram) (decimal_word image.ram (omega (arith, ram_low))))) (omega arith)
      (λ labels k number. ram_means labels number empty_draft image.ram (omega (arith, ram_low)) h.size refl ∙ ap (λ memory. Ok (sized_draft memory)) cleared)

  granules : Reads enough (each granule_line image.granules) (sized_draft (replicate (length h.memory) (raw 0))) (sized_draft h.memory) 0
  granules =
      let room : ram_base + 16 * (0 + length h.memory) ≤ 2 ^ 64 = (let e = h.whole in omega (arith, ram_low)) in
      let listed : each granule_line (listed_from ram_base h.memory) ≡ each granule_line image.granules = ap (each granule_line) (sym h.listed) in
      subst (λ text. Reads enough text (sized_draft (replicate (length h.memory) (raw 0))) (sized_draft h.memory) 0) listed (granules_read enough h.memory [] h.values room)

  harts : (set : List Bool) × Reads enough (each hart_lines image.harts) (sized_draft h.memory) (hart_draft h.memory image.harts set) 0
  harts = harts_read enough h.memory image.harts [] no_registers h.writable_harts (let most = h.most_harts in omega arith)

  program : (set : List Bool) → Reads enough (each program_line image.program) (hart_draft h.memory image.harts set) (program_draft h.memory image.harts set image.program) enough
  program set = program_read enough small h.memory image.harts set image.program [] h.readable (let most = h.most_instructions in omega arith)

  all_lines : (set : List Bool) × Reads enough (canon image) empty_draft (program_draft h.memory image.harts set image.program) (0 + (0 + (0 + enough)))
  unfolding canon
  all_lines =
      let set = harts.0 in
      let rest = reads_both enough (each granule_line image.granules) (each hart_lines image.harts ++ each program_line image.program) _ _ _ 0 (0 + enough) granules
      (reads_both enough (each hart_lines image.harts) (each program_line image.program) _ _ _ 0 enough harts.1 (program set)) in
      let whole = reads_both enough ((codes ".ram " ++ decimal image.ram) ++ 0x0A ∷ []) (each granule_line image.granules ++ (each hart_lines image.harts ++ each program_line image.program)) _ _ _ 0 (0 + (0 + enough)) ram_reads rest in (
        set,
        subst (λ text. Reads enough text empty_draft (program_draft h.memory image.harts set image.program) (0 + (0 + (0 + enough))))
            (append_assoc (codes ".ram " ++ decimal image.ram) (0x0A ∷ []) (each granule_line image.granules ++ (each hart_lines image.harts ++ each program_line image.program))) whole,
      )

  enough_lines : enough ≤ (labels_of (canon image)).instructions
  unfolding labels_of
  enough_lines =
      let counted : (0 + (0 + (0 + enough))) + instruction_lines (lines_of []) ≤ instruction_lines (lines_of (canon image ++ [])) = all_lines.1.counts [] in
      let whole : canon image ++ [] ≡ canon image = append-nil (canon image) in
      let counted_here : (0 + (0 + (0 + enough))) + instruction_lines (lines_of []) ≤ instruction_lines (lines_of (canon image)) = subst (λ text. (0 + (0 + (0 + enough))) + instruction_lines (lines_of []) ≤ instruction_lines (lines_of text)) whole counted in
      omega arith

  lines_read : lines_meaning (labels_of (canon image)) 1 empty_draft (lines_of (canon image)) ≡ Ok (program_draft h.memory image.harts all_lines.0 image.program)
  lines_read =
      let labels = labels_of (canon image) in
      let read = all_lines.1.leads labels enough_lines 1 [] in
      ap (λ text. lines_meaning labels 1 empty_draft (lines_of text)) (sym (append-nil (canon image))) ∙ read ∙ last_line labels (all_lines.1.ends 1) (program_draft h.memory image.harts all_lines.0 image.program)

  not_none : (n : ℕ) → 0 < n → (n == 0) ≡ false
  not_none n some = grind (arith, nat_tests)

  same_image : finished (program_draft h.memory image.harts all_lines.0 image.program) ≡ Ok image
  unfolding finished
  same_image =
      rw (not_none (length image.harts) h.some_harts, not_none (length image.program) h.some_instructions)
      (ap (λ ram. Ok (record { program = image.program; ram = ram; granules = listed_from ram_base h.memory; harts = image.harts })) (sym h.whole)
      ∙ ap (λ granules. Ok (record { program = image.program; ram = image.ram; granules = granules; harts = image.harts })) (sym h.listed))

  limit_test : (n : ℕ) → n ≤ listing_limit → nat_lt listing_limit n ≡ false
  limit_test n few = grind (arith, nat_tests)

  -- the canonical listing, where it is no longer than a listing may be, means the image
  pub canon_reads : length (canon image) ≤ listing_limit → listing_meaning (canon image) ≡ Ok image
  unfolding listing_meaning
  canon_reads few = rw (limit_test (length (canon image)) few, lines_read) same_image
