-- A step in JSON, member by member: the members in the order of their keys, of which some may be absent, and their texts.
use Rattle.std.proofs.Common.{◌≡◌, Less, Greater, ℕ, true, false, List, [], ◌∷◌, ◌++◌, Option, Some, None, codes, decimal, refl, ap, ◌∙◌, append_assoc, append-nil}
use Rattle.std.specs.Prelude.{⊤, is_some}
use Rattle.std.specs.Option.{option_map}
use Rattle.std.specs.Ordering.{nat_cmp}
use Rattle.std.specs.Cmp.Lexicographic.{slice_cmp}
use Rattle.json.specs.Print.{quoted}
use Rattle.serde_json.proofs.OnLiterals.{serde_json_on_literals}
use Rattle.serde_json.specs.Data.{Data, string, Members, no_members, member, put}
use Rattle.serde_json.specs.Written.{compact_text, members_text}
use Rattle.cheri_model.specs.declared.trace.Outcome.TheVariants as outcome
use Rattle.report_lines.specs.EventData.{event_members}
use Rattle.report_lines.specs.ValueData.{count}
use Rattle.report_lines.specs.ValueText.{hex_text}
use Rattle.facts.specs.declared.step_facts.NamedValue.{NamedValue}
use Rattle.facts.specs.declared.step_facts.UpToTwo.{UpToTwo}
use Rattle.facts.specs.declared.step_facts.UpToTwo.TheVariants.{Zero, One, Two}
use Rattle.facts.specs.declared.step_facts.StepFacts.{StepFacts}
use Rattle.explanations.specs.FactData.{put_any, put_names, place_data, extent_data, cleared_data, instruction_data, line_data, fetched_source, step_data}
use Rattle.explanations.specs.InstructionLines.{LineParts}
use Rattle.explanations.specs.JsonText.{if_there, names_data}
use Rattle.explanations.proofs.FactLemmas.{no_source}
use Rattle.explanations.proofs.PlainTexts as plain

-- ---- members that may be absent

abbrev maybe : List ℕ → Option Data → Members → Members
maybe k None rest = rest
maybe k (Some d) rest = member k d rest

abbrev put_maybe : List ℕ → Option Data → Members → Members
put_maybe k None members = members
put_maybe k (Some d) members = put k d members

abbrev Slots : Type 0
Slots = List (List ℕ × Option Data)

abbrev members_of : Slots → Members
members_of [] = no_members
members_of (slot ∷ rest) = maybe slot.0 slot.1 (members_of rest)

-- a key is below each of these, and above each of these
abbrev IsBelow : List ℕ → Slots → Type 0
IsBelow k [] = ⊤
IsBelow k (slot ∷ rest) = (slice_cmp nat_cmp k slot.0 ≡ Less) × IsBelow k rest

abbrev IsAbove : List ℕ → Slots → Type 0
IsAbove k [] = ⊤
IsAbove k (slot ∷ rest) = (slice_cmp nat_cmp k slot.0 ≡ Greater) × IsAbove k rest

first : (k : List ℕ) (d : Data) (slots : Slots) → IsBelow k slots → put k d (members_of slots) ≡ member k d (members_of slots)
first k d [] below = refl
first k d ((l, None) ∷ rest) below = first k d rest below.1
first k d ((l, Some e) ∷ rest) below = rw below.0 refl

pass : (k l : List ℕ) (p o : Option Data) (rest : Members) → slice_cmp nat_cmp k l ≡ Greater
    → put_maybe k p (maybe l o rest) ≡ maybe l o (put_maybe k p rest)
pass k l None o rest above = refl
pass k l (Some d) None rest above = refl
pass k l (Some d) (Some e) rest above = rw above refl

-- a member is put between those below and those above it
inserted : (k : List ℕ) (p : Option Data) (front back : Slots) → IsAbove k front → IsBelow k back
    → put_maybe k p (members_of (front ++ back)) ≡ members_of (front ++ (k, p) ∷ back)
inserted k None [] back above below = refl
inserted k (Some d) [] back above below = first k d back below
inserted k p ((l, o) ∷ front) back above below =
    pass k l p o (members_of (front ++ back)) above.0 ∙ ap (maybe l o) (inserted k p front back above.1 below)

-- one that is put into members which are known
puts : (k : List ℕ) (p : Option Data) (front back : Slots) (members : Members) → IsAbove k front → IsBelow k back
    → members ≡ members_of (front ++ back) → put_maybe k p members ≡ members_of (front ++ (k, p) ∷ back)
puts k p front back members above below is = ap (put_maybe k p) is ∙ inserted k p front back above below

any_is : {X : Type 0} (k : List ℕ) (data_of : X → Data) (o : Option X) (members : Members)
    → put_any k data_of o members ≡ put_maybe k (option_map data_of o) members
any_is k data_of None members = refl
any_is k data_of (Some x) members = refl

names_are : (k : List ℕ) (named : UpToTwo NamedValue) (members : Members)
    → put_names k named members ≡ put_maybe k (names_data named) members
names_are k Zero members = refl
names_are k (One x) members = refl
names_are k (Two x y) members = refl

-- ---- their texts

front_parts : (key colon d comma rest : List ℕ) → key ++ (colon ++ (d ++ (comma ++ rest))) ≡ ((key ++ colon) ++ (d ++ comma)) ++ rest
front_parts key colon d comma rest = simp append_assoc

back_parts : (comma key colon d rest : List ℕ) → comma ++ (key ++ (colon ++ (d ++ rest))) ≡ ((comma ++ (key ++ colon)) ++ (d ++ [])) ++ rest
back_parts comma key colon d rest = simp (append_assoc, append-nil)

-- a member after others
back_text : (k : List ℕ) (o : Option Data) (rest : Members)
    → members_text true (maybe k o rest) ≡ if_there (44 ∷ (quoted k ++ 58 ∷ [])) [] o ++ members_text true rest
back_text k None rest = refl
back_text k (Some d) rest = back_parts (44 ∷ []) (quoted k) (58 ∷ []) (compact_text d) (members_text true rest)

-- a member before others
front_text : (k : List ℕ) (o : Option Data) (rest : Members) → members_text true rest ≡ 44 ∷ members_text false rest
    → members_text false (maybe k o rest) ≡ if_there (quoted k ++ 58 ∷ []) (44 ∷ []) o ++ members_text false rest
front_text k None rest more = refl
front_text k (Some d) rest more = rw more (front_parts (quoted k) (58 ∷ []) (compact_text d) (44 ∷ []) (members_text false rest))

goes_on : (k : List ℕ) (o : Option Data) (rest : Members) → members_text true rest ≡ 44 ∷ members_text false rest
    → members_text true (maybe k o rest) ≡ 44 ∷ members_text false (maybe k o rest)
goes_on k None rest more = more
goes_on k (Some d) rest more = refl

-- ---- a step that was done

module _ (hart pc number : Data) (at clears finds instruction leaves line reads sets : Option Data) where
  abbrev at_slot : List ℕ × Option Data
  at_slot = (codes "at", at)

  abbrev clears_slot : List ℕ × Option Data
  clears_slot = (codes "clears", clears)

  abbrev finds_slot : List ℕ × Option Data
  finds_slot = (codes "finds", finds)

  abbrev hart_slot : List ℕ × Option Data
  hart_slot = (codes "hart", Some hart)

  abbrev instruction_slot : List ℕ × Option Data
  instruction_slot = (codes "instruction", instruction)

  abbrev leaves_slot : List ℕ × Option Data
  leaves_slot = (codes "leaves", leaves)

  abbrev line_slot : List ℕ × Option Data
  line_slot = (codes "line", line)

  abbrev number_slot : List ℕ × Option Data
  number_slot = (codes "number", Some number)

  abbrev outcome_slot : List ℕ × Option Data
  outcome_slot = (codes "outcome", Some (string (codes "done")))

  abbrev pc_slot : List ℕ × Option Data
  pc_slot = (codes "pc", Some pc)

  abbrev reads_slot : List ℕ × Option Data
  reads_slot = (codes "reads", reads)

  abbrev sets_slot : List ℕ × Option Data
  sets_slot = (codes "sets", sets)

  -- its members, put one after another into those of the report's entry
  put_entry : member (codes "hart") hart (member (codes "outcome") (string (codes "done")) (member (codes "pc") pc no_members))
      ≡ members_of (hart_slot ∷ outcome_slot ∷ pc_slot ∷ [])
  put_entry = refl

  put_at : put_maybe (codes "at") at (member (codes "hart") hart (member (codes "outcome") (string (codes "done")) (member (codes "pc") pc no_members)))
      ≡ members_of (at_slot ∷ hart_slot ∷ outcome_slot ∷ pc_slot ∷ [])
  put_at =
      puts (codes "at") at ([]) (hart_slot ∷ outcome_slot ∷ pc_slot ∷ []) _
      tt (refl, (refl, (refl, tt))) put_entry

  put_clears : put_maybe (codes "clears") clears (put_maybe (codes "at") at (member (codes "hart") hart (member (codes "outcome") (string (codes "done")) (member (codes "pc") pc no_members))))
      ≡ members_of (at_slot ∷ clears_slot ∷ hart_slot ∷ outcome_slot ∷ pc_slot ∷ [])
  put_clears =
      puts (codes "clears") clears (at_slot ∷ []) (hart_slot ∷ outcome_slot ∷ pc_slot ∷ []) _
      (refl, tt) (refl, (refl, (refl, tt))) put_at

  put_finds : put_maybe (codes "finds") finds (put_maybe (codes "clears") clears (put_maybe (codes "at") at (member (codes "hart") hart (member (codes "outcome") (string (codes "done")) (member (codes "pc") pc no_members)))))
      ≡ members_of (at_slot ∷ clears_slot ∷ finds_slot ∷ hart_slot ∷ outcome_slot ∷ pc_slot ∷ [])
  put_finds =
      puts (codes "finds") finds (at_slot ∷ clears_slot ∷ []) (hart_slot ∷ outcome_slot ∷ pc_slot ∷ []) _
      (refl, (refl, tt)) (refl, (refl, (refl, tt))) put_clears

  put_instruction : put_maybe (codes "instruction") instruction (put_maybe (codes "finds") finds (put_maybe (codes "clears") clears (put_maybe (codes "at") at (member (codes "hart") hart (member (codes "outcome") (string (codes "done")) (member (codes "pc") pc no_members))))))
      ≡ members_of (at_slot ∷ clears_slot ∷ finds_slot ∷ hart_slot ∷ instruction_slot ∷ outcome_slot ∷ pc_slot ∷ [])
  put_instruction =
      puts (codes "instruction") instruction (at_slot ∷ clears_slot ∷ finds_slot ∷ hart_slot ∷ []) (outcome_slot ∷ pc_slot ∷ []) _
      (refl, (refl, (refl, (refl, tt)))) (refl, (refl, tt)) put_finds

  put_leaves : put_maybe (codes "leaves") leaves (put_maybe (codes "instruction") instruction (put_maybe (codes "finds") finds (put_maybe (codes "clears") clears (put_maybe (codes "at") at (member (codes "hart") hart (member (codes "outcome") (string (codes "done")) (member (codes "pc") pc no_members)))))))
      ≡ members_of (at_slot ∷ clears_slot ∷ finds_slot ∷ hart_slot ∷ instruction_slot ∷ leaves_slot ∷ outcome_slot ∷ pc_slot ∷ [])
  put_leaves =
      puts (codes "leaves") leaves (at_slot ∷ clears_slot ∷ finds_slot ∷ hart_slot ∷ instruction_slot ∷ []) (outcome_slot ∷ pc_slot ∷ []) _
      (refl, (refl, (refl, (refl, (refl, tt))))) (refl, (refl, tt)) put_instruction

  put_line : put_maybe (codes "line") line (put_maybe (codes "leaves") leaves (put_maybe (codes "instruction") instruction (put_maybe (codes "finds") finds (put_maybe (codes "clears") clears (put_maybe (codes "at") at (member (codes "hart") hart (member (codes "outcome") (string (codes "done")) (member (codes "pc") pc no_members))))))))
      ≡ members_of (at_slot ∷ clears_slot ∷ finds_slot ∷ hart_slot ∷ instruction_slot ∷ leaves_slot ∷ line_slot ∷ outcome_slot ∷ pc_slot ∷ [])
  put_line =
      puts (codes "line") line (at_slot ∷ clears_slot ∷ finds_slot ∷ hart_slot ∷ instruction_slot ∷ leaves_slot ∷ []) (outcome_slot ∷ pc_slot ∷ []) _
      (refl, (refl, (refl, (refl, (refl, (refl, tt)))))) (refl, (refl, tt)) put_leaves

  put_number : put_maybe (codes "number") (Some number) (put_maybe (codes "line") line (put_maybe (codes "leaves") leaves (put_maybe (codes "instruction") instruction (put_maybe (codes "finds") finds (put_maybe (codes "clears") clears (put_maybe (codes "at") at (member (codes "hart") hart (member (codes "outcome") (string (codes "done")) (member (codes "pc") pc no_members)))))))))
      ≡ members_of (at_slot ∷ clears_slot ∷ finds_slot ∷ hart_slot ∷ instruction_slot ∷ leaves_slot ∷ line_slot ∷ number_slot ∷ outcome_slot ∷ pc_slot ∷ [])
  put_number =
      puts (codes "number") (Some number) (at_slot ∷ clears_slot ∷ finds_slot ∷ hart_slot ∷ instruction_slot ∷ leaves_slot ∷ line_slot ∷ []) (outcome_slot ∷ pc_slot ∷ []) _
      (refl, (refl, (refl, (refl, (refl, (refl, (refl, tt))))))) (refl, (refl, tt)) put_line

  put_reads : put_maybe (codes "reads") reads (put_maybe (codes "number") (Some number) (put_maybe (codes "line") line (put_maybe (codes "leaves") leaves (put_maybe (codes "instruction") instruction (put_maybe (codes "finds") finds (put_maybe (codes "clears") clears (put_maybe (codes "at") at (member (codes "hart") hart (member (codes "outcome") (string (codes "done")) (member (codes "pc") pc no_members))))))))))
      ≡ members_of (at_slot ∷ clears_slot ∷ finds_slot ∷ hart_slot ∷ instruction_slot ∷ leaves_slot ∷ line_slot ∷ number_slot ∷ outcome_slot ∷ pc_slot ∷ reads_slot ∷ [])
  put_reads =
      puts (codes "reads") reads (at_slot ∷ clears_slot ∷ finds_slot ∷ hart_slot ∷ instruction_slot ∷ leaves_slot ∷ line_slot ∷ number_slot ∷ outcome_slot ∷ pc_slot ∷ []) ([]) _
      (refl, (refl, (refl, (refl, (refl, (refl, (refl, (refl, (refl, (refl, tt)))))))))) tt put_number

  put_sets : put_maybe (codes "sets") sets (put_maybe (codes "reads") reads (put_maybe (codes "number") (Some number) (put_maybe (codes "line") line (put_maybe (codes "leaves") leaves (put_maybe (codes "instruction") instruction (put_maybe (codes "finds") finds (put_maybe (codes "clears") clears (put_maybe (codes "at") at (member (codes "hart") hart (member (codes "outcome") (string (codes "done")) (member (codes "pc") pc no_members)))))))))))
      ≡ members_of (at_slot ∷ clears_slot ∷ finds_slot ∷ hart_slot ∷ instruction_slot ∷ leaves_slot ∷ line_slot ∷ number_slot ∷ outcome_slot ∷ pc_slot ∷ reads_slot ∷ sets_slot ∷ [])
  put_sets =
      puts (codes "sets") sets (at_slot ∷ clears_slot ∷ finds_slot ∷ hart_slot ∷ instruction_slot ∷ leaves_slot ∷ line_slot ∷ number_slot ∷ outcome_slot ∷ pc_slot ∷ reads_slot ∷ []) ([]) _
      (refl, (refl, (refl, (refl, (refl, (refl, (refl, (refl, (refl, (refl, (refl, tt))))))))))) tt put_reads

  -- their texts
  last_text : members_text true (members_of (reads_slot ∷ sets_slot ∷ []))
      ≡ if_there (codes ",\"reads\":") [] reads ++ (if_there (codes ",\"sets\":") [] sets ++ codes "}")
  unfolding serde_json_on_literals
  last_text =
      back_text (codes "reads") reads (members_of (sets_slot ∷ []))
      ∙ ap (λ t. if_there (codes ",\"reads\":") [] reads ++ t) (back_text (codes "sets") sets no_members)

  number_text : members_text true (members_of (number_slot ∷ outcome_slot ∷ pc_slot ∷ reads_slot ∷ sets_slot ∷ []))
      ≡ codes ",\"number\":" ++ (compact_text number ++ (codes ",\"outcome\":\"done\",\"pc\":" ++ (compact_text pc
      ++ (if_there (codes ",\"reads\":") [] reads ++ (if_there (codes ",\"sets\":") [] sets ++ codes "}")))))
  unfolding serde_json_on_literals
  number_text =
      ap (λ (t : List ℕ). codes ",\"number\":" ++ (compact_text number ++ (codes ",\"outcome\":\"done\",\"pc\":" ++ (compact_text pc ++ t)))) last_text

  line_text : members_text true (members_of (instruction_slot ∷ leaves_slot ∷ line_slot ∷ number_slot ∷ outcome_slot ∷ pc_slot ∷ reads_slot ∷ sets_slot ∷ []))
      ≡ if_there (codes ",\"instruction\":") [] instruction ++ (if_there (codes ",\"leaves\":") [] leaves
      ++ (if_there (codes ",\"line\":") [] line
      ++ members_text true (members_of (number_slot ∷ outcome_slot ∷ pc_slot ∷ reads_slot ∷ sets_slot ∷ []))))
  unfolding serde_json_on_literals
  line_text =
      back_text (codes "instruction") instruction _
      ∙ ap (λ t. if_there (codes ",\"instruction\":") [] instruction ++ t)
      (back_text (codes "leaves") leaves _
      ∙ ap (λ t. if_there (codes ",\"leaves\":") [] leaves ++ t) (back_text (codes "line") line _))

  abbrev from_hart : Members
  from_hart = members_of (hart_slot ∷ instruction_slot ∷ leaves_slot ∷ line_slot ∷ number_slot ∷ outcome_slot ∷ pc_slot ∷ reads_slot ∷ sets_slot ∷ [])

  hart_text : members_text false from_hart
      ≡ codes "\"hart\":" ++ (compact_text hart
      ++ members_text true (members_of (instruction_slot ∷ leaves_slot ∷ line_slot ∷ number_slot ∷ outcome_slot ∷ pc_slot ∷ reads_slot ∷ sets_slot ∷ [])))
  unfolding serde_json_on_literals
  hart_text = refl

  first_text : members_text false (members_of (at_slot ∷ clears_slot ∷ finds_slot ∷ hart_slot ∷ instruction_slot ∷ leaves_slot ∷ line_slot ∷ number_slot ∷ outcome_slot ∷ pc_slot ∷ reads_slot ∷ sets_slot ∷ []))
      ≡ if_there (codes "\"at\":") (codes ",") at ++ (if_there (codes "\"clears\":") (codes ",") clears
      ++ (if_there (codes "\"finds\":") (codes ",") finds ++ members_text false from_hart))
  unfolding serde_json_on_literals
  first_text =
      let with_finds = goes_on (codes "finds") finds from_hart refl in
      front_text (codes "at") at _ (goes_on (codes "clears") clears _ with_finds)
      ∙ ap (λ t. if_there (codes "\"at\":") (codes ",") at ++ t)
      (front_text (codes "clears") clears _ with_finds
      ∙ ap (λ t. if_there (codes "\"clears\":") (codes ",") clears ++ t) (front_text (codes "finds") finds from_hart refl))

  members_are : members_text false (members_of (at_slot ∷ clears_slot ∷ finds_slot ∷ hart_slot ∷ instruction_slot ∷ leaves_slot ∷ line_slot ∷ number_slot ∷ outcome_slot ∷ pc_slot ∷ reads_slot ∷ sets_slot ∷ []))
      ≡ if_there (codes "\"at\":") (codes ",") at ++ (if_there (codes "\"clears\":") (codes ",") clears
      ++ (if_there (codes "\"finds\":") (codes ",") finds ++ (codes "\"hart\":" ++ (compact_text hart
      ++ (if_there (codes ",\"instruction\":") [] instruction ++ (if_there (codes ",\"leaves\":") [] leaves
      ++ (if_there (codes ",\"line\":") [] line ++ (codes ",\"number\":" ++ (compact_text number
      ++ (codes ",\"outcome\":\"done\",\"pc\":" ++ (compact_text pc ++ (if_there (codes ",\"reads\":") [] reads
      ++ (if_there (codes ",\"sets\":") [] sets ++ codes "}")))))))))))))
  members_are =
      first_text
      ∙ ap (λ (t : List ℕ). if_there (codes "\"at\":") (codes ",") at ++ (if_there (codes "\"clears\":") (codes ",") clears
      ++ (if_there (codes "\"finds\":") (codes ",") finds ++ t)))
      (hart_text
      ∙ ap (λ (t : List ℕ). codes "\"hart\":" ++ (compact_text hart ++ t))
      (line_text
      ∙ ap (λ (t : List ℕ). if_there (codes ",\"instruction\":") [] instruction ++ (if_there (codes ",\"leaves\":") [] leaves
      ++ (if_there (codes ",\"line\":") [] line ++ t))) number_text))

pc_then : (pc : ℕ) (rest : List ℕ) → compact_text (string (hex_text 16 pc)) ++ rest ≡ codes "\"" ++ (hex_text 16 pc ++ (codes "\"" ++ rest))
unfolding serde_json_on_literals
pc_then pc rest = rw (plain.hex 16 pc) (ap (λ (t : List ℕ). 34 ∷ t) (append_assoc (hex_text 16 pc) (34 ∷ []) rest))

-- a step that was done
pub done_text : (lines : LineParts) (number : ℕ) (facts : StepFacts) → facts.entry.outcome ≡ outcome.Done → facts.traps ≡ None
    → is_some lines.sources ≡ false
    → compact_text (step_data lines number facts)
    ≡ codes "{" ++ (if_there (codes "\"at\":") (codes ",") (option_map extent_data facts.at)
    ++ (if_there (codes "\"clears\":") (codes ",") (option_map cleared_data facts.clears)
    ++ (if_there (codes "\"finds\":") (codes ",") (option_map place_data facts.finds)
    ++ (codes "\"hart\":" ++ (decimal facts.entry.hart
    ++ (if_there (codes ",\"instruction\":") [] (option_map instruction_data facts.fetched)
    ++ (if_there (codes ",\"leaves\":") [] (option_map place_data facts.leaves)
    ++ (if_there (codes ",\"line\":") [] (option_map (line_data lines) facts.fetched)
    ++ (codes ",\"number\":" ++ (decimal number
    ++ (codes ",\"outcome\":\"done\",\"pc\":\"" ++ (hex_text 16 facts.entry.pc ++ (codes "\""
    ++ (if_there (codes ",\"reads\":") [] (names_data facts.reads)
    ++ (if_there (codes ",\"sets\":") [] (names_data facts.sets) ++ codes "}")))))))))))))))
unfolding step_data event_members serde_json_on_literals
done_text lines number facts done untrapped unmapped =
    let at = option_map extent_data facts.at in
    let clears = option_map cleared_data facts.clears in
    let finds = option_map place_data facts.finds in
    let instruction = option_map instruction_data facts.fetched in
    let leaves = option_map place_data facts.leaves in
    let line = option_map (line_data lines) facts.fetched in
    let hart = count facts.entry.hart in
    let pc = string (hex_text 16 facts.entry.pc) in
    let reads = names_data facts.reads in
    let sets = names_data facts.sets in
    rw (
      untrapped,
      no_source lines facts.fetched unmapped,
      done,
      names_are (codes "sets") facts.sets,
      names_are (codes "reads") facts.reads,
      any_is (codes "line") (line_data lines) facts.fetched,
      any_is (codes "leaves") place_data facts.leaves,
      any_is (codes "instruction") instruction_data facts.fetched,
      any_is (codes "finds") place_data facts.finds,
      any_is (codes "clears") cleared_data facts.clears,
      any_is (codes "at") extent_data facts.at,
    )
    (ap (λ ms. 123 ∷ members_text false ms) (put_sets hart pc (count number) at clears finds instruction leaves line reads sets)
    ∙ ap (λ (t : List ℕ). 123 ∷ t) (members_are hart pc (count number) at clears finds instruction leaves line reads sets)
    ∙ ap (λ (t : List ℕ). codes "{" ++ (if_there (codes "\"at\":") (codes ",") at
    ++ (if_there (codes "\"clears\":") (codes ",") clears ++ (if_there (codes "\"finds\":") (codes ",") finds
    ++ (codes "\"hart\":" ++ (decimal facts.entry.hart ++ (if_there (codes ",\"instruction\":") [] instruction
    ++ (if_there (codes ",\"leaves\":") [] leaves ++ (if_there (codes ",\"line\":") [] line
    ++ (codes ",\"number\":" ++ (decimal number ++ (codes ",\"outcome\":\"done\",\"pc\":" ++ t))))))))))))
    (pc_then facts.entry.pc (if_there (codes ",\"reads\":") [] reads ++ (if_there (codes ",\"sets\":") [] sets ++ codes "}"))))
