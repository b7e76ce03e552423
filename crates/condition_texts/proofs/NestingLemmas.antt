-- What was added to the nodes is what the definition reads.
use Rattle.std.proofs.Common.{◌≡◌, ℕ, zero, suc, ◌+◌, ◌-◌, ◌<◌, ◌≤◌, ◌==◌, Bool, true, false, List, [], ◌∷◌, ◌++◌, length, refl, sym, ap, ◌∙◌, append_assoc, arith, Result, Ok, Err, if◌then◌else◌}
use Rattle.std.specs.Prelude.{codes}
use Rattle.std.proofs.lemmas.Bool.Decides.{nat_tests}
use Rattle.std.proofs.lemmas.List.{length-append}
use Rattle.std.proofs.lemmas.Bool.{cond-true, cond-false}
use Rattle.grammar.specs.Faults.{◌>>=◌}
use Rattle.condition_texts.specs.declared.condition.TheConstants.{MAX_PARENTHESES}
use Rattle.condition_texts.specs.declared.openings.Opening.{Opening}
use Rattle.condition_texts.specs.declared.openings.Opening.TheVariants as openings
use Rattle.condition_texts.specs.declared.openings.Quantifier.{Quantifier}
use Rattle.conditions.specs.declared.parts.Source.{Source}
use Rattle.conditions.specs.declared.parts.Subject.{Subject}
use Rattle.conditions.specs.declared.parts.Atom.{Atom}
use Rattle.conditions.specs.declared.parts.Comparison.{Comparison}
use Rattle.conditions.specs.declared.parts.Joint.{Joint}
use Rattle.conditions.specs.declared.parts.Joint.TheVariants.{And, Or}
use Rattle.conditions.specs.declared.parts.Node.{Node}
use Rattle.conditions.specs.declared.parts.Node.TheVariants as node
use Rattle.condition_texts.specs.declared.words.Word.{Word}
use Rattle.condition_texts.specs.declared.words.WordFault.{WordFault}
use Rattle.condition_texts.specs.declared.words.WordFault.TheVariants.{At, NoMemory}
use Rattle.conditions.specs.Formulas.{Formula, says, deny, enclosed, join, nodes_of}
use Rattle.condition_texts.specs.Reading.{Context, is_at, only, says_at, opening_of, is_plural, noun_of, asked_of, asked_of_count, said_of, compared}
use Rattle.conditions.specs.declared.parts.Subject.TheVariants.{Each}
use Rattle.condition_texts.specs.WordPairs.{word_pairs}
use Rattle.condition_texts.specs.Conditions.{Reader, Adds, GivesNodes, said, of_harts, of_each, quantified_at, counted_at, after_opening, unit, part, joint_word, joined_to, chain, item_of, chain_with, in_parentheses, chain_of, whole}

-- a reader stops where the first part does
pub stops : {X Y : Type 0} (number : ℕ) (m : Result X ℕ) (next : X → Result Y ℕ) → m ≡ Err number → (m >>= next) ≡ Err number
stops number m next is = rw is refl

-- the same of what was to be added, whatever was before
pub not_added : (fault : WordFault) (old new : List Node) (m : Result (Formula × ℕ) ℕ) (next : Formula × ℕ → Result (Formula × ℕ) ℕ)
    (earlier later : List Node) → Adds (Err fault) old new m → Adds (Err fault) earlier later (m >>= next)
not_added (At number) old new m next earlier later fails = stops number m next fails
not_added NoMemory old new m next earlier later fails = tt

-- a fault says the same of an equal reader
pub fault_of : (fault : WordFault) (old new earlier later : List Node) (m n : Result (Formula × ℕ) ℕ) → m ≡ n → Adds (Err fault) old new m
    → Adds (Err fault) earlier later n
fault_of (At number) old new earlier later m n same fails = sym same ∙ fails
fault_of NoMemory old new earlier later m n same fails = tt

-- what is added says the same of an equal reader
pub added_of : (next : ℕ) (old new : List Node) (m n : Result (Formula × ℕ) ℕ) → m ≡ n → Adds (Ok next) old new m → Adds (Ok next) old new n
added_of next old new m n same adds = (adds.0, sym same ∙ adds.1, adds.2)

pub adds_of : (result : Result ℕ WordFault) (old new : List Node) (m n : Result (Formula × ℕ) ℕ) → m ≡ n → Adds result old new m → Adds result old new n
adds_of (Ok next) old new m n same adds = added_of next old new m n same adds
adds_of (Err fault) old new m n same adds = fault_of fault old new old new m n same adds

-- one node more, after those of a part
node_more : (old mid new nodes : List Node) (last : Node) → mid ≡ old ++ nodes → new ≡ mid ++ last ∷ [] → new ≡ old ++ (nodes ++ last ∷ [])
node_more old mid new nodes last mid_is new_is =
    new_is ∙ ap (λ l. l ++ last ∷ []) mid_is ∙ append_assoc old nodes (last ∷ [])

-- an atom
pub said_added : (m : Result (Atom × ℕ) ℕ) (a : Atom) (next : ℕ) (old new : List Node) → m ≡ Ok (a, next) → new ≡ old ++ node.Says a ∷ []
    → Adds (Ok next) old new (said m)
unfolding nodes_of
said_added m a next old new is new_is = (says a, rw is refl, new_is)

pub said_stops : (m : Result (Atom × ℕ) ℕ) (number : ℕ) → m ≡ Err number → said m ≡ Err number
said_stops m number is = rw is refl

module _ (c : Context) (inside : Bool → Reader) (each : Bool) (at : ℕ) where
  -- `not`
  pub part_plain : is_at c at (codes "not") ≡ false → unit c inside each at ≡ part c inside each at
  unfolding part
  part_plain none = rw none refl

  part_denied : is_at c at (codes "not") ≡ true → part c inside each at ≡ (unit c inside each (at + 1) >>= (λ denied. Ok (deny denied.0, denied.1)))
  unfolding part
  part_denied here = rw here refl

  pub part_added : (next : ℕ) (old mid new : List Node) → is_at c at (codes "not") ≡ true → Adds (Ok next) old mid (unit c inside each (at + 1))
      → new ≡ mid ++ node.Not ∷ [] → Adds (Ok next) old new (part c inside each at)
  unfolding nodes_of
  part_added next old mid new here adds new_is =
      (deny adds.0, part_denied here ∙ rw adds.1 refl, node_more old mid new (nodes_of adds.0) node.Not adds.2 new_is)

  pub part_stops : (fault : WordFault) (old new : List Node) → is_at c at (codes "not") ≡ true → Adds (Err fault) old new (unit c inside each (at + 1))
      → Adds (Err fault) old new (part c inside each at)
  part_stops fault old new here fails =
      fault_of fault old new old new _ _ (sym (part_denied here))
      (not_added fault old new (unit c inside each (at + 1)) (λ denied. Ok (deny denied.0, denied.1)) old new fails)

  -- parentheses
  unit_plain : is_at c at (codes "(") ≡ false
      → unit c inside each at ≡ (says_at c (opening_of c.image each) at >>= (λ opening. after_opening c inside each opening (at + 1)))
  unfolding unit
  unit_plain none = rw none refl

  pub unit_opens : (opening : _) → is_at c at (codes "(") ≡ false → says_at c (opening_of c.image each) at ≡ Ok opening
      → after_opening c inside each opening (at + 1) ≡ unit c inside each at
  unit_opens opening none is = sym (unit_plain none ∙ rw is refl)

  pub unit_none : (number : ℕ) → is_at c at (codes "(") ≡ false → says_at c (opening_of c.image each) at ≡ Err number → unit c inside each at ≡ Err number
  unit_none number none is = unit_plain none ∙ rw is refl

  unit_enclosed : is_at c at (codes "(") ≡ true → unit c inside each at ≡ (inside each at >>= (λ read. Ok (enclosed read.0, read.1)))
  unfolding unit
  unit_enclosed here = rw here refl

  pub unit_added : (next : ℕ) (old mid new : List Node) → is_at c at (codes "(") ≡ true → Adds (Ok next) old mid (inside each at)
      → new ≡ mid ++ node.Enclosed ∷ [] → Adds (Ok next) old new (unit c inside each at)
  unfolding nodes_of
  unit_added next old mid new here adds new_is =
      (enclosed adds.0, unit_enclosed here ∙ rw adds.1 refl, node_more old mid new (nodes_of adds.0) node.Enclosed adds.2 new_is)

  pub unit_stops : (fault : WordFault) (old new : List Node) → is_at c at (codes "(") ≡ true → Adds (Err fault) old new (inside each at)
      → Adds (Err fault) old new (unit c inside each at)
  unit_stops fault old new here fails =
      fault_of fault old new old new _ _ (sym (unit_enclosed here))
      (not_added fault old new (inside each at) (λ read. Ok (enclosed read.0, read.1)) old new fails)

-- counts
module _ (c : Context) (inside : Bool → Reader) (at : ℕ) where
  pub counted_added : (end next : ℕ) (asked : Comparison × ℕ) (old mid new : List Node) → Adds (Ok end) old mid (inside true at)
      → asked_of_count c end ≡ Ok (asked, next) → new ≡ mid ++ node.Counted asked.0 asked.1 ∷ [] → Adds (Ok next) old new (counted_at c inside at)
  unfolding counted_at nodes_of
  counted_added end next asked old mid new adds is new_is =
      (of_harts asked adds.0, rw (adds.1, is) refl, node_more old mid new (nodes_of adds.0) (node.Counted asked.0 asked.1) adds.2 new_is)

  pub counted_stops : (fault : WordFault) (old new : List Node) → Adds (Err fault) old new (inside true at)
      → Adds (Err fault) old new (counted_at c inside at)
  unfolding counted_at
  counted_stops fault old new fails =
      not_added fault old new (inside true at) (λ read. asked_of_count c read.1 >>= (λ asked. Ok (of_harts asked.0 read.0, asked.1))) old new fails

  pub counted_none : (end number : ℕ) (old mid : List Node) → Adds (Ok end) old mid (inside true at) → asked_of_count c end ≡ Err number
      → counted_at c inside at ≡ Err number
  unfolding counted_at
  counted_none end number old mid adds is = rw (adds.1, is) refl

  pub quantified_none : (quantifier : Quantifier) (number : ℕ) → only c at (noun_of quantifier) ≡ Err number → quantified_at c inside quantifier at ≡ Err number
  unfolding quantified_at
  quantified_none quantifier number is = rw is refl

  pub quantified_added : (quantifier : Quantifier) (next end : ℕ) (asked : Comparison × ℕ) (old mid new : List Node)
      → only c at (noun_of quantifier) ≡ Ok next → Adds (Ok end) old mid (of_each c inside (is_plural quantifier) next)
      → asked ≡ asked_of quantifier (length c.image.harts) → new ≡ mid ++ node.Counted asked.0 asked.1 ∷ []
      → Adds (Ok end) old new (quantified_at c inside quantifier at)
  unfolding quantified_at nodes_of
  quantified_added quantifier next end asked old mid new is adds asked_is new_is = (
    of_harts (asked_of quantifier (length c.image.harts)) adds.0,
    rw (is, adds.1) refl,
    node_more old mid new (nodes_of adds.0) (node.Counted (asked_of quantifier (length c.image.harts)).0 (asked_of quantifier (length c.image.harts)).1) adds.2
        (new_is ∙ rw asked_is refl),
  )

  pub quantified_stops : (quantifier : Quantifier) (next : ℕ) (fault : WordFault) (old new : List Node) → only c at (noun_of quantifier) ≡ Ok next
      → Adds (Err fault) old new (of_each c inside (is_plural quantifier) next) → Adds (Err fault) old new (quantified_at c inside quantifier at)
  unfolding quantified_at
  quantified_stops quantifier next fault old new is fails =
      fault_of fault old new old new _ _ (sym (rw is refl))
      (not_added fault old new (of_each c inside (is_plural quantifier) next)
      (λ read. Ok (of_harts (asked_of quantifier (length c.image.harts)) read.0, read.1)) old new fails)

  pub each_plain : (plural : Bool) → is_at c at (codes "(") ≡ false → said (said_of c plural Each at) ≡ of_each c inside plural at
  unfolding of_each
  each_plain plural none = rw none refl

  pub each_inside : (plural : Bool) → is_at c at (codes "(") ≡ true → inside true at ≡ of_each c inside plural at
  unfolding of_each
  each_inside plural here = rw here refl

chained_nodes : (old before mid first second : List Node) (last : Node) → before ≡ old ++ first → mid ≡ before ++ second
    → mid ++ last ∷ [] ≡ old ++ (first ++ (second ++ last ∷ []))
chained_nodes old before mid first second last before_is mid_is =
    ap (λ l. l ++ last ∷ []) (mid_is ∙ ap (λ l. l ++ second) before_is) ∙ append_assoc (old ++ first) second (last ∷ [])
    ∙ append_assoc old first (second ++ last ∷ [])

-- chains
module _ (c : Context) (joint : Joint) (item : Reader) where
  pub joined_end : (fuel : ℕ) (f : Formula) (at : ℕ) → is_at c at (joint_word joint) ≡ false → joined_to c joint item fuel f at ≡ Ok (f, at)
  unfolding joined_to
  joined_end zero f at none = refl
  joined_end (suc fuel) f at none = rw none refl

  joined_more : (fuel : ℕ) (f : Formula) (at : ℕ) → is_at c at (joint_word joint) ≡ true → 0 < fuel
      → joined_to c joint item fuel f at ≡ (item (at + 1) >>= (λ second. joined_to c joint item (fuel - 1) (join joint f second.0) second.1))
  unfolding joined_to
  joined_more zero f at here some = absurd (omega arith)
  joined_more (suc fuel) f at here some = let less : suc fuel - 1 ≡ fuel = omega arith in rw (less, here) refl

  -- what a loop over items knows: what was added so far, and that the rest is still to be joined to it
  pub Chained : List Node → ℕ → List Node → Result (Formula × ℕ) ℕ → Type 0
  Chained old end nodes all =
      (f : Formula) × (fuel : ℕ) × (nodes ≡ old ++ nodes_of f) × (joined_to c joint item fuel f end ≡ all) × (length c.words ≤ fuel + end)

  pub chain_begun : (at end : ℕ) (old nodes : List Node) → Adds (Ok end) old nodes (item at) → Chained old end nodes (chain c joint item at)
  unfolding chain Chained
  chain_begun at end old nodes adds =
      (adds.0, length c.words, adds.2, sym (rw adds.1 refl), omega arith)

  pub chain_more : (at end next : ℕ) (old before mid nodes : List Node) (second : ℕ) (all : Result (Formula × ℕ) ℕ)
      → Chained old end before all → is_at c end (joint_word joint) ≡ true → end < length c.words → Adds (Ok next) before mid (item (end + 1))
      → end < next → second ≡ length mid - length before → nodes ≡ mid ++ node.Joined joint second ∷ [] → Chained old next nodes all
  unfolding Chained nodes_of
  chain_more at end next old before mid nodes second all so here room adds later second_is nodes_is =
      let f = so.0 in let fuel = so.1 in let g = adds.0 in
      let some : 0 < fuel = omega (arith, so.4, room) in
      let count : second ≡ length (nodes_of g) = omega (arith, second_is, ap length adds.2, length-append before (nodes_of g)) in
      let step : joined_to c joint item fuel f end ≡ joined_to c joint item (fuel - 1) (join joint f g) next = joined_more fuel f end here some ∙ rw adds.1 refl in (
        join joint f g,
        fuel - 1,
        nodes_is ∙ rw count (chained_nodes old before mid (nodes_of f) (nodes_of g) (node.Joined joint (length (nodes_of g))) so.2 adds.2),
        sym step ∙ so.3,
        omega (arith, so.4, later, some),
      )

  pub chain_fails : (end : ℕ) (old before : List Node) (all : Result (Formula × ℕ) ℕ) (fault : WordFault) (later : List Node)
      → Chained old end before all → is_at c end (joint_word joint) ≡ true → end < length c.words → Adds (Err fault) before later (item (end + 1))
      → Adds (Err fault) old later all
  unfolding Chained
  chain_fails end old before all fault later so here room fails =
      let some : 0 < so.1 = omega (arith, so.4, room) in
      fault_of fault old later old later _ _ (sym (joined_more so.1 so.0 end here some) ∙ so.3)
      (not_added fault before later (item (end + 1)) (λ second. joined_to c joint item (so.1 - 1) (join joint so.0 second.0) second.1) old later fails)

  pub chain_ends : (end : ℕ) (old nodes : List Node) (all : Result (Formula × ℕ) ℕ) → Chained old end nodes all → is_at c end (joint_word joint) ≡ false
      → Adds (Ok end) old nodes all
  unfolding Chained
  chain_ends end old nodes all so none = (so.0, sym so.3 ∙ joined_end so.1 so.0 end none, so.2)

  pub chain_stops : (at : ℕ) (fault : WordFault) (old new : List Node) → Adds (Err fault) old new (item at) → Adds (Err fault) old new (chain c joint item at)
  unfolding chain
  chain_stops at fault old new fails =
      not_added fault old new (item at) (λ first. joined_to c joint item (length c.words) first.0 first.1) old new fails

deeper : (c : Context) (each : Bool) (at : ℕ) (d : ℕ) → 0 < d → in_parentheses c d each at
    ≡ (only c at (codes "(") >>= (λ first. chain_of c Or (d - 1) each first >>= (λ inner. only c inner.1 (codes ")") >>= (λ next. Ok (inner.0, next)))))
unfolding in_parentheses
deeper c each at zero none = absurd (omega arith)
deeper c each at (suc d) any = let less : suc d - 1 ≡ d = omega arith in rw less refl

-- a condition in parentheses
module _ (c : Context) (depth : ℕ) (each : Bool) (at : ℕ) where
  pub none_deeper : depth ≡ 0 → in_parentheses c depth each at ≡ Err at
  unfolding in_parentheses
  none_deeper none = rw none refl

  one_deeper : 0 < depth → in_parentheses c depth each at
      ≡ (only c at (codes "(") >>= (λ first. chain_of c Or (depth - 1) each first >>= (λ inner. only c inner.1 (codes ")") >>= (λ next. Ok (inner.0, next)))))
  one_deeper some = deeper c each at depth some

  pub opens_none : (number : ℕ) → 0 < depth → only c at (codes "(") ≡ Err number → in_parentheses c depth each at ≡ Err number
  opens_none number some is = one_deeper some ∙ rw is refl

  pub inner_stops : (first : ℕ) (fault : WordFault) (old new : List Node) → 0 < depth → only c at (codes "(") ≡ Ok first
      → Adds (Err fault) old new (chain_of c Or (depth - 1) each first) → Adds (Err fault) old new (in_parentheses c depth each at)
  inner_stops first fault old new some is fails =
      fault_of fault old new old new _ _ (sym (one_deeper some ∙ rw is refl))
      (not_added fault old new (chain_of c Or (depth - 1) each first) (λ inner. only c inner.1 (codes ")") >>= (λ next. Ok (inner.0, next))) old new fails)

  pub closes_none : (first end number : ℕ) (old new : List Node) → 0 < depth → only c at (codes "(") ≡ Ok first
      → Adds (Ok end) old new (chain_of c Or (depth - 1) each first) → only c end (codes ")") ≡ Err number → in_parentheses c depth each at ≡ Err number
  closes_none first end number old new some is adds none = one_deeper some ∙ rw (is, adds.1, none) refl

  pub inner_added : (first end next : ℕ) (old new : List Node) → 0 < depth → only c at (codes "(") ≡ Ok first
      → Adds (Ok end) old new (chain_of c Or (depth - 1) each first) → only c end (codes ")") ≡ Ok next
      → Adds (Ok next) old new (in_parentheses c depth each at)
  inner_added first end next old new some is adds closed =
      (adds.0, one_deeper some ∙ rw (is, adds.1, closed) refl, adds.2)

-- ---- what follows the word that begins an atom
module _ (c : Context) (inside : Bool → Reader) (each : Bool) (at : ℕ) (opening : Opening) where
  pub source_is : (from : Source) → opening ≡ openings.Source from → said (compared c each from at) ≡ after_opening c inside each opening at
  unfolding after_opening
  source_is from is = ap (λ (o : Opening). after_opening c inside each o at) (sym is)

  pub hart_is : (who : Subject) → opening ≡ openings.Hart who → said (said_of c false who at) ≡ after_opening c inside each opening at
  unfolding after_opening
  hart_is who is = ap (λ (o : Opening). after_opening c inside each o at) (sym is)

  pub count_is : opening ≡ openings.Count → counted_at c inside at ≡ after_opening c inside each opening at
  unfolding after_opening
  count_is is = ap (λ (o : Opening). after_opening c inside each o at) (sym is)

  pub quantifier_is : (quantifier : Quantifier) → opening ≡ openings.Quantifier quantifier → quantified_at c inside quantifier at ≡ after_opening c inside each opening at
  unfolding after_opening
  quantifier_is quantifier is = ap (λ (o : Opening). after_opening c inside each o at) (sym is)

or_chain : (c : Context) (inside : Bool → Reader) (each : Bool) (at : ℕ) → chain_with c And inside each at ≡ item_of c Or inside each at
unfolding item_of chain
or_chain c inside each at = refl

module _ (c : Context) (inside : Bool → Reader) (each : Bool) (at : ℕ) (joint : Joint) where
  pub or_item : joint ≡ Or → chain_with c And inside each at ≡ item_of c joint inside each at
  unfolding item_of
  or_item is = or_chain c inside each at ∙ ap (λ (j : Joint). item_of c j inside each at) (sym is)

  pub and_item : joint ≡ And → part c inside each at ≡ item_of c joint inside each at
  unfolding item_of
  and_item is = ap (λ (j : Joint). item_of c j inside each at) (sym is)

-- all words
pub whole_stops : (c : Context) (number : ℕ) → chain_of c Or MAX_PARENTHESES false 0 ≡ Err number → whole c ≡ Err number
unfolding whole
whole_stops c number is = rw is refl

pub whole_fails : (c : Context) (fault : WordFault) (old new : List Node) → Adds (Err fault) old new (chain_of c Or MAX_PARENTHESES false 0)
    → GivesNodes (Err fault) (whole c)
whole_fails c (At number) old new fails = whole_stops c number fails
whole_fails c NoMemory old new fails = tt

whole_read : (c : Context) (f : Formula) (end : ℕ) → chain_of c Or MAX_PARENTHESES false 0 ≡ Ok (f, end)
    → whole c ≡ (if end == length c.words then Ok f else Err end)
unfolding whole
whole_read c f end is = rw is refl

pub whole_left : (c : Context) (end : ℕ) (old new : List Node) → Adds (Ok end) old new (chain_of c Or MAX_PARENTHESES false 0) → (end == length c.words) ≡ false
    → whole c ≡ Err end
whole_left c end old new adds left = whole_read c adds.0 end adds.1 ∙ cond-false (end == length c.words) _ _ left

pub whole_given : (c : Context) (end : ℕ) (old new : List Node) → old ≡ [] → Adds (Ok end) old new (chain_of c Or MAX_PARENTHESES false 0)
    → (end == length c.words) ≡ true → (f : Formula) × (whole c ≡ Ok f) × (new ≡ nodes_of f)
whole_given c end old new none adds all =
    (adds.0, whole_read c adds.0 end adds.1 ∙ cond-true (end == length c.words) _ _ all, adds.2 ∙ ap (λ l. l ++ nodes_of adds.0) none)

pub words_count : (words : List Word) → length (word_pairs words) ≡ length words
words_count [] = refl
words_count (word ∷ words) = ap suc (words_count words)

pub ends_before : (words : List Word) (end : ℕ) → end < length words → (end == length (word_pairs words)) ≡ false
ends_before words end before = let long = words_count words in grind (arith, nat_tests)

pub ends_there : (words : List Word) (end : ℕ) → end ≤ length words → length words ≤ end → (end == length (word_pairs words)) ≡ true
ends_there words end before after = let long = words_count words in grind (arith, nat_tests)
