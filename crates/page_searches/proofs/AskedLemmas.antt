-- What was asked, and so what is answered, from what was read of a listing and of a text beside it.
use Rattle.std.proofs.Common.{◌≡◌, ◌∙◌, ℕ, ◌<◌, List, map, Result, refl, sym, ap, arith, subst, inl, inr}
use Rattle.std.proofs.lemmas.Bool.Decides.{nat_tests}
use Rattle.std.specs.Prelude.{◌⊎◌, ◌==◌, false, Ok, Err}
use Rattle.cheri_model.specs.runs.Image.{ImageParts}
use Rattle.condition_texts.specs.Conditions.{condition_of, GivesCondition}
use Rattle.condition_texts.specs.Items.{items_of, GivesItems}
use Rattle.condition_texts.specs.declared.fault.TextFault.{TextFault}
use Rattle.condition_texts.specs.declared.fault.TextFault.TheVariants as texts
use Rattle.conditions.specs.Items.{ItemList}
use Rattle.conditions.specs.declared.parts.Node.{Node}
use Rattle.explore_properties.specs.Properties.{PropertiesParts, PropertyParts}
use Rattle.explore_properties.specs.Reading.{properties_of, GivesPlace}
use Rattle.explore_properties.specs.declared.fault.PropertyFault.{PropertyFault}
use Rattle.explore_properties.specs.declared.fault.PropertyFault.TheVariants as properties
use Rattle.explore_properties.specs.declared.fault.PropertyPlace.{PropertyPlace}
use Rattle.grammar.specs.Labels.{LabelParts, labels_of}
use Rattle.listings.specs.Faults.{no_memory}
use Rattle.listings.specs.Meaning.{listing_meaning}
use Rattle.listings.specs.declared.fault.ListingFault.{ListingFault}
use Rattle.schedules.specs.declared.ranges.SweepRange.{SweepRange}
use Rattle.states.specs.Searches.{SearchParts}
use Rattle.page_searches.specs.Answered.{IsAnswer, AreOutcomes, AreRows, AreVerdicts, IsFound, IsCheckedAnswer, IsFoundAnswer, IsOutcomesAnswer, IsRowsAnswer}
use Rattle.page_searches.specs.Asked.{check_asked, find_asked, image_search, range_of, rows_asked, search_asked, swept, turns_of, with_items, with_nodes, with_properties}
use Rattle.page_searches.specs.Faults.{listing_fault, property_fault, text_fault}
use Rattle.page_searches.specs.declared.fault.SearchFault.{SearchFault}
use Rattle.page_searches.specs.declared.fault.SearchFault.TheVariants.{NoMemory, Limit, Condition, Item, Property}

-- ---- the search of a listing

pub limit_refused : (listing : List ℕ) (limit : ℕ) → limit ≡ 0 → search_asked listing limit ≡ Err Limit
unfolding search_asked
limit_refused listing limit is = rw is refl

not_none : (limit : ℕ) → 0 < limit → (limit == 0) ≡ false
not_none limit some = grind (arith, nat_tests)

above : (listing : List ℕ) (limit : ℕ) → 0 < limit → search_asked listing limit ≡ image_search limit (listing_meaning listing)
unfolding search_asked
above listing limit some = rw (not_none limit some) refl

pub image_asked : (listing : List ℕ) (limit : ℕ) (image : ImageParts) → 0 < limit → listing_meaning listing ≡ Ok image
    → search_asked listing limit ≡ Ok (turns_of image limit)
image_asked listing limit image some means = above listing limit some ∙ ap (image_search limit) means

pub listing_refused : (listing : List ℕ) (limit : ℕ) (refused : ListingFault) (fault : SearchFault) → 0 < limit → fault ≡ listing_fault refused
    → (refused ≡ no_memory) ⊎ (listing_meaning listing ≡ Err refused) → (fault ≡ NoMemory) ⊎ (search_asked listing limit ≡ Err fault)
listing_refused listing limit refused fault some is (inl none) = inl (is ∙ ap listing_fault none)
listing_refused listing limit refused fault some is (inr means) =
    inr (above listing limit some ∙ (ap (image_search limit) means ∙ ap (λ (f : SearchFault). Err f) (sym is)))

-- ---- what is answered to what was asked

answered : {X : Type 0} (answers : X → List ℕ → Type 0) (meaning : Result X SearchFault) (asked : X) (text : List ℕ)
    → meaning ≡ Ok asked → answers asked text → IsAnswer answers meaning (Ok text)
answered {X} answers meaning asked text is so =
    subst (λ (m : Result X SearchFault). IsAnswer answers m (Ok text)) (sym is) so

refused : {X : Type 0} (answers : X → List ℕ → Type 0) (meaning : Result X SearchFault) (fault : SearchFault)
    → meaning ≡ Err fault → IsAnswer answers meaning (Err fault)
refused {X} answers meaning fault is =
    subst (λ (m : Result X SearchFault). IsAnswer answers m (Err fault)) (sym is) refl

-- ---- `outcomes`

module _ (listing : List ℕ) (limit : ℕ) where
  pub outcomes_refused : (fault : SearchFault) → (fault ≡ NoMemory) ⊎ (search_asked listing limit ≡ Err fault)
      → (fault ≡ NoMemory) ⊎ IsOutcomesAnswer listing limit (Err fault)
  outcomes_refused fault (inl none) = inl none
  outcomes_refused fault (inr is) = inr (refused AreOutcomes (search_asked listing limit) fault is)

  pub outcomes_answered : (image : ImageParts) (search : SearchParts) (text : List ℕ) → search_asked listing limit ≡ Ok (turns_of image limit)
      → search ≡ turns_of image limit → AreOutcomes search text → IsOutcomesAnswer listing limit (Ok text)
  outcomes_answered image search text is same so =
      answered AreOutcomes (search_asked listing limit) (turns_of image limit) text is (subst (λ (s : SearchParts). AreOutcomes s text) same so)

-- ---- with items

module _ (listing items : List ℕ) (limit : ℕ) where
  rows_meant : (image : ImageParts) (meaning : Result ItemList ℕ) → search_asked listing limit ≡ Ok (turns_of image limit)
      → items_of image items ≡ meaning → rows_asked listing items limit ≡ with_items (turns_of image limit) meaning
  unfolding rows_asked
  rows_meant image meaning is means = rw is (ap (with_items (turns_of image limit)) means)

  rows_unasked : (fault : SearchFault) → search_asked listing limit ≡ Err fault → rows_asked listing items limit ≡ Err fault
  unfolding rows_asked
  rows_unasked fault is = rw is refl

  pub rows_refused : (fault : SearchFault) → (fault ≡ NoMemory) ⊎ (search_asked listing limit ≡ Err fault)
      → (fault ≡ NoMemory) ⊎ IsRowsAnswer listing items limit (Err fault)
  rows_refused fault (inl none) = inl none
  rows_refused fault (inr is) = inr (refused AreRows (rows_asked listing items limit) fault (rows_unasked fault is))

  pub items_refused : (image : ImageParts) (why : TextFault) → search_asked listing limit ≡ Ok (turns_of image limit)
      → GivesItems (Err why) (items_of image items)
      → (text_fault why ≡ NoMemory) ⊎ IsRowsAnswer listing items limit (Err (text_fault why))
  items_refused image (texts.Place byte) is means =
      inr (refused AreRows (rows_asked listing items limit) (Item byte) (rows_meant image (Err byte) is means))
  items_refused image (texts.Condition byte) is means = absurd means
  items_refused image texts.NoMemory is means = inl refl

  pub rows_answered : (image : ImageParts) (search : SearchParts) (list : ItemList) (text : List ℕ)
      → search_asked listing limit ≡ Ok (turns_of image limit) → items_of image items ≡ Ok list → search ≡ turns_of image limit
      → AreRows (search, list) text → IsRowsAnswer listing items limit (Ok text)
  rows_answered image search list text is means same so =
      answered AreRows (rows_asked listing items limit) (turns_of image limit, list) text (rows_meant image (Ok list) is means)
      (subst (λ (s : SearchParts). AreRows (s, list) text) same so)

-- ---- `find`

module _ (listing condition : List ℕ) (limit : ℕ) where
  find_meant : (image : ImageParts) (labels : LabelParts) (meaning : Result (List Node) ℕ) → search_asked listing limit ≡ Ok (turns_of image limit)
      → labels ≡ labels_of listing → condition_of labels image condition ≡ meaning
      → find_asked listing condition limit ≡ with_nodes (turns_of image limit) meaning
  unfolding find_asked
  find_meant image labels meaning is known means =
      rw is (ap (with_nodes (turns_of image limit)) (ap (λ (ls : LabelParts). condition_of ls image condition) (sym known) ∙ means))

  find_unasked : (fault : SearchFault) → search_asked listing limit ≡ Err fault → find_asked listing condition limit ≡ Err fault
  unfolding find_asked
  find_unasked fault is = rw is refl

  pub find_refused : (fault : SearchFault) → (fault ≡ NoMemory) ⊎ (search_asked listing limit ≡ Err fault)
      → (fault ≡ NoMemory) ⊎ IsFoundAnswer listing condition limit (Err fault)
  find_refused fault (inl none) = inl none
  find_refused fault (inr is) = inr (refused IsFound (find_asked listing condition limit) fault (find_unasked fault is))

  pub condition_refused : (image : ImageParts) (labels : LabelParts) (why : TextFault) → search_asked listing limit ≡ Ok (turns_of image limit)
      → labels ≡ labels_of listing → GivesCondition (Err why) (condition_of labels image condition)
      → (text_fault why ≡ NoMemory) ⊎ IsFoundAnswer listing condition limit (Err (text_fault why))
  condition_refused image labels (texts.Condition byte) is known means =
      inr (refused IsFound (find_asked listing condition limit) (Condition byte) (find_meant image labels (Err byte) is known means))
  condition_refused image labels (texts.Place byte) is known means = absurd means
  condition_refused image labels texts.NoMemory is known means = inl refl

  pub find_answered : (image : ImageParts) (labels : LabelParts) (search : SearchParts) (nodes : List Node) (text : List ℕ)
      → search_asked listing limit ≡ Ok (turns_of image limit) → labels ≡ labels_of listing → condition_of labels image condition ≡ Ok nodes
      → search ≡ turns_of image limit → IsFound (search, nodes) text → IsFoundAnswer listing condition limit (Ok text)
  find_answered image labels search nodes text is known means same so =
      answered IsFound (find_asked listing condition limit) (turns_of image limit, nodes) text (find_meant image labels (Ok nodes) is known means)
      (subst (λ (s : SearchParts). IsFound (s, nodes) text) same so)

-- ---- `check`

module _ (listing : List ℕ) (limit : ℕ) where
  check_meant : (image : ImageParts) (labels : LabelParts) (meaning : Result PropertiesParts PropertyPlace)
      → search_asked listing limit ≡ Ok (turns_of image limit) → labels ≡ labels_of listing → properties_of labels image listing ≡ meaning
      → check_asked listing limit ≡ with_properties (turns_of image limit) meaning
  unfolding check_asked
  check_meant image labels meaning is known means =
      rw is (ap (with_properties (turns_of image limit)) (ap (λ (ls : LabelParts). properties_of ls image listing) (sym known) ∙ means))

  check_unasked : (fault : SearchFault) → search_asked listing limit ≡ Err fault → check_asked listing limit ≡ Err fault
  unfolding check_asked
  check_unasked fault is = rw is refl

  pub check_refused : (fault : SearchFault) → (fault ≡ NoMemory) ⊎ (search_asked listing limit ≡ Err fault)
      → (fault ≡ NoMemory) ⊎ IsCheckedAnswer listing limit (Err fault)
  check_refused fault (inl none) = inl none
  check_refused fault (inr is) = inr (refused AreVerdicts (check_asked listing limit) fault (check_unasked fault is))

  pub properties_refused : (image : ImageParts) (labels : LabelParts) (why : PropertyFault) → search_asked listing limit ≡ Ok (turns_of image limit)
      → labels ≡ labels_of listing → GivesPlace (Err why) (properties_of labels image listing)
      → (property_fault why ≡ NoMemory) ⊎ IsCheckedAnswer listing limit (Err (property_fault why))
  properties_refused image labels (properties.Place place) is known means =
      inr (refused AreVerdicts (check_asked listing limit) (Property place) (check_meant image labels (Err place) is known means))
  properties_refused image labels properties.NoMemory is known means = inl refl

  pub check_answered : (image : ImageParts) (labels : LabelParts) (read : PropertiesParts) (ranges : List SweepRange) (list : List PropertyParts)
      (text : List ℕ) → search_asked listing limit ≡ Ok (turns_of image limit) → labels ≡ labels_of listing
      → properties_of labels image listing ≡ Ok read → ranges ≡ map range_of read.sweeps → list ≡ read.properties
      → AreVerdicts (record (turns_of image limit) { sweeps = ranges }, list) text → IsCheckedAnswer listing limit (Ok text)
  check_answered image labels read ranges list text is known means swept_so list_is so =
      answered AreVerdicts (check_asked listing limit) (swept (turns_of image limit) read, read.properties) text
      (check_meant image labels (Ok read) is known means)
      (subst (λ (rs : List SweepRange). AreVerdicts (record (turns_of image limit) { sweeps = rs }, read.properties) text) swept_so
      (subst (λ (ps : List PropertyParts). AreVerdicts (record (turns_of image limit) { sweeps = ranges }, ps) text) list_is so))

pub ruleset searched = (limit_refused, image_asked, listing_refused)

pub ruleset asked = (outcomes_refused, outcomes_answered, rows_refused, items_refused, rows_answered, find_refused, condition_refused, find_answered, check_refused, properties_refused, check_answered)
