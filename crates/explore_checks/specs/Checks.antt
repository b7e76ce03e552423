-- What the search for what violates properties answers.
use Rattle.std.specs.Prelude.{◌≡◌, ℕ, Bool, true, false, ◌||◌}
use Rattle.std.specs.Prelude.{if◌then◌else◌, List, [], ◌∷◌, ◌++◌, Option}
use Rattle.std.specs.Prelude.{Some, None}
use Rattle.std.specs.List.{list_all}
use Rattle.cheri_model.specs.declared.operation.Op.{Op}
use Rattle.explore_checks.specs.CheckTexts.{checked}
use Rattle.explore_checks.specs.declared.searching.Searched.{Searched}
use Rattle.explore_properties.specs.Properties.{PropertyParts}
use Rattle.explore_properties.specs.declared.claims.Claim.{Claim}
use Rattle.explore_properties.specs.declared.claims.Claim.TheVariants as claim
use Rattle.explore_sights.specs.declared.sights.Sight.TheVariants as sights
use Rattle.explore_verdicts.specs.Deciding.{watches_of}
use Rattle.explore_verdicts.specs.Verdicts.{AreVerdicts, IsStateVerdict}
use Rattle.explore_verdicts.specs.declared.verdict.PropertyVerdict.{PropertyVerdict}
use Rattle.explore_verdicts.specs.declared.verdict.Verdict.{Verdict}
use Rattle.explore_verdicts.specs.declared.verdict.Verdict.TheVariants.{Holds, HoldsAfter, Violated}
use Rattle.explore_verdicts.specs.declared.verdict.Verdict.TheVariants.{ViolatedAfter, ViolatedBy}
use Rattle.explore_verdicts.specs.declared.verdict.Verdict.TheVariants.{Unknown}
use Rattle.shown_states.specs.declared.form.Ending.{Ending}
use Rattle.shown_states.specs.declared.form.Ending.TheVariants as endings
use Rattle.shown_states.specs.declared.form.Format.{Format}
use Rattle.state_loops.specs.Endless.{IsEndless}
use Rattle.state_loops.specs.declared.endless.Endless.{Endless}
use Rattle.states.specs.Kept.{KeptParts, count, IsKeptOf, IsSearch}
use Rattle.states.specs.Searches.{SearchParts}

-- ---- how an answer ends

abbrev pub is_violated : Verdict → Bool
is_violated Holds = false
is_violated (HoldsAfter order) = false
is_violated Violated = true
is_violated (ViolatedAfter order) = true
is_violated (ViolatedBy lasso) = true
is_violated Unknown = false

abbrev pub is_known : Verdict → Bool
is_known Holds = true
is_known (HoldsAfter order) = true
is_known Violated = true
is_known (ViolatedAfter order) = true
is_known (ViolatedBy lasso) = true
is_known Unknown = false

-- the line of the first that is violated, if one is
unfoldable pub first_violated : List PropertyVerdict → Option ℕ
first_violated [] = None
first_violated (told ∷ rest) =
    if is_violated told.verdict then Some told.property.now.line else first_violated rest

abbrev pub are_known : List PropertyVerdict → Bool
are_known verdicts = list_all (λ told. is_known told.verdict) verdicts

abbrev pub ending_with : Option ℕ → Bool → Ending
ending_with (Some line) known = endings.Violated line
ending_with None known = if known then endings.Done else endings.Unfinished

abbrev pub ending_of : List PropertyVerdict → Ending
ending_of verdicts = ending_with (first_violated verdicts) (are_known verdicts)

-- ---- the orders that an answer tells of

-- the order that violates a property, if one does: that of a run which goes on for ever goes once
-- through its loop
abbrev pub order_against : Verdict → List (List Op)
order_against Holds = []
order_against (HoldsAfter order) = []
order_against Violated = []
order_against (ViolatedAfter order) = order.items ∷ []
order_against (ViolatedBy lasso) = (lasso.order.items ++ lasso.cycle.items) ∷ []
order_against Unknown = []

-- those of all properties, in the order of their lines
unfoldable pub orders_against : List PropertyVerdict → List (List Op)
orders_against [] = []
orders_against (told ∷ rest) = order_against told.verdict ++ orders_against rest

-- ---- the answer

-- a property asks whether runs go on for ever
abbrev pub asks_of_loops : Claim → Bool
asks_of_loops (claim.Holds when condition) = false
asks_of_loops claim.Ends = true
asks_of_loops claim.EndsFairly = true

-- one of them does
unfoldable pub one_asks : List PropertyParts → Bool
one_asks [] = false
one_asks (property ∷ properties) = asks_of_loops property.claim || one_asks properties

-- What one search found for all properties: the kept states, where it passed over none that decides
-- one of them, and, where one asks it, whether runs through them can go on for ever.
pub record IsSearched (search : SearchParts) (properties : List PropertyParts) (kept : KeptParts)
    (endless : Endless) : Type 0 where
  pub kept_of : IsKeptOf search (sights.Watches (watches_of properties)) kept
  pub limit_is : kept.limit ≡ search.limit
  pub searched : IsSearch kept
  pub forever : one_asks properties ≡ true → IsEndless kept endless

abbrev pub IsFound : SearchParts → List PropertyParts → Searched → Type 0
IsFound search properties found = IsSearched search properties found.kept found.endless

-- The answer, with the orders that it tells of: the verdict on each property, by that search, in
-- the order of their lines.
pub record IsCheckAnswer (search : SearchParts) (properties : List PropertyParts)
    (format : Format) (orders : List (List Op)) (text : List ℕ) (ending : Ending) : Type 0 where
  pub kept : KeptParts
  pub endless : Endless
  pub searched : IsSearched search properties kept endless
  pub verdicts : List PropertyVerdict
  pub are : AreVerdicts (IsStateVerdict kept) endless properties verdicts
  pub text_is : text ≡ checked format kept.complete kept.image (count kept) verdicts
  pub ending_is : ending ≡ ending_of verdicts
  pub orders_are : orders ≡ orders_against verdicts
