-- What is answered is what is to be said of a search.
use Rattle.std.proofs.Common.{◌≡◌, ℕ, ◌<◌, ◌≤◌, List, [], ◌∷◌, Bool, true, false, Option, Some, None, Result, Ok, Err, IfOk, refl, sym, ◌∙◌, subst, string_bytes}
use Rattle.cheri_model.specs.declared.operation.Op.{Op}
use Rattle.cheri_model.specs.runs.Image.{ImageParts}
use Rattle.cheri_model.specs.runs.Machine.{MachineState}
use Rattle.conditions.specs.declared.parts.Node.{Node}
use Rattle.conditions.specs.Holding.{holds}
use Rattle.schedules.specs.declared.ranges.SweepRange.{SweepRange}
use Rattle.conditions.proofs.HiddenLemmas.{hidden_keeps}
use Rattle.explore_sights.specs.Sights.{hides, sight_of}
use Rattle.explore_sights.specs.declared.sights.Sight.TheVariants as sights
use Rattle.explore_turns.specs.Turns.{KeepsPassing}
use Rattle.order_texts.specs.OrderTexts.{orders_of}
use Rattle.shown_states.specs.declared.form.Ending.{Ending}
use Rattle.shown_states.specs.declared.form.Ending.TheVariants.{Done, Unfinished, Nowhere}
use Rattle.shown_states.specs.declared.form.Format.{Format}
use Rattle.states.specs.Kept.{KeptParts, count, at, IsKeptOf, IsSearch, IsWitnessOrder, IsFirstPassing, IsWhole}
use Rattle.states.specs.Searches.{SearchParts}
use Rattle.found_texts.specs.FoundTexts.{found, absent_ending}
use Rattle.found_texts.specs.FoundTexts as texts
use Rattle.found_texts.specs.Find.{IsLed, IsShortened, IsShown, Says, IsFindAnswer}
use Rattle.found_texts.specs.declared.finding.Told.{Told}

pub led_witness : (every : Bool) (condition : List Node) (kept : KeptParts) (number : ℕ) (order : List Op) (state : MachineState)
    → at kept number ≡ Some state → IsWitnessOrder kept.image kept.sweeps kept.sight state order
    → ((s : MachineState) → at kept number ≡ Some s → holds s condition ≡ true)
    → IsLed every condition kept number order state
led_witness every condition kept number order state there witness passes = record {
  shortened = record {
    allowed = witness.allowed;
    run = (witness.legal, witness.leads);
    holding = passes state there;
  };
  least = λ asked. (there, witness);
}

pub led_shortened : (every : Bool) (condition : List Node) (kept : KeptParts) (number : ℕ) (order : List Op) (state : MachineState)
    (image : ImageParts) (sweeps : List SweepRange) → every ≡ false → kept.image ≡ image → kept.sweeps ≡ sweeps
    → IsShortened image condition sweeps order state → IsLed every condition kept number order state
led_shortened every condition kept number order state image sweeps fails image_is sweeps_are short = record {
  shortened = subst (λ (i : ImageParts). IsShortened i condition kept.sweeps order state) (sym image_is)
      (subst (λ (v : List SweepRange). IsShortened image condition v order state) (sym sweeps_are) short);
  least = λ asked. let clash : false ≡ true = sym fails ∙ asked in absurd (cc);
}

pub shown_is : (every : Bool) (condition : List Node) (format : Format) (kept : KeptParts) (number : ℕ) (state : MachineState)
    (image : ImageParts) (order : List Op) (orders : List (List Op)) (text : List ℕ) → IsLed every condition kept number order state
    → image ≡ kept.image → orders ≡ order ∷ [] → text ≡ found format image order state
    → IsShown every condition format kept number orders text
shown_is every condition format kept number state image order orders text led image_is told text_is = record {
  state = state;
  order = order;
  led = led;
  told = told;
  text_is = text_is ∙ rw image_is refl;
}

pub passing_first : (kept : KeptParts) (passing : MachineState → Bool) (found : Option ℕ) (k : ℕ) → IsFirstPassing kept passing found
    → found ≡ Some k → (k < count kept) × ((s : MachineState) → at kept k ≡ Some s → passing s ≡ true)
passing_first kept passing found k first is =
    let so : IsFirstPassing kept passing (Some k) = subst (λ (o : Option ℕ). IsFirstPassing kept passing o) is first in (so.0, so.1)

pub answer_is : (search : SearchParts) (kept : KeptParts) (condition : List Node) (format : Format) (number : Option ℕ)
    (orders : List (List Op)) (text : List ℕ) (ending : Ending) → IsKeptOf search (sights.Condition condition) kept → IsSearch kept
    → kept.limit ≤ search.limit → IsFirstPassing kept (λ s. holds s condition) number → (number ≡ None → IsWhole kept search.limit)
    → Says search.every_step condition format kept number orders text ending → IsFindAnswer search condition format orders text ending
answer_is search kept condition format number orders text ending kept_of searched within first whole says = record {
  kept = kept;
  kept_of = kept_of;
  searched = searched;
  within = within;
  number = number;
  first = first;
  whole = whole;
  says = says;
}

pub nowhere_complete : (complete : Bool) (ending : Ending) → ending ≡ absent_ending complete → ending ≡ Nowhere → complete ≡ true
nowhere_complete true ending is none = refl
nowhere_complete false ending is none = let clash : Unfinished ≡ Nowhere = sym is ∙ none in cc

-- a state that was found, or none
pub found_answers : {E : Type 0} (every : Bool) (condition : List Node) (format : Format) (kept : KeptParts) (found : Option ℕ)
    (number : ℕ) (state : MachineState) (image : ImageParts) (order : List Op) (result : Result Told E) → found ≡ Some number
    → IsLed every condition kept number order state → image ≡ kept.image
    → IfOk result (λ told. (orders_of told.orders.items ≡ order ∷ [])
    × (string_bytes told.answer.text ≡ texts.found format image order state)) → IfOk result (λ told. told.answer.ending ≡ Done)
    → IfOk result (λ told. Says every condition format kept found (orders_of told.orders.items) (string_bytes told.answer.text)
    told.answer.ending)
found_answers every condition format kept found number state image order (Ok told) is led image_is says done =
    subst (λ (o : Option ℕ). Says every condition format kept o (orders_of told.orders.items) (string_bytes told.answer.text)
    told.answer.ending) (sym is)
    (shown_is every condition format kept number state image order _ _ led image_is says.0 says.1, done)
found_answers every condition format kept found number state image order (Err fault) is led image_is says done = tt

pub done_somewhere : {E : Type 0} (P : Type 0) (result : Result Told E) → IfOk result (λ told. told.answer.ending ≡ Done)
    → IfOk result (λ told. told.answer.ending ≡ Nowhere → P)
done_somewhere P (Ok told) done = λ none. let clash : Done ≡ Nowhere = sym done ∙ none in absurd (cc)
done_somewhere P (Err fault) done = tt

pub none_answers : {E : Type 0} (every : Bool) (condition : List Node) (format : Format) (kept : KeptParts) (found : Option ℕ)
    (result : Result Told E) → found ≡ None
    → IfOk result (λ told. Says every condition format kept None (orders_of told.orders.items) (string_bytes told.answer.text)
    told.answer.ending)
    → IfOk result (λ told. Says every condition format kept found (orders_of told.orders.items) (string_bytes told.answer.text)
    told.answer.ending)
none_answers {E} every condition format kept found result is says =
    subst (λ (o : Option ℕ). IfOk result (λ told. Says every condition format kept o (orders_of told.orders.items)
    (string_bytes told.answer.text) told.answer.ending)) (sym is) says

pub none_nowhere : {E : Type 0} (kept : KeptParts) (found : Option ℕ) (result : Result Told E) → found ≡ None
    → IfOk result (λ told. told.answer.ending ≡ Nowhere → kept.complete ≡ true)
    → IfOk result (λ told. told.answer.ending ≡ Nowhere → (found ≡ None) × (kept.complete ≡ true))
none_nowhere kept found (Ok told) is all = λ ended. (is, all ended)
none_nowhere kept found (Err fault) is all = tt

-- a condition still holds after a step that the search doesn't see
seen : (condition : List Node) → KeepsPassing (hides sights.EveryStep) (λ s. holds s condition)
unfolding hides
seen condition s l before after here hidden passes = absurd (cc)

unseen : (condition : List Node) → KeepsPassing (hides (sights.Condition condition)) (λ s. holds s condition)
unfolding hides
unseen condition s l before after here hidden passes = hidden_keeps condition before after s l hidden here passes

pub unseen_by : (every : Bool) (condition : List Node) → KeepsPassing (hides (sight_of every (sights.Condition condition)))
    (λ s. holds s condition)
unseen_by true condition = seen condition
unseen_by false condition = unseen condition
