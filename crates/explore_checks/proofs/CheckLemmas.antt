-- What was found is an answer.
use Rattle.std.proofs.Common.{◌≡◌, ℕ, List, ◌∙◌, Bool, true, sym, subst}
use Rattle.std.specs.Prelude.{Option, None}
use Rattle.cheri_model.specs.declared.operation.Op.{Op}
use Rattle.cheri_model.specs.runs.Image.{ImageParts}
use Rattle.explore_checks.specs.ReducedChecks.{said_checked}
use Rattle.explore_checks.specs.Checks.{ending_of, IsCheckAnswer, IsSearched, one_asks, orders_against}
use Rattle.explore_properties.specs.Properties.{PropertyParts}
use Rattle.explore_sights.specs.declared.sights.Sight.{Sight}
use Rattle.explore_sights.specs.declared.sights.Sight.TheVariants as sights
use Rattle.explore_sights.specs.declared.watches.Watch.{Watch}
use Rattle.explore_verdicts.specs.Deciding.{AreSeen, watches_of}
use Rattle.explore_verdicts.specs.Verdicts.{AreVerdicts, IsStateVerdict}
use Rattle.explore_verdicts.specs.declared.verdict.PropertyVerdict.{PropertyVerdict}
use Rattle.explore_verdicts.proofs.WatchLemmas.{watches_seen}
use Rattle.reductions.specs.declared.reduction.LeftOut.{LeftOut}
use Rattle.shown_states.specs.declared.form.Ending.{Ending}
use Rattle.shown_states.specs.declared.form.Format.{Format}
use Rattle.state_loops.specs.Endless.{IsEndless, IsSame}
use Rattle.state_loops.specs.declared.endless.Endless.{Endless}
use Rattle.states.specs.Kept.{KeptParts, count, IsKeptOf, IsSearch}
use Rattle.states.specs.Searches.{SearchParts}

pub searched_is : (search : SearchParts) (properties : List PropertyParts) (watches : List Watch) (old kept : KeptParts) (endless : Endless)
    (asked : Bool) → watches ≡ watches_of properties → IsKeptOf search (sights.Watches watches) old → old.limit ≡ search.limit
    → IsSame old kept → IsSearch kept → asked ≡ one_asks properties → (asked ≡ true → IsEndless kept endless)
    → IsSearched search properties kept endless
searched_is search properties watches old kept endless asked watches_are kept_of limit_is same searched asked_is forever =
    let of = subst (λ (ws : List Watch). IsKeptOf search (sights.Watches ws) old) watches_are kept_of in
    record {
      kept_of = record {
        image_is = same.image ∙ of.image_is;
        sweeps_are = same.sweeps ∙ of.sweeps_are;
        sight_is = same.sight ∙ of.sight_is;
      };
      limit_is = same.limit ∙ limit_is;
      searched = searched;
      forever = λ asks. forever (asked_is ∙ asks);
    }

-- the search passed over no state that decides
pub searched_seen : (search : SearchParts) (properties : List PropertyParts) (kept : KeptParts) (endless : Endless)
    → IsSearched search properties kept endless → AreSeen kept.sight properties
searched_seen search properties kept endless searched =
    subst (λ (s : Sight). AreSeen s properties) (sym searched.kept_of.sight_is) (watches_seen search.every_step properties)

pub answer_is : (search : SearchParts) (properties : List PropertyParts) (format : Format) (kept : KeptParts) (endless : Endless)
    (verdicts told shown against : List PropertyVerdict) (reduced : Option LeftOut) (complete : Bool) (image : ImageParts) (states : ℕ) (orders : List (List Op))
    (text : List ℕ) (ending : Ending)
    → IsSearched search properties kept endless → AreVerdicts (IsStateVerdict kept) endless properties verdicts → told ≡ verdicts → shown ≡ verdicts
    → against ≡ verdicts → reduced ≡ None → complete ≡ kept.complete → image ≡ kept.image → states ≡ count kept
    → text ≡ said_checked reduced format complete image states told → ending ≡ ending_of shown → orders ≡ orders_against against
    → IsCheckAnswer search properties format orders text ending
answer_is search properties format kept endless verdicts told shown against reduced complete image states orders text ending searched are
    told_are shown_are against_are reduced_is complete_is image_is states_are text_is ending_is orders_are = record {
      kept = kept;
      endless = endless;
      searched = searched;
      verdicts = verdicts;
      are = are;
      text_is = rw (reduced_is, complete_is, image_is, states_are, told_are) at text_is;
      ending_is = rw shown_are at ending_is;
      orders_are = rw against_are at orders_are;
    }
