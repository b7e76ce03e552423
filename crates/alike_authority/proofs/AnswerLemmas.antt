-- What was found is an answer.
use Rattle.std.proofs.Common.{◌≡◌, ℕ, List, length, Option, Result, Ok, Err, IfOk, IfErr, refl, ap, ◌∙◌, sym, subst}
use Rattle.std.specs.Prelude.{Bool, true, IfSome, slice_get, Vec}
use Rattle.std.specs.Global.{Global}
use Rattle.authority_texts.specs.declared.told.Told.{Told}
use Rattle.cheri_model.specs.runs.Image.{ImageParts}
use Rattle.explore_sights.specs.declared.sights.Sight.TheVariants as sight
use Rattle.forgotten_states.specs.Surveys.{IsSurvey, IsSurveyOf, SurveyParts, count}
use Rattle.hart_exchanges.specs.Exchanges.{AreEqual, AreGroupsEqual}
use Rattle.live_registers.specs.LiveSets.{LiveSets}
use Rattle.live_registers.specs.RegisterSets.{has}
use Rattle.reductions.specs.Reductions.{left_out_of}
use Rattle.reductions.specs.declared.reduction.LeftOut.{LeftOut}
use Rattle.shown_states.specs.Endings.{IsUnwritten, IsWritten, ending_of}
use Rattle.shown_states.specs.declared.form.Ending.{Ending}
use Rattle.shown_states.specs.declared.form.Format.{Format}
use Rattle.sinks.specs.declared.fault.WriteFault.{WriteFault}
use Rattle.sinks.specs.declared.fault.WriteFault.TheVariants.{NoMemory, Write}
use Rattle.states.specs.Searches.{SearchParts}
use Rattle.alike_authority.specs.AlikeAuthority.{IsAlikeAnswer, IsHartList, IsMemoryList, head_of}
use Rattle.alike_authority.specs.AlikeAuthorityTexts.{HeadParts, alike_said, parts_of}
use Rattle.alike_authority.specs.GroupRights.{IsWhole}

module _ (search : SearchParts) (live : LiveSets) (groups : List ℕ) (survey : SurveyParts)
    (of : IsSurveyOf search sight.Rights live groups survey) where
  pub asked_there : ((reg : ℕ) → has live.asked reg ≡ true) → (reg : ℕ) → has survey.live.asked reg ≡ true
  asked_there asked reg = ap (λ (l : LiveSets). has l.asked reg) of.live_is ∙ asked reg

  pub whole_there : AreGroupsEqual search.image.harts groups → ((reg : ℕ) → has live.asked reg ≡ true) → IsWhole survey groups
  whole_there equal asked = record {
    groups_are = of.groups_are;
    equal = λ one other grouped.
        subst (λ (image : ImageParts). AreEqual image.harts one other) (sym of.image_is) (equal one other grouped);
    asked = λ reg. asked_there asked reg;
  }

  pub head_is : (left_out : LeftOut) (complete : Bool) (image : ImageParts) (states : ℕ) → left_out ≡ left_out_of live groups →
      complete ≡ survey.complete → image ≡ survey.image → states ≡ count survey →
      parts_of left_out complete image states ≡ head_of live groups survey
  head_is left_out complete image states one two three four = rw (one, two, three, four) refl

  pub answer_is : (is : IsSurvey survey) (format : Format) (head : HeadParts) (harts : List (Vec Told Global)) (memory : List Told)
      (text : List ℕ) (ending : Ending) → head ≡ head_of live groups survey → length harts ≡ length survey.image.harts →
      ((hart : ℕ) → IfSome (slice_get harts hart) (λ told. IsHartList survey hart told.items)) → IsMemoryList survey memory →
      text ≡ alike_said format head harts memory → ending ≡ ending_of survey.complete →
      IsAlikeAnswer search live groups format text ending
  answer_is is format head harts memory text ending head_so count lists own text_is ending_is = record {
    survey = survey;
    survey_is = of;
    nodes = is;
    harts = harts;
    memory = memory;
    one_each = count;
    of_hart = λ hart told there.
        subst (λ (o : Option (Vec Told Global)). IfSome o (λ t. IsHartList survey hart t.items)) there (lists hart);
    of_memory = own;
    text_is = text_is ∙ ap (λ (h : HeadParts). alike_said format h harts memory) head_so;
    ending_is = ending_is;
  }

-- a sink has one answer where it has another that is one
pub written_as : (IsSo IsToo : List ℕ → Ending → Type 0) (result : Result Ending WriteFault) (old new : Option (List ℕ)) →
    ((text : List ℕ) (ending : Ending) → IsSo text ending → IsToo text ending) →
    IfOk result (λ ending. IsWritten (λ text. IsSo text ending) old new) →
    IfOk result (λ ending. IsWritten (λ text. IsToo text ending) old new)
written_as IsSo IsToo (Ok ending) old new also is = (is.0, also is.0 ending is.1, is.2)
written_as IsSo IsToo (Err fault) old new also is = tt

pub begun_as : (IsSo IsToo : List ℕ → Ending → Type 0) (result : Result Ending WriteFault) (old new : Option (List ℕ)) →
    ((text : List ℕ) (ending : Ending) → IsSo text ending → IsToo text ending) →
    IfErr result (IsUnwritten (λ text. (ending : Ending) × IsSo text ending) old new) →
    IfErr result (IsUnwritten (λ text. (ending : Ending) × IsToo text ending) old new)
begun_as IsSo IsToo (Ok ending) old new also is = tt
begun_as IsSo IsToo (Err Write) old new also is = (is.0, (is.1.0, also is.0 is.1.0 is.1.1), is.2)
begun_as IsSo IsToo (Err NoMemory) old new also is = is
