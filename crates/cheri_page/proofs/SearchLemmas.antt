-- What is told of a question, from what was answered to it.
use Rattle.std.proofs.Common.{◌≡◌, ◌∙◌, ap, subst, ℕ, List, [], Option, Result, inl, inr}
use Rattle.std.specs.Prelude.{Some, None, Ok, Err}
use Rattle.asm_map_reader.specs.Words.{text_of}
use Rattle.sinks.specs.Sinks.{Memory}
use Rattle.page_searches.specs.Answered.{Answer as Said, Gives, answer_of}
use Rattle.page_searches.specs.declared.fault.SearchFault.{SearchFault}
use Rattle.page_searches.specs.Drawn.{IsSampleAnswer}
use Rattle.page_searches.specs.declared.drawn.Drawn.{Drawn}
use Rattle.page_searches.specs.Answered.{IsCheckedAnswer, IsFoundAnswer, IsOutcomesAnswer, IsRowsAnswer}
use Rattle.cheri_page.specs.declared.answer.Answer.{Answer}
use Rattle.cheri_page.specs.declared.fault.Fault.{Fault}
use Rattle.cheri_page.specs.declared.fault.Fault.TheVariants.{BadText}
use Rattle.cheri_page.specs.Faults.{search_fault}
use Rattle.cheri_page.specs.Answers.{Told, Answers, IsTold}
use Rattle.cheri_page.specs.Searches.{IsAnswerTold, IsAskedTold, IsFoundTold, IsOutcomesTold, IsRowsTold, IsSampleTold, IsVerdictsTold, told_of}
use Rattle.cheri_page.proofs.RunLemmas.{says_more}

-- ---- what is told of what was given back

told_same : (meant other told : Told) → meant ≡ other → IsTold meant told → IsTold other told
told_same meant other told same (inl none) = inl none
told_same meant other told same (inr is) = inr (is ∙ same)

pub text_told : (said : Memory) (bytes old new : List ℕ) (answer : Answer) → bytes ≡ said.bytes
    → Answers (IsTold (record { text = bytes; fault = None })) old new answer → Answers (IsTold (told_of (answer_of (Ok said)))) old new answer
unfolding told_of
text_told said bytes old new answer is so =
    says_more _ _ old new answer (λ told. told_same _ _ told (ap (λ (b : List ℕ). record { text = b; fault = None }) is)) so

pub fault_told : (refused : SearchFault) (fault : Fault) (old new : List ℕ) (answer : Answer) → fault ≡ search_fault refused
    → Answers (IsTold (record { text = []; fault = Some fault })) old new answer → Answers (IsTold (told_of (answer_of (Err refused)))) old new answer
unfolding told_of
fault_told refused fault old new answer is so =
    says_more _ _ old new answer (λ told. told_same _ _ told (ap (λ (f : Fault). record { text = []; fault = Some f }) is)) so

answer_so : (IsSo : Said → Type 0) (asked : Result Memory SearchFault) (told : Told) → Gives asked IsSo → IsTold (told_of (answer_of asked)) told
    → IsAnswerTold IsSo told
unfolding told_of search_fault
answer_so IsSo asked told gives (inl none) = inl none
answer_so IsSo (Ok said) told gives (inr is) = inr (Ok said.bytes, gives, is)
answer_so IsSo (Err fault) told (inl none) (inr is) = inl (is ∙ ap (λ (f : SearchFault). told_of (Err f)) none)
answer_so IsSo (Err fault) told (inr gives) (inr is) = inr (Err fault, gives, is)

-- beside a text
beside : (IsSo : List ℕ → Said → Type 0) (bytes text : List ℕ) (told : Told) → Some text ≡ text_of bytes
    → IsAnswerTold (IsSo text) told → IsAskedTold IsSo (text_of bytes) told
beside IsSo bytes text told is so = subst (λ (t : Option (List ℕ)). IsAskedTold IsSo t told) is so

untold : (IsSo : List ℕ → Said → Type 0) (bytes : List ℕ) (told : Told) → None ≡ text_of bytes
    → IsTold (record { text = []; fault = Some BadText }) told → IsAskedTold IsSo (text_of bytes) told
untold IsSo bytes told is so = subst (λ (t : Option (List ℕ)). IsAskedTold IsSo t told) is so

module _ (listing : List ℕ) (limit : ℕ) (asked : Result Memory SearchFault) (old new : List ℕ) (answer : Answer) where
  pub outcomes_told : Gives asked (IsOutcomesAnswer listing limit) → Answers (IsTold (told_of (answer_of asked))) old new answer
      → Answers (IsOutcomesTold listing limit) old new answer
  unfolding IsOutcomesTold
  outcomes_told gives said =
      says_more _ _ old new answer (λ told so. answer_so (IsOutcomesAnswer listing limit) asked told gives so) said

  pub verdicts_told : Gives asked (IsCheckedAnswer listing limit) → Answers (IsTold (told_of (answer_of asked))) old new answer
      → Answers (IsVerdictsTold listing limit) old new answer
  unfolding IsVerdictsTold
  verdicts_told gives said =
      says_more _ _ old new answer (λ told so. answer_so (IsCheckedAnswer listing limit) asked told gives so) said

  pub rows_told : (bytes text : List ℕ) → Some text ≡ text_of bytes → Gives asked (IsRowsAnswer listing text limit)
      → Answers (IsTold (told_of (answer_of asked))) old new answer → Answers (IsRowsTold listing bytes limit) old new answer
  unfolding IsRowsTold
  rows_told bytes text is gives said =
      says_more _ _ old new answer
      (λ told so. beside (λ (t : List ℕ). IsRowsAnswer listing t limit) bytes text told is (answer_so (IsRowsAnswer listing text limit) asked told gives so))
      said

  pub found_told : (bytes text : List ℕ) → Some text ≡ text_of bytes → Gives asked (IsFoundAnswer listing text limit)
      → Answers (IsTold (told_of (answer_of asked))) old new answer → Answers (IsFoundTold listing bytes limit) old new answer
  unfolding IsFoundTold
  found_told bytes text is gives said =
      says_more _ _ old new answer
      (λ told so. beside (λ (t : List ℕ). IsFoundAnswer listing t limit) bytes text told is (answer_so (IsFoundAnswer listing text limit) asked told gives so))
      said

pub sample_told : (listing : List ℕ) (drawn : Drawn) (asked : Result Memory SearchFault) (old new : List ℕ) (answer : Answer)
    → Gives asked (IsSampleAnswer listing drawn) → Answers (IsTold (told_of (answer_of asked))) old new answer
    → Answers (IsSampleTold listing drawn) old new answer
unfolding IsSampleTold
sample_told listing drawn asked old new answer gives said =
    says_more _ _ old new answer (λ told so. answer_so (IsSampleAnswer listing drawn) asked told gives so) said

module _ (listing bytes : List ℕ) (limit : ℕ) (old new : List ℕ) (answer : Answer) where
  pub rows_untold : None ≡ text_of bytes → Answers (IsTold (record { text = []; fault = Some BadText })) old new answer
      → Answers (IsRowsTold listing bytes limit) old new answer
  unfolding IsRowsTold
  rows_untold is said =
      says_more _ _ old new answer (λ told so. untold (λ (t : List ℕ). IsRowsAnswer listing t limit) bytes told is so) said

  pub found_untold : None ≡ text_of bytes → Answers (IsTold (record { text = []; fault = Some BadText })) old new answer
      → Answers (IsFoundTold listing bytes limit) old new answer
  unfolding IsFoundTold
  found_untold is said =
      says_more _ _ old new answer (λ told so. untold (λ (t : List ℕ). IsFoundAnswer listing t limit) bytes told is so) said

pub ruleset searched = (text_told, fault_told, outcomes_told, verdicts_told, sample_told, rows_told, found_told, rows_untold, found_untold)
