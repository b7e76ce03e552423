-- What is told of a question about the orders of a listing.
use Rattle.std.specs.Prelude.{◌≡◌, ◌⊎◌, ℕ, List, [], Option, Some, None, Ok, Err}
use Rattle.asm_map_reader.specs.Words.{text_of}
use Rattle.page_searches.specs.Answered.{Answer, IsCheckedAnswer, IsFoundAnswer}
use Rattle.page_searches.specs.Answered.{IsOutcomesAnswer, IsRowsAnswer}
use Rattle.page_searches.specs.Drawn.{IsSampleAnswer}
use Rattle.page_searches.specs.declared.drawn.Drawn.{Drawn}
use Rattle.cheri_page.specs.declared.fault.Fault.TheVariants.{BadText}
use Rattle.cheri_page.specs.Answers.{Told, IsTold, out_of_memory}
use Rattle.cheri_page.specs.Faults.{search_fault}

-- the text of an answer, or the fault of what should ask
unfoldable pub told_of : Answer → Told
told_of (Ok text) = record { text = text; fault = None }
told_of (Err fault) = record { text = []; fault = Some (search_fault fault) }

-- an answer is told of which this holds, or memory ran out
abbrev pub IsAnswerTold : (Answer → Type 0) → Told → Type 0
IsAnswerTold IsSo told =
    (told ≡ out_of_memory) ⊎ ((answer : Answer) × IsSo answer × (told ≡ told_of answer))

-- beside bytes that are no text nothing is asked
abbrev pub IsAskedTold : (List ℕ → Answer → Type 0) → Option (List ℕ) → Told → Type 0
IsAskedTold IsSo (Some text) told = IsAnswerTold (IsSo text) told
IsAskedTold IsSo None told = IsTold (record { text = []; fault = Some BadText }) told

-- how a listing can end
unfoldable pub IsOutcomesTold : List ℕ → ℕ → Told → Type 0
IsOutcomesTold listing limit told = IsAnswerTold (IsOutcomesAnswer listing limit) told

-- what items hold there
unfoldable pub IsRowsTold : List ℕ → List ℕ → ℕ → Told → Type 0
IsRowsTold listing items limit told =
    IsAskedTold (λ text. IsRowsAnswer listing text limit) (text_of items) told

-- whether a condition can hold
unfoldable pub IsFoundTold : List ℕ → List ℕ → ℕ → Told → Type 0
IsFoundTold listing condition limit told =
    IsAskedTold (λ text. IsFoundAnswer listing text limit) (text_of condition) told

-- whether the listing's properties hold
unfoldable pub IsVerdictsTold : List ℕ → ℕ → Told → Type 0
IsVerdictsTold listing limit told = IsAnswerTold (IsCheckedAnswer listing limit) told

-- what runs do in orders that are drawn by chance
unfoldable pub IsSampleTold : List ℕ → Drawn → Told → Type 0
IsSampleTold listing drawn told = IsAnswerTold (IsSampleAnswer listing drawn) told
