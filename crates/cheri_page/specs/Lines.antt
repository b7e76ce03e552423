-- What is told of numbers.
use Rattle.std.specs.Prelude.{List, ℕ, [], Option, Some, None}
use Rattle.number_lines.specs.Numbers.{range_answer, word_answer}
use Rattle.cheri_page.specs.declared.fault.Fault.TheVariants.{BadNumber}
use Rattle.cheri_page.specs.Answers.{Told, IsTold}

-- the line that answers numbers, or that one of them is none
abbrev pub told_of_line : Option (List ℕ) → Told
told_of_line (Some text) = record { text = text; fault = None }
told_of_line None = record { text = []; fault = Some BadNumber }

abbrev pub IsRangeTold : List ℕ → List ℕ → Told → Type 0
IsRangeTold base len told = IsTold (told_of_line (range_answer base len)) told

abbrev pub IsWordTold : List ℕ → Told → Type 0
IsWordTold word told = IsTold (told_of_line (word_answer word)) told
