-- What the words of an atom write (this project's own format).
use Rattle.std.specs.Prelude.{ℕ, ◌^◌, nat_lt, if◌then◌else◌, List, [], ◌∷◌, Option, Some, None}
use Rattle.std.specs.Prelude.{codes}
use Rattle.std.specs.Result.{result_ok}
use Rattle.cap_model.specs.declared.perms.Perms.{Perms}
use Rattle.cheri_model.specs.instructions.Tables.{found_at}
use Rattle.grammar.specs.Permissions.{permissions_of}
use Rattle.conditions.specs.declared.parts.Comparison.{Comparison}
use Rattle.conditions.specs.declared.parts.Comparison.TheVariants.{Equal, NotEqual, Less, AtMost}
use Rattle.conditions.specs.declared.parts.Comparison.TheVariants.{Greater, AtLeast}
use Rattle.conditions.specs.declared.parts.StatusTest.{StatusTest}
use Rattle.conditions.specs.declared.parts.StatusTest.TheVariants.{Running, Halted, Trapped}
use Rattle.conditions.specs.declared.parts.StatusTest.TheVariants.{TrappedBy}
use Rattle.condition_texts.specs.Places.{number_in, ◌>>=◌}

abbrev pub comparison_table : List (List ℕ × Comparison)
comparison_table =
    (codes "=", Equal) ∷ (codes "!=", NotEqual) ∷ (codes "<", Less) ∷ (codes "<=", AtMost)
    ∷ (codes ">", Greater) ∷ (codes ">=", AtLeast) ∷ []

unfoldable pub comparison_of : List ℕ → Option Comparison
comparison_of word = found_at comparison_table word

-- a trap of any cause, or of one cause from 1 to 13, by its number or its name
abbrev pub status_table : List (List ℕ × StatusTest)
status_table =
    (codes "running", Running) ∷ (codes "halted", Halted) ∷ (codes "trapped", Trapped)
    ∷ (codes "trapped:1", TrappedBy 1) ∷ (codes "trapped:2", TrappedBy 2)
    ∷ (codes "trapped:3", TrappedBy 3) ∷ (codes "trapped:4", TrappedBy 4)
    ∷ (codes "trapped:5", TrappedBy 5) ∷ (codes "trapped:6", TrappedBy 6)
    ∷ (codes "trapped:7", TrappedBy 7) ∷ (codes "trapped:8", TrappedBy 8)
    ∷ (codes "trapped:9", TrappedBy 9) ∷ (codes "trapped:10", TrappedBy 10)
    ∷ (codes "trapped:11", TrappedBy 11) ∷ (codes "trapped:12", TrappedBy 12)
    ∷ (codes "trapped:13", TrappedBy 13)
    ∷ (codes "trapped:Tag", TrappedBy 1)
    ∷ (codes "trapped:Seal", TrappedBy 2)
    ∷ (codes "trapped:Execute", TrappedBy 3)
    ∷ (codes "trapped:Load", TrappedBy 4)
    ∷ (codes "trapped:Store", TrappedBy 5)
    ∷ (codes "trapped:StoreCap", TrappedBy 6)
    ∷ (codes "trapped:StoreLocal", TrappedBy 7)
    ∷ (codes "trapped:Length", TrappedBy 8)
    ∷ (codes "trapped:Align", TrappedBy 9)
    ∷ (codes "trapped:Place", TrappedBy 10)
    ∷ (codes "trapped:Fetch", TrappedBy 11)
    ∷ (codes "trapped:Type", TrappedBy 12)
    ∷ (codes "trapped:CInvoke", TrappedBy 13) ∷ []

unfoldable pub status_of : List ℕ → Option StatusTest
status_of word = found_at status_table word

-- an address, below 2^64
unfoldable pub address_in_word : List ℕ → Option ℕ
address_in_word word = do
  addr ← number_in word
  if nat_lt addr (2 ^ 64) then Some addr else None

unfoldable pub permissions_in : List ℕ → Option Perms
permissions_in word = result_ok (permissions_of word)
