-- What a search leaves out, and what an answer says where it does.
use Rattle.std.specs.Prelude.{◌≡◌, ℕ, ◌<◌, ◌≤◌, ◌==◌, nat_lt, ◌⊎◌, Bool, true, false, ◌&&◌, ◌||◌, not}
use Rattle.std.specs.Prelude.{List, length, Option, Some, None}
use Rattle.asked_registers.specs.Asked.{HasAsked, IsWith}
use Rattle.cheri_model.specs.runs.Image.{ImageParts}
use Rattle.hart_groups.specs.HartGroups.{AreGroups, any_grouped}
use Rattle.hart_order.specs.Arrangements.{IsUngrouped}
use Rattle.live_registers.specs.LiveSets.{IsRight, LiveSets, forgets_any}
use Rattle.named_harts.specs.NamedHarts.{has}
use Rattle.reductions.specs.declared.reduction.Keeps.{Keeps}
use Rattle.reductions.specs.declared.reduction.LeftOut.{LeftOut}
use Rattle.reductions.specs.declared.reduction.Reduction.{Reduction}
use Rattle.states.specs.Searches.{SearchParts}

-- Whether nothing may be left out: where all is to be kept, where every step is asked for, and where
-- there are sweeps.
abbrev pub keeps_all : Keeps → SearchParts → Bool
keeps_all keeps search =
    (keeps.registers && keeps.harts) || (search.every_step || not (length search.sweeps == 0))

-- the registers that are asked for: those of a question, or all, where all are to be kept
abbrev pub asks_by : Bool → (ℕ → Bool) → ℕ → Bool
asks_by true asks reg = nat_lt reg 32
asks_by false asks reg = asks reg

-- the same as sets
abbrev pub IsAskedBy : Bool → List Bool → List Bool → Type 0
IsAskedBy true asked set = IsWith asked (λ reg. nat_lt reg 32) set
IsAskedBy false asked set = set ≡ asked

-- The groups of harts that may change places: none, where harts are to be kept; else the harts of an
-- image that are the same to a question that names these.
abbrev pub IsGroupedBy : Bool → ImageParts → List Bool → List ℕ → Type 0
IsGroupedBy true image named groups = IsUngrouped groups
IsGroupedBy false image named groups =
    AreGroups image.harts named groups × (length image.harts ≤ 8)

-- the same where the question's names are a test
pub record IsGrouping (image : ImageParts) (names : ℕ → Bool) (groups : List ℕ) : Type 0 where
  pub named : List Bool
  pub are : (hart : ℕ) → hart < 8 → has named hart ≡ names hart
  pub groups_are : IsGroupedBy false image named groups

abbrev pub AreGroupsBy : Bool → ImageParts → (ℕ → Bool) → List ℕ → Type 0
AreGroupsBy true image names groups = IsUngrouped groups
AreGroupsBy false image names groups = IsGrouping image names groups

-- something is left out: a register somewhere, or which of some harts stands where
abbrev pub reduces : LiveSets → List ℕ → Bool
reduces live groups = forgets_any live || any_grouped groups

-- what an answer says of it
abbrev pub left_out_of : LiveSets → List ℕ → LeftOut
left_out_of live groups = record { registers = forgets_any live; groups = groups }

-- something may be left out of a search: all but these registers, and which hart of a group stands
-- where; and whether that is anything
pub record MayLeaveOut (keeps : Keeps) (search : SearchParts) (asked named : List Bool)
    (live : LiveSets) (groups : List ℕ) (some : Bool) : Type 0 where
  pub not_all : keeps_all keeps search ≡ false
  pub right : IsRight search.image.program live
  pub asked_are : IsAskedBy keeps.registers asked live.asked
  pub grouped : IsGroupedBy keeps.harts search.image named groups
  pub reduces_is : reduces live groups ≡ some

-- what is left out of a search, if anything is
abbrev pub IsReduction : Keeps → SearchParts → List Bool → List Bool → Option Reduction → Type 0
IsReduction keeps search asked named (Some found) =
    MayLeaveOut keeps search asked named found.live found.groups true
IsReduction keeps search asked named None =
    (keeps_all keeps search ≡ true)
    ⊎ ((live : LiveSets) × (groups : List ℕ)
    × MayLeaveOut keeps search asked named live groups false)

-- what is so by whether anything is left out
abbrev pub ByLeavingOut : Bool → Type 0 → Type 0 → Type 0
ByLeavingOut false whole reduced = whole
ByLeavingOut true whole reduced = reduced

-- What is so where something may be left out. Which registers matter may be found in any way, as
-- long as it is right for the program, and those that are asked for are among them. Which harts are
-- of a group is one answer for each question.
pub record IsByReduction (keeps : Keeps) (search : SearchParts) (asks names : ℕ → Bool)
    (whole : Type 0) (reduced : LiveSets → List ℕ → Type 0) : Type 0 where
  pub live : LiveSets
  pub groups : List ℕ
  pub right : IsRight search.image.program live
  pub asked : HasAsked live.asked (asks_by keeps.registers asks)
  pub grouped : AreGroupsBy keeps.harts search.image names groups
  pub answer : ByLeavingOut (reduces live groups) whole (reduced live groups)

abbrev pub ByKeeping : Bool → Type 0 → Type 0 → Type 0
ByKeeping true whole reduced = whole
ByKeeping false whole reduced = reduced

-- What is so of a search that is told to keep all, or not, for a question that asks for some
-- registers and names some harts: this where all is kept, and else that, of what is left.
abbrev pub MayReduce : Keeps → SearchParts → (ℕ → Bool) → (ℕ → Bool) → Type 0
    → (LiveSets → List ℕ → Type 0) → Type 0
MayReduce keeps search asks names whole reduced =
    ByKeeping (keeps_all keeps search) whole (IsByReduction keeps search asks names whole reduced)
