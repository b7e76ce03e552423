-- The registers that conditions and items ask for, of whichever hart.
use Rattle.std.specs.Prelude.{◌≡◌, ℕ, ◌==◌, nat_lt, Bool, true, false, ◌||◌, List}
use Rattle.std.specs.List.{list_any}
use Rattle.cheri_model.specs.runs.Machine.{MachineState, hart_at}
use Rattle.conditions.specs.declared.parts.Atom.{Atom}
use Rattle.conditions.specs.declared.parts.Atom.TheVariants as atom
use Rattle.conditions.specs.declared.parts.Holder.{Holder}
use Rattle.conditions.specs.declared.parts.Holder.TheVariants as holder
use Rattle.conditions.specs.declared.parts.Node.{Node}
use Rattle.conditions.specs.declared.parts.Node.TheVariants as node
use Rattle.conditions.specs.declared.parts.Own.{Own}
use Rattle.conditions.specs.declared.parts.Own.TheVariants as own
use Rattle.conditions.specs.declared.parts.Place.TheVariants as place
use Rattle.conditions.specs.declared.parts.Shown.{Shown}
use Rattle.conditions.specs.declared.parts.Shown.TheVariants as shown
use Rattle.conditions.specs.declared.parts.Source.{Source}
use Rattle.conditions.specs.declared.parts.Source.TheVariants as source
use Rattle.conditions.specs.declared.parts.Term.{Term}
use Rattle.conditions.specs.declared.parts.Term.TheVariants as term
use Rattle.conditions.specs.Values.{number_at}
use Rattle.live_registers.specs.RegisterSets.{has}

-- a register is asked for where it is named, of a hart of a number or of each
unfoldable pub holder_asks : Holder → ℕ → Bool
holder_asks (holder.Register hart named) reg = reg == named
holder_asks (holder.Pcc hart) reg = false
holder_asks (holder.Granule addr) reg = false

unfoldable pub own_asks : Own → ℕ → Bool
own_asks (own.Register named) reg = reg == named
own_asks own.Pcc reg = false

unfoldable pub source_asks : Source → ℕ → Bool
source_asks (source.Value held read) reg = holder_asks held reg
source_asks (source.Data addr width) reg = false
source_asks (source.Each held read) reg = own_asks held reg

unfoldable pub term_asks : Term → ℕ → Bool
term_asks (term.Number number) reg = false
term_asks (term.Source from) reg = source_asks from reg

-- `reaches` asks for c0 to c31
unfoldable pub atom_asks : Atom → ℕ → Bool
atom_asks (atom.Compares from comparison with) reg = source_asks from reg || term_asks with reg
atom_asks (atom.HasStatus who test) reg = false
atom_asks (atom.Reaches who addr perms) reg = nat_lt reg 32
atom_asks (atom.IsAt who addr) reg = false
atom_asks (atom.IsIn who first second) reg = false

unfoldable pub node_asks : Node → ℕ → Bool
node_asks (node.Says a) reg = atom_asks a reg
node_asks node.Not reg = false
node_asks node.Enclosed reg = false
node_asks (node.Joined joint second) reg = false
node_asks (node.Counted comparison number) reg = false

-- what a condition of these nodes asks for
unfoldable pub condition_asks : List Node → ℕ → Bool
condition_asks nodes reg = list_any (λ n. node_asks n reg) nodes

-- what an item asks for, and what items ask for
unfoldable pub item_asks : Shown → ℕ → Bool
item_asks (shown.Number (place.Value held read)) reg = holder_asks held reg
item_asks (shown.Number (place.Data addr width)) reg = false
item_asks (shown.Status hart) reg = false

unfoldable pub items_ask : List Shown → ℕ → Bool
items_ask items reg = list_any (λ item. item_asks item reg) items

-- an item shows the same of both states: the number at a place, or a hart's status
unfoldable pub ShowsSame : MachineState → MachineState → Shown → Type 0
ShowsSame one other (shown.Number at) = number_at at one ≡ number_at at other
ShowsSame one other (shown.Status hart) = (hart_at one hart).status ≡ (hart_at other hart).status

-- the registers of a set, and those that are asked for
abbrev pub IsWith : List Bool → (ℕ → Bool) → List Bool → Type 0
IsWith set asking all = (reg : ℕ) → has all reg ≡ (has set reg || asking reg)

-- each register that is asked for is in a set
abbrev pub HasAsked : List Bool → (ℕ → Bool) → Type 0
HasAsked set asking = (reg : ℕ) → asking reg ≡ true → has set reg ≡ true
