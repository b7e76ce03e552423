-- Steps over the items of a list, one by one.
use Rattle.std.proofs.Common.{◌≡◌, ℕ, ◌+◌, ◌<◌, ◌≤◌, List, ◌∷◌, length, drop, get_or, sym, drop-cons, add-one}
use Rattle.std.proofs.Math.ListN.{drop_of_length-le}
use Rattle.std.specs.Prelude.{Option, Some, None, Err}
use Rattle.serde_json.specs.Data.{Data}
use Rattle.serde_json.specs.View.{items_view, view}
use Rattle.serde_json.specs.declared.value.Value.{Value}
use Rattle.sample_slices.specs.Members.{GivesSeen, Steps, all_steps}
use Rattle.sample_slices.specs.declared.fault.LineFault.{LineFault}
use Rattle.sample_slices.specs.declared.fault.LineFault.TheVariants.{Form, NoMemory}

module _ {T : Type 0} (step : Data → T → Option T) (list : List Value) (i : ℕ) (d value : Value) (before : T) (all : Option T)
    (room : i < length list) (here : value ≡ get_or list i d) where
  left : drop i list ≡ get_or list i d ∷ drop (i + 1) list
  left = rw add-one (drop-cons list i d room)

  -- what the items that are left come to stays the same when one is taken
  pub step_taken : (after : T) → step (view value) before ≡ Some after
      → all_steps step (items_view (drop i list)) before ≡ all
      → all_steps step (items_view (drop (i + 1) list)) after ≡ all
  unfolding all_steps
  step_taken after is so = rw (rw here at is) at (rw left at so)

  -- where one can't be taken it is none
  pub step_refused : step (view value) before ≡ None → all_steps step (items_view (drop i list)) before ≡ all
      → all ≡ None
  unfolding all_steps
  step_refused is so = sym (rw (rw here at is) at (rw left at so))

-- where no item is left it is what the steps came to
pub steps_end : {T : Type 0} (step : Data → T → Option T) (list : List Value) (i : ℕ) (before : T) (all : Option T)
    → length list ≤ i → all_steps step (items_view (drop i list)) before ≡ all → all ≡ Some before
unfolding all_steps
steps_end {T} step list i before all past so = sym (rw (drop_of_length-le list past) at so)

-- ---- what fails

-- where a step fails the whole does
pub step_fails : {T X Y : Type 0} (view : X → Y) (fault : LineFault) (after : T) (meaning : Option T) (whole : Option Y)
    → Steps (Err fault) after meaning → (meaning ≡ None → whole ≡ None) → GivesSeen view (Err fault) whole
step_fails {T} {X} {Y} view Form after meaning whole is so = so is
step_fails {T} {X} {Y} view NoMemory after meaning whole is so = tt

pub part_fails : {A B X Y : Type 0} (part : A → B) (view : X → Y) (fault : LineFault) (meaning : Option B) (whole : Option Y)
    → GivesSeen part (Err fault) meaning → (meaning ≡ None → whole ≡ None) → GivesSeen view (Err fault) whole
part_fails {A} {B} {X} {Y} part view Form meaning whole is so = so is
part_fails {A} {B} {X} {Y} part view NoMemory meaning whole is so = tt

pub part_stops : {A B T : Type 0} (part : A → B) (fault : LineFault) (after : T) (meaning : Option B) (whole : Option T)
    → GivesSeen part (Err fault) meaning → (meaning ≡ None → whole ≡ None) → Steps (Err fault) after whole
part_stops {A} {B} {T} part Form after meaning whole is so = so is
part_stops {A} {B} {T} part NoMemory after meaning whole is so = tt

pub step_stops : {S T : Type 0} (fault : LineFault) (now : S) (after : T) (meaning : Option S) (whole : Option T)
    → Steps (Err fault) now meaning → (meaning ≡ None → whole ≡ None) → Steps (Err fault) after whole
step_stops {S} {T} Form now after meaning whole is so = so is
step_stops {S} {T} NoMemory now after meaning whole is so = tt
