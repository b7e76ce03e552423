-- The model's action for each of the code's.
use Rattle.cheri_model.specs.steps.Actions.{Action}
use Rattle.cheri_model.specs.steps.Actions as model
use Rattle.instructions.specs.declared.actions.Action.{Action as CodeAction}
use Rattle.instructions.specs.declared.actions.Action.TheVariants.{Put, Load, Store, LoadCap}
use Rattle.instructions.specs.declared.actions.Action.TheVariants.{StoreCap}
use Rattle.instructions.specs.declared.actions.Action.TheVariants.{Swap, Branch, Jump, JumpThrough}
use Rattle.instructions.specs.declared.actions.Action.TheVariants.{Invoke, Halt}

abbrev pub action_of : CodeAction → Action
action_of (Put cd value) = model.Put cd value
action_of (Load cd c1 addr width signed) = model.Load cd c1 addr width signed
action_of (Store c1 addr width number) = model.Store c1 addr width number
action_of (LoadCap cd c1 addr) = model.LoadCap cd c1 addr
action_of (StoreCap c1 addr value) = model.StoreCap c1 addr value
action_of (Swap cd c1 addr value) = model.Swap cd c1 addr value
action_of (Branch taken target) = model.Branch taken target
action_of (Jump cd target) = model.Jump cd target
action_of (JumpThrough cd c1 is_entry target) = model.JumpThrough cd c1 is_entry target
action_of (Invoke c1 c2 target) = model.Invoke c1 c2 target
action_of Halt = model.Halt
