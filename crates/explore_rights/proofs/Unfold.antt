-- Names for `unfolding(..)` that open what their own line names.
use Rattle.std.specs.Prelude.{Bool}
use Rattle.cap_model.specs.values.CapValue.{CapValue}
use Rattle.cheri_model.specs.steps.Hart.{HartState}
use Rattle.explore_rights.specs.declared.rights.Rights.{Rights}
use Rattle.explore_rights.specs.Rights.{rights_of, is_within, is_before}
use Rattle.explore_rights.specs.Held.{bounds, is_kept, keeps_rights}

unfoldable pub rights : CapValue → Rights
unfolding rights_of is_within is_before
rights v = rights_of v

unfoldable pub held : HartState → HartState → Bool
unfolding bounds is_kept keeps_rights
held before after = keeps_rights before after
