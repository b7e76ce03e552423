-- What `or` joins is read by what joins with `and`.
use Rattle.std.specs.Prelude.{ℕ}
use Rattle.conditions.specs.declared.parts.Joint.{Joint}
use Rattle.conditions.specs.declared.parts.Joint.TheVariants.{And, Or}

abbrev pub rank_of : Joint → ℕ
rank_of And = 0
rank_of Or = 2
