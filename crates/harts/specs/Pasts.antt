-- The calls of a gate, by the history that their list carries.
use Rattle.std.specs.Prelude.{List, [], ◌∷◌, ◌++◌}
use Rattle.harts.specs.declared.gates.Call.{Call}
use Rattle.harts.specs.declared.calls.Past.{Past}
use Rattle.harts.specs.declared.calls.Past.TheVariants.{Nothing, Called'}

abbrev pub calls_in : Past → List Call
calls_in Nothing = []
calls_in (Called' call marker before) = calls_in before ++ call ∷ []
