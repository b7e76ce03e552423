-- the arguments so far follow the program's name
use Rattle.std.proofs.Common.{◌≡◌, ◌∷◌, take, map}
use Rattle.std.specs.Prelude.{string_bytes}
use Rattle.inputs.proofs.arguments.command_args.Given as goal

abbrev pub invariant-loop-arg : goal.invariant-loop-arg
invariant-loop-arg l = map (λ arg. arg.now) l.all.items ≡ l.name ∷ map string_bytes (take l.arg-index l.args)
