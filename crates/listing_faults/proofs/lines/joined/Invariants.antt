-- the lines so far, each after a newline
use Rattle.std.proofs.Common.{◌≡◌, ◌∷◌, take}
use Rattle.std.specs.List.{flat_map}
use Rattle.grammar.specs.Tokens.{texts}
use Rattle.listing_faults.proofs.lines.joined.Given as goal

abbrev pub invariant-loop-line : goal.invariant-loop-line
invariant-loop-line l = l.text.items ≡ flat_map (λ line. 10 ∷ line) (texts (take l.line-index l.lines))
