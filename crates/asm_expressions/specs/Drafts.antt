-- What a draft of an expression says.
use Rattle.std.specs.Prelude.{ℕ, List, [], ◌∷◌, reverse, Option, None}
use Rattle.asm_expressions.specs.declared.draft.Draft.{Draft}
use Rattle.asm_expressions.specs.declared.draft.Waiting.{Waiting}
use Rattle.asm_expressions.specs.declared.node.Node.{Node}
use Rattle.asm_expressions.specs.declared.reading.Read.{Read}
use Rattle.asm_expressions.specs.Expressions.{Pending, taken}

abbrev pub pending_of : Draft → Pending
pending_of draft =
    record {
      phase = draft.phase;
      depth = draft.depth;
      waiting = reverse draft.waiting.items;
      nodes = draft.nodes.items;
    }

-- the node of the first, if it binds so tightly
abbrev pub taken_first : ℕ → List Waiting → Option Node
taken_first least [] = None
taken_first least (w ∷ ws) = taken least w

-- the nodes of an expression, and the number of the token behind it
abbrev pub read_parts : Read → List Node × ℕ
read_parts read = (read.nodes.items, read.next)
