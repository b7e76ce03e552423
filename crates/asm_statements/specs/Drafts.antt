-- What was read of a statement, and steps that read more of it or end at a fault.
use Rattle.std.specs.Prelude.{◌≡◌, ◌⊎◌, ℕ, ◌==◌, if◌then◌else◌, List, [], ◌∷◌, ◌++◌, length}
use Rattle.std.specs.Prelude.{Option, Result, Ok, Err}
use Rattle.asm_names.specs.declared.relocations.Relocation.{Relocation}
use Rattle.asm_tokens.specs.declared.fault.AsmFault.{AsmFault}
use Rattle.asm_tokens.specs.Faults.{no_memory}
use Rattle.asm_expressions.specs.declared.node.Node.{Node}
use Rattle.asm_statements.specs.declared.statement.Body.{Body}
use Rattle.asm_statements.specs.declared.statement.Body.TheVariants as bodies
use Rattle.asm_statements.specs.declared.statement.Operand.{Operand}
use Rattle.asm_statements.specs.declared.statement.Role.{Role}
use Rattle.asm_statements.specs.declared.draft.Draft.{Draft}
use Rattle.asm_statements.specs.declared.draft.Registers.{Registers}

pub record Parts : Type 0 where
  pub body : Body
  pub registers : Registers
  pub operands : List Operand
  pub nodes : List Node

abbrev pub parts_of : Draft → Parts
parts_of draft =
    record {
      body = draft.body;
      registers = draft.registers;
      operands = draft.operands.items;
      nodes = draft.nodes.items;
    }

abbrev pub empty_registers : Registers
empty_registers = record { count = 0; first = 0; second = 0; third = 0 }

abbrev pub empty_parts : Parts
empty_parts =
    record { body = bodies.Nothing; registers = empty_registers; operands = []; nodes = [] }

-- one register more, of at most three
unfoldable pub registers_with : Registers → ℕ → Registers
registers_with rs r =
    if rs.count == 0 then record { count = 1; first = r; second = rs.second; third = rs.third }
    else if rs.count == 1 then record { count = 2; first = rs.first; second = r; third = rs.third }
    else record { count = 3; first = rs.first; second = rs.second; third = r }

unfoldable pub with_body : Body → Parts → Parts
with_body body p =
    record {
      body = body;
      registers = p.registers;
      operands = p.operands;
      nodes = p.nodes;
    }

unfoldable pub with_register : ℕ → Parts → Parts
with_register r p =
    record {
      body = p.body;
      registers = registers_with p.registers r;
      operands = p.operands;
      nodes = p.nodes;
    }

unfoldable pub with_nodes : List Node → Parts → Parts
with_nodes nodes p =
    record {
      body = p.body;
      registers = p.registers;
      operands = p.operands;
      nodes = p.nodes ++ nodes;
    }

-- an operand, whose nodes are those since the last one's end
unfoldable pub with_operand : Role → Option Relocation → ℕ → Parts → Parts
with_operand role relocation first p =
    record {
      body = p.body;
      registers = p.registers;
      operands =
          p.operands
          ++ record {
            role = role;
            relocation = relocation;
            first = first;
            end = length p.nodes;
          } ∷ [];
      nodes = p.nodes;
    }

-- A step goes from what was read to that and more, and to a number of a token or another answer, or
-- to a fault.
abbrev pub Step : Type 0 → Type 0
Step A = Parts → Parts × Result A AsmFault

abbrev pub next_step : {A B : Type 0} → Result A AsmFault → Parts → (A → Step B)
    → Parts × Result B AsmFault
next_step (Ok a) p next = next a p
next_step (Err fault) p next = (p, Err fault)

infixl 10 ◌>>=◌
abbrev pub ◌>>=◌ : {A B : Type 0} → Step A → (A → Step B) → Step B
(step >>= next) p = next_step (step p).1 (step p).0 next

-- a step that only looks, and one that only adds
abbrev pub look : {A : Type 0} → Result A AsmFault → Step A
look result p = (p, result)

abbrev pub done : {A : Type 0} → A → Step A
done a p = (p, Ok a)

abbrev pub add : (Parts → Parts) → Step (Unit {0})
add more p = (more p, Ok tt)

-- an answer, and what was read then, are those of a step, or out of memory
abbrev pub Answers : {A : Type 0} → Result A AsmFault → Parts → Parts × Result A AsmFault
    → Type 0
Answers (Ok a) p meaning = meaning ≡ (p, Ok a)
Answers (Err fault) p meaning = (fault ≡ no_memory) ⊎ (meaning ≡ (p, Err fault))
