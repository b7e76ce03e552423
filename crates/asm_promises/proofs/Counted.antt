-- An instruction has bytes for the instructions that it stands for, with the number that is kept of it.
use Rattle.std.proofs.Common.{◌≡◌, ℕ, ◌+◌, ◌*◌, ◌^◌, ◌-◌, ◌<◌, ◌==◌, Bool, true, false, cond, List, length, slice_get, slice_index_or, slice_set, Option, Some, None, Result, Ok, Err, refl, sym, ap, ◌∙◌, lit<}
use Rattle.std.specs.Option.{is_some}
use Rattle.std.proofs.lemmas.List.{get_or-set_same}
use Rattle.canonical.proofs.round_trip.Ranges.{test_true}
use Rattle.asm_tokens.specs.declared.fault.AsmFault.{AsmFault}
use Rattle.asm_tokens.specs.declared.fault.AsmFaultKind.TheVariants as faults
use Rattle.asm_tokens.specs.Faults.{◌>>=◌}
use Rattle.asm_tokens.specs.Tokens.{TokenParts}
use Rattle.asm_values.specs.declared.values.Value.{Value}
use Rattle.asm_values.specs.declared.values.Value.TheVariants.{Number, At}
use Rattle.asm_expressions.specs.Tokens.{fault_at}
use Rattle.asm_expansions.specs.declared.operation.Operation.{Operation}
use Rattle.asm_layout.specs.declared.chunk.Chunk.{Chunk}
use Rattle.asm_layout.specs.declared.chunk.ChunkKind.TheVariants.{Code, Dropped}
use Rattle.asm_layout.specs.Placement.{rank}
use Rattle.asm_chunks.specs.declared.fault.ChunkFault.{ChunkFault}
use Rattle.asm_chunks.specs.Chunks.{ChunksParts, no_chunk, here_of, with_here}
use Rattle.asm_chunks.specs.Growth.{with_size, grown}
use Rattle.asm_statements.specs.declared.statement.Body.TheVariants as bodies
use Rattle.asm_statements.specs.declared.statement.Operand.{Operand}
use Rattle.asm_statements.specs.declared.statement.Role.{Role}
use Rattle.asm_statements.specs.declared.statement.Role.TheVariants as roles
use Rattle.asm_statements.specs.Statements.{StatementParts}
use Rattle.asm_drafts.specs.Code.{count_of, zero_judged, constant_by, constant_from, constant_of, instruction_put}
use Rattle.asm_drafts.specs.Drafts.{DraftParts, with_chunks, is_here, after_chunks, grown_at, ended}
use Rattle.asm_drafts.specs.Early.{early_value}
use Rattle.asm_drafts.specs.Kept.{if_early, constant_operand, operand_by, kept_operand, number_or_zero, known_number, number_at, kept_number}
use Rattle.asm_drafts.specs.Names.{up_to, if_known, known}
use Rattle.asm_drafts.specs.Operands.{role_said, operand_said, is_said, nodes_of, first_of, is_within, number_in, early_number}
use Rattle.asm_listable.proofs.Starts.{then_ok}
use Rattle.asm_promises.proofs.Sizes.{size_at, is_grown}
use Rattle.asm_promises.proofs.Untouched.{two_ranks}

-- ---- the number that is kept

value_is : (tokens : List TokenParts) (at c : ℕ) (value : Value) → number_in tokens at (up_to (2 ^ 64 - 1)) value ≡ Ok c → number_or_zero (Some value) ≡ c
unfolding number_in
value_is tokens at c (Number n) e =
    let x = test_true (is_within (up_to (2 ^ 64 - 1)) n) (Ok n) (fault_at tokens faults.Range at) c e in
    let k = x.1 in cc
value_is tokens at c (At location) e = absurd (cc)

role_is : (tokens : List TokenParts) (parts : DraftParts) (s : StatementParts) (operand : Operand) (relocated : Bool) (role : Role) (c : ℕ) → slice_get s.operands 0 ≡ Some operand
    → operand.role ≡ role → constant_by tokens parts s relocated role ≡ Ok c → number_at tokens parts s (if_early role) ≡ c
unfolding early_number known_number known is_said
role_is tokens parts s operand relocated roles.Early c g r e =
    let x = then_ok (early_value tokens parts (nodes_of s 0)) (λ value. number_in tokens (first_of s 0) (up_to (2 ^ 64 - 1)) value) c e in
    let said : operand_said (slice_get s.operands 0) ≡ true = ap operand_said g ∙ ap role_said r in
    let value : if_known (early_value tokens parts (nodes_of s 0)) ≡ Some x.0 = ap if_known x.1 in
    ap (λ (b : Bool). cond b (number_or_zero (if_known (early_value tokens parts (nodes_of s 0)))) 0) said
    ∙ (ap number_or_zero value ∙ value_is tokens (first_of s 0) c x.0 x.2)
role_is tokens parts s operand relocated roles.Zero c g r e =
    let x = then_ok (zero_judged tokens parts s relocated) (λ judged. Ok 0) c e in
    let k = x.2 in cc
role_is tokens parts s operand relocated _ c g r e = cc

operand_is : (tokens : List TokenParts) (parts : DraftParts) (s : StatementParts) (o : Option Operand) (c : ℕ) → slice_get s.operands 0 ≡ o → constant_from tokens parts s o ≡ Ok c
    → number_at tokens parts s (constant_operand o) ≡ c
operand_is tokens parts s (Some operand) c g e = role_is tokens parts s operand (is_some operand.relocation) operand.role c g refl e
operand_is tokens parts s None c g e = cc

constant_is : (tokens : List TokenParts) (parts : DraftParts) (s : StatementParts) (at c : ℕ) (operation : Option Operation) → s.body ≡ bodies.Instruction at operation
    → constant_of tokens parts s ≡ Ok c → kept_number tokens parts s ≡ c
unfolding constant_of kept_number kept_operand
constant_is tokens parts s at c operation b e =
    ap (λ (body : _). number_at tokens parts s (operand_by body (slice_get s.operands 0))) b ∙ operand_is tokens parts s (slice_get s.operands 0) c refl e

pub kept_none : (tokens : List TokenParts) (parts : DraftParts) (s : StatementParts) (at : ℕ) (operation : Option Operation) → s.body ≡ bodies.Instruction at operation
    → slice_get s.operands 0 ≡ None → kept_number tokens parts s ≡ 0
unfolding kept_number kept_operand
kept_none tokens parts s at operation b g =
    ap (λ (body : _). number_at tokens parts s (operand_by body (slice_get s.operands 0))) b ∙ ap (λ (o : Option Operand). number_at tokens parts s (constant_operand o)) g

-- ---- bytes

grown_size : (before after : ChunksParts) (count : ℕ) → before.here < length before.chunks → grown before count ≡ Ok after
    → size_at after.chunks before.here ≡ size_at before.chunks before.here + count
unfolding with_here
grown_size before after count less e =
    let g = is_grown before after count e in
    let chunk : Chunk = with_size (here_of before) ((here_of before).size + count) in
    let set : slice_index_or (slice_set before.chunks before.here chunk) before.here no_chunk ≡ chunk = get_or-set_same before.chunks before.here chunk no_chunk less in
    ap (λ (c : ChunksParts). size_at c.chunks before.here) (sym g.is) ∙ ap (λ (c : Chunk). c.size) set

after_size : (tokens : List TokenParts) (at count : ℕ) (parts after : DraftParts) (r : Result ChunksParts ChunkFault) → grown parts.chunks count ≡ r → parts.chunks.here < length parts.chunks.chunks
    → after_chunks tokens at parts r ≡ Ok after → size_at after.chunks.chunks parts.chunks.here ≡ size_at parts.chunks.chunks parts.chunks.here + count
after_size tokens at count parts after (Ok chunks) g less e =
    let is : with_chunks parts chunks ≡ after = cc in
    ap (λ (d : DraftParts). size_at d.chunks.chunks parts.chunks.here) (sym is) ∙ grown_size parts.chunks chunks count less g
after_size tokens at count parts after (Err fault) g less e = absurd (cc)

put_by : (tokens : List TokenParts) (parts after : DraftParts) (s : StatementParts) (at : ℕ) (operation : Option Operation) (fault : AsmFault) (dropped code : Bool)
    → (rank (here_of parts.chunks).kind == rank Dropped) ≡ dropped → (rank (here_of parts.chunks).kind == rank Code) ≡ true → parts.chunks.here < length parts.chunks.chunks
    → s.body ≡ bodies.Instruction at operation
    → cond dropped (Ok parts) (cond code (constant_of tokens parts s >>= λ constant. ended s.fault >>= λ u. grown_at tokens at (4 * count_of operation constant) parts) (Err fault)) ≡ Ok after
    → size_at after.chunks.chunks parts.chunks.here ≡ size_at parts.chunks.chunks parts.chunks.here + 4 * count_of operation (kept_number tokens parts s)
unfolding grown_at
put_by tokens parts after s at operation fault true code d is less b e = absurd (two_ranks (rank (here_of parts.chunks).kind) 5 d is (lit< tt))
put_by tokens parts after s at operation fault false true d is less b e =
    let x = then_ok (constant_of tokens parts s) (λ constant. ended s.fault >>= λ u. grown_at tokens at (4 * count_of operation constant) parts) after e in
    let y = then_ok (ended s.fault) (λ u. grown_at tokens at (4 * count_of operation x.0) parts) after x.2 in
    let kept : kept_number tokens parts s ≡ x.0 = constant_is tokens parts s at x.0 operation b x.1 in
    after_size tokens at (4 * count_of operation x.0) parts after (grown parts.chunks (4 * count_of operation x.0)) refl less y.2
    ∙ ap (λ (c : ℕ). size_at parts.chunks.chunks parts.chunks.here + 4 * count_of operation c) (sym kept)
put_by tokens parts after s at operation fault false false d is less b e = absurd (cc)

pub instruction_sized : (tokens : List TokenParts) (parts after : DraftParts) (s : StatementParts) (at : ℕ) (operation : Option Operation) → s.body ≡ bodies.Instruction at operation
    → (rank (here_of parts.chunks).kind == rank Code) ≡ true → parts.chunks.here < length parts.chunks.chunks → instruction_put tokens parts s at operation ≡ Ok after
    → size_at after.chunks.chunks parts.chunks.here ≡ size_at parts.chunks.chunks parts.chunks.here + 4 * count_of operation (kept_number tokens parts s)
unfolding instruction_put is_here
instruction_sized tokens parts after s at operation b code less e =
    put_by tokens parts after s at operation (fault_at tokens faults.Section at) (rank (here_of parts.chunks).kind == rank Dropped) (rank (here_of parts.chunks).kind == rank Code) refl code less b e
