-- What a sink has of an answer.
use Rattle.std.proofs.Common.{◌≡◌, ℕ, ◌+◌, List, Option, Result, Ok, Err, IfOk, IfErr, refl, sym, subst, arith}
use Rattle.std.specs.Io.KnownBytes.{Appends}
use Rattle.shown_states.specs.Endings.{IsWritten, IsUnwritten, failures_of}
use Rattle.shown_states.specs.declared.form.Ending.{Ending}
use Rattle.sinks.specs.declared.fault.WriteFault.{WriteFault}
use Rattle.sinks.specs.declared.fault.WriteFault.TheVariants.{Write, NoMemory}

-- memory ran out before anything was written
pub memory_begun : {T : Type 0} (IsSo : List ℕ → Type 0) (result : Result T WriteFault) (old : Option (List ℕ)) (fault : WriteFault)
    → result ≡ Err fault → fault ≡ NoMemory → IfErr result (IsUnwritten IsSo old old)
memory_begun IsSo result old fault is none = rw (is, none) refl

-- and no put had failed
no_more : (n : ℕ) → n ≡ n + 0
no_more n = omega arith

pub memory_fails : (result : Result Ending WriteFault) (fault : WriteFault) (failures : ℕ)
    → result ≡ Err fault → fault ≡ NoMemory → failures ≡ failures + failures_of result
memory_fails result fault failures is none = rw (is, none) (no_more failures)

-- an answer that is so was put whole
pub so_written : (IsSo : List ℕ → Ending → Type 0) (text : List ℕ) (told : Ending) (result : Result Ending WriteFault)
    (old new : Option (List ℕ)) → IsSo text told → IfOk result (λ ending. (ending ≡ told) × Appends old new text)
    → IfOk result (λ ending. IsWritten (λ t. IsSo t ending) old new)
so_written IsSo text told (Ok ending) old new so put = (text, subst (IsSo text) (sym put.0) so, put.1)
so_written IsSo text told (Err fault) old new so put = tt

-- or not
pub so_begun : (IsSo : List ℕ → Ending → Type 0) (text : List ℕ) (told : Ending) (result : Result Ending WriteFault)
    (old new : Option (List ℕ)) → IsSo text told → IfErr result (IsUnwritten (λ t. t ≡ text) old new)
    → IfErr result (IsUnwritten (λ t. (ending : Ending) × IsSo t ending) old new)
so_begun IsSo text told (Ok ending) old new so put = tt
so_begun IsSo text told (Err Write) old new so put =
    (put.0, (told, subst (λ (t : List ℕ). IsSo t told) (sym put.1) so), put.2)
so_begun IsSo text told (Err NoMemory) old new so put = put

-- it ends as the answer does
pub ending_put : (text : List ℕ) (told : Ending) (result : Result Ending WriteFault) (old new : Option (List ℕ)) {ending : Ending}
    → result ≡ Ok ending → IfOk result (λ e. (e ≡ told) × Appends old new text) → told ≡ ending
ending_put text told result old new {ending} is put =
    let so : (ending ≡ told) × Appends old new text = subst (λ (r : Result Ending WriteFault). IfOk r (λ e. (e ≡ told) × Appends old new text)) is put in
    sym so.0
