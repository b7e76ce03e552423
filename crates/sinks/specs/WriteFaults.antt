-- Why a text was not written to a sink.
use Rattle.std.specs.Prelude.{ℕ, Result, Ok, Err}
use Rattle.sinks.specs.declared.fault.WriteFault.{WriteFault}
use Rattle.sinks.specs.declared.fault.WriteFault.TheVariants.{Write, NoMemory}

abbrev pub fault_number : WriteFault → ℕ
fault_number Write = 1
fault_number NoMemory = 2

-- How often the sink failed by an answer: once where the answer is its fault, else never.
abbrev pub failures_of : Result (Unit {0}) WriteFault → ℕ
failures_of (Ok _) = 0
failures_of (Err Write) = 1
failures_of (Err NoMemory) = 0
