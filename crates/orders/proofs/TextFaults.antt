-- No fault of a text is that memory ran out.
use Rattle.std.proofs.Common.{◌≡◌, ◌≢◌, ℕ, ◌+◌, ◌-◌, Bool, true, false, cond, List, drop, Option, Some, None, Result, Ok, Err, IfErr, refl, subst}
use Rattle.cheri_model.specs.declared.operation.Op.{Op}
use Rattle.cheri_model.specs.declared.operation.Op.TheVariants as operation
use Rattle.orders.specs.declared.fault.OrderFault.{OrderFault}
use Rattle.orders.specs.declared.fault.OrderFaultKind.{OrderFaultKind}
use Rattle.orders.specs.declared.fault.OrderFaultKind.TheVariants.{Byte, Size, NoMemory, Range}
use Rattle.orders.specs.Faults.{◌>>=◌, byte_fault, range_fault}
use Rattle.orders.specs.Numbers.{number_of, number_end}
use Rattle.orders.specs.Sweeps.{sweep_of, sweep_at}
use Rattle.orders.specs.Orders.{token_at, GivesFault}

-- a fault that says something of the text
abbrev pub IsOfText : OrderFault → Type 0
IsOfText fault = fault.kind ≢ NoMemory

after_step : {A B : Type 0} (r : Result A OrderFault) (f : A → Result B OrderFault) → IfErr r IsOfText → ((x : A) → IfErr (f x) IsOfText) → IfErr (r >>= f) IsOfText
after_step (Ok x) f h k = k x
after_step (Err fault) f h k = h

byte_where : {A : Type 0} (test : Bool) (x : A) (place : ℕ) → IfErr (cond test (Ok x) (Err (byte_fault place))) IsOfText
byte_where true x place = tt
byte_where false x place = λ e. (cc)

number_fault : (closer : ℕ) (text : List ℕ) (place : ℕ) → IfErr (number_end closer text place) IsOfText
unfolding number_end
number_fault closer text place = byte_where _ _ _

range_where : (test : Bool) (place lo hi : ℕ) → IfErr (cond test (Ok (operation.Sweep lo hi)) (Err (range_fault place))) IsOfText
range_where true place lo hi = tt
range_where false place lo hi = λ e. (cc)

sweep_fault : (text : List ℕ) (place : ℕ) → IfErr (sweep_at text place) IsOfText
unfolding sweep_at
sweep_fault text place =
    after_step (number_end 0x2C text (place + 1)) _ (number_fault 0x2C text (place + 1)) (λ comma.
    after_step (number_end 0x5D text (comma + 1)) _ (number_fault 0x5D text (comma + 1)) (λ bracket.
    after_step (sweep_of place (number_of (drop (place + 1) text)) (number_of (drop (comma + 1) text))) _ (range_where _ place _ _) (λ sweep. tt)))

token_where : (text : List ℕ) (place b : ℕ) (digit blank bracket : Bool)
    → IfErr {T = Option Op × ℕ} (cond digit (Ok (Some (operation.Step (b - 0x30)), place + 1)) (cond blank (Ok (None, place + 1)) (cond bracket (sweep_at text place >>= (λ s. Ok (Some s.0, s.1))) (Err (byte_fault place))))) IsOfText
token_where text place b true blank bracket = tt
token_where text place b false true bracket = tt
token_where text place b false false true = after_step (sweep_at text place) _ (sweep_fault text place) (λ s. tt)
token_where text place b false false false = λ e. (cc)

token_fault : (text : List ℕ) (place b : ℕ) → IfErr (token_at text place b) IsOfText
unfolding token_at
token_fault text place b = token_where text place b _ _ _

pub fault_of_text : (text : List ℕ) (place b : ℕ) (fault : OrderFault) → token_at text place b ≡ Err fault → fault.kind ≢ NoMemory
fault_of_text text place b fault token =
    let P : Result (Option Op × ℕ) OrderFault → Type 0 = λ r. IfErr r IsOfText in
    subst P token (token_fault text place b)

-- a fault of a text that is its meaning is the answer
gives_where : (kind : OrderFaultKind) (fault : OrderFault) (meaning : Result (List Op) OrderFault) → kind ≢ NoMemory → meaning ≡ Err fault → GivesFault kind fault meaning
gives_where NoMemory fault meaning other e = absurd (other refl)
gives_where Byte fault meaning other e = e
gives_where Size fault meaning other e = e
gives_where Range fault meaning other e = e

pub fault_given : (fault : OrderFault) (meaning : Result (List Op) OrderFault) → fault.kind ≢ NoMemory → meaning ≡ Err fault → GivesFault fault.kind fault meaning
fault_given fault meaning other e = gives_where fault.kind fault meaning other e
