-- Names of registers, of memory and of the causes of traps.
use Rattle.std.specs.Prelude.{ℕ, ◌+◌, ◌*◌, ◌==◌, if◌then◌else◌, List, ◌++◌, codes, decimal}
use Rattle.cheri_model.specs.declared.memory.TheConstants.{RAM_BASE, GRANULE_BYTES}
use Rattle.cheri_model.specs.declared.trace.TheConstants.Trap as cause
use Rattle.report_lines.specs.declared.names.PlaceName.{PlaceName}
use Rattle.report_lines.specs.declared.names.PlaceName.TheVariants as place
use Rattle.report_lines.specs.ValueText.{hex_text}

-- the address of a granule, by its number from 0 on
abbrev pub address_of_granule : ℕ → ℕ
address_of_granule number = RAM_BASE + GRANULE_BYTES * number

abbrev pub register_name : ℕ → List ℕ
register_name number = codes "c" ++ decimal number

-- a granule, by its address
abbrev pub memory_name : ℕ → List ℕ
memory_name address = codes "mem " ++ hex_text 16 address

abbrev pub place_name : PlaceName → List ℕ
place_name (place.Register number) = register_name number
place_name place.Pcc = codes "pcc"
place_name (place.Granule address) = memory_name address

-- the register that a trap speaks of, of which 32 is PCC
abbrev pub trapped_place : ℕ → PlaceName
trapped_place number = if number == cause.PCC then place.Pcc else place.Register number

-- a trap's cause, by its name where it has one, else in decimal
abbrev pub cause_name : ℕ → List ℕ
cause_name number =
    if number == cause.TAG then codes "Tag"
    else if number == cause.SEAL then codes "Seal"
    else if number == cause.EXECUTE then codes "Execute"
    else if number == cause.LOAD then codes "Load"
    else if number == cause.STORE then codes "Store"
    else if number == cause.STORE_CAP then codes "StoreCap"
    else if number == cause.STORE_LOCAL then codes "StoreLocal"
    else if number == cause.LENGTH then codes "Length"
    else if number == cause.ALIGNMENT then codes "Align"
    else if number == cause.PLACE then codes "Place"
    else if number == cause.FETCH then codes "Fetch"
    else if number == cause.TYPE then codes "Type"
    else if number == cause.CINVOKE then codes "CInvoke"
    else decimal number
