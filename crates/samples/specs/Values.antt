-- What the values of rows are.
use Rattle.std.specs.Prelude.{ℕ, ◌+◌, ◌*◌, ◌^◌, Result, Ok, Err}
use Rattle.cap_model.specs.values.CapValue.{CapValue, raw}
use Rattle.cap_model.specs.values.Capability.{unsealed_type}
use Rattle.cap_model.specs.results.Addresses.{set_address}
use Rattle.cap_model.specs.results.Seals.{seal, seal_entry}
use Rattle.cap_ops.specs.Making.{made, root_with}
use Rattle.cap_ops.specs.declared.making.MakeFault.{MakeFault}
use Rattle.samples.specs.declared.values.Given.{Given}
use Rattle.samples.specs.declared.values.Given.TheVariants.{Int, Word, Open, Sentry, Sealed}

-- a capability turned into a sentry, if there is one
abbrev as_sentry : Result CapValue MakeFault → Result CapValue MakeFault
as_sentry (Ok v) = Ok (seal_entry v)
as_sentry (Err fault) = Err fault

-- a capability sealed with a type, if there is one, by the authority to seal with every type
abbrev as_sealed : ℕ → Result CapValue MakeFault → Result CapValue MakeFault
as_sealed otype (Ok v) = Ok (seal v (set_address (root_with (2 ^ 7)) otype))
as_sealed otype (Err fault) = Err fault

-- the value that a row gives, or why no capability has its parts
unfoldable pub given_value : Given → Result CapValue MakeFault
given_value (Int number) = Ok (raw number)
given_value (Word upper addr) = Ok (raw (upper * 2 ^ 64 + addr))
given_value (Open base len addr bits) = made base len addr bits unsealed_type
given_value (Sentry base len addr bits) = as_sentry (made base len addr bits unsealed_type)
given_value (Sealed base len addr bits otype) =
    as_sealed otype (made base len addr bits unsealed_type)
