-- How often a sink has failed, counted by the history that it carries.
use Rattle.std.specs.Prelude.{ℕ, ◌+◌}
use Rattle.sinks.specs.declared.failures.Past.{Past}
use Rattle.sinks.specs.declared.failures.Past.TheVariants.{Fine, Failed'}

abbrev pub failures_in : Past → ℕ
failures_in Fine = 0
failures_in (Failed' marker before) = failures_in before + 1
