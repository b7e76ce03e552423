-- The flags and the types of sections.
use Rattle.std.specs.Prelude.{ℕ, ◌==◌, Bool, true, false, not, ◌||◌, if◌then◌else◌}
use Rattle.std.specs.Prelude.{List, [], ◌∷◌, codes, bytes_eq, Option, Some, None}
use Rattle.asm_names.specs.declared.sections.SectionKind.{SectionKind}
use Rattle.asm_names.specs.declared.sections.SectionKind.TheVariants.{Code, ReadOnly, ReadWrite}
use Rattle.asm_names.specs.declared.sections.SectionKind.TheVariants.{Zeros, Dropped}
use Rattle.asm_statements.specs.declared.flags.Flags.{Flags}

abbrev pub no_flags : Flags
no_flags =
    record { kept = false; written = false; executed = false; threads = false; unknown = false }

-- `a w x M S G o R ? T`
unfoldable pub is_flag : ℕ → Bool
is_flag b =
    (b == 0x61) || (b == 0x77) || (b == 0x78) || (b == 0x4D) || (b == 0x53) || (b == 0x47)
    || (b == 0x6F) || (b == 0x52) || (b == 0x3F) || (b == 0x54)

unfoldable pub with_letter : Flags → ℕ → Flags
with_letter flags b =
    record {
      kept = flags.kept || (b == 0x61);
      written = flags.written || (b == 0x77);
      executed = flags.executed || (b == 0x78);
      threads = flags.threads || (b == 0x54);
      unknown = flags.unknown || not (is_flag b);
    }

-- letters after others
unfoldable pub flags_from : Flags → List ℕ → Flags
flags_from flags [] = flags
flags_from flags (b ∷ letters) = flags_from (with_letter flags b) letters

abbrev pub flags_of : List ℕ → Flags
flags_of letters = flags_from no_flags letters

-- the kind of a section with flags: without `a` dropped; with `x` code; with `w` data, or zeros;
-- else data that is only read. Code is neither written nor zeros.
unfoldable pub kind_of : Flags → Bool → Option SectionKind
kind_of flags nobits =
    if not flags.kept then Some Dropped
    else if flags.executed then (if flags.written || nobits then None else Some Code)
    else if not flags.written then Some ReadOnly
    else if nobits then Some Zeros
    else Some ReadWrite

-- whether a type is that of zeros that the file hasn't
unfoldable pub is_nobits : List ℕ → Option Bool
is_nobits name =
    if bytes_eq name (codes "nobits") then Some true
    else if bytes_eq name (codes "progbits") || bytes_eq name (codes "note") then Some false
    else None
