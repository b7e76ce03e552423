-- The command of `cheri_asm` is such as `clap` defines the reading of.
use Rattle.std.proofs.Common.{◌≡◌, true, List, Option, refl}
use Rattle.clap.specs.Words.{Text, is_simple, is_simple_and_free, matches_of}
use Rattle.clap.proofs.OnLiterals.{clap_on_literals}
use Rattle.command_line.proofs.ReadArgs.{Reads}
use Rattle.asm_line.specs.Requests.{AsmAsked, asm_asked, asm_asked_of, asm_program}

pub asm_is_simple : is_simple asm_program ≡ true
unfolding clap_on_literals
asm_is_simple = refl

pub asm_is_free : is_simple_and_free asm_program ≡ true
unfolding clap_on_literals
asm_is_free = refl

abbrev pub asm_met : List Text → Option AsmAsked
asm_met args = asm_asked_of (matches_of asm_program args)

pub asm_reads : Reads asm_program asm_met asm_asked
unfolding asm_asked
asm_reads = record {
  without_fault = λ args none. rw none refl;
  with_fault = λ args k ks some. rw some refl;
}
