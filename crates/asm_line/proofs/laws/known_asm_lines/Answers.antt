use Rattle.std.proofs.Common.{refl}
use Rattle.clap.proofs.OnLiterals.{clap_on_literals}
use Rattle.asm_line.specs.Requests.{asm_asked, asm_asked_of, count_of}
use Rattle.asm_line.proofs.laws.known_asm_lines.Goals as goal

pub returns-clause-plain : goal.returns-clause-plain
unfolding clap_on_literals asm_asked asm_asked_of count_of
returns-clause-plain c = refl

pub returns-clause-mapped : goal.returns-clause-mapped
unfolding clap_on_literals asm_asked asm_asked_of count_of
returns-clause-mapped c = refl

pub returns-clause-counted : goal.returns-clause-counted
unfolding clap_on_literals asm_asked asm_asked_of count_of
returns-clause-counted c = refl

pub returns-clause-told : goal.returns-clause-told
unfolding clap_on_literals asm_asked asm_asked_of count_of
returns-clause-told c = refl

pub returns-clause-told_twice : goal.returns-clause-told_twice
unfolding clap_on_literals asm_asked asm_asked_of count_of
returns-clause-told_twice c = refl

pub returns-clause-none : goal.returns-clause-none
unfolding clap_on_literals asm_asked asm_asked_of count_of
returns-clause-none c = refl

pub returns-clause-nine : goal.returns-clause-nine
unfolding clap_on_literals asm_asked asm_asked_of count_of
returns-clause-nine c = refl

pub returns-clause-two_digits : goal.returns-clause-two_digits
unfolding clap_on_literals asm_asked asm_asked_of count_of
returns-clause-two_digits c = refl

pub returns-clause-counted_twice : goal.returns-clause-counted_twice
unfolding clap_on_literals asm_asked asm_asked_of count_of
returns-clause-counted_twice c = refl

pub returns-clause-mapped_twice : goal.returns-clause-mapped_twice
unfolding clap_on_literals asm_asked asm_asked_of count_of
returns-clause-mapped_twice c = refl

pub returns-clause-unknown : goal.returns-clause-unknown
unfolding clap_on_literals asm_asked asm_asked_of count_of
returns-clause-unknown c = refl

pub returns-clause-alone : goal.returns-clause-alone
unfolding clap_on_literals asm_asked asm_asked_of count_of
returns-clause-alone c = refl
