-- the harts so far are written
use Rattle.std.proofs.Common.{◌≡◌, ◌++◌, drop, false, string_bytes}
use Rattle.reduced_texts.specs.ReducedTexts.{harts_text}
use Rattle.reduced_texts.proofs.words.write_harts.Given as goal

abbrev pub invariant-loop-hart : goal.invariant-loop-hart
invariant-loop-hart l =
    string_bytes l.out ++ harts_text l.group l.later l.hart-counter (drop l.hart-counter l.groups)
    ≡ string_bytes l.initial.out ++ harts_text l.group false 0 l.groups
