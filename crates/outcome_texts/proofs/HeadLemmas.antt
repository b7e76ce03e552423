-- What stands before the outcomes, line by line.
use Rattle.std.proofs.Common.{◌≡◌, ℕ, Bool, true, false, List, [], ◌++◌, codes, decimal, append_assoc, Result, OnOk}
use Rattle.std.specs.Prelude.{if◌then◌else◌}
use Rattle.cheri_model.specs.runs.Image.{ImageParts}
use Rattle.found_texts.specs.ReducedTexts.{reduced_line}
use Rattle.outcome_texts.specs.EndlessTexts.{endless_line}
use Rattle.outcome_texts.specs.OutcomeTexts.{head_lines}
use Rattle.outcome_texts.specs.ReducedTexts.{reduced_head_lines, said_head_lines}
use Rattle.report_lines.specs.Lines.{image_line}
use Rattle.report_lines.specs.Texts.{line}
use Rattle.shown_states.specs.StateTexts.{states_line}
use Rattle.state_loops.specs.declared.endless.Endless.{Endless}

in_lines : (out version image reduced states endless count : List ℕ)
    → (((((out ++ version) ++ image) ++ reduced) ++ states) ++ endless) ++ count
    ≡ out ++ (version ++ (image ++ (reduced ++ (states ++ (endless ++ count)))))
in_lines out version image reduced states endless count = simp append_assoc

-- one line after another
head_whole : (reduced complete : Bool) (image : ImageParts) (states : ℕ) (endless : Endless) (outcomes : ℕ) (out : List ℕ)
    → (((((out ++ line (if reduced then codes "cheri-sim outcomes 2" else codes "cheri-sim outcomes 1")) ++ image_line image)
    ++ (if reduced then reduced_line else [])) ++ states_line complete states) ++ endless_line endless)
    ++ line (if reduced then codes "outcomes -" else (codes "outcomes " ++ decimal outcomes))
    ≡ out ++ said_head_lines reduced complete image states endless outcomes
unfolding head_lines reduced_head_lines
head_whole false complete image states endless outcomes out =
    in_lines out (line (codes "cheri-sim outcomes 1")) (image_line image) [] (states_line complete states) (endless_line endless)
    (line (codes "outcomes " ++ decimal outcomes))
head_whole true complete image states endless outcomes out =
    in_lines out (line (codes "cheri-sim outcomes 2")) (image_line image) reduced_line (states_line complete states)
    (endless_line endless) (line (codes "outcomes -"))

pub head_written : {E : Type 0} (result : Result (Unit {0}) E) (reduced complete : Bool) (image : ImageParts) (states : ℕ)
    (endless : Endless) (outcomes : ℕ) (begin said out one two three four five last : List ℕ)
    → begin ≡ line (if reduced then codes "cheri-sim outcomes 2" else codes "cheri-sim outcomes 1")
    → said ≡ (if reduced then reduced_line else []) → one ≡ out ++ begin → two ≡ one ++ image_line image → three ≡ two ++ said
    → four ≡ three ++ states_line complete states → five ≡ four ++ endless_line endless
    → OnOk result (last ≡ five ++ line (if reduced then codes "outcomes -" else (codes "outcomes " ++ decimal outcomes)))
    → OnOk result (last ≡ out ++ said_head_lines reduced complete image states endless outcomes)
head_written result reduced complete image states endless outcomes begin said out one two three four five last
    begin_is said_is first second third fourth fifth written =
    rw (head_whole reduced complete image states endless outcomes out)
    at (rw (fifth, fourth, third, second, first, begin_is, said_is) at written)
