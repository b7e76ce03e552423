-- What a call left in its room, as the answer of what it told.
use Rattle.std.proofs.Common.{◌≡◌, ◌∙◌, refl, ap, ℕ, ◌+◌, ◌-◌, ◌<◌, ◌≤◌, true, false, List, ◌++◌, length, take, drop, Option, arith, inl, inr}
use Rattle.std.specs.Prelude.{nat_lt, min}
use Rattle.std.proofs.lemmas.Bool.Decides.{nat_tests}
use Rattle.cheri_page.specs.declared.answer.Answer.{Answer}
use Rattle.cheri_page.specs.declared.fault.Fault.{Fault}
use Rattle.cheri_page.specs.Answers.{Told, Answers, IsTold, out_of_memory, line_of, answer_of, no_room, said_in, answer_in, out_after}

lacks : (room count : ℕ) → room < count → nat_lt room count ≡ true
lacks room count less = grind (arith, nat_tests)

fits : (room count : ℕ) → count ≤ room → nat_lt room count ≡ false
fits room count within = grind (arith, nat_tests)

-- ---- no room

pub out_kept : (old : List ℕ) (told : Told) → length old < length told.text → old ≡ out_after old told
unfolding out_after
out_kept old told less = rw (lacks (length old) (length told.text) less) refl

pub answer_kept : (room : ℕ) (told : Told) → room < length told.text → no_room (length told.text) ≡ answer_in room told
unfolding answer_in
answer_kept room told less = rw (lacks room (length told.text) less) refl

-- ---- a text, and as much of the fault's line as there is room for

said_so : (room said : ℕ) (line : List ℕ) (told : Told) → line ≡ line_of told.fault → said ≡ min (length line) (room - length told.text) →
    said ≡ said_in room told
said_so room said line told is count = count ∙ ap (λ (l : List ℕ). min (length l) (room - length told.text)) is

pub out_written : (old new line : List ℕ) (told : Told) (said : ℕ) → length told.text ≤ length old → line ≡ line_of told.fault →
    said ≡ min (length line) (length old - length told.text) →
    new ≡ told.text ++ (take said line ++ drop (length told.text + said) old) → new ≡ out_after old told
unfolding out_after
out_written old new line told said room is count written =
    let same : said ≡ said_in (length old) told = said_so (length old) said line told is count in
    let whole : new ≡ told.text ++ (take (said_in (length old) told) (line_of told.fault) ++ drop (length told.text + said_in (length old) told) old) =
    written
    ∙ (ap (λ (n : ℕ). told.text ++ (take n line ++ drop (length told.text + n) old)) same
    ∙ ap (λ (l : List ℕ). told.text ++ (take (said_in (length old) told) l ++ drop (length told.text + said_in (length old) told) old)) is) in
    rw (fits (length old) (length told.text) room) whole

pub answer_written : (room : ℕ) (line : List ℕ) (told : Told) (said : ℕ) (answer : Answer) → length told.text ≤ room →
    line ≡ line_of told.fault → said ≡ min (length line) (room - length told.text) →
    answer ≡ answer_of told.fault (length told.text) said → answer ≡ answer_in room told
unfolding answer_in
answer_written room line told said answer within is count made =
    let same : said ≡ said_in room told = said_so room said line told is count in
    rw (fits room (length told.text) within) (made ∙ ap (λ (n : ℕ). answer_of told.fault (length told.text) n) same)

-- ---- what was told

pub tells_it : (text : List ℕ) (fault : Option Fault) (old new : List ℕ) (answer : Answer) →
    new ≡ out_after old (record { text = text; fault = fault }) →
    answer ≡ answer_in (length old) (record { text = text; fault = fault }) →
    Answers (IsTold (record { text = text; fault = fault })) old new answer
tells_it text fault old new answer out said =
    record { told = record { text = text; fault = fault }; is_so = inr refl; out = out; said = said }

pub tells_memory : (meant : Told) (old new : List ℕ) (answer : Answer) → new ≡ out_after old out_of_memory →
    answer ≡ answer_in (length old) out_of_memory → Answers (IsTold meant) old new answer
tells_memory meant old new answer out said = record { told = out_of_memory; is_so = inl refl; out = out; said = said }

pub ruleset tells = (tells_it, tells_memory)
