-- Registers hold what words set them to, or what every hart is given.
use Rattle.std.proofs.Common.{◌≡◌, ◌⊎◌, inl, inr, ℕ, zero, suc, ◌+◌, ◌-◌, ◌==◌, ◌<◌, Bool, true, false, cond, List, [], ◌∷◌, length, Option, Some, None, Result, Ok, Err, refl, sym, ap, ◌∙◌, subst, get_or, set, lit<, arith}
use Rattle.std.specs.Prelude.{replicate, is_some}
use Rattle.canonical.proofs.round_trip.Ranges.{test_false}
use Rattle.asm_tokens.specs.declared.fault.AsmFaultKind.TheVariants as faults
use Rattle.std.specs.List.{Contains}
use Rattle.cap_model.specs.values.CapValue.{CapValue, raw}
use Rattle.cap_ops.specs.declared.making.MakeFault.{MakeFault}
use Rattle.asm_tokens.specs.declared.fault.AsmFault.{AsmFault}
use Rattle.asm_tokens.specs.declared.fault.AsmFaultKind.{AsmFaultKind}
use Rattle.asm_tokens.specs.Faults.{◌>>=◌}
use Rattle.asm_capabilities.specs.Capabilities.{sentry_at}
use Rattle.asm_harts.specs.declared.registers.Registers.{Registers}
use Rattle.asm_harts.specs.declared.hart.HartPlaces.{HartPlaces}
use Rattle.asm_harts.specs.declared.hart.OpenHart.{OpenHart}
use Rattle.asm_harts.specs.Registers.{no_registers, is_set, with_register}
use Rattle.asm_harts.specs.Harts.{hart_of}
use Rattle.asm_harts.specs.Given.{IsExit, IsStack, IsGiven, register_at}
use Rattle.asm_harts.proofs.GivenLemmas.{given}
use Rattle.asm_requests.specs.Settings.{SettingParts, entry, stack, exit, integer, capability, setting_of}
use Rattle.asm_requests.specs.Words.{WordParts}
use Rattle.asm_starts.specs.Values.{SceneParts, entry_at, held_value}
use Rattle.asm_harts.specs.declared.hart.TheConstants.{STACK, LINK}
use Rattle.asm_starts.specs.Words.{SetupParts, new_setup, register_claimed, with_value, entry_put, stack_put, integer_put, capability_put, setting_put, said_put, word_put, at_word, word_at, each_put}
use Rattle.asm_starts.specs.Starts.{StartParts, has_exit, entry_of, places_of, start_from, start_of}
use Rattle.asm_listable.specs.Asked.{IsInteger, IsWritten, IsTheExit, IsAsked}
use Rattle.asm_listable.proofs.Starts.{then_ok, placed_ok, started}

abbrev held_in : Registers → ℕ → CapValue
held_in r n = get_or r.values n (raw 0)

-- what the words of a list, or nothing, set
abbrev IsSaid : SceneParts → List WordParts → CapValue → Type 0
IsSaid scene words value = IsInteger value ⊎ IsWritten scene words value

abbrev AreSaid : SceneParts → List WordParts → Registers → Type 0
AreSaid scene words r = (n : ℕ) → IsSaid scene words (held_in r n)

either : (xs : List CapValue) (i n : ℕ) (v d : CapValue)
    → (get_or (set xs i v) n d ≡ v) ⊎ (get_or (set xs i v) n d ≡ get_or xs n d)
either [] i n v d = inr refl
either (x ∷ xs) zero zero v d = inl refl
either (x ∷ xs) zero (suc n) v d = inr refl
either (x ∷ xs) (suc i) zero v d = inr refl
either (x ∷ xs) (suc i) (suc n) v d = either xs i n v d

put_in : (zero_register : Bool) (r : Registers) (register : ℕ) (v : CapValue) (n : ℕ) → (register == 0) ≡ zero_register
    → (held_in (with_register r register v) n ≡ v) ⊎ (held_in (with_register r register v) n ≡ held_in r n)
unfolding with_register
put_in true r register v n e = inr (rw e refl)
put_in false r register v n e = rw e (either r.values (register - 1) n v (raw 0))

put_said : (scene : SceneParts) (words : List WordParts) (r : Registers) (register : ℕ) (v : CapValue) → IsSaid scene words v
    → AreSaid scene words r → AreSaid scene words (with_register r register v)
put_said scene words r register v said all n =
    elim (put_in (register == 0) r register v n refl) [
      | inl put ↦ subst (IsSaid scene words) (sym put) said
      | inr kept ↦ subst (IsSaid scene words) (sym kept) (all n)
    ]

claim_by : (there : Bool) (setup after : SetupParts) (register : ℕ) → is_set setup.named register ≡ there → register_claimed setup register ≡ Ok after
    → setup.registers ≡ after.registers
unfolding register_claimed
claim_by true setup after register n e = absurd (let clash = rw n at e in cc)
claim_by false setup after register n e =
    let is : record setup { named = with_register setup.named register (raw 0) } ≡ after = (let h = rw n at e in cc) in
    ap (λ (s : SetupParts). s.registers) is

claim_keeps : (setup after : SetupParts) (register : ℕ) → register_claimed setup register ≡ Ok after → setup.registers ≡ after.registers
claim_keeps setup after register e = claim_by (is_set setup.named register) setup after register refl e

-- a word of the list that says this
abbrev Says : List WordParts → WordParts → SettingParts → Type 0
Says words word setting = Contains words word × (setting_of word.text ≡ Some setting)

setting_said : (scene : SceneParts) (words : List WordParts) (word : WordParts) (setup after : SetupParts) (setting : SettingParts)
    → Says words word setting → AreSaid scene words setup.registers → setting_put scene setup setting ≡ Ok after
    → AreSaid scene words after.registers
unfolding setting_put entry_put stack_put integer_put capability_put
setting_said scene words word setup after (entry name) says all e =
    let free = test_false (is_some setup.start) (entry_at scene name >>= λ chosen. Ok (record setup { start = Some chosen.1 })) faults.Hart after e in
    let x = then_ok (entry_at scene name) (λ chosen. Ok (record setup { start = Some chosen.1 })) after free.1 in
    let is : record setup { start = Some x.0.1 } ≡ after = (let h = x.2 in cc) in
    subst (λ (s : SetupParts). AreSaid scene words s.registers) is all
setting_said scene words word setup after (stack size) says all e =
    let x = then_ok (register_claimed setup STACK) (λ next. Ok (record next { stack = size })) after e in
    let is : record x.0 { stack = size } ≡ after = (let h = x.2 in cc) in
    subst (λ (s : SetupParts). AreSaid scene words s.registers) is (subst (AreSaid scene words) (claim_keeps setup x.0 STACK x.1) all)
setting_said scene words word setup after (exit given) says all e = subst (AreSaid scene words) (claim_keeps setup after LINK e) all
setting_said scene words word setup after (integer register bits) says all e =
    let x = then_ok (register_claimed setup register) (λ next. Ok (with_value next register (raw bits))) after e in
    let next : AreSaid scene words x.0.registers = subst (AreSaid scene words) (claim_keeps setup x.0 register x.1) all in
    let is : with_value x.0 register (raw bits) ≡ after = (let h = x.2 in cc) in
    subst (λ (s : SetupParts). AreSaid scene words s.registers) is
    (put_said scene words x.0.registers register (raw bits) (inl (bits, refl)) next)
setting_said scene words word setup after (capability register held) says all e =
    let x = then_ok (register_claimed setup register) (λ next. held_value scene held >>= λ value. Ok (with_value next register value)) after e in
    let next : AreSaid scene words x.0.registers = subst (AreSaid scene words) (claim_keeps setup x.0 register x.1) all in
    let y = then_ok (held_value scene held) (λ value. Ok (with_value x.0 register value)) after x.2 in
    let is : with_value x.0 register y.0 ≡ after = (let h = y.2 in cc) in
    subst (λ (s : SetupParts). AreSaid scene words s.registers) is
    (put_said scene words x.0.registers register y.0 (inr (word, (register, (held, (says.0, says.1, y.1))))) next)

said_by : (scene : SceneParts) (words : List WordParts) (word : WordParts) (setup after : SetupParts) (setting : Option SettingParts)
    → setting_of word.text ≡ setting → Contains words word → AreSaid scene words setup.registers → said_put scene setup setting ≡ Ok after
    → AreSaid scene words after.registers
said_by scene words word setup after (Some setting) s there all e = setting_said scene words word setup after setting (there, s) all e
said_by scene words word setup after None s there all e = absurd (cc)

-- the words that are left are words of the list
abbrev Within : List WordParts → List WordParts → Type 0
Within words left = (word : WordParts) → Contains left word → Contains words word

first_in : (word : WordParts) (left : List WordParts) → Contains (word ∷ left) word
first_in word left = (0, omega arith, refl)

later_in : (word other : WordParts) (left : List WordParts) → Contains left other → Contains (word ∷ left) other
later_in word other left there = let low = there.1 in (suc there.0, omega arith, there.2)

words_said : (scene : SceneParts) (line : ℕ) (words left : List WordParts) (setup after : SetupParts) → Within words left
    → AreSaid scene words setup.registers → each_put (word_at scene line) left setup ≡ Ok after → AreSaid scene words after.registers
unfolding each_put word_at word_put
words_said scene line words [] setup after within all e =
    let is : setup ≡ after = cc in subst (λ (s : SetupParts). AreSaid scene words s.registers) is all
words_said scene line words (word ∷ left) setup after within all e =
    let x = then_ok (at_word line word.column (word_put scene setup word.text)) (λ next. each_put (word_at scene line) left next) after e in
    words_said scene line words left x.0 after (λ other there. within other (later_in word other left there))
    (said_by scene words word setup x.0 (setting_of word.text) refl (within word (first_in word left)) all
    (placed_ok line word.column (word_put scene setup word.text) x.0 x.1)) x.2

null_at : (count n : ℕ) → get_or (replicate count (raw 0)) n (raw 0) ≡ raw 0
null_at zero n = refl
null_at (suc count) zero = refl
null_at (suc count) (suc n) = null_at count n

exit_there : (given : Bool) (there : Option ℕ) (addr : ℕ) → cond given there None ≡ Some addr → there ≡ Some addr
exit_there true there addr e = e
exit_there false there addr e = absurd (cc)

pub start_asked : (scene : SceneParts) (number memory_end line : ℕ) (words : List WordParts) (start : StartParts) (place : ℕ)
    → start_of scene number memory_end line words ≡ Ok start → IsAsked scene words start place
unfolding start_of places_of
start_asked scene number memory_end line words start place e =
    let x = then_ok (each_put (word_at scene line) words new_setup)
    (λ setup. start_from line (entry_of scene words setup.start) (hart_of setup.registers (places_of scene number memory_end words setup))) start e in
    let places : HartPlaces = places_of scene number memory_end words x.0 in
    let none : AreSaid scene words no_registers = λ n. inl (0, null_at 31 n) in
    let said : AreSaid scene words x.0.registers = words_said scene line words words new_setup x.0 (λ word there. there) none x.1 in
    let is : hart_of x.0.registers places ≡ Ok start.hart = started line (entry_of scene words x.0.start) (hart_of x.0.registers places) start x.2 in
    elim (given x.0.registers places start.hart place is) [
      | inl kept ↦ elim (said place) [
        | inl bits ↦ inl (bits.0, kept ∙ bits.1)
        | inr given_by ↦ inr (inl (subst (IsWritten scene words) (sym kept) given_by))
      ]
      | inr more ↦ elim more [
        | inl numbered ↦ inl (places.number, numbered)
        | inr rest ↦ elim rest [
          | inl there ↦ inr (inr (inl (there.0, exit_there (has_exit words) scene.exit there.0 there.1, there.2)))
          | inr given_stack ↦ inr (inr (inr given_stack))
        ]
      ]
    ]
