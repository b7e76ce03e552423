-- Files that were read, one after another.
use Rattle.std.proofs.Common.{◌≡◌, ◌∙◌, ◌++◌, ◌+◌, ◌<◌, ℕ, suc, List, [], ◌∷◌, length, map, take, drop, get_or, Option, None, Err, refl, sym, ap, subst, inl, inr, add-one, drop-cons}
use Rattle.std.proofs.lemmas.List.{length-map, map-append, take-append-drop, take_more}
use Rattle.std.specs.Prelude.{Vec}
use Rattle.std.specs.Global.{Global}
use Rattle.std.specs.Borrow.{Bor}
use Rattle.asm_files.specs.Programs.{text_of}
use Rattle.inputs.specs.Files.{AreBytesOf, KnownFiles}
use Rattle.program_io.specs.declared.fault.Fault.TheVariants.{Own}
use Rattle.asm_program.specs.declared.faults.OwnFault.TheVariants.{CannotReadAssembly}
use Rattle.asm_program.specs.Faults.{Answer, Fault}
use Rattle.asm_program.specs.Texts.{AreRead, AreUnread, IsUnread, OfFiles, SomeUnread, text_items}

-- no file
pub read_none : AreRead [] []
unfolding AreRead
read_none = tt

-- one more file that was read
pub read_more : (files : List (Option (List ℕ))) (texts : List (List ℕ)) (file : Option (List ℕ)) (text : List ℕ) → AreRead files texts
    → AreBytesOf file text → AreRead (files ++ file ∷ []) (texts ++ text ∷ [])
unfolding AreRead
read_more [] [] file text are is = (is, tt)
read_more [] (first ∷ texts) file text are is = absurd are
read_more (first ∷ files) [] file text are is = absurd are
read_more (first ∷ files) (known ∷ texts) file text are is = (are.0, read_more files texts file text are.1 is)

-- a file that cannot be read, after some that were
pub unread_after : (files : List (Option (List ℕ))) (texts : List (List ℕ)) (file : Option (List ℕ)) (rest : List (Option (List ℕ)))
    → AreRead files texts → file ≡ None → SomeUnread (files ++ file ∷ rest)
unfolding AreRead SomeUnread
unread_after [] [] file rest are is = inl is
unread_after [] (first ∷ texts) file rest are is = absurd are
unread_after (first ∷ files) [] file rest are is = absurd are
unread_after (first ∷ files) (known ∷ texts) file rest are is = inr ((known, are.0), unread_after files texts file rest are.1 is)

-- what is so of the bytes is answered of the files
pub of_files : (files : List (Option (List ℕ))) (texts : List (List ℕ)) (IsSo : List (List ℕ) → Type 0) (answer : Answer)
    → AreRead files texts → IsSo texts → OfFiles files IsSo answer
unfolding AreRead OfFiles
of_files [] [] IsSo answer are so = so
of_files [] (text ∷ texts) IsSo answer are so = absurd are
of_files (file ∷ files) [] IsSo answer are so = absurd are
of_files (file ∷ files) (text ∷ texts) IsSo answer are so = inr (text, are.0, of_files files texts (λ more. IsSo (text ∷ more)) answer are.1 so)

-- a file that cannot be read is the answer
pub unread_is : (files : List (Option (List ℕ))) (IsSo : List (List ℕ) → Type 0) → SomeUnread files
    → OfFiles files IsSo (Err (Own CannotReadAssembly))
unfolding SomeUnread OfFiles
unread_is [] IsSo unread = absurd unread
unread_is (file ∷ files) IsSo (inl is) = inl (is, refl)
unread_is (file ∷ files) IsSo (inr (known, unread)) = inr (known.0, known.1, unread_is files (λ more. IsSo (known.0 ∷ more)) unread)

-- the file after those so far
module _ (known : KnownFiles) (names : List (Bor (List ℕ))) (i : ℕ) (d : Bor (List ℕ)) (inside : i < length names) where
  abbrev so_far : List (Option (List ℕ))
  so_far = map known (map text_of (take i names))

  abbrev here : Option (List ℕ)
  here = known (get_or names i d).now

  abbrev behind : List (Option (List ℕ))
  behind = map known (map text_of (drop (i + 1) names))

  mapped : (first : List (Bor (List ℕ))) (name : Bor (List ℕ)) (rest : List (Bor (List ℕ)))
      → map known (map text_of (first ++ name ∷ rest)) ≡ map known (map text_of first) ++ known name.now ∷ map known (map text_of rest)
  mapped first name rest =
      ap (map known) (map-append text_of first (name ∷ rest)) ∙ map-append known (map text_of first) (map text_of (name ∷ rest))

  with_next : map known (map text_of (take (i + 1) names)) ≡ so_far ++ here ∷ []
  with_next =
      ap (λ (ns : List (Bor (List ℕ))). map known (map text_of ns)) (take_more names i d inside) ∙ mapped (take i names) (get_or names i d) []

  parted : take i names ++ get_or names i d ∷ drop (i + 1) names ≡ names
  parted =
      let left : drop i names ≡ get_or names i d ∷ drop (i + 1) names = rw add-one (drop-cons names i d inside) in
      ap (λ (ns : List (Bor (List ℕ))). take i names ++ ns) (sym left) ∙ take-append-drop i names

  with_all : map known (map text_of names) ≡ so_far ++ here ∷ behind
  with_all =
      ap (λ (ns : List (Bor (List ℕ))). map known (map text_of ns)) (sym parted)
      ∙ mapped (take i names) (get_or names i d) (drop (i + 1) names)

  pub next_read : (texts : List (List ℕ)) (text : List ℕ) → AreRead so_far texts → AreBytesOf here text
      → AreRead (map known (map text_of (take (i + 1) names))) (texts ++ text ∷ [])
  next_read texts text are is = rw with_next (read_more so_far texts here text are is)

  pub next_unread : (texts : List (List ℕ)) (fault : Fault) → AreRead so_far texts → IsUnread here fault
      → AreUnread (map known (map text_of names)) fault
  next_unread texts fault are (inl memory) = inl memory
  next_unread texts fault are (inr unread) =
      inr (
        unread.0,
        subst (λ (files : List (Option (List ℕ))). SomeUnread files) (sym with_all)
            (unread_after so_far texts here behind are unread.1),
      )

-- each file has its text
read_count : (files : List (Option (List ℕ))) (texts : List (List ℕ)) → AreRead files texts → length texts ≡ length files
unfolding AreRead
read_count [] [] are = refl
read_count [] (text ∷ texts) are = absurd are
read_count (file ∷ files) [] are = absurd are
read_count (file ∷ files) (text ∷ texts) are = ap suc (read_count files texts are.1)

pub read_length : (known : KnownFiles) (names : List (Bor (List ℕ))) (texts : List (Vec ℕ Global))
    → AreRead (map known (map text_of names)) (map text_items texts) → length texts ≡ length names
read_length known names texts are =
    sym (length-map texts text_items) ∙ read_count (map known (map text_of names)) (map text_items texts) are
    ∙ length-map (map text_of names) known ∙ length-map names text_of

pub ruleset reads = read_none
