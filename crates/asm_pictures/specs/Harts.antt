-- The harts of a program, one after another.
use Rattle.std.specs.Prelude.{ℕ, min, Bool, List, [], ◌∷◌, ◌++◌, length, map}
use Rattle.std.specs.Prelude.{Result, Ok, Err}
use Rattle.std.specs.List.{list_any}
use Rattle.cheri_model.specs.declared.image.HartImage.{HartImage}
use Rattle.asm_tokens.specs.declared.fault.AsmFault.{AsmFault}
use Rattle.asm_tokens.specs.Faults.{◌>>=◌}
use Rattle.asm_files.specs.declared.fault.AssemblyFault.{AssemblyFault}
use Rattle.asm_files.specs.Requests.{HartRequestParts}
use Rattle.asm_starts.specs.Values.{SceneParts}
use Rattle.asm_starts.specs.Words.{each_put}
use Rattle.asm_starts.specs.Starts.{NoteParts, note_parts, note_of, StartParts, has_exit, start_of}
use Rattle.asm_pictures.specs.declared.harts.Opened.{Opened}

-- the harts so far, and where memory ends that is taken
pub record OpenedParts : Type 0 where
  pub images : List HartImage
  pub notes : List NoteParts
  pub memory_end : ℕ

abbrev pub opened_parts : Opened → OpenedParts
opened_parts opened =
    record {
      images = opened.images.items;
      notes = map note_parts opened.notes.items;
      memory_end = opened.memory_end;
    }

-- whether one of these harts is given the exit
unfoldable pub exits_in : List HartRequestParts → Bool
exits_in requests = list_any (λ request. has_exit request.words) requests

abbrev pub hart_number : ℕ → ℕ
hart_number count = min count 255

abbrev pub with_start : OpenedParts → StartParts → OpenedParts
with_start opened start =
    record {
      images = opened.images ++ start.hart.image ∷ [];
      notes = opened.notes ++ note_of start ∷ [];
      memory_end = start.hart.memory_end;
    }

abbrev pub asked_in : ℕ → Result OpenedParts AsmFault → Result OpenedParts AssemblyFault
asked_in file (Ok opened) = Ok opened
asked_in file (Err fault) = Err (record { file = file; fault = fault })

-- one more hart, behind the stacks of those before it
unfoldable pub hart_put : SceneParts → HartRequestParts → OpenedParts
    → Result OpenedParts AssemblyFault
hart_put scene request opened =
    asked_in request.file
    (start_of scene (hart_number (length opened.images)) opened.memory_end request.line request.words
    >>= λ start. Ok (with_start opened start))

-- the harts of requests, in memory that is taken up to an address
unfoldable pub harts_of : SceneParts → ℕ → List HartRequestParts → Result OpenedParts AssemblyFault
harts_of scene memory_end requests =
    each_put (hart_put scene) requests
    (record { images = []; notes = []; memory_end = memory_end })
