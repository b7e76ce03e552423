-- What files of assembly mean: an image, or the first fault.
use Rattle.std.specs.Prelude.{ℕ, Bool, List, length, map, Option}
use Rattle.std.specs.Prelude.{Result, Ok}
use Rattle.cheri_model.specs.declared.image.HartImage.{HartImage}
use Rattle.cheri_model.specs.runs.Image.{ImageParts}
use Rattle.asm_memory.specs.Memory.{listed_below}
use Rattle.asm_tokens.specs.Faults.{◌>>=◌}
use Rattle.asm_files.specs.declared.fault.AssemblyFault.{AssemblyFault}
use Rattle.asm_files.specs.Programs.{ProgramParts, program_parts}
use Rattle.asm_files.specs.Requests.{HartRequestParts}
use Rattle.asm_files.specs.Files.{program_of}
use Rattle.asm_late.specs.Linked.{LinkedParts, linked_parts, linked_of}
use Rattle.asm_late.specs.Late.{LateParts, objects_of}
use Rattle.asm_instructions.specs.declared.origin.Origin.{Origin}
use Rattle.asm_data.specs.Contents.{ContentsParts, contents_of}
use Rattle.asm_starts.specs.Values.{SceneParts}
use Rattle.asm_starts.specs.Starts.{NoteParts, note_parts}
use Rattle.asm_mapping.specs.Lines.{LineParts}
use Rattle.asm_mapping.specs.Mapping.{MappedParts, lines_of}
use Rattle.asm_image.specs.declared.whole.Assembled.{Assembled}
use Rattle.asm_image.specs.declared.whole.Drawn.{Drawn}
use Rattle.asm_pictures.specs.Asked.{HartsParts, asked_harts}
use Rattle.asm_pictures.specs.Harts.{exits_in, harts_of}
use Rattle.asm_pictures.specs.Image.{sizes_judged, exit_address, ram_of, program_with, image_made}

-- a program that is laid out, as harts see it
unfoldable pub scene_of : LateParts → Option ℕ → SceneParts
scene_of late exit =
    record {
      objects = objects_of late;
      known =
          record {
            seen = late.linked.seen;
            own = late.program.made.own;
            values = late.linked.values;
          };
      entries = length late.linked.table.symbols;
      exit = exit;
    }

-- an image, what a map tells of its harts, and where each instruction comes from
pub record DrawnParts : Type 0 where
  pub image : ImageParts
  pub harts : List NoteParts
  pub origins : List Origin

abbrev pub drawn_parts : Drawn → DrawnParts
drawn_parts drawn =
    record {
      image = drawn.image;
      harts = map note_parts drawn.harts.items;
      origins = drawn.origins.items;
    }

-- the image of a program with these harts, in RAM of a size
unfoldable pub drawn_in : ContentsParts → Bool → List HartImage → List NoteParts → ℕ
    → Result DrawnParts AssemblyFault
drawn_in contents exit images notes ram =
    image_made (program_with contents.code.instructions exit) ram
    (listed_below ram contents.memory) images
    >>= λ image.
    Ok (record { image = image; harts = notes; origins = contents.code.origins })

-- the size of RAM, which a request of files may say
abbrev pub ram_for : ProgramParts → ℕ → Result ℕ AssemblyFault
ram_for program memory_end = ram_of program.requests.ram memory_end

-- the image of a program: of its instructions, its memory, and harts of requests
unfoldable pub drawn : LateParts → ContentsParts → List HartRequestParts → Bool
    → Result DrawnParts AssemblyFault
drawn late contents requests exit = do
  judged ← sizes_judged late.linked.instructions exit late.linked.layout.memory_end
  opened ← harts_of (scene_of late (exit_address late.linked.instructions exit))
      late.linked.layout.memory_end requests
  ram ← ram_for late.program opened.memory_end
  drawn_in contents exit opened.images opened.notes ram

-- the same, with what statements put into code and memory
unfoldable pub linked_drawn : LateParts → List HartRequestParts → Bool
    → Result DrawnParts AssemblyFault
linked_drawn late requests exit =
    contents_of late >>= λ contents. drawn late contents requests exit

-- what files mean: the program, what everything in it is worth, the image, where each instruction
-- comes from, whether the guard and the exit follow, and what a map tells of each hart
pub record AssembledParts : Type 0 where
  pub program : ProgramParts
  pub linked : LinkedParts
  pub image : ImageParts
  pub origins : List Origin
  pub exit : Bool
  pub harts : List NoteParts

abbrev pub assembled_parts : Assembled → AssembledParts
assembled_parts a =
    record {
      program = program_parts a.program;
      linked = linked_parts a.linked;
      image = a.image;
      origins = a.origins.items;
      exit = a.exit;
      harts = map note_parts a.harts.items;
    }

abbrev pub assembled : LateParts → Bool → DrawnParts → AssembledParts
assembled late exit drawn =
    record {
      program = late.program;
      linked = late.linked;
      image = drawn.image;
      origins = drawn.origins;
      exit = exit;
      harts = drawn.harts;
    }

abbrev pub linked_meaning : LateParts → List HartRequestParts → Bool
    → Result AssembledParts AssemblyFault
linked_meaning late requests exit =
    linked_drawn late requests exit >>= λ drawn. Ok (assembled late exit drawn)

abbrev pub requested_meaning : ProgramParts → List HartRequestParts
    → Result AssembledParts AssemblyFault
requested_meaning program requests =
    linked_of program (exits_in requests) >>= λ linked.
    linked_meaning (record { program = program; linked = linked }) requests (exits_in requests)

-- what a program means that was read
unfoldable pub program_meaning : ProgramParts → HartsParts → Result AssembledParts AssemblyFault
program_meaning program harts =
    requested_meaning program (asked_harts harts program.requests.harts)

-- what files mean: phase after phase, up to the first fault
unfoldable pub assembly_meaning : List (List ℕ) → HartsParts → Result AssembledParts AssemblyFault
assembly_meaning texts harts = program_of texts >>= λ program. program_meaning program harts

-- what a map tells of a program
unfoldable pub mapped_of : AssembledParts → MappedParts
mapped_of a =
    record {
      objects = objects_of (record { program = a.program; linked = a.linked });
      table = a.linked.table.symbols;
      origins = a.origins;
      exit = a.exit;
      harts = a.harts;
    }

-- the lines of its map, of files of these names
unfoldable pub map_of : AssembledParts → List (List ℕ) → List LineParts
map_of a names = lines_of (mapped_of a) names
