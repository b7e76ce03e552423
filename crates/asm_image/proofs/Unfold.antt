-- Names for `unfolding(..)` that open what their own line names.
use Rattle.std.specs.Prelude.{List, ℕ, Result}
use Rattle.asm_pictures.specs.Asked.{HartsParts}
use Rattle.asm_files.specs.declared.fault.AssemblyFault.{AssemblyFault}
use Rattle.asm_image.specs.Whole.{AssembledParts, scene_of, drawn_in, drawn, linked_drawn, program_meaning, assembly_meaning, mapped_of, map_of}

unfoldable pub whole : List (List ℕ) → HartsParts → Result AssembledParts AssemblyFault
unfolding scene_of drawn_in drawn linked_drawn program_meaning assembly_meaning mapped_of map_of
whole texts harts = assembly_meaning texts harts
