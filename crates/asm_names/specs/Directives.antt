-- The names of directives.
use Rattle.std.specs.Prelude.{ℕ, nat_le, Bool, ◌&&◌, if◌then◌else◌, List, [], ◌∷◌, length, take}
use Rattle.std.specs.Prelude.{codes, bytes_eq, Option, Some}
use Rattle.cheri_model.specs.instructions.Tables.{found_at}
use Rattle.asm_names.specs.declared.directives.Directive.{Directive}
use Rattle.asm_names.specs.declared.directives.Directive.TheVariants.{Plain, Section, Previous}
use Rattle.asm_names.specs.declared.directives.Directive.TheVariants.{Global, Local, Options, Set}
use Rattle.asm_names.specs.declared.directives.Directive.TheVariants.{Size, Comm, Align, Balign}
use Rattle.asm_names.specs.declared.directives.Directive.TheVariants.{Data, Chericap, Zero, Ascii}
use Rattle.asm_names.specs.declared.directives.Directive.TheVariants.{Asciz, Ignored, Outside}

abbrev pub directive_table : List (List ℕ × Directive)
directive_table =
    (codes ".text", Plain) ∷ (codes ".data", Plain) ∷ (codes ".bss", Plain) ∷
    (codes ".rodata", Plain) ∷ (codes ".section", Section) ∷ (codes ".previous", Previous) ∷
    (codes ".globl", Global) ∷ (codes ".global", Global) ∷ (codes ".weak", Global) ∷
    (codes ".local", Local) ∷ (codes ".option", Options) ∷ (codes ".set", Set) ∷
    (codes ".equ", Set) ∷ (codes ".size", Size) ∷ (codes ".comm", Comm) ∷
    (codes ".align", Align) ∷ (codes ".p2align", Align) ∷ (codes ".balign", Balign) ∷
    (codes ".byte", (Data 1)) ∷ (codes ".half", (Data 2)) ∷ (codes ".short", (Data 2)) ∷
    (codes ".hword", (Data 2)) ∷ (codes ".2byte", (Data 2)) ∷ (codes ".word", (Data 4)) ∷
    (codes ".long", (Data 4)) ∷ (codes ".4byte", (Data 4)) ∷ (codes ".dword", (Data 8)) ∷
    (codes ".quad", (Data 8)) ∷ (codes ".8byte", (Data 8)) ∷ (codes ".chericap", Chericap) ∷
    (codes ".zero", Zero) ∷ (codes ".space", Zero) ∷ (codes ".skip", Zero) ∷
    (codes ".ascii", Ascii) ∷ (codes ".asciz", Asciz) ∷ (codes ".string", Asciz) ∷
    (codes ".type", Ignored) ∷ (codes ".ident", Ignored) ∷ (codes ".file", Ignored) ∷
    (codes ".loc", Ignored) ∷ (codes ".attribute", Ignored) ∷ (codes ".addrsig", Ignored) ∷
    (codes ".addrsig_sym", Ignored) ∷ (codes ".hidden", Ignored) ∷
    (codes ".protected", Ignored) ∷ (codes ".internal", Ignored) ∷ (codes ".macro", Outside) ∷
    (codes ".endm", Outside) ∷ (codes ".rept", Outside) ∷ (codes ".irp", Outside) ∷
    (codes ".irpc", Outside) ∷ (codes ".endr", Outside) ∷ (codes ".if", Outside) ∷
    (codes ".ifdef", Outside) ∷ (codes ".ifndef", Outside) ∷ (codes ".else", Outside) ∷
    (codes ".elseif", Outside) ∷ (codes ".endif", Outside) ∷ (codes ".include", Outside) ∷
    (codes ".incbin", Outside) ∷ (codes ".org", Outside) ∷ (codes ".fill", Outside) ∷
    (codes ".insn", Outside) ∷ (codes ".octa", Outside) ∷ (codes ".float", Outside) ∷
    (codes ".double", Outside) ∷ (codes ".single", Outside) ∷ (codes ".lcomm", Outside) ∷
    (codes ".weakref", Outside) ∷ (codes ".symver", Outside) ∷ (codes ".pushsection", Outside) ∷
    (codes ".popsection", Outside) ∷ (codes ".subsection", Outside) ∷ (codes ".reloc", Outside) ∷
    (codes ".equiv", Outside) ∷ (codes ".dtprelword", Outside) ∷
    (codes ".dtpreldword", Outside) ∷ (codes ".uleb128", Outside) ∷ (codes ".sleb128", Outside) ∷
    (codes ".altmacro", Outside) ∷ (codes ".purgem", Outside) ∷ (codes ".struct", Outside) ∷
    (codes ".offset", Outside) ∷ (codes ".tls_common", Outside) ∷ []

-- the directives of call frames
abbrev pub is_cfi : List ℕ → Bool
is_cfi name = nat_le 5 (length name) && bytes_eq (take 5 name) (codes ".cfi_")

-- the directive of a name
unfoldable pub directive_of : List ℕ → Option Directive
directive_of name = if is_cfi name then Some Ignored else found_at directive_table name
