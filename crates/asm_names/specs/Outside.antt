-- Instructions that assemblers know and the machine hasn't.
use Rattle.std.specs.Prelude.{ℕ, ◌==◌, nat_le, Bool, not, ◌&&◌, ◌||◌, if◌then◌else◌, List, [], ◌∷◌}
use Rattle.std.specs.Prelude.{length, drop, slice_index, take_while, codes}
use Rattle.std.specs.Option.{is_some}
use Rattle.cheri_model.specs.instructions.Tables.{found_at}

-- names of other profiles, one by one
abbrev pub word_table : List (List ℕ × Unit {0})
word_table =
    (codes "mul", tt) ∷ (codes "mulh", tt) ∷ (codes "mulhsu", tt) ∷ (codes "mulhu", tt) ∷
    (codes "mulw", tt) ∷ (codes "div", tt) ∷ (codes "divu", tt) ∷ (codes "divw", tt) ∷
    (codes "divuw", tt) ∷ (codes "rem", tt) ∷ (codes "remu", tt) ∷ (codes "remw", tt) ∷
    (codes "remuw", tt) ∷ (codes "csrr", tt) ∷ (codes "csrw", tt) ∷ (codes "csrs", tt) ∷
    (codes "csrc", tt) ∷ (codes "csrwi", tt) ∷ (codes "csrsi", tt) ∷ (codes "csrci", tt) ∷
    (codes "csrrw", tt) ∷ (codes "csrrs", tt) ∷ (codes "csrrc", tt) ∷ (codes "csrrwi", tt) ∷
    (codes "csrrsi", tt) ∷ (codes "csrrci", tt) ∷ (codes "rdcycle", tt) ∷ (codes "rdtime", tt) ∷
    (codes "rdinstret", tt) ∷ (codes "mret", tt) ∷ (codes "sret", tt) ∷ (codes "uret", tt) ∷
    (codes "wfi", tt) ∷ (codes "fence.i", tt) ∷ (codes "sfence.vma", tt) ∷ (codes "auipc", tt) ∷
    (codes "la.got", tt) ∷ (codes "la.tls.ie", tt) ∷ (codes "la.tls.gd", tt) ∷
    (codes "cla.tls.ie", tt) ∷ (codes "clc.tls.gd", tt) ∷ (codes "csetoffset", tt) ∷
    (codes "ccopytype", tt) ∷ (codes "ccseal", tt) ∷ (codes "ctoptr", tt) ∷
    (codes "cfromptr", tt) ∷ (codes "cloadtags", tt) ∷ (codes "cgettop", tt) ∷
    (codes "cspecialrw", tt) ∷ (codes "cspecialr", tt) ∷ (codes "cspecialw", tt) ∷
    (codes "cclear", tt) ∷ (codes "clear", tt) ∷ (codes "fpclear", tt) ∷ (codes "jalr.pcc", tt) ∷
    (codes "lb.ddc", tt) ∷ (codes "lh.ddc", tt) ∷ (codes "lw.ddc", tt) ∷ (codes "ld.ddc", tt) ∷
    (codes "lbu.ddc", tt) ∷ (codes "lhu.ddc", tt) ∷ (codes "lwu.ddc", tt) ∷
    (codes "lc.ddc", tt) ∷ (codes "sb.ddc", tt) ∷ (codes "sh.ddc", tt) ∷ (codes "sw.ddc", tt) ∷
    (codes "sd.ddc", tt) ∷ (codes "sc.ddc", tt) ∷ []

-- what an instruction on floats begins with, before its first point
abbrev pub float_table : List (List ℕ × Unit {0})
float_table =
    (codes "fadd", tt) ∷ (codes "fsub", tt) ∷ (codes "fmul", tt) ∷ (codes "fdiv", tt) ∷
    (codes "fsqrt", tt) ∷ (codes "fsgnj", tt) ∷ (codes "fsgnjn", tt) ∷ (codes "fsgnjx", tt) ∷
    (codes "fmin", tt) ∷ (codes "fmax", tt) ∷ (codes "fcvt", tt) ∷ (codes "fmv", tt) ∷
    (codes "feq", tt) ∷ (codes "flt", tt) ∷ (codes "fle", tt) ∷ (codes "fclass", tt) ∷
    (codes "flw", tt) ∷ (codes "fld", tt) ∷ (codes "fsw", tt) ∷ (codes "fsd", tt) ∷
    (codes "fmadd", tt) ∷ (codes "fmsub", tt) ∷ (codes "fnmadd", tt) ∷ (codes "fnmsub", tt) ∷
    (codes "fabs", tt) ∷ (codes "fneg", tt) ∷ (codes "frcsr", tt) ∷ (codes "fscsr", tt) ∷
    (codes "frrm", tt) ∷ (codes "fsrm", tt) ∷ (codes "frflags", tt) ∷ (codes "fsflags", tt) ∷
    (codes "cflw", tt) ∷ (codes "cfld", tt) ∷ (codes "cfsw", tt) ∷ (codes "cfsd", tt) ∷ []

-- what an atomic instruction begins with, and how it goes on from its first point
abbrev pub atomic_table : List (List ℕ × Unit {0})
atomic_table =
    (codes "lr", tt) ∷ (codes "sc", tt) ∷ (codes "amoswap", tt) ∷ (codes "amoadd", tt) ∷
    (codes "amoand", tt) ∷ (codes "amoor", tt) ∷ (codes "amoxor", tt) ∷ (codes "amomax", tt) ∷
    (codes "amomaxu", tt) ∷ (codes "amomin", tt) ∷ (codes "amominu", tt) ∷ []

abbrev pub tail_table : List (List ℕ × Unit {0})
tail_table =
    (codes ".b", tt) ∷ (codes ".h", tt) ∷ (codes ".w", tt) ∷ (codes ".d", tt) ∷
    (codes ".c", tt) ∷ (codes ".b.aq", tt) ∷ (codes ".h.aq", tt) ∷ (codes ".w.aq", tt) ∷
    (codes ".d.aq", tt) ∷ (codes ".c.aq", tt) ∷ (codes ".b.rl", tt) ∷ (codes ".h.rl", tt) ∷
    (codes ".w.rl", tt) ∷ (codes ".d.rl", tt) ∷ (codes ".c.rl", tt) ∷ (codes ".b.aqrl", tt) ∷
    (codes ".h.aqrl", tt) ∷ (codes ".w.aqrl", tt) ∷ (codes ".d.aqrl", tt) ∷
    (codes ".c.aqrl", tt) ∷ []

-- the sets of accesses that a fence names
abbrev pub fence_table : List (List ℕ × Unit {0})
fence_table =
    (codes "i", tt) ∷ (codes "o", tt) ∷ (codes "io", tt) ∷ (codes "r", tt) ∷ (codes "ir", tt) ∷
    (codes "or", tt) ∷ (codes "ior", tt) ∷ (codes "w", tt) ∷ (codes "iw", tt) ∷
    (codes "ow", tt) ∷ (codes "iow", tt) ∷ (codes "rw", tt) ∷ (codes "irw", tt) ∷
    (codes "orw", tt) ∷ (codes "iorw", tt) ∷ []

-- what is before the first point, and what is from there on
abbrev pub is_before_point : ℕ → Bool
is_before_point b = not (b == 0x2E)

abbrev pub stem : List ℕ → List ℕ
stem name = take_while is_before_point name

abbrev pub tail : List ℕ → List ℕ
tail name = drop (length (stem name)) name

unfoldable pub is_atomic : List ℕ → Bool
is_atomic name =
    is_some (found_at atomic_table (stem name)) && is_some (found_at tail_table (tail name))

abbrev pub without_c : List ℕ → List ℕ
without_c name =
    if nat_le 1 (length name) && (slice_index name 0 == 0x63) then drop 1 name else name

abbrev pub has_c_point : List ℕ → Bool
has_c_point name =
    nat_le 2 (length name) && (slice_index name 0 == 0x63) && (slice_index name 1 == 0x2E)

-- a name, in small letters, of an instruction that the machine hasn't, if it is none of the
-- machine's
unfoldable pub is_outside : List ℕ → Bool
is_outside name =
    is_some (found_at word_table name) || has_c_point name
    || is_some (found_at float_table (stem name)) || is_atomic (without_c name)

-- some of `i`, `o`, `r`, `w` in this order
unfoldable pub is_fence_set : List ℕ → Bool
is_fence_set name = is_some (found_at fence_table name)
