-- The names so far, followed by those of the other permissions, are those of all.
use Rattle.std.proofs.Common.{◌≡◌, ◌++◌, false, map, drop, string_bytes}
use Rattle.cap_model.specs.words.PermissionNames.{permission_table}
use Rattle.notation.specs.Permissions.{joined_text}
use Rattle.notation.proofs.permissions.write_permission_names.Given as goal

abbrev pub invariant-loop-flag : goal.invariant-loop-flag
invariant-loop-flag l =
    string_bytes l.out ++ joined_text l.begun l.perms.0 (map (λ f. (f.name.now, f.value.0)) (drop l.flag-index l.flag-items))
    ≡ string_bytes l.initial.out ++ joined_text false l.perms.0 permission_table
