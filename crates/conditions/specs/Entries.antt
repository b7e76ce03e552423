-- The nodes of a condition in memory, each with the hart that the part speaks of alone which ends
-- with it.
use Rattle.std.specs.Prelude.{◌-◌, List, [], ◌∷◌, ◌++◌, length, map, slice_get, take, Option}
use Rattle.std.specs.Prelude.{Some, None}
use Rattle.conditions.specs.declared.parts.Node.{Node}
use Rattle.conditions.specs.declared.parts.Node.TheVariants as node
use Rattle.conditions.specs.declared.parts.Subject.{Subject}
use Rattle.conditions.specs.declared.entries.Entry.{Entry}
use Rattle.conditions.specs.Formulas.{Formula, says, deny, enclosed, join, counted, nodes_of}
use Rattle.conditions.specs.Hiding.{alone_atom, alone_both, alone}

abbrev pub entry : Node → Option Subject → Entry
entry n who = record { node = n; alone = who }

unfoldable pub entries_of : Formula → List Entry
entries_of (says a) = entry (node.Says a) (alone (says a)) ∷ []
entries_of (deny f) = entries_of f ++ entry node.Not (alone (deny f)) ∷ []
entries_of (enclosed f) = entries_of f ++ entry node.Enclosed (alone (enclosed f)) ∷ []
entries_of (join j f g) =
    entries_of f
    ++ (entries_of g ++ entry (node.Joined j (length (nodes_of g))) (alone (join j f g)) ∷ [])
entries_of (counted f c n) = entries_of f ++ entry (node.Counted c n) (alone (counted f c n)) ∷ []

-- the nodes alone
abbrev pub kept_nodes : List Entry → List Node
kept_nodes entries = map (λ e. e.node) entries

-- what the last entry has
abbrev pub alone_of : Option Entry → Option Subject
alone_of (Some last) = last.alone
alone_of None = None

unfoldable pub last_alone : List Entry → Option Subject
last_alone entries = alone_of (slice_get entries (length entries - 1))

-- what the part that a node ends speaks of alone, by the entries of its own parts
unfoldable pub alone_after : List Entry → Node → Option Subject
alone_after entries (node.Says a) = alone_atom a
alone_after entries node.Not = last_alone entries
alone_after entries node.Enclosed = last_alone entries
alone_after entries (node.Joined j second) =
    alone_both (last_alone (take (length entries - second) entries)) (last_alone entries)
alone_after entries (node.Counted c n) = None

-- entries, and then those of nodes that follow
unfoldable pub entries_with : List Entry → List Node → List Entry
entries_with entries [] = entries
entries_with entries (n ∷ ns) =
    entries_with (entries ++ entry n (alone_after entries n) ∷ []) ns
