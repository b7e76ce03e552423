-- The nodes, whole or in parts.
use Rattle.std.specs.Prelude.{⊤}
use Rattle.interner.specs.Rows.{Rows}
use Rattle.graph_nodes.specs.Parted.{nodes_in, IsParted}
use Rattle.graph_nodes.specs.declared.nodes.Form.{Form}
use Rattle.graph_nodes.specs.declared.nodes.Form.TheVariants.{Whole, Parts}

-- the nodes that are kept in this form
abbrev pub nodes_kept : Form → Rows
nodes_kept (Whole rows) = rows
nodes_kept (Parts parted) = nodes_in parted

-- parts and order agree
abbrev pub IsForm : Form → Type 0
IsForm (Whole rows) = ⊤
IsForm (Parts parted) = IsParted parted
