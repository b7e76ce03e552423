-- the values so far are those of the beginning of the lists
use Rattle.std.proofs.Common.{◌≡◌, map, take}
use Rattle.serde_json.specs.View.{view}
use Rattle.authority_texts.specs.AuthorityTexts.{list_data}
use Rattle.authority_texts.proofs.json.harts_json.Given as goal

abbrev pub invariant-loop-list : goal.invariant-loop-list
invariant-loop-list l = map view l.values.items ≡ map (λ list. list_data list.items) (take l.list-index l.lists)
