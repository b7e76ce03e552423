-- the values so far are those of the beginning of the list
use Rattle.std.proofs.Common.{◌≡◌, map, take}
use Rattle.serde_json.specs.View.{view}
use Rattle.authority_texts.specs.AuthorityTexts.{rights_data}
use Rattle.authority_texts.proofs.json.list_json.Given as goal

abbrev pub invariant-loop-told : goal.invariant-loop-told
invariant-loop-told l = map view l.values.items ≡ map rights_data (take l.told-index l.list)
