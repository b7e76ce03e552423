use Rattle.explore_checks.proofs.TextLemmas.{property_no_float}
use Rattle.explore_checks.proofs.json.write_property.Goals as goal

pub write_json_value-requires : goal.write_json_value-requires
write_json_value-requires c = rw c.in_ok-property_json.ensures (property_no_float c.args.told.now)
