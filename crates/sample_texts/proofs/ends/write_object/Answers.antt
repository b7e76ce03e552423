use Rattle.std.proofs.Common.{◌++◌, codes, decimal, nat_lt, string_bytes}
use Rattle.serde_json.specs.Data.{string}
use Rattle.serde_json.specs.Written.{comma_if, compact_text}
use Rattle.shown_states.specs.StateTexts.{state_members}
use Rattle.sample_texts.specs.SampleJson.{outcome_json}
use Rattle.sample_texts.specs.SampleParts.{order_of}
use Rattle.sample_texts.proofs.EndLemmas.{object_written}
use Rattle.sample_texts.proofs.ends.write_object.Goals as goal

pub returns-clause-written : goal.returns-clause-written
unfolding outcome_json
returns-clause-written c =
    object_written c.write-2.result (string_bytes c.args.out.now) _ _ _ _ _ _ (comma_if (nat_lt 0 c.args.place))
    (codes "{\"first\":" ++ (decimal c.args.seen.first ++ codes ",")) (state_members c.args.state.now) (codes ",\"order\":")
    (compact_text (string (order_of c.args.orders.now c.args.seen.first)))
    (codes ",\"runs\":" ++ (decimal c.args.seen.runs ++ codes "}")) c.in_ok-write_comma.ensures c.in_ok-write.ensures.bytes
    c.in_ok-write_state.ensures c.in_ok-push_str.ensures.bytes (rw c.in_ok-order.ensures.text at c.in_ok-write_json_string.ensures)
    c.write-2.ensures.bytes
