-- Names for `unfolding(..)` that open what their own line names.
use Rattle.std.specs.Prelude.{ℕ, Bool, List}
use Rattle.cheri_model.specs.declared.form.Form.{Form}
use Rattle.cheri_model.specs.declared.names.Mnemonic.{Mnemonic}
use Rattle.cheri_model.specs.instructions.Names.{mnemonic_table, name_among, name_of}
use Rattle.notation.specs.Instructions.{form_text}
use Rattle.explanations.specs.declared.selection.Selection.{Selection}
use Rattle.explanations.specs.InstructionLines.{LineParts}
use Rattle.explanations.specs.Explanation.{Explained, is_shown, shown_lines, head_lines}
use Rattle.explanations.specs.JsonText.{shown_item}
use Rattle.report_lines.specs.ValueData.{value_members}
use Rattle.facts.specs.declared.step_facts.NamedValue.{NamedValue}
use Rattle.serde_json.specs.Data.{Data}
use Rattle.facts.specs.declared.why.Why.{Why}
use Rattle.explanations.specs.FactData.{named_data, step_data, put_swept, sweep_data}
use Rattle.explanations.specs.Reasons.{why_text, trap_why_text}

unfoldable pub shown : LineParts → Selection → ℕ → Explained → List ℕ
unfolding is_shown shown_lines head_lines
shown lines selection number facts = shown_lines lines selection number facts

unfoldable pub item : LineParts → Selection → Bool → ℕ → Explained → List ℕ
unfolding is_shown shown_item
item lines selection later number facts = shown_item lines selection later number facts

unfoldable pub names : Mnemonic → List ℕ
unfolding name_of name_among mnemonic_table
names mnemonic = name_of mnemonic

unfoldable pub forms : Form → List ℕ
unfolding form_text names
forms form = form_text form

unfoldable pub values : NamedValue → Data
unfolding named_data value_members
values named = named_data named

-- facts in JSON
unfoldable pub in_json : NamedValue → Data
unfolding named_data step_data put_swept sweep_data
in_json named = named_data named

unfoldable pub reasons : Why → List ℕ
unfolding why_text trap_why_text
reasons why = why_text why
