-- Values in JSON.
use Rattle.std.specs.Prelude.{ℕ, if◌then◌else◌, List, true, false, codes}
use Rattle.serde_json.specs.Data.{Data, boolean, number, unsigned, string, object}
use Rattle.serde_json.specs.Data.{Members, no_members, member, put}
use Rattle.cheri_model.specs.runs.ImageRules.{is_listed}
use Rattle.cap_model.specs.values.CapValue.{CapValue, bits_of, tag_of, parts_of}
use Rattle.report_lines.specs.ValueText.{hex_text, type_text, word_text}

abbrev pub count : ℕ → Data
count n = number (unsigned n)

-- a capability that is tagged, by the texts of its parts
abbrev pub capability_members : List ℕ → List ℕ → List ℕ → List ℕ → List ℕ → Members
capability_members base perms top otype word =
    member (codes "base") (string base)
    (member (codes "perms") (string perms)
    (member (codes "tag") (boolean true)
    (member (codes "top") (string top)
    (member (codes "type") (string otype)
    (member (codes "word") (string word) no_members)))))

-- a value that is not tagged, by the text of its word
abbrev pub untagged_members : List ℕ → Members
untagged_members word =
    member (codes "tag") (boolean false) (member (codes "word") (string word) no_members)

-- the members with what a tagged capability is
abbrev pub put_parts : CapValue → Members → Members
put_parts v members =
    put (codes "type") (string (type_text (parts_of v).otype))
    (put (codes "top") (string (hex_text 17 (parts_of v).top))
    (put (codes "perms") (string (hex_text 5 (parts_of v).perms))
    (put (codes "base") (string (hex_text 16 (parts_of v).base)) members)))

-- a value: its tag and word, and where it is tagged what the capability is
unfoldable pub value_members : CapValue → Members
value_members v =
    if tag_of v
    then capability_members (hex_text 16 (parts_of v).base) (hex_text 5 (parts_of v).perms)
    (hex_text 17 (parts_of v).top) (type_text (parts_of v).otype) (word_text (bits_of v))
    else untagged_members (word_text (bits_of v))

abbrev pub value_data : CapValue → Data
value_data v = object (value_members v)

-- the members with one more, unless its value is an untagged 0
abbrev pub put_listed : List ℕ → CapValue → Members → Members
put_listed name v members = if is_listed v then put name (value_data v) members else members
