-- RULES 28.2. The places of a page: the states of the HTML Standard's tokenizer (13.2.5) with its input stage (13.2.3.5: CR LF and CR are LF) and what becomes
-- of NUL.
-- Assumes nothing.
use Rattle.std.proofs.Math.Option.{none, some}
use Rattle.std.specs.Prelude.{List, [], ◌∷◌, ◌++◌, map, ℕ}
use Rattle.rules.specs.Bytes.{ascii, bytes}
use Rattle.rules.specs.Encoding.{any_case}
use Rattle.rules.specs.ScriptData.{name_ends}
use Rattle.rules.specs.declared.Kind.TheVariants.{InText, InAttribute}
use Rattle.places.specs.Places.{leaves, Entry, Place, exactly, any_byte, left_at, stand_for, line_ends, nul_replaced}

-- The bytes before which a `<` begins a tag, a comment or a declaration.
abbrev pub tag_starts : List ℕ
tag_starts = bytes 65 90 ++ bytes 97 122 ++ ascii "!?"

-- The data state: the text of an element. `</>` vanishes, any other `</` begins an end tag or a comment; NUL is dropped when the tree is built.
abbrev pub element_text : Place
element_text = record {
  references = some InText;
  entries =
      (ascii "<" ∷ tag_starts ∷ [], leaves)
      ∷ stand_for (ascii "</>") []
      ∷ (exactly (ascii "</") ++ any_byte ∷ [], leaves)
      ∷ stand_for (0 ∷ []) []
      ∷ line_ends;
  never = [];
}

-- The end tag of that name, in any letter case: `</`, the name and a byte that ends it.
abbrev pub end_tag : List ℕ → Entry
end_tag name = (exactly (ascii "</") ++ map any_case name ++ name_ends ∷ [], leaves)

-- The RCDATA state: title and textarea.
abbrev pub rcdata : List ℕ → Place
rcdata name = record { references = some InText; entries = end_tag name ∷ nul_replaced ∷ line_ends; never = [] }

-- The RAWTEXT state: style.
abbrev pub rawtext : List ℕ → Place
rawtext name = record { references = none; entries = end_tag name ∷ nul_replaced ∷ line_ends; never = [] }

-- The script data state. It is left by the end tag, and by `<!--` for the escaped states (RULES 19 has all of them).
abbrev pub script_data : Place
script_data = record {
  references = none;
  entries = end_tag (ascii "script") ∷ (exactly (ascii "<!--"), leaves) ∷ nul_replaced ∷ line_ends;
  never = [];
}

-- The attribute value states with quotes q.
abbrev pub attribute : ℕ → Place
attribute q = record { references = some InAttribute; entries = left_at (q ∷ []) ∷ nul_replaced ∷ line_ends; never = [] }

-- The attribute value without quotes, and the state before it, in which white space is skipped, a quote begins another place, and `>` ends the tag.
abbrev pub attribute_unquoted : Place
attribute_unquoted = record {
  references = some InAttribute;
  entries = left_at (9 ∷ 10 ∷ 12 ∷ 13 ∷ ascii " >") ∷ nul_replaced ∷ [];
  never = 9 ∷ 10 ∷ 12 ∷ 13 ∷ ascii " \"'>";
}
