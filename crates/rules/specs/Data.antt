-- RULES 17, of the data: what each context writes of every ASCII byte, read off the rules by hand, and a digest of each table of names. A slip in the data above is
-- refused here; the other edges are those of the crate edges.
-- Assumes nothing.
use Rattle.std.specs.Prelude.{Bool, ◌&&◌, List, [], ◌∷◌, ◌++◌, map, ℕ, suc, ◌+◌, ◌*◌, ◌%◌, eqb, length as size}
use Prim.Native.String.{String}
use Rattle.rules.specs.Bytes.{ascii, count, bytes, join, same_bytes}
use Rattle.rules.specs.Utf8.{utf8, substitute}
use Rattle.rules.specs.Contexts.{context_of}
use Rattle.rules.specs.Tables.{Row, key, value}
use Rattle.rules.specs.Refusals.{success}
use Rattle.rules.specs.Program.{printed, entity_of}
use Rattle.rules.specs.Examples.{example, holds}
use Rattle.rules.specs.declared.Operation.TheVariants.{Encode}

-- ---- encoders

-- U+2027 to U+202A: the two separators and their neighbours.
abbrev pub around_separators : List ℕ
around_separators = join (map utf8 (count 0x2027 4))

-- Every ASCII byte, and these four.
abbrev pub every_byte : List ℕ
every_byte = bytes 0 127 ++ around_separators

-- The control bytes as references, in a script string, in a style string, and in a JSON string.
abbrev pub control_references : List ℕ
control_references =
    ascii "&#x00;&#x01;&#x02;&#x03;&#x04;&#x05;&#x06;&#x07;&#x08;&#x09;&#x0A;&#x0B;&#x0C;&#x0D;&#x0E;&#x0F;"
    ++ ascii "&#x10;&#x11;&#x12;&#x13;&#x14;&#x15;&#x16;&#x17;&#x18;&#x19;&#x1A;&#x1B;&#x1C;&#x1D;&#x1E;&#x1F;"

abbrev pub controls_in_script : List ℕ
controls_in_script =
    ascii "\\x00\\x01\\x02\\x03\\x04\\x05\\x06\\x07\\x08\\x09\\x0A\\x0B\\x0C\\x0D\\x0E\\x0F"
    ++ ascii "\\x10\\x11\\x12\\x13\\x14\\x15\\x16\\x17\\x18\\x19\\x1A\\x1B\\x1C\\x1D\\x1E\\x1F"

abbrev pub controls_in_style : List ℕ
controls_in_style =
    substitute
    ++ ascii "\\01 \\02 \\03 \\04 \\05 \\06 \\07 \\08 \\09 \\0A \\0B \\0C \\0D \\0E \\0F "
    ++ ascii "\\10 \\11 \\12 \\13 \\14 \\15 \\16 \\17 \\18 \\19 \\1A \\1B \\1C \\1D \\1E \\1F "

abbrev pub controls_in_json : List ℕ
controls_in_json =
    ascii "\\u0000\\u0001\\u0002\\u0003\\u0004\\u0005\\u0006\\u0007\\u0008\\u0009\\u000A\\u000B\\u000C\\u000D\\u000E\\u000F"
    ++ ascii "\\u0010\\u0011\\u0012\\u0013\\u0014\\u0015\\u0016\\u0017\\u0018\\u0019\\u001A\\u001B\\u001C\\u001D\\u001E\\u001F"

-- DEL and the four as they are, with the separators escaped, and with all four as references.
abbrev pub del_kept : List ℕ
del_kept = 0x7F ∷ around_separators

abbrev pub del_in_script : List ℕ
del_in_script = 0x7F ∷ utf8 0x2027 ++ ascii "\\u2028\\u2029" ++ utf8 0x202A

abbrev pub del_in_ascii : List ℕ
del_in_ascii = 0x7F ∷ ascii "&#x2027;&#x2028;&#x2029;&#x202A;"

-- What is written of every byte: of the controls, of the signs before the digits, between digits and letters, between the letters, and after them,
-- and of the rest. Letters and digits are always copied.
abbrev pub written : List ℕ → String → String → String → String → List ℕ → List ℕ
written controls before between middle after rest =
    controls ++ ascii before ++ ascii "0123456789" ++ ascii between ++ ascii "ABCDEFGHIJKLMNOPQRSTUVWXYZ"
    ++ ascii middle ++ ascii "abcdefghijklmnopqrstuvwxyz" ++ ascii after ++ rest

-- What each context writes, by its name, in the order of their numbers, and how many of the characters it replaces.
abbrev pub encoders : List (List ℕ × ℕ × List ℕ)
encoders =
    (ascii "text_minimal", 2, written (bytes 0 31) " !\"#$%&amp;'()*+,-./" ":;&lt;=>?@" "[\\]^_`" "{|}~" del_kept)
    ∷ (ascii "text", 3, written (bytes 0 31) " !\"#$%&amp;'()*+,-./" ":;&lt;=&gt;?@" "[\\]^_`" "{|}~" del_kept)
    ∷ (ascii "double_quoted", 4, written (bytes 0 31) " !&quot;#$%&amp;'()*+,-./" ":;&lt;=&gt;?@" "[\\]^_`" "{|}~" del_kept)
    ∷ (ascii "single_quoted", 4, written (bytes 0 31) " !\"#$%&amp;&#x27;()*+,-./" ":;&lt;=&gt;?@" "[\\]^_`" "{|}~" del_kept)
    ∷ (ascii "quoted", 5, written (bytes 0 31) " !&quot;#$%&amp;&#x27;()*+,-./" ":;&lt;=&gt;?@" "[\\]^_`" "{|}~" del_kept)
    ∷ (ascii "safe", 6, written (bytes 0 31) " !&quot;#$%&amp;&#x27;()*+,-.&#x2F;" ":;&lt;=&gt;?@" "[\\]^_`" "{|}~" del_kept)
    ∷ (
      ascii "unquoted",
      66,
      written control_references "&#x20;&#x21;&quot;&#x23;&#x24;&#x25;&amp;&#x27;&#x28;&#x29;&#x2A;&#x2B;&#x2C;&#x2D;&#x2E;&#x2F;"
          "&#x3A;&#x3B;&lt;&#x3D;&gt;&#x3F;&#x40;" "&#x5B;&#x5C;&#x5D;&#x5E;&#x5F;&#x60;" "&#x7B;&#x7C;&#x7D;&#x7E;" (ascii "&#x7F;" ++ around_separators),
    )
    ∷ (ascii "script_single", 37, written controls_in_script " !\"#$%&\\'()*+,-./" ":;\\x3C=>?@" "[\\\\]^_`" "{|}~" del_in_script)
    ∷ (ascii "script_double", 37, written controls_in_script " !\\\"#$%&'()*+,-./" ":;\\x3C=>?@" "[\\\\]^_`" "{|}~" del_in_script)
    ∷ (ascii "script_quoted", 38, written controls_in_script " !\\\"#$%&\\'()*+,-./" ":;\\x3C=>?@" "[\\\\]^_`" "{|}~" del_in_script)
    ∷ (ascii "style_single", 35, written controls_in_style " !\"#$%&\\'()*+,-./" ":;\\3C =>?@" "[\\\\]^_`" "{|}~" del_kept)
    ∷ (ascii "style_double", 35, written controls_in_style " !\\\"#$%&'()*+,-./" ":;\\3C =>?@" "[\\\\]^_`" "{|}~" del_kept)
    ∷ (ascii "style_quoted", 36, written controls_in_style " !\\\"#$%&\\'()*+,-./" ":;\\3C =>?@" "[\\\\]^_`" "{|}~" del_kept)
    ∷ (ascii "script_raw", 0, written (bytes 0 31) " !\"#$%&'()*+,-./" ":;<=>?@" "[\\]^_`" "{|}~" del_kept)
    ∷ (ascii "json", 37, written controls_in_json " !\\\"#$%&'()*+,-./" ":;\\u003C=>?@" "[\\\\]^_`" "{|}~" del_in_script)
    ∷ (ascii "ascii_quoted", 9, written (bytes 0 31) " !&quot;#$%&amp;&#x27;()*+,-./" ":;&lt;=&gt;?@" "[\\]^_`" "{|}~" del_in_ascii)
    ∷ []

-- The lines of a request, and its text.
abbrev pub request : List ℕ → List ℕ → List ℕ → List ℕ
request op context text = ascii "op=" ++ op ++ ascii "\ncontext=" ++ context ++ ascii "\ntext=" ++ text

-- A context writes these bytes with so many replaced, asked for by its number and by its name.
abbrev pub writes : ℕ → List ℕ → ℕ → List ℕ → Bool
writes n name k r = holds (example Encode (context_of n) every_byte r k) && same_bytes (entity_of (request (ascii "encode") name every_byte)) (printed (success (size r) k (0, 0)) r)

-- The contexts from number n on do so.
abbrev pub write_from : ℕ → List (List ℕ × ℕ × List ℕ) → Bool
write_from n [] = eqb n 16
write_from n ((name, k, r) ∷ es) = writes n name k r && write_from (suc n) es

-- ---- digests

-- One more byte of a digest.
abbrev pub digest_of : ℕ → List ℕ → ℕ
digest_of h [] = h
digest_of h (x ∷ s) = digest_of ((h * 257 + x + 1) % 2147483647) s

-- The digest of a table: of each name and each value, with a NUL after each. tools/check_names makes the same one of this table.
abbrev pub digest : List Row → ℕ
digest table = digest_of 0 (join (map (λ (row : Row). key row ++ 0 ∷ value row ++ 0 ∷ []) table))

-- What it is.
abbrev pub names_digest : ℕ
names_digest = 361911062

-- A pair of numbers as a row: the first as one byte, and the bytes of the character of the second.
abbrev pub as_row : ℕ × ℕ → Row
as_row pair = (pair.0 ∷ [], utf8 pair.1)

-- The digest of the pairs of browse, made and compared in the same way.
abbrev pub renumbering_digest : ℕ
renumbering_digest = 658272577
