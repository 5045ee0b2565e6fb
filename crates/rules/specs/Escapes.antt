-- RULES 11. decode of string escapes: its rule in the script and style strings.
-- Assumes nothing.
use Rattle.std.specs.Prelude.{◌&&◌, cond, List, ◌++◌, ℕ}
use Rattle.rules.specs.Bytes.{ascii, is, stands}
use Rattle.rules.specs.Moves.{swap, Rule}
use Rattle.rules.specs.Tables.{Row, row_at, value}
use Rattle.rules.specs.Encoding.{keep_byte, closes}
use Rattle.rules.specs.Reading.{undo}

-- Where the byte before in the input is `<`: `\!--` yields `!` for the `\!`, and `\/` yields `/` before the name and a terminator.
-- Otherwise the `\` stays.
abbrev pub after_less : List ℕ → Rule
after_less name prev s =
    cond (is "<" prev && stands (ascii "\\!--") s) (swap (ascii "\\!") (ascii "!"))
    (cond (is "<" prev && closes (ascii "\\/" ++ name) s) (swap (ascii "\\/") (ascii "/")) (keep_byte s))

-- The first match counts: the escapes are the context's rows read from the written side, and then the two rules after `<`.
abbrev pub escape_by : List ℕ → List Row → Rule
escape_by name rows prev s = undo (row_at value rows s) (after_less name prev s)
