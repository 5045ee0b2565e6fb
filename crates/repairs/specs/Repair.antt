-- RULES 24. The program `repair`: a stored field is read strictly again and again, and the last text is written once.
-- Assumes nothing.
use Rattle.std.specs.Prelude.{Bool, true, false, ◌&&◌, not, cond, List, ◌++◌, ℕ, zero, suc, ltb, eqb, length as size}
use Rattle.std.proofs.Math.Option.{Option, none, some}
use Rattle.rules.specs.Bytes.{ascii}
use Rattle.rules.specs.Moves.{Move, result, replaced, place}
use Rattle.rules.specs.Operations.{rule_of}
use Rattle.rules.specs.Refusals.{Call, moves_of, check_of}
use Rattle.rules.specs.Program.{context_line, decimal}
use Rattle.rules.specs.declared.AnyContext.{AnyContext}
use Rattle.rules.specs.declared.AnyContext.TheVariants.{Units, ScriptRaw, Unknown}
use Rattle.rules.specs.declared.Context.TheVariants.{InHtml, InScript, InStyle, InJson, InAscii}
use Rattle.rules.specs.declared.Operation.TheVariants.{Encode, Read}

-- The moves of a strict reading of a text.
abbrev pub reading : AnyContext → List ℕ → List Move
reading n s = moves_of (rule_of Read n) s

-- What encode writes for a text.
abbrev pub writing : AnyContext → List ℕ → List ℕ
writing n s = result (moves_of (rule_of Encode n) s)

-- What a reading gives that takes the whole text and replaces something.
abbrev pub peel : AnyContext → List ℕ → Option (List ℕ)
peel n s = cond (eqb (place (reading n s)) (size s) && not (eqb (replaced (reading n s)) 0)) (some (result (reading n s))) none

-- Again and again, at most so many times: how many readings replaced something.
abbrev pub layers : ℕ → AnyContext → List ℕ → ℕ
layers zero n s = 0
layers (suc most) n s = elim (peel n s) [ none ↦ 0 | some u ↦ suc (layers most n u) ]

-- And the last text.
abbrev pub core : ℕ → AnyContext → List ℕ → List ℕ
core zero n s = s
core (suc most) n s = elim (peel n s) [ none ↦ s | some u ↦ core most n u ]

-- The HTML contexts.
abbrev pub is_html : AnyContext → Bool
is_html (Units (InHtml h)) = true
is_html (Units (InScript q)) = false
is_html (Units (InStyle q)) = false
is_html (Units InJson) = false
is_html (Units InAscii) = true
is_html ScriptRaw = false
is_html Unknown = false

-- The status of a stored field: BAD_CONTEXT outside the HTML contexts, TOO_LONG above 8,192 bytes, then what check says of the field.
abbrev pub status_of : AnyContext → List ℕ → ℕ
status_of n t = cond (is_html n) (cond (ltb 8192 (size t)) 1 (check_of n t).status) 5

-- The one line of a refusal.
abbrev pub status_line : ℕ → List ℕ
status_line s = ascii "status=" ++ decimal s ++ ascii "\n"

-- The line of the layers, and the last text encoded once, with nothing after it.
abbrev pub mended : AnyContext → List ℕ → List ℕ
mended n t = ascii "layers=" ++ decimal (layers 4 n t) ++ ascii "\ntext=" ++ writing n (core 4 n t)

-- What is printed for a field.
abbrev pub repaired : AnyContext → List ℕ → List ℕ
repaired n t = cond (eqb (status_of n t) 0) (mended n t) (status_line (status_of n t))

-- What is printed for a request, if it is one.
abbrev pub repaired_by : Option Call → List ℕ
repaired_by none = status_line 6
repaired_by (some k) = repaired k.context k.text

-- What the program prints. Its request is that of `entity` without the line of the operation, as if that were read.
unfoldable pub repair_of : List ℕ → List ℕ
repair_of s = repaired_by (context_line Read s)
