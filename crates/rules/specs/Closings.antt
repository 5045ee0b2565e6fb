-- RULES 19. What the call on a script element's text answers.
-- Assumes nothing.
use Rattle.std.specs.Prelude.{cond, List, ℕ, ltb, length as size, drop}
use Rattle.std.proofs.Math.Option.{Option, none, some}
use Rattle.rules.specs.Utf8.{valid_to, is_cut}
use Rattle.rules.specs.Refusals.{text_limit}
use Rattle.rules.specs.ScriptData.{closing_tag}
use Rattle.rules.specs.declared.Closing.{Closing}

-- An answer by its three numbers.
abbrev pub closing : ℕ → ℕ → ℕ → Closing
closing s f p = record { status = s; found = f; place = p }

-- What was found: the place, or nothing.
abbrev pub closing_at : Option ℕ → Closing
closing_at none = closing 0 0 0
closing_at (some p) = closing 0 1 p

-- The tests of TOO_LONG, NOT_UTF8 and CUT_SHORT as the table of refusals has them, and then the place.
unfoldable pub closing_of : List ℕ → Closing
closing_of t =
    cond (ltb text_limit (size t)) (closing 1 0 0)
    (cond (ltb (valid_to t) (size t)) (closing (cond (is_cut (drop (valid_to t) t)) 7 2) 0 (valid_to t)) (closing_at (closing_tag t)))
