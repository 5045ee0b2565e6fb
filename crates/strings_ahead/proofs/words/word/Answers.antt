-- `word` meets its contract: each return is the rule for the byte, with the tests that led there.
-- Assumes nothing.
use mathlib.Core.Path.{sym, ◌∙◌}
use native.Mathlib.Omega.{arith}
use Rattle.strings_ahead.proofs.Spelt.{word-lead, word-high, word-slashed, word-hexed, word-plain}
use Rattle.strings_ahead.proofs.words.word.Goals as goal

pub returns-then-b-eq-SEPARATOR_LEAD : goal.returns-then-b-eq-SEPARATOR_LEAD
returns-then-b-eq-SEPARATOR_LEAD c = rw c.if-b-eq-SEPARATOR_LEAD.true (word-lead c.args.notation c.args.quotes)

pub returns-then-b-gt92 : goal.returns-then-b-gt92
returns-then-b-gt92 c =
    let a = c.args in
    c.plain.ensures ∙ word-high a.notation a.quotes a.b c.if-b-eq-SEPARATOR_LEAD.false (omega (arith, c.if-b-gt92.true))

pub returns-then-is_slashed : goal.returns-then-is_slashed
returns-then-is_slashed c =
    let a = c.args in
    word-slashed a.notation a.quotes a.b c.if-b-eq-SEPARATOR_LEAD.false (rw (← c.single_key-single.ensures, ← c.double_key-double.ensures) (sym c.is_slashed.ensures ∙ c.if-is_slashed.true))

pub returns-then-is_hexed : goal.returns-then-is_hexed
returns-then-is_hexed c =
    let a = c.args in
    c.hexed.ensures ∙ word-hexed a.notation a.quotes a.b c.if-b-eq-SEPARATOR_LEAD.false (rw (← c.single_key-single.ensures, ← c.double_key-double.ensures) (sym c.is_slashed.ensures ∙ c.if-is_slashed.false)) (sym c.is_hexed.ensures ∙ c.if-is_hexed.true)

pub returns : goal.returns
returns c =
    let a = c.args in
    c.plain-2.ensures ∙ word-plain a.notation a.quotes a.b c.if-b-eq-SEPARATOR_LEAD.false (rw (← c.single_key-single.ensures, ← c.double_key-double.ensures) (sym c.is_slashed.ensures ∙ c.if-is_slashed.false)) (sym c.is_hexed.ensures ∙ c.if-is_hexed.false)
