-- Each return is the choice that is computed for every byte, with the tests that led there.
-- Assumes nothing.
use mathlib.Core.Path.{◌∙◌}
use borrow.Author.Tests.{lt-ltb, le-ltb}
use Rattle.base.specs.Words.{word_of}
use Rattle.encode_html.proofs.Choices.{choice_of_all, word-all}
use Rattle.encode_html.proofs.words.word_unquoted.Goals as goal
use Rattle.encode_html.proofs.words.word_unquoted.Goals.{then-b-gt127-via-then-b-gt127, then-b-gt127-via-else-b-gt127+then-is_letter_or_digit}

pub returns-then-b-gt127 : goal.returns-then-b-gt127
unfolding choice_of_all
returns-then-b-gt127 c =
    let w = word-all c.args.b c.ranges.b.fits in
    c.plain.ensures
    ∙ elim c.then-b-gt127.branch [
      | then-b-gt127-via-then-b-gt127 t ↦ rw (lt-ltb 127 _ t.if-b-gt127.true) at w
      | then-b-gt127-via-else-b-gt127+then-is_letter_or_digit t ↦ rw (le-ltb 127 _ t.if-b-gt127.false, ← t.is_letter_or_digit.ensures, t.if-is_letter_or_digit.true) at w
    ]

pub returns : goal.returns
unfolding choice_of_all word_of
returns c = let s = c in
    let tested = c in
    let w = word-all s.args.b s.ranges.b.fits in
    let e = rw (le-ltb 127 _ tested.if-b-gt127.false, ← tested.is_letter_or_digit.ensures, c.if-is_letter_or_digit.false) at w in
    let last = c.hex.ensures in
    rw (c.select.ensures, c.select-x-3.ensures, c.select-x-2.ensures, c.select-x.ensures, last) e
