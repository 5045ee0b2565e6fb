-- The test is the one that is computed for every byte.
-- Assumes nothing.
use Rattle.encode_html.proofs.Growth.{other, other-is}
use Rattle.encode_html.proofs.gains.five_unquoted.Goals as goal

pub returns-then-b-is_letter_or_digit : goal.returns-then-b-is_letter_or_digit
unfolding other
returns-then-b-is_letter_or_digit c =
    let s = c in
    rw (← c.is_letter_or_digit.ensures, c.if-b-is_letter_or_digit.true) at (other-is s.args.b s.ranges.b.fits)

pub returns : goal.returns
unfolding other
returns c =
    let s = c in
    rw (← c.is_letter_or_digit.ensures, c.if-b-is_letter_or_digit.false) at (other-is s.args.b s.ranges.b.fits)
