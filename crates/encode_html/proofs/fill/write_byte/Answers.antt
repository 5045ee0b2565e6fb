-- Of the eight bytes of a word as many count as its highest says, and these are what is written; the others are spilt.
-- Assumes nothing.
use mathlib.Core.Path.{◌∙◌}
use native.Mathlib.Omega.{arith}
use Rattle.base.specs.Words.{word_of, eight}
use Rattle.encode_html.specs.Written.{written}
use Rattle.encode_html.proofs.Choices.{word-is}
use Rattle.base.proofs.Spilt.{part-spills}
use Rattle.encode_html.proofs.Text.{written-some, written-most}
use Rattle.encode_html.proofs.fill.write_byte.Goals as goal

pub store-requires : goal.store-requires
store-requires c = omega (arith, written-some c.args.h c.args.b, c.requires.1)

pub returns : goal.returns
returns c =
    let s = c in
    let a = s.args in
    let w = written a.h a.b in
    let p = c.store in
    let e = word-is a.h a.b s.ranges.b.fits in (
      p.ensures.0 ∙ rw s.requires.0 e.0,
      rw (p.ensures.1, s.requires.0)
          (part-spills 7 w (eight (word_of w)) a.output.now e.1 (omega (arith, written-most a.h a.b)) (omega (arith, written-some a.h a.b))),
    )
