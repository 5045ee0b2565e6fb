-- What is counted so far, with what is left, is the whole; if none was counted as high, the text is ASCII if what is left is.
-- Assumes nothing.
use Rattle.std.proofs.Common.{◌≡◌}
use Rattle.std.specs.Slice.Iter.{chunks_rest, chunks_size}
use Rattle.encode_html.specs.Gains.{Ascii, Each}
use Rattle.encode_html.proofs.Growth.{GrownTo, HitTo}
use Rattle.encode_html.proofs.look.count.Given as goal

abbrev pub invariant-loop-part : goal.invariant-loop-part
invariant-loop-part l =
    (chunks_size l.part-iterator ≡ 224) × GrownTo l.g.html l.text (chunks_rest l.part-iterator) l.all.grow × HitTo l.g.html l.text (chunks_rest l.part-iterator) l.all.replaced
    × (l.all.high ≡ 0 → Each Ascii (chunks_rest l.part-iterator) → Each Ascii l.text)
