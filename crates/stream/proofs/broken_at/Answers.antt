-- `broken_at` meets its contract: a text that is not valid to its end is broken there exactly if what follows begins no character.
-- Assumes nothing.
use Rattle.std.proofs.Common.{◌<◌, length, arith, refl, sym, ◌∙◌}
use Rattle.base.proofs.Filled.{lent-rest}
use Rattle.stream.proofs.Rows.{sound-whole, sound-cut, sound-broken}
use Rattle.stream.proofs.broken_at.Goals as goal

pub returns-then-valid-text : goal.returns-then-valid-text
returns-then-valid-text c =
    let t = c.args.text.now in
    sound-whole t (length t) (sym c.if-valid-text.true ∙ c.valid_to-valid.ensures.0) refl

pub returns-then-is_cut : goal.returns-then-is_cut
returns-then-is_cut c =
    let a = c.args in
    sound-cut a.text.now c.valid_to-valid.result c.valid_to-valid.ensures.0 (rw lent-rest at (sym c.is_cut.ensures ∙ c.if-is_cut.true))

pub returns : goal.returns
returns c =
    let a = c.args in
    let v = c.valid_to-valid in
    let lost : v.result < length a.text.now = omega (arith, v.ensures.1) in
    (sound-broken a.text.now v.result v.ensures.0 lost (rw lent-rest at (sym c.is_cut.ensures ∙ c.if-is_cut.false)), lost)
