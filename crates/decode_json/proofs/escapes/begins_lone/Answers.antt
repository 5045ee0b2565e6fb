-- `begins_lone` meets its contract: by the number that is read, and after a first half by the next one.
-- Assumes nothing.
use Rattle.std.proofs.Common.{sym, ap, ◌∙◌, not}
use Rattle.base.proofs.Filled.{lent-rest}
use Rattle.base.proofs.Digits.{found-some, found-none}
use Rattle.decode_json.proofs.Told.{lone-high, lone-paired, lone-other, lone-none}
use Rattle.decode_json.proofs.escapes.begins_lone.Goals as goal

pub returns-in_default : goal.returns-in_default
returns-in_default c = lone-none c.args.rest.now (found-none _ (sym c.in_default.ensures.value))

pub returns-then-not-is_high : goal.returns-then-not-is_high
returns-then-not-is_high c =
    let e = found-some _ _ (sym c.in-Some.ensures.value) in
    c.is_low.ensures ∙ lone-other c.args.rest.now c.in-Some.n e (sym c.is_high.ensures ∙ c.if-not-is_high.true)

pub returns-in_default-unicode : goal.returns-in_default-unicode
returns-in_default-unicode c =
    let e = found-some _ _ (sym c.in-Some.ensures.value) in
    lone-high c.args.rest.now c.in-Some.n e (sym c.is_high.ensures ∙ c.if-not-is_high.false) (rw lent-rest at (found-none _ (sym c.in_default-unicode.ensures.value)))

pub returns : goal.returns
returns c =
    let e = found-some _ _ (sym c.in-Some.ensures.value) in
    let l = c.in-Some-unicode in
    ap not c.is_low-2.ensures
    ∙ lone-paired c.args.rest.now c.in-Some.n l.low e (sym c.is_high.ensures ∙ c.if-not-is_high.false) (rw lent-rest at (found-some _ _ (sym l.ensures.value)))
