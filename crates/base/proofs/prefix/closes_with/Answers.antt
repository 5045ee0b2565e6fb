-- `closes_with` meets its contract: the name is left at what of the text is left exactly if the whole is at the whole.
-- Assumes nothing.
use Rattle.std.proofs.Common.{◌≡◌, sym, ◌∙◌, ap, arith, length, get_or}
use Rattle.rules.specs.Bytes.{one_of}
use Rattle.rules.specs.Encoding.{terminators}
use Rattle.base.proofs.Standing.{named-closes, named-off, named-short, named_end, named-last}
use Rattle.base.proofs.prefix.closes_with.Goals as goal

pub returns-then-rest-i : goal.returns-then-rest-i
returns-then-rest-i c = let a = c.args in sym (c.loop-i.invariant ∙ named-short a.last a.name.now a.rest.now c.loop-i.i c.loop-i-test.true c.if-rest-i.true) ∙ named-closes a.last a.name.now a.rest.now

pub returns-then-not-is_either_case : goal.returns-then-not-is_either_case
returns-then-not-is_either_case c = let a = c.args in sym (c.loop-i.invariant ∙ named-off a.last a.name.now a.rest.now c.loop-i.i c.loop-i-test.true c.if-rest-i.false (sym c.is_either_case.ensures ∙ c.if-not-is_either_case.true)) ∙ named-closes a.last a.name.now a.rest.now

pub returns-in-Some : goal.returns-in-Some
returns-in-Some c =
    let a = c.args in
    let q = c.in-Some.ensures.lookup.3 in
    let e : length a.name.now ≡ c.loop-i.i = omega arith in
    c.is_terminator.ensures ∙ ap (one_of terminators) (q.1 0 ∙ ap (λ i. get_or a.rest.now i 0) e) ∙ sym (c.loop-i.invariant ∙ named-last a.last a.name.now a.rest.now c.loop-i.i c.loop-i-test.false (omega (arith, q.0))) ∙ named-closes a.last a.name.now a.rest.now

pub returns-in-None : goal.returns-in-None
returns-in-None c =
    let a = c.args in
    sym (c.loop-i.invariant ∙ named_end a.last a.name.now a.rest.now c.loop-i.i c.loop-i-test.false (omega (arith, c.in-None.ensures.lookup.3))) ∙ named-closes a.last a.name.now a.rest.now
