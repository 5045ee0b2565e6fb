-- `read_escape` meets its contract: a number, or else the byte after the backslash.
-- Assumes nothing.
use Rattle.std.proofs.Common.{sym, arith}
use borrow.Author.Tests.{ltb-false}
use Rattle.base.proofs.Digits.{found-some, found-none}
use Rattle.decode_json.proofs.Told.{number-tells, short-tells, none-tells}
use Rattle.decode_json.proofs.escapes.read_escape.Goals as goal

pub returns-in-Some : goal.returns-in-Some
returns-in-Some c = number-tells c.args.rest.now c.in-Some.n c.read_number.result (found-some _ _ (sym c.in-Some.ensures.value)) c.read_number.ensures

pub returns-in_err-b : goal.returns-in_err-b
returns-in_err-b c =
    rw c.from_residual.ensures
    (none-tells c.args.rest.now c.requires.0 c.requires.1 (found-none _ (sym c.in_default.ensures.value))
    (λ two. absurd (let h = ltb-false 1 _ (sym c.in_err-b.ensures.lookup.0) in omega arith)))

pub returns-in_err-character : goal.returns-in_err-character
returns-in_err-character c =
    let h = c.in_ok-b.ensures.lookup in
    rw c.from_residual-in_err-character.ensures
    (none-tells c.args.rest.now c.requires.0 c.requires.1 (found-none _ (sym c.in_default.ensures.value))
    (λ two. rw (← h.3.1 0) (sym c.in_err-character.ensures)))

pub returns : goal.returns
returns c =
    let h = c.in_ok-b.ensures.lookup in
    short-tells c.args.rest.now c.in_ok-character.character (omega (arith, h.3.0)) c.requires.1 (c.type_inv.rest 1).fits (rw (← h.3.1 0) (sym c.in_ok-character.ensures))
