-- `four` meets its contract: the number is made digit by digit.
-- Assumes nothing.
use Rattle.rules.specs.References.{hex_digit_at}
use Rattle.decode_json.proofs.Told.{four-read, four-unread}
use Rattle.decode_json.proofs.escapes.four.Goals as goal

pub returns-in_err-z-clause-value : goal.returns-in_err-z-clause-value
returns-in_err-z-clause-value c =
    let a = c.args in
    rw c.from_residual-in_err-z.ensures
    (four-unread (hex_digit_at a.a) (hex_digit_at a.b) (hex_digit_at a.c) (hex_digit_at a.d) c.in_ok-w.w c.in_ok-x.x c.in_ok-y.y c.in_ok-w.ensures.value c.in_ok-x.ensures.value c.in_ok-y.ensures.value c.in_err-z.ensures.value)

pub returns-clause-value : goal.returns-clause-value
returns-clause-value c =
    let a = c.args in
    four-read (hex_digit_at a.a) (hex_digit_at a.b) (hex_digit_at a.c) (hex_digit_at a.d) c.in_ok-w.w c.in_ok-x.x c.in_ok-y.y c.in_ok-z.z c.in_ok-w.ensures.value c.in_ok-x.ensures.value c.in_ok-y.ensures.value c.in_ok-z.ensures.value
