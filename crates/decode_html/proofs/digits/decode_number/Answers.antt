-- A body that begins with `#` is no name, so what the digit reader finds is all that it can stand for.
-- Assumes nothing.
use mathlib.Core.List.{◌∷◌}
use mathlib.Core.Option.{none}
use mathlib.Core.Path.{refl, sym, ◌∙◌}
use Rattle.std.proofs.lemmas.Result.{err_from_is_err_and}
use Rattle.rules.specs.References.{number_of, decode_char}
use Rattle.decode_html.proofs.Bodies.{hashed}
use Rattle.decode_html.proofs.Ceiling.{found-char, why-number}
use Rattle.decode_html.proofs.digits.decode_number.Goals as goal

pub returns-in_err-read_number : goal.returns-in_err-read_number
returns-in_err-read_number c =
    let h = c.in_err-read_number.ensures in
    let p = err_from_is_err_and c.from_residual.result c.from_residual.ensures.1 in
    rw (p.1, p.2) (sym (hashed decode_char c.args.body.now none (sym h.0)), h.1)

pub returns : goal.returns
returns c =
    let s = c.args.body.now in
    let n = c.in_ok-read_number.field-0 in
    let h = c.in_ok-read_number.ensures in
    rw (hashed decode_char s (number_of (35 ∷ s)) refl ∙ sym (found-char n (number_of (35 ∷ s)) h), sym (why-number (35 ∷ s) n h)) c.decoded.ensures
