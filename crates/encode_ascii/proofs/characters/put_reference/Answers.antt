-- `put_reference` meets its contract.
-- Assumes nothing.
use Rattle.rules.specs.Browsing.{given}
use Rattle.rules.specs.Ascii.{name_of}
use Rattle.rules.specs.Utf8.{utf8}
use Rattle.rules.specs.Tables.{hex_digit, numeral}
use Rattle.rules.specs.Bytes.{ascii, over}
use Rattle.encode_ascii.proofs.Parts.{first_part, rest_part, by_number, by_name, over-empty, named-nothing, named-something}
use mathlib.Core.List.{List, ◌++◌}
use Prim.Native.Nat.{ℕ}
use Rattle.base.proofs.Filled.{filled_put}
use Rattle.base.proofs.Counted.{filled-all}
use lib.ListN.{length, length-append}
use mathlib.Core.Path.{◌≡◌, refl, ap, ◌∙◌}
use native.Mathlib.Omega.{arith}
use Rattle.encode_ascii.proofs.characters.put_reference.Goals as goal

pub returns-then-at-eq1 : goal.returns-then-at-eq1
returns-then-at-eq1 c = let code = c.args.code in
    let w = (ascii "&#x" ++ numeral hex_digit 16 6 code) ++ ascii ";" in
    let z : length (given (name_of (utf8 code))) ≡ 0 = named-nothing (given (name_of (utf8 code))) c.put_open-at.result c.put_open-at.ensures.0.0 c.if-at-eq1.true in
    let e = by_number code c.requires.1 z in
    let p = c.put_number.ensures.0 in
    ((p.0 ∙ ap length e, p.1 ∙ ap (λ (out : List ℕ). over w out) c.put_open-at.ensures.0.1 ∙ over-empty w (given (name_of (utf8 code))) c.args.room.now z (omega (arith, length-append (ascii "&#x" ++ numeral hex_digit 16 6 code) (ascii ";"))) ∙ ap (λ (v : List ℕ). over v c.args.room.now) e), c.put_number.ensures.1)

pub returns : goal.returns
returns c = let w = ascii "&" ++ given (name_of (utf8 c.args.code)) in
    let d = ascii ";" in
    let f = first_part w d c.args.room.now c.put_open-at.new.room c.put_open-at.result (omega (arith, c.requires.2, length-append w d, c.put_open-at.ensures.0.0, c.put.ensures.0, c.put_open-at.ensures.1)) c.put_open-at.ensures.0.0 c.put_open-at.ensures.0.1 in
    let g = filled-all (filled_put f (rest_part d) c.put.new.output c.put.result c.put.ensures.0 c.put.ensures.1) refl in
    let e = by_name c.args.code (named-something (given (name_of (utf8 c.args.code))) c.put_open-at.result c.put_open-at.ensures.0.0 c.if-at-eq1.false) in
    ((g.0 ∙ ap length e, g.1 ∙ ap (λ (v : List ℕ). over v c.args.room.now) e), omega (arith, c.put.ensures.0, c.put_open-at.ensures.1))
