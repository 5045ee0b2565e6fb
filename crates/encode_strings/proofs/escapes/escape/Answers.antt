-- `encode_strings::escapes::escape` meets its contract: at every byte but E2 the tests say what the rule says, and at E2 `separator` decides.
-- Assumes nothing.
use Rattle.std.specs.Prelude.{Some}
use mathlib.Core.Path.{◌≡◌}
use native.Mathlib.Omega.{arith}
use lib.ListN.{get_or}
use Rattle.rules.specs.declared.Replacement.TheVariants.{Slashed, Hex}
use Rattle.encode_strings.specs.Strings.{single_key, double_key, hex_by, quotes_in}
use Rattle.encode_strings.proofs.Finds.{found-ruled, found_plain, found-quote, ruled-control, ruled-double, ruled-single, ruled-less, ruled-slash, letter-bounds, hex-held}
use Rattle.encode_strings.proofs.escapes.escape.Goals as goal

pub returns-then-is_within : goal.returns-then-is_within
returns-then-is_within c =
    let c₀ = c in
    let a = c₀.args in
    let (l, u) = letter-bounds (get_or a.rest.now 0 0) (rw c.is_within.ensures at c.if-is_within.true) in
    (found_plain a.notation a.quotes a.rest.now c₀.requires (omega arith) (λ e. omega arith) (λ e. omega arith) (λ e. omega arith) (λ e. omega arith) (λ e. omega arith), c₀.requires)

pub returns-then-b-lt32 : goal.returns-then-b-lt32
returns-then-b-lt32 c =
    let c₀ = c in
    let a = c₀.args in
    let b = get_or a.rest.now 0 0 in
    let h = c.if-b-lt32.true in
    rw c.hex_by.ensures (found-ruled a.notation a.quotes a.rest.now (Some (hex_by a.notation b)) c₀.requires (λ e. omega arith) (ruled-control a.notation (quotes_in a.notation a.quotes) b (omega arith)), hex-held a.notation b a.rest.now c₀.requires)

pub returns-then-b-le33 : goal.returns-then-b-le33
returns-then-b-le33 c =
    let c₀ = c in
    let a = c₀.args in
    let u = c.if-b-le33.true in
    (found_plain a.notation a.quotes a.rest.now c₀.requires c.if-b-lt32.false (λ e. omega arith) (λ e. omega arith) (λ e. omega arith) (λ e. omega arith) (λ e. omega arith), c₀.requires)

pub returns-in-34 : goal.returns-in-34
returns-in-34 c =
    let c₀ = c in
    let a = c₀.args in
    found-quote a.notation a.quotes a.rest.now c.quoted.result 0x22 (double_key a.notation a.quotes) c₀.requires c.in-34.is (λ e. omega arith) (rw (← c.double_key.ensures) c.quoted.ensures) (ruled-double a.notation (quotes_in a.notation a.quotes))

pub returns-in-39 : goal.returns-in-39
returns-in-39 c =
    let c₀ = c in
    let a = c₀.args in
    found-quote a.notation a.quotes a.rest.now c.quoted-in-39.result 0x27 (single_key a.notation a.quotes) c₀.requires c.in-39.is (λ e. omega arith) (rw (← c.single_key.ensures) c.quoted-in-39.ensures) (ruled-single a.notation (quotes_in a.notation a.quotes))

pub returns-in-60 : goal.returns-in-60
returns-in-60 c =
    let c₀ = c in
    let a = c₀.args in
    let k : get_or a.rest.now 0 0 ≡ 0x3C = c.in-60.is in
    (found-ruled a.notation a.quotes a.rest.now (Some Hex) c₀.requires (λ e. omega arith) (rw k (ruled-less a.notation (quotes_in a.notation a.quotes))), c₀.requires)

pub returns-in-92 : goal.returns-in-92
returns-in-92 c =
    let c₀ = c in
    let a = c₀.args in
    let k : get_or a.rest.now 0 0 ≡ 0x5C = c.in-92.is in
    (found-ruled a.notation a.quotes a.rest.now (Some Slashed) c₀.requires (λ e. omega arith) (rw k (ruled-slash a.notation (quotes_in a.notation a.quotes))), c₀.requires)

pub returns-in-226 : goal.returns-in-226
returns-in-226 c = (c.separator.ensures.0 _, c.separator.ensures.1)

pub returns-in_default : goal.returns-in_default
returns-in_default c =
    let c₀ = c in
    let a = c₀.args in
    let r = c.in_default.in_default-own.rest in
    (found_plain a.notation a.quotes a.rest.now c₀.requires (omega (arith, c.if-b-le33.false)) r.0.0.0.0.1 r.0.0.0.1 r.0.0.1 r.0.1 r.1, c₀.requires)
