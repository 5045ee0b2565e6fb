-- `put_digits` meets its contract: digit by digit (Parts).
-- Assumes nothing.
use mathlib.Core.Path.{◌≡◌, ap, ◌∙◌}
use mathlib.Core.List.{List}
use Prim.Native.Nat.{ℕ, ◌/◌}
use native.Mathlib.Omega.{arith}
use lib.ListN.{length}
use Rattle.rules.specs.Bytes.{over}
use Rattle.encode_ascii.specs.Wide.{digits}
use Rattle.encode_ascii.proofs.Parts.{some-digits, sixteenths}
use borrow.Author.Rules.{rules}
use Rattle.encode_ascii.proofs.characters.put_digits.Goals as goal

pub put_digit-first-requires : goal.put_digit-first-requires
put_digit-first-requires c =
    let s = c in
    let z : 0 ≡ s.args.n / 1048576 / 16 = omega (arith, s.requires.1) in
    (omega arith, omega arith, omega arith, ap (λ (m : ℕ). length (digits 0 m)) z, s.requires.2)

pub put_digit-second-requires : goal.put_digit-second-requires
put_digit-second-requires c =
    let before = c.put_digit-first in
    (omega arith, omega arith, omega (arith, before.ensures.1), before.ensures.0 ∙ ap (λ (m : ℕ). length (digits 1 m)) (sixteenths c.args.n).0, search rules)

pub put_digit-third-requires : goal.put_digit-third-requires
put_digit-third-requires c =
    let before = c.put_digit-second in
    (omega arith, omega arith, omega (arith, before.ensures.1), before.ensures.0 ∙ ap (λ (m : ℕ). length (digits 2 m)) (sixteenths c.args.n).1, search rules)

pub put_digit-fourth-requires : goal.put_digit-fourth-requires
put_digit-fourth-requires c =
    let before = c.put_digit-third in
    (omega arith, omega arith, omega (arith, before.ensures.1), before.ensures.0 ∙ ap (λ (m : ℕ). length (digits 3 m)) (sixteenths c.args.n).2, search rules)

pub put_digit-fifth-requires : goal.put_digit-fifth-requires
put_digit-fifth-requires c =
    let before = c.put_digit-fourth in
    (omega arith, omega arith, omega (arith, before.ensures.1), before.ensures.0 ∙ ap (λ (m : ℕ). length (digits 4 m)) (sixteenths c.args.n).3, search rules)

pub returns : goal.returns
returns c =
    let s = c in
    let n = s.args.n in
    let t = s.args.room.now in
    let h = s.requires.2 in
    let z : 0 ≡ n / 1048576 / 16 = omega (arith, s.requires.1) in
    let q = sixteenths n in
    let first = c.put_digit-first.ensures.2 t h (ap (λ (m : ℕ). over (digits 0 m) t) z) in
    let second = c.put_digit-second.ensures.2 t h (first ∙ ap (λ (m : ℕ). over (digits 1 m) t) q.0) in
    let third = c.put_digit-third.ensures.2 t h (second ∙ ap (λ (m : ℕ). over (digits 2 m) t) q.1) in
    let fourth = c.put_digit-fourth.ensures.2 t h (third ∙ ap (λ (m : ℕ). over (digits 3 m) t) q.2) in
    let fifth = c.put_digit-fifth.ensures.2 t h (fourth ∙ ap (λ (m : ℕ). over (digits 4 m) t) q.3) in
    let last = c.put_digit.ensures in
    let e = some-digits 6 n (λ x. let f : ⊥ = omega (arith, s.requires.0, x) in f) in
    (last.0 ∙ ap length e, last.2 t h fifth ∙ ap (λ (l : List ℕ). over l t) e, last.1)
