-- `put_digits` meets its contract: the digits of the tenth, and one more.
-- Assumes nothing.
use Rattle.std.proofs.Common.{◌≡◌, ◌+◌, ◌-◌, ◌/◌, ◌%◌, ℕ, List, [], ◌∷◌, length, set, sym, ap, ◌∙◌, arith, length-append}
use Rattle.rules.specs.Bytes.{over}
use Rattle.rules.specs.Program.{last_digits}
use Rattle.requests.proofs.Digits.{more-digits, over-more}
use Rattle.requests.proofs.print.+put_digits.Goals as goal

pub returns : goal.returns
returns t c =
    let a = c.args in
    let p = c.put_digits-at in
    let r = p.ensures in
    let d = more-digits a.most a.n (omega (arith, c.if-most-eq0.false)) c.if-n-lt10.false in
    let w = last_digits (a.most - 1) (a.n / 10) in
    let m : length w + 1 ≡ length (last_digits a.most a.n) = sym (length-append w ((48 + a.n % 10) ∷ [])) ∙ ap length (sym d) in (
      omega (arith, r.0, m),
      (λ i. set (r.1 i) (r.0 i) (c.digit-2.ensures i))
          ∙ over-more w a.output.now (48 + a.n % 10) (omega (arith, r.0, r.2, c.requires, c.if-most-eq0.false))
          ∙ ap (λ (l : List ℕ). over l a.output.now) (sym d),
      omega (arith, r.2, c.if-most-eq0.false),
    )
