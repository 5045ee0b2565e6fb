-- `put_digit` meets its contract: the digits of the sixteenth, and one more (Parts).
-- Assumes nothing.
use mathlib.Core.Path.{◌≡◌, sym, ap, ◌∙◌}
use mathlib.Core.List.{List, [], ◌∷◌}
use Prim.Native.Nat.{ℕ, ◌+◌, ◌-◌, ◌/◌, ◌%◌}
use native.Mathlib.Omega.{arith}
use lib.ListN.{length, set, length-append}
use Rattle.rules.specs.Bytes.{over}
use Rattle.rules.specs.Tables.{hex_digit}
use Rattle.encode_ascii.specs.Wide.{digits}
use Rattle.encode_ascii.proofs.Parts.{next-digit, over-more}
use Rattle.encode_ascii.proofs.characters.put_digit.Goals as goal

pub returns-then-n-eq0 : goal.returns-then-n-eq0
returns-then-n-eq0 c =
    let s = c in
    rw c.if-n-eq0.true (rw c.if-n-eq0.true at s.requires.3, omega (arith, s.requires.2), λ out h p. p)

pub returns : goal.returns
returns c =
    let s = c in
    let a = s.args in
    let w = digits (a.most - 1) (a.n / 16) in
    let d = next-digit a.most a.n (omega (arith, s.requires.0)) c.if-n-eq0.false in
    let m : length w + 1 ≡ length (digits a.most a.n) = sym (length-append w (hex_digit (a.n % 16) ∷ [])) ∙ ap length (sym d) in (
      omega (arith, s.requires.3, m),
      omega (arith, s.requires.2),
      λ out h p. (λ i. set (p i) (s.requires.3 i) (c.digit.ensures i)) ∙ over-more w out (hex_digit (a.n % 16)) (omega (arith, h, s.requires.1, s.requires.2, s.requires.3)) ∙ ap (λ (l : List ℕ). over l out) (sym d),
    )
