-- `put_low` meets its contract: what `quoted` has for the byte, or the byte (Next).
-- Assumes nothing.
use mathlib.Core.Bool.{cond}
use mathlib.Core.Path.{sym, ap, ◌∙◌}
use mathlib.Core.List.{List, []}
use Prim.Native.Nat.{ℕ}
use native.Mathlib.Omega.{arith}
use lib.Dec.{eqb}
use lib.ListN.{length, set}
use Rattle.rules.specs.Bytes.{over}
use Rattle.encode_ascii.proofs.Parts.{over-more}
use Rattle.encode_ascii.proofs.Next.{low-copied, low-replaced}
use Rattle.encode_ascii.proofs.characters.put_low.Goals as goal

pub returns-then-written-eq0 : goal.returns-then-written-eq0
returns-then-written-eq0 c =
    let b = c.args.b in
    let room = c.args.room.now in
    let put = c.put_quoted-written.ensures.0 in
    let l = low-copied b c.requires.0 (sym put.0 ∙ c.if-written-eq0.true) in (
      (
        ap length (sym l.0),
        (λ i. set ((put.1 ∙ ap (λ (w : List ℕ). over w room) l.2) i) 0 b) ∙ over-more [] room b (omega (arith, c.requires.1)) ∙ ap (λ (w : List ℕ). over w room) (sym l.0),
      ),
      omega arith,
      l.1,
    )

pub returns : goal.returns
returns c =
    let put = c.put_quoted-written.ensures in
    let l = low-replaced c.args.b c.requires.0 (λ z. c.if-written-eq0.false (put.0.0 ∙ z)) in (
      (put.0.0 ∙ ap length (sym l.0), put.0.1 ∙ ap (λ (w : List ℕ). over w c.args.room.now) (sym l.0)),
      put.1,
      l.1 ∙ ap (λ (k : ℕ). cond (eqb k 1) 0 1) (sym put.0.0),
    )
