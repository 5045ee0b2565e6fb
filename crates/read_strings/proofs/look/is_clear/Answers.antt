-- `is_clear` meets its contract: every byte so far passes; the answer true comes only after the last, and then each is clear.
-- Assumes nothing.
use borrow.Author.Rules.{rules}
use mathlib.Core.List.{List}
use mathlib.Core.Path.{◌≡◌, refl, sym, subst}
use Prim.Native.Nat.{ℕ, ◌≤◌}
use native.Mathlib.Omega.{arith}
use lib.ListN.{length, get_or}
use Rattle.rules.specs.Moves.{before as byte_before}
use Rattle.base.proofs.Part.{part_length}
use Rattle.read_strings.specs.Clear.{far_of}
use Rattle.read_strings.proofs.Looks.{before_at, counts, pairs-part}
use Rattle.read_strings.proofs.Clearing.{good-clear}
use Rattle.read_strings.proofs.look.is_clear.Goals as goal

pub loop-i-init : goal.loop-i-init
loop-i-init c = (search rules, refl, λ k l. absurd (omega arith))

pub least-requires : goal.least-requires
least-requires c = let e = c.clip-end in omega (arith, part_length c.args.text.now c.loop-i.i e.result (omega (arith, e.ensures)) (omega (arith, e.ensures)), e.ensures)

pub returns-then-least-eq0 : goal.returns-then-least-eq0
returns-then-least-eq0 c = λ z. let never : ◌≡◌ {A = ℕ} 0 1 = cc in absurd (omega arith)

pub loop-i-preserved : goal.loop-i-preserved
loop-i-preserved c =
    let t = c.args.text.now in
    let l = c.loop-i in
    let e = c.clip-end in
    let from : l.i ≤ e.result = omega (arith, e.ensures) in
    let to : e.result ≤ length t = omega (arith, e.ensures) in
    (search rules, sym (before_at t e.result (omega (arith, e.ensures))), pairs-part t l.i e.result l.before from to l.invariant.1 (λ (p b : ℕ). 1 ≤ far_of c.keys_of-keys.result p b) l.invariant.2 (λ k h. omega (arith, c.least.ensures k h, c.if-least-eq0.false)))

pub returns : goal.returns
returns c =
    let a = c.args in
    let l = c.loop-i in
    let t = a.text.now in
    λ z k h. good-clear a.language a.quotes (byte_before t k) (get_or t k 0) (c.shared_slice_known-1.given k).fits
    (counts _ (subst (λ (keys : List ℕ). 1 ≤ far_of keys (byte_before t k) (get_or t k 0)) c.keys_of-keys.ensures (l.invariant.2 k (omega arith))))
