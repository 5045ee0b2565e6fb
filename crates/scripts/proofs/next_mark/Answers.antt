-- `scripts::next_mark` meets its contract: behind the blocks that were skipped, no byte before the place is a `<` or a dash.
-- Assumes nothing.
use Rattle.std.proofs.Common.{rules, ◌≡◌, ℕ, ◌+◌, ◌-◌, arith, length, take, drop}
use borrow.Author.Tests.{tests}
use Rattle.std.proofs.lemmas.Iterator.{IsFirst-from_position, YieldsList-from_slice}
use Rattle.base.proofs.Part.{part_length}
use Rattle.scripts.proofs.Ends.{passed-rest}
use Rattle.scripts.proofs.next_mark.Goals as goal

pub returns-in-Some : goal.returns-in-Some
returns-in-Some c =
    let a = c.args in
    let k = c.skip_blocks-start in
    let q = IsFirst-from_position _ _ _ (λ (b : ℕ). Unit {0}) (λ (b : ℕ). (b ≡ 60 → ⊥) × (b ≡ 45 → ⊥)) c.in-Some.ensures.ran (YieldsList-from_slice _ c.iter.ensures.rest) (λ x q k. tt) (λ x q k. search (rules, tests)) in
    passed-rest a.mode a.text.now a.from k.result c.in-Some.k k.ensures (omega (arith, q.0)) q.2

pub returns-in-None : goal.returns-in-None
returns-in-None c =
    let a = c.args in
    let k = c.skip_blocks-start in
    let t = a.text.now in
    let e : k.result + length (take (length t - k.result) (drop k.result t)) ≡ length t = omega (arith, k.ensures.within, part_length t k.result (length t) k.ensures.within (omega arith)) in
    rw e at (passed-rest a.mode t a.from k.result (length (take (length t - k.result) (drop k.result t))) k.ensures (omega arith) (IsFirst-from_position _ _ _ (λ (b : ℕ). Unit {0}) (λ (b : ℕ). (b ≡ 60 → ⊥) × (b ≡ 45 → ⊥)) c.in-None.ensures.ran (YieldsList-from_slice _ c.iter.ensures.rest) (λ x q k. tt) (λ x q k. search (rules, tests))))
