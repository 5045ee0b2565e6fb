-- If what is left is ASCII without the byte, the text is.
-- Assumes nothing.
use Rattle.std.proofs.Common.{◌≡◌, ℕ, ◌<◌}
use Rattle.plain.proofs.Parts.{each_both}
use Rattle.plain.proofs.look.is_without.Goals as goal

pub loop-part-preserved : goal.loop-part-preserved
loop-part-preserved c = λ w. c.loop-part.invariant (rw c.in-Some.ensures.steps.1.0 (each_both (λ (b : ℕ). (b < 128) × (b ≡ c.args.byte → ⊥)) c.in-Some.part.now _ (c.least.ensures c.if-least-le128.false) w))
