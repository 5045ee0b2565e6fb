-- If no byte of what is left is special, none of the text is.
-- Assumes nothing.
use Rattle.std.proofs.Common.{false, ◌≡◌, ℕ}
use Rattle.std.specs.Slice.Iter.{chunks_rest}
use Rattle.encode_html.specs.Gains.{Each}
use Rattle.encode_html.specs.Keys.{special}
use Rattle.encode_html.proofs.look.is_unchanged.Given as goal

abbrev pub invariant-loop-part : goal.invariant-loop-part
invariant-loop-part l = Each (λ (b : ℕ). special l.k b ≡ false) (chunks_rest l.part-iterator) → Each (λ (b : ℕ). special l.k b ≡ false) l.text
