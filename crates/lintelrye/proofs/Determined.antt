-- Any two slices that view's contract allows begin at the same place in memory and have the same bytes, and any two answers that check's contract
-- allows are equal. For the other calls it is `determined` of crates/rules/proofs/Calls.antt.
-- Assumes nothing.
use mathlib.Core.Path.{◌≡◌, sym, ◌∙◌}
use mathlib.Core.List.{List}
use Prim.Native.Nat.{ℕ}
use Rattle.rules.specs.Refusals.{check_of}
use Rattle.rules.specs.declared.AnyContext.{AnyContext}
use Rattle.rules.specs.declared.Answer.{Answer}
use Rattle.rules.specs.declared.Checked.{Checked}
use Rattle.lintelrye.specs.Viewed.{Slice, Viewed}

pub view-determined : (text output : Slice) (a : Answer) (r s : Slice) → Viewed text output a r → Viewed text output a s → (r.ref_ptr ≡ s.ref_ptr) × (r.now ≡ s.now)
view-determined text output a r s p q = (p.0 ∙ sym q.0, p.1 ∙ sym q.1)

pub check-determined : (n : AnyContext) (t : List ℕ) (j k : Checked) → j ≡ check_of n t → k ≡ check_of n t → j ≡ k
check-determined n t j k p q = p ∙ sym q
