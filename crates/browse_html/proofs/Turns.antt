-- The turns of browse's loops: its rule is one of those that the laws of decode's loops are about; a reference that stays leaves nothing to note.
-- Assumes nothing.
use mathlib.Core.Path.{◌≡◌, sym}
use mathlib.Core.List.{List, [], ◌∷◌}
use Prim.Native.Nat.{ℕ, ◌+◌, ◌-◌, ◌<◌}
use native.Mathlib.Omega.{arith}
use lib.Dec.{eqb→eq}
use lib.ListN.{length, take, drop, get_or}
use Rattle.rules.specs.Moves.{result, before, from}
use Rattle.rules.specs.Browsing.{browse_step}
use Rattle.rules.specs.declared.Kind.{Kind}
use Rattle.rules.proofs.Browsing.{browse-fair, browse-quiet}
use Rattle.rules.proofs.Loops.{drop-next}
use Rattle.rules.proofs.Quiet.{Keeps as Quiet}
use Rattle.base.proofs.Filled.{Next}
use Rattle.base.proofs.Counted.{Counted, counted-quiet, next-quiet}
use Rattle.browse_html.specs.Finding.{Keeps}
use Rattle.decode_html.proofs.Turns.{Turning}

pub browsing : (kind : Kind) → Turning (browse_step kind)
browsing kind = record { fair = browse-fair kind; keeps = λ p x s h. browse-quiet kind p x s (λ t. h (eqb→eq x 38 t)) }

-- There is no reference at the `&`, which is kept.
module _ (kind : Kind) (t : List ℕ) (p : ℕ) (inside : p < length t) (amp : get_or t p 0 ≡ 38) (keeps : Keeps kind t p) where
  one : p + 1 - p ≡ 1
  one = omega arith

  alone : Quiet (browse_step kind) t p (p + 1)
  alone k h l =
      let z : k ≡ p = omega arith in
      rw (z, amp) (sym (keeps (before t p)))

  pub stays-next : Next (result (from (browse_step kind) t p)) (38 ∷ []) (result (from (browse_step kind) t (p + 1)))
  stays-next =
      let byte : take (p + 1 - p) (drop p t) ≡ 38 ∷ [] = rw (one, drop-next t p inside, amp) in
      rw byte at (next-quiet (browse_step kind) t p (p + 1) (omega arith) (omega arith) alone)

  pub counted-stays : {n k : ℕ} → Counted (browse_step kind) t p n k → Counted (browse_step kind) t (p + 1) (n + 1) k
  counted-stays c = rw one at (counted-quiet c (p + 1) (omega arith) (omega arith) alone)
