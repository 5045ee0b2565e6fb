-- What holds of every byte of a part, and of a text by its parts.
-- Assumes nothing.
use mathlib.Core.Bool.{Bool}
use mathlib.Core.Path.{◌≡◌}
use mathlib.Core.List.{List, [], ◌∷◌, ◌++◌}
use Prim.Native.Nat.{ℕ, zero, suc, ◌+◌, ◌-◌, ◌≤◌, ◌<◌}
use native.Mathlib.Omega.{arith}
use lib.ListN.{length, take, drop, get_or}
use Rattle.base.specs.First.{Free}
use Rattle.plain.specs.Plain.{special_at}
use Rattle.base.proofs.Part.{part_length, part_at}

-- What holds of the bytes of two stretches holds of those of both.
pub each_both : (P : ℕ → Type 0) (x r : List ℕ) → ((k : ℕ) → k < length x → P (get_or x k 0)) → ((k : ℕ) → k < length r → P (get_or r k 0)) → (k : ℕ) → k < length (x ++ r) → P (get_or (x ++ r) k 0)
each_both P [] r f g k h = g k h
each_both P (y ∷ x) r f g zero h = f 0 (omega arith)
each_both P (y ∷ x) r f g (suc k) h = each_both P x r (λ k h. f (suc k) (omega arith)) g k (omega arith)

-- Where no byte of a part of the text is special, none of the text is from its start to its end.
pub free-part : (u : Bool) (t : List ℕ) (i e : ℕ) → i ≤ e → e ≤ length t → Free (special_at u (take (e - i) (drop i t))) 0 (length (take (e - i) (drop i t))) → Free (special_at u t) i e
free-part u t i e h l f k m n =
    let j : i + (k - i) ≡ k = omega arith in
    rw (part_at t i e (k - i) (omega arith), j) at (f (k - i) (omega arith) (rw (part_length t i e h l) (omega arith)))
