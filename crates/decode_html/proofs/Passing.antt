-- What decode leaves from a place on: bytes before the next `&` are kept, a reference that gives way leaves nothing, and one that stays comes first.
-- Assumes nothing.
use mathlib.Core.Path.{◌≡◌, sym, ap, ◌∙◌}
use mathlib.Core.List.{List, [], ◌∷◌}
use Prim.Native.Nat.{ℕ, zero, suc, ◌+◌, ◌-◌, ◌≤◌, ◌<◌}
use native.Mathlib.Omega.{arith}
use lib.ListN.{length, drop, get_or, drop_of_length-le}
use Rattle.rules.specs.Moves.{Move}
use Rattle.rules.specs.References.{reference_step}
use Rattle.rules.specs.Reasons.{reason_in, left_here, lefts_in}
use Rattle.rules.specs.declared.Reason.{Reason}
use Rattle.rules.specs.declared.DecodedEntity.{DecodedEntity}
use Rattle.rules.proofs.Loops.{drop-next}
use Rattle.base.specs.Places.{Nearest}
use Rattle.decode_html.specs.Taking.{Gives, Stays}
use Rattle.decode_html.proofs.Readings.{step-quiet}

module _ (t : List ℕ) where
  -- What is left from place i on.
  abbrev rest : ℕ → List (ℕ × Reason)
  rest i = lefts_in reference_step i (drop i t)

  -- At a place, by the move there.
  next : (i : ℕ) → i < length t → (m : Move) → reference_step 0 (drop i t) ≡ m → rest i ≡ left_here i (reason_in m) (rest (i + 1))
  next i h m e =
      let z : suc i ≡ i + 1 = omega arith in
      let e' : reference_step 0 (get_or t i 0 ∷ drop (i + 1) t) ≡ m = rw (drop-next t i h) at e in
      rw (drop-next t i h, e', z)

  pub passed-quiet : (i r : ℕ) → Nearest t i 38 r → rest i ≡ rest r
  passed-quiet i r near = go (r - i) i (omega (arith, near.after)) (λ k a b. near.none k a b)
    where
      go : (n i : ℕ) → i + n ≡ r → ((k : ℕ) → i ≤ k → k < r → get_or t k 0 ≡ 38 → ⊥) → rest i ≡ rest r
      go zero i e f = let z : i ≡ r = omega arith in rw z
      go (suc n) i e f =
          let h : i < length t = omega (arith, near.within) in
          next i h _ (ap (reference_step 0) (drop-next t i h) ∙ step-quiet 0 (get_or t i 0) (drop (i + 1) t) (f i (omega arith) (omega arith)))
          ∙ go n (i + 1) (omega arith) (λ k a b. f k (omega arith) b)

  module _ (i : ℕ) (h : i < length t) where
    pub passed-gives : (e : DecodedEntity) → Gives reference_step t i e → rest i ≡ rest (i + 1)
    passed-gives e gives = next i h _ (sym (gives.move 0))

    pub passed-stays : (w : Reason) → Stays t i w → rest i ≡ (i, w) ∷ rest (i + 1)
    passed-stays w stays = next i h _ (sym (stays 0))

  pub passed-end : (i : ℕ) → length t ≤ i → rest i ≡ []
  passed-end i h = rw (drop_of_length-le t h)
