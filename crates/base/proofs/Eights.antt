-- Copying by eights: where a text is copied up to a place, eight bytes from that place on, or from before it, leave it copied up to their end.
-- Assumes nothing.
use mathlib.Core.Path.{◌≡◌, refl, sym, ap, ◌∙◌}
use mathlib.Core.List.{List, [], ◌∷◌, ◌++◌, append_assoc, append-nil}
use Prim.Native.Nat.{ℕ, ◌+◌, ◌-◌, ◌≤◌}
use native.Mathlib.Omega.{arith}
use lib.ListN.{get_or, length, take, drop, length-drop, drop_of_length-le}
use lib.Seq.{drop-drop, take-add, take-take, take-append-le, drop-append-add, length-take-le, take-length}
use Rattle.rules.specs.Bytes.{over}
use Rattle.base.proofs.Filled.{lent-rest}

-- The first eight bytes, one by one.
pub eight-first : (t : List ℕ) → 8 ≤ length t
    → get_or t 0 0 ∷ get_or t 1 0 ∷ get_or t 2 0 ∷ get_or t 3 0 ∷ get_or t 4 0 ∷ get_or t 5 0 ∷ get_or t 6 0 ∷ get_or t 7 0 ∷ [] ≡ take 8 t
eight-first (a ∷ b ∷ c ∷ d ∷ e ∷ f ∷ g ∷ h ∷ t) l = refl
eight-first [] l = absurd (omega arith)
eight-first (a ∷ []) l = absurd (omega arith)
eight-first (a ∷ b ∷ []) l = absurd (omega arith)
eight-first (a ∷ b ∷ c ∷ []) l = absurd (omega arith)
eight-first (a ∷ b ∷ c ∷ d ∷ []) l = absurd (omega arith)
eight-first (a ∷ b ∷ c ∷ d ∷ e ∷ []) l = absurd (omega arith)
eight-first (a ∷ b ∷ c ∷ d ∷ e ∷ f ∷ []) l = absurd (omega arith)
eight-first (a ∷ b ∷ c ∷ d ∷ e ∷ f ∷ g ∷ []) l = absurd (omega arith)

-- The text over the output, up to place n.
abbrev pub copied : List ℕ → List ℕ → ℕ → List ℕ
copied t out n = take n t ++ drop n out

pub copied-whole : (t out : List ℕ) → copied t out (length t) ≡ over t out
copied-whole t out = ap (λ (w : List ℕ). w ++ drop (length t) out) (take-length t)

module _ (t out : List ℕ) (done at : ℕ) (before : at ≤ done) (within : done ≤ at + 8) (whole : at + 8 ≤ length t) where
  up_to : length (take done t) ≡ done
  up_to = length-take-le done t (omega arith)

  eight : length (take 8 (drop at t)) ≡ 8
  eight = length-take-le 8 (drop at t) (rw length-drop (omega arith))

  -- What stands before the eight.
  ahead : take at (copied t out done) ≡ take at t
  ahead = take-append-le at (take done t) (drop done out) (omega (arith, up_to)) ∙ take-take at done t before

  -- What stands after them.
  behind : drop 8 (drop at (copied t out done)) ≡ drop (at + 8) out
  behind =
      let i : at + 8 ≡ length (take done t) + (at + 8 - done) = omega (arith, up_to) in
      let j : done + (at + 8 - done) ≡ at + 8 = omega arith in
      drop-drop 8 at (copied t out done)
      ∙ ap (λ (n : ℕ). drop n (copied t out done)) i
      ∙ drop-append-add (take done t) (drop done out) (at + 8 - done)
      ∙ drop-drop (at + 8 - done) done out
      ∙ ap (λ (n : ℕ). drop n out) j

  -- The eight, written into the part that is lent, and the part put back.
  pub copied-put : (now last : List ℕ) → now ≡ copied t out done → last ≡ over (take 8 (take (length t - at) (drop at t))) (take (length now - at) (drop at now))
      → take at now ++ (last ++ drop (length now - at) (drop at now)) ≡ copied t out (at + 8)
  copied-put now last e p =
      let w : last ≡ take 8 (drop at t) ++ drop 8 (drop at now) = p ∙ rw (lent-rest, lent-rest, eight) in
      let none : drop (length now - at) (drop at now) ≡ [] = drop_of_length-le (drop at now) {i = length now - at} (rw length-drop (omega arith)) in
      rw (none, append-nil, w, e, ahead, behind)
      (sym (append_assoc (take at t) (take 8 (drop at t)) (drop (at + 8) out)) ∙ ap (λ (l : List ℕ). l ++ drop (at + 8) out) (sym (take-add at 8 t)))
