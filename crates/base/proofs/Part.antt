-- The part of a text from i up to e, as a call that is lent `&text[i..e]` sees it.
-- Assumes nothing.
use mathlib.Core.Path.{◌≡◌, sym, ap, ◌∙◌}
use mathlib.Core.List.{List, ◌++◌}
use Prim.Native.Nat.{ℕ, ◌+◌, ◌-◌, ◌≤◌, ◌<◌}
use native.Mathlib.Omega.{arith}
use lib.ListN.{length, take, drop, get_or, get_or-append, length-append, length-drop, take-append-drop}
use lib.Seq.{drop_at, drop-drop, length-take-le, get_or-take, get_or-drop}

pub part_length : (t : List ℕ) (i e : ℕ) → i ≤ e → e ≤ length t → length (take (e - i) (drop i t)) ≡ e - i
part_length t i e h k = length-take-le (e - i) (drop i t) (rw length-drop (omega arith))

-- A byte of the part.
pub part_at : (t : List ℕ) (i e k : ℕ) → k < e - i → get_or (take (e - i) (drop i t)) k 0 ≡ get_or t (i + k) 0
part_at t i e k h = get_or-take (e - i) (drop i t) k 0 h ∙ get_or-drop i t k 0

-- A byte of a window of n bytes from i on.
pub window_at : (t v : List ℕ) (i n j : ℕ) → v ≡ take n (drop i t) → j < n → get_or v j 0 ≡ get_or t (i + j) 0
window_at t v i n j e h = ap (λ (l : List ℕ). get_or l j 0) e ∙ get_or-take n (drop i t) j 0 h ∙ get_or-drop i t j 0

-- The part and what is after it.
pub parted : (t : List ℕ) (i e : ℕ) → i ≤ e → take (e - i) (drop i t) ++ drop e t ≡ drop i t
parted t i e h =
    let s : e ≡ i + (e - i) = omega arith in
    let d : drop e t ≡ drop (e - i) (drop i t) = ap (λ (n : ℕ). drop n t) s ∙ sym (drop-drop (e - i) i t) in
    rw d (take-append-drop (e - i) (drop i t))

-- Where x is cut off a text at i, and r is left after it.
module _ (t x r : List ℕ) (i n : ℕ) (h : i ≤ length t) (e : drop i t ≡ x ++ r) (s : length x ≡ n) where
  pub cut-rest : drop (i + n) t ≡ r
  cut-rest = sym (drop-drop n i t) ∙ ap (drop n) e ∙ drop_at x r n s

  pub cut-within : i + n ≤ length t
  cut-within = omega (arith, h, length-drop i t, length-append x r, ap length e, s)

  pub cut-here : (k : ℕ) → i ≤ k → k < i + n → get_or x (k - i) 0 ≡ get_or t k 0
  cut-here k l m =
      let j : i + (k - i) ≡ k = omega arith in
      sym (get_or-append x r 0 (k - i) (omega (arith, s))) ∙ ap (λ (l : List ℕ). get_or l (k - i) 0) (sym e) ∙ get_or-drop i t (k - i) 0 ∙ ap (λ (n : ℕ). get_or t n 0) j
