-- A byte that is far from the keys is ASCII, and no replaced character begins with it unless it is `&`: computed for every byte in each context. So
-- up to
-- the next `&` of a clear text every byte is kept.
-- Assumes nothing.
use mathlib.Core.Bool.{Bool, false, not, ◌&&◌, ◌||◌}
use mathlib.Core.Path.{◌≡◌, subst}
use mathlib.Core.List.{List}
use Prim.Native.Nat.{ℕ, ◌+◌, ◌-◌, ◌≤◌, ◌<◌}
use native.Mathlib.Omega.{arith}
use borrow.Author.Tests.{lt-ltb, ne_eqb}
use lib.Dec.{T, ltb, eqb, ltb→lt, T_not}
use lib.ListN.{length}
use Rattle.rules.specs.declared.Html.{Html}
use Rattle.rules.specs.declared.Context.TheVariants.{InHtml}
use Rattle.rules.proofs.Tests.{and_left, and_right, is_false}
use Rattle.rules.proofs.Quiet.{Keeps}
use Rattle.base.specs.Places.{Nearest}
use Rattle.base.proofs.Counted.{Counted, counted-quiet}
use Rattle.find_ascii.specs.Words.{Ascii}
use Rattle.encode_html.proofs.Seven.{seven-bytes}
use Rattle.reader.specs.Replaced.{begins}
use Rattle.reader.specs.Units.{byte_step}
use Rattle.read_units.proofs.Turns.{byte-kept}
use Rattle.read_html.specs.Clear.{Clear, keys_of, far_of}

-- ASCII, and not replaced but for `&`.
abbrev clear : Html → ℕ → Bool
unfolding begins
clear h b = ltb b 128 && (eqb b 38 || not (begins (InHtml h) b))

abbrev told : Html → ℕ → Bool
unfolding begins
told h b = not (ltb 128 (far_of (keys_of h) b)) || clear h b

pub far-clear : (h : Html) (b : ℕ) → b < 256 → 128 < far_of (keys_of h) b → (b < 128) × ((b ≡ 38 → ⊥) → begins (InHtml h) b ≡ false)
unfolding begins
far-clear h b l f =
    let ok : T (not (ltb 128 (far_of (keys_of h) b)) || clear h b) = seven-bytes told tt h b l in
    let t : T (clear h b) = subst (λ (x : Bool). T (not x || clear h b)) (lt-ltb 128 (far_of (keys_of h) b) f) ok in
    let low = and_left (ltb b 128) (eqb b 38 || not (begins (InHtml h) b)) t in
    let free = and_right (ltb b 128) (eqb b 38 || not (begins (InHtml h) b)) t in
    (ltb→lt b 128 low, λ n. is_false (begins (InHtml h) b) (T_not (begins (InHtml h) b) (subst (λ (x : Bool). T (x || not (begins (InHtml h) b))) (ne_eqb b 38 n) free)))

module _ (h : Html) (t : List ℕ) (clear : Clear h t) where
  pub clear-keeps : (i r : ℕ) → Nearest t i 38 r → Keeps (byte_step (InHtml h)) t i r
  clear-keeps i r near k p q =
      let b : k < length t = omega (arith, q, near.within) in
      let (low, free) = clear k b in
      byte-kept h t k b (omega (arith, low)) (free (near.none k p q))

  pub clear-ascii : Ascii t
  clear-ascii k b = (clear k b).0

  -- Up to the next `&` all is counted, where the result is `gain` bytes shorter than the text so far.
  pub clear-counts : (i gain k r : ℕ) → Counted (byte_step (InHtml h)) t i (i - gain) k → gain ≤ i → Nearest t i 38 r → Counted (byte_step (InHtml h)) t r (r - gain) k
  clear-counts i gain k r c g near =
      let after = near.after in
      let n : i - gain + (r - i) ≡ r - gain = omega arith in
      subst (λ (n : ℕ). Counted (byte_step (InHtml h)) t r n k) n (counted-quiet c r after near.within (clear-keeps i r near))
