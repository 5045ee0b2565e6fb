-- What the loops that look for the next replaced character need: a part that has none, and where one stands.
-- Assumes nothing.
use mathlib.Core.Bool.{Bool, true, false, ◌&&◌, and-false}
use mathlib.Core.Path.{◌≡◌, sym, ap, ◌∙◌}
use mathlib.Core.List.{List}
use Prim.Native.Nat.{ℕ, ◌+◌, ◌-◌, ◌≤◌}
use native.Mathlib.Omega.{arith}
use lib.ListN.{length, take, drop, get_or}
use Rattle.base.specs.First.{Free}
use Rattle.base.proofs.Part.{part_length, part_at}
use Rattle.reader.specs.Replaced.{is_lead, is_whole, begins_at, replaced_at}

-- A part in which the count is 0.
pub out-part : (leads t : List ℕ) (i e : ℕ) → i ≤ e → e ≤ length t
    → Free (begins_at leads (take (e - i) (drop i t))) 0 (length (take (e - i) (drop i t))) → Free (begins_at leads t) i e
out-part leads t i e h l f k a b =
    let s : i + (k - i) ≡ k = omega arith in
    ap (λ (n : ℕ). is_lead leads (get_or t n 0)) (sym s)
    ∙ ap (is_lead leads) (sym (part_at t i e (k - i) (omega arith)))
    ∙ f (k - i) (omega arith) (omega (arith, part_length t i e h l))

-- Where none begins with the byte, no replaced character stands.
pub out-plain : (leads t : List ℕ) (a e : ℕ) → Free (begins_at leads t) a e → Free (replaced_at leads t) a e
out-plain leads t a e f k h l = ap (λ (b : Bool). b && is_whole (drop k t)) (f k h l)

-- Nor where another character begins as U+2028 does.
pub part-plain : (leads t : List ℕ) (k : ℕ) → is_whole (drop k t) ≡ false → replaced_at leads t k ≡ false
part-plain leads t k e = ap (λ (b : Bool). is_lead leads (get_or t k 0) && b) e ∙ and-false (is_lead leads (get_or t k 0))

-- One stands where one begins with the byte and it is not such another.
pub whole-replaced : (leads t : List ℕ) (k : ℕ) → is_lead leads (get_or t k 0) ≡ true → is_whole (drop k t) ≡ true → replaced_at leads t k ≡ true
whole-replaced leads t k e f = λ i. e i && f i
