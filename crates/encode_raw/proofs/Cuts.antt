-- The moves of script_raw: the bytes before the next place that a backslash goes in after are kept, and there `<\` is written. What is parted
-- from a `<` begins with `!` or `/`, so a place that no such byte follows is none.
-- Assumes nothing.
use mathlib.Core.Bool.{Bool, true, false, ◌&&◌, ◌||◌, cond}
use mathlib.Core.Path.{◌≡◌, refl, sym, ap, ◌∙◌}
use mathlib.Core.List.{List, [], ◌∷◌, ◌++◌, map, append-nil}
use Prim.Native.Nat.{ℕ, suc, ◌+◌, ◌-◌, ◌≤◌, ◌<◌}
use native.Mathlib.Omega.{arith}
use borrow.Author.Tests.{ne_eqb, eqb-true, eqb-false}
use lib.Dec.{eqb}
use lib.ListN.{length, take, drop, get_or, length-append}
use lib.Seq.{take_all, take-append-add}
use Rattle.rules.specs.Bytes.{ascii, fits, stands, one_of}
use Rattle.rules.specs.Moves.{Move, keep, swap, result, before, from, through}
use Rattle.rules.specs.Encoding.{parted, any_case, closes, raw_step}
use Rattle.rules.proofs.Machine.{singly, result-singly}
use Rattle.rules.proofs.Loops.{from_next, drop-next}
use Rattle.rules.proofs.Quiet.{Keeps, quiet}
use Rattle.rules.proofs.Stream.{raw-count}
use Rattle.base.specs.First.{Free, First}
use Rattle.base.proofs.Filled.{Next, lent-rest}
use borrow.Author.Count.{below_more}
use Rattle.base.proofs.Part.{part_length, part_at, window_at}
use Rattle.plain.specs.Plain.{Without}
use Rattle.encode_raw.specs.Cuts.{cut_at, suspect}

-- ---- what is a cut

-- A byte that is no `<`.
pub other-uncut : (t : List ℕ) (k : ℕ) → (get_or t k 0 ≡ 60 → ⊥) → cut_at t k ≡ false
unfolding cut_at
other-uncut t k h = ap (λ (x : Bool). x && parted (drop (k + 1) t)) (ne_eqb (get_or t k 0) 60 h)

-- A `<`, by what follows it as a call is lent it.
pub less-cut : (t : List ℕ) (k : ℕ) (x : Bool) → get_or t k 0 ≡ 60 → x ≡ parted (take (length t - (k + 1)) (drop (k + 1) t)) → cut_at t k ≡ x
unfolding cut_at
less-cut t k x h e = rw (h, e, lent-rest)

-- What is parted begins with `!` or `/`.
unparted : (b : ℕ) (s : List ℕ) → (eqb b 33 || eqb b 47) ≡ false → parted (b ∷ s) ≡ false
unparted b s e =
    ap (λ (x : Bool). shape x (eqb b 47)) (ne_eqb 33 b (λ p. eqb-false b 33 (first (eqb b 33) (eqb b 47) e) (sym p)))
    ∙ ap (shape false) (second (eqb b 33) (eqb b 47) e)
  where
    shape : Bool → Bool → Bool
    shape x y = ((x && stands (ascii "--") s) || ((y || false) && closes (ascii "script") s)) || (((y || false) && fits one_of (map any_case (ascii "script")) s) && eqb (length (b ∷ s)) 7)

    first : (x y : Bool) → (x || y) ≡ false → x ≡ false
    first true y z = z
    first false y z = refl

    second : (x y : Bool) → (x || y) ≡ false → y ≡ false
    second true true z = z
    second true false z = refl
    second false y z = z

pub unsuspected : (t : List ℕ) (k : ℕ) → k + 1 < length t → suspect (get_or t k 0) (get_or t (k + 1) 0) ≡ false → cut_at t k ≡ false
unfolding cut_at suspect
unsuspected t k h e = go (eqb (get_or t k 0) 60) e
  where
    go : (x : Bool) → (x && (eqb (get_or t (k + 1) 0) 33 || eqb (get_or t (k + 1) 0) 47)) ≡ false → (x && parted (drop (k + 1) t)) ≡ false
    go false z = refl
    go true z = ap parted (drop-next t (k + 1) h) ∙ unparted (get_or t (k + 1) 0) (drop (k + 1 + 1) t) z

-- An answer that is false only where no pair is suspect, and the answer for one pair more, v.
pub pair-more : (t v : List ℕ) (e : ℕ) (hit more : Bool) → v ≡ take 2 (drop e t) → more ≡ suspect (get_or v 0 0) (get_or v 1 0)
    → (hit ≡ false → (k : ℕ) → k < e → suspect (get_or t k 0) (get_or t (k + 1) 0) ≡ false)
    → hit || more ≡ false → (k : ℕ) → k < e + 1 → suspect (get_or t k 0) (get_or t (k + 1) 0) ≡ false
pair-more t v e true more s q f z = let never : ◌≡◌ {A = ℕ} 0 1 = cc in absurd (omega arith)
pair-more t v e false more s q f z =
    let first : e + 0 ≡ e = omega arith in
    let a = window_at t v e 2 0 s (omega arith) ∙ ap (λ (n : ℕ). get_or t n 0) first in
    below_more _ _ (f refl) (ap (λ (x : ℕ). suspect x (get_or t (e + 1) 0)) (sym a) ∙ ap (suspect (get_or v 0 0)) (sym (window_at t v e 2 1 s (omega arith))) ∙ sym q ∙ z)

-- Where no pair of a block and the byte after it is suspect, there is no cut in the block.
pub uncut-block : (t : List ℕ) (i : ℕ) → i + 16 + 1 ≤ length t
    → ((k : ℕ) → k + 1 < length (take (i + 16 + 1 - i) (drop i t)) → suspect (get_or (take (i + 16 + 1 - i) (drop i t)) k 0) (get_or (take (i + 16 + 1 - i) (drop i t)) (k + 1) 0) ≡ false)
    → Free (cut_at t) i (i + 16)
uncut-block t i h f k a b =
    let e = i + 16 + 1 in
    let s : i + (k - i) ≡ k = omega arith in
    let n : i + (k - i + 1) ≡ k + 1 = omega arith in
    unsuspected t k (omega arith) (rw (part_at t i e (k - i) (omega arith), part_at t i e (k - i + 1) (omega arith), s, n) at (f (k - i) (rw (part_length t i e (omega arith) h) (omega arith))))

-- ---- the moves

raw-move : (t : List ℕ) (k : ℕ) → k < length t → raw_step (before t k) (drop k t) ≡ cond (cut_at t k) (swap (get_or t k 0 ∷ []) (get_or t k 0 ∷ ascii "\\")) (keep (get_or t k 0 ∷ []))
unfolding raw_step cut_at
raw-move t k h = ap (raw_step (before t k)) (drop-next t k h)

raw-keeps : (t : List ℕ) (i e : ℕ) → e ≤ length t → Free (cut_at t) i e → Keeps raw_step t i e
raw-keeps t i e h none k a b = raw-move t k (omega arith) ∙ ap (λ (x : Bool). cond x (swap (get_or t k 0 ∷ []) (get_or t k 0 ∷ ascii "\\")) (keep (get_or t k 0 ∷ []))) (none k a b)

cut-less : (t : List ℕ) (k : ℕ) → cut_at t k ≡ true → get_or t k 0 ≡ 60
unfolding cut_at
cut-less t k e = eqb-true (get_or t k 0) 60 (left (eqb (get_or t k 0) 60) e)
  where
    left : (x : Bool) → (x && parted (drop (k + 1) t)) ≡ true → x ≡ true
    left true z = refl
    left false z = z

-- The moves from place i on, up to the end that is asked for.
abbrev pub left : List ℕ → ℕ → ℕ → List Move
left t end i = take (end - i) (from raw_step t i)

-- At the start they are the first `end` moves.
pub start_left : (t : List ℕ) (end : ℕ) → left t end 0 ≡ take end (through raw_step t)
start_left t end = let z : end - 0 ≡ end = omega arith in ap (λ (n : ℕ). take n (through raw_step t)) z

-- At the end there is none.
pub end-left : (t : List ℕ) (end i : ℕ) → end ≤ i → left t end i ≡ []
end-left t end i h = let z : end - i ≡ 0 = omega arith in ap (λ (n : ℕ). take n (from raw_step t i)) z

-- All moves are as many as the bytes.
pub whole-moves : (t : List ℕ) (end : ℕ) → end ≡ length t → take end (through raw_step t) ≡ through raw_step t
whole-moves t end e = let n = raw-count t in take_all end (through raw_step t) (omega (arith, n, e))

singly-length : (a : List ℕ) → length (singly a) ≡ length a
singly-length [] = refl
singly-length (x ∷ a) = ap suc (singly-length a)

module _ (t : List ℕ) (end i e : ℕ) (inside : end ≤ length t) (cut : First (cut_at t) end i e) where
  abbrev stretch : List ℕ
  stretch = take (e - i) (drop i t)

  within : e ≤ length t
  within = let w = cut.within in omega (arith, w, inside)

  stretch-length : length stretch ≡ e - i
  stretch-length = part_length t i e cut.after within

  -- What lies before the next cut.
  pub next-quiet : Next (result (left t end i)) stretch (result (left t end e))
  next-quiet =
      let a = cut.after in
      let w = cut.within in
      let l = singly-length stretch in
      let m = stretch-length in
      let n : end - i ≡ length (singly stretch) + (end - e) = omega (arith, a, w, l, m) in
      record {
        next =
            ap (λ (ms : List Move). result (take (end - i) ms)) (quiet raw_step t i e a within (raw-keeps t i e within cut.none))
            ∙ ap (λ (k : ℕ). result (take k (singly stretch ++ from raw_step t e))) n
            ∙ ap result (take-append-add (singly stretch) (from raw_step t e) (end - e))
            ∙ result-singly stretch (left t end e);
      }

  -- What is written there, and what comes after.
  pub next-less : e < end → Next (result (left t end e)) (ascii "<\\") (result (left t end (e + 1)))
  next-less h =
      let l : e < length t = omega (arith, h, inside) in
      let m : raw_step (before t e) (drop e t) ≡ swap (60 ∷ []) (ascii "<\\") = raw-move t e l ∙ rw (cut.here h, cut-less t e (cut.here h)) in
      let n : end - e ≡ suc (end - (e + 1)) = omega arith in
      record {
        next =
            ap (λ (ms : List Move). result (take (end - e) ms)) (from_next raw_step t e 0 (swap (60 ∷ []) (ascii "<\\")) l m refl)
            ∙ ap (λ (k : ℕ). result (take k (swap (60 ∷ []) (ascii "<\\") ∷ from raw_step t (e + 1)))) n;
      }

  -- The same of lengths.
  pub quiet-length : length (result (left t end i)) ≡ (e - i) + length (result (left t end e))
  quiet-length =
      ap length next-quiet.next
      ∙ length-append stretch (result (left t end e))
      ∙ ap (λ (n : ℕ). n + length (result (left t end e))) stretch-length

  pub less-length : e < end → length (result (left t end e)) ≡ 2 + length (result (left t end (e + 1)))
  less-length h = ap length (next-less h).next ∙ length-append (ascii "<\\") (result (left t end (e + 1)))

-- Nothing is left at the end.
pub end-length : (t : List ℕ) (end i : ℕ) → end ≤ i → length (result (left t end i)) ≡ 0
end-length t end i h = ap (λ (ms : List Move). length (result ms)) (end-left t end i h)

-- A text without `<` is kept.
pub clear-moves : (t : List ℕ) (end : ℕ) → end ≤ length t → Without 60 t → result (take end (through raw_step t)) ≡ take end t
clear-moves t end h w =
    let cut : First (cut_at t) end 0 end = record { after = omega arith; within = omega arith; none = λ k a b. other-uncut t k (w k (omega arith)).1; here = λ l. absurd (omega arith) } in
    let z : end - 0 ≡ end = omega arith in
    ap result (sym (start_left t end)) ∙ (next-quiet t end 0 end h cut).next
    ∙ ap (λ (ms : List Move). take (end - 0) t ++ result ms) (end-left t end end (omega arith))
    ∙ append-nil (take (end - 0) t) ∙ ap (λ (n : ℕ). take n t) z
