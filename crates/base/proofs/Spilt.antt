-- An output that is being filled by bytes that are stored whole though not all of them count: `whole` is what is to be written, `rest` what is left of it,
-- `out₀` the output at the start, `out` the output now and `at` the fill position. What is written so far, with what is left, is the whole; past it up to
-- `spill` bytes are spilt, and from there on the output is as at the start. It has `extra` bytes of room past the whole. Assumes nothing.
use mathlib.Core.Path.{◌≡◌, refl, sym, ap, ◌∙◌}
use mathlib.Core.List.{List, [], ◌++◌, append_assoc, append-nil}
use Prim.Native.Nat.{ℕ, ◌+◌, ◌-◌, ◌≤◌}
use native.Mathlib.Omega.{arith}
use lib.ListN.{length, take, drop, length-append, length-drop, drop_of_length-le}
use lib.Seq.{take_at, drop-drop, take-append-le, take-append-add, drop-append-add, length-take-le}
use Rattle.rules.specs.Bytes.{over}
use Rattle.base.specs.Words.{Spills}
use Rattle.base.proofs.Filled.{Next, lent-rest}

-- `sum`, `kept` and `room` stand here so that `omega` and `search needs` find them
pub record Spilt (spill extra : ℕ) (whole rest out₀ out : List ℕ) (at : ℕ) : Type 0 where
  pub done : List ℕ
  pub size : length done ≡ at
  pub sum : at + length rest ≡ length whole
  pub kept : length out ≡ length out₀
  pub room : length whole + extra ≤ length out₀
  pub holds : take at out ≡ done
  pub past : drop (at + spill) out ≡ drop (at + spill) out₀
  pub goes : done ++ rest ≡ whole

pub spilt-start : {spill extra : ℕ} (whole out : List ℕ) → length whole + extra ≤ length out → Spilt spill extra whole whole out out 0
spilt-start whole out h = record { done = []; size = refl; sum = omega arith; kept = refl; room = h; holds = refl; past = refl; goes = refl }

-- What is written so far stands there.
pub spilt-done : {spill extra : ℕ} {whole rest out₀ out : List ℕ} {at : ℕ} → Spilt spill extra whole rest out₀ out at → Spills spill (take at whole) out₀ out
spilt-done {spill} {extra} {whole} {rest} {out₀} {out} {at} f =
    let d : take at whole ≡ f.done = rw (← f.goes) (take_at f.done rest at f.size) in
    rw (d, f.size) (f.holds, f.past)

-- At the end that is the whole.
pub spilt-end : {spill extra : ℕ} {whole out₀ out : List ℕ} {at : ℕ} → Spilt spill extra whole [] out₀ out at → (at ≡ length whole) × Spills spill whole out₀ out
spilt-end {spill} {extra} {whole} {out₀} {out} {at} f =
    let n : at ≡ length whole = omega (arith, f.sum) in
    let d : f.done ≡ whole = sym (append-nil f.done) ∙ f.goes in
    (n, (rw n at (f.holds ∙ d), rw n at f.past))

-- Dropping further.
drop_more : (i k : ℕ) (s t : List ℕ) → i ≤ k → drop i s ≡ drop i t → drop k s ≡ drop k t
drop_more i k s t h e =
    let j : i + (k - i) ≡ k = omega arith in
    sym (drop-drop (k - i) i s ∙ ap (λ (n : ℕ). drop n s) j) ∙ ap (drop (k - i)) e ∙ drop-drop (k - i) i t ∙ ap (λ (n : ℕ). drop n t) j

module _ {spill extra : ℕ} {whole rest out₀ out : List ℕ} {at : ℕ} {w rest' : List ℕ} (f : Spilt spill extra whole rest out₀ out at) (e : Next rest w rest') (more : spill ≤ length rest' + extra) where
  -- What stands next is within the output, and what it spills.
  pub spilt-next : at + length w + spill ≤ length out₀
  spilt-next = omega (arith, f.sum, f.room, more, rw length-append at (ap length e.next))

  -- And has room in the part that is lent.
  pub spilt-room : length w + spill ≤ length (take (length out - at) (drop at out))
  spilt-room = rw (lent-rest, length-drop) (omega (arith, spilt-next, f.kept))

  -- What a writer left in the lent part, put back.
  pub spilt-put : (last : List ℕ) (n : ℕ) → n ≡ length w → length last ≡ length (take (length out - at) (drop at out)) → Spills spill w (take (length out - at) (drop at out)) last
      → Spilt spill extra whole rest' out₀ (take at out ++ (last ++ drop (length out - at) (drop at out))) (at + n)
  spilt-put last n h k s =
      let l : length (take at out) ≡ at = length-take-le at out (omega (arith, spilt-next, f.kept)) in
      let put : take at out ++ (last ++ drop (length out - at) (drop at out)) ≡ take at out ++ last =
      rw (drop_of_length-le (drop at out) {i = length out - at} (rw length-drop (omega arith)), append-nil) in
      let head : take (at + length w) (take at out ++ last) ≡ f.done ++ w =
      ap (λ (i : ℕ). take (i + length w) (take at out ++ last)) (sym l) ∙ take-append-add (take at out) last (length w) ∙ rw (f.holds, s.0) in
      let i : at + length w + spill ≡ length (take at out) + (length w + spill) = omega (arith, l) in
      let j : at + (length w + spill) ≡ at + length w + spill = omega arith in
      let tail : drop (at + length w + spill) (take at out ++ last) ≡ drop (at + length w + spill) out₀ =
      ap (λ (k : ℕ). drop k (take at out ++ last)) i ∙ drop-append-add (take at out) last (length w + spill) ∙ s.1
      ∙ ap (drop (length w + spill)) (lent-rest at out) ∙ drop-drop (length w + spill) at out ∙ ap (λ (k : ℕ). drop k out) j
      ∙ drop_more (at + spill) (at + length w + spill) out out₀ (omega arith) f.past in
      rw (put, h)
      (record {
        done = f.done ++ w;
        size = length-append f.done w ∙ rw f.size;
        sum = omega (arith, f.sum, rw length-append at (ap length e.next));
        kept = rw length-append (omega (arith, l, k, f.kept, ap length (lent-rest at out), length-drop at out, spilt-next));
        room = f.room;
        holds = head;
        past = tail;
        goes = append_assoc f.done w rest' ∙ rw (← e.next) f.goes;
      })

-- What is written exactly spills nothing.
pub put-spills : (spill : ℕ) (w out : List ℕ) → Spills spill w out (over w out)
put-spills spill w out = (take_at w (drop (length w) out) (length w) refl, drop-append-add w (drop (length w) out) spill ∙ drop-drop spill (length w) out)

-- Bytes v of which the first, w, count spill the others.
pub part-spills : (spill : ℕ) (w v out : List ℕ) → take (length w) v ≡ w → length w ≤ length v → length v ≤ length w + spill → Spills spill w out (over v out)
part-spills spill w v out e l k =
    let more = length w + spill - length v in
    let i : length w + spill ≡ length v + more = omega arith in (
      take-append-le (length w) v (drop (length v) out) l ∙ e,
      ap (λ (j : ℕ). drop j (over v out)) i ∙ drop-append-add v (drop (length v) out) more ∙ drop-drop more (length v) out ∙ ap (λ (j : ℕ). drop j out) (sym i),
    )

-- What comes next, at least as many bytes as are spilt, is written over these.
pub over-spilt : (spill : ℕ) (w v out₀ out last : List ℕ) (at : ℕ) → at ≡ length w → spill ≤ length v → Spills spill w out₀ out → last ≡ over v (take (length out - at) (drop at out))
    → take at out ++ (last ++ drop (length out - at) (drop at out)) ≡ over (w ++ v) out₀
over-spilt spill w v out₀ out last at n l s p =
    let i : at + length v ≡ length (w ++ v) = omega (arith, length-append w v) in
    let d : drop (length v) (drop at out) ≡ drop (length (w ++ v)) out₀ =
    drop-drop (length v) at out ∙ drop_more (length w + spill) (at + length v) out out₀ (omega arith) s.1 ∙ ap (λ (k : ℕ). drop k out₀) i in
    let t : take at out ≡ w = rw n s.0 in
    rw (drop_of_length-le (drop at out) {i = length out - at} (rw length-drop (omega arith)), append-nil, p, lent-rest, d, t)
    (sym (append_assoc w v (drop (length (w ++ v)) out₀)))
