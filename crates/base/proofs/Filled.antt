-- An output that is being filled, for every writing loop: `whole` is what is to be written, `rest` what is left of it, `out₀` the output at the
-- start, `out` the output now and `at` the fill position. What is written so far, with what is left, is the whole. Assumes nothing.
use mathlib.Core.Path.{◌≡◌, refl, sym, ap, ◌∙◌}
use mathlib.Core.List.{List, [], ◌++◌, append_assoc, append-nil}
use Prim.Native.Nat.{ℕ, ◌+◌, ◌-◌, ◌≤◌}
use native.Mathlib.Omega.{arith}
use lib.ListN.{length, take, drop, length-append, length-drop, drop_of_length-le}
use lib.Seq.{take_at, drop_at, drop-drop, take_all}

-- `sum`, `kept` and `room` follow from the others, and stand here so that `omega` and `search needs` find them
pub record Filled (whole rest out₀ out : List ℕ) (at : ℕ) : Type 0 where
  pub done : List ℕ
  pub size : length done ≡ at
  pub sum : at + length rest ≡ length whole
  pub kept : length out ≡ length out₀
  pub room : length whole ≤ length out₀
  pub holds : out ≡ done ++ drop at out₀
  pub goes : done ++ rest ≡ whole

-- what is left is w, and then rest'. A record, so that w and rest' need not be written where it is handed on
pub record Next (rest w rest' : List ℕ) : Type 0 where
  pub next : rest ≡ w ++ rest'

pub filled-start : (whole out : List ℕ) → length whole ≤ length out → Filled whole whole out out 0
filled-start whole out h = record { done = []; size = refl; sum = omega arith; kept = refl; room = h; holds = refl; goes = refl }

-- w is written into the unfilled rest of the output
pub filled_more : {whole rest out₀ out : List ℕ} {at : ℕ} (w rest' out' : List ℕ) → Filled whole rest out₀ out at → rest ≡ w ++ rest' → out' ≡ take at out ++ (w ++ drop (length w) (drop at out)) → Filled whole rest' out₀ out' (at + length w)
filled_more {whole} {rest} {out₀} {out} {at} w rest' out' f e p =
    let d : drop at out ≡ drop at out₀ = rw f.holds (drop_at f.done (drop at out₀) at f.size) in
    let t : take at out ≡ f.done = rw f.holds (take_at f.done (drop at out₀) at f.size) in
    let h : out' ≡ (f.done ++ w) ++ drop (at + length w) out₀ = p ∙ rw (d, t, drop-drop, append_assoc) in
    let n : length (f.done ++ w) ≡ at + length w = length-append f.done w ∙ rw f.size in
    let s : at + length w + length rest' ≡ length whole = omega (arith, f.sum, rw length-append at (ap length e)) in
    record {
      done = f.done ++ w;
      size = n;
      sum = s;
      kept = omega (arith, rw (length-append, length-drop) at (ap length h), n, s, f.room);
      room = f.room;
      holds = h;
      goes = append_assoc f.done w rest' ∙ rw (← e) f.goes;
    }

-- the part that is lent, from `at` on, is the unfilled rest
pub lent-rest : (at : ℕ) (out : List ℕ) → take (length out - at) (drop at out) ≡ drop at out
lent-rest at out = take_all (length out - at) (drop at out) (rw length-drop (omega arith))

module _ {whole rest out₀ out : List ℕ} {at : ℕ} {w rest' : List ℕ} (f : Filled whole rest out₀ out at) (e : Next rest w rest') where
  -- what stands next is within the output
  pub filled_next : at + length w ≤ length out₀
  filled_next = omega (arith, f.sum, f.room, rw length-append at (ap length e.next))

  -- and has room in the part that is lent
  pub filled-room : length w ≤ length (take (length out - at) (drop at out))
  filled-room = rw (lent-rest, length-drop) (omega (arith, filled_next, f.kept))

  -- what a writer left in the lent part, put back
  pub filled_put : (last : List ℕ) (n : ℕ) → n ≡ length w → last ≡ w ++ drop (length w) (take (length out - at) (drop at out)) → Filled whole rest' out₀ (take at out ++ (last ++ drop (length out - at) (drop at out))) (at + n)
  filled_put last n h p =
      rw h (filled_more w rest' _ f e.next (rw (p, lent-rest, drop_of_length-le (drop at out) {i = length out - at} (rw length-drop (omega arith)), append-nil)))

pub filled-end : {whole out₀ out : List ℕ} {at : ℕ} → Filled whole [] out₀ out at → out ≡ whole ++ drop (length whole) out₀
filled-end {whole} {out₀} {out} {at} f =
    let n : at ≡ length whole = omega (arith, f.sum) in
    let d : f.done ≡ whole = sym (append-nil f.done) ∙ f.goes in
    f.holds ∙ rw (n, d)
