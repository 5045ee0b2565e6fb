-- Copying ahead: of the bytes that are put only the first count, and a loop goes on with whatever lies behind them, as the output is as long as the result and
-- all of it is overwritten.
-- Assumes nothing.
use mathlib.Core.Path.{◌≡◌, refl, sym, ap, ◌∙◌, subst}
use mathlib.Core.List.{List, [], ◌∷◌, ◌++◌, append-nil, append_assoc}
use Prim.Native.Nat.{ℕ, zero, suc, ◌+◌, ◌-◌, ◌≤◌}
use native.Mathlib.Omega.{arith}
use lib.ListN.{length, take, drop, length-append, length-drop, drop_of_length-le, take-append-drop}
use lib.Seq.{drop_at, drop-drop, take-append_seam}
use Rattle.rules.specs.Bytes.{over}
use Rattle.base.proofs.Filled.{Filled, Next, lent-rest, filled-start, filled_put, filled-end}
use Rattle.base.proofs.Counted.{filled_within}

take_left : (n : ℕ) (w r : List ℕ) → n ≤ length w → take n (w ++ r) ≡ take n w
take_left zero w r h = refl
take_left (suc n) [] r h = absurd (omega arith)
take_left (suc n) (b ∷ w) r h = ap (λ (l : List ℕ). b ∷ l) (take_left n w r (omega arith))

take-take : (n m : ℕ) (l : List ℕ) → n ≤ m → take n (take m l) ≡ take n l
take-take zero m l h = refl
take-take (suc n) zero l h = absurd (omega arith)
take-take (suc n) (suc m) [] h = refl
take-take (suc n) (suc m) (b ∷ l) h = ap (λ (l : List ℕ). b ∷ l) (take-take n m l (omega arith))

-- The first n of m bytes that were put.
pub head-put : (n m : ℕ) (l out : List ℕ) → n ≤ m → n ≤ length (take m l) → take n (over (take m l) out) ≡ take n l
head-put n m l out h k = take_left n (take m l) (drop (length (take m l)) out) k ∙ take-take n m l h

pub size-put : (w out : List ℕ) → length w ≤ length out → length (over w out) ≡ length out
size-put w out h = length-append w (drop (length w) out) ∙ omega (arith, length-drop (length w) out)

-- An output as a writer that was lent its part from `at` on left it.
abbrev pub with-last : ℕ → List ℕ → List ℕ → List ℕ
with-last at out last = take at out ++ (last ++ drop (length out - at) (drop at out))

none_left : (at : ℕ) (out : List ℕ) → drop (length out - at) (drop at out) ≡ []
none_left at out = drop_of_length-le (drop at out) {i = length out - at} (rw length-drop (omega arith))

-- What is written so far can be read off the output itself.
pub filled-self : {whole rest out₀ out : List ℕ} {at : ℕ} → Filled whole rest out₀ out at → Filled whole rest out out at
filled-self {whole} {rest} {out₀} {out} {at} f =
    let d : drop at out ≡ drop at out₀ = rw f.holds (drop_at f.done (drop at out₀) at f.size) in
    record {
      done = f.done;
      size = f.size;
      sum = f.sum;
      kept = refl;
      room = omega (arith, f.room, f.kept);
      holds = f.holds ∙ ap (λ (r : List ℕ). f.done ++ r) (sym d);
      goes = f.goes;
    }

-- A writer put w, which stands next, and then anything.
module _ {whole rest out₀ out : List ℕ} {at : ℕ} {w rest' : List ℕ} (f : Filled whole rest out₀ out at) (e : Next rest w rest') (last : List ℕ)
    (l : length last ≡ length (take (length out - at) (drop at out))) where
  head : take at out ≡ f.done
  head = ap (take at) f.holds ∙ subst (λ (k : ℕ). take k (f.done ++ drop at out₀) ≡ f.done) f.size (take-append_seam f.done (drop at out₀))

  all_of : with-last at out last ≡ f.done ++ last
  all_of = rw (head, none_left, append-nil)

  pub ahead-size : length (with-last at out last) ≡ length out
  ahead-size = ap length all_of ∙ length-append f.done last ∙ omega (arith, f.size, l, ap length (lent-rest at out), length-drop at out, filled_within f)

  pub filled-ahead : (n : ℕ) → n ≡ length w → take n last ≡ w → Filled whole rest' (with-last at out last) (with-last at out last) (at + n)
  filled-ahead n h t =
      subst (λ (o : List ℕ). Filled whole rest' o o (at + n)) (sym all_of)
      (record {
        done = f.done ++ w;
        size = length-append f.done w ∙ omega (arith, f.size, h);
        sum = omega (arith, f.sum, h, ap length e.next, length-append w rest');
        kept = refl;
        room = omega (arith, f.room, f.kept, ap length all_of, ahead-size);
        holds = holding;
        goes = append_assoc f.done w rest' ∙ ap (λ (r : List ℕ). f.done ++ r) (sym e.next) ∙ f.goes;
      })
    where
      holding : f.done ++ last ≡ (f.done ++ w) ++ drop (at + n) (f.done ++ last)
      holding =
          ap (λ (x : List ℕ). f.done ++ x) (sym (take-append-drop n last) ∙ ap (λ (x : List ℕ). x ++ drop n last) t)
          ∙ sym (append_assoc f.done w (drop n last))
          ∙ ap (λ (x : List ℕ). (f.done ++ w) ++ x) (sym (sym (drop-drop n at (f.done ++ last)) ∙ ap (drop n) (drop_at f.done last at f.size)))

pub as_long_lem : {n m : ℕ} → n ≡ m → n ≤ m
as_long_lem e = omega arith

-- An output as long as the result is the result in the end.
pub filled-exact : {whole rest out₀ out : List ℕ} {at : ℕ} → Filled whole rest out₀ out at → rest ≡ [] → length whole ≡ length out → out ≡ whole
filled-exact {whole} {rest} {out₀} {out} {at} f e l =
    filled-end (subst (λ (r : List ℕ). Filled whole r out₀ out at) e f) ∙ ap (λ (r : List ℕ). whole ++ r) (drop_of_length-le out₀ {i = length whole} (omega (arith, l, f.kept))) ∙ append-nil whole

-- ---- an output that is as long as the result

-- So much of the result is written, and whatever lies behind it.
pub record Exact (whole rest out : List ℕ) (at : ℕ) : Type 0 where
  pub filled : Filled whole rest out out at
  pub long : length whole ≡ length out

pub exact-start : (whole out : List ℕ) → length whole ≡ length out → Exact whole whole out 0
exact-start whole out e = record { filled = filled-start whole out (as_long_lem e); long = e }

-- What stands next is put, with whatever lies behind it, or alone.
module _ {whole rest out : List ℕ} {at : ℕ} {w rest' : List ℕ} (f : Exact whole rest out at) (e : Next rest w rest') (last : List ℕ) (n : ℕ) (h : n ≡ length w) where
  pub exact-ahead : length last ≡ length (take (length out - at) (drop at out)) → take n last ≡ w → Exact whole rest' (with-last at out last) (at + n)
  exact-ahead l t = record { filled = filled-ahead f.filled e last l n h t; long = f.long ∙ sym (ahead-size f.filled e last l) }

  pub exact-put : last ≡ w ++ drop (length w) (take (length out - at) (drop at out)) → Exact whole rest' (with-last at out last) (at + n)
  exact-put p = let g = filled_put f.filled e last n h p in record { filled = filled-self g; long = f.long ∙ sym g.kept }

-- In the end it is the result.
pub exact-end : {whole rest out : List ℕ} {at : ℕ} → Exact whole rest out at → rest ≡ [] → out ≡ whole
exact-end f e = filled-exact f.filled e f.long

-- What is left has the length of the part that is lent, and may be put there at once.
module _ {whole rest out : List ℕ} {at : ℕ} (f : Exact whole rest out at) where
  pub exact-rest : length rest ≡ length (take (length out - at) (drop at out))
  exact-rest = omega (arith, f.filled.sum, f.long, ap length (lent-rest at out), length-drop at out)

  pub exact-last : (last : List ℕ) → last ≡ rest → with-last at out last ≡ whole
  exact-last last e =
      let none : drop (length rest) (take (length out - at) (drop at out)) ≡ [] = drop_of_length-le (take (length out - at) (drop at out)) {i = length rest} (omega (arith, exact-rest)) in
      exact-end (exact-put {w = rest} {rest' = []} f (record { next = sym (append-nil rest) }) last (length rest) refl (e ∙ sym (append-nil rest) ∙ ap (λ (r : List ℕ). rest ++ r) (sym none))) refl
