-- The moves of a place through some bytes: no place looks at the byte before, and where each move is settled by what is left of the bytes, the moves
-- through them do not depend on what follows.
-- Assumes nothing.
use mathlib.Core.Bool.{Bool, true, false, ◌&&◌}
use mathlib.Core.Path.{◌≡◌, refl, sym, ap, ◌∙◌}
use mathlib.Core.List.{List, [], ◌∷◌, ◌++◌, append_assoc}
use Prim.Native.Nat.{ℕ, zero, suc, pred}
use lib.Dec.{T}
use lib.ListN.{length}
use Rattle.rules.specs.Moves.{Move, keep, swap, leave, stop, takes, gives, and_then, moves, through, taken, result}
use Rattle.rules.proofs.Tests.{and_left, and_right}
use Rattle.rules.proofs.Machine.{Makes, one-move}
use Rattle.places.specs.Places.{Place, place_step}
use Rattle.contained.proofs.Settled.{settled, step-settled}

-- ---- the byte before does not count

pub prev-free : (p : Place) (q k : ℕ) (s : List ℕ) → moves (place_step p) q k s ≡ moves (place_step p) 0 k s
unfolding place_step
prev-free p q zero [] = refl
prev-free p q (suc k) [] = refl
prev-free p q zero (b ∷ s) = refl
prev-free p q (suc k) (b ∷ s) = refl

pub step-free : (p : Place) (q x : ℕ) (s : List ℕ) → place_step p q (x ∷ s) ≡ place_step p 0 (x ∷ s)
unfolding place_step
step-free p q x s = refl

-- ---- one move and then the rest

-- A move that is no stop.
abbrev pub goes : Move → Bool
goes (keep a) = true
goes (swap a b) = true
goes (leave r a) = true
goes (stop w) = false

pub then_append : (m : Move) (ms ns : List Move) → T (goes m) → and_then m (ms ++ ns) ≡ and_then m ms ++ ns
then_append (keep a) ms ns t = refl
then_append (swap a b) ms ns t = refl
then_append (leave r a) ms ns t = refl
then_append (stop w) ms ns t = absurd t

pub taken_then : (m : Move) (ms : List Move) → T (goes m) → taken (and_then m ms) ≡ takes m ++ taken ms
taken_then (keep a) ms t = refl
taken_then (swap a b) ms t = refl
taken_then (leave r a) ms t = refl
taken_then (stop w) ms t = absurd t

pub result-append : (ms ns : List Move) → result (ms ++ ns) ≡ result ms ++ result ns
result-append [] ns = refl
result-append (m ∷ ms) ns = ap (λ (s : List ℕ). gives m ++ s) (result-append ms ns) ∙ sym (append_assoc (gives m) (result ms) (result ns))

-- A move that the rule makes before r, and then the moves through r.
pub made-first : (p : Place) (q : ℕ) (m : Move) (r : List ℕ) → Makes (place_step p) m r → moves (place_step p) q 0 (takes m ++ r) ≡ m ∷ moves (place_step p) 0 0 r
made-first p q m r makes = (one-move (place_step p) q m r makes).1 ∙ ap (λ (ms : List Move). m ∷ ms) (prev-free p (one-move (place_step p) q m r makes).0 0 r)

-- One byte, and then the rest.
pub one_byte : (p : Place) (q b : ℕ) (s : List ℕ) → takes (place_step p 0 (b ∷ s)) ≡ b ∷ [] → moves (place_step p) q 0 (b ∷ s) ≡ place_step p 0 (b ∷ s) ∷ moves (place_step p) 0 0 s
one_byte p q b s e =
    let m = place_step p 0 (b ∷ s) in
    ap (λ (a : List ℕ). moves (place_step p) q 0 (a ++ s)) (sym e) ∙ made-first p q m s (0, ap length e, λ q. ap (λ (a : List ℕ). place_step p q (a ++ s)) e ∙ step-free p q b s)

-- ---- through settled bytes

-- Through v each move is settled by what is left of v, none is a stop, and the last ends where v ends; k bytes of v belong to the move before.
abbrev pub steady : Place → ℕ → List ℕ → Bool
steady p zero [] = true
steady p (suc k) [] = false
steady p (suc k) (b ∷ v) = steady p k v
steady p zero (b ∷ v) = settled p (b ∷ v) && (goes (place_step p 0 (b ∷ v)) && steady p (pred (length (takes (place_step p 0 (b ∷ v))))) v)

pub steady-moves : (p : Place) (q k : ℕ) (v r : List ℕ) → T (steady p k v) → moves (place_step p) q k (v ++ r) ≡ moves (place_step p) q k v ++ moves (place_step p) 0 0 r
steady-moves p q zero [] r t = prev-free p q 0 r
steady-moves p q (suc k) [] r t = absurd t
steady-moves p q (suc k) (b ∷ v) r t = steady-moves p b k v r t
steady-moves p q zero (b ∷ v) r t =
    let m = place_step p 0 (b ∷ v) in
    let rest = steady p (pred (length (takes m))) v in
    let s = and_left (settled p (b ∷ v)) (goes m && rest) t in
    let u = and_right (settled p (b ∷ v)) (goes m && rest) t in
    prev-free p q 0 (b ∷ (v ++ r))
    ∙ ap (λ (n : Move). and_then n (moves (place_step p) b (pred (length (takes n))) (v ++ r))) (step-settled p 0 (b ∷ v) r s)
    ∙ ap (and_then m) (steady-moves p b (pred (length (takes m))) v r (and_right (goes m) rest u))
    ∙ then_append m (moves (place_step p) b (pred (length (takes m))) v) (moves (place_step p) 0 0 r) (and_left (goes m) rest u)
    ∙ ap (λ (ms : List Move). ms ++ moves (place_step p) 0 0 r) (sym (prev-free p q 0 (b ∷ v)))

-- ---- where the place is left

abbrev halts : Move → Bool
halts (keep a) = false
halts (swap a b) = false
halts (leave r a) = false
halts (stop w) = true

-- These bytes leave the place, whatever follows them.
abbrev pub leaves_at : Place → List ℕ → Bool
leaves_at p end = settled p end && halts (place_step p 0 end)

pub left_there : (p : Place) (end r : List ℕ) → T (leaves_at p end) → through (place_step p) (end ++ r) ≡ []
left_there p [] r t = absurd t
left_there p (b ∷ w) r t =
    let m = place_step p 0 (b ∷ w) in
    ap (λ (n : Move). and_then n (moves (place_step p) b (pred (length (takes n))) (w ++ r))) (step-settled p 0 (b ∷ w) r (and_left (settled p (b ∷ w)) (halts m) t))
    ∙ go m (and_right (settled p (b ∷ w)) (halts m) t)
  where
    go : (m : Move) → T (halts m) → and_then m (moves (place_step p) b (pred (length (takes m))) (w ++ r)) ≡ []
    go (keep a) h = absurd h
    go (swap a b) h = absurd h
    go (leave x a) h = absurd h
    go (stop w) h = refl
