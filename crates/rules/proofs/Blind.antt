-- A rule that does not look at the byte before: its moves from a place on are those through the rest, and a text may be gone through in parts.
-- Assumes nothing.
use mathlib.Core.Path.{◌≡◌, refl, sym, ap, ◌∙◌}
use mathlib.Core.List.{List, [], ◌∷◌, ◌++◌, append_assoc}
use Prim.Native.Nat.{ℕ, zero, suc, pred, ◌+◌, ◌≤◌, ◌<◌}
use native.Mathlib.Nat.{not-suc-le-zero, le_of_suc-le-suc}
use native.Mathlib.Omega.{arith}
use lib.ListN.{length, drop, get_or}
use lib.Seq.{drop-drop}
use Rattle.rules.specs.Moves.{Move, keep, swap, leave, stop, takes, gives, Rule, and_then, moves, through, result, replaced}
use Rattle.rules.proofs.Machine.{and-then}
use Rattle.rules.proofs.Loops.{drop-next}

-- The rule does not look at the byte before.
abbrev pub Blind : Rule → Type 0
Blind rule = (p q : ℕ) (s : List ℕ) → rule p s ≡ rule q s

pub result-append : (ms ns : List Move) → result (ms ++ ns) ≡ result ms ++ result ns
result-append [] ns = refl
result-append (m ∷ ms) ns = ap (λ (s : List ℕ). gives m ++ s) (result-append ms ns) ∙ sym (append_assoc (gives m) (result ms) (result ns))

pub replaced-append : (ms ns : List Move) → replaced (ms ++ ns) ≡ replaced ms + replaced ns
replaced-append [] ns = omega arith
replaced-append (keep a ∷ ms) ns = replaced-append ms ns
replaced-append (swap a b ∷ ms) ns = omega (arith, replaced-append ms ns)
replaced-append (leave r a ∷ ms) ns = replaced-append ms ns
replaced-append (stop w ∷ ms) ns = replaced-append ms ns

-- At the head of s, where b follows it, the rule makes the move that it makes where nothing does, and this takes some bytes of s.
abbrev pub Local : Rule → List ℕ → List ℕ → Type 0
Local rule s b = (rule 0 (s ++ b) ≡ rule 0 s) × (k : ℕ) × (length (takes (rule 0 s)) ≡ suc k) × (suc k ≤ length s)

-- So it is at every place of a, where b follows: nothing lies across the place between them.
abbrev pub Parted : Rule → List ℕ → List ℕ → Type 0
Parted rule [] b = Unit {0}
Parted rule (x ∷ a) b = Local rule (x ∷ a) b × Parted rule a b

module _ (rule : Rule) (blind : Blind rule) where
  -- Its moves from any place on are those through the rest.
  pub blind-moves : (p k : ℕ) (s : List ℕ) → moves rule p k s ≡ through rule (drop k s)
  blind-moves p zero [] = refl
  blind-moves p zero (x ∷ s) = ap (λ (m : Move). and_then m (moves rule x (pred (length (takes m))) s)) (blind p 0 (x ∷ s))
  blind-moves p (suc k) [] = refl
  blind-moves p (suc k) (x ∷ s) = blind-moves x k s

  -- One move, and then the moves through what it leaves.
  pub blind-next : (x : ℕ) (s : List ℕ) (k : ℕ) (m : Move) → rule 0 (x ∷ s) ≡ m → length (takes m) ≡ suc k → through rule (x ∷ s) ≡ m ∷ through rule (drop k s)
  blind-next x s k m e z = rw (e, z) (ap (and_then m) (blind-moves x k s) ∙ and-then m k (through rule (drop k s)) z)

  -- The same at a place of a text.
  pub blind-at : (t : List ℕ) (i n : ℕ) (m : Move) → i < length t → rule 0 (drop i t) ≡ m → length (takes m) ≡ n → 0 < n
      → through rule (drop i t) ≡ m ∷ through rule (drop (i + n) t)
  blind-at t i zero m h e z p = absurd (not-suc-le-zero p)
  blind-at t i (suc k) m h e z p =
      let d = drop-next t i h in
      let a : i + 1 + k ≡ i + suc k = omega arith in
      let l : drop k (drop (i + 1) t) ≡ drop (i + suc k) t = rw (drop-drop, a) in
      rw (d, ← l) (blind-next (get_or t i 0) (drop (i + 1) t) k m (rw d at e) z)

  -- What is written for the rest of a text: what the move there gives, and then what is written for what it leaves.
  pub blind-result : (t : List ℕ) (i n : ℕ) (m : Move) → i < length t → rule 0 (drop i t) ≡ m → length (takes m) ≡ n → 0 < n
      → result (through rule (drop i t)) ≡ gives m ++ result (through rule (drop (i + n) t))
  blind-result t i n m h e z p = ap result (blind-at t i n m h e z p)

  parted-moves : (p k : ℕ) (a b : List ℕ) → k ≤ length a → Parted rule a b → moves rule p k (a ++ b) ≡ moves rule p k a ++ through rule b
  parted-moves p zero [] b h f = blind-moves p 0 b
  parted-moves p (suc k) [] b h f = absurd (not-suc-le-zero h)
  parted-moves p (suc k) (x ∷ a) b h f = parted-moves x k a b (le_of_suc-le-suc h) f.1
  parted-moves p zero (x ∷ a) b h f =
      let (e, k, z, w) = f.0 in
      let m = rule 0 (x ∷ a) in
      let q : rule p (x ∷ a) ≡ m = blind p 0 (x ∷ a) in
      let r : rule p (x ∷ (a ++ b)) ≡ m = blind p 0 (x ∷ (a ++ b)) ∙ e in
      rw (r, q, z)
      (ap (and_then m) (parted-moves x k a b (le_of_suc-le-suc w) f.1)
      ∙ and-then m k (moves rule x k a ++ through rule b) z
      ∙ ap (λ (ms : List Move). ms ++ through rule b) (sym (and-then m k (moves rule x k a) z)))

  -- What is written for two such parts.
  pub parted-result : (a b : List ℕ) → Parted rule a b → result (through rule (a ++ b)) ≡ result (through rule a) ++ result (through rule b)
  parted-result a b f = ap result (parted-moves 0 0 a b (omega arith) f) ∙ result-append (through rule a) (through rule b)

  -- And how many places of them are replaced.
  pub parted-replaced : (a b : List ℕ) → Parted rule a b → replaced (through rule (a ++ b)) ≡ replaced (through rule a) + replaced (through rule b)
  parted-replaced a b f = ap replaced (parted-moves 0 0 a b (omega arith) f) ∙ replaced-append (through rule a) (through rule b)
