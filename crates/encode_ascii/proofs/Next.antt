-- What is written for the next character: above 7F the reference that the rule gives, below what `quoted` writes, which is computed for every ASCII byte.
-- Assumes nothing.
use mathlib.Core.Bool.{Bool, true, false, not, ◌&&◌, cond}
use mathlib.Core.Logic.{inl, inr}
use mathlib.Core.Option.{none, some}
use mathlib.Core.Path.{◌≡◌, refl, sym, ap, ◌∙◌, subst}
use mathlib.Core.List.{List, [], ◌∷◌, append-nil}
use Prim.Native.Nat.{ℕ, ◌+◌, ◌≤◌, ◌<◌}
use native.Mathlib.Omega.{arith}
use lib.Dec.{T, eqb, leb, eqb→eq, le→leb}
use lib.ListN.{length, drop, get_or, length-drop}
use Rattle.rules.specs.Bytes.{same_bytes, inside}
use Rattle.rules.specs.Moves.{swap, result, replaced, through}
use Rattle.rules.specs.Utf8.{IsChar, char_at, utf8}
use Rattle.rules.specs.Ascii.{is_high, refer_to}
use Rattle.rules.specs.Encoding.{encode_step}
use Rattle.rules.specs.Operations.{encode_of}
use Rattle.rules.specs.declared.Context.TheVariants.{InAscii}
use Rattle.rules.proofs.Tests.{and_left, and_right, and_both, same_bytes_lem}
use Rattle.rules.proofs.Below.{below}
use Rattle.rules.proofs.Loops.{drop-next}
use Rattle.rules.proofs.Encoder.{encode-moves}
use Rattle.rules.proofs.Ascii.{high-char}
use Rattle.names_written.specs.Ties.{Puts, is_empty}
use Rattle.encode_ascii.specs.declared.characters.Character.{Character}
use Rattle.encode_ascii.specs.Wide.{Reads, quoted_unit, PutsNext}
use Rattle.encode_ascii.proofs.Heads.{head-is}

-- ---- above 7F

-- Alone a character gives way to its reference.
alone : (a : List ℕ) → T (is_high a) → through (encode_step InAscii) a ≡ swap a (refer_to a) ∷ []
alone a h =
    ap (through (encode_step InAscii)) (sym (append-nil a))
    ∙ encode-moves InAscii (swap (refer_to a) a ∷ []) (inr (by (is_high a) h), tt)
  where
    by : (b : Bool) → T b → cond b (some (refer_to a)) none ≡ some (refer_to a)
    by true t = refl
    by false t = absurd t

pub high-put : (s : List ℕ) (c : Character) → Reads s c → (r : ℕ) (x y : List ℕ) → Puts (refer_to (utf8 c.code)) r x y → r ≤ 22
    → PutsNext s (record { written = r; width = c.width; replaced = 1 }) x y
high-put s c q r x y p h =
    let a = char_at s in
    let e : refer_to (utf8 c.code) ≡ encode_of InAscii a = ap refer_to q.0 ∙ sym (ap result (alone a q.2) ∙ append-nil (refer_to a)) in
    (subst (λ (w : List ℕ). Puts w r x y) e p, h, q.1, sym (ap replaced (alone a q.2)), omega (arith, q.1, (high-char a q.2).1), q.5, omega arith)

-- ---- ASCII

-- An ASCII byte is a character.
pub low-char : (b : ℕ) → b < 128 → IsChar (b ∷ [])
low-char b h = ((0x00, 0x7F) ∷ [], inl refl, and_both (inside (0x00, 0x7F) b) true (and_both (leb 0 b) (leb b 0x7F) (le→leb 0 b (omega arith)) (le→leb b 0x7F (omega arith))) tt, refl)

-- What is written for an ASCII character: what `quoted` replaces it by, if it does, else the character.
abbrev lowly : ℕ → List ℕ
lowly b = cond (is_empty (quoted_unit b)) (b ∷ []) (quoted_unit b)

abbrev is_low : ℕ → Bool
is_low b =
    same_bytes (encode_of InAscii (b ∷ [])) (lowly b)
    && (eqb (replaced (through (encode_step InAscii) (b ∷ []))) (cond (is_empty (quoted_unit b)) 0 1) && not (eqb (length (quoted_unit b)) 1))

low-checked : (b : ℕ) → b < 128 → T (is_low b)
unfolding encode_step
low-checked b h = below is_low 128 tt b h

module _ (b : ℕ) (h : b < 128) where
  wrote : encode_of InAscii (b ∷ []) ≡ lowly b
  wrote = same_bytes_lem (encode_of InAscii (b ∷ [])) (lowly b) (and_left (same_bytes (encode_of InAscii (b ∷ [])) (lowly b)) _ (low-checked b h))

  counts : replaced (through (encode_step InAscii) (b ∷ [])) ≡ cond (is_empty (quoted_unit b)) 0 1
  counts = eqb→eq _ _ (and_left (eqb (replaced (through (encode_step InAscii) (b ∷ []))) (cond (is_empty (quoted_unit b)) 0 1)) (not (eqb (length (quoted_unit b)) 1)) (and_right (same_bytes (encode_of InAscii (b ∷ [])) (lowly b)) _ (low-checked b h)))

  longer : T (not (eqb (length (quoted_unit b)) 1))
  longer = and_right (eqb (replaced (through (encode_step InAscii) (b ∷ []))) (cond (is_empty (quoted_unit b)) 0 1)) _ (and_right (same_bytes (encode_of InAscii (b ∷ [])) (lowly b)) _ (low-checked b h))

  -- Where `quoted` has nothing for it, it is copied.
  pub low-copied : length (quoted_unit b) ≡ 0 → (encode_of InAscii (b ∷ []) ≡ b ∷ []) × (replaced (through (encode_step InAscii) (b ∷ [])) ≡ 0) × (quoted_unit b ≡ [])
  low-copied e = go (quoted_unit b) e wrote counts
    where
      go : (u : List ℕ) → length u ≡ 0 → encode_of InAscii (b ∷ []) ≡ cond (is_empty u) (b ∷ []) u → replaced (through (encode_step InAscii) (b ∷ [])) ≡ cond (is_empty u) 0 1
          → (encode_of InAscii (b ∷ []) ≡ b ∷ []) × (replaced (through (encode_step InAscii) (b ∷ [])) ≡ 0) × (u ≡ [])
      go [] z w c = (w, c, refl)
      go (x ∷ u) z w c = absurd (let f : ⊥ = omega arith in f)

  -- Otherwise that is written, and it is longer than a byte.
  pub low-replaced : (length (quoted_unit b) ≡ 0 → ⊥)
      → (encode_of InAscii (b ∷ []) ≡ quoted_unit b) × (replaced (through (encode_step InAscii) (b ∷ [])) ≡ cond (eqb (length (quoted_unit b)) 1) 0 1)
  low-replaced n = go (quoted_unit b) n wrote counts longer
    where
      one : (x : Bool) → T (not x) → ◌≡◌ {A = ℕ} 1 (cond x 0 1)
      one true t = absurd t
      one false t = refl

      go : (u : List ℕ) → (length u ≡ 0 → ⊥) → encode_of InAscii (b ∷ []) ≡ cond (is_empty u) (b ∷ []) u → replaced (through (encode_step InAscii) (b ∷ [])) ≡ cond (is_empty u) 0 1
          → T (not (eqb (length u) 1)) → (encode_of InAscii (b ∷ []) ≡ u) × (replaced (through (encode_step InAscii) (b ∷ [])) ≡ cond (eqb (length u) 1) 0 1)
      go [] n w c l = absurd (n refl)
      go (x ∷ u) n w c l = (w, c ∙ one (eqb (length (x ∷ u)) 1) l)

pub low-put : (t : List ℕ) (at : ℕ) → at < length t → get_or t at 0 < 128 → (n m : ℕ) (x y : List ℕ) → Puts (encode_of InAscii (get_or t at 0 ∷ [])) n x y → n ≤ 22
    → replaced (through (encode_step InAscii) (get_or t at 0 ∷ [])) ≡ cond (eqb n 1) 0 1 → m ≡ cond (eqb n 1) 0 1
    → PutsNext (drop at t) (record { written = n; width = 1; replaced = m }) x y
low-put t at l h n m x y p most k e =
    let b = get_or t at 0 in
    let head : drop at t ≡ b ∷ drop (at + 1) t = drop-next t at l in
    let a : char_at (drop at t) ≡ b ∷ [] = head-is (drop at t) (b ∷ []) (drop (at + 1) t) (low-char b h) head in
    let few : m ≤ 1 = subst (λ (j : ℕ). j ≤ 1) (sym e) (cases (eqb n 1)) in (
      subst (λ (w : List ℕ). Puts (encode_of InAscii w) n x y) (sym a) p,
      most,
      sym (ap length a),
      e ∙ sym k ∙ ap (λ (w : List ℕ). replaced (through (encode_step InAscii) w)) (sym a),
      omega arith,
      omega (arith, length-drop at t),
      few,
    )
  where
    cases : (x : Bool) → cond x 0 1 ≤ 1
    cases true = omega arith
    cases false = omega arith
