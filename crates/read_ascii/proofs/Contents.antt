-- The moves of the strict reader of ascii_quoted: a plain byte is kept, and where neither a plain character nor a unit stands it stops.
-- Assumes nothing.
use mathlib.Core.Bool.{Bool, true, false, not, ◌||◌, cond}
use mathlib.Core.Logic.{◌⊎◌, inl, inr}
use mathlib.Core.Option.{none, some}
use mathlib.Core.Path.{◌≡◌, refl, sym, ap, ◌∙◌, subst}
use mathlib.Core.List.{List, [], ◌∷◌, ◌++◌}
use Prim.Native.Nat.{ℕ, ◌+◌, ◌≤◌, ◌<◌}
use native.Mathlib.Omega.{arith}
use lib.Dec.{T, eqb, leb, ltb, eqb→eq, eqb_refl, leb→le, le→leb, ltb→lt, T_not}
use lib.ListN.{length, drop, get_or, length-drop}
use Rattle.rules.specs.Bytes.{all, any, same_bytes, inside}
use Rattle.rules.specs.Moves.{Move, keep, swap, leave, stop, before, through, first_left, first_of}
use Rattle.rules.specs.Utf8.{IsChar, utf8}
use Rattle.rules.specs.Tables.{Row, value, rows, replaced_chars}
use Rattle.rules.specs.Units.{IsUnit}
use Rattle.rules.specs.Ascii.{is_high, by_rule, refer_to}
use Rattle.rules.specs.Reading.{read_step}
use Rattle.rules.specs.declared.Escape.{Escape}
use Rattle.std.specs.Prelude.{Some}
use Rattle.rules.specs.declared.Context.TheVariants.{InAscii}
use Rattle.rules.proofs.Tests.{and_left, and_both, or_cases, or_left, or_right, all_in, in-same, same_in, is_false}
use Rattle.rules.proofs.Chars.{sequence-pos}
use Rattle.rules.proofs.Tables.{bar-stops}
use Rattle.rules.proofs.Every.{values-code}
use Rattle.rules.proofs.Machine.{Fair}
use Rattle.rules.proofs.Loops.{drop-next}
use Rattle.rules.proofs.EveryByte.{every_byte_lem}
use Rattle.rules.proofs.Reasons.{no-lefts, read-leaveless}
use Rattle.rules.proofs.Below.{agree, agrees}
use Rattle.rules.proofs.Ascii.{is_ascii, rule-high}
use Rattle.rules.proofs.AsciiWritten.{char-low}
use Rattle.rules.proofs.Reader.{context-reads}
use Rattle.base.specs.First.{First}
use Rattle.rules.proofs.Quiet.{Keeps}
use Rattle.read_ascii.specs.Units.{is_halt, halt_at, Tells}

-- The test of a byte, as the code has it.
abbrev test : ℕ → Bool
test b = leb 128 b || eqb b 38 || eqb b 60 || eqb b 62 || eqb b 34 || eqb b 39

pub halt-test : (b : ℕ) → b < 256 → test b ≡ is_halt b
halt-test b h = agrees (test b) (is_halt b) (every_byte_lem (λ (b : ℕ). agree (test b) (is_halt b)) tt b h)

-- ---- a plain byte

abbrev pub U : Move → Type 0
U = IsUnit InAscii (rows InAscii)

-- A byte alone is no character above 7F.
single-low : (b : ℕ) → b < 256 → by_rule InAscii (b ∷ []) ≡ none
single-low b h = ap (λ (x : Bool). cond x (some (refer_to (b ∷ []))) none) (is_false (is_high (b ∷ [])) (T_not (is_high (b ∷ [])) (every_byte_lem (λ (b : ℕ). not (is_high (b ∷ []))) tt b h)))

plain-unit : (b : ℕ) → b < 256 → (T (is_halt b) → ⊥) → U (keep (b ∷ []))
plain-unit b h n =
    let low : b < 128 = below b (λ k. n (or_left (leb 128 b) (any (same_bytes (b ∷ [])) (replaced_chars InAscii)) (le→leb 128 b k))) in (
      ((0x00, 0x7F) ∷ [], inl refl, and_both (inside (0x00, 0x7F) b) true (and_both (leb 0 b) (leb b 0x7F) (le→leb 0 b (omega arith)) (le→leb b 0x7F (omega arith))) tt, refl),
      (λ i. n (or_right (leb 128 b) (any (same_bytes (b ∷ [])) (replaced_chars InAscii)) (in-same (b ∷ []) (replaced_chars InAscii) i))),
      single-low b h,
    )
  where
    below : (b : ℕ) → (128 ≤ b → ⊥) → b < 128
    below b f = omega arith

pub plain-kept : (p b : ℕ) (s : List ℕ) → b < 256 → (T (is_halt b) → ⊥) → read_step InAscii p (b ∷ s) ≡ keep (b ∷ [])
plain-kept p b s h n = ((context-reads InAscii).finds (keep (b ∷ [])) (plain-unit b h n) s).2 p

-- ---- where nothing can be taken

-- Where no unit stands the reader stops.
pub stops-where : (p : ℕ) (s : List ℕ) → ((a r : List ℕ) → U (keep a) → s ≡ a ++ r → ⊥) → ((v k r : List ℕ) → U (swap v k) → s ≡ v ++ r → ⊥) → (w : ℕ) × (read_step InAscii p s ≡ stop w)
stops-where p s no-keep no-swap = go (read_step InAscii p s) refl ((context-reads InAscii).fair p s)
  where
    go : (m : Move) → read_step InAscii p s ≡ m → Fair U m s → (w : ℕ) × (read_step InAscii p s ≡ stop w)
    go (keep a) e (u, r, q, k, l) = absurd (no-keep a r u q)
    go (swap v k) e (u, r, q, n, l) = absurd (no-swap v k r u q)
    go (leave w a) e (u, r, q, k, l) = absurd u
    go (stop w) e f = (w, e)

-- What a unit takes begins with `&`.
abbrev begins : Row → Bool
begins e = elim (value e) [ [] ↦ false | x ∷ v ↦ eqb x 38 ]

pub unit-begins : (v k : List ℕ) → U (swap v k) → (w : List ℕ) × (v ≡ 38 ∷ w)
unit-begins v k (inl i) = go v (all_in begins (rows InAscii) tt (k, v) i)
  where
    go : (v : List ℕ) → T (begins (k, v)) → (w : List ℕ) × (v ≡ 38 ∷ w)
    go [] t = absurd t
    go (x ∷ v) t = (v, ap (λ (y : ℕ). y ∷ v) (eqb→eq x 38 t))
unit-begins v k (inr e) = (drop 1 (refer_to k), sym (rule-high k v e).1)

same_head : (x y : ℕ) (s r : List ℕ) → x ∷ s ≡ y ∷ r → x ≡ y
same_head x y s r e = ap (λ (l : List ℕ). get_or l 0 0) e

pub no_char : IsChar [] → ⊥
no_char (q, i, t, e) = subst (λ (n : ℕ). T (ltb 0 n)) (sym e) (sequence-pos q i)

-- No plain character begins with a byte that the context replaces.
pub bar-head : (x : ℕ) (a : List ℕ) → U (keep (x ∷ a)) → T (any (same_bytes (x ∷ [])) (replaced_chars InAscii)) → ⊥
bar-head x a u h =
    bar-stops value (rows InAscii) (replaced_chars InAscii) (values-code InAscii) (x ∷ a) [] (u.0, u.1) (x ∷ []) (same_in (x ∷ []) (replaced_chars InAscii) h)
    (and_both (eqb x x) true (eqb_refl x) tt)

-- At a byte of these that is no `&` it stops.
pub halt-stops : (p b : ℕ) (s : List ℕ) → T (is_halt b) → (b ≡ 38 → ⊥) → (w : ℕ) × (read_step InAscii p (b ∷ s) ≡ stop w)
halt-stops p b s t n = stops-where p (b ∷ s) no-keep no-swap
  where
    no-swap : (v k r : List ℕ) → U (swap v k) → b ∷ s ≡ v ++ r → ⊥
    no-swap v k r u q = let (w, e) = unit-begins v k u in n (same_head b 38 s (w ++ r) (q ∙ ap (λ (x : List ℕ). x ++ r) e))

    alone : (x : ℕ) (a : List ℕ) → U (keep (x ∷ a)) → b ≡ x → T (leb 128 b) ⊎ T (any (same_bytes (b ∷ [])) (replaced_chars InAscii)) → ⊥
    alone x a u e (inl h) =
        let l = ltb→lt x 128 (and_left (is_ascii x) (all is_ascii a) (char-low (x ∷ a) u.0 u.2)) in
        let k = leb→le 128 b h in
        let f : ⊥ = omega (arith, e, l, k) in f
    alone x a u e (inr h) = bar-head x a u (subst (λ (y : ℕ). T (any (same_bytes (y ∷ [])) (replaced_chars InAscii))) e h)

    no-keep : (a r : List ℕ) → U (keep a) → b ∷ s ≡ a ++ r → ⊥
    no-keep [] r u q = no_char u.0
    no-keep (x ∷ a) r u q = alone x a u (same_head b x s (a ++ r) q) (or_cases (leb 128 b) (any (same_bytes (b ∷ [])) (replaced_chars InAscii)) t)

-- ---- in a text

module _ (t : List ℕ) (bytes : (k : ℕ) → get_or t k 0 < 256) where
  -- Each byte up to the next of those is kept.
  pub content-quiet : (i e : ℕ) → First (halt_at t) (length t) i e → Keeps (read_step InAscii) t i e
  content-quiet i e near k h l =
      ap (read_step InAscii (before t k)) (drop-next t k (omega (arith, near.within)))
      ∙ plain-kept (before t k) (get_or t k 0) (drop (k + 1) t) (bytes k) (λ x. subst T (near.none k h l) x)

  -- At such a byte that is no `&` the reader stops.
  pub halted-at : (i : ℕ) → i < length t → halt_at t i ≡ true → (get_or t i 0 ≡ 38 → ⊥) → (w : ℕ) × (read_step InAscii (before t i) (drop i t) ≡ stop w)
  halted-at i h b n =
      let (w, e) = halt-stops (before t i) (get_or t i 0) (drop (i + 1) t) (subst T (sym b) tt) n in
      (w, ap (read_step InAscii (before t i)) (drop-next t i h) ∙ e)

-- What was read at a place lies within the text.
pub read-within : (t : List ℕ) (i : ℕ) (e : Escape) → i < length t → Tells (read_step InAscii (before t i) (drop i t)) (drop i t) (Some e)
    → (1 ≤ e.taken) × (i + e.taken ≤ length t) × (length (utf8 e.character) ≤ e.taken) × (e.character ≤ 0x10FFFF)
read-within t i e h (m, least, ends, shorter, most) = (least, omega (arith, h, ends, length-drop i t), shorter, most)

-- The reader leaves no reference.
pub read_left : (t : List ℕ) → first_left (through (read_step InAscii) t) ≡ (0, 0)
read_left t = ap first_of (no-lefts (read_step InAscii) (read-leaveless InAscii) 0 0 0 t)
