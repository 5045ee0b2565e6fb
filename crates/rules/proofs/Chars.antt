-- Laws of the characters of UTF-8.
-- Assumes nothing.
use mathlib.Core.Bool.{Bool, false, ◌&&◌, ◌||◌}
use mathlib.Core.Logic.{◌⊎◌, inl, inr}
use mathlib.Core.Option.{Option, none, some, some-injective}
use mathlib.Core.Path.{◌≡◌, refl, sym, ap, ◌∙◌}
use mathlib.Core.List.{List, [], ◌∷◌, ◌++◌}
use Prim.Native.Nat.{ℕ, zero, suc, pred, ◌≤◌}
use native.Mathlib.Nat.{suc_inj, suc-ne-zero, not-le_of_lt, le_trans}
use lib.Dec.{T, leb, ltb, eqb, leb→le, le→leb, ltb→lt, eqb→eq}
use lib.ListN.{length, take}
use lib.Seq.{take_at}
use Rattle.rules.specs.Bytes.{In, all, fits, Range, inside}
use Rattle.rules.specs.Moves.{keep, Rule, taken}
use Rattle.rules.specs.Utf8.{sequences, sequence_at, IsChar}
use Rattle.rules.proofs.Tests.{and_left, and_right, and_both, or_cases, all_in, first-in, first-sound, fits-append, apart, apart-law}
use Rattle.rules.proofs.Machine.{Follows, singly}

abbrev pub disjoint : Range → Range → Bool
disjoint p q = ltb p.1 q.0 || ltb q.1 p.0

pub disjoint-law : (p q : Range) (x : ℕ) → T (disjoint p q) → T (inside p x) → T (inside q x) → ⊥
disjoint-law p q x d t u = go (or_cases (ltb p.1 q.0) (ltb q.1 p.0) d)
  where
    p0 : p.0 ≤ x
    p0 = leb→le p.0 x (and_left (leb p.0 x) (leb x p.1) t)

    p1 : x ≤ p.1
    p1 = leb→le x p.1 (and_right (leb p.0 x) (leb x p.1) t)

    q0 : q.0 ≤ x
    q0 = leb→le q.0 x (and_left (leb q.0 x) (leb x q.1) u)

    q1 : x ≤ q.1
    q1 = leb→le x q.1 (and_right (leb q.0 x) (leb x q.1) u)

    go : T (ltb p.1 q.0) ⊎ T (ltb q.1 p.0) → ⊥
    go (inl h) = not-le_of_lt (ltb→lt p.1 q.0 h) (le_trans q0 p1)
    go (inr h) = not-le_of_lt (ltb→lt q.1 p.0 h) (le_trans p0 q1)

-- the sequence of a character, whatever follows it
pub sequence-of-char : (a r : List ℕ) (c : IsChar a) → sequence_at (a ++ r) ≡ some c.0
sequence-of-char a r c =
    first-in (fits inside) (apart disjoint) (apart-law inside disjoint disjoint-law) sequences tt c.0 (a ++ r) c.1
    (fits-append inside c.0 a r c.2)

-- no character is the beginning of another
pub char-unique : (a b r s : List ℕ) → IsChar a → IsChar b → a ++ r ≡ b ++ s → a ≡ b
char-unique a b r s c d e =
    let q : c.0 ≡ d.0 = some-injective c.0 d.0 (sym (sequence-of-char a r c) ∙ ap sequence_at e ∙ sequence-of-char b s d) in
    sym (take_at a r (length c.0) c.3) ∙ ap (take (length c.0)) e ∙ take_at b s (length c.0) (d.3 ∙ ap length (sym q))

abbrev pub full : Option (List Range) → ℕ → Bool
full none n = false
full (some f) n = eqb n (length f)

abbrev pub is_char : List ℕ → Bool
is_char a = full (sequence_at a) (length a)

pub is-char : (a : List ℕ) → T (is_char a) → IsChar a
is-char a t = go (sequence_at a) refl t
  where
    go : (o : Option (List Range)) → sequence_at a ≡ o → T (full o (length a)) → IsChar a
    go none e t = absurd t
    go (some f) e t = let (i, h) = first-sound (fits inside) sequences a f e in (f, i, h, eqb→eq (length a) (length f) t)

pub pred_of : (n : ℕ) → T (ltb 0 n) → n ≡ suc (pred n)
pred_of zero t = absurd t
pred_of (suc n) t = refl

-- a sequence has a byte
pub sequence-pos : (f : List Range) → In f sequences → T (ltb 0 (length f))
sequence-pos = all_in (λ (f : List Range). ltb 0 (length f)) sequences tt

-- ---- the bytes of a character after its first are 80 to BF

abbrev pub is_tail : ℕ → Bool
is_tail y = inside (0x80, 0xBF) y

abbrev within : Range → Bool
within q = leb 0x80 q.0 && leb q.1 0xBF

abbrev tails_ok : List Range → Bool
tails_ok [] = false
tails_ok (q ∷ qs) = all within qs

within-tail : (q : Range) (y : ℕ) → T (within q) → T (inside q y) → T (is_tail y)
within-tail q y w t =
    and_both (leb 0x80 y) (leb y 0xBF)
    (le→leb 0x80 y (le_trans (leb→le 0x80 q.0 (and_left (leb 0x80 q.0) (leb q.1 0xBF) w)) (leb→le q.0 y (and_left (leb q.0 y) (leb y q.1) t))))
    (le→leb y 0xBF (le_trans (leb→le y q.1 (and_right (leb q.0 y) (leb y q.1) t)) (leb→le q.1 0xBF (and_right (leb 0x80 q.0) (leb q.1 0xBF) w))))

tails : (qs : List Range) (a : List ℕ) → T (all within qs) → T (fits inside qs a) → length a ≡ length qs → T (all is_tail a)
tails qs [] w t e = tt
tails [] (y ∷ a) w t e = absurd (suc-ne-zero (length a) e)
tails (q ∷ qs) (y ∷ a) w t e =
    and_both (is_tail y) (all is_tail a) (within-tail q y (and_left (within q) (all within qs) w) (and_left (inside q y) (fits inside qs a) t))
    (tails qs a (and_right (within q) (all within qs) w) (and_right (inside q y) (fits inside qs a) t) (suc_inj e))

pub char-tails : (x : ℕ) (a : List ℕ) → IsChar (x ∷ a) → T (all is_tail a)
char-tails x a c = go c.0 (all_in tails_ok sequences tt c.0 c.1) c.2 c.3
  where
    go : (f : List Range) → T (tails_ok f) → T (fits inside f (x ∷ a)) → length (x ∷ a) ≡ length f → T (all is_tail a)
    go [] w t e = absurd w
    go (q ∷ qs) w t e = tails qs a w (and_right (inside q x) (fits inside qs a) t) (suc_inj e)

-- ---- a rule that keeps the first byte of a character, and every byte 80 to BF, keeps its bytes one by one

pub taken-singles : (a : List ℕ) → taken (singly a) ≡ a
taken-singles [] = refl
taken-singles (x ∷ a) = ap (λ (s : List ℕ). x ∷ s) (taken-singles a)

module _ (rule : Rule) (quiet : (p y : ℕ) (s : List ℕ) → T (is_tail y) → rule p (y ∷ s) ≡ keep (y ∷ [])) where
  tails-singly : (a r : List ℕ) → T (all is_tail a) → Follows rule (singly a) r
  tails-singly [] r t = tt
  tails-singly (y ∷ a) r t =
      ((0, refl, λ p. quiet p y (taken (singly a) ++ r) (and_left (is_tail y) (all is_tail a) t)), tails-singly a r (and_right (is_tail y) (all is_tail a) t))

  pub char-singly : (x : ℕ) (a r : List ℕ) → IsChar (x ∷ a) → ((p : ℕ) → rule p (x ∷ (a ++ r)) ≡ keep (x ∷ [])) → Follows rule (singly (x ∷ a)) r
  char-singly x a r c h =
      ((0, refl, λ p. ap (λ (b : List ℕ). rule p (x ∷ (b ++ r))) (taken-singles a) ∙ h p), tails-singly a r (char-tails x a c))
