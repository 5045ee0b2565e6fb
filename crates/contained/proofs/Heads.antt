-- What a place does at one byte, by the bytes that its patterns can begin with: an ASCII byte that no pattern begins with is kept, and so is each byte of
-- a character above 7F that the context does not replace.
-- Assumes nothing.
use mathlib.Core.Bool.{Bool, true, false, not, ◌&&◌, ◌||◌, cond}
use mathlib.Core.Logic.{◌⊎◌, inl, inr}
use mathlib.Core.Option.{Option, none, some}
use mathlib.Core.Path.{◌≡◌, refl, sym, ap, ◌∙◌, subst}
use mathlib.Core.List.{List, [], ◌∷◌, ◌++◌}
use Prim.Native.Nat.{ℕ, ◌≤◌, ◌<◌}
use native.Mathlib.Nat.{le_trans, suc-ne-zero, suc_inj}
use native.Mathlib.Omega.{arith}
use lib.Dec.{T, eqb, leb, ltb, leb→le, le→leb, ltb→lt, eqb→eq, T_not}
use lib.ListN.{length, take}
use Rattle.rules.specs.Bytes.{In, all, any, fits, stands, one_of, Range, inside}
use Rattle.rules.specs.Moves.{keep, takes}
use Rattle.rules.specs.Utf8.{IsChar, sequences}
use Rattle.rules.specs.Tables.{key, table, replaced_chars}
use Rattle.rules.specs.Units.{IsUnit}
use Rattle.rules.specs.declared.Kind.{Kind}
use Rattle.rules.specs.declared.Context.{Context}
use Rattle.rules.proofs.Tests.{and_left, and_right, and_both, or_cases, is_false, all_in, any-in, first-none, first-sound}
use Rattle.rules.proofs.Chars.{is_tail}
use Rattle.rules.proofs.Tables.{bar-stops}
use Rattle.rules.proofs.Every.{keys-code}
use Rattle.places.specs.Places.{Effect, leaves, means, single, Entry, Place, entry_at, act, act_on, refers, after_amp, place_step}

-- ---- the tests

-- The pattern can begin with the byte.
abbrev pub head_has : List (List ℕ) → ℕ → Bool
head_has [] b = true
head_has (set ∷ ps) b = one_of set b

-- Each entry that can begin with the byte takes it alone.
abbrev pub heads_single : List Entry → ℕ → Bool
heads_single es b = all (λ (e : Entry). not (head_has e.0 b) || single e.1) es

-- No entry can begin with it.
abbrev pub heads_none : List Entry → ℕ → Bool
heads_none es b = all (λ (e : Entry). not (head_has e.0 b)) es

-- Whatever follows the byte, it alone is taken.
abbrev pub mild : Place → ℕ → Bool
mild p b = not (refers p.references b) && heads_single p.entries b

-- Whatever follows the byte, it is kept.
abbrev pub quiet : Place → ℕ → Bool
quiet p b = not (refers p.references b) && heads_none p.entries b

-- ---- one byte

pub head-has : (ps : List (List ℕ)) (b : ℕ) (s : List ℕ) → T (fits one_of ps (b ∷ s)) → T (head_has ps b)
head-has [] b s t = tt
head-has (set ∷ ps) b s t = and_left (one_of set b) (fits one_of ps s) t

-- Where no reference begins the entries decide.
pub no-amp : (p : Place) (q b : ℕ) (s : List ℕ) → (T (refers p.references b) → ⊥) → place_step p q (b ∷ s) ≡ act_on (entry_at p.entries (b ∷ s)) (b ∷ s)
unfolding place_step
no-amp p q b s h = ap (λ (c : Bool). cond c (after_amp p.references s) (act_on (entry_at p.entries (b ∷ s)) (b ∷ s))) (is_false (refers p.references b) h)

-- Where no entry stands the byte is kept.
pub none_kept : (p : Place) (q b : ℕ) (s : List ℕ) → (T (refers p.references b) → ⊥) → ((e : Entry) → In e p.entries → T (fits one_of e.0 (b ∷ s)) → ⊥)
    → place_step p q (b ∷ s) ≡ keep (b ∷ [])
none_kept p q b s h f = no-amp p q b s h ∙ ap (λ (o : Option Entry). act_on o (b ∷ s)) (first-none (λ (e : Entry). fits one_of e.0) p.entries (b ∷ s) f)

pub quiet_keeps : (p : Place) (q b : ℕ) (s : List ℕ) → T (quiet p b) → place_step p q (b ∷ s) ≡ keep (b ∷ [])
quiet_keeps p q b s t =
    let amp = refers p.references b in
    let heads = and_right (not amp) (heads_none p.entries b) t in
    none_kept p q b s (T_not amp (and_left (not amp) (heads_none p.entries b) t))
    (λ e i f. T_not (head_has e.0 b) (all_in (λ (e : Entry). not (head_has e.0 b)) p.entries heads e i) (head-has e.0 b s f))

pub single-takes : (d : Effect) (b : ℕ) (s : List ℕ) → T (single d) → takes (act d (b ∷ s)) ≡ b ∷ []
single-takes leaves b s t = absurd t
single-takes (means n f) b s t = ap (λ (k : ℕ). take k (b ∷ s)) (eqb→eq n 1 t)

pub mild-takes : (p : Place) (q b : ℕ) (s : List ℕ) → T (mild p b) → takes (place_step p q (b ∷ s)) ≡ b ∷ []
mild-takes p q b s t =
    ap takes (no-amp p q b s (T_not amp (and_left (not amp) (heads_single p.entries b) t))) ∙ go (entry_at p.entries (b ∷ s)) refl
  where
    amp : Bool
    amp = refers p.references b

    go : (o : Option Entry) → entry_at p.entries (b ∷ s) ≡ o → takes (act_on o (b ∷ s)) ≡ b ∷ []
    go none e = refl
    go (some e) w =
        let (i, f) = first-sound (λ (e : Entry). fits one_of e.0) p.entries (b ∷ s) e w in
        let heads = and_right (not amp) (heads_single p.entries b) t in
        found (or_cases (not (head_has e.0 b)) (single e.1) (all_in (λ (e : Entry). not (head_has e.0 b) || single e.1) p.entries heads e i)) f
      where
        found : T (not (head_has e.0 b)) ⊎ T (single e.1) → T (fits one_of e.0 (b ∷ s)) → takes (act e.1 (b ∷ s)) ≡ b ∷ []
        found (inl n) f = absurd (T_not (head_has e.0 b) n (head-has e.0 b s f))
        found (inr m) f = single-takes e.1 b s m

-- ---- a character is one ASCII byte, or begins above 7F

abbrev one_or_high : List Range → Bool
one_or_high [] = false
one_or_high (q ∷ []) = leb q.1 0x7F || leb 0x80 q.0
one_or_high (q ∷ q' ∷ qs) = leb 0x80 q.0

pub char-case : (x : ℕ) (a : List ℕ) → IsChar (x ∷ a) → ((x < 128) × (a ≡ [])) ⊎ T (leb 0x80 x)
char-case x a c = go c.0 (all_in one_or_high sequences tt c.0 c.1) c.2 c.3
  where
    high : (q : Range) → T (leb 0x80 q.0) → T (inside q x) → T (leb 0x80 x)
    high q h t = le→leb 0x80 x (le_trans (leb→le 0x80 q.0 h) (leb→le q.0 x (and_left (leb q.0 x) (leb x q.1) t)))

    empty : (l : List ℕ) → length l ≡ 0 → l ≡ []
    empty [] e = refl
    empty (y ∷ l) e = absurd (suc-ne-zero (length l) e)

    low : (q : Range) → T (leb q.1 0x7F) → T (inside q x) → x < 128
    low q h t = let h' = leb→le q.1 0x7F h in let t' = leb→le x q.1 (and_right (leb q.0 x) (leb x q.1) t) in omega (arith, h', t')

    one : (q : Range) → T (leb q.1 0x7F) ⊎ T (leb 0x80 q.0) → T (inside q x) → a ≡ [] → ((x < 128) × (a ≡ [])) ⊎ T (leb 0x80 x)
    one q (inl h) t e = inl (low q h t, e)
    one q (inr h) t e = inr (high q h t)

    go : (f : List Range) → T (one_or_high f) → T (fits inside f (x ∷ a)) → length (x ∷ a) ≡ length f → ((x < 128) × (a ≡ [])) ⊎ T (leb 0x80 x)
    go [] h t e = absurd h
    go (q ∷ []) h t e = one q (or_cases (leb q.1 0x7F) (leb 0x80 q.0) h) (and_left (inside q x) (fits inside [] a) t) (empty a (suc_inj e))
    go (q ∷ q' ∷ qs) h t e = inr (high q h (and_left (inside q x) (fits inside (q' ∷ qs) a) t))

-- ---- characters above 7F

-- The pattern is these bytes and no others.
abbrev pub exact : List (List ℕ) → List ℕ → Bool
exact [] [] = true
exact [] (x ∷ k) = false
exact (set ∷ ps) [] = false
exact (set ∷ ps) (x ∷ k) = all (λ (y : ℕ). eqb x y) set && exact ps k

one_set : (set : List ℕ) (x y : ℕ) → T (all (λ (z : ℕ). eqb x z) set) → T (one_of set y) → T (eqb x y)
one_set set x y a t =
    let (z, i, e) = any-in (eqb y) set t in
    subst (λ (w : ℕ). T (eqb x w)) (sym (eqb→eq y z e)) (all_in (λ (z : ℕ). eqb x z) set a z i)

pub exact-stands : (ps : List (List ℕ)) (k s : List ℕ) → T (exact ps k) → T (fits one_of ps s) → T (stands k s)
exact-stands [] [] s t f = tt
exact-stands [] (x ∷ k) s t f = absurd t
exact-stands (set ∷ ps) [] s t f = absurd t
exact-stands (set ∷ ps) (x ∷ k) [] t f = absurd f
exact-stands (set ∷ ps) (x ∷ k) (y ∷ s) t f =
    let here = all (λ (z : ℕ). eqb x z) set in
    and_both (eqb x y) (stands k s) (one_set set x y (and_left here (exact ps k) t) (and_left (one_of set y) (fits one_of ps s) f))
    (exact-stands ps k s (and_right here (exact ps k) t) (and_right (one_of set y) (fits one_of ps s) f))

-- The bytes of the set are ASCII.
abbrev pub ascii_set : List ℕ → Bool
ascii_set set = all (λ (b : ℕ). ltb b 128) set

abbrev no_tail : List ℕ → Bool
no_tail set = all (λ (b : ℕ). not (is_tail b)) set

-- The pattern begins with ASCII, or is a character that the context replaces.
abbrev pub head_apart : Context → List (List ℕ) → Bool
head_apart c [] = false
head_apart c (set ∷ ps) = no_tail set && (ascii_set set || any (exact (set ∷ ps)) (replaced_chars c))

abbrev pub heads_apart : Context → Place → Bool
heads_apart c p = all (λ (e : Entry). head_apart c e.0) p.entries

pub above : (b : ℕ) → T (leb 0x80 b) → T (ltb b 128) → ⊥
above b h l = go (leb→le 0x80 b h) (ltb→lt b 128 l)
  where
    go : 0x80 ≤ b → b < 128 → ⊥
    go h l = omega arith

-- A byte above 7F is in no set of ASCII bytes.
pub high-apart : (set : List ℕ) (y : ℕ) → T (ascii_set set) → T (leb 0x80 y) → T (one_of set y) → ⊥
high-apart set y l h t = let (z, i, e) = any-in (eqb y) set t in above z (subst (λ (w : ℕ). T (leb 0x80 w)) (eqb→eq y z e) h) (all_in (λ (b : ℕ). ltb b 128) set l z i)

high-amp : (o : Option Kind) (b : ℕ) → T (leb 0x80 b) → T (refers o b) → ⊥
high-amp none b h t = t
high-amp (some kind) b h t = subst (λ (x : ℕ). T (leb 0x80 x)) (eqb→eq b 38 t) h

module _ (c : Context) (p : Place) (ok : T (heads_apart c p)) where
  entry-apart : (e : Entry) → In e p.entries → T (head_apart c e.0)
  entry-apart = all_in (λ (e : Entry). head_apart c e.0) p.entries ok

  pub tail-kept : (q y : ℕ) (s : List ℕ) → T (is_tail y) → place_step p q (y ∷ s) ≡ keep (y ∷ [])
  tail-kept q y s t = none_kept p q y s (high-amp p.references y (and_left (leb 0x80 y) (leb y 0xBF) t)) (λ e i f. go e.0 (entry-apart e i) f)
    where
      go : (ps : List (List ℕ)) → T (head_apart c ps) → T (fits one_of ps (y ∷ s)) → ⊥
      go [] h f = h
      go (set ∷ ps) h f =
          let (z, i, e) = any-in (eqb y) set (and_left (one_of set y) (fits one_of ps s) f) in
          T_not (is_tail z) (all_in (λ (b : ℕ). not (is_tail b)) set (and_left (no_tail set) (ascii_set set || any (exact (set ∷ ps)) (replaced_chars c)) h) z i)
          (subst (λ (w : ℕ). T (is_tail w)) (eqb→eq y z e) t)

  pub lead-kept : (q x : ℕ) (a r : List ℕ) → IsUnit c (table c) (keep (x ∷ a)) → T (leb 0x80 x) → place_step p q (x ∷ (a ++ r)) ≡ keep (x ∷ [])
  lead-kept q x a r u h = none_kept p q x (a ++ r) (high-amp p.references x h) (λ e i f. go e.0 (entry-apart e i) f)
    where
      go : (ps : List (List ℕ)) → T (head_apart c ps) → T (fits one_of ps (x ∷ (a ++ r))) → ⊥
      go [] k f = k
      go (set ∷ ps) k f = cases (or_cases (ascii_set set) replaced (and_right (no_tail set) (ascii_set set || replaced) k))
        where
          replaced : Bool
          replaced = any (exact (set ∷ ps)) (replaced_chars c)

          cases : T (ascii_set set) ⊎ T replaced → ⊥
          cases (inl l) = high-apart set x l h (and_left (one_of set x) (fits one_of ps (a ++ r)) f)
          cases (inr l) =
              let (b, i, e) = any-in (exact (set ∷ ps)) (replaced_chars c) l in
              bar-stops key (table c) (replaced_chars c) (keys-code c) (x ∷ a) r (u.0, u.1) b i (exact-stands (set ∷ ps) b (x ∷ (a ++ r)) e f)
