-- The rows of a script or style string by the byte that each stands for: a byte after a backslash, two hex digits, U+2028 and U+2029.
-- Assumes nothing.
use mathlib.Core.Bool.{Bool, true, false, not, ◌&&◌, ◌||◌, cond}
use mathlib.Core.Logic.{◌⊎◌, inl, inr, ⊎_elim}
use mathlib.Core.Path.{◌≡◌, refl, sym, ap, ◌∙◌, subst}
use mathlib.Core.List.{List, [], ◌∷◌, ◌++◌, map}
use Prim.Native.Nat.{ℕ, zero, suc, ◌+◌, ◌-◌, ◌*◌, ◌/◌, ◌%◌, ◌≤◌, ◌<◌}
use native.Mathlib.Nat.{add-zero}
use native.Mathlib.Omega.{arith}
use lib.Dec.{T, eqb, eqb→eq, eqb_refl, ltb, ltb→lt, T_not}
use lib.ListN.{length, take, drop, get_or, length-drop}
use lib.Seq.{get_or-drop}
use borrow.Author.Tests.{eqb-true, ltb-true}
use Rattle.rules.specs.Bytes.{ascii, In, all, count, stands, one_of}
use Rattle.rules.specs.Escapes.{after_less, escape_by}
use Rattle.rules.specs.Operations.{decode_step}
use Rattle.rules.specs.Contexts.{string_of}
use Rattle.rules.specs.Tables.{Row, value, slashed, hex_row, rows}
use Rattle.rules.specs.Moves.{keep, swap, first_of, first_left, through, before}
use Rattle.rules.specs.Utf8.{utf8}
use Rattle.rules.specs.declared.Context.TheVariants.{InScript, InStyle}
use Rattle.rules.specs.declared.Language.{Language}
use Rattle.rules.specs.declared.Language.TheVariants.{Script, Style}
use Rattle.rules.specs.declared.Quotes.{Quotes}
use Rattle.rules.specs.declared.Quotes.TheVariants.{Single, Double, Both}
use Rattle.std.specs.Prelude.{Option, Some, None}
use Rattle.rules.specs.declared.Escape.{Escape}
use Rattle.rules.proofs.Tests.{and_both, or_cases, or-false, all_in, any-intro}
use Rattle.rules.proofs.EveryByte.{every_byte_lem}
use Rattle.rules.proofs.Decoder.{at_other}
use Rattle.rules.proofs.Reasons.{no-lefts, escape-leaveless}
use Rattle.rules.proofs.Loops.{drop-next}
use Rattle.rules.proofs.Quiet.{Keeps}
use Rattle.base.proofs.Filled.{lent-rest}
use Rattle.base.specs.Places.{Nearest}
use Rattle.decode_strings.specs.Finds.{Within, Finds}
use Rattle.rules.specs.Answers.{escape_move, escape_for}
use Rattle.decode_strings.specs.Hex.{hex_between}
use Rattle.decode_strings.specs.Strings.{name_of, notation_of, slashed_bytes, slashed_rows, after_slash, hex_escape, is_hexed, separators, hexed_bytes, hex_rows, unslashed_rows}
use Rattle.decode_strings.proofs.Finding.{one-of-in, utf8-ascii, Coded, finds-byte, finds-no-byte, finds-first, finds-second, undo-second, finds-later, finds-end}
use Rattle.decode_strings.proofs.Hex.{pair-digits, stands-between}
use Rattle.decode_strings.proofs.Standing.{stands-take}

-- ---- a byte after a backslash

slashed-sound : (q : Quotes) (s : List ℕ) (b : ℕ) → after_slash s ≡ Some b → In b (slashed_bytes q) → T (stands (value (slashed b)) s)
slashed-sound q [] b e i = cc
slashed-sound q (x ∷ []) b e i = cc
slashed-sound q (x ∷ y ∷ s) b e i = go (eqb x 92) refl e
  where
    go : (t : Bool) → eqb x 92 ≡ t → cond t (Some y) None ≡ Some b → T (stands (value (slashed b)) (x ∷ y ∷ s))
    go true q e =
        let k : y ≡ b = cc in
        rw (eqb-true x 92 q, ← k) (and_both (eqb y y) true (eqb_refl y) tt)
    go false q e = cc

slashed-small : (q : Quotes) → T (all (λ (b : ℕ). ltb b 128) (slashed_bytes q))
slashed-small Single = tt
slashed-small Double = tt
slashed-small Both = tt

slashed-coded : (q : Quotes) → Coded slashed after_slash (slashed_bytes q) 1
slashed-coded q = record { finds = λ b i r. refl; sound = slashed-sound q; keys = λ b. refl; sizes = λ b. refl; small = slashed-small q }

-- A byte that the string writes so is found,
pub slashed-found : (q : Quotes) (s : List ℕ) (b : ℕ) → after_slash s ≡ Some b → one_of (slashed_bytes q) b ≡ true → Finds (slashed_rows q) s (escape_for 2 b) × (b < 128)
slashed-found q s b e t =
    let i = one-of-in (slashed_bytes q) b (subst T (sym t) tt) in
    (finds-byte (slashed-coded q) s b e i, ltb→lt b 128 (all_in (λ (b : ℕ). ltb b 128) (slashed_bytes q) (slashed-small q) b i))

-- and no other is.
pub slashed-none : (q : Quotes) (s : List ℕ) → ((b : ℕ) → after_slash s ≡ Some b → one_of (slashed_bytes q) b ≡ false) → Finds (slashed_rows q) s None
slashed-none q s h = finds-no-byte (slashed-coded q) s (λ b e i. subst T (h b e) (any-intro (eqb b) (slashed_bytes q) b i (eqb_refl b)))

-- ---- two hex digits

hexed-small : (language : Language) → T (all (λ (b : ℕ). ltb b 128) (hexed_bytes language))
hexed-small Style = tt
hexed-small Script = tt

pub small-byte : (language : Language) (b : ℕ) → In b (hexed_bytes language) → b < 256
small-byte language b i = omega (arith, ltb→lt b 128 (all_in (λ (b : ℕ). ltb b 128) (hexed_bytes language) (hexed-small language) b i))

hex-coded : (language : Language) → Coded (hex_row (notation_of language)) (hex_escape language) (hexed_bytes language) 3
unfolding hex_between
hex-coded Style = record {
  finds = λ b i r. pair-digits b (small-byte Style b i);
  sound = λ s b e i. stands-between (ascii "\\") (ascii " ") s b e;
  keys = λ b. refl;
  sizes = λ b. refl;
  small = tt;
}
hex-coded Script = record {
  finds = λ b i r. pair-digits b (small-byte Script b i);
  sound = λ s b e i. stands-between (ascii "\\x") [] s b e;
  keys = λ b. refl;
  sizes = λ b. refl;
  small = tt;
}

-- What passes the test is a byte.
pub hexed-byte : (language : Language) (v : ℕ) → is_hexed language v ≡ true → v < 256
hexed-byte language v e = ⊎_elim (λ p. omega (arith, eqb-true v 60 p)) (λ p. omega (arith, ltb-true v 32 p)) (go language e)
  where
    small : (p q : Bool) → (p || q) ≡ true → (p ≡ true) ⊎ (q ≡ true)
    small true q e = inl refl
    small false q e = inr e

    first : (q r : Bool) → (q && r) ≡ true → q ≡ true
    first true r e = refl
    first false r e = e

    go : (language : Language) → is_hexed language v ≡ true → (eqb v 60 ≡ true) ⊎ (ltb v 32 ≡ true)
    go Script e = small (eqb v 60) (ltb v 32) e
    go Style e = ⊎_elim (λ p. inl p) (λ p. inr (first (ltb v 32) (not (eqb v 0)) p)) (small (eqb v 60) (ltb v 32 && not (eqb v 0)) e)

-- These bytes are those that pass the test.
pub hexed-in : (language : Language) (v : ℕ) → is_hexed language v ≡ true → In v (hexed_bytes language)
hexed-in language v e =
    one-of-in (hexed_bytes language) v
    (go (or_cases (not (is_hexed language v)) (one_of (hexed_bytes language) v) (every_byte_lem (λ (v : ℕ). not (is_hexed language v) || one_of (hexed_bytes language) v) (ok language) v (hexed-byte language v e))))
  where
    ok : (language : Language) → T (all (λ (v : ℕ). not (is_hexed language v) || one_of (hexed_bytes language) v) (count 0 256))
    ok Style = tt
    ok Script = tt

    go : T (not (is_hexed language v)) ⊎ T (one_of (hexed_bytes language) v) → T (one_of (hexed_bytes language) v)
    go (inl t) = absurd (T_not (is_hexed language v) t (subst T (sym e) tt))
    go (inr t) = t

pub hexed-out : (language : Language) (v : ℕ) → is_hexed language v ≡ false → In v (hexed_bytes language) → ⊥
hexed-out language v e i = subst T e (all_in (is_hexed language) (hexed_bytes language) (go language) v i)
  where
    go : (language : Language) → T (all (is_hexed language) (hexed_bytes language))
    go Style = tt
    go Script = tt

-- ---- the whole table

string-rows : (language : Language) (q : Quotes) → rows (string_of language q) ≡ slashed_rows q ++ unslashed_rows language
string-rows Style Single = refl
string-rows Style Double = refl
string-rows Style Both = refl
string-rows Script Single = refl
string-rows Script Double = refl
string-rows Script Both = refl

-- Two hex digits of a byte that the string writes so.
pub finds-hexed : (language : Language) (s : List ℕ) (v : ℕ) → hex_escape language s ≡ Some v → is_hexed language v ≡ true → Finds (hex_rows language) s (escape_for 4 v)
finds-hexed language s v e h = finds-byte (hex-coded language) s v e (hexed-in language v h)

-- Where they are not, no such row stands.
pub finds-no-hexed : (language : Language) (s : List ℕ) → ((v : ℕ) → hex_escape language s ≡ Some v → is_hexed language v ≡ false) → Finds (hex_rows language) s None
finds-no-hexed language s h = finds-no-byte (hex-coded language) s (λ v e. hexed-out language v (h v e))

module _ (language : Language) (q : Quotes) (s : List ℕ) where
  -- A backslash and a byte that the string writes so.
  pub finds-slashed : {e : Escape} → Finds (slashed_rows q) s (Some e) → Finds (rows (string_of language q)) s (Some e)
  finds-slashed f = rw (string-rows language q) (finds-first (slashed_rows q) (unslashed_rows language) f)

  -- Where it is none, the other rows count.
  pub finds-unslashed : {r : Option Escape} → Finds (slashed_rows q) s None → Finds (unslashed_rows language) s r → Finds (rows (string_of language q)) s r
  finds-unslashed n f = rw (string-rows language q) (finds-second (slashed_rows q) (unslashed_rows language) n f)

-- ---- decode

decode-string : (language : Language) (q : Quotes) (p : ℕ) (s : List ℕ) → decode_step (string_of language q) p s ≡ escape_by (name_of language) (rows (string_of language q)) p s
unfolding decode_step
decode-string Style q p s = refl
decode-string Script q p s = refl

-- Where no byte stands that the string writes with a backslash, the other rows and the rules after `<` decide.
decode-unslashed : (language : Language) (q : Quotes) (p : ℕ) (s : List ℕ) → Finds (slashed_rows q) s None
    → escape_by (name_of language) (unslashed_rows language) p s ≡ decode_step (string_of language q) p s
decode-unslashed language q p s n =
    sym
    (decode-string language q p s
    ∙ ap (λ (table : List Row). escape_by (name_of language) table p s) (string-rows language q)
    ∙ undo-second (slashed_rows q) (unslashed_rows language) s (after_less (name_of language) p s) n)

-- A row that is found is undone.
pub row-found : (language : Language) (p : ℕ) (s : List ℕ) {e : Escape} → Finds (unslashed_rows language) s (Some e)
    → escape_move s (Some e) ≡ escape_by (name_of language) (unslashed_rows language) p s
row-found language p s f = sym (f.undoes (after_less (name_of language) p s))

-- Where there is none, the rules after `<` decide.
pub row-after : (language : Language) (p : ℕ) (s : List ℕ) → Finds (unslashed_rows language) s None
    → after_less (name_of language) p s ≡ escape_by (name_of language) (unslashed_rows language) p s
row-after language p s f = sym (f.undoes (after_less (name_of language) p s))

-- Between two backslashes each byte is kept.
pub string-quiet : (language : Language) (q : Quotes) (t : List ℕ) (i e : ℕ) → Nearest t i 92 e → Keeps (decode_step (string_of language q)) t i e
string-quiet language q t i e near k h l =
    ap (decode_step (string_of language q) (before t k)) (drop-next t k (omega (arith, near.within)))
    ∙ go language (before t k) (get_or t k 0) (drop (k + 1) t) (λ x. near.none k h l (eqb→eq (get_or t k 0) 92 x))
  where
    go : (language : Language) (p x : ℕ) (s : List ℕ) → (T (eqb x 92) → ⊥) → decode_step (string_of language q) p (x ∷ s) ≡ keep (x ∷ [])
    go Style p x s h = at_other (InStyle q) p x s (λ u. h (or-false (eqb x 92) u))
    go Script p x s h = at_other (InScript q) p x s (λ u. h (or-false (eqb x 92) u))

-- At place e a backslash and the byte b give way to the byte.
abbrev pub SlashedAt : Language → Quotes → List ℕ → ℕ → ℕ → Type 0
SlashedAt language q t e b = (decode_step (string_of language q) (before t e) (drop e t) ≡ swap (take 2 (drop e t)) (b ∷ [])) × (e + 2 ≤ length t)

-- They do where the string writes b so, of the rest of the text that the code is lent.
pub slashed-here : (language : Language) (q : Quotes) (t : List ℕ) (e b : ℕ) → Finds (slashed_rows q) (take (length t - e) (drop e t)) (escape_for 2 b) → b < 128 → SlashedAt language q t e b
slashed-here language q t e b f small =
    let g : Finds (slashed_rows q) (drop e t) (escape_for 2 b) = rw lent-rest at f in
    let h = finds-slashed language q (drop e t) g in (
      decode-string language q (before t e) (drop e t) ∙ h.undoes (after_less (name_of language) (before t e) (drop e t)) ∙ ap (swap (take 2 (drop e t))) (utf8-ascii b small),
      omega (arith, rw length-drop at h.within.1),
    )

-- Where it is not so, what the reader of the others answers there, lent the rest of the text, is the move, and stays within the text.
pub record Told (language : Language) (q : Quotes) (t : List ℕ) (e : ℕ) (r : Option Escape) : Type 0 where
  pub moves : decode_step (string_of language q) (before t e) (drop e t) ≡ escape_move (drop e t) r
  pub within : Within r (drop e t)

pub told_here : (language : Language) (q : Quotes) (t : List ℕ) (e p : ℕ) (r : Option Escape) → Finds (slashed_rows q) (take (length t - e) (drop e t)) None
    → p ≡ before t e
    → (escape_move (take (length t - e) (drop e t)) r ≡ escape_by (name_of language) (unslashed_rows language) p (take (length t - e) (drop e t)))
    × Within r (take (length t - e) (drop e t))
    → Told language q t e r
told_here language q t e p r n k g =
    let d = decode-unslashed language q p (take (length t - e) (drop e t)) n in
    record { moves = rw (← k, ← lent-rest e t) (sym (g.0 ∙ d)); within = rw (← lent-rest e t) g.1 }

-- An escape within the rest of a text ends within the text.
pub within-rest : (t : List ℕ) (i : ℕ) (e : Escape) → Within (Some e) (drop i t) → (1 ≤ e.taken) × (i + e.taken ≤ length t) × (length (utf8 e.character) ≤ e.taken) × (e.character ≤ 0x10FFFF)
within-rest t i e w = (w.0, omega (arith, w.0, rw length-drop at w.1), w.2, w.3)

-- The byte before a place that is not the start.
pub before_at : (t : List ℕ) (i : ℕ) → (i ≡ 0 → ⊥) → get_or t (i - 1) 0 ≡ before t i
before_at t zero h = absurd (h refl)
before_at t (suc i) h = let e : suc i - 1 ≡ i = omega arith in rw e

-- No reference stays in a string.
pub none_left : (language : Language) (q : Quotes) (t : List ℕ) → first_left (through (decode_step (string_of language q)) t) ≡ (0, 0)
unfolding decode_step
none_left Script q t = ap first_of (no-lefts (decode_step (InScript q)) (escape-leaveless (ascii "script") (rows (InScript q))) 0 0 0 t)
none_left Style q t = ap first_of (no-lefts (decode_step (InStyle q)) (escape-leaveless (ascii "style") (rows (InStyle q))) 0 0 0 t)
