-- What ascii_quoted writes by rule, in any place. One that reads references takes it whole, for the character that a browser takes it for; its bytes are letters,
-- digits and `&`, `#`, `;`, which other places take one by one.
-- Assumes nothing.
use mathlib.Core.Bool.{Bool, true, false, not, ◌||◌}
use mathlib.Core.Logic.{◌⊎◌, inl, inr}
use mathlib.Core.Option.{Option, none, some, none-ne-some}
use mathlib.Core.Path.{◌≡◌, refl, sym, ap, ◌∙◌, subst}
use mathlib.Core.List.{List, [], ◌∷◌, ◌++◌, append_assoc}
use Prim.Native.Nat.{ℕ, ◌≤◌, ◌<◌}
use native.Mathlib.Omega.{arith}
use lib.Dec.{T, eqb, leb, leb→le, le→leb, ltb→lt, T_not}
use Rattle.rules.specs.Bytes.{ascii, all, bytes, inside}
use Rattle.rules.specs.Moves.{Move, swap, gives, moves, taken, result}
use Rattle.rules.specs.Utf8.{IsChar, code_of}
use Rattle.rules.specs.Ascii.{is_high, body_for, by_rule}
use Rattle.rules.specs.References.{renumbering, stands_for}
use Rattle.rules.specs.Browsing.{reference_at}
use Rattle.rules.specs.declared.Kind.{Kind}
use Rattle.rules.specs.declared.Context.{Context}
use Rattle.rules.specs.declared.Context.TheVariants.{InHtml, InScript, InStyle, InJson, InAscii}
use Rattle.rules.proofs.Tests.{and_left, and_right, and_both, or_cases, or_left}
use Rattle.rules.proofs.Below.{below}
use Rattle.rules.proofs.Machine.{Makes}
use Rattle.rules.proofs.Chars.{is_tail, char-tails}
use Rattle.rules.proofs.Characters.{utf8-char}
use Rattle.rules.proofs.CharNumbers.{code-scalar, code-high, code-utf8}
use Rattle.rules.proofs.Numbers.{stands_good, stands-scalar}
use Rattle.rules.proofs.Ascii.{high-char, rule-high, is_bodily, body-bodily, body-ends, all_append, all_weaker, is_ascii, rule-ascii}
use Rattle.rules.proofs.AsciiBrowsed.{browsed, body-browsed}
use Rattle.rules.proofs.Browsing.{body_alike}
use Rattle.places.specs.Places.{Place, refers, place_step}
use Rattle.contained.proofs.Steps.{prev-free, one_byte}
use Rattle.contained.proofs.Heads.{char-case, mild, mild-takes, quiet, heads_none, quiet_keeps}
use Rattle.contained.proofs.Written.{reference-made}

-- The context writes some characters by rule.
abbrev pub has_rule : Context → Bool
has_rule (InHtml h) = false
has_rule (InScript q) = false
has_rule (InStyle q) = false
has_rule InJson = false
has_rule InAscii = true

-- What is written by rule is written by ascii_quoted.
pub rule-ruled : (c : Context) (k v : List ℕ) → by_rule c k ≡ some v → T (has_rule c) × (by_rule InAscii k ≡ some v)
rule-ruled InAscii k v e = (tt, e)
rule-ruled (InHtml h) k v e = absurd (none-ne-some v e)
rule-ruled (InScript q) k v e = absurd (none-ne-some v e)
rule-ruled (InStyle q) k v e = absurd (none-ne-some v e)
rule-ruled InJson k v e = absurd (none-ne-some v e)

-- A test of the contexts with a rule.
abbrev pub where_ruled : Context → Bool → Bool
where_ruled c b = not (has_rule c) || b

pub where-ruled : (c : Context) (b : Bool) → T (where_ruled c b) → (k v : List ℕ) → by_rule c k ≡ some v → T b
where-ruled c b t k v e = go (or_cases (not (has_rule c)) b t)
  where
    go : T (not (has_rule c)) ⊎ T b → T b
    go (inl n) = absurd (T_not (has_rule c) n (rule-ruled c k v e).0)
    go (inr u) = u

-- ---- its bytes

-- A letter, a digit, `#`, `&` or `;`.
abbrev pub is_mark : ℕ → Bool
is_mark b = is_bodily b || (eqb b 38 || eqb b 59)

rule-marks : (c : Context) (k v : List ℕ) → by_rule c k ≡ some v → T (all is_mark v)
rule-marks c k v e =
    subst (λ (v : List ℕ). T (all is_mark v)) (rule-high k v (rule-ruled c k v e).1).1
    (all_append is_mark (body_for k) (ascii ";") (all_weaker is_bodily is_mark (λ b t. or_left (is_bodily b) (eqb b 38 || eqb b 59) t) (body_for k) (body-bodily k)) tt)

-- Each of these bytes passes.
abbrev pub mark_bytes : (ℕ → Bool) → Bool
mark_bytes f = all (λ (b : ℕ). not (is_mark b) || f b) (bytes 0 127)

-- So does each byte that is written by rule.
pub rule-bytes : (c : Context) (f : ℕ → Bool) → T (mark_bytes f) → (k v : List ℕ) → by_rule c k ≡ some v → T (all f v)
rule-bytes c f t k v e = go v (rule-marks c k v e) (rule-ascii c k v e)
  where
    one : (x : ℕ) → T (is_mark x) → T (not (is_mark x)) ⊎ T (f x) → T (f x)
    one x m (inl n) = absurd (T_not (is_mark x) n m)
    one x m (inr u) = u

    go : (v : List ℕ) → T (all is_mark v) → T (all is_ascii v) → T (all f v)
    go [] m l = tt
    go (x ∷ v) m l =
        let low = ltb→lt x 128 (and_left (is_ascii x) (all is_ascii v) l) in
        and_both (f x) (all f v) (one x (and_left (is_mark x) (all is_mark v) m) (or_cases (not (is_mark x)) (f x) (below (λ (b : ℕ). not (is_mark b) || f b) 128 t x low)))
        (go v (and_right (is_mark x) (all is_mark v) m) (and_right (is_ascii x) (all is_ascii v) l))

-- It begins with `&`.
pub rule-amp : (c : Context) (k v : List ℕ) → by_rule c k ≡ some v → (s : List ℕ) × (v ≡ 38 ∷ s)
rule-amp c k v e = (body_for k ++ ascii ";", sym (rule-high k v (rule-ruled c k v e).1).1)

-- ---- a place that reads references

abbrev pub reads : Place → Bool
reads p = elim p.references [ none ↦ false | some kind ↦ true ]

pub unread-none : (p : Place) → p.references ≡ none → T (reads p) → ⊥
unread-none p q t = subst (λ (o : Option Kind). T (elim o [ none ↦ false | some kind ↦ true ])) q t

-- It does not keep each byte from an `&` on.
pub amp-read : (p : Place) (kind : Kind) → p.references ≡ some kind → (s : List ℕ) → T (all (quiet p) (38 ∷ s)) → ⊥
amp-read p kind q s t =
    subst (λ (o : Option Kind). T (not (refers o 38))) q (and_left (not (refers p.references 38)) (heads_none p.entries 38) (and_left (quiet p 38) (all (quiet p) s) t))

-- It takes what is written for a character as one reference.
pub rule-made : (c : Context) (p : Place) (kind : Kind) → p.references ≡ some kind → (k v : List ℕ) → by_rule c k ≡ some v → (r : List ℕ) → Makes (place_step p) (swap v (browsed k)) r
rule-made c p kind q k v e r =
    let (t, w) = rule-high k v (rule-ruled c k v e).1 in
    subst (λ (v : List ℕ). Makes (place_step p) (swap v (browsed k)) r) w
    (reference-made p kind q (body_for k ++ ascii ";") (browsed k) r
    (ap (reference_at kind) (append_assoc (body_for k) (ascii ";") r) ∙ body_alike kind (body_for k ++ 59 ∷ r) (body_for k) (browsed k) (body-ends k r) (body-browsed k t)))

-- That character is above 7F as well: its first byte is, and the others are 80 to BF.
browsed-number : (k : List ℕ) → T (is_high k) → 0x80 ≤ code_of (browsed k)
unfolding renumbering
browsed-number k t =
    let (c, l) = high-char k t in
    let s = stands-scalar (code_of k) (code-scalar k c) in
    let n = stands_for renumbering (code_of k) in
    let high : T (leb 0x80 n) = stands_good (leb 0x80) renumbering (code_of k) tt (le→leb 0x80 (code_of k) (code-high k c l)) in
    subst (λ (m : ℕ). 0x80 ≤ m) (sym (code-utf8 n (leb→le n 0x10FFFF (and_left (leb n 0x10FFFF) (not (inside (0xD800, 0xDFFF) n)) s)))) (leb→le 0x80 n high)

abbrev pub HighFirst : List ℕ → Type 0
HighFirst s = (x : ℕ) × (a : List ℕ) × (s ≡ x ∷ a) × T (leb 0x80 x) × T (all is_tail a)

pub rule-browsed : (c : Context) (k v : List ℕ) → by_rule c k ≡ some v → HighFirst (browsed k)
rule-browsed c k v e =
    let t = (rule-high k v (rule-ruled c k v e).1).0 in
    go (browsed k) (utf8-char (stands_for renumbering (code_of k)) (stands-scalar (code_of k) (code-scalar k (high-char k t).0))) (browsed-number k t)
  where
    go : (s : List ℕ) → IsChar s → 0x80 ≤ code_of s → HighFirst s
    go [] h l = absurd (let f : ⊥ = omega arith in f)
    go (x ∷ a) h l = one (char-case x a h)
      where
        one : ((x < 128) × (a ≡ [])) ⊎ T (leb 0x80 x) → HighFirst (x ∷ a)
        one (inl (low, q)) = absurd (let l = subst (λ (b : List ℕ). 0x80 ≤ code_of (x ∷ b)) q l in let f : ⊥ = omega arith in f)
        one (inr high) = (x, a, refl, high, char-tails x a h)

-- ---- one that does not

-- Bytes that are taken one by one, whatever follows; and kept, where each is.
pub bytes-taken : (p : Place) (v r : List ℕ) → T (all (mild p) v)
    → (ms : List Move) × ((q : ℕ) → moves (place_step p) q 0 (v ++ r) ≡ ms ++ moves (place_step p) 0 0 r) × (taken ms ≡ v) × (T (all (quiet p) v) → result ms ≡ v)
bytes-taken p [] r t = ([], (λ q. prev-free p q 0 r), refl, λ k. refl)
bytes-taken p (x ∷ v) r t =
    let m = place_step p 0 (x ∷ (v ++ r)) in
    let e = mild-takes p 0 x (v ++ r) (and_left (mild p x) (all (mild p) v) t) in
    let (ms, f, s, w) = bytes-taken p v r (and_right (mild p x) (all (mild p) v) t) in (
      m ∷ ms,
      (λ q. one_byte p q x (v ++ r) e ∙ ap (λ (ns : List Move). m ∷ ns) (f 0)),
      (λ i. e i ++ s i),
      λ k i. ap gives (quiet_keeps p 0 x (v ++ r) (and_left (quiet p x) (all (quiet p) v) k)) i ++ w (and_right (quiet p x) (all (quiet p) v) k) i,
    )
