-- A text is cut short exactly if what follows its longest valid prefix begins a sequence and leaves some of it: a start begins with no character, so
-- the longest valid prefix ends where it begins; and the least bytes of the ranges that are left complete it.
-- Assumes nothing.
use mathlib.Core.Bool.{Bool}
use mathlib.Core.Logic.{◌↔◌}
use mathlib.Core.Option.{Option, none}
use mathlib.Core.Path.{◌≡◌, refl, sym, ap, ◌∙◌, subst}
use mathlib.Core.List.{List, [], ◌∷◌, ◌++◌, map, append_assoc, append-nil}
use Prim.Native.Nat.{ℕ, suc, pred, ◌+◌, ◌<◌}
use native.Mathlib.Nat.{suc_inj, suc-ne-zero}
use native.Mathlib.Omega.{arith}
use lib.Dec.{T}
use lib.ListN.{length, take, drop, take-append-drop, length-append, length-drop}
use lib.Seq.{drop_at}
use Rattle.rules.specs.Bytes.{all, fits, opens, Range, inside}
use Rattle.rules.specs.Moves.{Move, takes, moves, taken, place, and_then}
use Rattle.rules.specs.Utf8.{sequences, IsText, IsStart, IsCut, sequence_at, keep_char, char_step, valid_to, is_cut}
use Rattle.rules.proofs.Tests.{and_left, and_right, and_both, all_in, any-in, any-intro, first-none, fits-take, fits-length}
use Rattle.rules.proofs.Machine.{retrace}
use Rattle.rules.proofs.Codes.{follows}
use Rattle.rules.proofs.Chars.{char-unique}
use Rattle.rules.proofs.Valid.{chars-read, chars-run, valid-prefix, valid-iff}

-- ---- the longest valid prefix ends where a start begins

-- No character stands at the head of a start: it would be the one that the start can be completed to, which is longer.
none-stands : (a : List ℕ) → IsStart a → sequence_at a ≡ none
none-stands a h =
    first-none (fits inside) sequences a (λ q i t.
    let (r, c, pa, pr) = h in
    let b = take (length q) a in
    let e : a ≡ b ++ drop (length q) a = sym (take-append-drop (length q) a) in
    let u = char-unique b (a ++ r) (drop (length q) a ++ r) [] (q, i, fits-take inside q a t, fits-length inside q a t) c
    (sym (append_assoc b (drop (length q) a) r) ∙ ap (λ (s : List ℕ). s ++ r) (sym e) ∙ sym (append-nil (a ++ r))) in
    short (length b) (length (drop (length q) a)) (length a) (length r) (ap length e ∙ length-append b (drop (length q) a)) (ap length u ∙ length-append a r) pr)
  where
    short : (b d a r : ℕ) → a ≡ b + d → b ≡ a + r → 0 < r → ⊥
    short b d a r e f h = omega arith

no-moves : (a : List ℕ) (p : ℕ) → IsStart a → moves char_step p 0 a ≡ []
unfolding char_step
no-moves [] p h = refl
no-moves (x ∷ a) p h =
    ap (λ (o : Option (List Range)). and_then (keep_char o (x ∷ a)) (moves char_step x (pred (length (takes (keep_char o (x ∷ a))))) a)) (none-stands (x ∷ a) h)

valid-there : (t a : List ℕ) → IsText t → IsStart a → valid_to (t ++ a) ≡ length t
valid-there t a text h =
    let (cs, all, e) = text in
    let (us, g, f) = chars-run cs all in
    let (q, m) = retrace char_step 0 us a (follows chars-read us g a) in
    ap (λ (s : List ℕ). valid_to (s ++ a)) (e ∙ f)
    ∙ ap place m
    ∙ ap (λ (ms : List Move). place (us ++ ms)) (no-moves a q h)
    ∙ ap length (ap taken (append-nil us))
    ∙ ap length (sym (e ∙ f))

-- ---- a start begins a sequence

opens-start : (q : List Range) (a r : List ℕ) → T (fits inside q (a ++ r)) → length (a ++ r) ≡ length q → 0 < length r → T (opens inside q a)
opens-start [] [] r t e h = absurd (omega arith)
opens-start [] (x ∷ a) r t e h = absurd (suc-ne-zero (length (a ++ r)) e)
opens-start (p ∷ q) [] r t e h = tt
opens-start (p ∷ q) (x ∷ a) r t e h =
    and_both (inside p x) (opens inside q a) (and_left (inside p x) (fits inside q (a ++ r)) t)
    (opens-start q a r (and_right (inside p x) (fits inside q (a ++ r)) t) (suc_inj e) h)

start-cut : (a : List ℕ) → IsStart a → T (is_cut a)
unfolding is_cut
start-cut a h =
    let (r, c, pa, pr) = h in
    let (q, i, f, e) = c in
    any-intro (λ (q : List Range). opens inside q a) sequences q i (opens-start q a r f e pr)

-- ---- what begins a sequence can be completed

-- Each range of a sequence has its least byte.
abbrev ordered : List Range → Bool
ordered q = all (λ (r : Range). inside r r.0) q

all-ordered : T (all ordered sequences)
all-ordered = tt

abbrev least : List Range → List ℕ
least q = map (λ (r : Range). r.0) q

least_fits : (q : List Range) → T (ordered q) → T (fits inside q (least q)) × (length (least q) ≡ length q)
least_fits [] s = (tt, refl)
least_fits (p ∷ q) s =
    let (f, e) = least_fits q (and_right (inside p p.0) (ordered q) s) in
    (and_both (inside p p.0) (fits inside q (least q)) (and_left (inside p p.0) (ordered q) s) f, ap suc e)

completed : (q : List Range) (a : List ℕ) → T (ordered q) → T (opens inside q a)
    → (r : List ℕ) × T (fits inside q (a ++ r)) × (length (a ++ r) ≡ length q) × (0 < length r)
completed [] a s t = absurd t
completed (p ∷ q) [] s t = let (f, e) = least_fits (p ∷ q) s in (least (p ∷ q), f, e, omega arith)
completed (p ∷ q) (x ∷ a) s t =
    let (r, f, e, h) = completed q a (and_right (inside p p.0) (ordered q) s) (and_right (inside p x) (opens inside q a) t) in
    (r, and_both (inside p x) (fits inside q (a ++ r)) (and_left (inside p x) (opens inside q a) t) f, ap suc e, h)

cut-start : (a : List ℕ) → 0 < length a → T (is_cut a) → IsStart a
unfolding is_cut
cut-start a h t =
    let (q, i, o) = any-in (λ (q : List Range). opens inside q a) sequences t in
    let (r, f, e, l) = completed q a (all_in ordered sequences all-ordered q i) o in
    (r, (q, i, f, e), h, l)

-- ---- the law

-- A text is cut short exactly if it is not valid, and what follows its longest valid prefix begins a sequence.
pub cut-iff : (s : List ℕ) → IsCut s ↔ ((valid_to s < length s) × T (is_cut (drop (valid_to s) s)))
cut-iff s = (there, back)
  where
    less : (v t a s : ℕ) → v ≡ t → s ≡ t + a → 0 < a → v < s
    less v t a s e f h = omega arith

    there : IsCut s → (valid_to s < length s) × T (is_cut (drop (valid_to s) s))
    there c =
        let (t, a, text, h, e) = c in
        let v : valid_to s ≡ length t = ap valid_to e ∙ valid-there t a text h in (
          less (valid_to s) (length t) (length a) (length s) v (ap length e ∙ length-append t a) h.2,
          subst (λ (l : List ℕ). T (is_cut l)) (sym ((λ i. drop (v i) (e i)) ∙ drop_at t a (length t) refl)) (start-cut a h),
        )

    back : (valid_to s < length s) × T (is_cut (drop (valid_to s) s)) → IsCut s
    back p =
        let d = length-drop (valid_to s) s in
        (take (valid_to s) s, drop (valid_to s) s, valid-prefix s, cut-start (drop (valid_to s) s) (omega (arith, d, p.0)) p.1, sym (take-append-drop (valid_to s) s))

-- Such a text is not valid.
pub cut-no-text : (s : List ℕ) → IsCut s → IsText s → ⊥
cut-no-text s c t = let h = ((cut-iff s).0 c).0 in let e = (valid-iff s).0 t in omega (arith, h, e)
