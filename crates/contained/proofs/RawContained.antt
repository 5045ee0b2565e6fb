-- script_raw in a script element: whatever is typed, what it writes stays there before the end tag, and the escaped states are never entered: it leaves no `<`
-- before `!--` or an end tag's name.
-- Assumes nothing.
use mathlib.Core.Bool.{Bool, true, false, not, ◌&&◌, ◌||◌}
use mathlib.Core.Logic.{inl, inr}
use mathlib.Core.Path.{◌≡◌, refl, sym, ap, ◌∙◌, subst}
use mathlib.Core.List.{List, [], ◌∷◌, ◌++◌, map, append-nil}
use Prim.Native.Nat.{ℕ}
use lib.Dec.{T, eqb, eqb→eq, T_not}
use Rattle.rules.specs.Bytes.{ascii, In, all, fits, stands, one_of}
use Rattle.rules.specs.Moves.{Move, takes, moves, through, taken}
use Rattle.rules.specs.Encoding.{any_case, terminators, closes, closes_at_end, parted}
use Rattle.rules.specs.ScriptData.{name_ends}
use Rattle.rules.specs.Operations.{raw_of}
use Rattle.rules.proofs.Tests.{and_left, and_right, and_both, or_left, or_right, all_in, any-in}
use Rattle.rules.proofs.RawAgain.{marked, marks, marks-cons, raw-quiet, less_free}
use Rattle.rules.proofs.RawCloses.{tally-zero}
use Rattle.places.specs.Places.{leaves, Entry, place_step, exactly, stand_for, nul_replaced}
use Rattle.places.specs.HtmlPlaces.{end_tag, script_data}
use Rattle.contained.proofs.Steps.{prev-free, one_byte, left_there}
use Rattle.contained.proofs.Heads.{mild, mild-takes, exact-stands, none_kept}

-- ---- patterns

-- A pattern without `<` that stands before some text and a `<` stands in the text.
fits-before : (ps : List (List ℕ)) (s w : List ℕ) → T (less_free one_of ps) → T (fits one_of ps (s ++ 60 ∷ w)) → T (fits one_of ps s)
fits-before [] s w n f = tt
fits-before (set ∷ ps) [] w n f = absurd (T_not (one_of set 60) (and_left (not (one_of set 60)) (less_free one_of ps) n) (and_left (one_of set 60) (fits one_of ps w) f))
fits-before (set ∷ ps) (b ∷ s) w n f =
    and_both (one_of set b) (fits one_of ps s) (and_left (one_of set b) (fits one_of ps (s ++ 60 ∷ w)) f)
    (fits-before ps s w (and_right (not (one_of set 60)) (less_free one_of ps) n) (and_right (one_of set b) (fits one_of ps (s ++ 60 ∷ w)) f))

-- Each set is within the one beside it.
abbrev narrower : List (List ℕ) → List (List ℕ) → Bool
narrower [] [] = true
narrower [] (q ∷ qs) = false
narrower (p ∷ ps) [] = false
narrower (p ∷ ps) (q ∷ qs) = all (one_of q) p && narrower ps qs

fits_wider : (ps qs : List (List ℕ)) (s : List ℕ) → T (narrower ps qs) → T (fits one_of ps s) → T (fits one_of qs s)
fits_wider [] [] s n f = tt
fits_wider [] (q ∷ qs) s n f = absurd n
fits_wider (p ∷ ps) [] s n f = absurd n
fits_wider (p ∷ ps) (q ∷ qs) [] n f = absurd f
fits_wider (p ∷ ps) (q ∷ qs) (x ∷ s) n f =
    let (z, i, e) = any-in (eqb x) p (and_left (one_of p x) (fits one_of ps s) f) in
    and_both (one_of q x) (fits one_of qs s) (subst (λ (y : ℕ). T (one_of q y)) (sym (eqb→eq x z e)) (all_in (one_of q) p (and_left (all (one_of q) p) (narrower ps qs) n) z i))
    (fits_wider ps qs s (and_right (all (one_of q) p) (narrower ps qs) n) (and_right (one_of p x) (fits one_of ps s) f))

-- ---- at a `<`

-- What follows a `<` that leaves the place is parted from it by script_raw.
abbrev slash_script : List (List ℕ)
slash_script = exactly (ascii "/") ++ map any_case (ascii "script") ++ name_ends ∷ []

script-parted : (s : List ℕ) → T (fits one_of slash_script s) → T (parted s)
script-parted s f =
    or_left (stands (ascii "!--") s || closes (ascii "/script") s) (closes_at_end (ascii "/script") s)
    (or_right (stands (ascii "!--") s) (closes (ascii "/script") s) (fits_wider slash_script (map any_case (ascii "/script") ++ terminators ∷ []) s tt f))

comment-parted : (s : List ℕ) → T (fits one_of (exactly (ascii "!--")) s) → T (parted s)
comment-parted s f =
    or_left (stands (ascii "!--") s || closes (ascii "/script") s) (closes_at_end (ascii "/script") s)
    (or_left (stands (ascii "!--") s) (closes (ascii "/script") s) (exact-stands (exactly (ascii "!--")) (ascii "!--") s tt f))

-- So any other `<` is kept.
less-takes : (s w : List ℕ) → (T (parted s) → ⊥) → takes (place_step script_data 0 (60 ∷ (s ++ 60 ∷ w))) ≡ 60 ∷ []
less-takes s w n = ap takes (none_kept script_data 0 60 (s ++ 60 ∷ w) (λ a. a) go)
  where
    moved : (e d : Entry) → e ≡ d → T (fits one_of e.0 (60 ∷ (s ++ 60 ∷ w))) → T (fits one_of d.0 (60 ∷ (s ++ 60 ∷ w)))
    moved e d q f = subst (λ (d : Entry). T (fits one_of d.0 (60 ∷ (s ++ 60 ∷ w)))) q f

    go : (e : Entry) → In e script_data.entries → T (fits one_of e.0 (60 ∷ (s ++ 60 ∷ w))) → ⊥
    go e (inl q) f = n (script-parted s (fits-before slash_script s w tt (moved e (end_tag (ascii "script")) q f)))
    go e (inr (inl q)) f = n (comment-parted s (fits-before (exactly (ascii "!--")) s w tt (moved e (exactly (ascii "<!--"), leaves) q f)))
    go e (inr (inr (inl q))) f = moved e nul_replaced q f
    go e (inr (inr (inr (inl q)))) f = subst (λ (d : Entry). T (fits one_of d.0 (60 ∷ (s ++ 60 ∷ w)))) q f
    go e (inr (inr (inr (inr (inl q))))) f = moved e (stand_for (13 ∷ []) (10 ∷ [])) q f
    go e (inr (inr (inr (inr (inr i))))) f = i

-- ---- at any other byte

mild-other : (b : ℕ) → eqb b 60 ≡ false → T (mild script_data b)
mild-other b e = go (eqb b 60) e
  where
    late : (x : Bool) → T (not x || true)
    late x = or_right (not x) true tt

    go : (x : Bool) → x ≡ false
        → T ((not (x || false) || false) && ((not (x || false) || false) && ((not (eqb b 0 || false) || true) && ((not (eqb b 13 || false) || true) && ((not (eqb b 13 || false) || true) && true)))))
    go true e = absurd (subst T e tt)
    go false e =
        and_both (not (eqb b 0 || false) || true) ((not (eqb b 13 || false) || true) && ((not (eqb b 13 || false) || true) && true)) (late (eqb b 0 || false))
        (and_both (not (eqb b 13 || false) || true) ((not (eqb b 13 || false) || true) && true) (late (eqb b 13 || false))
        (and_both (not (eqb b 13 || false) || true) true (late (eqb b 13 || false)) tt))

-- ---- through the text

-- Bytes that script_raw leaves as they are, before a `<`.
quiet-moves : (s w : List ℕ) → marks s ≡ 0 → (ms : List Move) × ((q : ℕ) → moves (place_step script_data) q 0 (s ++ 60 ∷ w) ≡ ms ++ moves (place_step script_data) 0 0 (60 ∷ w)) × (taken ms ≡ s)
quiet-moves [] w z = ([], (λ q. prev-free script_data q 0 (60 ∷ w)), refl)
quiet-moves (b ∷ s) w z =
    let (u, y) = tally-zero (marked b s) (marks s) (sym (marks-cons b s) ∙ z) in
    let (ms, f, t) = quiet-moves s w y in
    let m = place_step script_data 0 (b ∷ (s ++ 60 ∷ w)) in
    let e = one (eqb b 60) refl u in
    (m ∷ ms, (λ q. one_byte script_data q b (s ++ 60 ∷ w) e ∙ ap (λ (ns : List Move). m ∷ ns) (f 0)), λ i. e i ++ t i)
  where
    one : (x : Bool) → eqb b 60 ≡ x → x && parted s ≡ false → takes (place_step script_data 0 (b ∷ (s ++ 60 ∷ w))) ≡ b ∷ []
    one false e u = mild-takes script_data 0 b (s ++ 60 ∷ w) (mild-other b e)
    one true e u =
        subst (λ (x : ℕ). takes (place_step script_data 0 (x ∷ (s ++ 60 ∷ w))) ≡ x ∷ []) (sym (eqb→eq b 60 (subst T (sym e) tt))) (less-takes s w (λ t. subst T u t))

-- Whatever is typed: up to the end tag the place takes exactly what script_raw writes.
pub raw-contained : (s r : List ℕ) → taken (through (place_step script_data) (raw_of s ++ (ascii "</script>" ++ r))) ≡ raw_of s
unfolding place_step
raw-contained s r =
    let (ms, f, t) = quiet-moves (raw_of s) (ascii "/script>" ++ r) (raw-quiet s) in
    ap taken (f 0 ∙ ap (λ (ns : List Move). ms ++ ns) (left_there script_data (ascii "</script>") r tt) ∙ append-nil ms) ∙ t
