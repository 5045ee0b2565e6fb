-- The identifiers of browse. Letters and digits are all that a name has, so one with its `;` is the whole body before that `;`, and none without is longer; and no
-- name without `;` begins another. So the longest that stands is the body with its `;`, if it is a name, and otherwise the one name without `;` that stands.
-- Assumes nothing.
use mathlib.Core.Bool.{Bool}
use mathlib.Core.Logic.{◌⊎◌, inl, inr}
use mathlib.Core.Option.{Option, none, some, some-injective, none-ne-some}
use mathlib.Core.Path.{◌≡◌, refl, sym, ap, ◌∙◌, subst}
use mathlib.Core.List.{List, [], ◌∷◌, ◌++◌, map, append_assoc}
use Prim.Native.Nat.{ℕ, ◌≤◌}
use native.Mathlib.Nat.{suc_inj, suc-ne-zero}
use native.Mathlib.Omega.{arith}
use borrow.Author.Tests.{le-leb, leb-false}
use lib.Dec.{T, eqb, ltb, eqb→eq, leb→le}
use lib.ListN.{length, length-append}
use Rattle.rules.specs.Bytes.{ascii, In, all, stands}
use Rattle.rules.specs.Tables.{Row, key, value, letter_or_digit}
use Rattle.rules.specs.Names.{names, rising}
use Rattle.rules.specs.References.{body_of, lookup}
use Rattle.rules.specs.Reasons.{Ampless, Endless}
use Rattle.rules.specs.Bare.{bare}
use Rattle.rules.specs.Browsing.{given, with_end, without_end, identifiers, as_long, Longest, matched}
use Rattle.rules.proofs.Tests.{and_left, and_right, all_in, distinct, differ, differ-law, first-in, in-append, in_right, in_map, map-in, stands_self, stands-split}
use Rattle.rules.proofs.Names.{looked-up}
use Rattle.rules.proofs.Search.{body-none, body-some}
use Rattle.rules.proofs.Order.{lookup-in}
use Rattle.rules.proofs.Best.{Prefers, best-in, best-over, best_none}
use Rattle.rules.proofs.Whole.{body-split}

-- ---- the names without `;`

pub bare-size : length bare ≡ 106
unfolding bare
bare-size = refl

-- They rise strictly, byte by byte.
pub bare-rise : T (rising (map without_end bare))
unfolding bare
bare-rise = tt

-- Each is a name of the table.
pub bare-named : T (all (λ (name : List ℕ). ltb 0 (length (given (lookup names name)))) bare)
unfolding bare names
bare-named = tt

-- None begins another.
pub bare_apart : T (distinct differ bare)
unfolding bare
bare_apart = tt

pub bare-wordy : T (all (all letter_or_digit) bare)
unfolding bare
bare-wordy = tt

-- ---- names have letters and digits only

abbrev wordy : Row → Bool
wordy row = all letter_or_digit (key row)

pub names-wordy : T (all wordy names)
unfolding names
names-wordy = tt

pub word-no-amp : (n : List ℕ) → T (all letter_or_digit n) → Ampless n
word-no-amp n t x i e = subst (λ (b : ℕ). T (letter_or_digit b)) (eqb→eq x 38 e) (all_in letter_or_digit n t x i)

pub word-no-end : (n : List ℕ) → T (all letter_or_digit n) → Endless n
word-no-end n t x i e = subst (λ (b : ℕ). T (letter_or_digit b)) (eqb→eq x 59 e) (all_in letter_or_digit n t x i)

-- One with its `;` stands only where it is the body.
ended-body : (n s : List ℕ) → T (all letter_or_digit n) → T (stands (n ++ ascii ";") s) → body_of s ≡ some n
ended-body n s t u =
    let (r, e) = stands-split (n ++ ascii ";") s u in
    ap body_of (e ∙ append_assoc n (ascii ";") r) ∙ body-some n r (word-no-amp n t) (word-no-end n t)

-- One that stands is no longer than the body.
word-within : (n body r : List ℕ) → T (all letter_or_digit n) → T (stands n (body ++ 59 ∷ r)) → length n ≤ length body
word-within [] body r t u = omega arith
word-within (x ∷ n) [] r t u =
    absurd (subst (λ (b : ℕ). T (letter_or_digit b)) (eqb→eq x 59 (and_left (eqb x 59) (stands n r) u)) (and_left (letter_or_digit x) (all letter_or_digit n) t))
word-within (x ∷ n) (y ∷ body) r t u =
    let h = word-within n body r (and_right (letter_or_digit x) (all letter_or_digit n) t) (and_right (eqb x y) (stands n (body ++ 59 ∷ r)) u) in
    omega (arith, h)

-- ---- the identifiers

in_left : {A : Type 0} (a : A) (xs ys : List A) → In a xs → In a (xs ++ ys)
in_left a [] ys i = absurd i
in_left a (x ∷ xs) ys (inl e) = inl e
in_left a (x ∷ xs) ys (inr i) = inr (in_left a xs ys i)

-- An identifier is a name with its `;`, or one of the names without.
abbrev pub Ended : Row → Type 0
Ended row = (x : Row) × In x names × (row ≡ with_end x)

abbrev pub Bare : Row → Type 0
Bare row = (n : List ℕ) × In n bare × (row ≡ without_end n)

pub identifier-cases : (row : Row) → In row identifiers → Ended row ⊎ Bare row
unfolding identifiers
identifier-cases row i = go (in-append row (map with_end names) (map without_end bare) i)
  where
    go : In row (map with_end names) ⊎ In row (map without_end bare) → Ended row ⊎ Bare row
    go (inl j) = inl (in_map with_end row names j)
    go (inr j) = inr (in_map without_end row bare j)

pub ended-in : (x : Row) → In x names → In (with_end x) identifiers
unfolding identifiers
ended-in x i = in_left (with_end x) (map with_end names) (map without_end bare) (map-in with_end x names i)

pub bare-in : (n : List ℕ) → In n bare → In (without_end n) identifiers
unfolding identifiers
bare-in n i = in_right (without_end n) (map with_end names) (map without_end bare) (map-in without_end n bare i)

pub name-wordy : (x : Row) → In x names → T (all letter_or_digit (key x))
name-wordy x i = all_in wordy names names-wordy x i

bare-word : (n : List ℕ) → In n bare → T (all letter_or_digit n)
bare-word n i = all_in (all letter_or_digit) bare bare-wordy n i

-- No identifier is there twice.
key-once : (a b : Row) → In a identifiers → In b identifiers → key a ≡ key b → a ≡ b
key-once a b i j e = go (identifier-cases a i) (identifier-cases b j)
  where
    self : (n : List ℕ) → T (all letter_or_digit n) → body_of (n ++ ascii ";") ≡ some n
    self n t = body-some n [] (word-no-amp n t) (word-no-end n t)

    no_body : (n : List ℕ) → T (all letter_or_digit n) → body_of n ≡ none
    no_body n t = ap body_of (sym (nil n)) ∙ body-none n [] (word-no-end n t) refl
      where
        nil : (n : List ℕ) → n ++ [] ≡ n
        nil [] = refl
        nil (x ∷ n) = ap (λ (l : List ℕ). x ∷ l) (nil n)

    mixed : (x : Row) → In x names → (n : List ℕ) → In n bare → key x ++ ascii ";" ≡ n → ⊥
    mixed x k n l q = none-ne-some (key x) (sym (no_body n (bare-word n l)) ∙ ap body_of (sym q) ∙ self (key x) (name-wordy x k))

    both : (x y : Row) → In x names → In y names → key x ++ ascii ";" ≡ key y ++ ascii ";" → with_end x ≡ with_end y
    both x y k l q =
        let same : key x ≡ key y = some-injective (key x) (key y) (sym (self (key x) (name-wordy x k)) ∙ ap body_of q ∙ self (key y) (name-wordy y l)) in
        let alike : value x ≡ value y = some-injective (value x) (value y) (sym (lookup-in x k) ∙ ap (lookup names) same ∙ lookup-in y l) in
        λ h. (q h, alike h)

    go : Ended a ⊎ Bare a → Ended b ⊎ Bare b → a ≡ b
    go (inl (x, k, p)) (inl (y, l, q)) = p ∙ both x y k l (sym (ap key p) ∙ e ∙ ap key q) ∙ sym q
    go (inl (x, k, p)) (inr (n, l, q)) = absurd (mixed x k n l (sym (ap key p) ∙ e ∙ ap key q))
    go (inr (m, k, p)) (inl (y, l, q)) = absurd (mixed y l m k (sym (ap key q) ∙ sym e ∙ ap key p))
    go (inr (m, k, p)) (inr (n, l, q)) = p ∙ ap without_end (sym (ap key p) ∙ e ∙ ap key q) ∙ sym q

-- ---- the longest

longer : Prefers as_long
longer = record {
  self = λ x. rw (le-leb (length (key x)) (length (key x)) (omega arith)) tt;
  total = λ x y e. rw (le-leb (length (key x)) (length (key y)) (let h = leb-false (length (key y)) (length (key x)) e in omega arith)) tt;
  trans = λ x y z s t. rw (le-leb (length (key z)) (length (key x)) (let h = leb→le (length (key y)) (length (key x)) s in let k = leb→le (length (key z)) (length (key y)) t in omega arith)) tt;
}

module _ (s : List ℕ) where
  abbrev fits-here : Row → Bool
  fits-here row = stands (key row) s

  -- The match is the longest: no longer identifier of the table stands here.
  pub matched-longest : (row : Row) → matched s ≡ some row → Longest s row
  matched-longest row e =
      let (i, t) = best-in as_long fits-here identifiers row e in
      (i, t, λ other j u. leb→le (length (key other)) (length (key row)) (best-over as_long fits-here longer identifiers row e other j u))

  -- Where there is no match, none stands here.
  pub matched-none : matched s ≡ none → (row : Row) → In row identifiers → T (stands (key row) s) → ⊥
  matched-none e row i t = best_none as_long fits-here identifiers e row i t

  stands_same : (a b r : List ℕ) → T (stands a r) → T (stands b r) → length a ≡ length b → a ≡ b
  stands_same [] [] r t u e = refl
  stands_same [] (y ∷ b) r t u e = absurd (suc-ne-zero (length b) (sym e))
  stands_same (x ∷ a) [] r t u e = absurd (suc-ne-zero (length a) e)
  stands_same (x ∷ a) (y ∷ b) [] t u e = absurd t
  stands_same (x ∷ a) (y ∷ b) (z ∷ r) t u e =
      λ i. (eqb→eq x z (and_left (eqb x z) (stands a r) t) ∙ sym (eqb→eq y z (and_left (eqb y z) (stands b r) u))) i
      ∷ stands_same a b r (and_right (eqb x z) (stands a r) t) (and_right (eqb y z) (stands b r) u) (suc_inj e) i

  -- The longest is the match.
  pub longest-matched : (row : Row) → Longest s row → matched s ≡ some row
  longest-matched row l = go (matched s) refl
    where
      equal : (a b : ℕ) → a ≤ b → b ≤ a → a ≡ b
      equal a b h k = omega arith

      go : (o : Option Row) → matched s ≡ o → matched s ≡ some row
      go none e = absurd (matched-none e row l.0 l.1)
      go (some b) e =
          let (i, t, most) = matched-longest b e in
          let long = equal (length (key b)) (length (key row)) (l.2 b i t) (most row l.0 l.1) in
          e ∙ ap some (key-once b row i l.0 (stands_same (key b) (key row) s t l.1 long))

  none-matched : ((row : Row) → In row identifiers → T (stands (key row) s) → ⊥) → matched s ≡ none
  none-matched h = go (matched s) refl
    where
      go : (o : Option Row) → matched s ≡ o → matched s ≡ none
      go none e = e
      go (some b) e = let (i, t, most) = matched-longest b e in absurd (h b i t)

  -- ---- how it is found

  -- The body before the next `;` is a name: it is the match, with the `;`.
  pub match-ended : (body v : List ℕ) → body_of s ≡ some body → lookup names body ≡ some v → matched s ≡ some (body ++ ascii ";", v)
  match-ended body v e f =
      let (r, w) = body-split s body e in
      let i = looked-up names body v f in
      let here : T (stands (body ++ ascii ";") s) = subst (λ (l : List ℕ). T (stands (body ++ ascii ";") l)) (append_assoc body (ascii ";") r ∙ sym w) (stands_self (body ++ ascii ";") r) in
      longest-matched (body ++ ascii ";", v) (ended-in (body, v) i, here, most r w)
    where
      most : (r : List ℕ) → s ≡ body ++ 59 ∷ r → (other : Row) → In other identifiers → T (stands (key other) s) → length (key other) ≤ length (body ++ ascii ";")
      most r w other j u = go (identifier-cases other j)
        where
          go : Ended other ⊎ Bare other → length (key other) ≤ length (body ++ ascii ";")
          go (inl (x, k, p)) =
              let same : key x ≡ body = some-injective (key x) body (sym (ended-body (key x) s (name-wordy x k) (subst (λ (o : Row). T (stands (key o) s)) p u)) ∙ e) in
              subst (λ (l : List ℕ). length l ≤ length (body ++ ascii ";")) (sym (ap key p ∙ ap (λ (l : List ℕ). l ++ ascii ";") same)) (omega arith)
          go (inr (n, k, p)) =
              let h : length n ≤ length body = word-within n body r (bare-word n k) (subst (λ (l : List ℕ). T (stands n l)) w (subst (λ (o : Row). T (stands (key o) s)) p u)) in
              rw (ap key p, length-append body (ascii ";")) (omega (arith, h))

  -- No name stands here with its `;`.
  abbrev pub Unended : Type 0
  Unended = (body v : List ℕ) → body_of s ≡ some body → lookup names body ≡ some v → ⊥

  unended : Unended → (x : Row) → In x names → T (stands (key x ++ ascii ";") s) → ⊥
  unended h x i u = h (key x) (value x) (ended-body (key x) s (name-wordy x i) u) (lookup-in x i)

  -- Then a name without `;` that stands here is the match.
  pub match-bare : Unended → (n : List ℕ) → In n bare → T (stands n s) → matched s ≡ some (without_end n)
  match-bare h n i t = longest-matched (without_end n) (bare-in n i, t, most)
    where
      most : (other : Row) → In other identifiers → T (stands (key other) s) → length (key other) ≤ length n
      most other j u = go (identifier-cases other j)
        where
          go : Ended other ⊎ Bare other → length (key other) ≤ length n
          go (inl (x, k, p)) = absurd (unended h x k (subst (λ (o : Row). T (stands (key o) s)) p u))
          go (inr (m, k, p)) =
              let found = first-in stands differ differ-law bare bare_apart in
              let same : m ≡ n = some-injective m n (sym (found m s k (subst (λ (o : Row). T (stands (key o) s)) p u)) ∙ found n s i t) in
              subst (λ (l : List ℕ). length l ≤ length n) (sym (ap key p ∙ same)) (omega arith)

  -- If none does, there is no match.
  pub match_none : Unended → ((n : List ℕ) → In n bare → T (stands n s) → ⊥) → matched s ≡ none
  match_none h k = none-matched nothing
    where
      nothing : (row : Row) → In row identifiers → T (stands (key row) s) → ⊥
      nothing row i t = go (identifier-cases row i)
        where
          go : Ended row ⊎ Bare row → ⊥
          go (inl (x, j, p)) = unended h x j (subst (λ (o : Row). T (stands (key o) s)) p t)
          go (inr (n, j, p)) = k n j (subst (λ (o : Row). T (stands (key o) s)) p t)
