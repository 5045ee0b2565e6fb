-- script_raw writes at most a quarter more than it reads: a `<` that gets a backslash is followed by three bytes that get none.
-- Assumes nothing.
use mathlib.Core.Bool.{Bool, true, false, ◌&&◌, ◌||◌}
use mathlib.Core.Path.{◌≡◌, refl, sym, ap, ◌∙◌, subst}
use mathlib.Core.List.{List, [], ◌∷◌, ◌++◌, map}
use Prim.Native.Nat.{ℕ, zero, suc, ◌*◌, ◌≤◌}
use native.Mathlib.Omega.{arith}
use borrow.Author.Tests.{eqb-true}
use lib.Dec.{eqb}
use lib.ListN.{length}
use Rattle.rules.specs.Bytes.{ascii, fits, stands, one_of}
use Rattle.rules.specs.Encoding.{any_case, terminators, closes, closes_at_end, parted, raw_step}
use Rattle.rules.specs.Operations.{raw_of}
use Rattle.rules.proofs.Stream.{true-false}
use Rattle.rules.proofs.RawAgain.{marked, piece, raw-cons}

-- Three bytes stand here, and each is left as it is.
abbrev Three : List ℕ → Type 0
Three s = (x y z : ℕ) × (r : List ℕ) × (s ≡ x ∷ y ∷ z ∷ r) × (eqb x 60 ≡ false) × (eqb y 60 ≡ false) × (eqb z 60 ≡ false)

-- A byte that an item takes which takes no `<` is none.
module _ {B : Type 0} (m : B → ℕ → Bool) where
  other : (a : B) (x : ℕ) → m a 60 ≡ false → m a x ≡ true → eqb x 60 ≡ false
  other a x n t = go (eqb x 60) refl
    where
      go : (y : Bool) → eqb x 60 ≡ y → y ≡ false
      go true e = true-false (sym t ∙ ap (m a) (eqb-true x 60 e) ∙ n)
      go false e = refl

  three : (a b c : B) (p : List B) (s : List ℕ) → m a 60 ≡ false → m b 60 ≡ false → m c 60 ≡ false → fits m (a ∷ b ∷ c ∷ p) s ≡ true → Three s
  three a b c p [] k l n e = true-false (sym e)
  three a b c p (x ∷ []) k l n e = true-false (sym (no (m a x) e))
    where
      no : (t : Bool) → (t && false) ≡ true → false ≡ true
      no true e = e
      no false e = e
  three a b c p (x ∷ y ∷ []) k l n e = true-false (sym (no (m a x) (m b y) e))
    where
      no : (t u : Bool) → (t && (u && false)) ≡ true → false ≡ true
      no true true e = e
      no true false e = e
      no false u e = e
  three a b c p (x ∷ y ∷ z ∷ r) k l n e = go (m a x) refl (m b y) refl (m c z) refl e
    where
      go : (t : Bool) → m a x ≡ t → (u : Bool) → m b y ≡ u → (v : Bool) → m c z ≡ v → (t && (u && (v && fits m p r))) ≡ true → Three (x ∷ y ∷ z ∷ r)
      go true f true g true h e = (x, y, z, r, refl, other a x k f, other b y l g, other c z n h)
      go true f true g false h e = true-false (sym e)
      go true f false g v h e = true-false (sym e)
      go false f u g v h e = true-false (sym e)

and_one : (x y : Bool) → (x && y) ≡ true → x ≡ true
and_one true y e = refl
and_one false y e = e

parted-three : (s : List ℕ) → parted s ≡ true → Three s
parted-three s e = go (stands (ascii "!--") s) refl (closes (ascii "/script") s) refl e
  where
    go : (x : Bool) → stands (ascii "!--") s ≡ x → (y : Bool) → closes (ascii "/script") s ≡ y → ((x || y) || closes_at_end (ascii "/script") s) ≡ true → Three s
    go true f y g e = three eqb 33 45 45 [] s refl refl refl f
    go false f true g e = three one_of (any_case 47) (any_case 115) (any_case 99) (map any_case (ascii "ript") ++ terminators ∷ []) s refl refl refl g
    go false f false g e =
        three one_of (any_case 47) (any_case 115) (any_case 99) (map any_case (ascii "ript")) s refl refl refl
        (and_one (fits one_of (map any_case (ascii "/script")) s) (eqb (length s) 7) e)

-- A byte that is no `<` is kept.
raw-other : (b : ℕ) (s : List ℕ) → eqb b 60 ≡ false → raw_of (b ∷ s) ≡ b ∷ raw_of s
raw-other b s e = raw-cons b s ∙ ap (λ (x : Bool). piece (x && parted s) b ++ raw_of s) e

abbrev Quarter : List ℕ → Type 0
Quarter s = 4 * length (raw_of s) ≤ 5 * length s

-- Where it holds of all shorter texts.
one_more : (n : ℕ) → ((r : List ℕ) → length r ≤ n → Quarter r) → (s : List ℕ) → length s ≤ suc n → Quarter s
one_more n ih [] h = omega arith
one_more n ih (b ∷ s) h = subst (λ (l : List ℕ). 4 * length l ≤ 5 * length (b ∷ s)) (sym (raw-cons b s)) (go (marked b s) refl)
  where
    plus : (a k : ℕ) → 4 * a ≤ 5 * k → 4 * suc a ≤ 5 * suc k
    plus a k e = omega arith

    four : (a k : ℕ) → 4 * a ≤ 5 * k → 4 * suc (suc (suc (suc (suc a)))) ≤ 5 * suc (suc (suc (suc k)))
    four a k e = omega arith

    second : (x : Bool) → (x && parted s) ≡ true → parted s ≡ true
    second true e = e
    second false e = true-false (sym e)

    go : (x : Bool) → marked b s ≡ x → 4 * length (piece x b ++ raw_of s) ≤ 5 * length (b ∷ s)
    go false e = plus (length (raw_of s)) (length s) (ih s (omega arith))
    go true e =
        let (x, y, z, r, q, f, g, k) = parted-three s (second (eqb b 60) e) in
        let w : raw_of s ≡ x ∷ y ∷ z ∷ raw_of r =
        ap raw_of q ∙ raw-other x (y ∷ z ∷ r) f ∙ ap (λ (l : List ℕ). x ∷ l) (raw-other y (z ∷ r) g) ∙ ap (λ (l : List ℕ). x ∷ y ∷ l) (raw-other z r k) in
        let d : length s ≡ suc (suc (suc (length r))) = ap length q in
        let i = ih r (omega (arith, d, h)) in
        subst (λ (l : List ℕ). 4 * suc (suc (length l)) ≤ 5 * suc (length s)) (sym w)
        (subst (λ (n : ℕ). 4 * suc (suc (suc (suc (suc (length (raw_of r)))))) ≤ 5 * suc n) (sym d) (four (length (raw_of r)) (length r) i))

none_more : (s : List ℕ) → length s ≤ 0 → Quarter s
none_more [] h = omega arith
none_more (b ∷ s) h = absurd (omega arith)

grown : (n : ℕ) → (s : List ℕ) → length s ≤ n → Quarter s
grown zero = none_more
grown (suc n) = one_more n (grown n)

-- At most a quarter more.
pub raw-quarter : (s : List ℕ) → 4 * length (raw_of s) ≤ 5 * length s
raw-quarter s = grown (length s) s (omega arith)

-- The figure is reached.
pub quarter-reached : 4 * length (raw_of (ascii "<!--")) ≡ 5 * length (ascii "<!--")
unfolding raw_step
quarter-reached = refl
