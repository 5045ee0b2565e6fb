-- The two digits of a byte are read as that byte, and what is read as a byte is its two digits.
-- Assumes nothing.
use mathlib.Core.Bool.{Bool, true, false, ◌&&◌, cond}
use mathlib.Core.Option.{none, some}
use Rattle.std.specs.Prelude.{Option, Some, None}
use mathlib.Core.Path.{◌≡◌, refl, sym, ap, ◌∙◌, subst}
use mathlib.Core.List.{List, [], ◌∷◌, ◌++◌}
use Prim.Native.Nat.{ℕ, ◌+◌, ◌-◌, ◌*◌, ◌/◌, ◌%◌, ◌≤◌, ◌<◌}
use native.Mathlib.Omega.{arith}
use lib.Dec.{T, leb, ltb, eqb, eqb→eq, eqb_refl, leb→le}
use lib.ListN.{length, drop, get_or}
use lib.Seq.{drop-append_seam}
use borrow.Author.Tests.{lt-ltb, le-ltb, ltb-true}
use Rattle.rules.specs.Bytes.{stands, inside}
use Rattle.rules.specs.References.{hex_digit_at}
use Rattle.rules.specs.Tables.{hex_digit, hex_pair}
use Rattle.rules.specs.declared.Language.{Language}
use Rattle.rules.specs.declared.Language.TheVariants.{Script, Style}
use Rattle.rules.proofs.Tests.{and_left, and_right, and_both, stands-split}
use Rattle.rules.proofs.EveryByte.{every_byte_lem}
use Rattle.base.specs.Digits.{found_as, upper_digit}
use Rattle.decode_strings.specs.Hex.{both, pair_of, hex_before, hex_between}
use Rattle.decode_strings.specs.Strings.{hex_escape}

abbrev reads : Option ℕ → ℕ → Bool
reads None b = false
reads (Some v) b = eqb v b

reads-it : (o : Option ℕ) (b : ℕ) → T (reads o b) → o ≡ Some b
reads-it None b t = absurd t
reads-it (Some v) b t = ap (λ (v : ℕ). Some v) (eqb→eq v b t)

abbrev again : ℕ → Bool
unfolding pair_of upper_digit
again b = reads (pair_of (hex_digit (b / 16)) (hex_digit (b % 16))) b

-- The two digits of a byte have its value.
pub pair-digits : (b : ℕ) → b < 256 → pair_of (hex_digit (b / 16)) (hex_digit (b % 16)) ≡ Some b
unfolding pair_of upper_digit
pair-digits b h = reads-it (pair_of (hex_digit (b / 16)) (hex_digit (b % 16))) b (every_byte_lem again tt b h)

-- A byte in a range is no less than its first.
pub inside-above : (lo hi a : ℕ) → inside (lo, hi) a ≡ true → lo ≤ a
inside-above lo hi a e = leb→le lo a (and_left (leb lo a) (leb a hi) (subst T (sym e) tt))

-- Nor more than its last.
pub inside-beneath : (lo hi a : ℕ) → inside (lo, hi) a ≡ true → a ≤ hi
inside-beneath lo hi a e = leb→le a hi (and_right (leb lo a) (leb a hi) (subst T (sym e) tt))

-- A byte that has a value is the digit of that value.
digit-of : (a x : ℕ) → upper_digit a ≡ Some x → (x < 16) × (hex_digit x ≡ a)
unfolding upper_digit
digit-of a x e = low (ltb a 97) refl e
  where
    go : (p : Bool) → inside (65, 70) a ≡ p → (q : Bool) → inside (97, 102) a ≡ q → (r : Bool) → inside (48, 57) a ≡ r → a < 97
        → found_as (cond p (some (a - 55)) (cond q (some (a - 87)) (cond r (some (a - 48)) none))) ≡ Some x → (x < 16) × (hex_digit x ≡ a)
    go true f q g r h l e =
        let u = inside-above 65 70 a f in
        let v = inside-beneath 65 70 a f in
        let w : a - 55 ≡ x = cc in
        (omega arith, rw (le-ltb x 10 (omega arith)) (omega arith))
    go false f true g r h l e = absurd (omega (arith, inside-above 97 102 a g))
    go false f false g true h l e =
        let u = inside-above 48 57 a h in
        let v = inside-beneath 48 57 a h in
        let w : a - 48 ≡ x = cc in
        (omega arith, rw (lt-ltb x 10 (omega arith)) (omega arith))
    go false f false g false h l e = cc

    low : (l : Bool) → ltb a 97 ≡ l → cond l (found_as (hex_digit_at a)) None ≡ Some x → (x < 16) × (hex_digit x ≡ a)
    low true l e = go (inside (65, 70) a) refl (inside (97, 102) a) refl (inside (48, 57) a) refl (ltb-true a 97 l) e
    low false l e = cc

pair-of : (x y : ℕ) → x < 16 → y < 16 → hex_pair (16 * x + y) ≡ hex_digit x ∷ hex_digit y ∷ []
pair-of x y h k =
    let d : (16 * x + y) / 16 ≡ x = omega arith in
    let m : (16 * x + y) % 16 ≡ y = omega arith in
    rw (d, m)

-- Two bytes that have a value are the two digits of that value.
digits-pair : (a b v : ℕ) → pair_of a b ≡ Some v → hex_pair v ≡ a ∷ b ∷ []
unfolding pair_of
digits-pair a b v = go (upper_digit a) refl (upper_digit b) refl
  where
    go : (p : Option ℕ) → upper_digit a ≡ p → (q : Option ℕ) → upper_digit b ≡ q → both p q ≡ Some v → hex_pair v ≡ a ∷ b ∷ []
    go (Some x) e (Some y) f h =
        let u = digit-of a x e in
        let w = digit-of b y f in
        let k : 16 * x + y ≡ v = cc in
        rw (← k) (pair-of x y u.0 w.0 ∙ (λ i. u.1 i ∷ w.1 i ∷ []))
    go (Some x) e None f h = cc
    go None e q f h = cc

stands-append : (p v s : List ℕ) → T (stands v s) → T (stands (p ++ v) (p ++ s))
stands-append [] v s t = t
stands-append (x ∷ p) v s t = and_both (eqb x x) (stands (p ++ v) (p ++ s)) (eqb_refl x) (stands-append p v s t)

stands-before : (q s : List ℕ) (v : ℕ) → hex_before q s ≡ Some v → T (stands (hex_pair v ++ q) s)
stands-before q [] v h = cc
stands-before q (a ∷ []) v h = cc
stands-before q (a ∷ b ∷ s) v h = go (stands q s) refl h
  where
    go : (t : Bool) → stands q s ≡ t → cond t (pair_of a b) None ≡ Some v → T (stands (hex_pair v ++ q) (a ∷ b ∷ s))
    go true e h =
        subst (λ (d : List ℕ). T (stands (d ++ q) (a ∷ b ∷ s))) (sym (digits-pair a b v h)) (stands-append (a ∷ b ∷ []) q s (subst T (sym e) tt))
    go false e h = cc

-- Where two digits stand between p and q, they are those of their value.
pub stands-between : (p q s : List ℕ) (v : ℕ) → hex_between p q s ≡ Some v → T (stands (p ++ (hex_pair v ++ q)) s)
unfolding hex_between
stands-between p q s v h = go (stands p s) refl h
  where
    go : (t : Bool) → stands p s ≡ t → cond t (hex_before q (drop (length p) s)) None ≡ Some v → T (stands (p ++ (hex_pair v ++ q)) s)
    go true e h =
        let (r, x) = stands-split p s (subst T (sym e) tt) in
        let d : drop (length p) s ≡ r = ap (drop (length p)) x ∙ drop-append_seam p r in
        subst (λ (l : List ℕ). T (stands (p ++ (hex_pair v ++ q)) l)) (sym x)
        (stands-append p (hex_pair v ++ q) r (stands-before q r v (rw d at h)))
    go false e h = cc
