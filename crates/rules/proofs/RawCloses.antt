-- What script_raw wrote ends at the end tag that comes after it, and nowhere earlier: whatever would end it or escape it begins with a `<` that
-- script_raw parts from what follows, and no part of such a pattern is the `<` of that tag.
-- Assumes nothing.
use mathlib.Core.Bool.{Bool, true, false, not, ◌&&◌, ◌||◌, cond}
use mathlib.Core.Option.{some}
use mathlib.Core.Path.{◌≡◌, refl, sym, ap, ◌∙◌, subst}
use mathlib.Core.List.{List, [], ◌∷◌, ◌++◌}
use Prim.Native.Nat.{ℕ, ◌+◌, ◌-◌}
use native.Mathlib.Omega.{arith}
use native.Mathlib.Nat.{suc-ne-zero}
use lib.Dec.{T, eqb, leb, leb→le, eqb→eq, eqb_refl}
use lib.ListN.{length}
use Rattle.rules.specs.Bytes.{ascii, is, stands, between, one_of}
use Rattle.rules.specs.Encoding.{any_case, terminators, closes, closes_at_end, parted}
use Rattle.rules.specs.Operations.{raw_of}
use Rattle.rules.specs.ScriptData.{lower, name_ends, ends_name, spells, end_from, closing_tag}
use Rattle.rules.specs.declared.ScriptMode.TheVariants.{Plain, Once}
use Rattle.rules.proofs.Tests.{and_left, and_right, and_both, or_left, or_right, all_in, any-in, is_false}
use Rattle.rules.proofs.Below.{below}
use Rattle.rules.proofs.RawAgain.{marked, marks, tally, marks-cons, less_free, raw-quiet}
use Rattle.rules.proofs.ScriptModes.{modes-agree}

-- ---- what the modes look for is parted

-- A byte whose lower case is c is c in either case.
abbrev upper_fits : ℕ → Bool
upper_fits b = not (between "A" "Z" b) || one_of (any_case (b + 32)) b

pub case-fits : (b c : ℕ) → T (eqb (lower b) c) → T (one_of (any_case c) b)
case-fits b c t = go (between "A" "Z" b) refl t
  where
    upper : between "A" "Z" b ≡ true → T (upper_fits b) → T (one_of (any_case (b + 32)) b)
    upper e u = subst (λ (x : Bool). T (not x || one_of (any_case (b + 32)) b)) e u

    same : (x : Bool) → T (one_of (cond x (b ∷ (b - 32) ∷ []) (b ∷ [])) b)
    same true = or_left (eqb b b) (eqb b (b - 32) || false) (eqb_refl b)
    same false = or_left (eqb b b) false (eqb_refl b)

    go : (x : Bool) → between "A" "Z" b ≡ x → T (eqb (cond x (b + 32) b) c) → T (one_of (any_case c) b)
    go true e t =
        let h = leb→le b 90 (and_right (leb 65 b) (leb b 90) (subst T (sym e) tt)) in
        subst (λ (c : ℕ). T (one_of (any_case c) b)) (eqb→eq (b + 32) c t) (upper e (below upper_fits 91 tt b (omega arith)))
    go false e t = subst (λ (c : ℕ). T (one_of (any_case c) b)) (eqb→eq b c t) (same (between "a" "z" b))

end_fits : (b : ℕ) → T (ends_name b) → T (one_of terminators b)
end_fits b t =
    let (x, i, e) = any-in (eqb b) name_ends t in
    subst (λ (n : ℕ). T (one_of terminators n)) (sym (eqb→eq b x e)) (all_in (one_of terminators) name_ends tt x i)

spells-closes : (word s : List ℕ) → T (spells word s) → T (closes word s)
spells-closes word [] t = absurd t
spells-closes [] (b ∷ s) t = and_both (one_of terminators b) true (end_fits b t) tt
spells-closes (c ∷ word) (b ∷ s) t =
    and_both (one_of (any_case c) b) (closes word s) (case-fits b c (and_left (eqb (lower b) c) (spells word s) t))
    (spells-closes word s (and_right (eqb (lower b) c) (spells word s) t))

-- ---- the tag that comes after

-- No pattern without a `<` goes on into it.
spells-tag : (word s u : List ℕ) → T (less_free eqb word) → T (spells word (s ++ 60 ∷ u)) → T (spells word s)
spells-tag [] [] u f t = t
spells-tag (c ∷ word) [] u f t = go (eqb c 60) refl f (and_left (eqb 60 c) (spells word u) t)
  where
    go : (x : Bool) → eqb c 60 ≡ x → T (not x && less_free eqb word) → T (eqb 60 c) → ⊥
    go true e f t = f
    go false e f t = absurd (subst T (sym (eq c (eqb→eq 60 c t)) ∙ e) tt)
      where
        eq : (c : ℕ) → 60 ≡ c → eqb c 60 ≡ true
        eq c q = subst (λ (n : ℕ). eqb n 60 ≡ true) q refl
spells-tag [] (b ∷ s) u f t = t
spells-tag (c ∷ word) (b ∷ s) u f t =
    and_both (eqb (lower b) c) (spells word s) (and_left (eqb (lower b) c) (spells word (s ++ 60 ∷ u)) t)
    (spells-tag word s u (and_right (not (eqb c 60)) (less_free eqb word) f) (and_right (eqb (lower b) c) (spells word (s ++ 60 ∷ u)) t))

stands-tag : (word s u : List ℕ) → T (less_free eqb word) → T (stands word (s ++ 60 ∷ u)) → T (stands word s)
stands-tag [] s u f t = tt
stands-tag (c ∷ word) [] u f t = go (eqb c 60) f t
  where
    go : (x : Bool) → T (not x && less_free eqb word) → T (x && stands word u) → ⊥
    go true f t = f
    go false f t = t
stands-tag (c ∷ word) (b ∷ s) u f t =
    and_both (eqb c b) (stands word s) (and_left (eqb c b) (stands word (s ++ 60 ∷ u)) t)
    (stands-tag word s u (and_right (not (eqb c 60)) (less_free eqb word) f) (and_right (eqb c b) (stands word (s ++ 60 ∷ u)) t))

module _ (b : ℕ) (s u : List ℕ) (m : marked b s ≡ false) where
  -- What is found at b before s and a `<` is parted.
  unmarked : (f : List ℕ → Bool) → (T (f (s ++ 60 ∷ u)) → T (parted s)) → (is "<" b && f (s ++ 60 ∷ u)) ≡ false
  unmarked f p = is_false (is "<" b && f (s ++ 60 ∷ u)) (λ t. subst T m (and_both (is "<" b) (parted s) (and_left (is "<" b) (f (s ++ 60 ∷ u)) t) (p (and_right (is "<" b) (f (s ++ 60 ∷ u)) t))))

  plain-stays : (at : ℕ) → end_from Plain at (b ∷ s ++ 60 ∷ u) ≡ end_from Plain (at + 1) (s ++ 60 ∷ u)
  plain-stays at = λ i. cond (ends i) (some at) (end_from (cond (escapes i) Once Plain) (at + 1) (s ++ 60 ∷ u))
    where
      ends : (is "<" b && spells (ascii "/script") (s ++ 60 ∷ u)) ≡ false
      ends =
          unmarked (spells (ascii "/script"))
          (λ t. or_left (stands (ascii "!--") s || closes (ascii "/script") s) (closes_at_end (ascii "/script") s)
          (or_right (stands (ascii "!--") s) (closes (ascii "/script") s) (spells-closes (ascii "/script") s (spells-tag (ascii "/script") s u tt t))))

      escapes : (is "<" b && stands (ascii "!--") (s ++ 60 ∷ u)) ≡ false
      escapes =
          unmarked (stands (ascii "!--"))
          (λ t. or_left (stands (ascii "!--") s || closes (ascii "/script") s) (closes_at_end (ascii "/script") s)
          (or_left (stands (ascii "!--") s) (closes (ascii "/script") s) (stands-tag (ascii "!--") s u tt t)))

-- ---- the laws

pub tally-zero : (m : Bool) (n : ℕ) → tally m n ≡ 0 → (m ≡ false) × (n ≡ 0)
tally-zero true n e = absurd (suc-ne-zero n e)
tally-zero false n e = (refl, e)

closes_at : (s : List ℕ) (at : ℕ) → marks s ≡ 0 → end_from Plain at (s ++ ascii "</script>") ≡ some (at + length s)
closes_at [] at m = ap (λ (n : ℕ). some n) (omega arith)
closes_at (b ∷ s) at m =
    let (u, r) = tally-zero (marked b s) (marks s) (sym (marks-cons b s) ∙ m) in
    plain-stays b s (ascii "/script>") u at ∙ closes_at s (at + 1) r ∙ ap (λ (n : ℕ). some n) (omega arith)

-- A text that script_raw leaves as it is ends at the tag that comes after it.
pub quiet-closes : (s : List ℕ) → marks s ≡ 0 → closing_tag (s ++ ascii "</script>") ≡ some (length s)
quiet-closes s m = modes-agree (s ++ ascii "</script>") ∙ closes_at s 0 m ∙ ap (λ (n : ℕ). some n) (omega arith)

-- So does what it wrote.
pub raw-closes : (s : List ℕ) → closing_tag (raw_of s ++ ascii "</script>") ≡ some (length (raw_of s))
raw-closes s = quiet-closes (raw_of s) (raw-quiet s)
