-- How the search goes on: where no tag and no `-->` can begin nothing happens; elsewhere the element ends, or the mode turns.
-- Assumes nothing.
use mathlib.Core.Bool.{Bool, true, false, ◌&&◌, ◌||◌, cond}
use mathlib.Core.Option.{Option, none, some}
use mathlib.Core.Path.{◌≡◌, refl, sym, ap, ◌∙◌, subst}
use mathlib.Core.List.{List, ◌∷◌}
use Prim.Native.Nat.{ℕ, zero, suc, ◌+◌, ◌-◌, ◌≤◌, ◌<◌}
use native.Mathlib.Omega.{arith}
use borrow.Author.Tests.{ne_eqb, eqb-false}
use lib.Dec.{T, eqb, leb, leb→le}
use lib.ListN.{length, take, drop, get_or, drop_of_length-le}
use lib.Seq.{get_or-take, get_or-drop}
use Rattle.rules.specs.Bytes.{ascii, stands, between}
use Rattle.rules.specs.ScriptData.{lower, spells, ends, turn, end_from, closing_tag}
use Rattle.rules.specs.declared.ScriptMode.{ScriptMode}
use Rattle.rules.specs.declared.ScriptMode.TheVariants.{Plain, Once, Twice}
use Rattle.rules.proofs.Tests.{and_left}
use Rattle.rules.proofs.Below.{eqb_comm}
use Rattle.rules.proofs.Loops.{drop-next}
use Rattle.rules.proofs.ScriptModes.{modes-agree}
use Rattle.base.specs.First.{Free}
use Rattle.base.proofs.Filled.{lent-rest}
use Rattle.base.proofs.Part.{part_at, part_length}
use Rattle.scripts.specs.Marks.{letter_of, dash_of, mark, mark_at, stop_at, Passed}

-- ---- bytes

or_off : (x y : Bool) → (x || y) ≡ false → (x ≡ false) × (y ≡ false)
or_off true y e = absurd (subst T e tt)
or_off false y e = (refl, e)

-- A byte that is neither c nor its upper case.
lower-not : (b c : ℕ) → eqb b c ≡ false → (65 ≤ b → b + 32 ≡ c → ⊥) → eqb (lower b) c ≡ false
lower-not b c e h = go (between "A" "Z" b) refl
  where
    go : (x : Bool) → between "A" "Z" b ≡ x → eqb (cond x (b + 32) b) c ≡ false
    go true f = ne_eqb (b + 32) c (h (leb→le 65 b (and_left (leb 65 b) (leb b 90) (subst T (sym f) tt))))
    go false f = e

no_slash : (b : ℕ) → eqb b 47 ≡ false → eqb (lower b) 47 ≡ false
no_slash b e = lower-not b 47 e (high b)
  where
    high : (b : ℕ) → 65 ≤ b → b + 32 ≡ 47 → ⊥
    high b h q = omega arith

no-s : (b : ℕ) → eqb b 83 ≡ false → eqb b 115 ≡ false → eqb (lower b) 115 ≡ false
no-s b e f = lower-not b 115 f (λ h q. eqb-false b 83 e (less b q))
  where
    less : (b : ℕ) → b + 32 ≡ 115 → b ≡ 83
    less b q = omega arith

-- ---- where nothing happens

-- A byte that is neither `<` nor a dash.
other-stays : (m : ScriptMode) (b at : ℕ) (s : List ℕ) → eqb b 60 ≡ false → eqb b 45 ≡ false → end_from m at (b ∷ s) ≡ end_from m (at + 1) s
other-stays Plain b at s l d = rw l
other-stays Once b at s l d = rw (l, d)
other-stays Twice b at s l d = rw (l, d)

-- Two tests that fail together, behind a third.
guarded : (x z y : Bool) → (x && z) ≡ false → (z ≡ false → y ≡ false) → (x && y) ≡ false
guarded true z y e f = f e
guarded false z y e f = refl

three : (x y z : Bool) → ((x && y) && z) ≡ false → (x && (y && (z && true))) ≡ false
three true true true e = e
three true true false e = refl
three true false z e = refl
three false y z e = refl

module _ (a b c : ℕ) (s : List ℕ) (letter : ℕ) (e : (eqb a 60 && ((eqb b 47 || eqb b 83) || eqb b letter)) ≡ false) where
  abbrev next : Bool
  next = (eqb b 47 || eqb b 83) || eqb b letter

  no-end-tag : (eqb a 60 && spells (ascii "/script") (b ∷ c ∷ s)) ≡ false
  no-end-tag =
      guarded (eqb a 60) next (spells (ascii "/script") (b ∷ c ∷ s)) e (λ z.
      ap (λ (x : Bool). x && spells (ascii "script") (c ∷ s)) (no_slash b (or_off (eqb b 47) (eqb b 83) (or_off (eqb b 47 || eqb b 83) (eqb b letter) z).0).0))

  no-start-tag : letter ≡ 115 → (eqb a 60 && spells (ascii "script") (b ∷ c ∷ s)) ≡ false
  no-start-tag l =
      guarded (eqb a 60) next (spells (ascii "script") (b ∷ c ∷ s)) e (λ z.
      ap (λ (x : Bool). x && spells (ascii "cript") (c ∷ s))
      (no-s b (or_off (eqb b 47) (eqb b 83) (or_off (eqb b 47 || eqb b 83) (eqb b letter) z).0).1
      (subst (λ (n : ℕ). eqb b n ≡ false) l (or_off (eqb b 47 || eqb b 83) (eqb b letter) z).1)))

  no-escape : letter ≡ 33 → (eqb a 60 && stands (ascii "!--") (b ∷ c ∷ s)) ≡ false
  no-escape l =
      guarded (eqb a 60) next (stands (ascii "!--") (b ∷ c ∷ s)) e (λ z.
      ap (λ (x : Bool). x && stands (ascii "--") (c ∷ s)) (eqb_comm 33 b ∙ subst (λ (n : ℕ). eqb b n ≡ false) l (or_off (eqb b 47 || eqb b 83) (eqb b letter) z).1))

no-escape-end : (a b c : ℕ) (s : List ℕ) → ((eqb a 45 && eqb b 45) && eqb c 62) ≡ false → (eqb a 45 && stands (ascii "->") (b ∷ c ∷ s)) ≡ false
no-escape-end a b c s e = (λ i. eqb a 45 && (eqb_comm 45 b i && (eqb_comm 62 c i && true))) ∙ three (eqb a 45) (eqb b 45) (eqb c 62) e

-- Three bytes that are no mark of the mode.
mark-stays : (m : ScriptMode) (a b c at : ℕ) (s : List ℕ) → mark (letter_of m) (dash_of m) a b c ≡ false
    → end_from m at (a ∷ b ∷ c ∷ s) ≡ end_from m (at + 1) (b ∷ c ∷ s)
unfolding mark
mark-stays Plain a b c at s e =
    let l = (or_off (eqb a 60 && ((eqb b 47 || eqb b 83) || eqb b 33)) ((eqb a 60 && eqb b 45) && eqb c 62) e).0 in
    λ i. cond (no-end-tag a b c s 33 l i) (some at) (end_from (cond (no-escape a b c s 33 l refl i) Once Plain) (at + 1) (b ∷ c ∷ s))
mark-stays Once a b c at s e =
    let (l, d) = or_off (eqb a 60 && ((eqb b 47 || eqb b 83) || eqb b 115)) ((eqb a 45 && eqb b 45) && eqb c 62) e in
    λ i.
    cond (no-end-tag a b c s 115 l i) (some at)
    (end_from (cond (no-start-tag a b c s 115 l refl i) Twice (cond (no-escape-end a b c s d i) Plain Once)) (at + 1) (b ∷ c ∷ s))
mark-stays Twice a b c at s e =
    let (l, d) = or_off (eqb a 60 && ((eqb b 47 || eqb b 83) || eqb b 47)) ((eqb a 45 && eqb b 45) && eqb c 62) e in
    λ i. end_from (cond (no-end-tag a b c s 47 l i) Once (cond (no-escape-end a b c s d i) Plain Twice)) (at + 1) (b ∷ c ∷ s)

-- Where none begins in a block, none does in the text there.
pub marks-in-block : (letter dash : ℕ) (t : List ℕ) (i n : ℕ) → i + n ≤ length t → Free (mark_at letter dash (take n (drop i t))) 0 (n - 2) → Free (mark_at letter dash t) i (i + (n - 2))
marks-in-block letter dash t i n h f k x y = rw (at (k - i) k (omega arith) (omega arith), at (k - i + 1) (k + 1) (omega arith) (omega arith), at (k - i + 2) (k + 2) (omega arith) (omega arith)) at (f (k - i) (omega arith) (omega arith))
  where
    at : (j p : ℕ) → j < n → i + j ≡ p → get_or (take n (drop i t)) j 0 ≡ get_or t p 0
    at j p l e = get_or-take n (drop i t) j 0 l ∙ get_or-drop i t j 0 ∙ ap (λ (q : ℕ). get_or t q 0) e

-- ---- stretches where nothing happens

module _ (m : ScriptMode) (t : List ℕ) where
  abbrev from : ℕ → Option ℕ
  from k = end_from m k (drop k t)

  -- Bytes that are neither `<` nor a dash.
  others : (n i : ℕ) → i + n ≤ length t → Free (stop_at t) i (i + n) → from i ≡ from (i + n)
  others zero i h f = let e : i ≡ i + 0 = omega arith in ap from e
  others (suc n) i h f =
      let e : i + 1 + n ≡ i + suc n = omega arith in
      let (l, d) = or_off (eqb (get_or t i 0) 60) (eqb (get_or t i 0) 45) (f i (omega arith) (omega arith)) in
      ap (end_from m i) (drop-next t i (omega arith))
      ∙ other-stays m (get_or t i 0) i (drop (i + 1) t) l d
      ∙ others n (i + 1) (omega arith) (λ k a b. f k (omega arith) (omega arith))
      ∙ ap from e

  pub passed-others : (a i r : ℕ) → Passed m t a i → i ≤ r → r ≤ length t → Free (stop_at t) i r → Passed m t a r
  passed-others a i r p h k f =
      let q : i + (r - i) ≡ r = omega arith in
      record {
        after = omega (arith, p.after);
        within = k;
        same = p.same ∙ others (r - i) i (omega arith) (λ j x y. f j x (omega arith)) ∙ ap from q;
      }

  -- The same where the bytes are looked at in what is left of the text.
  pub passed-rest : (a i n : ℕ) → Passed m t a i → n ≤ length (take (length t - i) (drop i t))
      → ((j d : ℕ) → 0 ≤ j → j < n → (get_or (take (length t - i) (drop i t)) j d ≡ 60 → ⊥) × (get_or (take (length t - i) (drop i t)) j d ≡ 45 → ⊥)) → Passed m t a (i + n)
  passed-rest a i n p k f =
      let long = part_length t i (length t) p.within (omega arith) in
      passed-others a i (i + n) p (omega arith) (omega (arith, k, p.within, long)) (λ j x y.
      let q : i + (j - i) ≡ j = omega arith in
      let e : get_or (take (length t - i) (drop i t)) (j - i) 0 ≡ get_or t j 0 = part_at t i (length t) (j - i) (omega (arith, k, long)) ∙ ap (λ (n : ℕ). get_or t n 0) q in
      let no = f (j - i) 0 (omega arith) (omega arith) in
      rw (ne_eqb (get_or t j 0) 60 (λ w. no.0 (e ∙ w)), ne_eqb (get_or t j 0) 45 (λ w. no.1 (e ∙ w))))

  -- Bytes at which no mark begins, two bytes before the end or earlier.
  unmarked : (n i : ℕ) → (0 < n → i + n + 2 ≤ length t) → Free (mark_at (letter_of m) (dash_of m) t) i (i + n) → from i ≡ from (i + n)
  unmarked zero i h f = let e : i ≡ i + 0 = omega arith in ap from e
  unmarked (suc n) i h f =
      let long : i + suc n + 2 ≤ length t = h (omega arith) in
      let e : i + 1 + n ≡ i + suc n = omega arith in
      let q : i + 1 + 1 ≡ i + 2 = omega arith in
      let two : drop (i + 1) t ≡ get_or t (i + 1) 0 ∷ get_or t (i + 2) 0 ∷ drop (i + 2 + 1) t =
      drop-next t (i + 1) (omega arith)
      ∙ ap (λ (k : ℕ). get_or t (i + 1) 0 ∷ drop k t) q
      ∙ ap (λ (s : List ℕ). get_or t (i + 1) 0 ∷ s) (drop-next t (i + 2) (omega arith)) in
      ap (end_from m i) (drop-next t i (omega arith) ∙ ap (λ (s : List ℕ). get_or t i 0 ∷ s) two)
      ∙ mark-stays m (get_or t i 0) (get_or t (i + 1) 0) (get_or t (i + 2) 0) i (drop (i + 2 + 1) t) (f i (omega arith) (omega arith))
      ∙ ap (end_from m (i + 1)) (sym two)
      ∙ unmarked n (i + 1) (λ z. omega arith) (λ k a b. f k (omega arith) (omega arith))
      ∙ ap from e

  pub passed-marks : (letter dash a r : ℕ) → letter ≡ letter_of m → dash ≡ dash_of m → a ≤ r → r ≤ length t → (a < r → r + 2 ≤ length t)
      → Free (mark_at letter dash t) a r → Passed m t a r
  passed-marks letter dash a r l d h k two f =
      let q : a + (r - a) ≡ r = omega arith in
      record {
        after = h;
        within = k;
        same =
            unmarked (r - a) a (λ z. let more : r + 2 ≤ length t = two (omega arith) in omega arith)
            (λ j x y. subst (λ (n : ℕ). mark_at n (dash_of m) t j ≡ false) l (subst (λ (n : ℕ). mark_at letter n t j ≡ false) d (f j x (omega arith))))
            ∙ ap from q;
      }

-- ---- where something may

module _ (t : List ℕ) (m : ScriptMode) (e : ℕ) (h : e < length t) where
  abbrev rest : List ℕ
  rest = drop (e + 1) t

  abbrev lent : List ℕ
  lent = take (length t - (e + 1)) (drop (e + 1) t)

  unrolled : (x : Bool) → x ≡ ends m (get_or t e 0) lent → end_from m e (drop e t) ≡ cond x (some e) (end_from (turn m (get_or t e 0) rest) (e + 1) rest)
  unrolled x z =
      ap (end_from m e) (drop-next t e h)
      ∙ ap (λ (b : Bool). cond b (some e) (end_from (turn m (get_or t e 0) rest) (e + 1) rest)) (sym (z ∙ ap (ends m (get_or t e 0)) (lent-rest (e + 1) t)))

  -- The element ends here.
  pub ends-here : (x : Bool) → x ≡ true → x ≡ ends m (get_or t e 0) lent → end_from m e (drop e t) ≡ some e
  ends-here x y z = unrolled x z ∙ ap (λ (b : Bool). cond b (some e) (end_from (turn m (get_or t e 0) rest) (e + 1) rest)) y

  -- The mode turns.
  pub turns-here : (x : Bool) (m' : ScriptMode) → x ≡ false → x ≡ ends m (get_or t e 0) lent → m' ≡ turn m (get_or t e 0) lent
      → end_from m e (drop e t) ≡ end_from m' (e + 1) (drop (e + 1) t)
  turns-here x m' y z q =
      unrolled x z
      ∙ ap (λ (b : Bool). cond b (some e) (end_from (turn m (get_or t e 0) rest) (e + 1) rest)) y
      ∙ ap (λ (k : ScriptMode). end_from k (e + 1) rest) (sym (q ∙ ap (turn m (get_or t e 0)) (lent-rest (e + 1) t)))

-- Nothing is left.
pub no_more : (t : List ℕ) (m : ScriptMode) (i : ℕ) → length t ≤ i → end_from m i (drop i t) ≡ none
no_more t m i h = ap (end_from m i) (drop_of_length-le t h)

-- The search starts plain.
pub from_start : (t : List ℕ) → end_from Plain 0 (drop 0 t) ≡ closing_tag t
from_start t = sym (modes-agree t)
