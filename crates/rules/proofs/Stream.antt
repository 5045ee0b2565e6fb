-- What is written by parts is what is written at once, wherever the text is cut: what is held back is exactly what more bytes could still change.
-- Assumes nothing.
use mathlib.Core.Bool.{Bool, true, false, not, ◌&&◌, ◌||◌}
use mathlib.Core.Path.{◌≡◌, refl, sym, ap, ◌∙◌, subst}
use mathlib.Core.List.{List, [], ◌∷◌, ◌++◌, map, append-nil}
use Prim.Native.Nat.{ℕ, zero, suc, ◌+◌, ◌≤◌}
use native.Mathlib.Omega.{arith}
use native.Mathlib.Nat.{suc-ne-zero, suc_inj}
use borrow.Author.Tests.{eqb-true, eqb-false, eq-eqb, ne_eqb}
use lib.Dec.{T, eqb, leb, leb→le}
use lib.ListN.{length, take, drop, length-append}
use Rattle.rules.specs.Bytes.{ascii, any, all, fits, opens, between, inside, one_of}
use Rattle.rules.specs.Moves.{takes, through, taken, result}
use Rattle.rules.specs.Utf8.{sequences, is_cut}
use Rattle.rules.specs.Encoding.{any_case, terminators, closes_at_end, parted, raw_step}
use Rattle.rules.specs.Operations.{raw_of}
use Rattle.rules.specs.Stream.{dashes, tag, begins, held, settled, settled_moves}
use Rattle.rules.proofs.Blind.{result-append}
use Rattle.rules.proofs.RawAgain.{marked, raw_move, raw-through}

-- The bytes s begin an escaped pattern.
abbrev pub opening : List ℕ → Bool
opening s = opens one_of dashes s || opens one_of tag s

pub true-false : {A : Type 0} → true ≡ false → A
true-false e = absurd (subst T e tt)

or_left : (x y : Bool) → (x || y) ≡ false → x ≡ false
or_left true y e = e
or_left false y e = refl

or_right : (x y : Bool) → (x || y) ≡ false → y ≡ false
or_right true y e = true-false e
or_right false y e = e

both-off : (x y z w : Bool) → (x || y) ≡ false → (x ≡ false → z ≡ false) → (y ≡ false → w ≡ false) → (z || w) ≡ false
both-off true y z w e f g = true-false e
both-off false y z w e f g = rw (f refl) (g e)

-- ---- once a text is no start of a pattern, what follows it does not matter

module _ {B : Type 0} (m : B → ℕ → Bool) where
  pub fits-far : (p : List B) (t u : List ℕ) → opens m p t ≡ false → fits m p (t ++ u) ≡ fits m p t
  fits-far [] t u e = refl
  fits-far (a ∷ p) [] u e = true-false e
  fits-far (a ∷ p) (x ∷ t) u e = go (m a x) e (fits-far p t u)
    where
      go : (y : Bool) → (y && opens m p t) ≡ false → (opens m p t ≡ false → fits m p (t ++ u) ≡ fits m p t) → (y && fits m p (t ++ u)) ≡ (y && fits m p t)
      go true e h = h e
      go false e h = refl

  opens-far : (p : List B) (t u : List ℕ) → opens m p t ≡ false → opens m p (t ++ u) ≡ false
  opens-far [] t u e = refl
  opens-far (a ∷ p) [] u e = true-false e
  opens-far (a ∷ p) (x ∷ t) u e = go (m a x) e (opens-far p t u)
    where
      go : (y : Bool) → (y && opens m p t) ≡ false → (opens m p t ≡ false → opens m p (t ++ u) ≡ false) → (y && opens m p (t ++ u)) ≡ false
      go true e h = h e
      go false e h = refl

  -- A start is shorter than the pattern.
  opens-short : (p : List B) (t : List ℕ) → opens m p t ≡ true → suc (length t) ≤ length p
  opens-short [] t e = true-false (sym e)
  opens-short (a ∷ p) [] e = omega arith
  opens-short (a ∷ p) (x ∷ t) e = go (m a x) e (opens-short p t)
    where
      go : (y : Bool) → (y && opens m p t) ≡ true → (opens m p t ≡ true → suc (length t) ≤ length p) → suc (suc (length t)) ≤ suc (length p)
      go true e h = omega (arith, h e)
      go false e h = true-false (sym e)

  -- Where the whole of a text fits a pattern that goes on by one, its start is a start of that.
  end-opens : (p : List B) (q : B) (t u : List ℕ) → fits m p (t ++ u) ≡ true → length (t ++ u) ≡ length p → opens m (p ++ q ∷ []) t ≡ true
  end-opens [] q [] u f l = refl
  end-opens [] q (x ∷ t) u f l = absurd (suc-ne-zero (length (t ++ u)) l)
  end-opens (a ∷ p) q [] u f l = refl
  end-opens (a ∷ p) q (x ∷ t) u f l = go (m a x) f (end-opens p q t u)
    where
      go : (y : Bool) → (y && fits m p (t ++ u)) ≡ true → (fits m p (t ++ u) ≡ true → length (t ++ u) ≡ length p → opens m (p ++ q ∷ []) t ≡ true)
          → (y && opens m (p ++ q ∷ []) t) ≡ true
      go true f h = h f (suc_inj l)
      go false f h = true-false (sym f)

any-far : {B : Type 0} (m : B → ℕ → Bool) (ps : List (List B)) (t u : List ℕ) → any (λ (p : List B). opens m p t) ps ≡ false → any (λ (p : List B). opens m p (t ++ u)) ps ≡ false
any-far m [] t u e = refl
any-far {B} m (p ∷ ps) t u e =
    both-off (opens m p t) (any (λ (p : List B). opens m p t) ps) (opens m p (t ++ u)) (any (λ (p : List B). opens m p (t ++ u)) ps) e (opens-far m p t u) (any-far m ps t u)

pub cut-far : (t u : List ℕ) → is_cut t ≡ false → is_cut (t ++ u) ≡ false
unfolding is_cut
cut-far t u = any-far inside sequences t u

begins-far : (t u : List ℕ) → begins t ≡ false → begins (t ++ u) ≡ false
begins-far t u e =
    both-off (is_cut t) (opening t) (is_cut (t ++ u)) (opening (t ++ u)) e (cut-far t u)
    (λ f. both-off (opens one_of dashes t) (opens one_of tag t) (opens one_of dashes (t ++ u)) (opens one_of tag (t ++ u)) f
    (opens-far one_of dashes t u) (opens-far one_of tag t u))

-- ---- the mark after a `<` is settled

end-off : (p : List (List ℕ)) (q : List ℕ) (t u : List ℕ) → opens one_of (p ++ q ∷ []) t ≡ false → (fits one_of p (t ++ u) && eqb (length (t ++ u)) (length p)) ≡ false
end-off p q t u e = go (fits one_of p (t ++ u)) refl (eqb (length (t ++ u)) (length p)) refl
  where
    go : (x : Bool) → fits one_of p (t ++ u) ≡ x → (y : Bool) → eqb (length (t ++ u)) (length p) ≡ y → (x && y) ≡ false
    go true f true g = true-false (sym (end-opens one_of p q t u f (eqb-true (length (t ++ u)) (length p) g)) ∙ e)
    go true f false g = refl
    go false f y g = refl

-- A byte that is no letter has one case.
one-case : (a x : ℕ) → between "a" "z" a ≡ false → eqb a x ≡ one_of (any_case a) x
one-case a x e = rw e (go (eqb x a) refl)
  where
    go : (y : Bool) → eqb x a ≡ y → eqb a x ≡ (y || false)
    go true f = eq-eqb a x (sym (eqb-true x a f))
    go false f = ne_eqb a x (λ q. eqb-false x a f (sym q))

opens-exact : (p s : List ℕ) → T (all (λ (a : ℕ). not (between "a" "z" a)) p) → opens eqb p s ≡ opens one_of (map any_case p) s
opens-exact [] s t = refl
opens-exact (a ∷ p) [] t = refl
opens-exact (a ∷ p) (x ∷ s) t = go (between "a" "z" a) refl t (opens-exact p s)
  where
    go : (y : Bool) → between "a" "z" a ≡ y → T (not y && all (λ (a : ℕ). not (between "a" "z" a)) p)
        → (T (all (λ (a : ℕ). not (between "a" "z" a)) p) → opens eqb p s ≡ opens one_of (map any_case p) s) → (eqb a x && opens eqb p s) ≡ (one_of (any_case a) x && opens one_of (map any_case p) s)
    go true e t ih = absurd t
    go false e t ih = λ i. one-case a x e i && ih t i

parted-far : (t u : List ℕ) → opening (60 ∷ t) ≡ false → parted (t ++ u) ≡ parted t
parted-far t u e =
    let d : opens eqb (ascii "!--") t ≡ false = opens-exact (ascii "!--") t tt ∙ or_left (opens one_of dashes (60 ∷ t)) (opens one_of tag (60 ∷ t)) e in
    let g : opens one_of (map any_case (ascii "/script") ++ terminators ∷ []) t ≡ false = or_right (opens one_of dashes (60 ∷ t)) (opens one_of tag (60 ∷ t)) e in
    let n : closes_at_end (ascii "/script") (t ++ u) ≡ false = end-off (map any_case (ascii "/script")) terminators t u g in
    let z : closes_at_end (ascii "/script") t ≡ false = subst (λ (l : List ℕ). closes_at_end (ascii "/script") l ≡ false) (append-nil t) (end-off (map any_case (ascii "/script")) terminators t [] g) in
    λ i. (fits-far eqb (ascii "!--") t u d i || fits-far one_of (map any_case (ascii "/script") ++ terminators ∷ []) t u g i) || (n ∙ sym z) i

-- The mark after a byte is settled, too.
marked-far : (b : ℕ) (t u : List ℕ) → begins (b ∷ t) ≡ false → marked b (t ++ u) ≡ marked b t
marked-far b t u e = go (eqb b 60) refl
  where
    go : (x : Bool) → eqb b 60 ≡ x → (x && parted (t ++ u)) ≡ (x && parted t)
    go true f = parted-far t u (subst (λ (n : ℕ). opening (n ∷ t) ≡ false) (eqb-true b 60 f) (or_right (is_cut (b ∷ t)) (opening (b ∷ t)) e))
    go false f = refl

-- ---- the law

settled-cons : (b : ℕ) (t : List ℕ) → begins (b ∷ t) ≡ false → settled_moves (b ∷ t) ≡ raw_move (marked b t) b ∷ settled_moves t
settled-cons b t e = rw (e, raw-through b t)

-- The moves through a text and what follows it: those that are settled, and then those through the held tail and what follows.
pub moves-parts : (t u : List ℕ) → through raw_step (t ++ u) ≡ settled_moves t ++ through raw_step (held t ++ u)
moves-parts [] u = refl
moves-parts (b ∷ t) u = go (begins (b ∷ t)) refl (moves-parts t u)
  where
    go : (x : Bool) → begins (b ∷ t) ≡ x → through raw_step (t ++ u) ≡ settled_moves t ++ through raw_step (held t ++ u) → through raw_step (b ∷ (t ++ u)) ≡ settled_moves (b ∷ t) ++ through raw_step (held (b ∷ t) ++ u)
    go true e ih = rw e
    go false e ih = rw (settled-cons b t e, e, raw-through b (t ++ u), marked-far b t u e, ih)

-- The same of what is settled.
pub settled-parts : (t u : List ℕ) → settled_moves (t ++ u) ≡ settled_moves t ++ settled_moves (held t ++ u)
settled-parts [] u = refl
settled-parts (b ∷ t) u = go (begins (b ∷ t)) refl (settled-parts t u)
  where
    go : (x : Bool) → begins (b ∷ t) ≡ x → settled_moves (t ++ u) ≡ settled_moves t ++ settled_moves (held t ++ u) → settled_moves (b ∷ (t ++ u)) ≡ settled_moves (b ∷ t) ++ settled_moves (held (b ∷ t) ++ u)
    go true e ih = rw e
    go false e ih = rw (settled-cons b t e, e, settled-cons b (t ++ u) (begins-far (b ∷ t) u e), marked-far b t u e, ih)

-- And of what is held.
pub held-parts : (t u : List ℕ) → held (t ++ u) ≡ held (held t ++ u)
held-parts [] u = refl
held-parts (b ∷ t) u = go (begins (b ∷ t)) refl (held-parts t u)
  where
    go : (x : Bool) → begins (b ∷ t) ≡ x → held (t ++ u) ≡ held (held t ++ u) → held (b ∷ (t ++ u)) ≡ held (held (b ∷ t) ++ u)
    go true e ih = rw e
    go false e ih = rw (e, begins-far (b ∷ t) u e, ih)

-- ---- results

-- What is written at once is what is written early, and then what the held tail and the rest give.
pub raw-parts : (t u : List ℕ) → raw_of (t ++ u) ≡ result (settled_moves t) ++ raw_of (held t ++ u)
raw-parts t u = ap result (moves-parts t u) ∙ result-append (settled_moves t) (through raw_step (held t ++ u))

-- ---- the tail is short

any-short : {B : Type 0} (m : B → ℕ → Bool) (ps : List (List B)) (n : ℕ) (t : List ℕ) → T (all (λ (p : List B). leb (length p) n) ps) → any (λ (p : List B). opens m p t) ps ≡ true → suc (length t) ≤ n
any-short m [] n t s e = true-false (sym e)
any-short {B} m (p ∷ ps) n t s e = go (leb (length p) n) refl s (opens m p t) refl e (any-short m ps n t)
  where
    go : (y : Bool) → leb (length p) n ≡ y → T (y && all (λ (p : List B). leb (length p) n) ps) → (x : Bool) → opens m p t ≡ x → (x || any (λ (p : List B). opens m p t) ps) ≡ true
        → (T (all (λ (p : List B). leb (length p) n) ps) → any (λ (p : List B). opens m p t) ps ≡ true → suc (length t) ≤ n) → suc (length t) ≤ n
    go true l s true f e ih = omega (arith, opens-short m p t f, leb→le (length p) n (subst T (sym l) tt))
    go true l s false f e ih = ih s e
    go false l s x f e ih = absurd s

begins-short : (t : List ℕ) → begins t ≡ true → length t ≤ 8
unfolding is_cut
begins-short t e = go (is_cut t) refl (opens one_of dashes t) refl e
  where
    go : (x : Bool) → is_cut t ≡ x → (y : Bool) → opens one_of dashes t ≡ y → (x || (y || opens one_of tag t)) ≡ true → length t ≤ 8
    go true f y g e = omega (arith, any-short inside sequences 4 t tt f)
    go false f true g e = omega (arith, opens-short one_of dashes t g)
    go false f false g e = omega (arith, opens-short one_of tag t e)

pub held-short : (t : List ℕ) → length (held t) ≤ 8
held-short [] = omega arith
held-short (b ∷ t) = go (begins (b ∷ t)) refl (held-short t)
  where
    go : (x : Bool) → begins (b ∷ t) ≡ x → length (held t) ≤ 8 → length (held (b ∷ t)) ≤ 8
    go true e ih = rw e (begins-short (b ∷ t) e)
    go false e ih = rw e ih

-- It is a tail, after the settled bytes.
pub held-tail : (t : List ℕ) → held t ≡ drop (settled t) t
held-tail [] = refl
held-tail (b ∷ t) = go (begins (b ∷ t)) refl (held-tail t)
  where
    go : (x : Bool) → begins (b ∷ t) ≡ x → held t ≡ drop (settled t) t → held (b ∷ t) ≡ drop (settled (b ∷ t)) (b ∷ t)
    go true e ih = rw e
    go false e ih = rw e ih

-- Every tail that begins a character or a pattern is within it.
pub held-longest : (a : List ℕ) (b : ℕ) (r : List ℕ) → begins (b ∷ r) ≡ true → length (b ∷ r) ≤ length (held (a ++ b ∷ r))
held-longest [] b r e = rw e (omega arith)
held-longest (c ∷ a) b r e = go (begins (c ∷ (a ++ b ∷ r))) refl (held-longest a b r e)
  where
    go : (x : Bool) → begins (c ∷ (a ++ b ∷ r)) ≡ x → length (b ∷ r) ≤ length (held (a ++ b ∷ r)) → length (b ∷ r) ≤ length (held (c ∷ (a ++ b ∷ r)))
    go true f ih = rw f (omega (arith, length-append a (b ∷ r)))
    go false f ih = rw f ih

-- The first n moves take the first n bytes.
pub taken-first : (n : ℕ) (t : List ℕ) → taken (take n (through raw_step t)) ≡ take n t
taken-first zero t = refl
taken-first (suc n) [] = refl
taken-first (suc n) (b ∷ t) = rw (raw-through b t) (go (marked b t) (taken-first n t))
  where
    go : (x : Bool) → taken (take n (through raw_step t)) ≡ take n t → takes (raw_move x b) ++ taken (take n (through raw_step t)) ≡ b ∷ take n t
    go true ih = ap (λ (l : List ℕ). b ∷ l) ih
    go false ih = ap (λ (l : List ℕ). b ∷ l) ih

-- The settled bytes and the held ones are all of them.
pub settled-sum : (t : List ℕ) → settled t + length (held t) ≡ length t
settled-sum [] = refl
settled-sum (b ∷ t) = go (begins (b ∷ t)) refl (settled-sum t)
  where
    go : (x : Bool) → begins (b ∷ t) ≡ x → settled t + length (held t) ≡ length t → settled (b ∷ t) + length (held (b ∷ t)) ≡ length (b ∷ t)
    go true q ih = rw q (omega arith)
    go false q ih = rw q (omega (arith, ih))

-- They add up over two parts.
pub settled-add : (t u : List ℕ) → settled (t ++ u) ≡ settled t + settled (held t ++ u)
settled-add t u =
    let a = settled-sum (t ++ u) in
    let b = settled-sum t in
    let c = settled-sum (held t ++ u) in
    let d = length-append t u in
    let e = length-append (held t) u in
    let f = ap length (held-parts t u) in
    omega (arith, a, b, c, d, e, f)

-- Where the first i bytes are settled, the count goes on behind them.
pub settled-from : (i : ℕ) (t : List ℕ) → i ≤ settled t → settled t ≡ i + settled (drop i t)
settled-from zero t h = omega arith
settled-from (suc i) [] h = absurd (omega arith)
settled-from (suc i) (b ∷ t) h = go (begins (b ∷ t)) refl (settled-from i t)
  where
    go : (x : Bool) → begins (b ∷ t) ≡ x → (i ≤ settled t → settled t ≡ i + settled (drop i t)) → settled (b ∷ t) ≡ suc i + settled (drop i t)
    go true e ih = let n : settled (b ∷ t) ≡ 0 = rw e in absurd (omega (arith, n, h))
    go false e ih =
        let n : settled (b ∷ t) ≡ suc (settled t) = rw e in
        let m = ih (omega (arith, n, h)) in
        omega (arith, n, m)

-- All but the last eight bytes are.
pub settled-most : (t : List ℕ) → length t ≤ settled t + 8
settled-most t = let a = settled-sum t in let b = held-short t in omega (arith, a, b)

-- Each byte is one move.
pub raw-count : (t : List ℕ) → length (through raw_step t) ≡ length t
raw-count [] = refl
raw-count (b ∷ t) = ap length (raw-through b t) ∙ ap suc (raw-count t)
