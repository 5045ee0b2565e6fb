-- What a call releases is itself valid UTF-8, and places counted from the start are right: a held tail begins at the first byte of a character.
-- Assumes nothing.
use mathlib.Core.Bool.{Bool, true, false, not, ◌&&◌, ◌||◌}
use mathlib.Core.Logic.{◌⊎◌, inl, inr}
use mathlib.Core.Path.{◌≡◌, refl, sym, ap, ◌∙◌, subst}
use mathlib.Core.Option.{Option, none}
use mathlib.Core.List.{List, [], ◌∷◌, ◌++◌, append_assoc, append-nil}
use Prim.Native.Nat.{ℕ, zero, suc, pred, ◌+◌, ◌-◌, ◌≤◌}
use native.Mathlib.Omega.{arith}
use native.Mathlib.Nat.{suc-ne-zero}
use borrow.Author.Tests.{ne_eqb, ltb-true, ltb-false, lt-ltb, le-ltb, lt-leb}
use lib.Dec.{T, leb, ltb, leb→le, ltb→lt}
use lib.ListN.{length, take, drop, get_or, length-append, length-drop, take-append-drop}
use lib.Seq.{take-add, length-take-le, drop_at, drop-drop}
use Rattle.rules.specs.Bytes.{In, All, all, any, fits, join, opens, Range, inside, one_of}
use Rattle.rules.specs.Moves.{Move, and_then, moves, takes, taken, result, place, through}
use Rattle.rules.proofs.Machine.{retrace, taken-append, moves-fair}
use Rattle.rules.proofs.Codes.{follows}
use Rattle.rules.specs.Encoding.{raw_step}
use Rattle.rules.specs.Utf8.{sequences, IsChar, IsText, sequence_at, keep_char, char_step, valid_to, is_cut}
use Rattle.rules.specs.Stream.{dashes, tag, begins, held, settled, settled_moves, broken}
use Rattle.rules.proofs.Tests.{and_left, and_right, or_cases, any-intro, is_false, first-none, fits-take, fits-length}
use Rattle.rules.proofs.Chars.{is_tail, char-tails, sequence-pos}
use Rattle.rules.proofs.Encoder.{text-append}
use Rattle.rules.proofs.Texts.{Regroups, moves-text, raw-regroups}
use Rattle.rules.proofs.Valid.{chars-read, chars-run, valid-prefix, valid-within, valid-longest}
use Rattle.rules.proofs.Stream.{true-false, opening, held-tail, held-longest, settled-sum, fits-far, cut-far, taken-first}

-- ---- a byte that is no tail of a character begins one

-- The tails of a character are passed before such a byte.
past-tails : (c a : List ℕ) (b : ℕ) (r s : List ℕ) → T (all is_tail c) → is_tail b ≡ false → c ++ s ≡ a ++ b ∷ r → (d : List ℕ) × (a ≡ c ++ d) × (s ≡ d ++ b ∷ r)
past-tails [] a b r s t n e = (a, refl, e)
past-tails (x ∷ c) [] b r s t n e =
    absurd (subst T (ap is_tail (ap (λ (l : List ℕ). get_or l 0 0) e) ∙ n) (and_left (is_tail x) (all is_tail c) t))
past-tails (x ∷ c) (y ∷ a) b r s t n e =
    let (d, p, q) = past-tails c a b r s (and_right (is_tail x) (all is_tail c) t) n (ap (drop 1) e) in
    (d, (λ i. sym (ap (λ (l : List ℕ). get_or l 0 0) e) i ∷ p i), q)

boundary : (cs : List (List ℕ)) → All IsChar cs → (a : List ℕ) (b : ℕ) (r : List ℕ) → is_tail b ≡ false → join cs ≡ a ++ b ∷ r → IsText a
boundary [] h [] b r n e = ([], tt, refl)
boundary [] h (x ∷ a) b r n e = absurd (suc-ne-zero (length (a ++ b ∷ r)) (sym (ap length e)))
boundary ([] ∷ cs) h a b r n e = boundary cs h.1 a b r n e
boundary ((x ∷ c) ∷ cs) h [] b r n e = ([], tt, refl)
boundary ((x ∷ c) ∷ cs) h (y ∷ a) b r n e =
    let (d, p, q) = past-tails c a b r (join cs) (char-tails x c h.0) n (ap (drop 1) e) in
    let (ds, g, f) = boundary cs h.1 d b r n q in
    ((x ∷ c) ∷ ds, (h.0, g), λ i. sym (ap (λ (l : List ℕ). get_or l 0 0) e) i ∷ (p ∙ ap (λ (l : List ℕ). c ++ l) f) i)

-- ---- what is held begins so

apart : (p : Range) (b : ℕ) → T (ltb p.1 0x80 || ltb 0xBF p.0) → T (is_tail b) → inside p b ≡ false
apart p b o t = go (or_cases (ltb p.1 0x80) (ltb 0xBF p.0) o)
  where
    lo : 0x80 ≤ b
    lo = leb→le 0x80 b (and_left (leb 0x80 b) (leb b 0xBF) t)

    hi : b ≤ 0xBF
    hi = leb→le b 0xBF (and_right (leb 0x80 b) (leb b 0xBF) t)

    and-off : (x : Bool) → (x && false) ≡ false
    and-off true = refl
    and-off false = refl

    go : T (ltb p.1 0x80) ⊎ T (ltb 0xBF p.0) → inside p b ≡ false
    go (inl h) = let l = ltb→lt p.1 0x80 h in ap (λ (x : Bool). leb p.0 b && x) (lt-leb b p.1 (omega (arith, l, lo))) ∙ and-off (leb p.0 b)
    go (inr h) = let l = ltb→lt 0xBF p.0 h in ap (λ (x : Bool). x && leb b p.1) (lt-leb p.0 b (omega (arith, l, hi)))

-- No sequence begins with a tail.
abbrev leads : List Range → Bool
leads [] = true
leads (p ∷ ps) = ltb p.1 0x80 || ltb 0xBF p.0

none-opens : (qs : List (List Range)) → T (all leads qs) → (b : ℕ) (r : List ℕ) → T (is_tail b) → any (λ (q : List Range). opens inside q (b ∷ r)) qs ≡ false
none-opens [] l b r t = refl
none-opens ([] ∷ qs) l b r t = none-opens qs l b r t
none-opens ((p ∷ ps) ∷ qs) l b r t =
    λ i. (apart p b (and_left (leads (p ∷ ps)) (all leads qs) l) t i && opens inside ps r) || none-opens qs (and_right (leads (p ∷ ps)) (all leads qs) l) b r t i

tail-begins : (b : ℕ) (r : List ℕ) → T (is_tail b) → begins (b ∷ r) ≡ false
unfolding is_cut
tail-begins b r t =
    let ne : (b ≡ 60 → ⊥) = λ e. subst (λ (n : ℕ). T (is_tail n)) e t in
    λ i. none-opens sequences tt b r t i || (((ne_eqb b 60 ne i || false) && opens one_of (drop 1 dashes) r) || ((ne_eqb b 60 ne i || false) && opens one_of (drop 1 tag) r))

begins-lead : (b : ℕ) (r : List ℕ) → begins (b ∷ r) ≡ true → is_tail b ≡ false
begins-lead b r e = go (is_tail b) refl
  where
    go : (x : Bool) → is_tail b ≡ x → x ≡ false
    go true q = true-false (sym e ∙ tail-begins b r (subst T (sym q) tt))
    go false q = refl

held-begins : (t : List ℕ) (b : ℕ) (r : List ℕ) → held t ≡ b ∷ r → begins (b ∷ r) ≡ true
held-begins [] b r e = absurd (suc-ne-zero (length r) (sym (ap length e)))
held-begins (x ∷ t) b r e = go (begins (x ∷ t)) refl (held-begins t b r)
  where
    go : (y : Bool) → begins (x ∷ t) ≡ y → (held t ≡ b ∷ r → begins (b ∷ r) ≡ true) → begins (b ∷ r) ≡ true
    go true q ih = let f : x ∷ t ≡ b ∷ r = rw q at e in subst (λ (l : List ℕ). begins l ≡ true) f q
    go false q ih = let f : held t ≡ b ∷ r = rw q at e in ih f

-- ---- what is released

-- Where what follows the valid prefix can still become a character, no settled byte is past its valid prefix.
settled-valid : (j : List ℕ) → broken j ≡ false → settled j ≤ valid_to j
settled-valid j e = go (ltb (valid_to j) (length j)) refl (is_cut (drop (valid_to j) j)) refl (drop (valid_to j) j) refl e
  where
    go : (x : Bool) → ltb (valid_to j) (length j) ≡ x → (y : Bool) → is_cut (drop (valid_to j) j) ≡ y → (d : List ℕ) → drop (valid_to j) j ≡ d → (x && not y) ≡ false → settled j ≤ valid_to j
    go false p y q d f e = let a = ltb-false (valid_to j) (length j) p in let b = settled-sum j in omega (arith, a, b)
    go true p false q d f e = true-false e
    go true p true q [] f e = let a = ltb-true (valid_to j) (length j) p in let b = length-drop (valid_to j) j in let c = ap length f in absurd (omega (arith, a, b, c))
    go true p true q (x ∷ d) f e =
        let w : j ≡ take (valid_to j) j ++ x ∷ d = sym (take-append-drop (valid_to j) j) ∙ ap (λ (l : List ℕ). take (valid_to j) j ++ l) f in
        let c : begins (x ∷ d) ≡ true = ap (λ (z : Bool). z || opening (x ∷ d)) (ap is_cut (sym f) ∙ q) in
        let l : length (x ∷ d) ≤ length (held j) = subst (λ (t : List ℕ). length (x ∷ d) ≤ length (held t)) (sym w) (held-longest (take (valid_to j) j) x d c) in
        let a = settled-sum j in
        let b = length-drop (valid_to j) j in
        let k = ap length f in
        let v = valid-within j in
        omega (arith, l, a, b, k, v)

-- What is released is valid UTF-8.
pub settled-text : (j : List ℕ) → broken j ≡ false → IsText (take (settled j) j)
settled-text j e = go (valid_to j - settled j) refl (held j) refl
  where
    s≤v : settled j ≤ valid_to j
    s≤v = settled-valid j e

    go : (n : ℕ) → valid_to j - settled j ≡ n → (h : List ℕ) → held j ≡ h → IsText (take (settled j) j)
    go zero q h f = let z : valid_to j ≡ settled j = omega (arith, s≤v, q) in subst (λ (n : ℕ). IsText (take n j)) z (valid-prefix j)
    go (suc n) q [] f =
        let a = settled-sum j in
        let b = ap length f in
        let c = valid-within j in
        absurd (omega (arith, a, b, c, q))
    go (suc n) q (b ∷ r) f =
        let (cs, g, w) = valid-prefix j in
        let z : valid_to j ≡ settled j + suc n = omega (arith, s≤v, q) in
        let u : join cs ≡ take (settled j) j ++ b ∷ take n r =
        sym w ∙ ap (λ (n : ℕ). take n j) z ∙ take-add (settled j) (suc n) j ∙ ap (λ (l : List ℕ). take (settled j) j ++ take (suc n) l) (sym (held-tail j) ∙ f) in
        boundary cs g (take (settled j) j) b (take n r) (begins-lead b r (held-begins j b r f)) u

-- ---- places from the start

-- The byte before does not matter to a character.
char-prev : (p q k : ℕ) (s : List ℕ) → moves char_step p k s ≡ moves char_step q k s
unfolding char_step
char-prev p q k [] = refl
char-prev p q zero (b ∷ s) = refl
char-prev p q (suc k) (b ∷ s) = refl

-- After a text, the valid prefix goes on as that of what follows.
pub valid-after : (a b : List ℕ) → IsText a → valid_to (a ++ b) ≡ length a + valid_to b
valid-after a b t =
    let (cs, h, e) = t in
    let (us, g, f) = chars-run cs h in
    let (q, m) = retrace char_step 0 us b (follows chars-read us g b) in
    ap (λ (l : List ℕ). place (through char_step (l ++ b))) (e ∙ f) ∙ ap place (m ∙ ap (λ (ms : List Move). us ++ ms) (char-prev q 0 0 b))
    ∙ ap length (taken-append us (through char_step b)) ∙ length-append (taken us) (taken (through char_step b)) ∙ ap (λ (l : List ℕ). length l + valid_to b) (sym (e ∙ f))

-- ---- what is written

all_take : (good : Move → Type 0) (n : ℕ) (ms : List Move) → All good ms → All good (take n ms)
all_take good zero ms g = tt
all_take good (suc n) [] g = tt
all_take good (suc n) (m ∷ ms) g = (g.0, all_take good n ms g.1)

-- What a part call writes is valid UTF-8 by itself.
pub settled-valid-text : (j : List ℕ) → broken j ≡ false → IsText (result (settled_moves j))
settled-valid-text j e =
    moves-text (settled_moves j) (all_take Regroups (settled j) (through raw_step j) (moves-fair Regroups raw_step raw-regroups 0 0 j).0)
    (subst IsText (sym (taken-first (settled j) j)) (settled-text j e))

-- ---- a text that is broken stays so

-- Where no sequence stands, nothing is valid.
stuck : (s : List ℕ) → sequence_at s ≡ none → valid_to s ≡ 0
unfolding char_step
stuck [] h = refl
stuck (x ∷ s) h =
    ap (λ (o : Option (List Range)). place (and_then (keep_char o (x ∷ s)) (moves char_step x (pred (length (takes (keep_char o (x ∷ s))))) s))) h

closed : (r : List ℕ) (q : List Range) → In q sequences → is_cut r ≡ false → opens inside q r ≡ false
unfolding is_cut
closed r q i e = is_false (opens inside q r) (λ t. subst T e (any-intro (λ (q : List Range). opens inside q r) sequences q i t))

module _ (x u : List ℕ) (e : broken x ≡ true) where
  abbrev good : List ℕ
  good = take (valid_to x) x

  abbrev rest : List ℕ
  rest = drop (valid_to x) x

  good_length : length good ≡ valid_to x
  good_length = length-take-le (valid_to x) x (valid-within x)

  both : (a b : Bool) → (a && not b) ≡ true → (a ≡ true) × (b ≡ false)
  both true true f = true-false (sym f)
  both true false f = (refl, refl)
  both false b f = true-false (sym f)

  open-not : is_cut rest ≡ false
  open-not = (both (ltb (valid_to x) (length x)) (is_cut rest) e).1

  -- A sequence that stood there with more behind it would stand there without.
  nothing : sequence_at (rest ++ u) ≡ none
  nothing =
      first-none (fits inside) sequences (rest ++ u) (λ q i t.
      let f : T (fits inside q rest) = subst T (fits-far inside q rest u (closed rest q i open-not)) t in
      let c = take (length q) rest in
      let n : length c ≡ length q = fits-length inside q rest f in
      let w : IsText (good ++ c) = text-append good c (valid-prefix x) ((c ∷ [], ((q, i, fits-take inside q rest f, n), tt), sym (append-nil c))) in
      let s : x ≡ (good ++ c) ++ drop (length q) rest =
      sym (take-append-drop (valid_to x) x) ∙ ap (λ (l : List ℕ). good ++ l) (sym (take-append-drop (length q) rest)) ∙ sym (append_assoc good c (drop (length q) rest)) in
      let m = valid-longest x (good ++ c) (drop (length q) rest) w s in
      let p = ltb→lt 0 (length q) (sequence-pos q i) in
      let l = length-append good c in
      let g = good_length in
      omega (arith, m, p, l, g, n))

  whole : x ++ u ≡ good ++ (rest ++ u)
  whole = ap (λ (l : List ℕ). l ++ u) (sym (take-append-drop (valid_to x) x)) ∙ append_assoc good rest u

  -- Its valid prefix stays, whatever follows.
  pub broken-place : valid_to (x ++ u) ≡ valid_to x
  broken-place =
      ap valid_to whole ∙ valid-after good (rest ++ u) (valid-prefix x) ∙ ap (λ (n : ℕ). length good + n) (stuck (rest ++ u) nothing)
      ∙ (let g = good_length in let z : length good + 0 ≡ valid_to x = omega (arith, g) in z)

  -- And it is still broken.
  pub broken-far : broken (x ++ u) ≡ true
  broken-far =
      let l = ltb-true (valid_to x) (length x) (both (ltb (valid_to x) (length x)) (is_cut rest) e).0 in
      let n = length-append x u in
      let d : drop (valid_to (x ++ u)) (x ++ u) ≡ rest ++ u = (λ i. drop (broken-place i) (whole i)) ∙ drop_at good (rest ++ u) (valid_to x) good_length in
      let p = broken-place in
      λ i. lt-ltb (valid_to (x ++ u)) (length (x ++ u)) (omega (arith, l, n, p)) i && not ((ap is_cut d ∙ cut-far rest u open-not) i)

-- After a text, what follows is broken or not by itself; and it is cut or not by itself.
pub drop-after : (a b : List ℕ) → IsText a → drop (valid_to (a ++ b)) (a ++ b) ≡ drop (valid_to b) b
drop-after a b t = ap (λ (n : ℕ). drop n (a ++ b)) (valid-after a b t) ∙ sym (drop-drop (valid_to b) (length a) (a ++ b)) ∙ ap (drop (valid_to b)) (drop_at a b (length a) refl)

pub short-after : (a b : List ℕ) → IsText a → ltb (valid_to (a ++ b)) (length (a ++ b)) ≡ ltb (valid_to b) (length b)
short-after a b t = (λ i. ltb (valid-after a b t i) (length-append a b i)) ∙ go (ltb (valid_to b) (length b)) refl
  where
    go : (x : Bool) → ltb (valid_to b) (length b) ≡ x → ltb (length a + valid_to b) (length a + length b) ≡ x
    go true e = let l = ltb-true (valid_to b) (length b) e in lt-ltb (length a + valid_to b) (length a + length b) (omega (arith, l))
    go false e = let l = ltb-false (valid_to b) (length b) e in le-ltb (length a + valid_to b) (length a + length b) (omega (arith, l))

pub broken-after : (a b : List ℕ) → IsText a → broken (a ++ b) ≡ broken b
broken-after a b t = λ i. short-after a b t i && not (is_cut (drop-after a b t i))
