-- By how much a text grows in a string: what its bytes grow by themselves, less one for each NUL in a style sheet, and three more for each line
-- separator in a script. And how many of its places are replaced: its escaped bytes, and the line separators in a script. Assumes nothing.
use mathlib.Core.Bool.{Bool, true, false, ◌&&◌, ◌||◌, cond}
use mathlib.Core.Path.{◌≡◌, refl, sym, ap, subst, ◌∙◌}
use mathlib.Core.List.{List, [], ◌∷◌}
use Prim.Native.Nat.{ℕ, suc, ◌+◌, ◌-◌, ◌*◌, ◌/◌, ◌≤◌, ◌<◌}
use native.Mathlib.Omega.{arith}
use borrow.Author.Tests.{ne_eqb, ltb-true, ltb-false, eqb-true, eqb-false}
use lib.Dec.{eqb, ltb}
use lib.ListN.{length, drop, get_or, length-append, drop_of_length-le}
use Rattle.rules.specs.Moves.{Move, keep, takes, gives, through, result, replaced}
use Rattle.rules.specs.Encoding.{encode_step}
use Rattle.rules.specs.Operations.{encode_of}
use Rattle.rules.specs.Answers.{replacement_move}
use Rattle.rules.specs.declared.Quotes.{Quotes}
use Rattle.rules.specs.declared.Context.{Context}
use Rattle.rules.specs.declared.Context.TheVariants.{InStyle}
use Rattle.rules.specs.declared.Replacement.TheVariants.{Separator}
use Rattle.rules.proofs.Blind.{Blind, blind-next, replaced-append}
use Rattle.rules.proofs.Loops.{drop-next}
use Rattle.rules.proofs.Growth.{encode-sum}
use Rattle.encode_strings.specs.Strings.{alone, single_key, double_key, is_slashed, is_hexed, escaped_of, hexed_of, same_of, total, ends_of, ended, separators_in, separates, hex_growth, more_of, places_by}
use Rattle.encode_strings.proofs.Heads.{strings-ruleless, kept, no_start, lone}
use Rattle.encode_strings.proofs.Finds.{less, Grows, ascii-grows, slashed-high, hexed-high, ends-are, lead-kept, lead-taken, lead-style, separator-sizes}
use Rattle.rules.specs.Contexts.{written_in}
use Rattle.rules.specs.declared.Notation.{Notation}
use Rattle.rules.specs.declared.Notation.TheVariants.{Script, Style, Json}

-- ---- the sums as a loop meets them

module _ (f : ℕ → ℕ) (s : List ℕ) (i : ℕ) where
  pub total-more : i < length s → total f (drop i s) ≡ f (get_or s i 0) + total f (drop (i + 1) s)
  total-more h = rw (drop-next s i h)

  pub total-none : length s ≤ i → total f (drop i s) ≡ 0
  total-none h = rw (drop_of_length-le s h)

module _ (s : List ℕ) (i : ℕ) (h : i + 2 < length s) where
  separators-more : separators_in (drop i s) ≡ cond (eqb (get_or s i 0) 0xE2 && ends_of (get_or s (i + 1) 0) (get_or s (i + 2) 0)) 1 0 + separators_in (drop (i + 1) s)
  separators-more =
      let a : i + 1 + 1 ≡ i + 2 = omega arith in
      let e : drop (i + 1) s ≡ get_or s (i + 1) 0 ∷ get_or s (i + 2) 0 ∷ drop (i + 2 + 1) s =
      drop-next s (i + 1) (omega arith) ∙ rw a (ap (λ (l : List ℕ). get_or s (i + 1) 0 ∷ l) (drop-next s (i + 2) h)) in
      rw (drop-next s i (omega arith), e)

  -- E2 stands at i, and the two bytes after it tell.
  pub separators-lead : (t : Bool) → get_or s i 0 ≡ 0xE2 → ends_of (get_or s (i + 1) 0) (get_or s (i + 2) 0) ≡ t → separators_in (drop i s) ≡ cond t 1 0 + separators_in (drop (i + 1) s)
  separators-lead t e f = separators-more ∙ rw (e, f)

  -- Another byte stands there.
  pub separators-other : (get_or s i 0 ≡ 0xE2 → ⊥) → separators_in (drop i s) ≡ separators_in (drop (i + 1) s)
  separators-other n = separators-more ∙ rw (ne_eqb (get_or s i 0) 0xE2 n) (omega arith)

and_none : (t : Bool) → t && false ≡ false
and_none true = refl
and_none false = refl

pub separators-none : (s : List ℕ) → length s ≤ 2 → separators_in s ≡ 0
separators-none [] h = refl
separators-none (a ∷ []) h = rw (and_none (eqb a 0xE2))
separators-none (a ∷ b ∷ []) h = let e = and_none (eqb a 0xE2) in let f = and_none (eqb b 0xE2) in λ i. cond (e i) 1 0 + (cond (f i) 1 0 + 0)
separators-none (a ∷ b ∷ c ∷ s) h = absurd (omega arith)

-- ---- one byte

pub encode-blind : (c : Context) → Blind (encode_step c)
unfolding encode_step
encode-blind c p q s = refl

-- How many bytes are escaped, and how many of them by their hex digits.
abbrev escapes : Notation → Quotes → List ℕ → ℕ
escapes notation q = total (escaped_of (single_key notation q) (double_key notation q))

abbrev hexes : List ℕ → ℕ
hexes = total hexed_of

-- By how much those grow more.
abbrev mores : Notation → List ℕ → ℕ
mores notation = total (more_of notation)

more-hexes : (notation : Notation) (s : List ℕ) → mores notation s ≡ hex_growth notation (hexes s)
unfolding more_of
more-hexes Script [] = refl
more-hexes Script (b ∷ s) = omega (arith, more-hexes Script s)
more-hexes Style [] = refl
more-hexes Style (b ∷ s) = omega (arith, more-hexes Style s)
more-hexes Json [] = refl
more-hexes Json (b ∷ s) = omega (arith, more-hexes Json s)

-- Only ASCII bytes are.
none-high : (notation : Notation) (q : Quotes) (b : ℕ) → 0x80 ≤ b → (escaped_of (single_key notation q) (double_key notation q) b ≡ 0) × (more_of notation b ≡ 0)
unfolding escaped_of hexed_of more_of
none-high notation q b h = (rw (slashed-high notation q b h, hexed-high b h), rw (hexed-high b h) (nothing notation))
  where
    nothing : (notation : Notation) → hex_growth notation 0 ≡ 0
    nothing Script = refl
    nothing Style = refl
    nothing Json = refl

module _ (notation : Notation) (quotes : Quotes) where
  -- The other bytes are copied.
  high-grows : (b : ℕ) → 0x80 ≤ b → (b ≡ 0xE2 → ⊥) → Grows notation quotes b
  unfolding same_of
  high-grows b h ne =
      let z : eqb 0 b ≡ false = ne_eqb 0 b (λ e. omega arith) in
      let n = none-high notation quotes b h in
      rw (kept (written_in notation quotes) (strings-ruleless notation quotes) 0 b [] (no_start (written_in notation quotes) (strings-ruleless notation quotes) b h ne), n.0, n.1) (refl, same notation z, refl)
    where
      same : (notation : Notation) → eqb 0 b ≡ false → 1 + less notation b ≡ 1
      same Script z = refl
      same Style z = rw z
      same Json z = refl

  -- Every byte but E2 grows by itself.
  pub grows : (b : ℕ) → (b ≡ 0xE2 → ⊥) → Grows notation quotes b
  grows b ne = go (ltb b 0x80) refl
    where
      go : (t : Bool) → ltb b 0x80 ≡ t → Grows notation quotes b
      go true e = ascii-grows notation quotes b (ltb-true b 0x80 e)
      go false e = high-grows b (ltb-false b 0x80 e) ne

-- ---- the move at the head of a text

-- What it adds to the length, and to the replaced places.
abbrev Adds : Context → Move → List ℕ → List ℕ → Type 0
Adds c m t s =
    (length (encode_of c t) ≡ length (gives m) + length (encode_of c s))
    × (replaced (through (encode_step c) t) ≡ replaced (m ∷ []) + replaced (through (encode_step c) s))

adds : (c : Context) (b : ℕ) (s : List ℕ) (k : ℕ) (m : Move) → encode_step c 0 (b ∷ s) ≡ m → length (takes m) ≡ suc k → Adds c m (b ∷ s) (drop k s)
adds c b s k m e z =
    let f = blind-next (encode_step c) (encode-blind c) b s k m e z in
    let rest = through (encode_step c) (drop k s) in
    (ap (λ (ms : List Move). length (result ms)) f ∙ length-append (gives m) (result rest), ap replaced f ∙ replaced-append (m ∷ []) rest)

-- That of a byte which grows by itself, and that of one which is kept.
byte-adds : (notation : Notation) (quotes : Quotes) (b : ℕ) (s : List ℕ) → (b ≡ 0xE2 → ⊥) → Adds (written_in notation quotes) (alone notation quotes b) (b ∷ s) s
byte-adds notation quotes b s ne = adds (written_in notation quotes) b s 0 (alone notation quotes b) (lone (written_in notation quotes) (strings-ruleless notation quotes) 0 b s ne) (grows notation quotes b ne).0

kept-adds : (c : Context) (b : ℕ) (s : List ℕ) → encode_step c 0 (b ∷ s) ≡ keep (b ∷ []) → Adds c (keep (b ∷ [])) (b ∷ s) s
kept-adds c b s e = adds c b s 0 (keep (b ∷ [])) e refl

-- ---- style sheets

abbrev InSheet : Quotes → List ℕ → Type 0
InSheet q s =
    (length (encode_of (InStyle q) s) + total (same_of 0) s ≡ length s + (escapes Style q s + mores Style s)) × (replaced (through (encode_step (InStyle q)) s) ≡ escapes Style q s)

sheet : (q : Quotes) (s : List ℕ) → InSheet q s
unfolding same_of
sheet q [] = (refl, refl)
sheet q (b ∷ s) = go (eqb b 0xE2) refl (sheet q s)
  where
    go : (t : Bool) → eqb b 0xE2 ≡ t → InSheet q s → InSheet q (b ∷ s)
    go true e ih =
        let a = kept-adds (InStyle q) 0xE2 s (kept (InStyle q) (λ a. refl) 0 0xE2 s (lead-style q)) in
        let n = none-high Style q 0xE2 (omega arith) in
        rw (eqb-true b 0xE2 e, n.0, n.1) (omega (arith, a.0, ih.0), omega (arith, a.1, ih.1))
    go false e ih =
        let ne = eqb-false b 0xE2 e in
        let a = byte-adds Style q b s ne in
        let g = grows Style q b ne in
        (omega (arith, a.0, g.1, ih.0), omega (arith, a.1, g.2, ih.1))

-- ---- scripts and JSON

-- The last two bytes of a separator are not escaped, and begin none.
ends-none : (q : Quotes) (x y : ℕ) → ends_of x y ≡ true → (0x80 ≤ x) × (0x80 ≤ y) × (eqb x 0xE2 ≡ false) × (eqb y 0xE2 ≡ false)
ends-none q x y e =
    let (b, l, u) = ends-are x y e in
    (omega arith, omega arith, ne_eqb x 0xE2 (λ r. omega arith), ne_eqb y 0xE2 (λ r. omega arith))

abbrev Grown : Notation → Quotes → List ℕ → Type 0
Grown notation q s =
    (length (encode_of (written_in notation q) s) ≡ length s + (escapes notation q s + mores notation s) + 3 * separators_in s)
    × (replaced (through (encode_step (written_in notation q)) s) ≡ escapes notation q s + separators_in s)

-- By how much less than it counts a byte grows here: by nothing.
less_none : (notation : Notation) (b : ℕ) → separates notation ≡ true → less notation b ≡ 0
less_none Script b w = refl
less_none Style b w = absurd (let z : ◌≡◌ {A = ℕ} 0 1 = ap (λ (x : Bool). cond x 1 0) w in omega arith)
less_none Json b w = refl

module _ (notation : Notation) (w : separates notation ≡ true) (q : Quotes) where
  -- A byte that begins no separator.
  grown-byte : (b : ℕ) (s : List ℕ) → eqb b 0xE2 && ended s ≡ false → Grown notation q s → Grown notation q (b ∷ s)
  grown-byte b s n ih = go (eqb b 0xE2) refl n
    where
      none : ◌≡◌ {A = ℕ} (cond (eqb b 0xE2 && ended s) 1 0) 0
      none = rw n

      go : (t : Bool) → eqb b 0xE2 ≡ t → t && ended s ≡ false → Grown notation q (b ∷ s)
      go true e f =
          let a = kept-adds (written_in notation q) 0xE2 s (lead-kept notation w q s f) in
          let m = none-high notation q 0xE2 (omega arith) in
          let at = rw (eqb-true b 0xE2 e) at none in
          rw (eqb-true b 0xE2 e, m.0, m.1) (omega (arith, a.0, ih.0, at), omega (arith, a.1, ih.1, at))
      go false e f =
          let ne = eqb-false b 0xE2 e in
          let a = byte-adds notation q b s ne in
          let g = grows notation q b ne in
          (omega (arith, a.0, g.1, less_none notation b w, ih.0, none), omega (arith, a.1, g.2, ih.1, none))

  -- A separator.
  grown-separator : (x y : ℕ) (s : List ℕ) → ends_of x y ≡ true → Grown notation q s → Grown notation q (0xE2 ∷ x ∷ y ∷ s)
  grown-separator x y s e ih =
      let (g, h, m, n) = ends-none q x y e in
      let z = none-high notation q 0xE2 (omega arith) in
      let u = none-high notation q x g in
      let v = none-high notation q y h in
      let a = adds (written_in notation q) 0xE2 (x ∷ y ∷ s) 2 (replacement_move notation (0xE2 ∷ x ∷ y ∷ s) Separator) (lead-taken notation w q (x ∷ y ∷ s) e) (separator-sizes (eqb y 0xA8)).0 in
      let long = (separator-sizes (eqb y 0xA8)).1 in
      rw (z.0, z.1, u.0, u.1, v.0, v.1, e, m, n) (omega (arith, a.0, long, ih.0), omega (arith, a.1, ih.1))

  grows-script : (s : List ℕ) → Grown notation q s
  grows-script [] = (refl, refl)
  grows-script (b ∷ []) = grown-byte b [] (and_none (eqb b 0xE2)) (grows-script [])
  grows-script (b ∷ x ∷ []) = grown-byte b (x ∷ []) (and_none (eqb b 0xE2)) (grows-script (x ∷ []))
  grows-script (b ∷ x ∷ y ∷ s) = go (eqb b 0xE2) (ends_of x y) refl refl (grows-script (x ∷ y ∷ s)) (grows-script s)
    where
      go : (t u : Bool) → eqb b 0xE2 ≡ t → ends_of x y ≡ u → Grown notation q (x ∷ y ∷ s) → Grown notation q s → Grown notation q (b ∷ x ∷ y ∷ s)
      go false u e f i j = grown-byte b (x ∷ y ∷ s) (rw e) i
      go true false e f i j = grown-byte b (x ∷ y ∷ s) (rw (e, f)) i
      go true true e f i j = subst (λ (z : ℕ). Grown notation q (z ∷ x ∷ y ∷ s)) (sym (eqb-true b 0xE2 e)) (grown-separator x y s f j)

-- ---- as the code counts

-- Where E2 does not stand there is no separator.
pub lead-free : (s : List ℕ) → total (same_of 0xE2) s ≡ 0 → separators_in s ≡ 0
unfolding same_of
lead-free [] h = refl
lead-free (b ∷ s) h = go (eqb b 0xE2) refl (lead-free s)
  where
    go : (t : Bool) → eqb b 0xE2 ≡ t → (total (same_of 0xE2) s ≡ 0 → separators_in s ≡ 0) → cond (eqb b 0xE2 && ended s) 1 0 + separators_in s ≡ 0
    go true e ih = let z : ◌≡◌ {A = ℕ} (cond (eqb 0xE2 b) 1 0) 1 = rw (eqb-true b 0xE2 e) in absurd (omega arith)
    go false e ih = let z : ◌≡◌ {A = ℕ} (cond (eqb 0xE2 b) 1 0) 0 = rw (ne_eqb 0xE2 b (λ q. eqb-false b 0xE2 e (sym q))) in rw (e, ih (omega arith))

module _ (notation : Notation) (quotes : Quotes) (s : List ℕ) (a b : ℕ) (e : a ≡ escapes notation quotes s) (f : b ≡ hexes s) where
  more : hex_growth notation b ≡ mores notation s
  more = ap (hex_growth notation) f ∙ sym (more-hexes notation s)

  pub gained-style : separates notation ≡ false → (z : ℕ) → z ≡ total (same_of 0) s
      → (z ≤ a + hex_growth notation b) × (length s + (a + hex_growth notation b - z) ≡ length (encode_of (written_in notation quotes) s)) × (a ≡ replaced (through (encode_step (written_in notation quotes)) s))
  gained-style h z g = go notation h e more
    where
      go : (n : Notation) → separates n ≡ false → a ≡ escapes n quotes s → hex_growth n b ≡ mores n s
          → (z ≤ a + hex_growth n b) × (length s + (a + hex_growth n b - z) ≡ length (encode_of (written_in n quotes) s)) × (a ≡ replaced (through (encode_step (written_in n quotes)) s))
      go Script h e m = absurd (let z : ◌≡◌ {A = ℕ} 1 0 = ap (λ (x : Bool). cond x 1 0) h in omega arith)
      go Json h e m = absurd (let z : ◌≡◌ {A = ℕ} 1 0 = ap (λ (x : Bool). cond x 1 0) h in omega arith)
      go Style h e m =
          let w = sheet quotes s in
          let l = encode-sum (InStyle quotes) s in
          (omega (arith, w.0, l, m), omega (arith, w.0, l, m), omega (arith, w.1))

  pub gained-script : separates notation ≡ true → (n : ℕ) → n ≡ separators_in s
      → (length s + (a + hex_growth notation b + 3 * n) ≡ length (encode_of (written_in notation quotes) s)) × (a + n ≡ replaced (through (encode_step (written_in notation quotes)) s))
  gained-script h n g = let w = grows-script notation h quotes s in (omega (arith, w.0, more), omega (arith, w.1))

  -- Where line separators are escaped, the growth tells how many places are replaced.
  told : separates notation ≡ true → (g : ℕ) → length s + g ≡ length (encode_of (written_in notation quotes) s)
      → (a + hex_growth notation b ≤ g) × (a + (g - (a + hex_growth notation b)) / 3 ≡ replaced (through (encode_step (written_in notation quotes)) s))
  told w g h =
      let v = gained-script w (separators_in s) refl in
      let d : g - (a + hex_growth notation b) ≡ 3 * separators_in s = omega (arith, v.0, h) in
      (omega (arith, v.0, h), omega (arith, d, v.1))

-- What is replaced beside the escaped bytes: the line separators, but in a style sheet nothing.
abbrev pub beside : Notation → List ℕ → ℕ
beside notation s = cond (separates notation) (separators_in s) 0

all-places : (notation : Notation) (quotes : Quotes) (s : List ℕ) → replaced (through (encode_step (written_in notation quotes)) s) ≡ escapes notation quotes s + beside notation s
all-places Script quotes s = (grows-script Script refl quotes s).1
all-places Style quotes s = omega (arith, (sheet quotes s).1)
all-places Json quotes s = (grows-script Json refl quotes s).1

-- Without E2 it is nothing.
pub beside-free : (notation : Notation) (s : List ℕ) → total (same_of 0xE2) s ≡ 0 → 0 ≡ beside notation s
beside-free Script s z = sym (lead-free s z)
beside-free Style s z = refl
beside-free Json s z = sym (lead-free s z)

-- At most two places are replaced for each byte.
pub hits_few : (notation : Notation) (quotes : Quotes) (s : List ℕ) (n : ℕ) → n ≡ replaced (through (encode_step (written_in notation quotes)) s) → n ≤ 2 * length s
unfolding escaped_of
hits_few notation quotes s n e = omega (arith, e, all-places notation quotes s, escapes-few s, beside-few notation s)
  where
    most : (t : Bool) (k n : ℕ) → k ≤ n → cond t 1 0 + k ≤ n + 1
    most true k n h = omega (arith, h)
    most false k n h = omega (arith, h)

    escapes-few : (s : List ℕ) → escapes notation quotes s ≤ length s
    escapes-few [] = omega arith
    escapes-few (a ∷ s) =
        omega (arith, most (is_slashed (single_key notation quotes) (double_key notation quotes) a || is_hexed a) (escapes notation quotes s) (length s) (escapes-few s))

    separators-few : (s : List ℕ) → separators_in s ≤ length s
    separators-few [] = omega arith
    separators-few (a ∷ s) = omega (arith, most (eqb a 0xE2 && ended s) (separators_in s) (length s) (separators-few s))

    beside-few : (notation : Notation) (s : List ℕ) → beside notation s ≤ length s
    beside-few Script s = separators-few s
    beside-few Style s = omega arith
    beside-few Json s = separators-few s

-- Nothing is replaced exactly if no byte is escaped and nothing beside.
module _ (notation : Notation) (quotes : Quotes) (s : List ℕ) (a : ℕ) (e : a ≡ escapes notation quotes s) where
  abbrev hits : ℕ
  hits = replaced (through (encode_step (written_in notation quotes)) s)

  pub hits-some : (a ≡ 0 → ⊥) → false ≡ eqb hits 0
  hits-some h = sym (ne_eqb hits 0 (λ z. h (omega (arith, e, all-places notation quotes s, z))))

  pub hits-beside : a ≡ 0 → (n : ℕ) → n ≡ beside notation s → eqb n 0 ≡ eqb hits 0
  hits-beside z n h = let same : n ≡ hits = omega (arith, e, z, h, all-places notation quotes s) in ap (λ (k : ℕ). eqb k 0) same

-- The growth tells how many places are replaced.
pub never-shorter : (notation : Notation) (quotes : Quotes) (s : List ℕ) → length s ≤ length (encode_of (written_in notation quotes) s)
never-shorter notation quotes s = omega (arith, encode-sum (written_in notation quotes) s)

pub growth-tells : (notation : Notation) (quotes : Quotes) (s : List ℕ) (a b g : ℕ) → a ≡ escapes notation quotes s → b ≡ hexes s
    → length s + g ≡ length (encode_of (written_in notation quotes) s)
    → (separates notation ≡ true → a + hex_growth notation b ≤ g) × (places_by notation a b g ≡ replaced (through (encode_step (written_in notation quotes)) s))
growth-tells Script quotes s a b g e f h = let t = told Script quotes s a b e f refl g h in (λ q. t.0, t.1)
growth-tells Style quotes s a b g e f h = (λ q. absurd (let z : ◌≡◌ {A = ℕ} 0 1 = ap (λ (x : Bool). cond x 1 0) q in omega arith), e ∙ sym (sheet quotes s).1)
growth-tells Json quotes s a b g e f h = let t = told Json quotes s a b e f refl g h in (λ q. t.0, t.1)
