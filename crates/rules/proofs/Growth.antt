-- encode and script_raw take the whole text; each place that they replace grows, at most to six times its length, in ascii_quoted to 22 bytes for 3, so
-- that what they write is the text exactly if nothing is replaced.
-- Assumes nothing.
use mathlib.Core.Bool.{Bool, true, false, ◌&&◌, cond}
use mathlib.Core.Logic.{◌↔◌}
use mathlib.Core.Option.{Option, none, some, none-ne-some}
use mathlib.Core.Path.{◌≡◌, refl, sym, ap, ◌∙◌, subst}
use mathlib.Core.List.{List, [], ◌∷◌}
use Prim.Native.Nat.{ℕ, pred, ◌+◌, ◌*◌, ◌≤◌, ◌<◌, ◌-◌}
use native.Mathlib.Nat.{mul-add}
use native.Mathlib.Omega.{arith}
use lib.Dec.{leb, ltb, eqb, leb→le, ltb→lt, lt→ltb}
use lib.ListN.{length, length-append}
use Rattle.rules.specs.Bytes.{ascii, All, all, stands}
use Rattle.rules.specs.Moves.{Move, keep, swap, leave, stop, takes, gives, Rule, taken, result, replaced, growth, shrinkage, through}
use Rattle.rules.specs.Tables.{Row, row_at, key, value, table, replaced_chars}
use Rattle.rules.specs.declared.Context.{Context}
use Rattle.rules.specs.declared.Context.TheVariants.{InHtml, InScript, InStyle, InJson, InAscii}
use Rattle.rules.specs.declared.Quotes.{Quotes}
use Rattle.rules.specs.declared.Notation.{Notation}
use Rattle.rules.specs.declared.Notation.TheVariants.{Script, Style, Json}
use Rattle.rules.specs.Utf8.{char_at}
use Rattle.rules.specs.Contexts.{written_in}
use Rattle.rules.specs.Ascii.{by_rule}
use Rattle.rules.specs.Encoding.{write, keep_byte, encode_by, encode_step, raw_step, parted}
use Rattle.rules.proofs.Tests.{and_left, and_right, all_in, first-sound, stands-split}
use Rattle.rules.proofs.Machine.{Fair, Goes, moves-fair, whole, same-result}
use Rattle.rules.proofs.Tables.{row-length}
use Rattle.rules.proofs.Every.{every, keys-code}
use Rattle.rules.proofs.Chars.{pred_of}
use Rattle.rules.proofs.CharNumbers.{char-stands}
use Rattle.rules.proofs.Ascii.{rule-char, rule-grows}

-- How many bytes a context writes at most for three of the text.
abbrev pub for_three : Context → ℕ
for_three (InHtml h) = 18
for_three (InScript q) = 18
for_three (InStyle q) = 18
for_three InJson = 18
for_three InAscii = 22

-- A move gives at most so many bytes for three that it takes; and if it replaces something it gives more than it takes.
abbrev pub Grows : ℕ → Move → Type 0
Grows most m = (3 * length (gives m) ≤ most * length (takes m)) × (replaced (m ∷ []) + length (takes m) ≤ length (gives m))

-- Every context may write three bytes for three, and a byte that is kept needs no more.
kept-most : (c : Context) (x : ℕ) → Grows (for_three c) (keep (x ∷ []))
kept-most c x = (leb→le 3 (for_three c * 1) (every (λ (c : Context). leb 3 (for_three c * 1)) tt c), leb→le 1 1 tt)

abbrev grown : ℕ → Row → Bool
grown most e = leb (3 * length (value e)) (most * length (key e)) && ltb (length (key e)) (length (value e))

more : (k v : ℕ) → k < v → 1 + k ≤ v
more k v h = omega arith

-- A row of the table.
table-fair : (c : Context) (p : ℕ) (s : List ℕ) → Fair (Grows (for_three c)) (encode_by (table c) p s) s
table-fair c p s = go (row_at key (table c) s) refl s refl
  where
    go : (o : Option Row) → row_at key (table c) s ≡ o → (l : List ℕ) → s ≡ l → Fair (Grows (for_three c)) (write o (keep_byte l)) l
    go none f [] e = tt
    go none f (x ∷ xs) e = (kept-most c x, xs, refl, 0, refl)
    go (some row) f l e =
        let (i, t) = first-sound (λ (row : Row). stands (key row)) (table c) s row f in
        let (r, w) = stands-split (key row) s t in
        let long : Bool = leb (3 * length (value row)) (for_three c * length (key row)) in
        let longer : Bool = ltb (length (key row)) (length (value row)) in
        let g = all_in (grown (for_three c)) (table c) (every (λ (c : Context). all (grown (for_three c)) (table c)) tt c) row i in (
          (
            leb→le (3 * length (value row)) (for_three c * length (key row)) (and_left long longer g),
            more (length (key row)) (length (value row)) (ltb→lt (length (key row)) (length (value row)) (and_right long longer g)),
          ),
          r,
          sym e ∙ w,
          pred (length (key row)),
          row-length key (table c) (replaced_chars c) (keys-code c) row i,
        )

-- What a rule writes.
rule-most : (c : Context) (k v : List ℕ) → by_rule c k ≡ some v → Grows (for_three c) (swap k v)
rule-most InAscii k v e = let (a, b) = rule-grows k v e in (a, omega (arith, b))
rule-most (InHtml h) k v e = absurd (none-ne-some v e)
rule-most (InScript q) k v e = absurd (none-ne-some v e)
rule-most (InStyle q) k v e = absurd (none-ne-some v e)
rule-most InJson k v e = absurd (none-ne-some v e)

encode-fair : (c : Context) (p : ℕ) (s : List ℕ) → Fair (Grows (for_three c)) (encode_step c p s) s
unfolding encode_step
encode-fair c p s = go (by_rule c (char_at s)) refl
  where
    go : (o : Option (List ℕ)) → by_rule c (char_at s) ≡ o
        → Fair (Grows (for_three c)) (write (elim o [ none ↦ none | some v ↦ some (char_at s, v) ]) (encode_by (table c) p s)) s
    go none e = table-fair c p s
    go (some v) e =
        let (char, l) = rule-char c (char_at s) v e in
        let (r, w) = char-stands s l in
        (rule-most c (char_at s) v e, r, w, pred (length (char_at s)), pred_of (length (char_at s)) (lt→ltb 0 (length (char_at s)) (omega arith)))

encode-goes : (c : Context) (p x : ℕ) (xs : List ℕ) → Goes (encode_step c p (x ∷ xs))
unfolding encode_step
encode-goes c p x xs = go (by_rule c (char_at (x ∷ xs))) (row_at key (table c) (x ∷ xs))
  where
    go : (w : Option (List ℕ)) (o : Option Row) → Goes (write (elim w [ none ↦ none | some v ↦ some (char_at (x ∷ xs), v) ]) (write o (keep (x ∷ []))))
    go none none = tt
    go none (some row) = tt
    go (some v) o = tt

raw-fair : (p : ℕ) (s : List ℕ) → Fair (Grows 18) (raw_step p s) s
unfolding raw_step
raw-fair p [] = tt
raw-fair p (b ∷ s) = go (eqb b 60 && parted s)
  where
    go : (t : Bool) → Fair (Grows 18) (cond t (swap (b ∷ []) (b ∷ ascii "\\")) (keep (b ∷ []))) (b ∷ s)
    go true = ((leb→le 6 18 tt, leb→le 2 2 tt), s, refl, 0, refl)
    go false = ((leb→le 3 18 tt, leb→le 1 1 tt), s, refl, 0, refl)

raw-goes : (p x : ℕ) (xs : List ℕ) → Goes (raw_step p (x ∷ xs))
unfolding raw_step
raw-goes p x xs = go (eqb x 60 && parted xs)
  where
    go : (t : Bool) → Goes (cond t (swap (x ∷ []) (x ∷ ascii "\\")) (keep (x ∷ [])))
    go true = tt
    go false = tt

add-up : (t v k a b : ℕ) → 3 * v ≤ t * k → 3 * a ≤ t * b → 3 * (v + a) ≤ t * (k + b)
add-up t v k a b h i = omega (arith, mul-add t k b)

pub at_most : (most : ℕ) (ms : List Move) → All (Grows most) ms → 3 * length (result ms) ≤ most * length (taken ms)
at_most most [] g = omega arith
at_most most (m ∷ ms) g =
    rw (length-append (gives m) (result ms), length-append (takes m) (taken ms))
    (add-up most (length (gives m)) (length (takes m)) (length (result ms)) (length (taken ms)) g.0.0 (at_most most ms g.1))

sum-up : (n v k m a b : ℕ) → n + k ≤ v → m + b ≤ a → n + m + (k + b) ≤ v + a
sum-up n v k m a b h i = omega arith

replaced-cons : (m : Move) (ms : List Move) → replaced (m ∷ ms) ≡ replaced (m ∷ []) + replaced ms
replaced-cons (keep a) ms = omega arith
replaced-cons (swap a b) ms = omega arith
replaced-cons (leave r a) ms = omega arith
replaced-cons (stop w) ms = omega arith

pub at_least : (most : ℕ) (ms : List Move) → All (Grows most) ms → replaced ms + length (taken ms) ≤ length (result ms)
at_least most [] g = omega arith
at_least most (m ∷ ms) g =
    rw (replaced-cons m ms, length-append (gives m) (result ms), length-append (takes m) (taken ms))
    (sum-up (replaced (m ∷ [])) (length (gives m)) (length (takes m)) (replaced ms) (length (result ms)) (length (taken ms)) g.0.1 (at_least most ms g.1))

swap-balance : (a b r t g k : ℕ) → r + k ≡ t + g → b + r + (a - b + k) ≡ a + t + (b - a + g)
swap-balance a b r t g k e = omega arith

keep-balance : (a r t g k : ℕ) → r + k ≡ t + g → a + r + k ≡ a + t + g
keep-balance a r t g k e = omega arith

-- Of any moves: what they give and what the places that shrink lose is what they take and what the places that grow gain.
pub balance : (ms : List Move) → length (result ms) + shrinkage ms ≡ length (taken ms) + growth ms
balance [] = refl
balance (keep a ∷ ms) =
    rw (length-append a (result ms), length-append a (taken ms)) (keep-balance (length a) (length (result ms)) (length (taken ms)) (growth ms) (shrinkage ms) (balance ms))
balance (swap a b ∷ ms) =
    rw (length-append b (result ms), length-append a (taken ms))
    (swap-balance (length a) (length b) (length (result ms)) (length (taken ms)) (growth ms) (shrinkage ms) (balance ms))
balance (leave r a ∷ ms) =
    rw (length-append a (result ms), length-append a (taken ms)) (keep-balance (length a) (length (result ms)) (length (taken ms)) (growth ms) (shrinkage ms) (balance ms))
balance (stop w ∷ ms) = balance ms

no-loss : (a b k : ℕ) → 1 + a ≤ b → k ≡ 0 → a - b + k ≡ 0
no-loss a b k h e = omega arith

-- Where every replaced place grows none shrinks.
none-shrinks : (most : ℕ) (ms : List Move) → All (Grows most) ms → shrinkage ms ≡ 0
none-shrinks most [] g = refl
none-shrinks most (keep a ∷ ms) g = none-shrinks most ms g.1
none-shrinks most (swap a b ∷ ms) g = no-loss (length a) (length b) (shrinkage ms) g.0.1 (none-shrinks most ms g.1)
none-shrinks most (leave r a ∷ ms) g = none-shrinks most ms g.1
none-shrinks most (stop w ∷ ms) g = none-shrinks most ms g.1

none_left : (n a b : ℕ) → n + a ≤ b → b ≡ a → n ≡ 0
none_left n a b h e = omega arith

-- A rule that grows and never stops: at most so many bytes for three, and the same text exactly if nothing is replaced.
module _ (most : ℕ) (rule : Rule) (fair : (p : ℕ) (s : List ℕ) → Fair (Grows most) (rule p s) s) (goes : (p x : ℕ) (xs : List ℕ) → Goes (rule p (x ∷ xs))) where
  most-times : (s : List ℕ) → 3 * length (result (through rule s)) ≤ most * length s
  most-times s =
      subst (λ (l : List ℕ). 3 * length (result (through rule s)) ≤ most * length l) (whole (Grows most) rule fair goes s)
      (at_most most (through rule s) (moves-fair (Grows most) rule fair 0 0 s).0)

  grown-sum : (s : List ℕ) → length (result (through rule s)) ≡ length s + growth (through rule s)
  grown-sum s =
      dropped (length (result (through rule s))) (shrinkage (through rule s)) (length (taken (through rule s)) + growth (through rule s)) (balance (through rule s))
      (none-shrinks most (through rule s) (moves-fair (Grows most) rule fair 0 0 s).0)
      ∙ ap (λ (l : List ℕ). length l + growth (through rule s)) (whole (Grows most) rule fair goes s)
    where
      dropped : (a k b : ℕ) → a + k ≡ b → k ≡ 0 → a ≡ b
      dropped a k b e z = omega arith

  -- Each replaced place adds a byte.
  least : (s : List ℕ) → replaced (through rule s) + length s ≤ length (result (through rule s))
  least s =
      subst (λ (l : List ℕ). replaced (through rule s) + length l ≤ length (result (through rule s))) (whole (Grows most) rule fair goes s)
      (at_least most (through rule s) (moves-fair (Grows most) rule fair 0 0 s).0)

  -- So nothing is replaced exactly if the result is as long as the text.
  as_long_lem : (s : List ℕ) → (replaced (through rule s) ≡ 0) ↔ (length (result (through rule s)) ≡ length s)
  as_long_lem s = (
    λ z. ap length (same-result (through rule s) z ∙ whole (Grows most) rule fair goes s),
    λ e. none_left (replaced (through rule s)) (length s) (length (result (through rule s))) (least s) e,
  )

  none-replaced : (s : List ℕ) → result (through rule s) ≡ s → replaced (through rule s) ≡ 0
  none-replaced s e = (as_long_lem s).1 (ap length e)

  -- What is no longer than the text is the text.
  no_longer_lem : (s : List ℕ) → length (result (through rule s)) ≡ length s → result (through rule s) ≡ s
  no_longer_lem s e =
      let w = whole (Grows most) rule fair goes s in
      same-result (through rule s)
      (none_left (replaced (through rule s)) (length (taken (through rule s))) (length (result (through rule s))) (at_least most (through rule s) (moves-fair (Grows most) rule fair 0 0 s).0)
      (e ∙ ap length (sym w)))
      ∙ w

pub encode-whole : (c : Context) (s : List ℕ) → taken (through (encode_step c) s) ≡ s
encode-whole c = whole (Grows (for_three c)) (encode_step c) (encode-fair c) (encode-goes c)

pub raw-whole : (s : List ℕ) → taken (through raw_step s) ≡ s
raw-whole = whole (Grows 18) raw_step raw-fair raw-goes

pub encode-most : (c : Context) (s : List ℕ) → 3 * length (result (through (encode_step c) s)) ≤ for_three c * length s
encode-most c = most-times (for_three c) (encode_step c) (encode-fair c) (encode-goes c)

-- In all contexts but ascii_quoted it is at most six times the length.
abbrev pub Sixfold : Context → Type 0
Sixfold (InHtml h) = Unit {0}
Sixfold (InScript q) = Unit {0}
Sixfold (InStyle q) = Unit {0}
Sixfold InJson = Unit {0}
Sixfold InAscii = ⊥

pub strings-sixfold : (notation : Notation) (q : Quotes) → Sixfold (written_in notation q)
strings-sixfold Script q = tt
strings-sixfold Style q = tt
strings-sixfold Json q = tt

pub encode-six : (c : Context) → Sixfold c → (s : List ℕ) → length (result (through (encode_step c) s)) ≤ 6 * length s
encode-six c w s = six (for_three c) (eighteen c w) (encode-most c s)
  where
    eighteen : (c : Context) → Sixfold c → for_three c ≡ 18
    eighteen (InHtml h) w = refl
    eighteen (InScript q) w = refl
    eighteen (InStyle q) w = refl
    eighteen InJson w = refl
    eighteen InAscii w = absurd w

    six : (most : ℕ) → most ≡ 18 → 3 * length (result (through (encode_step c) s)) ≤ most * length s → length (result (through (encode_step c) s)) ≤ 6 * length s
    six most e h = let k = subst (λ (m : ℕ). 3 * length (result (through (encode_step c) s)) ≤ m * length s) e h in omega (arith, k)

pub encode-sum : (c : Context) (s : List ℕ) → length (result (through (encode_step c) s)) ≡ length s + growth (through (encode_step c) s)
encode-sum c = grown-sum (for_three c) (encode_step c) (encode-fair c) (encode-goes c)

pub raw-sum : (s : List ℕ) → length (result (through raw_step s)) ≡ length s + growth (through raw_step s)
raw-sum = grown-sum 18 raw_step raw-fair raw-goes

-- A move gives as many bytes more than it takes as it replaces places.
abbrev ByOne : Move → Type 0
ByOne m = length (gives m) ≡ replaced (m ∷ []) + length (takes m)

raw-one : (p : ℕ) (s : List ℕ) → Fair ByOne (raw_step p s) s
unfolding raw_step
raw-one p [] = tt
raw-one p (b ∷ s) = go (eqb b 60 && parted s)
  where
    go : (t : Bool) → Fair ByOne (cond t (swap (b ∷ []) (b ∷ ascii "\\")) (keep (b ∷ []))) (b ∷ s)
    go true = (refl, s, refl, 0, refl)
    go false = (refl, s, refl, 0, refl)

by_ones : (ms : List Move) → All ByOne ms → length (result ms) ≡ replaced ms + length (taken ms)
by_ones [] g = refl
by_ones (m ∷ ms) g =
    rw (replaced-cons m ms, length-append (gives m) (result ms), length-append (takes m) (taken ms))
    (both (length (gives m)) (replaced (m ∷ [])) (length (takes m)) (length (result ms)) (replaced ms) (length (taken ms)) g.0 (by_ones ms g.1))
  where
    both : (v n k a m b : ℕ) → v ≡ n + k → a ≡ m + b → v + a ≡ n + m + (k + b)
    both v n k a m b e f = omega arith

-- In script_raw each replaced place adds one byte, the backslash.
pub raw-replaced : (s : List ℕ) → length (result (through raw_step s)) ≡ replaced (through raw_step s) + length s
raw-replaced s =
    by_ones (through raw_step s) (moves-fair ByOne raw_step raw-one 0 0 s).0 ∙ ap (λ (l : List ℕ). replaced (through raw_step s) + length l) (raw-whole s)

pub raw-six : (s : List ℕ) → length (result (through raw_step s)) ≤ 6 * length s
raw-six s = let h = most-times 18 raw_step raw-fair raw-goes s in omega (arith, h)

pub encode-no-longer : (c : Context) (s : List ℕ) → length (result (through (encode_step c) s)) ≡ length s → result (through (encode_step c) s) ≡ s
encode-no-longer c = no_longer_lem (for_three c) (encode_step c) (encode-fair c) (encode-goes c)

pub encode-none : (c : Context) (s : List ℕ) → result (through (encode_step c) s) ≡ s → replaced (through (encode_step c) s) ≡ 0
encode-none c = none-replaced (for_three c) (encode_step c) (encode-fair c) (encode-goes c)

pub raw-none : (s : List ℕ) → result (through raw_step s) ≡ s → replaced (through raw_step s) ≡ 0
raw-none = none-replaced 18 raw_step raw-fair raw-goes

pub encode-as-long : (c : Context) (s : List ℕ) → (replaced (through (encode_step c) s) ≡ 0) ↔ (length (result (through (encode_step c) s)) ≡ length s)
encode-as-long c = as_long_lem (for_three c) (encode_step c) (encode-fair c) (encode-goes c)
