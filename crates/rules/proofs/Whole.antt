-- decode takes the whole text, but of JSON strings; and what a reference or an escape stands for is at most a fifth longer than it.
-- Assumes nothing.
use mathlib.Core.Bool.{Bool, true, false, not, ◌&&◌, ◌||◌, cond}
use mathlib.Core.Logic.{inl, inr}
use mathlib.Core.Option.{Option, none, some, none-ne-some, some-injective}
use mathlib.Core.Path.{◌≡◌, refl, sym, ap, ◌∙◌, subst}
use mathlib.Core.List.{List, [], ◌∷◌, ◌++◌, map, append_assoc}
use Prim.Native.Nat.{ℕ, pred, ◌+◌, ◌*◌, ◌/◌, ◌%◌, ◌≤◌}
use native.Mathlib.Omega.{arith}
use lib.Dec.{T, leb, ltb, eqb, eqb→eq, leb→le}
use lib.ListN.{length, length-append}
use Rattle.rules.specs.Bytes.{ascii, In, All, all, first, fits, stands, same_bytes, one_of}
use Rattle.rules.specs.Moves.{Move, keep, swap, leave, stop, takes, gives, taken, place, result, through}
use Rattle.rules.specs.Utf8.{utf8}
use Rattle.rules.specs.Tables.{Row, row_at, key, value, rows, replaced_chars}
use Rattle.rules.specs.Names.{names}
use Rattle.rules.specs.declared.Context.{Context}
use Rattle.rules.specs.declared.Context.TheVariants.{InHtml, InScript, InStyle, InJson, InAscii}
use Rattle.rules.specs.declared.Reason.{Reason}
use Rattle.rules.specs.declared.Reason.TheVariants.{NoEnd}
use Rattle.rules.specs.Encoding.{keep_byte, closes, any_case, terminators}
use Rattle.rules.specs.Reading.{undo}
use Rattle.rules.specs.References.{digit, hex_digit_at, number, onto, body_of, number_of, scalar, decode_char, renumbering, stands_for, browse_char, value_of, lookup, meaning, why, refer, at_amp, reference_by, reference_step}
use Rattle.rules.specs.Escapes.{after_less, escape_by}
use Rattle.rules.specs.Json.{short_escapes, pair_of, IsElement, json_step}
use Rattle.rules.specs.Operations.{decode_step}
use Rattle.rules.proofs.Tests.{and_left, and_right, or-false, all_in, first-sound, stands-split, same_bytes_lem}
use Rattle.rules.proofs.Machine.{Fair, fair-map, Goes, moves-fair, whole, whole-if, place-within}
use Rattle.rules.proofs.Tables.{row-length}
use Rattle.rules.proofs.Every.{every, values-code}
use Rattle.rules.proofs.Json.{spelled-long, pair-long, json-fair}

-- A move gives at most a fifth more than it takes.
abbrev pub Fifth : Move → Type 0
Fifth m = 5 * length (gives m) ≤ 6 * length (takes m)

kept-fifth : (x : ℕ) → Fifth (keep (x ∷ []))
kept-fifth x = leb→le 5 6 tt

left-fifth : (w : Reason) → Fifth (leave w (ascii "&"))
left-fifth w = leb→le 5 6 tt

-- ---- what a body stands for

abbrev chosen : Bool → Bool → Bool → List ℕ → List ℕ → List ℕ → List ℕ → List ℕ
chosen a b c one two three four = cond a one (cond b two (cond c three four))

four-most : (a b c : Bool) (x₁ x₂ x₃ x₄ y₁ y₂ y₃ z₁ z₂ w : ℕ)
    → length (chosen a b c (w ∷ []) (z₁ ∷ z₂ ∷ []) (y₁ ∷ y₂ ∷ y₃ ∷ []) (x₁ ∷ x₂ ∷ x₃ ∷ x₄ ∷ [])) ≤ 4
four-most true b c x₁ x₂ x₃ x₄ y₁ y₂ y₃ z₁ z₂ w = leb→le 1 4 tt
four-most false true c x₁ x₂ x₃ x₄ y₁ y₂ y₃ z₁ z₂ w = leb→le 2 4 tt
four-most false false true x₁ x₂ x₃ x₄ y₁ y₂ y₃ z₁ z₂ w = leb→le 3 4 tt
four-most false false false x₁ x₂ x₃ x₄ y₁ y₂ y₃ z₁ z₂ w = leb→le 4 4 tt

utf8-four : (n : ℕ) → length (utf8 n) ≤ 4
utf8-four n =
    four-most (ltb n 0x80) (ltb n 0x800) (ltb n 0x10000) (0xF0 + n / 262144) (0x80 + n / 4096 % 64) (0x80 + n / 64 % 64) (0x80 + n % 64)
    (0xE0 + n / 4096) (0x80 + n / 64 % 64) (0x80 + n % 64) (0xC0 + n / 64) (0x80 + n % 64) n

-- A reader of numbers whose characters have at most four bytes.
abbrev pub Short : (ℕ → Option (List ℕ)) → Type 0
Short char = (n : ℕ) (v : List ℕ) → char n ≡ some v → length v ≤ 4

decode-short : Short decode_char
decode-short n v e = go (scalar n && (leb 32 n || one_of (9 ∷ 10 ∷ 12 ∷ 13 ∷ []) n)) e
  where
    go : (b : Bool) → cond b (some (utf8 n)) none ≡ some v → length v ≤ 4
    go true e = subst (λ (l : List ℕ). length l ≤ 4) (some-injective (utf8 n) v e) (utf8-four n)
    go false e = absurd (none-ne-some v e)

pub browse-short : Short browse_char
browse-short n v e = subst (λ (l : List ℕ). length l ≤ 4) (some-injective (cond given (utf8 (stands_for renumbering n)) (utf8 0xFFFD)) v e) (go given)
  where
    given : Bool
    given = scalar n && not (eqb n 0)

    go : (b : Bool) → length (cond b (utf8 (stands_for renumbering n)) (utf8 0xFFFD)) ≤ 4
    go true = utf8-four (stands_for renumbering n)
    go false = utf8-four 0xFFFD

-- A name's value is at most a fifth longer than the reference.
abbrev short_name : Row → Bool
short_name e = leb (5 * length (value e)) (6 * (length (key e) + 2))

names-short : T (all short_name names)
unfolding names
names-short = tt

-- A number has a `#` and a digit at least.
number-some : (s : List ℕ) (n : ℕ) → number_of s ≡ some n → 2 ≤ length s
number-some [] n e = absurd (none-ne-some n e)
number-some (x ∷ []) n e = go (eqb 35 x) e
  where
    go : (b : Bool) → cond (b && false || b && false) (number hex_digit_at 16 []) (cond (b && true) (number digit 10 []) none) ≡ some n → 2 ≤ length (x ∷ [])
    go true e = absurd (none-ne-some n e)
    go false e = absurd (none-ne-some n e)
number-some (x ∷ y ∷ s) n e = omega arith

meaning-short : (char : ℕ → Option (List ℕ)) → Short char → (body v : List ℕ) → meaning char body ≡ some v → 5 * length v ≤ 6 * (length body + 2)
meaning-short char short body v e = go (number_of body) refl e
  where
    four : (a b : ℕ) → a ≤ 4 → 2 ≤ b → 5 * a ≤ 6 * (b + 2)
    four a b h k = omega arith

    named : (o : Option Row) → first (λ (row : Row). same_bytes (key row)) names body ≡ o → value_of o ≡ some v → 5 * length v ≤ 6 * (length body + 2)
    named none f e = absurd (none-ne-some v e)
    named (some row) f e =
        let (i, t) = first-sound (λ (row : Row). same_bytes (key row)) names body row f in
        let h = leb→le (5 * length (value row)) (6 * (length (key row) + 2)) (all_in short_name names names-short row i) in
        subst (λ (l : List ℕ). 5 * length l ≤ 6 * (length body + 2)) (some-injective (value row) v e)
        (subst (λ (l : List ℕ). 5 * length (value row) ≤ 6 * (length l + 2)) (same_bytes_lem (key row) body t) h)

    go : (o : Option ℕ) → number_of body ≡ o → elim o [ some n ↦ char n | none ↦ lookup names body ] ≡ some v → 5 * length v ≤ 6 * (length body + 2)
    go (some n) f e = four (length v) (length body) (short n v e) (number-some body n f)
    go none f e = named (first (λ (row : Row). same_bytes (key row)) names body) refl e

pub body-split : (s body : List ℕ) → body_of s ≡ some body → (r : List ℕ) × (s ≡ body ++ 59 ∷ r)
body-split [] body e = absurd (none-ne-some body e)
body-split (x ∷ xs) body e = go (eqb x 59) refl (eqb x 38) (body_of xs) refl (body-split xs) e
  where
    go : (p : Bool) → eqb x 59 ≡ p → (q : Bool) (o : Option (List ℕ)) → body_of xs ≡ o → ((b : List ℕ) → body_of xs ≡ some b → (r : List ℕ) × (xs ≡ b ++ 59 ∷ r))
        → cond p (some []) (cond q none (onto x o)) ≡ some body → (r : List ℕ) × (x ∷ xs ≡ body ++ 59 ∷ r)
    go true h q o f ih e =
        (xs, (λ i. eqb→eq x 59 (subst T (sym h) tt) i ∷ xs) ∙ ap (λ (b : List ℕ). b ++ 59 ∷ xs) (some-injective [] body e))
    go false h true o f ih e = absurd (none-ne-some body e)
    go false h false none f ih e = absurd (none-ne-some body e)
    go false h false (some b) f ih e =
        let (r, w) = ih b f in
        (r, ap (λ (l : List ℕ). x ∷ l) w ∙ ap (λ (l : List ℕ). l ++ 59 ∷ r) (some-injective (x ∷ b) body e))

closes-split : (name s : List ℕ) → T (closes (ascii "\\/" ++ name) s) → (r : List ℕ) × (s ≡ ascii "\\/" ++ r)
closes-split name [] t = absurd t
closes-split name (x ∷ []) t = absurd (and_right (one_of (92 ∷ []) x) false t)
closes-split name (x ∷ y ∷ s) t =
    let rest = fits one_of (map any_case name ++ terminators ∷ []) s in
    let u = and_right (one_of (92 ∷ []) x) (one_of (47 ∷ []) y && rest) t in
    (s, λ i. eqb→eq x 92 (or-false (eqb x 92) (and_left (one_of (92 ∷ []) x) (one_of (47 ∷ []) y && rest) t)) i ∷ eqb→eq y 47 (or-false (eqb y 47) (and_left (one_of (47 ∷ []) y) rest u)) i ∷ s)

-- ---- the moves of the decoders are fair, and as good as what they keep and what they replace

module _ (good : Move → Type 0) (kept : (x : ℕ) → good (keep (x ∷ []))) where
  pub reference-fair : ((w : Reason) → good (leave w (ascii "&"))) → (char : ℕ → Option (List ℕ)) → ((body v : List ℕ) → meaning char body ≡ some v → good (swap (ascii "&" ++ body ++ ascii ";") v))
      → (p : ℕ) (s : List ℕ) → Fair good (reference_by char p s) s
  reference-fair left char read p [] = tt
  reference-fair left char read p (x ∷ xs) = go (eqb x 38) refl (body_of xs) refl
    where
      amp : (w : Reason) → x ≡ 38 → Fair good (leave w (ascii "&")) (x ∷ xs)
      amp w e = (left w, xs, (λ i. e i ∷ xs), 0, refl)

      found : x ≡ 38 → (body r : List ℕ) → xs ≡ body ++ 59 ∷ r → (v : Option (List ℕ)) → meaning char body ≡ v → Fair good (refer body v) (x ∷ xs)
      found a body r w none e = amp (why body) a
      found a body r w (some v) e = (read body v e, r, (λ i. a i ∷ (w ∙ sym (append_assoc body (59 ∷ []) r)) i), length (body ++ ascii ";"), refl)

      go : (b : Bool) → eqb x 38 ≡ b → (o : Option (List ℕ)) → body_of xs ≡ o → Fair good (cond b (at_amp char o) (keep (x ∷ []))) (x ∷ xs)
      go false h o f = (kept x, xs, refl, 0, refl)
      go true h none f = amp NoEnd (eqb→eq x 38 (subst T (sym h) tt))
      go true h (some body) f = let (r, w) = body-split xs body f in found (eqb→eq x 38 (subst T (sym h) tt)) body r w (meaning char body) refl

  byte-fair : (s : List ℕ) → Fair good (keep_byte s) s
  byte-fair [] = tt
  byte-fair (x ∷ s) = (kept x, s, refl, 0, refl)

  module _ (bang : good (swap (ascii "\\!") (ascii "!"))) (slash : good (swap (ascii "\\/") (ascii "/"))) where
    less-fair : (name : List ℕ) (p : ℕ) (s : List ℕ) → Fair good (after_less name p s) s
    less-fair name p s = go (eqb p 60 && stands (ascii "\\!--") s) refl (eqb p 60 && closes (ascii "\\/" ++ name) s) refl
      where
        go : (a : Bool) → eqb p 60 && stands (ascii "\\!--") s ≡ a → (b : Bool) → eqb p 60 && closes (ascii "\\/" ++ name) s ≡ b
            → Fair good (cond a (swap (ascii "\\!") (ascii "!")) (cond b (swap (ascii "\\/") (ascii "/")) (keep_byte s))) s
        go true f b g =
            let (r, w) = stands-split (ascii "\\!--") s (and_right (eqb p 60) (stands (ascii "\\!--") s) (subst T (sym f) tt)) in
            (bang, ascii "--" ++ r, w, 1, refl)
        go false f true g =
            let (r, w) = closes-split name s (and_right (eqb p 60) (closes (ascii "\\/" ++ name) s) (subst T (sym g) tt)) in
            (slash, r, w, 1, refl)
        go false f false g = byte-fair s

    pub escape-fair : (c : Context) → ((row : Row) → In row (rows c) → good (swap (value row) (key row))) → (name : List ℕ) (p : ℕ) (s : List ℕ)
        → Fair good (escape_by name (rows c) p s) s
    escape-fair c undone name p s = go (row_at value (rows c) s) refl
      where
        go : (o : Option Row) → row_at value (rows c) s ≡ o → Fair good (undo o (after_less name p s)) s
        go none f = less-fair name p s
        go (some row) f =
            let (i, t) = first-sound (λ (row : Row). stands (value row)) (rows c) s row f in
            let (r, w) = stands-split (value row) s t in
            (undone row i, r, w, pred (length (value row)), row-length value (rows c) (replaced_chars c) (values-code c) row i)

-- ---- they go on to the end of the text

reference-goes : (char : ℕ → Option (List ℕ)) (p x : ℕ) (xs : List ℕ) → Goes (reference_by char p (x ∷ xs))
reference-goes char p x xs = go (eqb x 38) (body_of xs)
  where
    found : (body : List ℕ) (v : Option (List ℕ)) → Goes (refer body v)
    found body none = tt
    found body (some v) = tt

    go : (b : Bool) (o : Option (List ℕ)) → Goes (cond b (at_amp char o) (keep (x ∷ [])))
    go false o = tt
    go true none = tt
    go true (some body) = found body (meaning char body)

less-goes : (name : List ℕ) (p x : ℕ) (xs : List ℕ) → Goes (after_less name p (x ∷ xs))
less-goes name p x xs = go (eqb p 60 && stands (ascii "\\!--") (x ∷ xs)) (eqb p 60 && closes (ascii "\\/" ++ name) (x ∷ xs))
  where
    go : (a b : Bool) → Goes (cond a (swap (ascii "\\!") (ascii "!")) (cond b (swap (ascii "\\/") (ascii "/")) (keep (x ∷ []))))
    go true b = tt
    go false true = tt
    go false false = tt

escape-goes : (rs : List Row) (name : List ℕ) (p x : ℕ) (xs : List ℕ) → Goes (escape_by name rs p (x ∷ xs))
escape-goes rs name p x xs = go (row_at value rs (x ∷ xs))
  where
    go : (o : Option Row) → Goes (undo o (after_less name p (x ∷ xs)))
    go none = less-goes name p x xs
    go (some row) = tt

-- ---- what they replace grows by a fifth at most

reference-fifth : (char : ℕ → Option (List ℕ)) → Short char → (body v : List ℕ) → meaning char body ≡ some v → Fifth (swap (ascii "&" ++ body ++ ascii ";") v)
reference-fifth char short body v e = subst (λ (n : ℕ). 5 * length v ≤ 6 * n) long (meaning-short char short body v e)
  where
    long : length body + 2 ≡ length (ascii "&" ++ body ++ ascii ";")
    long = rw (length-append body (ascii ";")) (omega arith)

-- An escape's character is at most a fifth longer than it; it is shorter, in fact.
abbrev short_row : Row → Bool
short_row e = leb (5 * length (key e)) (6 * length (value e))

row-fifth : (c : Context) (row : Row) → In row (rows c) → Fifth (swap (value row) (key row))
row-fifth c row i = leb→le (5 * length (key row)) (6 * length (value row)) (all_in short_row (rows c) (every (λ (c : Context). all short_row (rows c)) tt c) row i)

-- So it is with each element of a JSON string.
element-fifth : (m : Move) → IsElement m → Fifth m
element-fifth (keep a) (b, e, h) = subst (λ (l : List ℕ). 5 * length l ≤ 6 * length l) (sym e) (leb→le 5 6 tt)
element-fifth (swap v k) (inl i) = leb→le (5 * length k) (6 * length v) (all_in short_row short_escapes tt (k, v) i)
element-fifth (swap v k) (inr (inl u)) =
    let (n, s, h, l, e) = u in
    many (length k) (length v) (subst (λ (l : List ℕ). length l ≤ 4) (sym e) (utf8-four n)) (omega (arith, spelled-long n v s))
  where
    many : (k v : ℕ) → k ≤ 4 → 6 ≤ v → 5 * k ≤ 6 * v
    many k v h l = omega arith
element-fifth (swap v k) (inr (inr u)) =
    let (h, l, a, b, s, t, ih, il, e, q) = u in
    many (length k) (length v) (subst (λ (l : List ℕ). length l ≤ 4) (sym q) (utf8-four (pair_of h l))) (omega (arith, pair-long v k u))
  where
    many : (k v : ℕ) → k ≤ 4 → 6 ≤ v → 5 * k ≤ 6 * v
    many k v h l = omega arith
element-fifth (leave r a) i = absurd i
element-fifth (stop w) i = absurd i

-- What decode takes at a place is there, and what it gives is at most a fifth longer.
pub decode-fair : (c : Context) (p : ℕ) (s : List ℕ) → Fair Fifth (decode_step c p s) s
unfolding decode_step reference_step
decode-fair (InHtml h) = reference-fair Fifth kept-fifth left-fifth decode_char (reference-fifth decode_char decode-short)
decode-fair (InScript q) = escape-fair Fifth kept-fifth (leb→le 5 12 tt) (leb→le 5 12 tt) (InScript q) (row-fifth (InScript q)) (ascii "script")
decode-fair (InStyle q) = escape-fair Fifth kept-fifth (leb→le 5 12 tt) (leb→le 5 12 tt) (InStyle q) (row-fifth (InStyle q)) (ascii "style")
decode-fair InAscii = reference-fair Fifth kept-fifth left-fifth decode_char (reference-fifth decode_char decode-short)
decode-fair InJson = λ p s. fair-map element-fifth (json_step p s) s (json-fair p s)

-- The contexts whose decoder goes on to the end of every text: all but json.
abbrev pub Endless : Context → Type 0
Endless (InHtml h) = Unit {0}
Endless (InScript q) = Unit {0}
Endless (InStyle q) = Unit {0}
Endless InJson = ⊥
Endless InAscii = Unit {0}

decode-goes : (c : Context) → Endless c → (p x : ℕ) (xs : List ℕ) → Goes (decode_step c p (x ∷ xs))
unfolding decode_step reference_step
decode-goes (InHtml h) w p x xs = reference-goes decode_char p x xs
decode-goes (InScript q) w p x xs = escape-goes (rows (InScript q)) (ascii "script") p x xs
decode-goes (InStyle q) w p x xs = escape-goes (rows (InStyle q)) (ascii "style") p x xs
decode-goes InAscii w p x xs = reference-goes decode_char p x xs
decode-goes InJson w p x xs = absurd w

pub decode-whole : (c : Context) → Endless c → (s : List ℕ) → taken (through (decode_step c) s) ≡ s
decode-whole c w = whole Fifth (decode_step c) (decode-fair c) (decode-goes c w)

-- In every context: where it takes as many bytes as the text has, it takes the text.
pub decode-whole-if : (c : Context) (s : List ℕ) → length s ≤ place (through (decode_step c) s) → taken (through (decode_step c) s) ≡ s
decode-whole-if c = whole-if Fifth (decode_step c) (decode-fair c)

-- ---- how long the result can be

add-up : (v k a b : ℕ) → 5 * v ≤ 6 * k → 5 * a ≤ 6 * b → 5 * (v + a) ≤ 6 * (k + b)
add-up v k a b h i = omega arith

pub at_most : (ms : List Move) → All Fifth ms → 5 * length (result ms) ≤ 6 * length (taken ms)
at_most [] g = omega arith
at_most (m ∷ ms) g =
    rw (length-append (gives m) (result ms), length-append (takes m) (taken ms))
    (add-up (length (gives m)) (length (takes m)) (length (result ms)) (length (taken ms)) g.0 (at_most ms g.1))

pub decode-fifth : (c : Context) (s : List ℕ) → 5 * length (result (through (decode_step c) s)) ≤ 6 * length s
decode-fifth c s =
    within (length (result (through (decode_step c) s))) (place (through (decode_step c) s)) (length s)
    (at_most (through (decode_step c) s) (moves-fair Fifth (decode_step c) (decode-fair c) 0 0 s).0) (place-within Fifth (decode_step c) (decode-fair c) s)
  where
    within : (a b c : ℕ) → 5 * a ≤ 6 * b → b ≤ c → 5 * a ≤ 6 * c
    within a b c h k = omega arith
