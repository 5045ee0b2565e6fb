-- What is written part after part, and the digits of a number one after the other.
-- Assumes nothing.
use mathlib.Core.Bool.{Bool, true, false, cond}
use mathlib.Core.Option.{Option, none, some, none-ne-some}
use mathlib.Core.Path.{◌≡◌, refl, sym, ap, ◌∙◌, subst}
use mathlib.Core.List.{List, [], ◌∷◌, ◌++◌, append_assoc, append-nil}
use Prim.Native.Nat.{ℕ, zero, suc, ◌+◌, ◌-◌, ◌/◌, ◌%◌, ◌≤◌, ◌<◌}
use native.Mathlib.Nat.{suc-ne-zero}
use native.Mathlib.Numerals.{add-one}
use native.Mathlib.Omega.{arith}
use borrow.Author.Tests.{lt-ltb, le-ltb, ltb-true, ltb-false, ne_eqb}
use lib.Dec.{ltb}
use lib.ListN.{length, drop, get_or, set, length-append}
use lib.Seq.{drop-cons, set_at, drop-drop}
use Rattle.rules.specs.Bytes.{ascii, over}
use Rattle.rules.specs.Tables.{hex_digit, numeral}
use Rattle.encode_ascii.specs.Wide.{digits}
use Rattle.rules.specs.Utf8.{code_of, utf8}
use Rattle.rules.specs.Names.{names}
use Rattle.rules.specs.Ascii.{name_of, refer_to}
use Rattle.rules.specs.References.{lookup}
use Rattle.rules.specs.Browsing.{given}
use Rattle.rules.proofs.Names.{empty-unnamed}
use Rattle.rules.proofs.Order.{lookup-in}
use Rattle.rules.proofs.CharNames.{name-iff}
use Rattle.rules.proofs.CharNumbers.{code-utf8}
use Rattle.base.proofs.Filled.{Filled, Next, filled-start, filled_more}

-- ---- parts

-- The first part is written over the start of the room.
pub first_part : (w rest out₀ out : List ℕ) (n : ℕ) → length (w ++ rest) ≤ length out₀ → n ≡ length w → out ≡ over w out₀ → Filled (w ++ rest) rest out₀ out n
first_part w rest out₀ out n h e p =
    let z : 0 + length w ≡ n = omega (arith, e) in
    subst (λ (m : ℕ). Filled (w ++ rest) rest out₀ out m) z (filled_more w rest out (filled-start (w ++ rest) out₀ h) refl p)

-- The last part is all that is left.
pub rest_part : (w : List ℕ) → Next w w []
rest_part w = record { next = sym (append-nil w) }

-- What is written over the start goes when more is.
pub over-again : (x : ℕ) (w out : List ℕ) → 1 ≤ length w → over w (over (x ∷ []) out) ≡ over w out
over-again x [] out h = absurd (let f : ⊥ = omega arith in f)
over-again x (b ∷ w) out h = ap (λ (s : List ℕ). (b ∷ w) ++ s) (let z : 1 + length w ≡ suc (length w) = omega arith in drop-drop (length w) 1 out ∙ ap (λ (n : ℕ). drop n out) z)

-- ---- digits

-- A number below sixteen has one digit.
pub last-digit : (most n : ℕ) → 0 < most → n < 16 → numeral hex_digit 16 most n ≡ hex_digit n ∷ []
last-digit zero n h l = absurd (let f : ⊥ = omega arith in f)
last-digit (suc k) n h l = ap (λ (b : Bool). cond b (hex_digit n ∷ []) (numeral hex_digit 16 k (n / 16) ++ hex_digit (n % 16) ∷ [])) (lt-ltb n 16 l)

-- Another number has those of its sixteenth and one more.
pub more-digits : (most n : ℕ) → 0 < most → 16 ≤ n → numeral hex_digit 16 most n ≡ numeral hex_digit 16 (most - 1) (n / 16) ++ hex_digit (n % 16) ∷ []
more-digits zero n h l = absurd (let f : ⊥ = omega arith in f)
more-digits (suc k) n h l =
    let e : k ≡ suc k - 1 = omega arith in
    ap (λ (b : Bool). cond b (hex_digit n ∷ []) (numeral hex_digit 16 k (n / 16) ++ hex_digit (n % 16) ∷ [])) (le-ltb n 16 l)
    ∙ ap (λ (m : ℕ). numeral hex_digit 16 m (n / 16) ++ hex_digit (n % 16) ∷ []) e

-- Of 0 no digit is left when leading zeros are.
pub some-digits : (k n : ℕ) → (n ≡ 0 → ⊥) → digits k n ≡ numeral hex_digit 16 k n
some-digits k n z = ap (λ (b : Bool). cond b [] (numeral hex_digit 16 k n)) (ne_eqb n 0 z)

-- So it is with leading zeros left out.
pub next-digit : (most n : ℕ) → 0 < most → (n ≡ 0 → ⊥) → digits most n ≡ digits (most - 1) (n / 16) ++ hex_digit (n % 16) ∷ []
next-digit most n h z = some-digits most n z ∙ go (ltb n 16) refl
  where
    go : (b : Bool) → ltb n 16 ≡ b → numeral hex_digit 16 most n ≡ digits (most - 1) (n / 16) ++ hex_digit (n % 16) ∷ []
    go true e =
        let l = ltb-true n 16 e in
        let q : 0 ≡ n / 16 = omega (arith, l) in
        let r : n ≡ n % 16 = omega (arith, l) in
        last-digit most n h l ∙ (λ i. digits (most - 1) (q i) ++ hex_digit (r i) ∷ [])
    go false e =
        let l = ltb-false n 16 e in
        more-digits most n h l ∙ ap (λ (w : List ℕ). w ++ hex_digit (n % 16) ∷ []) (sym (some-digits (most - 1) (n / 16) (λ q. let f : ⊥ = omega (arith, l, q) in f)))

-- The number up to a digit is a sixteenth of that up to the next.
pub sixteenths : (n : ℕ) → (n / 1048576 ≡ n / 65536 / 16) × (n / 65536 ≡ n / 4096 / 16) × (n / 4096 ≡ n / 256 / 16) × (n / 256 ≡ n / 16 / 16)
sixteenths n = (omega arith, omega arith, omega arith, omega arith)

-- One more byte after those that are written.
pub over-more : (w out : List ℕ) (x : ℕ) → length w < length out → set (over w out) (length w) x ≡ over (w ++ x ∷ []) out
over-more w out x h =
    let n : length (w ++ x ∷ []) ≡ suc (length w) = length-append w (x ∷ []) ∙ add-one (length w) in
    ap (λ (l : List ℕ). set (w ++ l) (length w) x) (drop-cons out (length w) 0 h)
    ∙ set_at w (get_or out (length w) 0) (drop (suc (length w)) out) x (length w) refl
    ∙ rw (n, append_assoc)

-- ---- the reference

-- A name has a byte.
name-long : (a n : List ℕ) → name_of a ≡ some n → (n ≡ [] → ⊥)
name-long a n e z =
    none-ne-some a (sym empty-unnamed ∙ subst (λ (m : List ℕ). lookup names m ≡ some a) z (lookup-in (n, a) ((name-iff a n).0 e).0))

-- A character that has no name is written by its number,
pub by_number : (code : ℕ) → code ≤ 0x10FFFF → length (given (name_of (utf8 code))) ≡ 0 → (ascii "&#x" ++ numeral hex_digit 16 6 code) ++ ascii ";" ≡ refer_to (utf8 code)
by_number code top z = go (name_of (utf8 code)) refl z
  where
    empty : (n : List ℕ) → length n ≡ 0 → n ≡ []
    empty [] z = refl
    empty (b ∷ n) z = absurd (suc-ne-zero (length n) z)

    go : (o : Option (List ℕ)) → name_of (utf8 code) ≡ o → length (given o) ≡ 0
        → (ascii "&#x" ++ numeral hex_digit 16 6 code) ++ ascii ";" ≡ ascii "&" ++ elim o [ some n ↦ n | none ↦ ascii "#x" ++ numeral hex_digit 16 6 (code_of (utf8 code)) ] ++ ascii ";"
    go none e z = ap (λ (n : ℕ). (ascii "&#x" ++ numeral hex_digit 16 6 n) ++ ascii ";") (sym (code-utf8 code top))
    go (some n) e z = absurd (name-long (utf8 code) n e (empty n z))

-- and any other by its name.
pub by_name : (code : ℕ) → (length (given (name_of (utf8 code))) ≡ 0 → ⊥) → (ascii "&" ++ given (name_of (utf8 code))) ++ ascii ";" ≡ refer_to (utf8 code)
by_name code h = go (name_of (utf8 code)) refl h
  where
    go : (o : Option (List ℕ)) → name_of (utf8 code) ≡ o → (length (given o) ≡ 0 → ⊥)
        → (ascii "&" ++ given o) ++ ascii ";" ≡ ascii "&" ++ elim o [ some n ↦ n | none ↦ ascii "#x" ++ numeral hex_digit 16 6 (code_of (utf8 code)) ] ++ ascii ";"
    go none e h = absurd (h refl)
    go (some n) e h = refl

-- ---- ASCII bytes

-- ---- an opened reference

-- Where only `&` was written there is no name,
pub named-nothing : (n : List ℕ) (r : ℕ) → r ≡ length (ascii "&" ++ n) → r ≡ 1 → length n ≡ 0
named-nothing n r e f = let z : r ≡ suc (length n) = e in omega arith

-- and where more was there is one.
pub named-something : (n : List ℕ) (r : ℕ) → r ≡ length (ascii "&" ++ n) → (r ≡ 1 → ⊥) → length n ≡ 0 → ⊥
named-something n r e f z = f (let y : r ≡ suc (length n) = e in omega arith)

-- What was written then goes.
pub over-empty : (w n out : List ℕ) → length n ≡ 0 → 1 ≤ length w → over w (over (ascii "&" ++ n) out) ≡ over w out
over-empty w [] out z h = over-again 38 w out h
over-empty w (b ∷ n) out z h = absurd (suc-ne-zero (length n) z)
