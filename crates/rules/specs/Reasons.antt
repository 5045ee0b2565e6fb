-- RULES 10.7. Why a reference stays, in words; and the references of a text that stay, byte by byte.
-- Assumes nothing.
use Rattle.std.specs.Prelude.{◌||◌, ◌⊎◌, ◌≡◌, List, [], ◌∷◌, ◌++◌, ℕ, suc, T, length}
use Rattle.std.proofs.Math.Option.{Option, none, some}
use Rattle.rules.specs.Bytes.{ascii, is, stands, In}
use Rattle.rules.specs.Moves.{Move, keep, swap, leave, stop, Rule}
use Rattle.rules.specs.Names.{names}
use Rattle.rules.specs.References.{digit, hex_digit_at, number_of}
use Rattle.rules.specs.declared.Reason.{Reason}
use Rattle.rules.specs.declared.Reason.TheVariants.{NoEnd, Empty, UnknownName, NoDigit, NotAllowed}

-- ---- in words

-- No byte of a is `&`.
abbrev pub Ampless : List ℕ → Type 0
Ampless a = (x : ℕ) → In x a → T (is "&" x) → ⊥

-- None is `;`.
abbrev pub Endless : List ℕ → Type 0
Endless a = (x : ℕ) → In x a → T (is ";" x) → ⊥

-- The text ends here, or an `&` stands here.
abbrev pub Closed : List ℕ → Type 0
Closed r = (r ≡ []) ⊎ ((s : List ℕ) × (r ≡ 38 ∷ s))

-- A body stands at the head of s: bytes that are neither `&` nor `;`, and a `;` after them.
abbrev pub Body : List ℕ → List ℕ → Type 0
Body body s = Ampless body × Endless body × (r : List ℕ) × (s ≡ body ++ 59 ∷ r)

-- One of the bytes is no digit.
abbrev pub Undigit : (ℕ → Option ℕ) → List ℕ → Type 0
Undigit d w = (b : ℕ) × In b w × (d b ≡ none)

-- Hex digits are meant: the bytes after the `#` begin with `x` or `X`.
abbrev pub Hexed : List ℕ → Type 0
Hexed w = T (stands (ascii "x") w || stands (ascii "X") w)

-- A body that stands for nothing, where char says which numbers are characters, for each reason: it is empty, or nothing but the mark of a number; it is
-- no number and no name of the table; a byte after the mark is no digit; or it is a number that has no character.
abbrev pub Because : (ℕ → Option (List ℕ)) → List ℕ → Reason → Type 0
Because char body NoEnd = ⊥
Because char body Empty = In body ([] ∷ ascii "#" ∷ ascii "#x" ∷ ascii "#X" ∷ [])
Because char body UnknownName = (b : ℕ) × (w : List ℕ) × (body ≡ b ∷ w) × (T (is "#" b) → ⊥) × ((v : List ℕ) → In (body, v) names → ⊥)
Because char body NoDigit =
    (w : List ℕ)
    × (((body ≡ ascii "#" ++ w) × (Hexed w → ⊥) × Undigit digit w)
    ⊎ (((body ≡ ascii "#x" ++ w) ⊎ (body ≡ ascii "#X" ++ w)) × Undigit hex_digit_at w))
Because char body NotAllowed = (n : ℕ) × (number_of body ≡ some n) × (char n ≡ none)

-- The reference with s behind its `&` stays for this reason: there is no `;` before the next `&` or the end; or its body stands for nothing.
abbrev pub Stays : (ℕ → Option (List ℕ)) → List ℕ → Reason → Type 0
Stays char s NoEnd = (a r : List ℕ) × (s ≡ a ++ r) × Ampless a × Endless a × Closed r
Stays char s Empty = (body : List ℕ) × Body body s × Because char body Empty
Stays char s UnknownName = (body : List ℕ) × Body body s × Because char body UnknownName
Stays char s NoDigit = (body : List ℕ) × Body body s × Because char body NoDigit
Stays char s NotAllowed = (body : List ℕ) × Body body s × Because char body NotAllowed

-- The reference whose `&` is at place i of a text stays for this reason.
abbrev pub StaysAt : (ℕ → Option (List ℕ)) → List ℕ → ℕ → Reason → Type 0
StaysAt char t i r = (a s : List ℕ) × (t ≡ a ++ 38 ∷ s) × (i ≡ length a) × Stays char s r

-- ---- byte by byte

-- The reason of a move, if a reference stays by it.
abbrev pub reason_in : Move → Option Reason
reason_in (keep a) = none
reason_in (swap a b) = none
reason_in (leave r a) = some r
reason_in (stop w) = none

-- One more before those that stay, if it does.
abbrev pub left_here : ℕ → Option Reason → List (ℕ × Reason) → List (ℕ × Reason)
left_here i none ls = ls
left_here i (some r) ls = (i, r) ∷ ls

-- The references that stay in the rest s of a text, which begins at place i, by a rule that does not look at the byte before.
abbrev pub lefts_in : Rule → ℕ → List ℕ → List (ℕ × Reason)
lefts_in rule i [] = []
lefts_in rule i (b ∷ s) = left_here i (reason_in (rule 0 (b ∷ s))) (lefts_in rule (suc i) s)
