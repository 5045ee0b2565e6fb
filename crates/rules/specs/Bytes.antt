-- RULES 1. Lists of bytes: what a list begins with, and the first entry of a table that it begins with.
-- Assumes nothing.
use Rattle.std.specs.Prelude.{Bool, true, false, ◌&&◌, ◌||◌, ◌⊎◌, ◌≡◌, List, [], ◌∷◌, ◌++◌, ℕ, zero, suc, ◌-◌, eqb, leb, length, drop}
use Rattle.std.proofs.Math.Option.{Option, none, some}
use Prim.Native.Char.{Char, code}
use Prim.Native.String.{String, [] as []ˢ, ◌∷◌ as ◌∷ˢ◌}

-- The bytes of a quoted ASCII text: ascii "&lt;" is 38, 108, 116, 59.
abbrev pub ascii : String → List ℕ
ascii []ˢ = []
ascii (c ∷ˢ s) = code c ∷ ascii s

-- The byte is this character: is "&" b.
abbrev pub is : Char → ℕ → Bool
is c b = eqb b (code c)

-- The lists one after the other, as one list.
abbrev pub join : {A : Type 0} → List (List A) → List A
join [] = []
join (a ∷ rest) = a ++ join rest

-- The n numbers from a on.
abbrev pub count : ℕ → ℕ → List ℕ
count a zero = []
count a (suc n) = a ∷ count (suc a) n

-- The bytes from a to b, both in it.
abbrev pub bytes : ℕ → ℕ → List ℕ
bytes a b = count a (suc b - a)

-- The bytes w over the start of what stood there.
abbrev pub over : List ℕ → List ℕ → List ℕ
over w out = w ++ drop (length w) out

-- The entry a is in the list.
abbrev pub In : {A : Type 0} → A → List A → Type 0
In a [] = ⊥
In a (x ∷ xs) = (a ≡ x) ⊎ In a xs

-- Every entry of the list has the property.
abbrev pub All : {A : Type 0} → (A → Type 0) → List A → Type 0
All p [] = Unit {0}
All p (x ∷ xs) = p x × All p xs

-- Every entry passes the test.
abbrev pub all : {A : Type 0} → (A → Bool) → List A → Bool
all f [] = true
all f (x ∷ xs) = f x && all f xs

-- Some entry passes the test.
abbrev pub any : {A : Type 0} → (A → Bool) → List A → Bool
any f [] = false
any f (x ∷ xs) = f x || any f xs

-- The entries that pass the test.
abbrev pub only : {A : Type 0} → (A → Bool) → List A → List A
only f [] = []
only f (x ∷ xs) = elim (f x) [ true ↦ x ∷ only f xs | false ↦ only f xs ]

-- The first entry of a table that fits the bytes s.
abbrev pub first : {E : Type 0} → (E → List ℕ → Bool) → List E → List ℕ → Option E
first fit [] s = none
first fit (e ∷ es) s = elim (fit e s) [ true ↦ some e | false ↦ first fit es s ]

-- The preferred one of two, if there are two.
abbrev pub pick : {A : Type 0} → (A → A → Bool) → A → Option A → A
pick over x none = x
pick over x (some y) = elim (over x y) [ true ↦ x | false ↦ y ]

-- Of the entries that pass the test the one that is preferred to all of them.
abbrev pub best : {A : Type 0} → (A → A → Bool) → (A → Bool) → List A → Option A
best over test [] = none
best over test (x ∷ xs) = elim (test x) [ true ↦ some (pick over x (best over test xs)) | false ↦ best over test xs ]

-- The bytes s begin with the pattern: one item for each byte, and m says whether a byte fits an item.
abbrev pub fits : {B : Type 0} → (B → ℕ → Bool) → List B → List ℕ → Bool
fits m [] s = true
fits m (p ∷ ps) [] = false
fits m (p ∷ ps) (x ∷ xs) = m p x && fits m ps xs

-- The bytes s fit the first items of a pattern, and at least one item is left.
abbrev pub opens : {B : Type 0} → (B → ℕ → Bool) → List B → List ℕ → Bool
opens m [] s = false
opens m (p ∷ ps) [] = true
opens m (p ∷ ps) (x ∷ xs) = m p x && opens m ps xs

-- The bytes v stand at the head of s.
abbrev pub stands : List ℕ → List ℕ → Bool
stands v s = fits eqb v s

-- Two lists are the same bytes.
abbrev pub same_bytes : List ℕ → List ℕ → Bool
same_bytes [] [] = true
same_bytes [] (y ∷ b) = false
same_bytes (x ∷ a) [] = false
same_bytes (x ∷ a) (y ∷ b) = eqb x y && same_bytes a b

-- A range of bytes, both ends in it.
abbrev pub Range : Type 0
Range = ℕ × ℕ

-- The byte x is in the range.
abbrev pub inside : Range → ℕ → Bool
inside r x = leb r.0 x && leb x r.1

-- The byte is one of the characters from a to z.
abbrev pub between : Char → Char → ℕ → Bool
between a z b = inside (code a, code z) b

-- The byte x is one of a set.
abbrev pub one_of : List ℕ → ℕ → Bool
one_of bs x = any (eqb x) bs
