-- RULES 17, of section 21: pages with what each record then holds, what the output holds, and what the call answers.
-- Assumes nothing.
use Rattle.std.specs.Prelude.{Bool, true, false, ◌&&◌, List, [], ◌∷◌, ◌++◌, map, ℕ, ◌-◌, ◌^◌, eqb, take}
use Rattle.rules.specs.Bytes.{ascii, count, same_bytes}
use Rattle.rules.specs.Refusals.{refusal}
use Rattle.rules.specs.Pages.{answer_numbers, page_of}
use Rattle.rules.specs.declared.Field.{Field}

-- A record that asks for a context, a start and a length. What it holds of an earlier page is 9 throughout.
abbrev pub asks : ℕ → ℕ → ℕ → Field
asks c s l = record { context = c; start = s; length = l; begins = 9; answer = refusal 9 9 9 }

-- What a record holds: begins, status, length, same, replaced, place.
abbrev pub held : Field → List ℕ
held f = f.begins ∷ take 5 (answer_numbers f.answer)

abbrev six : ℕ → ℕ → ℕ → ℕ → ℕ → ℕ → List ℕ
six b s l m r p = b ∷ s ∷ l ∷ m ∷ r ∷ p ∷ []

-- A record that was not reached.
abbrev stays : List ℕ
stays = six 9 9 9 0 0 9

-- A page: its text, records and output; what the records and the output then hold, the status, and how many passed.
pub record Edge : Type 0 where
  pub text : List ℕ
  pub asked : List Field
  pub output : List ℕ
  pub told : List (List ℕ)
  pub then : List ℕ
  pub status : ℕ
  pub passed : ℕ

abbrev edge : List ℕ → List Field → List ℕ → List (List ℕ) → List ℕ → ℕ → ℕ → Edge
edge t fs o ws n s p = record { text = t; asked = fs; output = o; told = ws; then = n; status = s; passed = p }

-- So many bytes `a`.
abbrev many : ℕ → List ℕ
many n = map (λ (b : ℕ). 0x61) (count 0 n)

-- So many records of empty parts.
abbrev empties : ℕ → List Field
empties n = map (λ (b : ℕ). asks 1 0 0) (count 0 n)

-- The greatest number that a caller can write.
abbrev greatest : ℕ
greatest = 2 ^ 64 - 1

-- Contexts: 1 is text, 4 quoted, 13 script_raw; 99 is none.
abbrev pub pages : List Edge
pages =
    edge (ascii "a<b") [] (ascii "...") [] (ascii "...") 0 0
    ∷ edge (ascii "a<b") (asks 1 0 3 ∷ []) (ascii "........") (six 0 0 6 0 1 0 ∷ []) (ascii "a&lt;b..") 0 1
    ∷ edge (ascii "a<b'") (asks 1 1 2 ∷ asks 13 0 4 ∷ asks 4 3 1 ∷ asks 1 1 2 ∷ []) (ascii "......................")
    (six 0 0 5 0 1 0 ∷ six 5 0 4 1 0 0 ∷ six 9 0 6 0 1 0 ∷ six 15 0 5 0 1 0 ∷ []) (ascii "&lt;ba<b'&#x27;&lt;b..") 0 4
    -- 5 before 8, 8 before 1
    ∷ edge (ascii "ab") (asks 99 0 3 ∷ []) (ascii "..") (six 0 5 0 0 0 0 ∷ []) (ascii "..") 5 0
    ∷ edge (ascii "ab") (asks 99 0 2 ∷ []) (ascii "..") (six 0 5 0 0 0 0 ∷ []) (ascii "..") 5 0
    ∷ edge (ascii "ab") (asks 1 0 70000 ∷ []) (ascii "..") (six 0 8 0 0 0 0 ∷ []) (ascii "..") 8 0
    -- the ends of the text
    ∷ edge (ascii "ab") (asks 1 2 0 ∷ asks 1 1 1 ∷ asks 1 3 0 ∷ asks 1 0 1 ∷ []) (ascii "...")
    (six 0 0 0 1 0 0 ∷ six 0 0 1 1 0 0 ∷ six 0 8 0 0 0 0 ∷ stays ∷ []) (ascii "b..") 8 2
    ∷ edge (ascii "ab") (asks 1 0 2 ∷ asks 1 0 3 ∷ []) (ascii "...") (six 0 0 2 1 0 0 ∷ six 0 8 0 0 0 0 ∷ []) (ascii "ab.") 8 1
    ∷ edge (ascii "ab") (asks 1 greatest 1 ∷ []) (ascii "...") (six 0 8 0 0 0 0 ∷ []) (ascii "...") 8 0
    ∷ edge (ascii "ab") (asks 1 1 greatest ∷ []) (ascii "...") (six 0 8 0 0 0 0 ∷ []) (ascii "...") 8 0
    ∷ edge [] (asks 1 0 0 ∷ []) [] (six 0 0 0 1 0 0 ∷ []) [] 0 1
    -- a part that cuts a character: places count in the part
    ∷ edge (ascii "aa" ++ 0xC3 ∷ 0xA9 ∷ []) (asks 1 1 3 ∷ asks 1 1 2 ∷ asks 1 0 1 ∷ []) (ascii "....")
    (six 0 0 3 1 0 0 ∷ six 0 7 0 0 0 1 ∷ stays ∷ []) (0x61 ∷ 0xC3 ∷ 0xA9 ∷ ascii ".") 7 1
    ∷ edge (0xC3 ∷ 0xA9 ∷ ascii "a") (asks 1 1 2 ∷ []) (ascii "....") (six 0 2 0 0 0 0 ∷ []) (ascii "....") 2 0
    -- no room in the middle: the length that this record needs; a later one that would fit is not tried
    ∷ edge (ascii "<a") (asks 1 0 1 ∷ asks 1 0 2 ∷ asks 1 1 1 ∷ []) (ascii "........")
    (six 0 0 4 0 1 0 ∷ six 0 3 5 0 0 0 ∷ stays ∷ []) (ascii "&lt;....") 3 1
    -- the limit is each part's: the text can be longer
    ∷ edge (many 65537) (asks 1 65536 1 ∷ asks 1 0 65536 ∷ []) (ascii ".") (six 0 0 1 1 0 0 ∷ six 0 3 65536 0 0 0 ∷ []) (ascii "a") 3 1
    ∷ edge (many 65537) (asks 1 0 65537 ∷ []) (ascii ".") (six 0 1 0 0 0 0 ∷ []) (ascii ".") 1 0
    -- the limit of the list
    ∷ edge (ascii "a") (empties 256) (ascii ".") (map (λ (b : ℕ). six 0 0 0 1 0 0) (count 0 256)) (ascii ".") 0 256
    ∷ edge (ascii "a") (empties 257) (ascii ".") (map (λ (b : ℕ). stays) (count 0 257)) (ascii ".") 1 0
    ∷ []

-- Two lists of such lists are the same.
abbrev same : List (List ℕ) → List (List ℕ) → Bool
same [] [] = true
same [] (y ∷ b) = false
same (x ∷ a) [] = false
same (x ∷ a) (y ∷ b) = same_bytes x y && same a b

-- The page is as its edge says.
abbrev pub page_as : Edge → Bool
page_as e =
    let p = page_of e.text e.asked e.output in
    same (map held p.fields) e.told && same_bytes p.output e.then && eqb p.filled.status e.status && eqb p.filled.passed e.passed
