-- RULES 2. Steps through a text: the one machine of every operation. Result, place, replaced places and references that stay are read off the moves.
-- Assumes nothing.
use Rattle.std.specs.Prelude.{List, [], ◌∷◌, ◌++◌, ℕ, zero, suc, pred, ◌+◌, ◌-◌, length, drop, get_or}
use Rattle.rules.specs.declared.Reason.{Reason}
use Rattle.rules.specs.declared.Reason.TheVariants.{NoEnd, Empty, UnknownName, NoDigit, NotAllowed}

-- One move: bytes are kept as they are; bytes give way to others; a reference stays for a reason, and its `&` is kept; or nothing can be taken here, and
-- the number is the status of the refusal.
pub data Move : Type 0 where
  keep : List ℕ → Move
  swap : List ℕ → List ℕ → Move
  leave : Reason → List ℕ → Move
  stop : ℕ → Move

-- The bytes of the text that a move takes.
abbrev pub takes : Move → List ℕ
takes (keep a) = a
takes (swap a b) = a
takes (leave r a) = a
takes (stop w) = []

-- The bytes of the result that it gives.
abbrev pub gives : Move → List ℕ
gives (keep a) = a
gives (swap a b) = b
gives (leave r a) = a
gives (stop w) = []

-- A rule says the move at a place from the byte before (0 at the start) and the text from there on.
abbrev pub Rule : Type 0
Rule = ℕ → List ℕ → Move

-- No move comes after a stop.
abbrev pub and_then : Move → List Move → List Move
and_then (keep a) ms = keep a ∷ ms
and_then (swap a b) ms = swap a b ∷ ms
and_then (leave r a) ms = leave r a ∷ ms
and_then (stop w) ms = []

-- The moves of a rule through a text: the rule's move here, and then the moves from behind what it takes.
-- prev is the byte before, and skip bytes still belong to the move before.
abbrev pub moves : Rule → ℕ → ℕ → List ℕ → List Move
moves rule prev skip [] = []
moves rule prev (suc skip) (b ∷ text) = moves rule b skip text
moves rule prev zero (b ∷ text) = let m = rule prev (b ∷ text) in and_then m (moves rule b (pred (length (takes m))) text)

-- The moves of a rule through a whole text.
abbrev pub through : Rule → List ℕ → List Move
through rule text = moves rule 0 0 text

-- The bytes that the moves take, one after the other.
abbrev pub taken : List Move → List ℕ
taken [] = []
taken (m ∷ ms) = takes m ++ taken ms

-- The place where they end.
abbrev pub place : List Move → ℕ
place ms = length (taken ms)

-- The result.
abbrev pub result : List Move → List ℕ
result [] = []
result (m ∷ ms) = gives m ++ result ms

-- How many places are replaced.
abbrev pub replaced : List Move → ℕ
replaced [] = 0
replaced (keep a ∷ ms) = replaced ms
replaced (swap a b ∷ ms) = suc (replaced ms)
replaced (leave r a ∷ ms) = replaced ms
replaced (stop w ∷ ms) = replaced ms

-- Place and reason of each reference that stays, in the order of the text, where the moves begin at place i.
abbrev pub lefts_at : ℕ → List Move → List (ℕ × Reason)
lefts_at i [] = []
lefts_at i (keep a ∷ ms) = lefts_at (i + length a) ms
lefts_at i (swap a b ∷ ms) = lefts_at (i + length a) ms
lefts_at i (leave r a ∷ ms) = (i, r) ∷ lefts_at (i + length a) ms
lefts_at i (stop w ∷ ms) = lefts_at i ms

-- Those of the moves through a text.
abbrev pub lefts : List Move → List (ℕ × Reason)
lefts ms = lefts_at 0 ms

-- The number of each reason.
abbrev pub reason_number : Reason → ℕ
reason_number NoEnd = 1
reason_number Empty = 2
reason_number UnknownName = 3
reason_number NoDigit = 4
reason_number NotAllowed = 5

-- Place and number of the first; 0 and 0 where there is none.
abbrev pub first_of : List (ℕ × Reason) → ℕ × ℕ
first_of [] = (0, 0)
first_of (l ∷ ls) = (l.0, reason_number l.1)

-- Place and reason of the first reference that stays.
abbrev pub first_left : List Move → ℕ × ℕ
first_left ms = first_of (lefts ms)

-- By how much the replaced places that grow do so.
abbrev pub growth : List Move → ℕ
growth [] = 0
growth (keep a ∷ ms) = growth ms
growth (swap a b ∷ ms) = (length b - length a) + growth ms
growth (leave r a ∷ ms) = growth ms
growth (stop w ∷ ms) = growth ms

-- By how much those that shrink do so.
abbrev pub shrinkage : List Move → ℕ
shrinkage [] = 0
shrinkage (keep a ∷ ms) = shrinkage ms
shrinkage (swap a b ∷ ms) = (length a - length b) + shrinkage ms
shrinkage (leave r a ∷ ms) = shrinkage ms
shrinkage (stop w ∷ ms) = shrinkage ms

-- The byte before place i of the text, 0 at the start.
abbrev pub before : List ℕ → ℕ → ℕ
before text zero = 0
before text (suc i) = get_or text i 0

-- The moves from place i on, as a loop meets them.
abbrev pub from : Rule → List ℕ → ℕ → List Move
from rule text i = moves rule (before text i) 0 (drop i text)

-- The status of a stop; 0 of any other move.
abbrev pub why : Move → ℕ
why (keep a) = 0
why (swap a b) = 0
why (leave r a) = 0
why (stop w) = w

-- Why a rule takes no more of a text: the status of its stop where its moves end.
abbrev pub why_at : Rule → List ℕ → ℕ
why_at rule text = let p = place (through rule text) in why (rule (before text p) (drop p text))
