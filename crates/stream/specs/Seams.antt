-- What the steps of a part call find and leave, where it goes by a seam: the held bytes and the first of the part.
-- Assumes nothing.
use Rattle.std.specs.Prelude.{Bool, true, false, ◌&&◌, ◌⊎◌, ◌≡◌, List, [], ◌∷◌, ◌++◌, ℕ, ◌+◌, ◌-◌, ◌≤◌, ◌<◌, length, take}
use Rattle.rules.specs.Bytes.{one_of, over}
use Rattle.rules.specs.Moves.{result, through}
use Rattle.rules.specs.Utf8.{valid_to}
use Rattle.rules.specs.Encoding.{any_case, raw_step}
use Rattle.rules.specs.Refusals.{refusal, part_success}
use Rattle.rules.specs.Stream.{held, broken, PartCall, part_case, part_answer, part_state, part_moves}
use Rattle.rules.specs.declared.Answer.{Answer}
use Rattle.rules.specs.declared.RawState.{RawState}

-- The bytes s are the start of a name or all of it, its letters in either case.
abbrev pub opens_name : List ℕ → List ℕ → Bool
opens_name name [] = true
opens_name [] (x ∷ s) = false
opens_name (a ∷ name) (x ∷ s) = one_of (any_case a) x && opens_name name s

-- The text is broken at place r; or it is not, and r is its length.
pub record Sound (t : List ℕ) (r : ℕ) : Type 0 where
  pub within : r ≤ length t
  pub bad : r < length t → (broken t ≡ true) × (r ≡ valid_to t)
  pub fine : length t ≤ r → broken t ≡ false

-- What is written for the first n bytes of a text.
abbrev pub front : ℕ → List ℕ → List ℕ
front n t = result (take n (through raw_step t))

-- What is written for the first s bytes of the seam and the first e of the rest.
abbrev pub both : List ℕ → ℕ → List ℕ → ℕ → List ℕ
both seam s rest e = front s seam ++ front e rest

-- The number r is above the room exactly if that is longer, and is then its length.
pub record Needed (seam : List ℕ) (s : ℕ) (rest : List ℕ) (e room r : ℕ) : Type 0 where
  pub more : room < r → r ≡ length (both seam s rest e)
  pub enough : r ≤ room → length (both seam s rest e) ≤ room

-- It is written to the output, or there is no room.
abbrev pub Released : List ℕ → ℕ → List ℕ → ℕ → List ℕ → Answer → List ℕ → Type 0
Released seam s rest e out a o =
    let w = both seam s rest e in
    ((length out < length w) × (a ≡ refusal 3 (length w) 0) × (o ≡ out)) ⊎ ((length w ≤ length out) × (a ≡ part_success (length w) (length w - (s + e))) × (o ≡ over w out))

-- What a call leaves.
abbrev pub Leaves : PartCall → List ℕ → Answer → RawState → List ℕ → Type 0
Leaves k out a st o = (a ≡ part_answer (part_case k) k) × (st ≡ part_state (part_case k) k) × (o ≡ over (result (part_moves (part_case k) k)) out)

-- A part call, not finished, whose text is the seam and then u, where the rest is what the seam holds and then u.
abbrev pub Joined : RawState → List ℕ → List ℕ → List ℕ → Answer → RawState → List ℕ → Type 0
Joined st seam rest out a next o =
    (u : List ℕ) → rest ≡ held seam ++ u → st.finished ≡ false
    → Leaves (record { last = false; state = st; joined = seam ++ u; room = length out }) out a next o
