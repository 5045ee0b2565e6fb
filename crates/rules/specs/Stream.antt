-- RULES 20. Raw script by parts: which bytes a call writes, which it holds back, what it answers, and the state that it leaves.
-- Assumes nothing.
use Rattle.std.specs.Prelude.{Bool, true, false, not, ◌&&◌, ◌||◌, cond, ◌≡◌, List, [], ◌∷◌, ◌++◌, map, ℕ, suc, ◌+◌, ◌<◌, ltb, length as size, take, drop}
use Rattle.rules.specs.Bytes.{ascii, All, opens, one_of, over}
use Rattle.rules.specs.Moves.{Move, through, result, replaced}
use Rattle.rules.specs.Utf8.{IsText, IsCut, valid_to, is_cut}
use Rattle.rules.specs.Encoding.{any_case, terminators, raw_step}
use Rattle.rules.specs.Refusals.{refusal, part_success, text_limit}
use Rattle.rules.specs.declared.Answer.{Answer}
use Rattle.rules.specs.declared.RawState.{RawState}

-- ---- what is held back

-- The escaped patterns from their `<`: `<!--`, and `</script` in any letter case with a terminator.
abbrev pub dashes : List (List ℕ)
dashes = map any_case (ascii "<!--")

abbrev pub tag : List (List ℕ)
tag = map any_case (ascii "</script") ++ terminators ∷ []

-- The bytes s begin a character or, from its `<`, an escaped pattern, and more bytes could complete it.
abbrev pub begins : List ℕ → Bool
begins s = is_cut s || (opens one_of dashes s || opens one_of tag s)

-- The longest tail that does so.
abbrev pub held : List ℕ → List ℕ
held [] = []
held (b ∷ s) = cond (begins (b ∷ s)) (b ∷ s) (held s)

-- How many bytes come before it: what follows cannot change what is written for them.
abbrev pub settled : List ℕ → ℕ
settled [] = 0
settled (b ∷ s) = cond (begins (b ∷ s)) 0 (suc (settled s))

-- The moves of script_raw through these bytes, each of which is one move.
abbrev pub settled_moves : List ℕ → List Move
settled_moves s = take (settled s) (through raw_step s)

-- The moves of a call through the bytes before it: finish, the last call, makes all of them.
abbrev pub moves_at : Bool → List ℕ → List Move
moves_at true j = through raw_step j
moves_at false j = settled_moves j

-- How many bytes they take.
abbrev pub taken_at : Bool → List ℕ → ℕ
taken_at true j = size j
taken_at false j = settled j

-- What is held after them.
abbrev pub held_at : Bool → List ℕ → List ℕ
held_at true j = []
held_at false j = held j

-- ---- the state

-- The bytes that a state holds.
abbrev pub held_in : RawState → List ℕ
held_in st = take st.count st.held

-- The started state.
abbrev pub started : RawState
started = record { held = 0 ∷ 0 ∷ 0 ∷ 0 ∷ 0 ∷ 0 ∷ 0 ∷ 0 ∷ []; count = 0; done = 0; finished = false }

-- The state where `done` bytes are taken and h, at most eight bytes, is held.
abbrev pub holding : List ℕ → ℕ → Bool → RawState
holding h n end = record { held = over h started.held; count = size h; done = n; finished = end }

-- ---- the calls

-- A call of a part, or of finish (last), in a state: j is what the state holds and then the part, none at finish; and the room of the output.
pub record PartCall : Type 0 where
  pub last : Bool
  pub state : RawState
  pub joined : List ℕ
  pub room : ℕ

-- What becomes of it.
pub data PartCase : Type 0 where
  finished : PartCase
  too_long : PartCase
  not-utf8 : PartCase
  cut_short : PartCase
  no_room : PartCase
  written : PartCase

-- The order in which the rows are checked.
abbrev pub before : PartCase → List PartCase
before finished = []
before too_long = finished ∷ []
before not-utf8 = finished ∷ too_long ∷ []
before cut_short = finished ∷ too_long ∷ not-utf8 ∷ []
before no_room = finished ∷ too_long ∷ not-utf8 ∷ cut_short ∷ []
before written = finished ∷ too_long ∷ not-utf8 ∷ cut_short ∷ no_room ∷ []

-- The words of each row: CUT_SHORT comes at finish alone.
abbrev pub PartSays : PartCall → PartCase → Type 0
PartSays k finished = k.state.finished ≡ true
PartSays k too_long = text_limit < k.state.done + size k.joined
PartSays k not-utf8 = (IsText k.joined → ⊥) × (IsCut k.joined → ⊥)
PartSays k cut_short = (k.last ≡ true) × IsCut k.joined
PartSays k no_room = k.room < size (result (moves_at k.last k.joined))
PartSays k written = Unit {0}

-- A row is given where its words hold and those of no earlier row do.
abbrev pub PartGiven : PartCall → PartCase → Type 0
PartGiven k row = PartSays k row × All (λ (other : PartCase). PartSays k other → ⊥) (before row)

-- The bytes after the longest valid prefix begin no character.
abbrev pub broken : List ℕ → Bool
broken j = ltb (valid_to j) (size j) && not (is_cut (drop (valid_to j) j))

-- The bytes end within a character.
abbrev pub unfinished : List ℕ → Bool
unfinished j = ltb (valid_to j) (size j) && is_cut (drop (valid_to j) j)

-- The table as a computation.
unfoldable pub part_case : PartCall → PartCase
part_case k =
    cond k.state.finished finished
    (cond (ltb text_limit (k.state.done + size k.joined)) too_long
    (cond (broken k.joined) not-utf8
    (cond (k.last && unfinished k.joined) cut_short
    (cond (ltb k.room (size (result (moves_at k.last k.joined)))) no_room written))))

-- Its columns: the answer of each case. Places count from the start of the text.
abbrev pub part_answer : PartCase → PartCall → Answer
part_answer finished k = refusal 9 0 0
part_answer too_long k = refusal 1 0 0
part_answer not-utf8 k = refusal 2 0 (k.state.done + valid_to k.joined)
part_answer cut_short k = refusal 7 0 (k.state.done + valid_to k.joined)
part_answer no_room k = refusal 3 (size (result (moves_at k.last k.joined))) 0
part_answer written k = part_success (size (result (moves_at k.last k.joined))) (replaced (moves_at k.last k.joined))

-- The state after it: a refused call leaves it as it was.
abbrev pub part_state : PartCase → PartCall → RawState
part_state finished k = k.state
part_state too_long k = k.state
part_state not-utf8 k = k.state
part_state cut_short k = k.state
part_state no_room k = k.state
part_state written k = holding (held_at k.last k.joined) (k.state.done + taken_at k.last k.joined) k.last

-- The moves that it makes: a refused call makes none.
abbrev pub part_moves : PartCase → PartCall → List Move
part_moves finished k = []
part_moves too_long k = []
part_moves not-utf8 k = []
part_moves cut_short k = []
part_moves no_room k = []
part_moves written k = moves_at k.last k.joined

-- The call of a part t, or of finish, where t is empty.
abbrev pub part_call : Bool → RawState → List ℕ → List ℕ → PartCall
part_call last st t out = record { last = last; state = st; joined = held_in st ++ t; room = size out }

-- What the contract of a call allows: the answer a, the state s after it, and the whole output o.
abbrev pub PartAllowed : Bool → RawState → List ℕ → List ℕ → Answer → RawState → List ℕ → Type 0
PartAllowed last st t out a s o =
    let k = part_call last st t out in
    (a ≡ part_answer (part_case k) k) × (s ≡ part_state (part_case k) k) × (o ≡ over (result (part_moves (part_case k) k)) out)
