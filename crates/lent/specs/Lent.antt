-- The state of a raw script by parts as two lent arrays, and what a call leaves in them.
-- Assumes nothing.
use Rattle.std.specs.Prelude.{Bool, not, cond, ◌≡◌, List, [], ◌∷◌, ℕ, eqb, get_or}
use Rattle.rules.specs.Bytes.{over}
use Rattle.rules.specs.Moves.{result}
use Rattle.rules.specs.Stream.{part_call, part_case, part_answer, part_state, part_moves}
use Rattle.rules.specs.declared.Answer.{Answer}
use Rattle.rules.specs.declared.RawPart.{RawPart}
use Rattle.rules.specs.declared.RawState.{RawState}

-- The held bytes, and how many of them are held, how many bytes were taken before them, and whether a finish has passed: any number but 0.
abbrev pub state_of : List ℕ → List ℕ → RawState
state_of held numbers = record { held = held; count = get_or numbers 0 0; done = get_or numbers 1 0; finished = not (eqb (get_or numbers 2 0) 0) }

-- The three numbers of a state.
abbrev pub numbers_of : RawState → List ℕ
numbers_of st = st.count ∷ st.done ∷ cond st.finished 1 0 ∷ []

-- After a call that passed the arrays have the state after it; else they are as they were.
abbrev pub Kept : RawPart → List ℕ → List ℕ → List ℕ → List ℕ → Type 0
Kept part held numbers held' numbers' =
    (part.answer.status ≡ 0 → (held' ≡ part.state.held) × (numbers' ≡ numbers_of part.state))
    × ((part.answer.status ≡ 0 → ⊥) → (held' ≡ held) × (numbers' ≡ numbers))

-- What the contract of a call allows: the answer a, the arrays after it, and the whole output o.
abbrev pub PartLent : Bool → List ℕ → List ℕ → List ℕ → List ℕ → Answer → List ℕ → List ℕ → List ℕ → Type 0
PartLent last held numbers t out a held' numbers' o =
    let k = part_call last (state_of held numbers) t out in
    (a ≡ part_answer (part_case k) k) × Kept (record { answer = a; state = part_state (part_case k) k }) held numbers held' numbers' × (o ≡ over (result (part_moves (part_case k) k)) out)
