-- What the readers of references find.
-- Assumes nothing.
use Rattle.std.proofs.Math.Option.{Option, none, some}
use Rattle.std.specs.Prelude.{Err, ◌≡◌, List, ◌∷◌, ℕ, ◌+◌, ◌≤◌, ◌<◌, length, drop}
use Rattle.rules.specs.Moves.{Rule}
use Rattle.rules.specs.References.{reference_step}
use Rattle.rules.specs.Reasons.{lefts_in}
use Rattle.rules.specs.Answers.{give_way, decode_move}
use Rattle.rules.specs.declared.Reason.{Reason}
use Rattle.rules.specs.declared.Left.{Left}
use Rattle.rules.specs.declared.DecodedEntity.{DecodedEntity}
use Rattle.rules.specs.declared.DecodedEntityValue.{DecodedEntityValue}
use Rattle.rules.specs.declared.DecodedEntityValue.TheVariants.{Named, Character}

-- The character of a number, if there is a number and it has one.
abbrev pub char_of : (ℕ → Option (List ℕ)) → Option ℕ → Option (List ℕ)
char_of char none = none
char_of char (some n) = char n

-- A character's number is at most 10FFFF.
abbrev pub Real : DecodedEntityValue → Type 0
Real (Named n) = Unit {0}
Real (Character n) = n ≤ 0x10FFFF

-- A reference starts at place i and ends in the text, and its value is real.
abbrev pub Lies : List ℕ → ℕ → DecodedEntity → Type 0
Lies t i e = (e.start ≡ i) × (i < e.end) × (e.end ≤ length t) × Real e.value

-- The reference that a reader finds at place i gives way to its value: so its rule moves there, whatever the byte before.
pub record Gives (rule : Rule) (t : List ℕ) (i : ℕ) (e : DecodedEntity) : Type 0 where
  pub move : (p : ℕ) → give_way t e ≡ rule p (drop i t)
  pub lies : Lies t i e

-- The reference at place i stays for a reason: so decode moves there.
abbrev pub Stays : List ℕ → ℕ → Reason → Type 0
Stays t i r = (p : ℕ) → decode_move t (Err r) ≡ reference_step p (drop i t)

-- The first reference that decode leaves from place i of a text on.
abbrev pub NextLeft : List ℕ → ℕ → Left → Type 0
NextLeft t i l =
    (i ≤ l.place) × (l.place < length t)
    × (lefts_in reference_step i (drop i t) ≡ (l.place, l.reason) ∷ lefts_in reference_step (l.place + 1) (drop (l.place + 1) t))
