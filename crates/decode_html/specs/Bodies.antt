-- Bodies of references, by offsets of the text.
-- Assumes nothing.
use Rattle.std.specs.Prelude.{Option, MatchOption, cond, ◌⊎◌, ◌≡◌, List, ℕ, ◌+◌, ◌-◌, ◌≤◌, ◌<◌, eqb, length, take, drop, get_or}
use Rattle.std.proofs.Math.Option.{none, some}
use Rattle.rules.specs.References.{body_of}

-- A body begins after the `&` at place i, with a byte that is neither `&` nor `;`.
pub record Begun (t : List ℕ) (i : ℕ) : Type 0 where
  pub within : i + 1 < length t
  pub amp : get_or t (i + 1) 0 ≡ 38 → ⊥
  pub end : get_or t (i + 1) 0 ≡ 59 → ⊥

-- The body from place a on ends at the `;` at place r.
pub record Ends (t : List ℕ) (a r : ℕ) : Type 0 where
  pub after : a ≤ r
  pub within : r < length t
  pub end : get_or t r 0 ≡ 59
  pub body : body_of (drop a t) ≡ some (take (r - a) (drop a t))

-- It ends there, or nowhere.
abbrev pub EndsAt : List ℕ → ℕ → Option ℕ → Type 0
EndsAt t a result = MatchOption result (body_of (drop a t) ≡ none) (Ends t a)

-- The bytes after an `&` are those of `&lt;` or `&gt;`, or of `&amp;`, and n is the length of that reference.
abbrev pub KnownBytes : ℕ → ℕ → ℕ → ℕ → ℕ → Type 0
KnownBytes a b c d n =
    ((n ≡ 4) × ((a ≡ 108) ⊎ (a ≡ 103)) × (b ≡ 116) × (c ≡ 59))
    ⊎ ((n ≡ 5) × (a ≡ 97) × (b ≡ 109) × (c ≡ 112) × (d ≡ 59))

-- A reference of n bytes from the `&` at place i on is one of these three.
pub record Known (t : List ℕ) (i n : ℕ) : Type 0 where
  pub within : i + n ≤ length t
  pub bytes : KnownBytes (get_or t (i + 1) 0) (get_or t (i + 2) 0) (get_or t (i + 3) 0) (get_or t (i + 4) 0) n

-- Its value, packed, by the first letter of its name.
abbrev pub known_value : ℕ → ℕ
known_value letter = cond (eqb letter 108) 0x3C (cond (eqb letter 103) 0x3E 0x26)
