-- What the functions of the reader of browse tell each other.
-- Assumes nothing.
use Rattle.std.specs.Prelude.{Option, Some, None, MatchOption, Bool, false, ◌≡◌, List, ℕ, ◌+◌, ◌-◌, take, drop, get_or}
use Rattle.std.proofs.Math.Option.{some}
use Rattle.rules.specs.Bytes.{ascii, stands}
use Rattle.rules.specs.Names.{names}
use Rattle.rules.specs.References.{body_of, lookup}
use Rattle.rules.specs.Browsing.{goes_on, number_at, reference_at, browse_step}
use Rattle.rules.specs.Answers.{browse_move}
use Rattle.rules.specs.declared.Kind.{Kind}
use Rattle.rules.specs.declared.Kind.TheVariants.{InText, InAttribute}
use Rattle.rules.specs.declared.DecodedEntity.{DecodedEntity}
use Rattle.rules.specs.declared.DecodedEntityValue.TheVariants.{Character}
use Rattle.decode_html.specs.Digits.{digit_by}
use Rattle.decode_html.specs.Taking.{Gives}
use Rattle.browse_html.specs.declared.Single.{Single}

-- In an attribute a name without `;` stays where the text goes on behind it.
abbrev pub blocked_in : Kind → List ℕ → Bool
blocked_in InText after = false
blocked_in InAttribute after = goes_on after

-- No number begins here, and no name with its `;`.
abbrev pub Named : List ℕ → Type 0
Named s = (stands (ascii "#") s ≡ false) × ((body v : List ℕ) → body_of s ≡ some body → lookup names body ≡ some v → ⊥)

-- No name with its `;` stands behind the `&` at place i, if no number begins there.
abbrev pub Unended : List ℕ → ℕ → Type 0
Unended t i = (get_or t (i + 1) 0 ≡ 35 → ⊥) → Named (drop (i + 1) t)

-- The `&` at place i is kept: so browse moves there.
abbrev pub Keeps : Kind → List ℕ → ℕ → Type 0
Keeps kind t i = (p : ℕ) → browse_move t None ≡ browse_step kind p (drop i t)

-- What the reader of references finds at place i: the reference, or that there is none.
abbrev pub Finds : Kind → List ℕ → ℕ → Option DecodedEntity → Type 0
Finds kind t i result = MatchOption result (Keeps kind t i) (Gives (browse_step kind) t i)

-- The reference from place i that stands for a single character, if there is one.
abbrev pub entity_at : ℕ → Option Single → Option DecodedEntity
entity_at i (Some s) = Some (record { start = i; end = s.end; value = Character s.character })
entity_at i None = None

-- The reference of the `&` at place i is a number in a base, whose digits begin at place a.
abbrev pub Counts : Kind → ℕ → List ℕ → ℕ → ℕ → Type 0
Counts kind base t i a = reference_at kind (drop (i + 1) t) ≡ number_at (digit_by base) base (take (a - (i + 1)) (drop (i + 1) t)) (drop a t)
