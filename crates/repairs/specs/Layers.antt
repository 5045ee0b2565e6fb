-- What the functions of this crate return, and what one asks of its text.
-- Assumes nothing.
use Rattle.std.proofs.Math.Option.{Option, none, some}
use Rattle.std.specs.Prelude.{◌≡◌, List, ℕ, ◌≤◌, length as size, take, Option as Maybe, Some, None}
use Rattle.rules.specs.Utf8.{IsText}
use Rattle.rules.specs.Operations.{rule_of}
use Rattle.rules.specs.declared.AnyContext.{AnyContext}
use Rattle.rules.specs.declared.Operation.TheVariants.{Encode}
use Rattle.repairs.specs.Repair.{writing, layers, core}
use Rattle.repairs.specs.declared.Peeled.{Peeled}

-- The text below a layer, which stands at the start of an output.
abbrev pub below : Maybe ℕ → List ℕ → Option (List ℕ)
below (Some n) out = some (take n out)
below None out = none

-- Its length.
abbrev pub below_length : Maybe ℕ → ℕ
below_length (Some n) = n
below_length None = 0

-- All layers of a text t are off: how many, and the last text at the start of a buffer.
abbrev pub PeeledOff : AnyContext → List ℕ → Peeled → List ℕ → Type 0
PeeledOff n t p buffer = (p.layers ≡ layers 4 n t) × (take p.length buffer ≡ core 4 n t) × (p.length ≤ size buffer)

-- A text that encode takes, and whose result has at most 8,192 bytes.
pub record Writable (n : AnyContext) (t : List ℕ) : Type 0 where
  pub known : rule_of Encode n ≡ none → ⊥
  pub valid : IsText t
  pub short : size t ≤ 8192
  pub fits : size (writing n t) ≤ 8192

-- Room for every reply: `layers=` and a number of at most twenty digits, a line feed and `text=`, and 8,192 bytes.
abbrev pub reply_room : ℕ
reply_room = 8225
