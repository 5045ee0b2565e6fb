-- A test of each of the six strings, computed once.
-- Assumes nothing.
use mathlib.Core.Bool.{Bool, true, false, not, ◌||◌}
use Prim.Native.Nat.{ℕ, ◌<◌}
use lib.Dec.{T}
use Rattle.rules.specs.Bytes.{all, count}
use Rattle.rules.specs.declared.Language.{Language}
use Rattle.rules.specs.declared.Language.TheVariants.{Script, Style}
use Rattle.rules.specs.declared.Quotes.{Quotes}
use Rattle.rules.specs.declared.Context.{Context}
use Rattle.rules.specs.declared.Context.TheVariants.{InHtml, InScript, InStyle, InJson, InAscii}
use Rattle.rules.proofs.Every.{contexts, every}
use Rattle.rules.proofs.EveryByte.{every_byte_lem}

-- The test of a string; every other context passes.
abbrev pub string : (Language → Quotes → Bool) → Context → Bool
string f (InHtml h) = true
string f (InScript q) = f Script q
string f (InStyle q) = f Style q
string f InJson = true
string f InAscii = true

pub six : (f : Language → Quotes → Bool) → T (all (string f) contexts) → (l : Language) (q : Quotes) → T (f l q)
six f t Script q = every (string f) t (InScript q)
six f t Style q = every (string f) t (InStyle q)

-- The test of every byte in a string.
abbrev pub bytes : (Language → Quotes → ℕ → Bool) → Language → Quotes → Bool
bytes f l q = all (f l q) (count 0 256)

pub six-bytes : (f : Language → Quotes → ℕ → Bool) → T (all (string (bytes f)) contexts) → (l : Language) (q : Quotes) (b : ℕ) → b < 256 → T (f l q b)
six-bytes f t l q b h = every_byte_lem (f l q) (six (bytes f) t l q) b h

-- What follows from a test that holds.
pub given : (a r : Bool) → T (not a || r) → T a → T r
given true r t a = t
given false r t a = absurd a
