-- `names_search::value_of` meets its contract: each of the three ranges of numbers has its own rule.
-- Assumes nothing.
use mathlib.Core.Path.{◌≡◌, ap, ◌∙◌}
use Prim.Native.Nat.{ℕ, ◌+◌, ◌-◌, ◌≤◌, ◌<◌}
use borrow.Author.Rules.{rules}
use borrow.Author.Tests.{lt-ltb, le-ltb}
use Rattle.rules.specs.Utf8.{utf8}
use Rattle.rules.specs.Answers.{unpack_to}
use Rattle.names_search.specs.Pairs.{beside}
use Rattle.names_search.specs.Listed.{listed}
use Rattle.names_search.specs.Lent.{code_bytes}
use Rattle.names_search.proofs.value_of.Goals as goal

low-code : (n : ℕ) → n < 0xE000 → utf8 n ≡ code_bytes n
low-code n h = rw (lt-ltb n 0xE000 h)

high-code : (n : ℕ) → 0xE000 ≤ n → n < 0xF000 → utf8 (0x1D400 + (n - 0xE000)) ≡ code_bytes n
high-code n h l = rw (le-ltb n 0xE000 h, lt-ltb n 0xF000 l)

listed-code : (n : ℕ) → 0xE000 ≤ n → 0xF000 ≤ n → unpack_to 6 (beside 0 listed n) ≡ code_bytes n
listed-code n h l = rw (le-ltb n 0xE000 h, le-ltb n 0xF000 l)

pub returns-then-code-lt57344 : goal.returns-then-code-lt57344
returns-then-code-lt57344 c = low-code c.args.code (search rules)

pub returns-then-code-lt61440 : goal.returns-then-code-lt61440
returns-then-code-lt61440 c = high-code c.args.code (search rules) (search rules)

pub returns : goal.returns
returns c = ap (unpack_to 6) c.listed_value.ensures ∙ listed-code c.args.code (search rules) (search rules)
