-- The first place of a text where a test passes, said place by place.
-- Assumes nothing.
use Rattle.std.specs.Prelude.{Bool, true, false, ◌≡◌, ℕ, ◌≤◌, ◌<◌}

-- The test passes at no place from a on and before e.
abbrev pub Free : (ℕ → Bool) → ℕ → ℕ → Type 0
Free test a e = (k : ℕ) → a ≤ k → k < e → test k ≡ false

-- The place r is the first at or after a where the test passes, or the end.
pub record First (test : ℕ → Bool) (end a r : ℕ) : Type 0 where
  pub after : a ≤ r
  pub within : r ≤ end
  pub none : Free test a r
  pub here : r < end → test r ≡ true
