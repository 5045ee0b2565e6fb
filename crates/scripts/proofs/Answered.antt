-- The answer of the call by its tests, in their order.
-- Assumes nothing.
use mathlib.Core.Bool.{cond}
use mathlib.Core.Option.{Option}
use mathlib.Core.Path.{◌≡◌, ap, ◌∙◌, subst}
use mathlib.Core.List.{List}
use Prim.Native.Nat.{ℕ, ◌-◌, ◌≤◌, ◌<◌}
use borrow.Author.Tests.{lt-ltb, le-ltb}
use lib.ListN.{length as size, take, drop}
use Rattle.rules.specs.Utf8.{valid_to, is_cut}
use Rattle.rules.specs.Refusals.{text_limit}
use Rattle.rules.specs.ScriptData.{closing_tag}
use Rattle.rules.specs.Closings.{closing, closing_at, closing_of}
use Rattle.rules.specs.declared.Closing.{Closing}
use Rattle.base.proofs.Filled.{lent-rest}

module _ (t : List ℕ) where
  pub too_long : text_limit < size t → closing 1 0 0 ≡ closing_of t
  unfolding closing_of
  too_long h = rw (lt-ltb text_limit (size t) h)

  module _ (short : size t ≤ text_limit) where
    -- What follows the longest valid prefix, as a call is lent it, decides between the two.
    pub not_valid : (v s : ℕ) → v ≡ valid_to t → v < size t → s ≡ cond (is_cut (take (size t - v) (drop v t))) 7 2 → closing s 0 v ≡ closing_of t
    unfolding closing_of
    not_valid v s e h q =
        let lost : valid_to t < size t = subst (λ (n : ℕ). n < size t) e h in
        let status : s ≡ cond (is_cut (drop (valid_to t) t)) 7 2 =
        q ∙ ap (λ (l : List ℕ). cond (is_cut l) 7 2) (lent-rest v t) ∙ ap (λ (n : ℕ). cond (is_cut (drop n t)) 7 2) e in
        (λ i. closing (status i) 0 (e i)) ∙ rw (le-ltb text_limit (size t) short, lt-ltb (valid_to t) (size t) lost)

    pub is_found : (v : ℕ) (r : Closing) (o : Option ℕ) → v ≡ valid_to t → size t ≤ v → o ≡ closing_tag t → r ≡ closing_at o → r ≡ closing_of t
    unfolding closing_of
    is_found v r o e h q p =
        p ∙ ap closing_at q ∙ rw (le-ltb text_limit (size t) short, le-ltb (valid_to t) (size t) (subst (λ (n : ℕ). size t ≤ n) e h))
