-- A reader of units, for any notion of unit: it takes exactly the runs of units, and stops at the longest prefix that is one.
-- Assumes nothing.
use mathlib.Core.Logic.{◌↔◌}
use mathlib.Core.Path.{◌≡◌, sym, ap, ◌∙◌, subst}
use mathlib.Core.List.{List, [], ◌∷◌, ◌++◌}
use Prim.Native.Nat.{ℕ, ◌≤◌}
use native.Mathlib.Nat.{le-add_right}
use lib.ListN.{length, take, length-append}
use lib.Seq.{take-append_seam, take-length}
use Rattle.rules.specs.Bytes.{All}
use Rattle.rules.specs.Moves.{Move, Rule, moves, taken, place, through}
use Rattle.rules.proofs.Machine.{Makes, Follows, retrace, retrace-all, Fair, moves-fair, taken-append}

-- A run of units, written.
abbrev pub IsWritten : (Move → Type 0) → List ℕ → Type 0
IsWritten unit s = (us : List Move) × All unit us × (s ≡ taken us)

-- A rule reads units: at a unit it makes that unit's move, and every move that it makes is a unit that stands there, or a stop.
pub record Reads (unit : Move → Type 0) (rule : Rule) : Type 0 where
  pub finds : (u : Move) → unit u → (r : List ℕ) → Makes rule u r
  pub fair : (p : ℕ) (s : List ℕ) → Fair unit (rule p s) s

module _ {unit : Move → Type 0} {rule : Rule} (reads : Reads unit rule) where
  pub follows : (us : List Move) → All unit us → (r : List ℕ) → Follows rule us r
  follows [] g r = tt
  follows (u ∷ us) g r = (reads.finds u g.0 (taken us ++ r), follows us g.1 r)

  -- The moves through a run of units are that run.
  pub units-read : (us : List Move) → All unit us → through rule (taken us) ≡ us
  units-read us g = retrace-all rule 0 us (follows us g [])

  -- Two runs that are written alike are one run.
  pub units-unique : (us vs : List Move) → All unit us → All unit vs → taken us ≡ taken vs → us ≡ vs
  units-unique us vs g h e = sym (units-read us g) ∙ ap (through rule) e ∙ units-read vs h

  -- What is taken of any text is a run of units.
  pub place-written : (s : List ℕ) → IsWritten unit (take (place (through rule s)) s)
  place-written s =
      let (g, r, e, end) = moves-fair unit rule reads.fair 0 0 s in
      (through rule s, g, ap (take (place (through rule s))) e ∙ take-append_seam (taken (through rule s)) r)

  -- No longer prefix is one.
  pub place-longest : (s u r : List ℕ) → IsWritten unit u → s ≡ u ++ r → length u ≤ place (through rule s)
  place-longest s u r f e =
      let (us, g, h) = f in
      let (q, m) = retrace rule 0 us r (follows us g r) in
      let eq : taken (through rule s) ≡ u ++ taken (moves rule q 0 r) =
      ap (λ (l : List ℕ). taken (through rule l)) (e ∙ ap (λ (v : List ℕ). v ++ r) h) ∙ ap taken m
      ∙ taken-append us (moves rule q 0 r) ∙ ap (λ (v : List ℕ). v ++ taken (moves rule q 0 r)) (sym h) in
      subst (λ (n : ℕ). length u ≤ n) (sym (ap length eq ∙ length-append u (taken (moves rule q 0 r)))) (le-add_right (length u) (place (moves rule q 0 r)))

  -- A text is a run of units exactly if all of it is taken.
  pub written-iff : (s : List ℕ) → IsWritten unit s ↔ (place (through rule s) ≡ length s)
  written-iff s = (there, back)
    where
      there : IsWritten unit s → place (through rule s) ≡ length s
      there f = ap (λ (l : List ℕ). place (through rule l)) f.2 ∙ ap place (units-read f.0 f.1) ∙ ap length (sym f.2)

      back : place (through rule s) ≡ length s → IsWritten unit s
      back e = subst (IsWritten unit) (ap (λ (n : ℕ). take n s) e ∙ take-length s) (place-written s)
