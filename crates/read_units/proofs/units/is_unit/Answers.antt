-- `is_unit` meets its contract: six bytes with the number of a unit begin with it (Numbers), and what begins with it is the unit (Reading).
-- Assumes nothing.
use mathlib.Core.List.{List}
use mathlib.Core.Path.{sym, ap, ◌∙◌, subst}
use Prim.Native.Nat.{ℕ, ◌+◌}
use lib.Dec.{T}
use lib.ListN.{drop}
use lib.Seq.{get_or-drop}
use Rattle.read_units.specs.Units.{lowest, is_word}
use Rattle.read_units.proofs.Numbers.{word_stands}
use Rattle.read_units.proofs.Reading.{unit-there}
use Rattle.read_units.proofs.units.is_unit.Goals as goal

pub returns : goal.returns
returns c = λ z.
    let a = c.args in
    let s = drop a.at a.text.now in
    unit-there a.h a.text.now a.at
    (word_stands a.h s (λ k. rw (get_or-drop a.at a.text.now k 0) (c.shared_slice_known-1.given (a.at + k)).fits)
    (subst T (sym (ap (λ (w : List ℕ). is_word w (lowest 6 s)) (sym c.requires.0) ∙ ap (is_word a.words.now) (sym c.six.ensures) ∙ sym c.is_word.ensures ∙ z)) tt)) c.requires.1
