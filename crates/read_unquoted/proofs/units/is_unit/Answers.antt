-- `is_unit` meets its contract: six bytes with the number of a unit are a row (Digits), and a row that stands there is the unit.
-- Assumes nothing.
use Rattle.std.proofs.Common.{ℕ, ◌+◌, ◌<◌, T, List, get_or, drop, sym, ap, ◌∙◌, subst, get_or-drop}
use Rattle.rules.specs.declared.Html.TheVariants.{Unquoted}
use Rattle.read_units.specs.Units.{lowest, is_word}
use Rattle.read_units.proofs.Numbers.{word_stands}
use Rattle.read_units.proofs.Reading.{unit-there}
use Rattle.read_unquoted.specs.Numbered.{Numbered}
use Rattle.read_unquoted.proofs.Digits.{either, numbered-stands}
use Rattle.read_unquoted.proofs.units.is_unit.Goals as goal

pub returns : goal.returns
returns c = λ z.
    let a = c.args in
    let t = a.text.now in
    let s = drop a.at t in
    let bytes : (k : ℕ) → get_or s k 0 < 256 = λ k. rw (get_or-drop a.at t k 0) (c.shared_slice_known-1.given (a.at + k)).fits in
    either _ _ z
    (λ w. unit-there Unquoted t a.at (word_stands Unquoted s bytes (subst T (sym (ap (λ (w : List ℕ). is_word w (lowest 6 s)) (sym c.requires.0) ∙ ap (is_word a.words.now) (sym c.six-six.ensures) ∙ sym c.is_word.ensures ∙ w)) tt)) c.requires.1)
    (λ n. unit-there Unquoted t a.at (numbered-stands s bytes (subst Numbered c.six-six.ensures (c.is_numbered.ensures n))) c.requires.1)
