-- `is_unit` meets its contract: the bytes after the backslash are looked at as the definition does (Turns).
-- Assumes nothing.
use mathlib.Core.Path.{◌≡◌, sym, ◌∙◌, subst}
use Prim.Native.Nat.{◌+◌}
use lib.Dec.{T}
use lib.ListN.{get_or}
use Rattle.read_strings.specs.Clear.{keys_of}
use Rattle.read_strings.specs.Units.{is_form}
use Rattle.read_strings.proofs.Turns.{form-unit}
use Rattle.read_strings.proofs.units.is_unit.Goals as goal

pub returns : goal.returns
returns c = λ z.
    let a = c.args in
    let t = a.text.now in
    let e = c.bytes_after-bytes.ensures in
    let same : is_form a.language a.keys.now (get_or c.bytes_after-bytes.result 0 0) (get_or c.bytes_after-bytes.result 1 0) (get_or c.bytes_after-bytes.result 2 0) (get_or c.bytes_after-bytes.result 3 0) (get_or c.bytes_after-bytes.result 4 0) ≡ is_form a.language (keys_of a.quotes) (get_or t (a.at + 1) 0) (get_or t (a.at + 2) 0) (get_or t (a.at + 3) 0) (get_or t (a.at + 4) 0) (get_or t (a.at + 5) 0) =
    λ j. is_form a.language (c.requires.0 j) (get_or (e j) 0 0) (get_or (e j) 1 0) (get_or (e j) 2 0) (get_or (e j) 3 0) (get_or (e j) 4 0) in
    form-unit a.language a.quotes t (λ k. (c.shared_slice_known-1.given k).fits) a.at c.requires.1 c.requires.2 (subst T (sym z ∙ c.is_form.ensures ∙ same) tt)
