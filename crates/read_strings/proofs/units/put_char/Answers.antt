-- `put_char` meets its contract: the bytes that are written are those of the definition, with `u` and without; where fewer than four are left, the unit has two.
-- Assumes nothing.
use mathlib.Core.List.{List, [], ◌∷◌}
use mathlib.Core.Path.{◌≡◌, sym, ap, ◌∙◌, subst}
use Prim.Native.Nat.{ℕ, ◌+◌, ◌≤◌}
use native.Mathlib.Omega.{arith}
use lib.ListN.{length, get_or}
use Rattle.rules.specs.Bytes.{over}
use Rattle.read_strings.specs.Units.{length_of, chars_at}
use Rattle.read_strings.proofs.Forms.{length_two, length-short}
use Rattle.read_strings.proofs.Reading.{chars-three, chars-one, byte-short}
use Rattle.read_strings.proofs.Turns.{second-within}
use Rattle.read_strings.proofs.units.put_char.Goals as goal

pub bounds-text-at : goal.bounds-text-at
bounds-text-at c =
    let a = c.args in
    let t = a.text.now in
    second-within a.at (length_of (get_or t (a.at + 1) 0)) (length t) (length_two (get_or t (a.at + 1) 0) (c.shared_slice_known-1.given (a.at + 1)).fits) c.requires.0.ends

pub bounds-text-at-then-b-eq117 : goal.bounds-text-at-then-b-eq117
bounds-text-at-then-b-eq117 c =
    let a = c.args in
    let t = a.text.now in
    let six : a.at + 6 ≤ length t = subst (λ (b : ℕ). a.at + length_of b ≤ length t) c.if-b-eq117.true c.requires.0.ends in
    omega (arith, six)

pub put-requires : goal.put-requires
put-requires c =
    let a = c.args in
    let t = a.text.now in
    let three = chars-three a.language (get_or t (a.at + 1) 0) (get_or t (a.at + 2) 0) (get_or t (a.at + 3) 0) (get_or t (a.at + 5) 0) c.if-b-eq117.true in
    omega (arith, ap length three, c.requires.1)

pub returns-then-b-eq117 : goal.returns-then-b-eq117
returns-then-b-eq117 c =
    let a = c.args in
    let t = a.text.now in
    let three = chars-three a.language (get_or t (a.at + 1) 0) (get_or t (a.at + 2) 0) (get_or t (a.at + 3) 0) (get_or t (a.at + 5) 0) c.if-b-eq117.true in
    (c.put.ensures.0 ∙ ap length (sym three), c.put.ensures.1 ∙ ap (λ (w : List ℕ). over w a.output.now) (sym three))

pub put-requires-then-text-at-lt4 : goal.put-requires-then-text-at-lt4
put-requires-then-text-at-lt4 c =
    let a = c.args in
    let t = a.text.now in
    let one = chars-one a.language (get_or t (a.at + 1) 0) (get_or t (a.at + 2) 0) (get_or t (a.at + 3) 0) (get_or t (a.at + 5) 0) c.if-b-eq117.false in
    omega (arith, ap length one, c.requires.1)

pub returns-then-text-at-lt4 : goal.returns-then-text-at-lt4
returns-then-text-at-lt4 c =
    let a = c.args in
    let t = a.text.now in
    let one = chars-one a.language (get_or t (a.at + 1) 0) (get_or t (a.at + 2) 0) (get_or t (a.at + 3) 0) (get_or t (a.at + 5) 0) c.if-b-eq117.false in
    let short : length_of (get_or t (a.at + 1) 0) ≡ 2 = length-short (get_or t (a.at + 1) 0) (c.shared_slice_known-1.given (a.at + 1)).fits (omega (arith, c.requires.0.ends, c.if-text-at-lt4.true)) in
    let bytes : get_or t (a.at + 1) 0 ∷ [] ≡ chars_at a.language t a.at = ap (λ (b : ℕ). b ∷ []) (sym (byte-short a.language (get_or t (a.at + 1) 0) (get_or t (a.at + 2) 0) (get_or t (a.at + 3) 0) short)) ∙ sym one in
    (c.put-then-text-at-lt4.ensures.0 ∙ ap length bytes, c.put-then-text-at-lt4.ensures.1 ∙ ap (λ (w : List ℕ). over w a.output.now) bytes)

pub put-requires-2 : goal.put-requires-2
put-requires-2 c =
    let a = c.args in
    let t = a.text.now in
    let one = chars-one a.language (get_or t (a.at + 1) 0) (get_or t (a.at + 2) 0) (get_or t (a.at + 3) 0) (get_or t (a.at + 5) 0) c.if-b-eq117.false in
    omega (arith, ap length one, c.requires.1)

pub returns : goal.returns
returns c =
    let a = c.args in
    let t = a.text.now in
    let one = chars-one a.language (get_or t (a.at + 1) 0) (get_or t (a.at + 2) 0) (get_or t (a.at + 3) 0) (get_or t (a.at + 5) 0) c.if-b-eq117.false in
    let bytes : c.byte_of.result ∷ [] ≡ chars_at a.language t a.at = ap (λ (b : ℕ). b ∷ []) c.byte_of.ensures ∙ sym one in
    (c.put-2.ensures.0 ∙ ap length bytes, c.put-2.ensures.1 ∙ ap (λ (w : List ℕ). over w a.output.now) bytes)
