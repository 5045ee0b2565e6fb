-- `string_set` meets its contract: each set is compared with the rules, byte by byte.
-- Assumes nothing.
use Rattle.rules.specs.declared.Language.{Language}
use Rattle.rules.specs.declared.Language.TheVariants.{Script, Style}
use Rattle.rules.specs.declared.Quotes.TheVariants.{Single, Double, Both}
use Rattle.rules.specs.Contexts.{string_of}
use mathlib.Core.List.{[], ◌∷◌}
use lib.Bits.{bit_or}
use Rattle.reader.specs.Replaced.{begins, Leads, in_set, bit_of, bits_of, separator_word}
use Rattle.reader.proofs.Characters.{leads-checked}
use Rattle.reader.proofs.replaced.string_set.Goals as goal

single : (language : Language) → Leads (string_of language Single) (in_set (bit_or (bit_or (bits_of 0 31) (bit_of 0x27)) (bit_of 0x3C) ∷ bit_of 0x5C ∷ 0 ∷ separator_word language ∷ []))
unfolding in_set begins
single Script = leads-checked (string_of Script Single) _ tt
single Style = leads-checked (string_of Style Single) _ tt

double : (language : Language) → Leads (string_of language Double) (in_set (bit_or (bit_or (bits_of 0 31) (bit_of 0x22)) (bit_of 0x3C) ∷ bit_of 0x5C ∷ 0 ∷ separator_word language ∷ []))
unfolding in_set begins
double Script = leads-checked (string_of Script Double) _ tt
double Style = leads-checked (string_of Style Double) _ tt

both : (language : Language) → Leads (string_of language Both) (in_set (bit_or (bit_or (bit_or (bits_of 0 31) (bit_of 0x22)) (bit_of 0x27)) (bit_of 0x3C) ∷ bit_of 0x5C ∷ 0 ∷ separator_word language ∷ []))
unfolding in_set begins
both Script = leads-checked (string_of Script Both) _ tt
both Style = leads-checked (string_of Style Both) _ tt

pub returns-in-Single : goal.returns-in-Single
returns-in-Single c =
    let enum_told = c.in-Single in
    let separator-word = c.separator_word-last in
    let bits = c.bits in
    let a = c.args in
    rw (enum_told.is, separator-word.ensures, c.bit-in-Single-2.ensures, c.bit-in-Single.ensures, c.bit.ensures, bits.ensures) (single a.language)

pub returns-in-Double : goal.returns-in-Double
returns-in-Double c =
    let enum-told2 = c.in-Double in
    let separator-word = c.separator_word-last in
    let bits2 = c.bits-in-Double in
    let a = c.args in
    rw (enum-told2.is, separator-word.ensures, c.bit-in-Double-3.ensures, c.bit-in-Double-2.ensures, c.bit-in-Double.ensures, bits2.ensures) (double a.language)

pub returns-in-Both : goal.returns-in-Both
returns-in-Both c =
    let enum-told3 = c.in-Both in
    let separator-word = c.separator_word-last in
    let bit7 = c.bit-in-Both in
    let bits3 = c.bits-in-Both in
    let a = c.args in
    rw (enum-told3.is, separator-word.ensures, c.bit-in-Both-4.ensures, c.bit-in-Both-3.ensures, c.bit-in-Both-2.ensures, bit7.ensures, bits3.ensures) (both a.language)
