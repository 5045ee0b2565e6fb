-- `html_set` meets its contract: each set is compared with the rules, byte by byte.
-- Assumes nothing.
use mathlib.Core.List.{[], ◌∷◌}
use lib.Bits.{bit_or}
use Rattle.rules.specs.declared.Html.TheVariants.{TextMinimal, Text, DoubleQuoted, SingleQuoted, Quoted, Safe, Unquoted}
use Rattle.rules.specs.declared.Context.TheVariants.{InHtml}
use Rattle.reader.specs.Replaced.{begins, Leads, in_set, bit_of, bits_of}
use Rattle.reader.proofs.Characters.{leads-checked}
use Rattle.reader.proofs.replaced.html_set.Goals as goal

unquoted : Leads (InHtml Unquoted) (in_set (bit_or (bits_of 0 0x2F) (bits_of 0x3A 0x3F) ∷ bit_or (bit_or (bit_of 0x40) (bits_of 0x5B 0x60)) (bits_of 0x7B 0x7F) ∷ 0 ∷ 0 ∷ []))
unfolding in_set begins
unquoted = leads-checked (InHtml Unquoted) _ tt

pub returns-in-TextMinimal : goal.returns-in-TextMinimal
unfolding in_set begins
returns-in-TextMinimal c = rw (c.in-TextMinimal.is, c.bit-in-TextMinimal.ensures, c.bit.ensures) (leads-checked (InHtml TextMinimal) _ tt)

pub returns-in-Text : goal.returns-in-Text
unfolding in_set begins
returns-in-Text c =
    let enum-told2 = c.in-Text in
    rw (enum-told2.is, c.bit-in-Text-3.ensures, c.bit-in-Text-2.ensures, c.bit-in-Text.ensures) (leads-checked (InHtml Text) _ tt)

pub returns-in-DoubleQuoted : goal.returns-in-DoubleQuoted
unfolding in_set begins
returns-in-DoubleQuoted c =
    let enum-told3 = c.in-DoubleQuoted in
    let bit6 = c.bit-in-DoubleQuoted in
    rw (enum-told3.is, c.bit-in-DoubleQuoted-4.ensures, c.bit-in-DoubleQuoted-3.ensures, c.bit-in-DoubleQuoted-2.ensures, bit6.ensures) (leads-checked (InHtml DoubleQuoted) _ tt)

pub returns-in-SingleQuoted : goal.returns-in-SingleQuoted
unfolding in_set begins
returns-in-SingleQuoted c =
    let enum-told4 = c.in-SingleQuoted in
    let bit10 = c.bit-in-SingleQuoted in
    rw (enum-told4.is, c.bit-in-SingleQuoted-4.ensures, c.bit-in-SingleQuoted-3.ensures, c.bit-in-SingleQuoted-2.ensures, bit10.ensures) (leads-checked (InHtml SingleQuoted) _ tt)

pub returns-in-Quoted : goal.returns-in-Quoted
unfolding in_set begins
returns-in-Quoted c =
    let enum-told5 = c.in-Quoted in
    let bit15 = c.bit-in-Quoted-2 in
    let bit14 = c.bit-in-Quoted in
    rw (enum-told5.is, c.bit-in-Quoted-5.ensures, c.bit-in-Quoted-4.ensures, c.bit-in-Quoted-3.ensures, bit15.ensures, bit14.ensures) (leads-checked (InHtml Quoted) _ tt)

pub returns-in-Safe : goal.returns-in-Safe
unfolding in_set begins
returns-in-Safe c =
    let enum-told6 = c.in-Safe in
    let bit21 = c.bit-in-Safe-3 in
    let bit20 = c.bit-in-Safe-2 in
    let bit19 = c.bit-in-Safe in
    rw (enum-told6.is, c.bit-in-Safe-6.ensures, c.bit-in-Safe-5.ensures, c.bit-in-Safe-4.ensures, bit21.ensures, bit20.ensures, bit19.ensures) (leads-checked (InHtml Safe) _ tt)

pub returns-in-Unquoted : goal.returns-in-Unquoted
returns-in-Unquoted c =
    let enum-told7 = c.in-Unquoted in
    let bits2 = c.bits-in-Unquoted in
    let bits = c.bits in
    rw (enum-told7.is, c.bits-in-Unquoted-3.ensures, c.bits-in-Unquoted-2.ensures, c.bit-in-Unquoted.ensures, bits2.ensures, bits.ensures) unquoted
