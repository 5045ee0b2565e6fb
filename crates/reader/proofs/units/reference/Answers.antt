-- `reference` meets its contract: the second byte leaves one row, those with digits, or none.
-- Assumes nothing.
use mathlib.Core.List.{[]}
use mathlib.Core.Path.{refl, ap}
use borrow.Author.Tests.{ne_eqb}
use Rattle.rules.specs.Bytes.{ascii, one_of}
use Rattle.rules.specs.Tables.{amp, lt, gt, quot}
use Rattle.decode_strings.proofs.Finding.{finds-here}
use Rattle.reader.proofs.Placed.{finds-named, finds-numbered, finds-no-unit, no_second}
use Rattle.reader.proofs.units.reference.Goals as goal

pub returns-then-rest-lt2-clause-finds : goal.returns-then-rest-lt2-clause-finds
returns-then-rest-lt2-clause-finds c = finds-no-unit c.args.rest.now (ap (one_of (ascii "algq#")) (no_second c.args.rest.now c.if-rest-lt2.true))

pub returns-in-97-clause-finds : goal.returns-in-97-clause-finds
returns-in-97-clause-finds c = finds-named c.args.rest.now amp 97 5 0x26 _ c.in-97.is refl (λ t. finds-here amp [] 0x26 t refl tt) c.named.ensures

pub returns-in-108-clause-finds : goal.returns-in-108-clause-finds
returns-in-108-clause-finds c = finds-named c.args.rest.now lt 108 4 0x3C _ c.in-108.is refl (λ t. finds-here lt [] 0x3C t refl tt) c.named-in-108.ensures

pub returns-in-103-clause-finds : goal.returns-in-103-clause-finds
returns-in-103-clause-finds c = finds-named c.args.rest.now gt 103 4 0x3E _ c.in-103.is refl (λ t. finds-here gt [] 0x3E t refl tt) c.named-in-103.ensures

pub returns-in-113-clause-finds : goal.returns-in-113-clause-finds
returns-in-113-clause-finds c = finds-named c.args.rest.now quot 113 6 0x22 _ c.in-113.is refl (λ t. finds-here quot [] 0x22 t refl tt) c.named-in-113.ensures

pub returns-in-35-clause-finds : goal.returns-in-35-clause-finds
returns-in-35-clause-finds c = finds-numbered c.args.rest.now c.in-35.is c.numbered.ensures.finds

pub returns-in_default-clause-finds : goal.returns-in_default-clause-finds
returns-in_default-clause-finds c =
    finds-no-unit c.args.rest.now (rw (ne_eqb _ 97 c.in_default.in_default-own.rest.0.0.0.0.1, ne_eqb _ 108 c.in_default.in_default-own.rest.0.0.0.1, ne_eqb _ 103 c.in_default.in_default-own.rest.0.0.1, ne_eqb _ 113 c.in_default.in_default-own.rest.0.1, ne_eqb _ 35 c.in_default.in_default-own.rest.1))
