-- `put_quoted` meets its contract.
-- Assumes nothing.
use borrow.Author.Tests.{ne_eqb}
use mathlib.Core.Path.{refl}
use native.Mathlib.Omega.{arith}
use Rattle.encode_ascii.proofs.characters.put_quoted.Goals as goal

pub returns-in-38 : goal.returns-in-38
returns-in-38 c = (rw c.in-38.is c.put.ensures, omega (arith, c.put.ensures.0))

pub returns-in-60 : goal.returns-in-60
returns-in-60 c = (rw c.in-60.is c.put-in-60.ensures, omega (arith, c.put-in-60.ensures.0))

pub returns-in-62 : goal.returns-in-62
returns-in-62 c = (rw c.in-62.is c.put-in-62.ensures, omega (arith, c.put-in-62.ensures.0))

pub returns-in-34 : goal.returns-in-34
returns-in-34 c = (rw c.in-34.is c.put-in-34.ensures, omega (arith, c.put-in-34.ensures.0))

pub returns-in-39 : goal.returns-in-39
returns-in-39 c = (rw c.in-39.is c.put-in-39.ensures, omega (arith, c.put-in-39.ensures.0))

pub returns-in_default : goal.returns-in_default
returns-in_default c = (rw (ne_eqb _ 38 c.in_default.in_default-own.rest.0.0.0.0.1, ne_eqb _ 60 c.in_default.in_default-own.rest.0.0.0.1, ne_eqb _ 62 c.in_default.in_default-own.rest.0.0.1, ne_eqb _ 34 c.in_default.in_default-own.rest.0.1, ne_eqb _ 39 c.in_default.in_default-own.rest.1) (refl, refl), omega arith)
