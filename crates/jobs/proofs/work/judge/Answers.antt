-- `judge` meets its contract: what the measure told and the tests on the way (Found).
-- Assumes nothing.
use native.Mathlib.Omega.{arith}
use Rattle.jobs.proofs.Found.{found-whole, found-same, found-copies}
use Rattle.jobs.proofs.work.judge.Goals as goal

pub returns-then-fits_any : goal.returns-then-fits_any
returns-then-fits_any c =
    let f = c.fits_any.ensures c.if-fits_any.true in
    (f.1.0, rw f.0, f.1.1)

pub returns-then-found-eq0 : goal.returns-then-found-eq0
returns-then-found-eq0 c =
    let a = c.args in
    let m = c.measure-found in
    let w = found-whole a.job a.text.now m.result m.ensures c.if-found-text.false in
    (w, found-same a.job a.text.now m.result m.ensures c.if-found-text.false c.if-found-eq0.true, m.ensures.first)

pub returns-then-room-found : goal.returns-then-room-found
returns-then-room-found c =
    let a = c.args in
    let m = c.measure-found in
    let w = found-whole a.job a.text.now m.result m.ensures c.if-found-text.false in
    (w, found-copies a.job a.text.now m.result m.ensures c.if-found-text.false a.borrows c.if-found-eq0.false, m.ensures.long, c.if-room-found.true)

pub returns : goal.returns
returns c =
    let a = c.args in
    let m = c.measure-found in
    let w = found-whole a.job a.text.now m.result m.ensures c.if-found-text.false in
    (w, found-copies a.job a.text.now m.result m.ensures c.if-found-text.false a.borrows c.if-found-eq0.false, omega (arith, m.ensures.long, c.if-room-found.false))
