-- `first_of_eight` meets its contract: the lowest bit of the hits is in the first byte that is searched (Lowest).
-- Assumes nothing.
use Rattle.std.proofs.Common.{◌≡◌, refl, sym, subst, arith, ℕ, ◌+◌, ◌/◌, ◌≤◌, ◌<◌}
use lib.Count.{count_trailing_zeros}
use Rattle.base.specs.Places.{Nearest}
use Rattle.find_ascii.proofs.Lowest.{word-most, told-none, told-some}
use Rattle.find_ascii.proofs.first_of_eight.Goals as goal

pub hits-found-requires : goal.hits-found-requires
hits-found-requires c =
    let a = c.args in
    (c.requires.0, subst (λ (w : ℕ). w ≤ 0x7F7F7F7F7F7F7F7F) (sym c.word.ensures) (word-most a.block.now c.requires.2 a.byte 0 c.requires.0))

pub returns-then-found-eq0 : goal.returns-then-found-eq0
returns-then-found-eq0 c = let a = c.args in told-none a.block.now c.requires.2 a.byte 0 c.requires.0 c.word.result c.hits-found.result c.word.ensures c.hits-found.ensures c.if-found-eq0.true

pub returns : goal.returns
returns c =
    let a = c.args in
    let r = count_trailing_zeros 64 c.hits-found.result / 8 in
    let first : 0 + r ≡ r = omega arith in
    subst (λ (n : ℕ). Nearest a.block.now 0 a.byte n × (r < 8)) first
    (told-some a.block.now c.requires.2 a.byte 0 c.requires.0 c.word.result c.hits-found.result c.word.ensures c.hits-found.ensures (omega arith) c.if-found-eq0.false r refl)
