-- Three bytes that are far from every mark are none (Closest).
-- Assumes nothing.
use Rattle.scripts.proofs.Closest.{far_none}
use Rattle.scripts.proofs.far.Goals as goal

pub returns : goal.returns
returns c =
    let a = c.args in
    λ h. far_none a.letter a.dash a.a a.b a.c (rw (c.min-2.ensures, c.min-next.ensures, c.min.ensures) at h)
