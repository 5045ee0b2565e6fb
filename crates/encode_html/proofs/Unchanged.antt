-- A byte that is not special is ASCII and unchanged, in each of the seven HTML contexts but the unquoted attribute: computed for every ASCII byte.
-- Assumes nothing.
use mathlib.Core.Bool.{Bool, true, false, ◌||◌, cond}
use mathlib.Core.Path.{◌≡◌, refl, sym, subst}
use Prim.Native.Nat.{ℕ, ◌<◌}
use native.Mathlib.Omega.{arith}
use borrow.Author.Tests.{ltb-false}
use lib.Dec.{T, eqb, ltb, eqb→eq}
use lib.ListN.{length}
use Rattle.rules.specs.Bytes.{all, count}
use Rattle.rules.specs.Encoding.{encode_step}
use Rattle.rules.specs.declared.Html.{Html}
use Rattle.rules.proofs.Below.{below}
use Rattle.plain.specs.Plain.{unquoted}
use Rattle.encode_html.specs.Written.{written}
use Rattle.encode_html.specs.Gains.{Unchanged}
use Rattle.encode_html.specs.Keys.{keys_of, special}
use Rattle.encode_html.specs.declared.look.Keys.{Keys}
use Rattle.encode_html.proofs.Seven.{seven, differ}

-- A byte that is written as itself, or special; in an unquoted attribute any.
abbrev told : Html → ℕ → Bool
unfolding written encode_step
told h b = unquoted h || (special (keys_of h) b || eqb (length (written h b)) 1)

told-all : (h : Html) → T (all (told h) (count 0 128))
unfolding written encode_step
told-all = seven (λ (h : Html). all (told h) (count 0 128)) tt

-- A byte above ASCII is special.
low : (k : Keys) (b : ℕ) → special k b ≡ false → b < 128
low k b e = go (ltb 127 b) refl k.text e
  where
    go : (x : Bool) → ltb 127 b ≡ x → (only : Bool)
        → cond only (x || eqb b 38 || eqb b 60 || eqb b k.gt) (x || eqb b 38 || eqb b 60 || eqb b k.gt || eqb b k.double || eqb b k.single || eqb b k.slash) ≡ false
        → b < 128
    go true q true z = absurd (differ (sym z))
    go true q false z = absurd (differ (sym z))
    go false q only z = omega (arith, ltb-false 127 b q)

pub special-unchanged : (h : Html) → unquoted h ≡ false → (b : ℕ) → special (keys_of h) b ≡ false → Unchanged h b
unfolding written encode_step
special-unchanged h u b e = (eqb→eq (length (written h b)) 1 (go (below (told h) 128 (told-all h) b (low (keys_of h) b e))), low (keys_of h) b e)
  where
    go : T (told h b) → T (eqb (length (written h b)) 1)
    go t = subst (λ (x : Bool). T (x || eqb (length (written h b)) 1)) e (subst (λ (x : Bool). T (x || (special (keys_of h) b || eqb (length (written h b)) 1))) u t)
