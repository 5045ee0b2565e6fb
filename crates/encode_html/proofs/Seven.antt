-- A test of every byte in each of the seven HTML contexts, computed once.
-- Assumes nothing.
use mathlib.Core.Bool.{Bool, true, false, not, ◌||◌, cond}
use mathlib.Core.Path.{◌≡◌, ap, subst}
use Prim.Native.Nat.{ℕ, ◌<◌}
use native.Mathlib.Omega.{arith}
use lib.Dec.{T, eqb, eqb→eq}
use Rattle.rules.specs.Bytes.{all, count}
use Rattle.rules.specs.declared.Html.{Html}
use Rattle.rules.specs.declared.Context.{Context}
use Rattle.rules.specs.declared.Context.TheVariants.{InHtml, InScript, InStyle, InJson, InAscii}
use Rattle.rules.proofs.Every.{contexts, every}
use Rattle.rules.proofs.EveryByte.{every_byte_lem}

-- The test of an HTML context; every other context passes.
abbrev pub html : (Html → Bool) → Context → Bool
html f (InHtml h) = f h
html f (InScript q) = true
html f (InStyle q) = true
html f InJson = true
html f InAscii = true

pub seven : (f : Html → Bool) → T (all (html f) contexts) → (h : Html) → T (f h)
seven f t h = every (html f) t (InHtml h)

-- The test of every byte in an HTML context.
abbrev pub bytes : (Html → ℕ → Bool) → Html → Bool
bytes f h = all (f h) (count 0 256)

pub seven-bytes : (f : Html → ℕ → Bool) → T (all (html (bytes f)) contexts) → (h : Html) (b : ℕ) → b < 256 → T (f h b)
seven-bytes f t h b l = every_byte_lem (f h) (seven (bytes f) t h) b l

-- Two numbers are the same for every byte, in each context of a kind.
abbrev pub same : (Html → Bool) → (Html → ℕ → ℕ) → (Html → ℕ → ℕ) → Html → ℕ → Bool
same kind f g h b = not (kind h) || eqb (f h b) (g h b)

pub agree : (kind : Html → Bool) (f g : Html → ℕ → ℕ) → T (all (html (bytes (same kind f g))) contexts)
    → (h : Html) (b : ℕ) → b < 256 → kind h ≡ true → f h b ≡ g h b
agree kind f g t h b l e = eqb→eq (f h b) (g h b) (subst (λ (k : Bool). T (not k || eqb (f h b) (g h b))) e (seven-bytes (same kind f g) t h b l))

pub differ : false ≡ true → ⊥
differ e = let z : ◌≡◌ {A = ℕ} 0 1 = ap (λ (x : Bool). cond x 1 0) e in omega arith
