-- Where no number begins the reference is the longest identifier, unless it is blocked; a name without `;` is blocked only by what follows it.
-- Assumes nothing.
use mathlib.Core.Bool.{Bool, true, false, not, ◌&&◌, ◌||◌, cond}
use mathlib.Core.Option.{Option, none, some, none-ne-some}
use mathlib.Core.Path.{◌≡◌, refl, ap, ◌∙◌, subst}
use mathlib.Core.List.{List, [], ◌∷◌}
use Prim.Native.Nat.{ℕ, zero, suc, ◌≤◌}
use lib.Dec.{T, T_not, eqb, eqb_refl}
use lib.ListN.{length, take, drop}
use lib.Seq.{length-take-le}
use Rattle.rules.specs.Bytes.{ascii, In, all, stands}
use Rattle.rules.specs.Tables.{Row}
use Rattle.rules.specs.Names.{names}
use Rattle.rules.specs.References.{digit, hex_digit_at, lookup}
use Rattle.rules.specs.Bare.{bare}
use Rattle.rules.specs.Browsing.{given, without_end, matched, ended, goes_on, blocked, unblocked, number_at, reference_at}
use Rattle.rules.specs.declared.Kind.{Kind}
use Rattle.rules.specs.declared.Kind.TheVariants.{InText, InAttribute}
use Rattle.rules.proofs.Tests.{all_in, and_both}
use Rattle.rules.proofs.Identifiers.{match-bare, match_none}
use Rattle.browse_html.specs.Finding.{blocked_in, Named}

-- No number begins here: the reference is a name.
pub at_name : (kind : Kind) (s : List ℕ) → stands (ascii "#") s ≡ false → reference_at kind s ≡ unblocked kind s (matched s)
at_name kind s h =
    ap (λ (b : Bool). cond b (number_at hex_digit_at 16 (take 2 s) (drop 2 s)) (cond (stands (ascii "#") s) (number_at digit 10 (take 1 s) (drop 1 s)) (unblocked kind s (matched s)))) (unmarked s h)
    ∙ ap (λ (b : Bool). cond b (number_at digit 10 (take 1 s) (drop 1 s)) (unblocked kind s (matched s))) h
  where
    unmarked : (t : List ℕ) → stands (ascii "#") t ≡ false → stands (ascii "#x") t || stands (ascii "#X") t ≡ false
    unmarked [] h = refl
    unmarked (x ∷ t) h = head (eqb 35 x) (stands (ascii "x") t) (stands (ascii "X") t) h
      where
        head : (b p q : Bool) → b && true ≡ false → b && p || b && q ≡ false
        head true p q h = absurd (subst T h tt)
        head false p q h = refl

-- A name without `;` is blocked by what follows it alone.
bare-open : T (all (λ (name : List ℕ). not (ended name)) bare)
unfolding bare
bare-open = tt

pub bare-blocked : (kind : Kind) (name after : List ℕ) → In name bare → blocked kind name after ≡ blocked_in kind after
bare-blocked InText name after i = refl
bare-blocked InAttribute name after i = go (not (ended name)) (all_in (λ (name : List ℕ). not (ended name)) bare bare-open name i)
  where
    go : (b : Bool) → T b → b && goes_on after ≡ goes_on after
    go true t = refl
    go false t = absurd t

stands-front : (n : ℕ) (s : List ℕ) → T (stands (take n s) s)
stands-front zero s = tt
stands-front (suc n) [] = tt
stands-front (suc n) (x ∷ s) = and_both (eqb x x) (stands (take n s) s) (eqb_refl x) (stands-front n s)

module _ (kind : Kind) (s : List ℕ) (h : Named s) where
  -- The first n bytes are a name without `;`: it is the reference, if it is not blocked.
  pub finds-bare : (n : ℕ) → n ≤ length s → In (take n s) bare
      → reference_at kind s ≡ cond (blocked_in kind (drop n s)) none (some (take n s, given (lookup names (take n s))))
  finds-bare n l i =
      at_name kind s h.0
      ∙ ap (unblocked kind s) (match-bare s h.1 (take n s) i (stands-front n s))
      ∙ ap (λ (b : Bool). cond {A = Option Row} b none (some (without_end (take n s))))
      (ap (λ (k : ℕ). blocked kind (take n s) (drop k s)) (length-take-le n s l) ∙ bare-blocked kind (take n s) (drop n s) i)

  -- None stands here: there is no reference.
  pub finds-none : ((name : List ℕ) → In name bare → T (stands name s) → ⊥) → reference_at kind s ≡ none
  finds-none f = at_name kind s h.0 ∙ ap (unblocked kind s) (match_none s h.1 f)

-- Nothing is no reference.
bare-some : T (all (λ (name : List ℕ). not (stands name [])) bare)
unfolding bare
bare-some = tt

pub empty-none : (kind : Kind) → reference_at kind [] ≡ none
empty-none kind =
    finds-none kind [] (refl, λ body v e f. none-ne-some body e)
    (λ name i t. T_not (stands name []) (all_in (λ (name : List ℕ). not (stands name [])) bare bare-some name i) t)
