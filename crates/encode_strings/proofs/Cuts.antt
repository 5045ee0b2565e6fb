-- A text may be cut where no line separator lies across: what is written for it is what is written for the two parts, and as many places are replaced.
-- Assumes nothing.
use mathlib.Core.Bool.{Bool, true, false}
use mathlib.Core.Logic.{◌⊎◌, inl, inr}
use mathlib.Core.Path.{◌≡◌, refl, sym, ap, ◌∙◌}
use mathlib.Core.List.{List, [], ◌∷◌, ◌++◌}
use Prim.Native.Nat.{ℕ, suc, ◌+◌, ◌-◌, ◌≤◌, ◌<◌}
use native.Mathlib.Nat.{add-zero}
use native.Mathlib.Omega.{arith}
use borrow.Author.Tests.{eqb-true, eqb-false, ltb-true, ltb-false}
use lib.Dec.{T, eqb, ltb}
use lib.ListN.{length, take, drop, get_or, length-append, drop_of_length-le}
use lib.Seq.{get_or-drop}
use Rattle.rules.specs.Moves.{Move, keep, takes, through, replaced}
use Rattle.rules.specs.Encoding.{encode_step}
use Rattle.rules.specs.Operations.{encode_of}
use Rattle.rules.specs.declared.Quotes.{Quotes}
use Rattle.rules.specs.declared.Context.{Context}
use Rattle.rules.specs.declared.Context.TheVariants.{InStyle}
use Rattle.rules.proofs.Tests.{is_false}
use Rattle.rules.proofs.Blind.{Local, Parted, parted-result, parted-replaced}
use Rattle.base.proofs.Part.{part_length, part_at, parted as part-split}
use Rattle.base.proofs.Filled.{Next}
use Rattle.encode_strings.specs.Strings.{ends_of, ended, Apart, separates}
use Rattle.encode_strings.proofs.Heads.{strings-ruleless, kept, lone}
use Rattle.encode_strings.proofs.Finds.{ends-are, lead-kept, separator-sizes, lead-taken, lead-style}
use Rattle.encode_strings.proofs.Sums.{encode-blind, grows}
use Rattle.rules.specs.Contexts.{written_in}
use Rattle.rules.specs.declared.Notation.{Notation}
use Rattle.rules.specs.declared.Notation.TheVariants.{Script, Style, Json}

-- Two bytes before a place that are not E2 are all that Apart asks.
pub two-before : (t : List ℕ) (r : ℕ) → (get_or t (r - 1) 0 ≡ 0xE2 → ⊥) → (get_or t (r - 2) 0 ≡ 0xE2 → ⊥) → (k : ℕ) → k < r → r ≤ k + 2 → get_or t k 0 ≡ 0xE2 → ⊥
two-before t r n m k h l e = go (ltb (k + 1) r) refl
  where
    go : (b : Bool) → ltb (k + 1) r ≡ b → ⊥
    go true w = let u : k ≡ r - 2 = omega (arith, ltb-true (k + 1) r w) in m (rw u at e)
    go false w = let u : k ≡ r - 1 = omega (arith, ltb-false (k + 1) r w) in n (rw u at e)

-- ---- the same of two lists

-- No separator lies across the end of a, where b follows.
abbrev Clear : List ℕ → List ℕ → Type 0
Clear a b = (b ≡ []) ⊎ (get_or b 0 0 ≡ 0xE2) ⊎ ((k : ℕ) → k < length a → length a ≤ k + 2 → get_or a k 0 ≡ 0xE2 → ⊥)

clear-tail : (x : ℕ) (a b : List ℕ) → Clear (x ∷ a) b → Clear a b
clear-tail x a b (inl e) = inl e
clear-tail x a b (inr (inl e)) = inr (inl e)
clear-tail x a b (inr (inr f)) = inr (inr (λ k h l e. f (suc k) (omega arith) (omega arith) e))

nil-cons : {x : ℕ} {s : List ℕ} → x ∷ s ≡ [] → ⊥
nil-cons e = let z : ◌≡◌ {A = ℕ} 0 1 = cc in omega arith

T→true : (b : Bool) → T b → b ≡ true
T→true true t = refl
T→true false t = absurd t

-- E2 ends no separator.
lead-first : (y : ℕ) → ends_of 0xE2 y ≡ false
lead-first y = is_false (ends_of 0xE2 y) (λ t. let (a, b, c) = ends-are 0xE2 y (T→true _ t) in omega arith)

lead-last : (x : ℕ) → ends_of x 0xE2 ≡ false
lead-last x = is_false (ends_of x 0xE2) (λ t. let (a, b, c) = ends-are x 0xE2 (T→true _ t) in omega arith)

ended-clear : (a b : List ℕ) → Clear (0xE2 ∷ a) b → ended (a ++ b) ≡ ended a
ended-clear (y ∷ z ∷ a) b c = refl
ended-clear [] [] c = refl
ended-clear [] (w ∷ []) c = refl
ended-clear [] (w ∷ v ∷ b) (inl e) = absurd (nil-cons e)
ended-clear [] (w ∷ v ∷ b) (inr (inl e)) = rw e (lead-first v)
ended-clear [] (w ∷ v ∷ b) (inr (inr f)) = absurd (f 0 (omega arith) (omega arith) refl)
ended-clear (y ∷ []) [] c = refl
ended-clear (y ∷ []) (w ∷ b) (inl e) = absurd (nil-cons e)
ended-clear (y ∷ []) (w ∷ b) (inr (inl e)) = rw e (lead-last y)
ended-clear (y ∷ []) (w ∷ b) (inr (inr f)) = absurd (f 0 (omega arith) (omega arith) refl)

-- ---- the moves at the places of a

local-byte : (notation : Notation) (quotes : Quotes) (x : ℕ) (a b : List ℕ) → (x ≡ 0xE2 → ⊥) → Local (encode_step (written_in notation quotes)) (x ∷ a) b
local-byte notation quotes x a b ne =
    let c = written_in notation quotes in
    (lone c (strings-ruleless notation quotes) 0 x (a ++ b) ne ∙ sym (lone c (strings-ruleless notation quotes) 0 x a ne), 0, ap (λ (m : Move). length (takes m)) (lone c (strings-ruleless notation quotes) 0 x a ne) ∙ (grows notation quotes x ne).0, omega arith)

local-kept : (c : Context) (x : ℕ) (a b : List ℕ) → encode_step c 0 (x ∷ (a ++ b)) ≡ keep (x ∷ []) → encode_step c 0 (x ∷ a) ≡ keep (x ∷ []) → Local (encode_step c) (x ∷ a) b
local-kept c x a b e f = (e ∙ sym f, 0, ap (λ (m : Move). length (takes m)) f, omega arith)

local-script : (notation : Notation) → separates notation ≡ true → (q : Quotes) (a b : List ℕ) → Clear (0xE2 ∷ a) b → Local (encode_step (written_in notation q)) (0xE2 ∷ a) b
local-script notation w q [] b h = local-kept (written_in notation q) 0xE2 [] b (lead-kept notation w q b (ended-clear [] b h)) (lead-kept notation w q [] refl)
local-script notation w q (y ∷ []) b h = local-kept (written_in notation q) 0xE2 (y ∷ []) b (lead-kept notation w q (y ∷ b) (ended-clear (y ∷ []) b h)) (lead-kept notation w q (y ∷ []) refl)
local-script notation w q (y ∷ z ∷ a) b h = go (ends_of y z) refl
  where
    go : (t : Bool) → ends_of y z ≡ t → Local (encode_step (written_in notation q)) (0xE2 ∷ y ∷ z ∷ a) b
    go false e = local-kept (written_in notation q) 0xE2 (y ∷ z ∷ a) b (lead-kept notation w q (y ∷ z ∷ (a ++ b)) e) (lead-kept notation w q (y ∷ z ∷ a) e)
    go true e = (
      lead-taken notation w q (y ∷ z ∷ (a ++ b)) e ∙ sym (lead-taken notation w q (y ∷ z ∷ a) e),
      2,
      ap (λ (m : Move). length (takes m)) (lead-taken notation w q (y ∷ z ∷ a) e) ∙ (separator-sizes (eqb z 0xA8)).0,
      omega arith,
    )

local-lead : (notation : Notation) (q : Quotes) (a b : List ℕ) → Clear (0xE2 ∷ a) b → Local (encode_step (written_in notation q)) (0xE2 ∷ a) b
local-lead Style q a b h = local-kept (InStyle q) 0xE2 a b (kept (InStyle q) (λ a. refl) 0 0xE2 (a ++ b) (lead-style q)) (kept (InStyle q) (λ a. refl) 0 0xE2 a (lead-style q))
local-lead Script q a b h = local-script Script refl q a b h
local-lead Json q a b h = local-script Json refl q a b h

module _ (notation : Notation) (quotes : Quotes) where
  parted : (a b : List ℕ) → Clear a b → Parted (encode_step (written_in notation quotes)) a b
  parted [] b h = tt
  parted (x ∷ a) b h = (go (eqb x 0xE2) refl, parted a b (clear-tail x a b h))
    where
      go : (t : Bool) → eqb x 0xE2 ≡ t → Local (encode_step (written_in notation quotes)) (x ∷ a) b
      go true e = let u = eqb-true x 0xE2 e in rw u (local-lead notation quotes a b (rw u at h))
      go false e = local-byte notation quotes x a b (eqb-false x 0xE2 e)

  module _ (t : List ℕ) (i e : ℕ) (h : i ≤ e) (l : e ≤ length t) where
    clear-part : Apart t e → Clear (take (e - i) (drop i t)) (drop e t)
    clear-part (inl q) = inl (drop_of_length-le t q)
    clear-part (inr (inl q)) = inr (inl (get_or-drop e t 0 0 ∙ rw add-zero q))
    clear-part (inr (inr f)) =
        let w = part_length t i e h l in
        inr (inr (λ k u v r. f (i + k) (omega arith) (omega arith) (sym (part_at t i e k (omega arith)) ∙ r)))

    -- What is written for it comes first, and then what is written for the rest after it.
    pub next-part : Apart t e → Next (encode_of (written_in notation quotes) (drop i t)) (encode_of (written_in notation quotes) (take (e - i) (drop i t))) (encode_of (written_in notation quotes) (drop e t))
    next-part p =
        record {
          next =
              ap (encode_of (written_in notation quotes)) (sym (part-split t i e h))
              ∙ parted-result (encode_step (written_in notation quotes)) (encode-blind (written_in notation quotes)) (take (e - i) (drop i t)) (drop e t)
              (parted (take (e - i) (drop i t)) (drop e t) (clear-part p));
        }

    pub next-length : Apart t e
        → length (encode_of (written_in notation quotes) (drop i t)) ≡ length (encode_of (written_in notation quotes) (take (e - i) (drop i t))) + length (encode_of (written_in notation quotes) (drop e t))
    next-length p = ap length (next-part p).next ∙ length-append (encode_of (written_in notation quotes) (take (e - i) (drop i t))) (encode_of (written_in notation quotes) (drop e t))

    -- The same of how many places are replaced.
    pub next-replaced : Apart t e
        → replaced (through (encode_step (written_in notation quotes)) (drop i t))
        ≡ replaced (through (encode_step (written_in notation quotes)) (take (e - i) (drop i t))) + replaced (through (encode_step (written_in notation quotes)) (drop e t))
    next-replaced p =
        ap (λ (s : List ℕ). replaced (through (encode_step (written_in notation quotes)) s)) (sym (part-split t i e h))
        ∙ parted-replaced (encode_step (written_in notation quotes)) (encode-blind (written_in notation quotes)) (take (e - i) (drop i t)) (drop e t)
        (parted (take (e - i) (drop i t)) (drop e t) (clear-part p))
