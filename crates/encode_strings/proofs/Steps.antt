-- A turn of the writing loops: what is found at a place is what is written next.
-- Assumes nothing.
use Rattle.std.specs.Prelude.{Option}
use mathlib.Core.Path.{◌≡◌, refl, sym, ◌∙◌}
use mathlib.Core.List.{List, [], ◌∷◌}
use Prim.Native.Nat.{ℕ, ◌+◌, ◌-◌, ◌≤◌, ◌<◌}
use native.Mathlib.Nat.{not-suc-le-zero, add-zero}
use native.Mathlib.Omega.{arith}
use lib.Dec.{eqb}
use lib.ListN.{length, take, drop, get_or, length-drop, drop_of_length-le}
use lib.Seq.{length-take-le, get_or-drop}
use Rattle.rules.specs.Moves.{Move, takes, gives}
use Rattle.rules.specs.Encoding.{keep_byte, encode_step}
use Rattle.rules.specs.Operations.{encode_of}
use Rattle.rules.specs.Answers.{replacement_move, replaced_move}
use Rattle.rules.specs.declared.Context.{Context}
use Rattle.rules.specs.declared.Replacement.{Replacement}
use Rattle.rules.specs.declared.Replacement.TheVariants.{Slashed, Hex, Separator, Substitute}
use Rattle.rules.proofs.Blind.{blind-result}
use Rattle.base.proofs.Filled.{Next, lent-rest}
use Rattle.encode_strings.specs.Strings.{taken_by, Held, HeldAt}
use Rattle.encode_strings.proofs.Finds.{kept_gives, separator-sizes}
use Rattle.encode_strings.proofs.Sums.{encode-blind}
use Rattle.rules.specs.declared.Quotes.{Quotes}
use Rattle.rules.specs.Contexts.{written_in}
use Rattle.rules.specs.declared.Notation.{Notation}
use Rattle.rules.specs.declared.Notation.TheVariants.{Script, Style, Json}

-- The encoder's answer at place i of a text, of which it is lent the rest: its move there.
abbrev pub FoundAt : Notation → Quotes → List ℕ → ℕ → Option Replacement → Type 0
FoundAt notation quotes t i r =
    ((p : ℕ) → replaced_move notation (take (length t - i) (drop i t)) r ≡ encode_step (written_in notation quotes) p (take (length t - i) (drop i t)))
    × HeldAt r (take (length t - i) (drop i t))

-- What a replacement takes is there.
pub held-within : (r : Replacement) (s : List ℕ) → Held r s → taken_by r ≤ length s
held-within Slashed s h = h
held-within Hex s h = h
held-within Separator s h = h.0
held-within Substitute s h = h

pub takes-taken : (notation : Notation) (r : Replacement) (s : List ℕ) → Held r s → length (takes (replacement_move notation s r)) ≡ taken_by r
takes-taken notation Slashed s h = refl
takes-taken Script Hex s h = refl
takes-taken Style Hex s h = refl
takes-taken Json Hex s h = refl
takes-taken notation Separator s h = (separator-sizes (eqb (get_or s 2 0) 0xA8)).0
takes-taken notation Substitute s h = length-take-le 1 s h

takes-byte : (s : List ℕ) → 1 ≤ length s → length (takes (keep_byte s)) ≡ 1
takes-byte [] h = absurd (not-suc-le-zero h)
takes-byte (x ∷ s) h = refl

pub taken-some : (r : Replacement) → 0 < taken_by r
taken-some Slashed = omega arith
taken-some Hex = omega arith
taken-some Separator = omega arith
taken-some Substitute = omega arith

module _ (notation : Notation) (quotes : Quotes) (t : List ℕ) (i : ℕ) (h : i < length t) where
  -- The move at i, and the rest after what it takes.
  next-move : (m : Move) (n : ℕ) → m ≡ encode_step (written_in notation quotes) 0 (drop i t) → length (takes m) ≡ n → 0 < n
      → Next (encode_of (written_in notation quotes) (drop i t)) (gives m) (encode_of (written_in notation quotes) (drop (i + n) t))
  next-move m n e z l = record { next = blind-result (encode_step (written_in notation quotes)) (encode-blind (written_in notation quotes)) t i n m h (sym e) z l }

  -- What replaces the bytes there.
  pub next-found : (r : Replacement)
      → ((p : ℕ) → replacement_move notation (take (length t - i) (drop i t)) r ≡ encode_step (written_in notation quotes) p (take (length t - i) (drop i t)))
      → Held r (take (length t - i) (drop i t)) → (n : ℕ) → n ≡ taken_by r
      → Next (encode_of (written_in notation quotes) (drop i t)) (gives (replacement_move notation (take (length t - i) (drop i t)) r)) (encode_of (written_in notation quotes) (drop (i + n) t))
  next-found r e held n w =
      let l = lent-rest i t in
      rw l (next-move (replacement_move notation (drop i t) r) n (rw l at (e 0)) (takes-taken notation r (drop i t) (rw l at held) ∙ sym w) (rw w (taken-some r)))

  -- Where nothing is found, the byte itself.
  pub next-byte : ((p : ℕ) → keep_byte (take (length t - i) (drop i t)) ≡ encode_step (written_in notation quotes) p (take (length t - i) (drop i t)))
      → Next (encode_of (written_in notation quotes) (drop i t)) (get_or t i 0 ∷ []) (encode_of (written_in notation quotes) (drop (i + 1) t))
  next-byte e =
      let some : 1 ≤ length (drop i t) = rw length-drop (omega arith) in
      let g : gives (keep_byte (drop i t)) ≡ get_or t i 0 ∷ [] = kept_gives (drop i t) some ∙ rw (get_or-drop, add-zero) in
      rw g at (next-move (keep_byte (drop i t)) 1 (rw (lent-rest i t) at (e 0)) (takes-byte (drop i t) some) (omega arith))

-- Nothing is left at the end.
pub encode-end : (c : Context) (t : List ℕ) (i : ℕ) → length t ≤ i → encode_of c (drop i t) ≡ []
encode-end c t i h = rw (drop_of_length-le t h)
