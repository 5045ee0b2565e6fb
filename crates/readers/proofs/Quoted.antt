-- An ASCII text that is a form of `quoted` is one of ascii_quoted, and the moves through it are the same: its units are units of both, since the rule of
-- ascii_quoted is for characters above 7F.
-- Assumes nothing.
use mathlib.Core.Bool.{Bool, true, false, ◌&&◌, cond}
use mathlib.Core.Logic.{inl, inr}
use mathlib.Core.Option.{Option, none, some}
use mathlib.Core.Path.{◌≡◌, refl, sym, ap, ◌∙◌, subst}
use mathlib.Core.List.{List, [], ◌∷◌, ◌++◌}
use Prim.Native.Nat.{ℕ, ◌+◌, ◌<◌}
use native.Mathlib.Omega.{arith}
use borrow.Author.Tests.{le-leb}
use lib.Dec.{T, eqb, ltb}
use lib.ListN.{length, get_or, drop, length-append, get_or-append}
use lib.Seq.{get_or-drop, drop-append_seam}
use Rattle.rules.specs.Bytes.{All, Range, first, inside, fits}
use Rattle.rules.specs.Moves.{Move, keep, swap, leave, stop, taken, through, place}
use Rattle.rules.specs.Utf8.{sequences, sequence_at}
use Rattle.rules.specs.Ascii.{by_rule, refer_to}
use Rattle.rules.specs.Reading.{read_step}
use Rattle.rules.specs.Tables.{rows}
use Rattle.rules.specs.Units.{IsUnit}
use Rattle.rules.specs.declared.Html.TheVariants.{Quoted}
use Rattle.rules.specs.declared.Context.TheVariants.{InHtml, InAscii}
use Rattle.rules.proofs.Laws.{form-iff, form-moves}
use Rattle.plain.specs.Plain.{Without}
use Rattle.outcomes.specs.Outcomes.{Says}
use Rattle.outcomes.specs.declared.Outcome.{Outcome}
use Rattle.outcomes.specs.declared.Outcome.TheVariants.{Untried, Same, NoRoom, Written}

abbrev Low : List ℕ → Type 0
Low s = (k : ℕ) → k < length s → get_or s k 0 < 128

-- The rule writes nothing for a character that begins with an ASCII byte.
ruled-not : (a : List ℕ) → Low a → by_rule InAscii a ≡ none
ruled-not [] h = refl
ruled-not (b ∷ s) h =
    ap (λ (o : Option (List Range)). cond (elim o [ none ↦ false | some q ↦ eqb (length (b ∷ s)) (length q) && ltb 1 (length q) ]) (some (refer_to (b ∷ s))) none) led
    ∙ ap (λ (x : Bool). cond x (some (refer_to (b ∷ s))) none) (never (eqb (length (b ∷ s)) 1))
  where
    never : (x : Bool) → x && false ≡ false
    never true = refl
    never false = refl

    in-range : inside (0x00, 0x7F) b ≡ true
    in-range = let l = h 0 (omega arith) in rw (le-leb 0 b (omega arith), le-leb b 0x7F (omega arith)) refl

    led : sequence_at (b ∷ s) ≡ some ((0x00, 0x7F) ∷ [])
    led = ap (λ (x : Bool). elim (x && true) [ true ↦ some ((0x00, 0x7F) ∷ []) | false ↦ first (fits inside) (drop 1 sequences) (b ∷ s) ]) in-range

low-left : (a b : List ℕ) → Low (a ++ b) → Low a
low-left a b h k l = subst (λ (x : ℕ). x < 128) (get_or-append a b 0 k l) (h k (subst (λ (n : ℕ). k < n) (sym (length-append a b)) (omega (arith, l))))

low-right : (a b : List ℕ) → Low (a ++ b) → Low b
low-right a b h k l =
    subst (λ (x : ℕ). x < 128) (sym (get_or-drop (length a) (a ++ b) k 0) ∙ ap (λ (s : List ℕ). get_or s k 0) (drop-append_seam a b))
    (h (length a + k) (subst (λ (n : ℕ). length a + k < n) (sym (length-append a b)) (omega (arith, l))))

units-both : (us : List Move) → All (IsUnit (InHtml Quoted) (rows (InHtml Quoted))) us → Low (taken us) → All (IsUnit InAscii (rows InAscii)) us
units-both [] g h = tt
units-both (keep a ∷ us) (g, gs) h = ((g.0, g.1, ruled-not a (low-left a (taken us) h)), units-both us gs (low-right a (taken us) h))
units-both (swap v k ∷ us) (inl i, gs) h = (inl i, units-both us gs (low-right v (taken us) h))
units-both (swap v k ∷ us) (inr e, gs) h = absurd (subst (λ (o : Option (List ℕ)). T (elim o [ none ↦ true | some w ↦ false ])) e tt)
units-both (leave r a ∷ us) (g, gs) h = absurd g
units-both (stop w ∷ us) (g, gs) h = absurd g

module _ (t : List ℕ) (low : Low t) where
  both-moves : place (through (read_step (InHtml Quoted)) t) ≡ length t → through (read_step InAscii) t ≡ through (read_step (InHtml Quoted)) t
  both-moves e =
      let (us, g, q) = (form-iff (InHtml Quoted) t).1 e in
      let same : through (read_step (InHtml Quoted)) t ≡ us = ap (through (read_step (InHtml Quoted))) q ∙ form-moves (InHtml Quoted) us g in
      ap (through (read_step InAscii)) q ∙ form-moves InAscii us (units-both us g (subst Low q low)) ∙ sym same

  -- What an outcome says of `quoted` it says of ascii_quoted.
  pub says_both : (out o : List ℕ) (r : Outcome) → Says (through (read_step (InHtml Quoted)) t) t out o r → Says (through (read_step InAscii) t) t out o r
  says_both out o Untried s = s
  says_both out o Same s = subst (λ (ms : List Move). Says ms t out o Same) (sym (both-moves s.0.2)) s
  says_both out o (NoRoom n) s = subst (λ (ms : List Move). Says ms t out o (NoRoom n)) (sym (both-moves s.0.2)) s
  says_both out o (Written n k) s = subst (λ (ms : List Move). Says ms t out o (Written n k)) (sym (both-moves s.0.2)) s

-- An ASCII text without some byte is low.
pub without-low : (b : ℕ) (t : List ℕ) → Without b t → Low t
without-low b t w k l = (w k l).0
