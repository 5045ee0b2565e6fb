-- A loop over the parts of a text: the parts so far give n bytes and have k places replaced, and with what is left they are the whole.
-- Assumes nothing.
use Rattle.std.specs.Prelude.{None}
use mathlib.Core.Path.{◌≡◌, sym, ap, ◌∙◌}
use mathlib.Core.List.{List}
use Prim.Native.Nat.{ℕ, ◌+◌, ◌-◌, ◌*◌, ◌≤◌}
use native.Mathlib.Omega.{arith}
use lib.ListN.{length, take, drop, drop_of_length-le}
use Rattle.rules.specs.Moves.{through, replaced, first_of, first_left}
use Rattle.rules.specs.Contexts.{written_in}
use Rattle.rules.specs.Encoding.{encode_step}
use Rattle.rules.specs.Operations.{encode_of}
use Rattle.rules.specs.Answers.{Measures}
use Rattle.rules.specs.declared.Notation.{Notation}
use Rattle.rules.specs.declared.Quotes.{Quotes}
use Rattle.rules.proofs.Growth.{strings-sixfold, encode-whole, encode-six}
use Rattle.rules.proofs.Reasons.{no-lefts, encode-leaveless}
use Rattle.base.proofs.Part.{part_length}
use Rattle.encode_strings.specs.Strings.{Apart}
use Rattle.encode_strings.proofs.Cuts.{next-length, next-replaced}

module _ (notation : Notation) (quotes : Quotes) where
  abbrev hits : List ℕ → ℕ
  hits s = replaced (through (encode_step (written_in notation quotes)) s)

  abbrev size : List ℕ → ℕ
  size s = length (encode_of (written_in notation quotes) s)

  pub record Gone (t : List ℕ) (i n k : ℕ) : Type 0 where
    pub inside : i ≤ length t
    pub few : k ≤ 2 * i
    pub long : n + size (drop i t) ≡ size t
    pub many : k + hits (drop i t) ≡ hits t

  module _ (t : List ℕ) where
    -- No reference is left, since an encoder knows none.
    pub none_left : (0, 0) ≡ first_left (through (encode_step (written_in notation quotes)) t)
    none_left = ap first_of (sym (no-lefts (encode_step (written_in notation quotes)) (encode-leaveless (written_in notation quotes)) 0 0 0 t))

    pub gone-start : Gone t 0 0 0
    gone-start = record { inside = omega arith; few = omega arith; long = omega arith; many = omega arith }

    -- At the end they are what a pass over the text finds.
    pub gone-end : {i n k : ℕ} → Gone t i n k → length t ≤ i → Measures (record { length = n; place = i; replaced = k; left = None }) (through (encode_step (written_in notation quotes)) t)
    gone-end {i} {n} {k} g h =
        let none = drop_of_length-le t {i = i} h in
        record {
          long = omega (arith, g.long, ap size none);
          reach = let e : i ≡ length t = omega (arith, g.inside, h) in e ∙ sym (ap length (encode-whole (written_in notation quotes) t));
          many = omega (arith, g.many, ap hits none);
          first = none_left;
        }

    module _ {i n k : ℕ} (g : Gone t i n k) (e : ℕ) (h : i ≤ e) (l : e ≤ length t) (apart : Apart t e) where
      -- One part more.
      pub gone-part : (w m : ℕ) → w ≡ size (take (e - i) (drop i t)) → m ≡ hits (take (e - i) (drop i t)) → m ≤ 2 * length (take (e - i) (drop i t)) → Gone t e (n + w) (k + m)
      gone-part w m p q r = record {
        inside = l;
        few = omega (arith, g.few, r, part_length t i e h l);
        long = omega (arith, g.long, p, next-length notation quotes t i e h l apart);
        many = omega (arith, g.many, q, next-replaced notation quotes t i e h l apart);
      }

      -- The sums stay small.
      pub gone-small : (w m : ℕ) → length t ≤ 65536 → w ≡ size (take (e - i) (drop i t)) → m ≤ 2 * length (take (e - i) (drop i t)) → (n + w ≤ 393216) × (k + m ≤ 131072)
      gone-small w m b p r = (
        omega (arith, g.long, p, next-length notation quotes t i e h l apart, encode-six (written_in notation quotes) (strings-sixfold notation quotes) t),
        omega (arith, g.few, r, part_length t i e h l),
      )
