-- The turns of the writer that copies ahead: each takes some of what is left of the text and writes what that gives, and spills up to sixteen bytes past it.
-- Assumes nothing.
use Rattle.std.specs.Prelude.{None}
use mathlib.Core.Bool.{false}
use mathlib.Core.Path.{◌≡◌, refl, sym, ap, ◌∙◌, subst}
use mathlib.Core.List.{List, [], ◌∷◌, ◌++◌}
use Prim.Native.Nat.{ℕ, ◌+◌, ◌-◌, ◌/◌, ◌≤◌, ◌<◌}
use native.Mathlib.Nat.{add-zero}
use native.Mathlib.Omega.{arith}
use borrow.Author.Tests.{ne_eqb}
use lib.ListN.{length, take, drop, get_or, length-drop, take-append-drop}
use lib.Seq.{length-take-le, take-take, drop-drop, get_or-drop}
use Rattle.rules.specs.Bytes.{over}
use Rattle.rules.specs.Moves.{gives, through, replaced}
use Rattle.rules.specs.Answers.{Measures, replacement_move}
use Rattle.rules.specs.Contexts.{written_in}
use Rattle.rules.specs.Encoding.{keep_byte, encode_step}
use Rattle.rules.specs.Operations.{encode_of}
use Rattle.rules.specs.declared.Measured.{Measured}
use Rattle.rules.specs.declared.Notation.{Notation}
use Rattle.rules.specs.declared.Quotes.{Quotes}
use Rattle.rules.specs.declared.Replacement.{Replacement}
use Rattle.rules.specs.declared.Replacement.TheVariants.{Slashed, Hex, Separator, Substitute}
use Rattle.rules.proofs.Growth.{encode-sum, encode-whole}
use Rattle.base.specs.Words.{word_of, eight, Spills}
use Rattle.base.proofs.Filled.{Next, lent-rest}
use Rattle.base.proofs.Spilt.{Spilt, spilt-next, spilt-put, part-spills, over-spilt}
use Rattle.encode_strings.specs.Strings.{alone, taken_by, Held}
use Rattle.strings_ahead.specs.Ahead.{word_in, copies, Reached}
use Rattle.encode_strings.proofs.Heads.{strings-ruleless, lone}
use Rattle.encode_strings.proofs.Steps.{held-within, takes-taken, taken-some}
use Rattle.encode_strings.proofs.Parts.{none_left}
use Rattle.strings_ahead.proofs.Reach.{reached-move, reached-more, takes_one_lem, escaped-byte, word_size, word_bytes, word_some}

-- A replacement takes at most three bytes.
pub taken-few : (r : Replacement) → taken_by r ≤ 3
taken-few Slashed = omega arith
taken-few Hex = omega arith
taken-few Separator = omega arith
taken-few Substitute = omega arith

-- The byte after n bytes of what is left is the first of what is left after these.
pub later-byte : (t : List ℕ) (i n : ℕ) → get_or (take (length t - i) (drop i t)) n 0 ≡ get_or (take (length t - (i + n)) (drop (i + n) t)) 0 0
later-byte t i n = rw (lent-rest i t, lent-rest (i + n) t) (get_or-drop i t n 0 ∙ sym (get_or-drop (i + n) t 0 0 ∙ ap (λ (k : ℕ). get_or t k 0) (add-zero (i + n))))

module _ (notation : Notation) (quotes : Quotes) where
  abbrev enc : List ℕ → List ℕ
  enc t = encode_of (written_in notation quotes) t

  -- What is written is at least as long as the text.
  pub as_long_lem : (t : List ℕ) → length t ≤ length (enc t)
  as_long_lem t = omega (arith, encode-sum (written_in notation quotes) t)

  -- ---- the steps

  -- The first byte, where nothing replaces it.
  pub reached-kept : (t : List ℕ) → 0 < length t → keep_byte t ≡ encode_step (written_in notation quotes) 0 t
      → Reached notation quotes t 1 1 0 × (take 1 (enc t) ≡ get_or t 0 0 ∷ [])
  reached-kept [] h e = absurd (omega arith)
  reached-kept (x ∷ s) h e = reached-move notation quotes (x ∷ s) (keep_byte (x ∷ s)) 1 e refl (omega arith) h

  hit-found : (t : List ℕ) (r : Replacement) → replaced (replacement_move notation t r ∷ []) ≡ 1
  hit-found t Slashed = refl
  hit-found t Hex = refl
  hit-found t Separator = refl
  hit-found t Substitute = refl

  -- What a replacement takes.
  pub reached-found : (t : List ℕ) (r : Replacement) → Held r t → replacement_move notation t r ≡ encode_step (written_in notation quotes) 0 t
      → Reached notation quotes t (taken_by r) (length (gives (replacement_move notation t r))) 1
      × (take (length (gives (replacement_move notation t r))) (enc t) ≡ gives (replacement_move notation t r))
  reached-found t r h e =
      rw (hit-found t r) at (reached-move notation quotes t (replacement_move notation t r) (taken_by r) e (takes-taken notation r t h) (taken-some r) (held-within r t h))

  -- The first byte, which is escaped by itself.
  pub reached-escape : (t : List ℕ) → 0 < length t → get_or t 0 0 < 256 → (get_or t 0 0 ≡ 0xE2 → ⊥) → copies notation quotes (get_or t 0 0) ≡ false
      → Reached notation quotes t 1 (length (gives (alone notation quotes (get_or t 0 0)))) 1
      × (take (length (gives (alone notation quotes (get_or t 0 0)))) (enc t) ≡ gives (alone notation quotes (get_or t 0 0)))
  reached-escape [] h l n e = absurd (omega arith)
  reached-escape (x ∷ s) h l n e =
      rw (escaped-byte notation quotes x l e n) at
      (reached-move notation quotes (x ∷ s) (alone notation quotes x) 1 (sym (lone (written_in notation quotes) (strings-ruleless notation quotes) 0 x s n)) (takes_one_lem notation quotes x l) (omega arith) h)

  -- Its word, stored whole.
  pub word-spills : (b x : ℕ) (out : List ℕ) → b < 256 → (b ≡ 0xE2 → ⊥) → x ≡ word_in notation quotes b
      → (x / 0x100000000000000 ≡ length (gives (alone notation quotes b))) × Spills 16 (gives (alone notation quotes b)) out (over (eight x) out)
  unfolding word_in
  word-spills b x out l n e =
      let w = gives (alone notation quotes b) in
      let some = word_some notation quotes b l in
      let f : x ≡ word_of w = rw (ne_eqb b 0xE2 n) at e in
      rw f (word_size notation quotes b l, part-spills 16 w (eight (word_of w)) out (word_bytes notation quotes b l) (omega (arith, some.1)) (omega arith))

  -- Bytes of sixteen that are copied.
  pub run-spills : (t out : List ℕ) (n : ℕ) → n ≤ 16 → 16 ≤ length t → take n (enc t) ≡ take n t → Spills 16 (take n (enc t)) out (over (take 16 t) out)
  run-spills t out n l h e =
      let sixteen : length (take 16 t) ≡ 16 = length-take-le 16 t h in
      let size : length (take n t) ≡ n = length-take-le n t (omega arith) in
      rw e (part-spills 16 (take n t) (take 16 t) out (rw size (take-take n 16 t l)) (omega (arith, sixteen, size)) (omega (arith, sixteen, size)))

  -- ---- the turns

  module _ {t out₀ out : List ℕ} {i at k : ℕ} (r : Reached notation quotes t i at k) (f : Spilt 16 0 (enc t) (enc (drop i t)) out₀ out at) where
    -- What is left has room in the part that is lent.
    pub turn-room : length (enc (take (length t - i) (drop i t))) ≤ length (take (length out - at) (drop at out))
    turn-room = rw (lent-rest, lent-rest, length-drop) (omega (arith, f.sum, f.room, f.kept))

    module _ {j m l : ℕ} (g : Reached notation quotes (take (length t - i) (drop i t)) j m l) (far : i + j + 16 ≤ length t) where
      step : Reached notation quotes (drop i t) j m l
      step = rw (lent-rest i t) at g

      part-size : length (take m (enc (drop i t))) ≡ m
      part-size = length-take-le m (enc (drop i t)) (omega (arith, step.long))

      next : Next (enc (drop i t)) (take m (enc (drop i t))) (enc (drop (i + j) t))
      next =
          record {
            next = sym (take-append-drop m (enc (drop i t))) ∙ ap (λ (w : List ℕ). take m (enc (drop i t)) ++ w) (step.next ∙ ap enc (drop-drop j i t));
          }

      more : 16 ≤ length (enc (drop (i + j) t)) + 0
      more = omega (arith, as_long_lem (drop (i + j) t), length-drop (i + j) t, far)

      -- What it writes is within the output.
      pub turn-next : at + m ≤ length out₀
      turn-next = omega (arith, part-size, spilt-next f next more)

      -- What it leaves.
      pub turn-reached : Reached notation quotes t (i + j) (at + m) (k + l)
      turn-reached = reached-more notation quotes r step

      pub turn-put : (last : List ℕ) → length last ≡ length (take (length out - at) (drop at out))
          → Spills 16 (take m (enc (take (length t - i) (drop i t)))) (take (length out - at) (drop at out)) last
          → Spilt 16 0 (enc t) (enc (drop (i + j) t)) out₀ (take at out ++ (last ++ drop (length out - at) (drop at out))) (at + m)
      turn-put last h s = spilt-put f next more last m (sym part-size) h (rw (lent-rest i t) at s)

  -- A turn that replaces nothing.
  pub turn-run : {t : List ℕ} {i at k j m : ℕ} → Reached notation quotes t i at k → Reached notation quotes (take (length t - i) (drop i t)) j m 0 → Reached notation quotes t (i + j) (at + m) k
  turn-run {t} {i} {at} {k} {j} {m} r g = subst (Reached notation quotes t (i + j) (at + m)) (add-zero k) (reached-more notation quotes r (rw (lent-rest i t) at g))

  -- ---- the end

  -- Most of a text, and then the rest: what a pass over the whole finds.
  pub both-measured : (t : List ℕ) (i n k : ℕ) (found : Measured) → Reached notation quotes t i n k → Measures found (through (encode_step (written_in notation quotes)) (drop i t))
      → Measures (record { length = n + found.length; place = i + found.place; replaced = k + found.replaced; left = None }) (through (encode_step (written_in notation quotes)) t)
  both-measured t i n k found r m =
      let whole = ap length (encode-whole (written_in notation quotes) t) in
      let rest = ap length (encode-whole (written_in notation quotes) (drop i t)) in
      record {
        long = omega (arith, r.long, m.long);
        reach = omega (arith, r.inside, m.reach, whole, rest, length-drop i t);
        many = omega (arith, r.many, m.many);
        first = none_left notation quotes t;
      }

  -- What is written for it: the rest is written over what the first part spilt.
  pub both-over : {t : List ℕ} {i n k : ℕ} → Reached notation quotes t i n k → i + 16 ≤ length t → (out₀ out last : List ℕ) → Spills 16 (take n (enc t)) out₀ out
      → last ≡ over (enc (take (length t - i) (drop i t))) (take (length out - n) (drop n out))
      → take n out ++ (last ++ drop (length out - n) (drop n out)) ≡ over (enc t) out₀
  both-over {t} {i} {n} {k} r far out₀ out last s e =
      let rest = enc (take (length t - i) (drop i t)) in
      let size : length (take n (enc t)) ≡ n = length-take-le n (enc t) (omega (arith, r.long)) in
      let long : 16 ≤ length rest = rw (lent-rest i t) (omega (arith, far, as_long_lem (drop i t), length-drop i t)) in
      let whole : take n (enc t) ++ rest ≡ enc t = rw (lent-rest i t, ← r.next) (take-append-drop n (enc t)) in
      over-spilt 16 (take n (enc t)) rest out₀ out last n (sym size) long s e ∙ ap (λ (w : List ℕ). over w out₀) whole
