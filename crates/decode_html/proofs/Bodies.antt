-- Bodies: where one ends by the places of the text, and what follows its `#`.
-- Assumes nothing.
use mathlib.Core.Bool.{Bool, true, false, ◌||◌, and-true}
use mathlib.Core.Option.{Option, none, some}
use mathlib.Core.Path.{◌≡◌, refl, sym, ap, ◌∙◌}
use mathlib.Core.List.{List, [], ◌∷◌, ◌++◌, append-nil}
use Prim.Native.Nat.{ℕ, zero, suc, ◌+◌, ◌-◌, ◌≤◌, ◌<◌}
use native.Mathlib.Omega.{arith}
use borrow.Author.Tests.{ne_eqb, ltb-true, ltb-false}
use lib.Dec.{eqb, ltb}
use lib.ListN.{length, take, drop, get_or, drop_of_length-le}
use lib.Seq.{drop-drop, take-add}
use Rattle.rules.specs.Names.{names}
use Rattle.rules.specs.References.{onto, body_of, digit, hex_digit_at, number, number_of, meaning, lookup, why_digits, why}
use Rattle.rules.specs.declared.Reason.TheVariants.{Empty}
use Rattle.rules.proofs.Below.{eqb_comm}
use Rattle.rules.proofs.Loops.{drop-next}
use Rattle.rules.proofs.Names.{hash-unnamed}
use Rattle.base.specs.Places.{Absent, Nearest}
use Rattle.base.proofs.Part.{part_length}
use Rattle.base.proofs.Places.{near-absent, near-part}
use Rattle.decode_html.specs.Taking.{char_of}
use Rattle.std.specs.Prelude.{Option as Maybe, Some, None}
use Rattle.decode_html.specs.Bodies.{Ends, EndsAt}

-- ---- where a body ends

-- Bytes before a body.
abbrev ahead : List ℕ → Option (List ℕ) → Option (List ℕ)
ahead w none = none
ahead w (some body) = some (w ++ body)

ahead-byte : (b : ℕ) (w : List ℕ) (o : Option (List ℕ)) → onto b (ahead w o) ≡ ahead (b ∷ w) o
ahead-byte b w none = refl
ahead-byte b w (some body) = refl

ahead_none : (o : Option (List ℕ)) → o ≡ ahead [] o
ahead_none none = refl
ahead_none (some body) = refl

module _ (t : List ℕ) where
  -- n bytes that are neither `;` nor `&` are passed.
  passed : (n a : ℕ) → a + n ≤ length t → Absent t a (a + n) 59 → Absent t a (a + n) 38 → body_of (drop a t) ≡ ahead (take n (drop a t)) (body_of (drop (a + n) t))
  passed zero a h f g =
      let z : a + 0 ≡ a = omega arith in
      rw z (ahead_none (body_of (drop a t)))
  passed (suc n) a h f g =
      let l : a < length t = omega arith in
      let z : a + suc n ≡ a + 1 + n = omega arith in
      let ih = passed n (a + 1) (omega arith) (λ k i j. f k (omega arith) (omega arith)) (λ k i j. g k (omega arith) (omega arith)) in
      rw (drop-next t a l, z, ne_eqb (get_or t a 0) 59 (f a (omega arith) (omega arith)), ne_eqb (get_or t a 0) 38 (g a (omega arith) (omega arith)), ih)
      (ahead-byte (get_or t a 0) (take n (drop (a + 1) t)) (body_of (drop (a + 1 + n) t)))

  module _ (a r : ℕ) (h : a ≤ r) (l : r ≤ length t) (f : Absent t a r 59) (g : Absent t a r 38) where
    up_to : body_of (drop a t) ≡ ahead (take (r - a) (drop a t)) (body_of (drop r t))
    up_to =
        let s : a + (r - a) ≡ r = omega arith in
        rw s at (passed (r - a) a (omega arith) (rw s f) (rw s g))

    -- At a `;` the body ends.
    pub ends-here : r < length t → get_or t r 0 ≡ 59 → Ends t a r
    ends-here k e = record { after = h; within = k; end = e; body = up_to ∙ rw (drop-next t r k, e) (ap some (append-nil (take (r - a) (drop a t)))) }

    -- At an `&` there is none.
    pub ends-amp : r < length t → get_or t r 0 ≡ 38 → body_of (drop a t) ≡ none
    ends-amp k e = up_to ∙ rw (drop-next t r k, e)

    -- Nor at the end of the text.
    ends-none : length t ≤ r → body_of (drop a t) ≡ none
    ends-none k = up_to ∙ rw (drop_of_length-le t k)

    -- Where a body ends from place r on, there it ends from place a on.
    pub ends-after : (o : Maybe ℕ) → EndsAt t r o → EndsAt t a o
    ends-after None e = up_to ∙ rw e
    ends-after (Some e) end =
        let n : e - a ≡ r - a + (e - r) = omega (arith, end.after) in
        let s : a + (r - a) ≡ r = omega arith in
        let d : drop (r - a) (drop a t) ≡ drop r t = drop-drop (r - a) a t ∙ ap (λ (m : ℕ). drop m t) s in
        record {
          after = omega (arith, end.after);
          within = end.within;
          end = end.end;
          body = up_to ∙ rw (end.body, n) (ap some (sym (take-add (r - a) (e - r) (drop a t) ∙ rw d)));
        }

  -- The next `&` is at place e, and in the part before it the first `;` at its place n, if it has one.
  module _ (a e n : ℕ) (amp : Nearest t a 38 e) (end : Nearest (take (e - a) (drop a t)) 0 59 n) where
    inside : a + n ≤ e
    inside = omega (arith, end.within, part_length t a e amp.after amp.within, amp.after)

    free : Absent t a (a + n) 59
    free = near-absent t 59 a e n amp.after amp.within end

    -- It has none, so there is no body.
    pub far_none : a + n ≡ e → body_of (drop a t) ≡ none
    far_none z = go (ltb e (length t)) refl
      where
        f : Absent t a e 59
        f = rw z at free

        go : (b : Bool) → ltb e (length t) ≡ b → body_of (drop a t) ≡ none
        go true q = let l = ltb-true e (length t) q in ends-amp a e amp.after amp.within f amp.none l (amp.here l)
        go false q = ends-none a e amp.after amp.within f amp.none (ltb-false e (length t) q)

    -- It has one, and the body ends there.
    pub far_some : (a + n ≡ e → ⊥) → Ends t a (a + n)
    far_some z =
        let l : a + n < e = omega (arith, inside, z) in
        let m : a + n < length t = omega (arith, l, amp.within) in
        ends-here a (a + n) (omega arith) (omega arith) free (λ k i j. amp.none k i (omega (arith, j, l))) m
        ((near-part t 59 a e n amp.after amp.within end l).here m)

-- ---- what follows `#`

module _ (char : ℕ → Option (List ℕ)) where
  -- No name begins with `#`, so such a body stands for the character of its number, or for nothing.
  pub hashed : (s : List ℕ) (o : Option ℕ) → number_of (35 ∷ s) ≡ o → meaning char (35 ∷ s) ≡ char_of char o
  hashed s none e = ap (λ (o : Option ℕ). elim o [ some n ↦ char n | none ↦ lookup names (35 ∷ s) ]) e ∙ hash-unnamed s
  hashed s (some n) e = ap (λ (o : Option ℕ). elim o [ some n ↦ char n | none ↦ lookup names (35 ∷ s) ]) e

-- Nothing after `#` is no number.
pub number-empty : (s : List ℕ) → length s ≡ 0 → number_of (35 ∷ s) ≡ none
number-empty [] e = refl
number-empty (b ∷ s) e = absurd (omega arith)

-- Hex digits follow the mark `x` or `X`.
pub number-hex : (s : List ℕ) → (length s ≡ 0 → ⊥) → (eqb (get_or s 0 0) 120 || eqb (get_or s 0 0) 88) ≡ true → number_of (35 ∷ s) ≡ number hex_digit_at 16 (drop 1 s)
number-hex [] h e = absurd (h refl)
number-hex (b ∷ s) h e = rw (eqb_comm 120 b, eqb_comm 88 b, and-true (eqb b 120), and-true (eqb b 88), e)

-- Else the digits are decimal.
pub number-decimal : (s : List ℕ) → (length s ≡ 0 → ⊥) → (eqb (get_or s 0 0) 120 || eqb (get_or s 0 0) 88) ≡ false → number_of (35 ∷ s) ≡ number digit 10 s
number-decimal [] h e = absurd (h refl)
number-decimal (b ∷ s) h e = rw (eqb_comm 120 b, eqb_comm 88 b, and-true (eqb b 120), and-true (eqb b 88), e)

-- The reasons, in the same three cases.
pub why-empty : (s : List ℕ) → length s ≡ 0 → Empty ≡ why (35 ∷ s)
why-empty [] e = refl
why-empty (b ∷ s) e = absurd (omega arith)

pub why-hex : (s : List ℕ) → (length s ≡ 0 → ⊥) → (eqb (get_or s 0 0) 120 || eqb (get_or s 0 0) 88) ≡ true → why (35 ∷ s) ≡ why_digits hex_digit_at 16 (drop 1 s)
why-hex [] h e = absurd (h refl)
why-hex (b ∷ s) h e = rw (eqb_comm 120 b, eqb_comm 88 b, and-true (eqb b 120), and-true (eqb b 88), e)

pub why-decimal : (s : List ℕ) → (length s ≡ 0 → ⊥) → (eqb (get_or s 0 0) 120 || eqb (get_or s 0 0) 88) ≡ false → why (35 ∷ s) ≡ why_digits digit 10 s
why-decimal [] h e = absurd (h refl)
why-decimal (b ∷ s) h e = rw (eqb_comm 120 b, eqb_comm 88 b, and-true (eqb b 120), and-true (eqb b 88), e)
