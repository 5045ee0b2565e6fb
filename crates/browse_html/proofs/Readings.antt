-- What the reader finds is the move of browse: the reference by its bytes and its value; a name that decode takes too; or none.
-- Assumes nothing.
use mathlib.Core.Bool.{Bool, true, false, cond}
use mathlib.Core.Option.{Option, none, some, none-ne-some}
use mathlib.Core.Path.{◌≡◌, refl, sym, ap, ◌∙◌, subst}
use mathlib.Core.List.{List, [], ◌∷◌, ◌++◌}
use Prim.Native.Nat.{ℕ, suc, ◌+◌, ◌-◌, ◌≤◌, ◌<◌}
use native.Mathlib.Omega.{arith}
use borrow.Author.Tests.{ne_eqb}
use lib.Dec.{T, ltb}
use lib.ListN.{length, take, drop, get_or, length-append, length-drop}
use lib.Seq.{take-append_seam, get_or-drop, drop-drop, length-take-le}
use Rattle.rules.specs.Bytes.{ascii, In, all, stands}
use Rattle.rules.specs.Moves.{swap}
use Rattle.rules.specs.Tables.{Row, key, value, letter_or_digit}
use Rattle.rules.specs.Utf8.{utf8}
use Rattle.rules.specs.Names.{names}
use Rattle.rules.specs.References.{decode_char, body_of, lookup, meaning, reference_step}
use Rattle.rules.specs.Bare.{bare}
use Rattle.rules.specs.Browsing.{given, reference_at, at_amp, browse_step}
use Rattle.rules.specs.Answers.{value_bytes}
use Rattle.rules.specs.declared.Kind.{Kind}
use Rattle.rules.specs.declared.DecodedEntity.{DecodedEntity}
use Rattle.rules.specs.declared.DecodedEntityValue.{DecodedEntityValue}
use Rattle.rules.specs.declared.DecodedEntityValue.TheVariants.{Character}
use Rattle.rules.specs.declared.Reason.{Reason}
use Rattle.rules.proofs.Loops.{drop-next}
use Rattle.rules.proofs.Tests.{all_in, and_left}
use Rattle.rules.proofs.Names.{looked-up, empty-unnamed}
use Rattle.rules.proofs.Whole.{body-split}
use Rattle.rules.proofs.Identifiers.{bare-named, names-wordy}
use Rattle.rules.proofs.Browsing.{reference-here, named-alike, decode-takes, decode-stays}
use Rattle.names_bare.specs.Heads.{Heads}
use Rattle.names_bare.specs.declared.BareName.{BareName}
use Rattle.decode_html.specs.Taking.{Real, Gives, Stays}
use Rattle.decode_html.proofs.Readings.{not-number, name-real}
use Rattle.browse_html.specs.Finding.{blocked_in, Named, Keeps}
use Rattle.browse_html.proofs.Names.{finds-bare}

-- A name without `;` is in the table, and its value is no character above 10FFFF.
bare-lookup : (n : List ℕ) → In n bare → lookup names n ≡ some (given (lookup names n))
bare-lookup n i = go (lookup names n) (all_in (λ (n : List ℕ). ltb 0 (length (given (lookup names n)))) bare bare-named n i)
  where
    go : (o : Option (List ℕ)) → T (ltb 0 (length (given o))) → o ≡ some (given o)
    go none t = absurd t
    go (some v) t = refl

bare-real : (n : List ℕ) (c : ℕ) → In n bare → utf8 c ≡ given (lookup names n) → c ≤ 0x10FFFF
bare-real n c i e = name-real n (Character c) (ap some e ∙ sym (bare-lookup n i))

no-mark : (s : List ℕ) → (get_or s 0 0 ≡ 35 → ⊥) → stands (ascii "#") s ≡ false
no-mark [] h = refl
no-mark (b ∷ s) h = rw (ne_eqb 35 b (λ e. h (sym e)))

module _ (kind : Kind) (t : List ℕ) (i : ℕ) (inside : i < length t) (amp : get_or t i 0 ≡ 38) where
  abbrev after : List ℕ
  after = drop (i + 1) t

  starts : drop i t ≡ 38 ∷ after
  starts = drop-next t i inside ∙ rw amp

  at-amp : (p : ℕ) (o : Option Row) → reference_at kind after ≡ o → browse_step kind p (drop i t) ≡ at_amp o
  unfolding browse_step
  at-amp p o e = rw starts (ap at_amp e)

  -- There is no reference.
  pub keeps_none : reference_at kind after ≡ none → Keeps kind t i
  keeps_none e = λ p. sym (at-amp p none e)

  -- There is one: it ends behind its bytes.
  pub gives-row : (row : Row) → reference_at kind after ≡ some row → (v : DecodedEntityValue) → value_bytes v ≡ value row → Real v
      → (e : ℕ) → e ≡ i + 1 + length (key row) → Gives (browse_step kind) t i (record { start = i; end = e; value = v })
  gives-row row f v g real e h =
      let (r, w) = reference-here kind after row f in
      let long : length (key row) + length r ≡ length t - (i + 1) = sym (length-append (key row) r) ∙ ap length (sym w) ∙ rw length-drop in
      let n : e - i ≡ suc (length (key row)) = omega arith in
      let taken : take (e - i) (drop i t) ≡ 38 ∷ key row = rw (n, starts) (ap (λ (l : List ℕ). 38 ∷ l) (ap (take (length (key row))) w ∙ take-append_seam (key row) r)) in
      record {
        move = λ p. (λ j. swap (taken j) (g j)) ∙ sym (at-amp p (some row) f);
        lies = (refl, omega arith, omega (arith, long, h, inside), real);
      }

  -- ---- a name without `;`

  module _ (named : Named after) (name : BareName) (heads : Heads after name) where
    abbrev n : ℕ
    n = name.length

    abbrev c : ℕ
    c = name.character

    pub bare-within : i + 1 + n ≤ length t
    bare-within =
        let long : length after ≡ length t - (i + 1) = rw length-drop in
        omega (arith, long, heads.0, inside)

    behind : drop n after ≡ drop (i + 1 + n) t
    behind = drop-drop n (i + 1) t

    abbrev row : Row
    row = (take n after, given (lookup names (take n after)))

    at_bare : (b : Bool) → blocked_in kind (drop (i + 1 + n) t) ≡ b → reference_at kind after ≡ cond b none (some row)
    at_bare b e = finds-bare kind after named n heads.0 heads.1 ∙ ap (λ (b : Bool). cond {A = Option Row} b none (some row)) (ap (blocked_in kind) behind ∙ e)

    -- It is blocked.
    pub bare-stays : blocked_in kind (drop (i + 1 + n) t) ≡ true → Keeps kind t i
    bare-stays e = keeps_none (at_bare true e)

    -- It is not.
    pub bare-passes : blocked_in kind (drop (i + 1 + n) t) ≡ false → Gives (browse_step kind) t i (record { start = i; end = i + 1 + n; value = Character c })
    bare-passes e =
        gives-row row (at_bare false e) (Character c) heads.2 (bare-real (take n after) c heads.1 heads.2) (i + 1 + n)
        (ap (λ (k : ℕ). i + 1 + k) (sym (length-take-le n after heads.0)))

  -- ---- a name that decode takes, or leaves

  module _ (plain : get_or t (i + 1) 0 ≡ 35 → ⊥) where
    other : get_or after 0 0 ≡ 35 → ⊥
    other e =
        let z : i + 1 + 0 ≡ i + 1 = omega arith in
        plain (sym (get_or-drop (i + 1) t 0 0 ∙ ap (λ (k : ℕ). get_or t k 0) z) ∙ e)

    -- Neither a letter nor a digit follows, and each name begins with one.
    pub wordless : letter_or_digit (get_or t (i + 1) 0) ≡ false → Named after
    wordless w = (no-mark after other, unnamed)
      where
        unnamed : (body v : List ℕ) → body_of after ≡ some body → lookup names body ≡ some v → ⊥
        unnamed [] v f g = none-ne-some v (sym empty-unnamed ∙ g)
        unnamed (b ∷ body) v f g =
            let (r, s) = body-split after (b ∷ body) f in
            let z : i + 1 + 0 ≡ i + 1 = omega arith in
            let here : get_or t (i + 1) 0 ≡ b = sym (get_or-drop (i + 1) t 0 0 ∙ ap (λ (k : ℕ). get_or t k 0) z) ∙ ap (λ (s : List ℕ). get_or s 0 0) s in
            let word = all_in (λ (row : Row). all letter_or_digit (key row)) names names-wordy (b ∷ body, v) (looked-up names (b ∷ body) v g) in
            subst T (ap letter_or_digit (sym here) ∙ w) (and_left (letter_or_digit b) (all letter_or_digit body) word)

    -- A body that begins with another byte is looked up whole.
    whole : (body : List ℕ) → body_of after ≡ some body → meaning decode_char body ≡ lookup names body
    whole body e = not-number decode_char body (first body e)
      where
        first : (body : List ℕ) → body_of after ≡ some body → get_or body 0 0 ≡ 35 → ⊥
        first [] e z = omega arith
        first (b ∷ body) e z = let (r, w) = body-split after (b ∷ body) e in other (ap (λ (s : List ℕ). get_or s 0 0) w ∙ z)

    -- decode takes it: so does browse.
    pub gives-decoded : (e : DecodedEntity) → Gives reference_step t i e → Gives (browse_step kind) t i (record { start = i; end = e.end; value = e.value })
    gives-decoded e gives =
        let bytes = take (e.end - e.start) (drop e.start t) in
        let step : reference_step 0 (38 ∷ after) ≡ swap bytes (value_bytes e.value) = sym (gives.move 0 ∙ ap (reference_step 0) starts) in
        let (body, f, same, g) = decode-takes 0 after bytes (value_bytes e.value) step in
        let row = named-alike kind after body (value_bytes e.value) f (sym (whole body f) ∙ g) in
        let here : Gives (browse_step kind) t i e =
        record { move = λ p. (λ j. swap (same j) (value_bytes e.value)) ∙ sym (at-amp p (some (body ++ ascii ";", value_bytes e.value)) row); lies = gives.lies } in
        subst (λ (k : ℕ). Gives (browse_step kind) t i (record { start = k; end = e.end; value = e.value })) gives.lies.0 here

    -- decode leaves it, and tells why: then no name with its `;` stands here.
    pub left-named : (w : Reason) → Stays t i w → Named after
    left-named w stays = (
      no-mark after other,
      λ body v f g. decode-stays 0 after w (ap (reference_step 0) (sym starts) ∙ sym (stays 0)) body v f (whole body f ∙ g),
    )
