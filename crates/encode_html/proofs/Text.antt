-- The encoding of a text in an HTML context, byte by byte and part by part.
-- Assumes nothing.
use mathlib.Core.Path.{◌≡◌, refl, sym, ap, ◌∙◌}
use mathlib.Core.List.{List, [], ◌∷◌, ◌++◌}
use Prim.Native.Nat.{ℕ, suc, ◌+◌, ◌-◌, ◌≤◌, ◌<◌}
use native.Mathlib.Omega.{arith}
use lib.Dec.{T}
use lib.ListN.{length, take, drop, get_or, length-append, length-drop, drop_of_length-le, take-append-drop}
use Rattle.rules.specs.Bytes.{all}
use Rattle.rules.specs.Tables.{table}
use Rattle.rules.specs.Operations.{encode_of}
use Rattle.rules.specs.declared.Html.{Html}
use Rattle.rules.specs.declared.Context.TheVariants.{InHtml}
use Rattle.rules.proofs.Loops.{drop-next}
use Rattle.rules.proofs.Laws.{encode_same}
use Rattle.rules.proofs.Bytewise.{of_byte, encode-append, replaced-both}
use Rattle.rules.proofs.Growth.{encode-six, encode-sum, encode-as-long}
use Rattle.base.proofs.Filled.{Next, lent-rest}
use Rattle.encode_html.specs.Written.{written}
use Rattle.encode_html.specs.Gains.{hits_of, Each, Unchanged}
use Rattle.encode_html.proofs.Seven.{seven}

-- Every key is one byte.
bytewise : (h : Html) → T (all of_byte (table (InHtml h)))
bytewise = seven (λ (h : Html). all of_byte (table (InHtml h))) tt

module _ (h : Html) where
  -- ---- a byte

  pub cons-written : (b : ℕ) (t : List ℕ) → encode_of (InHtml h) (b ∷ t) ≡ written h b ++ encode_of (InHtml h) t
  unfolding written
  cons-written b t = encode-append (InHtml h) (λ a. refl) (bytewise h) (b ∷ []) t

  -- At most six bytes are written for one.
  pub written-most : (b : ℕ) → length (written h b) ≤ 6
  unfolding written
  written-most b = encode-six (InHtml h) tt (b ∷ [])

  -- And at least one.
  pub written-some : (b : ℕ) → 1 ≤ length (written h b)
  unfolding written
  written-some b = omega (arith, encode-sum (InHtml h) (b ∷ []))

  -- ---- a text

  -- What is left is the byte at i, and what is left after it.
  pub next-byte : (t : List ℕ) (i : ℕ) → i < length t → Next (encode_of (InHtml h) (drop i t)) (written h (get_or t i 0)) (encode_of (InHtml h) (drop (i + 1) t))
  next-byte t i l = record { next = rw (drop-next t i l) (cons-written (get_or t i 0) (drop (i + 1) t)) }

  -- A text in two, the first as it is cut off.
  pub next-cut : (s x r : List ℕ) → s ≡ x ++ r → Next (encode_of (InHtml h) s) (encode_of (InHtml h) x) (encode_of (InHtml h) r)
  next-cut s x r e = record { next = ap (encode_of (InHtml h)) e ∙ encode-append (InHtml h) (λ a. refl) (bytewise h) x r }

  pub hits-cut : (s x r : List ℕ) → s ≡ x ++ r → hits_of h s ≡ hits_of h x + hits_of h r
  hits-cut s x r e = ap (hits_of h) e ∙ replaced-both (InHtml h) (λ a. refl) (bytewise h) x r

  -- The same of how many places are replaced.
  pub hits-byte : (t : List ℕ) (i : ℕ) → i < length t → hits_of h (drop i t) ≡ hits_of h (get_or t i 0 ∷ []) + hits_of h (drop (i + 1) t)
  hits-byte t i l = ap (hits_of h) (drop-next t i l) ∙ replaced-both (InHtml h) (λ a. refl) (bytewise h) (get_or t i 0 ∷ []) (drop (i + 1) t)

  -- At the end nothing is left.
  pub next-none : (t : List ℕ) (i : ℕ) → length t ≤ i → encode_of (InHtml h) (drop i t) ≡ []
  next-none t i l = rw (drop_of_length-le t l)

  pub empty-none : (r : List ℕ) → length r ≡ 0 → encode_of (InHtml h) r ≡ []
  empty-none [] e = refl
  empty-none (b ∷ r) e = absurd (omega arith)

  -- What does not grow is copied.
  pub copied : (t : List ℕ) → length (encode_of (InHtml h) t) ≡ length t → encode_of (InHtml h) t ≡ t
  copied t e = (encode_same (InHtml h) t).0 ((encode-as-long (InHtml h) t).1 e)

  -- A text in two, the rest as it is lent.
  pub halves : (t : List ℕ) (e : ℕ) → encode_of (InHtml h) t ≡ encode_of (InHtml h) (take e t) ++ encode_of (InHtml h) (take (length t - e) (drop e t))
  halves t e = ap (encode_of (InHtml h)) (sym (take-append-drop e t)) ∙ encode-append (InHtml h) (λ a. refl) (bytewise h) (take e t) (drop e t) ∙ rw (lent-rest e t)

  -- How long the two are; the rest does not shrink.
  pub half-sizes : (t : List ℕ) (e : ℕ)
      → (length (encode_of (InHtml h) (take e t)) + length (encode_of (InHtml h) (take (length t - e) (drop e t))) ≡ length (encode_of (InHtml h) t))
      × (length (take (length t - e) (drop e t)) ≡ length t - e) × (length t - e ≤ length (encode_of (InHtml h) (take (length t - e) (drop e t))))
  half-sizes t e =
      let rest = take (length t - e) (drop e t) in
      let n : length rest ≡ length t - e = ap length (lent-rest e t) ∙ length-drop e t in
      let sum = ap length (halves t e) ∙ length-append (encode_of (InHtml h) (take e t)) (encode_of (InHtml h) rest) in
      (sym sum, n, omega (arith, encode-sum (InHtml h) rest))

  -- A text of bytes that are written as one does not grow.
  pub single-length : (t : List ℕ) → Each (λ (b : ℕ). length (written h b) ≡ 1) t → length (encode_of (InHtml h) t) ≡ length t
  single-length [] f = refl
  single-length (b ∷ t) f = rw (cons-written b t, length-append, f 0 (omega arith)) (omega (arith, single-length t (λ k l. f (suc k) (omega arith))))

  -- An unchanged text does not grow.
  pub unchanged-length : (t : List ℕ) → Each (Unchanged h) t → length (encode_of (InHtml h) t) ≡ length t
  unchanged-length t f = single-length t (λ k l. (f k l).0)

  -- And nothing in it is replaced.
  pub unchanged-hits : (t : List ℕ) → Each (Unchanged h) t → hits_of h t ≡ 0
  unchanged-hits t f = (encode-as-long (InHtml h) t).1 (unchanged-length t f)
