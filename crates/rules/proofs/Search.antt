-- The search for references, sentence by sentence: what decode and browse do from an `&` on, by the next `&` or `;`.
-- Assumes nothing.
use mathlib.Core.Bool.{Bool, true, false, cond}
use mathlib.Core.Logic.{◌⊎◌, inl, inr}
use mathlib.Core.Option.{Option, none, some}
use mathlib.Core.Path.{◌≡◌, refl, sym, ap, ◌∙◌, subst}
use mathlib.Core.List.{List, [], ◌∷◌, ◌++◌, append_assoc, append-nil}
use Prim.Native.Nat.{ℕ}
use lib.Dec.{T, eqb}
use lib.ListN.{length}
use Rattle.rules.specs.Bytes.{ascii, In}
use Rattle.rules.specs.Moves.{Move, keep, swap, leave, moves, taken}
use Rattle.rules.specs.References.{onto, body_of, meaning, why, refer, at_amp, reference_by}
use Rattle.rules.specs.Reasons.{Ampless, Endless}
use Rattle.rules.specs.declared.Reason.{Reason}
use Rattle.rules.specs.declared.Reason.TheVariants.{NoEnd}
use Rattle.rules.proofs.Tests.{is_false, in-append}
use Rattle.rules.proofs.Machine.{Makes, Follows, one-move, retrace, singly}
use Rattle.rules.proofs.Chars.{taken-singles}

-- Any byte but an `&` is kept.
pub reference-quiet : (char : ℕ → Option (List ℕ)) (p x : ℕ) (s : List ℕ) → (T (eqb x 38) → ⊥) → reference_by char p (x ∷ s) ≡ keep (x ∷ [])
reference-quiet char p x s h = ap (λ (b : Bool). cond b (at_amp char (body_of s)) (keep (x ∷ []))) (is_false (eqb x 38) h)

-- Bytes with no `;` have no body before an `&` or the end of the text.
pub body-none : (a r : List ℕ) → Endless a → body_of r ≡ none → body_of (a ++ r) ≡ none
body-none [] r f e = e
body-none (x ∷ a) r f e = go (eqb x 59) refl (eqb x 38) (body-none a r (λ y i. f y (inr i)) e)
  where
    go : (p : Bool) → eqb x 59 ≡ p → (q : Bool) → body_of (a ++ r) ≡ none → cond p (some []) (cond q none (onto x (body_of (a ++ r)))) ≡ none
    go true h q ih = absurd (f x (inl refl) (subst T (sym h) tt))
    go false h true ih = refl
    go false h false ih = ap (onto x) ih

-- Bytes with neither are a body where a `;` follows.
pub body-some : (a r : List ℕ) → Ampless a → Endless a → body_of (a ++ 59 ∷ r) ≡ some a
body-some [] r g f = refl
body-some (x ∷ a) r g f = go (eqb x 59) refl (eqb x 38) refl (body-some a r (λ y i. g y (inr i)) (λ y i. f y (inr i)))
  where
    go : (p : Bool) → eqb x 59 ≡ p → (q : Bool) → eqb x 38 ≡ q → body_of (a ++ 59 ∷ r) ≡ some a → cond p (some []) (cond q none (onto x (body_of (a ++ 59 ∷ r)))) ≡ some (x ∷ a)
    go true h q k ih = absurd (f x (inl refl) (subst T (sym h) tt))
    go false h true k ih = absurd (g x (inl refl) (subst T (sym k) tt))
    go false h false k ih = ap (onto x) ih

module _ (char : ℕ → Option (List ℕ)) where
  -- It does not matter which byte stands before.
  any-before : (p q : ℕ) (s : List ℕ) → moves (reference_by char) p 0 s ≡ moves (reference_by char) q 0 s
  any-before p q [] = refl
  any-before p q (x ∷ s) = refl

  singly-kept : (a r : List ℕ) → Ampless a → Follows (reference_by char) (singly a) r
  singly-kept [] r g = tt
  singly-kept (x ∷ a) r g = ((0, refl, λ p. reference-quiet char p x (taken (singly a) ++ r) (g x (inl refl))), singly-kept a r (λ y i. g y (inr i)))

  -- Where the reference stays, the bytes after its `&` that are no `&` are kept.
  stays : (p q : ℕ) (w : Reason) (a r : List ℕ) → Ampless a → at_amp char (body_of (a ++ r)) ≡ leave w (ascii "&")
      → moves (reference_by char) p 0 (38 ∷ a ++ r) ≡ leave w (ascii "&") ∷ singly a ++ moves (reference_by char) q 0 r
  stays p q w a r g e =
      let amp : Makes (reference_by char) (leave w (ascii "&")) (taken (singly a) ++ r) = (0, refl, λ p. ap (λ (t : List ℕ). at_amp char (body_of (t ++ r))) (taken-singles a) ∙ e) in
      let (q', f) = retrace (reference_by char) p (leave w (ascii "&") ∷ singly a) r (amp, singly-kept a r g) in
      ap (λ (t : List ℕ). moves (reference_by char) p 0 (38 ∷ t ++ r)) (sym (taken-singles a))
      ∙ f ∙ ap (λ (ms : List Move). leave w (ascii "&") ∷ singly a ++ ms) (any-before q' q r)

  -- No `&` or `;` comes after the `&`: it stays for want of a `;`, and nothing more is replaced.
  pub search-ends : (p : ℕ) (a : List ℕ) → Ampless a → Endless a → moves (reference_by char) p 0 (38 ∷ a) ≡ leave NoEnd (ascii "&") ∷ singly a
  search-ends p a g f =
      ap (λ (t : List ℕ). moves (reference_by char) p 0 (38 ∷ t)) (sym (append-nil a))
      ∙ stays p 0 NoEnd a [] g (ap (at_amp char) (body-none a [] f refl)) ∙ append-nil (leave NoEnd (ascii "&") ∷ singly a)

  -- The next is an `&`: the first stays for want of a `;`, and the search starts again at the next.
  pub search-restarts : (p q : ℕ) (a r : List ℕ) → Ampless a → Endless a
      → moves (reference_by char) p 0 (38 ∷ a ++ 38 ∷ r) ≡ leave NoEnd (ascii "&") ∷ singly a ++ moves (reference_by char) q 0 (38 ∷ r)
  search-restarts p q a r g f = stays p q NoEnd a (38 ∷ r) g (ap (at_amp char) (body-none a (38 ∷ r) f refl))

  -- The next is a `;`, and the body stands for v: v takes the place of the reference, and the search goes on after the `;`.
  pub search-replaces : (p q : ℕ) (body r v : List ℕ) → Ampless body → Endless body → meaning char body ≡ some v
      → moves (reference_by char) p 0 (38 ∷ body ++ 59 ∷ r) ≡ swap (ascii "&" ++ body ++ ascii ";") v ∷ moves (reference_by char) q 0 r
  search-replaces p q body r v g f m =
      let made : at_amp char (body_of (body ++ 59 ∷ r)) ≡ swap (38 ∷ body ++ ascii ";") v = ap (at_amp char) (body-some body r g f) ∙ ap (refer body) m in
      let reference : Makes (reference_by char) (swap (38 ∷ body ++ ascii ";") v) r =
      (length (body ++ ascii ";"), refl, λ p. ap (λ (t : List ℕ). at_amp char (body_of t)) (append_assoc body (ascii ";") r) ∙ made) in
      let (q', e) = one-move (reference_by char) p (swap (38 ∷ body ++ ascii ";") v) r reference in
      ap (λ (t : List ℕ). moves (reference_by char) p 0 (38 ∷ t)) (sym (append_assoc body (ascii ";") r))
      ∙ e ∙ ap (λ (ms : List Move). swap (38 ∷ body ++ ascii ";") v ∷ ms) (any-before q' q r)

  -- Otherwise the reference stays for the reason that its body gives, and the search goes on after the `;`.
  pub search-goes-on : (p q : ℕ) (body r : List ℕ) → Ampless body → Endless body → meaning char body ≡ none
      → moves (reference_by char) p 0 (38 ∷ body ++ 59 ∷ r) ≡ leave (why body) (ascii "&") ∷ singly (body ++ ascii ";") ++ moves (reference_by char) q 0 r
  search-goes-on p q body r g f m =
      ap (λ (t : List ℕ). moves (reference_by char) p 0 (38 ∷ t)) (sym (append_assoc body (ascii ";") r))
      ∙ stays p q (why body) (body ++ ascii ";") r quiet (ap (λ (t : List ℕ). at_amp char (body_of t)) (append_assoc body (ascii ";") r) ∙ ap (at_amp char) (body-some body r g f) ∙ ap (refer body) m)
    where
      quiet : Ampless (body ++ ascii ";")
      quiet x i t = go (in-append x body (ascii ";") i)
        where
          go : In x body ⊎ In x (ascii ";") → ⊥
          go (inl j) = g x j t
          go (inr (inl e)) = subst (λ (z : ℕ). T (eqb z 38)) e t
          go (inr (inr j)) = j
