-- What the loops that look for a held tail need: a name as a pattern that goes on behind it, item by item; and how many bytes are settled, byte by byte.
-- Assumes nothing.
use mathlib.Core.Bool.{Bool, true, false, ◌&&◌, ◌||◌, and-false}
use mathlib.Core.Path.{◌≡◌, refl, sym, ap, ◌∙◌}
use mathlib.Core.List.{List, [], ◌∷◌, ◌++◌, map}
use Prim.Native.Nat.{ℕ, suc, ◌+◌, ◌-◌, ◌≤◌, ◌<◌}
use native.Mathlib.Numerals.{add-one}
use lib.ListN.{length, take, drop, get_or, drop_of_length-le}
use lib.Seq.{drop-cons}
use Rattle.rules.specs.Bytes.{ascii, opens, one_of}
use Rattle.rules.specs.Encoding.{any_case, terminators}
use Rattle.rules.specs.Utf8.{is_cut}
use Rattle.rules.specs.Stream.{begins, settled}
use Rattle.rules.proofs.Loops.{drop-next}
use Rattle.rules.proofs.Stream.{settled-from, settled-most}
use Rattle.base.proofs.Filled.{lent-rest}
use Rattle.stream.specs.Seams.{opens_name}

-- Whatever comes behind the name.
pub name-opens : (name s last : List ℕ) → opens_name name s ≡ opens one_of (map any_case name ++ last ∷ []) s
name-opens [] [] last = refl
name-opens [] (x ∷ s) last = sym (and-false (one_of last x))
name-opens (a ∷ name) [] last = refl
name-opens (a ∷ name) (x ∷ s) last = ap (λ (b : Bool). one_of (any_case a) x && b) (name-opens name s last)

module _ (name s : List ℕ) (i : ℕ) where
  unrolled : i < length name → i < length s → opens_name (drop i name) (drop i s) ≡ (one_of (any_case (get_or name i 0)) (get_or s i 0) && opens_name (drop (i + 1) name) (drop (i + 1) s))
  unrolled h k = rw (add-one, drop-cons name i 0 h, drop-cons s i 0 k)

  pub name-on : i < length name → i < length s → one_of (any_case (get_or name i 0)) (get_or s i 0) ≡ true → opens_name (drop i name) (drop i s) ≡ opens_name (drop (i + 1) name) (drop (i + 1) s)
  name-on h k e = unrolled h k ∙ ap (λ (b : Bool). b && opens_name (drop (i + 1) name) (drop (i + 1) s)) e

  pub name-off : i < length name → i < length s → one_of (any_case (get_or name i 0)) (get_or s i 0) ≡ false → opens_name (drop i name) (drop i s) ≡ false
  name-off h k e = unrolled h k ∙ ap (λ (b : Bool). b && opens_name (drop (i + 1) name) (drop (i + 1) s)) e

  -- The name ends first.
  pub name-past : length name ≤ i → i < length s → opens_name (drop i name) (drop i s) ≡ false
  name-past h k = rw (drop_of_length-le name h, drop-cons s i 0 k)

  -- The bytes end first, or with it.
  pub name-within : length s ≤ i → opens_name (drop i name) (drop i s) ≡ true
  name-within k = rw (drop_of_length-le s k) (go (drop i name))
    where
      go : (l : List ℕ) → opens_name l [] ≡ true
      go [] = refl
      go (a ∷ l) = refl

-- The three tests of the code are those of the rule.
pub begins-tests : (s : List ℕ) → begins s ≡ (is_cut s || (opens_name (ascii "<!-") s || opens_name (ascii "</script") s))
begins-tests s = λ i. is_cut s || (sym (name-opens (ascii "<!-") s (any_case 45)) i || sym (name-opens (ascii "</script") s terminators) i)

-- ---- how many bytes are settled

module _ (t : List ℕ) (i : ℕ) where
  -- It is at least all but the last eight.
  pub settled-start : (r : ℕ) → ((k : ℕ) → length t ≤ k + 8 → r ≤ k) → settled t ≡ r + settled (drop r t)
  settled-start r h = settled-from r t (h (settled t) (settled-most t))

  -- Here begins a character or a pattern, by what follows as a call is lent it.
  pub settled_here : i < length t → true ≡ begins (take (length t - i) (drop i t)) → settled (drop i t) ≡ 0
  settled_here h e =
      let d = drop-next t i h in
      let b : begins (get_or t i 0 ∷ drop (i + 1) t) ≡ true = ap begins (sym d ∙ sym (lent-rest i t)) ∙ sym e in
      ap settled d ∙ rw b

  pub settled-next : i < length t → false ≡ begins (take (length t - i) (drop i t)) → settled (drop i t) ≡ suc (settled (drop (i + 1) t))
  settled-next h e =
      let d = drop-next t i h in
      let b : begins (get_or t i 0 ∷ drop (i + 1) t) ≡ false = ap begins (sym d ∙ sym (lent-rest i t)) ∙ sym e in
      ap settled d ∙ rw b

  -- At the end there is nothing.
  pub settled-end : length t ≤ i → settled (drop i t) ≡ 0
  settled-end h = ap settled (drop_of_length-le t h)
