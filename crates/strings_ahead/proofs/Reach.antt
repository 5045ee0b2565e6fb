-- A text that is written by moves that are known from one byte: what each byte is by itself is computed for all of them in every string, a move or a run
-- of copied bytes takes the text so far, and such steps add up.
-- Assumes nothing.
use mathlib.Core.Bool.{Bool, true, false, not, ◌&&◌, ◌||◌, cond}
use mathlib.Core.Path.{◌≡◌, refl, sym, ap, ◌∙◌, subst}
use mathlib.Core.List.{List, [], ◌∷◌, ◌++◌}
use Prim.Native.Nat.{ℕ, zero, suc, ◌+◌, ◌/◌, ◌≤◌, ◌<◌}
use native.Mathlib.Omega.{arith}
use borrow.Author.Tests.{eq-eqb, ne_eqb, lt-ltb}
use lib.Dec.{T, eqb, ltb, leb, eqb→eq, leb→le}
use lib.ListN.{length, take, drop, get_or, length-append, length-drop}
use lib.Seq.{take_at, drop_at, drop-drop}
use Rattle.rules.specs.Bytes.{same_bytes}
use Rattle.rules.specs.Moves.{Move, takes, gives, through, result, replaced}
use Rattle.rules.specs.Contexts.{written_in}
use Rattle.rules.specs.Encoding.{encode_step}
use Rattle.rules.specs.Operations.{encode_of}
use Rattle.rules.specs.declared.Notation.{Notation}
use Rattle.rules.specs.declared.Notation.TheVariants.{Script, Style, Json}
use Rattle.rules.specs.declared.Quotes.{Quotes}
use Rattle.rules.specs.declared.Quotes.TheVariants.{Single, Double, Both}
use Rattle.rules.proofs.Tests.{and_left, and_right, same_bytes_lem}
use Rattle.rules.proofs.Below.{below}
use Rattle.rules.proofs.Blind.{blind-next, replaced-append}
use Rattle.rules.proofs.Stream.{true-false}
use Rattle.base.specs.Words.{word_of, eight}
use Rattle.encode_strings.specs.Strings.{alone, single_key, double_key}
use Rattle.strings_ahead.specs.Ahead.{word_in, copies, far_in, Reached}
use Rattle.encode_strings.proofs.Heads.{strings-ruleless, lone}
use Rattle.encode_strings.proofs.Sums.{encode-blind}

-- ---- one byte

-- What a move gives is the bytes of its word, one to seven of them.
abbrev fits : Move → Bool
fits m =
    eqb (word_of (gives m) / 0x100000000000000) (length (gives m))
    && same_bytes (take (length (gives m)) (eight (word_of (gives m)))) (gives m)
    && (leb 1 (length (gives m)) && leb (length (gives m)) 7)

-- It takes one byte, which is replaced unless it is copied, and then that byte is given. E2 is left out.
abbrev takes_one : Notation → Quotes → ℕ → Bool
takes_one notation quotes b =
    eqb (length (takes (alone notation quotes b))) 1
    && (eqb b 0xE2 || eqb (replaced (alone notation quotes b ∷ [])) (cond (copies notation quotes b) 0 1))
    && (not (copies notation quotes b) || (not (eqb b 0xE2) && same_bytes (gives (alone notation quotes b)) (b ∷ [])))

-- A byte that is far from all that is escaped is copied.
abbrev far_copies : Notation → Quotes → ℕ → Bool
far_copies notation quotes b = not (ltb 0 (far_in (single_key notation quotes) (double_key notation quotes) b)) || copies notation quotes b

abbrev sound : Notation → Quotes → ℕ → Bool
sound notation quotes b = fits (alone notation quotes b) && takes_one notation quotes b && far_copies notation quotes b

all_sound : (notation : Notation) (q : Quotes) (b : ℕ) → b < 256 → T (sound notation q b)
unfolding encode_step copies word_in word_of
all_sound Script Single = below (sound Script Single) 256 tt
all_sound Script Double = below (sound Script Double) 256 tt
all_sound Script Both = below (sound Script Both) 256 tt
all_sound Style Single = below (sound Style Single) 256 tt
all_sound Style Double = below (sound Style Double) 256 tt
all_sound Style Both = below (sound Style Both) 256 tt
all_sound Json Single = below (sound Json Single) 256 tt
all_sound Json Double = below (sound Json Double) 256 tt
all_sound Json Both = below (sound Json Both) 256 tt

-- A test that implies another.
implied : (x y : Bool) → T (not x || y) → x ≡ true → T y
implied true y t e = t
implied false y t e = true-false (sym e)

truth : (x : Bool) → T x → x ≡ true
truth true t = refl
truth false t = absurd t

unlike : (x y : Bool) → T (x || y) → x ≡ false → T y
unlike true y t e = true-false e
unlike false y t e = t

module _ (notation : Notation) (quotes : Quotes) (b : ℕ) (l : b < 256) where
  abbrev m : Move
  m = alone notation quotes b

  abbrev sized : Bool
  sized = eqb (word_of (gives m) / 0x100000000000000) (length (gives m))

  abbrev spelt : Bool
  spelt = same_bytes (take (length (gives m)) (eight (word_of (gives m)))) (gives m)

  abbrev bounded : Bool
  bounded = leb 1 (length (gives m)) && leb (length (gives m)) 7

  abbrev single : Bool
  single = eqb (length (takes m)) 1

  abbrev hit : Bool
  hit = eqb b 0xE2 || eqb (replaced (m ∷ [])) (cond (copies notation quotes b) 0 1)

  abbrev same : Bool
  same = not (eqb b 0xE2) && same_bytes (gives m) (b ∷ [])

  both : T (fits m && takes_one notation quotes b)
  both = and_left (fits m && takes_one notation quotes b) (far_copies notation quotes b) (all_sound notation quotes b l)

  fitting : T (sized && spelt && bounded)
  fitting = and_left (fits m) (takes_one notation quotes b) both

  taking : T (single && hit && (not (copies notation quotes b) || same))
  taking = and_right (fits m) (takes_one notation quotes b) both

  -- The highest byte of the word says how many of the others are written, and these are they.
  pub word_size : word_of (gives m) / 0x100000000000000 ≡ length (gives m)
  word_size = eqb→eq _ _ (and_left sized spelt (and_left (sized && spelt) bounded fitting))

  pub word_bytes : take (length (gives m)) (eight (word_of (gives m))) ≡ gives m
  word_bytes = same_bytes_lem _ _ (and_right sized spelt (and_left (sized && spelt) bounded fitting))

  pub word_some : (1 ≤ length (gives m)) × (length (gives m) ≤ 7)
  word_some =
      let t = and_right (sized && spelt) bounded fitting in
      (leb→le 1 _ (and_left (leb 1 (length (gives m))) (leb (length (gives m)) 7) t), leb→le _ 7 (and_right (leb 1 (length (gives m))) (leb (length (gives m)) 7) t))

  -- It takes the byte.
  pub takes_one_lem : length (takes m) ≡ 1
  takes_one_lem = eqb→eq _ _ (and_left single hit (and_left (single && hit) (not (copies notation quotes b) || same) taking))

  -- And replaces it unless it is copied.
  hit-one : (b ≡ 0xE2 → ⊥) → replaced (m ∷ []) ≡ cond (copies notation quotes b) 0 1
  hit-one n = eqb→eq _ _ (unlike (eqb b 0xE2) _ (and_right single hit (and_left (single && hit) (not (copies notation quotes b) || same) taking)) (ne_eqb b 0xE2 n))

  -- A byte that is far from all that is escaped is copied.
  pub far-copies : 0 < far_in (single_key notation quotes) (double_key notation quotes) b → copies notation quotes b ≡ true
  far-copies h =
      truth _ (implied _ _ (and_right (fits m && takes_one notation quotes b) (far_copies notation quotes b) (all_sound notation quotes b l)) (lt-ltb 0 _ h))

  -- What is known of a byte that is copied, and of one that is not.
  pub copied_byte : copies notation quotes b ≡ true → (b ≡ 0xE2 → ⊥) × (gives m ≡ b ∷ []) × (replaced (m ∷ []) ≡ 0)
  copied_byte e =
      let t = implied _ same (and_right (single && hit) (not (copies notation quotes b) || same) taking) e in
      let n : b ≡ 0xE2 → ⊥ = λ q. subst (λ (x : Bool). T (not x)) (eq-eqb b 0xE2 q) (and_left (not (eqb b 0xE2)) (same_bytes (gives m) (b ∷ [])) t) in
      (n, same_bytes_lem _ _ (and_right (not (eqb b 0xE2)) (same_bytes (gives m) (b ∷ [])) t), hit-one n ∙ rw e)

  pub escaped-byte : copies notation quotes b ≡ false → (b ≡ 0xE2 → ⊥) → replaced (m ∷ []) ≡ 1
  escaped-byte e n = hit-one n ∙ rw e

-- ---- a text

module _ (notation : Notation) (quotes : Quotes) where
  abbrev enc : List ℕ → List ℕ
  enc t = encode_of (written_in notation quotes) t

  abbrev hits : List ℕ → ℕ
  hits t = replaced (through (encode_step (written_in notation quotes)) t)

  pub reached-start : (t : List ℕ) → Reached notation quotes t 0 0 0
  reached-start t = record { inside = omega arith; next = refl; long = omega arith; many = omega arith }

  -- One move at the start of a text.
  pub reached-move : (t : List ℕ) (m : Move) (n : ℕ) → m ≡ encode_step (written_in notation quotes) 0 t → length (takes m) ≡ n → 0 < n → n ≤ length t
      → Reached notation quotes t n (length (gives m)) (replaced (m ∷ [])) × (take (length (gives m)) (enc t) ≡ gives m)
  reached-move [] m n e z p l = absurd (omega arith)
  reached-move (x ∷ s) m zero e z p l = absurd (omega arith)
  reached-move (x ∷ s) m (suc k) e z p l =
      let c = written_in notation quotes in
      let f = blind-next (encode_step c) (encode-blind c) x s k m (sym e) z in
      let g : enc (x ∷ s) ≡ gives m ++ enc (drop k s) = ap result f in (
        record {
          inside = l;
          next = ap (drop (length (gives m))) g ∙ drop_at (gives m) (enc (drop k s)) (length (gives m)) refl;
          long = sym (ap length g ∙ length-append (gives m) (enc (drop k s)));
          many = sym (ap replaced f ∙ replaced-append (m ∷ []) (through (encode_step c) (drop k s)));
        },
        ap (take (length (gives m))) g ∙ take_at (gives m) (enc (drop k s)) (length (gives m)) refl,
      )

  -- One step, and then another on what is left.
  pub reached-more : {t : List ℕ} {i n k j m l : ℕ} → Reached notation quotes t i n k → Reached notation quotes (drop i t) j m l → Reached notation quotes t (i + j) (n + m) (k + l)
  reached-more {t} {i} {n} {k} {j} {m} {l} f g =
      let d : drop j (drop i t) ≡ drop (i + j) t = drop-drop j i t in
      record {
        inside = omega (arith, f.inside, g.inside, length-drop i t);
        next = sym (drop-drop m n (enc t)) ∙ ap (drop m) f.next ∙ g.next ∙ ap enc d;
        long = omega (arith, f.long, g.long, ap (λ (s : List ℕ). length (enc s)) d);
        many = omega (arith, f.many, g.many, ap hits d);
      }

  -- The first byte is copied.
  copied-first : (b : ℕ) (s : List ℕ) → b < 256 → copies notation quotes b ≡ true → (enc (b ∷ s) ≡ b ∷ enc s) × (hits (b ∷ s) ≡ hits s)
  copied-first b s l e =
      let c = written_in notation quotes in
      let m = alone notation quotes b in
      let k = copied_byte notation quotes b l e in
      let f = blind-next (encode_step c) (encode-blind c) b s 0 m (lone c (strings-ruleless notation quotes) 0 b s k.0) (takes_one_lem notation quotes b l) in
      (ap result f ∙ rw k.1, ap replaced f ∙ replaced-append (m ∷ []) (through (encode_step c) s) ∙ rw k.2 (omega arith))

  -- A run of bytes that are copied.
  pub reached-run : (t : List ℕ) (n : ℕ) → n ≤ length t → ((i : ℕ) → i < n → (get_or t i 0 < 256) × (copies notation quotes (get_or t i 0) ≡ true))
      → Reached notation quotes t n n 0 × (take n (enc t) ≡ take n t)
  reached-run t zero h f = (reached-start t, refl)
  reached-run [] (suc n) h f = absurd (omega arith)
  reached-run (b ∷ s) (suc n) h f =
      let first = f 0 (omega arith) in
      let a = copied-first b s first.0 first.1 in
      let r = reached-run s n (omega arith) (λ i l. f (suc i) (omega arith)) in (
        record {
          inside = h;
          next = ap (drop (suc n)) a.0 ∙ r.0.next;
          long = omega (arith, r.0.long, ap length a.0);
          many = omega (arith, r.0.many, a.1);
        },
        ap (take (suc n)) a.0 ∙ ap (λ (w : List ℕ). b ∷ w) r.1,
      )
