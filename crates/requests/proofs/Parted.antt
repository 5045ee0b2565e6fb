-- The lines that are printed, part after part.
-- Assumes nothing.
use mathlib.Core.Path.{◌≡◌, refl, sym, ap, ◌∙◌, subst}
use mathlib.Core.List.{List, [], ◌++◌, append_assoc, append-nil}
use Prim.Native.Nat.{ℕ, ◌+◌, ◌≤◌}
use native.Mathlib.Omega.{arith}
use lib.ListN.{length, drop, length-append, length-drop}
use Rattle.rules.specs.Bytes.{ascii, over}
use Rattle.rules.specs.Program.{decimal, printed}
use Rattle.rules.specs.declared.Answer.{Answer}
use Rattle.requests.specs.Asked.{first_lines}
use Rattle.requests.proofs.Digits.{digits-length}
use Rattle.base.proofs.Filled.{Filled, Next, filled-start, filled_more}

-- The first part is written over the start of the output.
pub filled-first : (w rest out₀ out : List ℕ) (n : ℕ) → length (w ++ rest) ≤ length out₀ → n ≡ length w → out ≡ over w out₀ → Filled (w ++ rest) rest out₀ out n
filled-first w rest out₀ out n h e p =
    let z : 0 + length w ≡ n = omega (arith, e) in
    subst (λ (m : ℕ). Filled (w ++ rest) rest out₀ out m) z (filled_more w rest out (filled-start (w ++ rest) out₀ h) refl p)

-- The last part is all that is left.
pub last-part : (w : List ℕ) → Next w w []
last-part w = record { next = sym (append-nil w) }

-- What is written over the start of an output that keeps its length is no longer than it.
pub over-within : (w out₀ out : List ℕ) → out ≡ over w out₀ → length out ≡ length out₀ → length w ≤ length out₀
over-within w out₀ out e k = omega (arith, k, ap length e ∙ length-append w (drop (length w) out₀), length-drop (length w) out₀)

-- A part and then the others.
pub next-part : (w rest : List ℕ) → Next (w ++ rest) w rest
next-part w rest = record { next = refl }

-- ---- an answer: five numbers with their names, and the name of the text

abbrev pub status_part : Answer → List ℕ
status_part a = ascii "status=" ++ decimal a.status

abbrev pub length_part : Answer → List ℕ
length_part a = ascii "\nlength=" ++ decimal a.length

abbrev pub same_part : Answer → List ℕ
same_part a = ascii "\nsame=" ++ decimal a.same

abbrev pub replaced_part : Answer → List ℕ
replaced_part a = ascii "\nreplaced=" ++ decimal a.replaced

abbrev pub place_part : Answer → List ℕ
place_part a = ascii "\nplace=" ++ decimal a.place

abbrev pub text_part : List ℕ
text_part = ascii "\ntext="

-- The parts, each before all that come after it: of the first three lines, and of all.
abbrev pub first_parts : Answer → List ℕ
first_parts a = status_part a ++ (length_part a ++ same_part a)

abbrev pub parts : Answer → List ℕ
parts a = first_lines a ++ (replaced_part a ++ (place_part a ++ text_part))

six : (a b c d e f : List ℕ) → (a ++ b) ++ ((c ++ d) ++ (e ++ f)) ≡ a ++ b ++ c ++ d ++ e ++ f
six a b c d e f = simp append_assoc

eleven : (a b c d e f g h i j k : List ℕ) → (a ++ b ++ c ++ d ++ e ++ f) ++ ((g ++ h) ++ ((i ++ j) ++ k)) ≡ a ++ b ++ c ++ d ++ e ++ f ++ g ++ h ++ i ++ j ++ k ++ []
eleven a b c d e f g h i j k = simp (append_assoc, append-nil)

-- They are the lines.
pub first-parts : (a : Answer) → first_parts a ≡ first_lines a
first-parts a = six (ascii "status=") (decimal a.status) (ascii "\nlength=") (decimal a.length) (ascii "\nsame=") (decimal a.same)

pub printed-parts : (a : Answer) → parts a ≡ printed a []
printed-parts a =
    eleven (ascii "status=") (decimal a.status) (ascii "\nlength=") (decimal a.length) (ascii "\nsame=") (decimal a.same) (ascii "\nreplaced=") (decimal a.replaced)
    (ascii "\nplace=") (decimal a.place) text_part

number-room : (name : List ℕ) (n : ℕ) → length (name ++ decimal n) ≤ length name + 20
number-room name n = omega (arith, length-append name (decimal n), digits-length 20 n)

-- The first lines take at most 81 bytes: 21 of names, and three times twenty digits.
pub first-room : (a : Answer) → length (first_parts a) ≤ 81
first-room a =
    omega (
      arith,
      length-append (status_part a) (length_part a ++ same_part a),
      length-append (length_part a) (same_part a),
      number-room (ascii "status=") a.status,
      number-room (ascii "\nlength=") a.length,
      number-room (ascii "\nsame=") a.same,
    )

-- All take at most 144: 23 of names more, and two numbers.
pub parts-room : (a : Answer) → length (parts a) ≤ 144
parts-room a =
    omega (
      arith,
      length-append (first_lines a) (replaced_part a ++ (place_part a ++ text_part)),
      ap length (first-parts a),
      first-room a,
      length-append (replaced_part a) (place_part a ++ text_part),
      length-append (place_part a) text_part,
      number-room (ascii "\nreplaced=") a.replaced,
      number-room (ascii "\nplace=") a.place,
    )

after : (p t : List ℕ) → p ++ t ≡ (p ++ []) ++ t
after p t = ap (λ (l : List ℕ). l ++ t) (sym (append-nil p))

-- The text stands after the lines.
pub printed-text : (a : Answer) (t : List ℕ) → printed a t ≡ printed a [] ++ t
printed-text a t =
    after (ascii "status=" ++ decimal a.status ++ ascii "\nlength=" ++ decimal a.length ++ ascii "\nsame=" ++ decimal a.same ++ ascii "\nreplaced=" ++ decimal a.replaced ++ ascii "\nplace=" ++ decimal a.place ++ text_part) t
