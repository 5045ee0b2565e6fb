-- RULES 28.1. Places: where a written form is put, in the words of the place's standard. A place is a rule of the one machine of moves: what it holds is
-- the result, and where it is left the rule stops.
-- Assumes nothing.
use Rattle.std.specs.Prelude.{Bool, true, false, not, cond, List, [], ◌∷◌, map, ℕ, zero, suc, eqb, length, take}
use Rattle.std.proofs.Math.Option.{Option, none, some}
use Rattle.rules.specs.Bytes.{is, bytes, only, first, fits, one_of}
use Rattle.rules.specs.Moves.{Move, keep, swap, stop, Rule}
use Rattle.rules.specs.Utf8.{substitute}
use Rattle.rules.specs.Encoding.{keep_byte}
use Rattle.rules.specs.Browsing.{reference_at, at_amp}
use Rattle.rules.specs.declared.Kind.{Kind}

-- ---- a place is a table

-- What a place does at some bytes: it is left; or the first n of them stand for others.
pub data Effect : Type 0 where
  leaves : Effect
  means : ℕ → (List ℕ → List ℕ) → Effect

-- A pattern, a set for each byte, and what the place does where it stands.
abbrev pub Entry : Type 0
Entry = List (List ℕ) × Effect

-- A place: the kind of references that it reads, if any; its entries; and the bytes that its value cannot begin with (where there are any, it cannot be
-- empty either).
pub record Place : Type 0 where
  pub references : Option Kind
  pub entries : List Entry
  pub never : List ℕ

-- The first entry whose pattern stands at the head of s.
abbrev pub entry_at : List Entry → List ℕ → Option Entry
entry_at es s = first (λ (e : Entry). fits one_of e.0) es s

-- The move of an effect.
abbrev pub act : Effect → List ℕ → Move
act leaves s = stop 4
act (means n f) s = swap (take n s) (f (take n s))

-- The move of an entry; where there is none, one byte is kept.
abbrev pub act_on : Option Entry → List ℕ → Move
act_on none s = keep_byte s
act_on (some e) s = act e.1 s

-- The byte is an `&`, and references are read.
abbrev pub refers : Option Kind → ℕ → Bool
refers none b = false
refers (some kind) b = is "&" b

-- At an `&`: what browse does there.
abbrev pub after_amp : Option Kind → List ℕ → Move
after_amp none s = keep (38 ∷ [])
after_amp (some kind) s = at_amp (reference_at kind s)

-- The rule of a place: a reference; or the first entry that stands here; or one byte is kept.
unfoldable pub place_step : Place → Rule
place_step p prev [] = stop 4
place_step p prev (b ∷ s) = cond (refers p.references b) (after_amp p.references s) (act_on (entry_at p.entries (b ∷ s)) (b ∷ s))

-- The value begins here: where some bytes cannot be its first, another one must be.
abbrev pub begins : List ℕ → List ℕ → Bool
begins [] s = true
begins (n ∷ ns) [] = false
begins (n ∷ ns) (b ∷ s) = not (one_of (n ∷ ns) b)

-- ---- what a place does to a text by itself

-- One byte is taken, and the place stays.
abbrev pub single : Effect → Bool
single leaves = false
single (means n f) = eqb n 1

-- The place's input stage: its entries for single bytes (line ends, NUL), with no reference, no escape and no end.
abbrev pub stage : Place → Place
stage p = record { references = none; entries = only (λ (e : Entry). single e.1) p.entries; never = [] }

-- ---- entries

-- The pattern of bytes that has no choice.
abbrev pub exactly : List ℕ → List (List ℕ)
exactly bs = map (λ (b : ℕ). b ∷ []) bs

-- n times the same set.
abbrev pub times : ℕ → List ℕ → List (List ℕ)
times zero set = []
times (suc n) set = set ∷ times n set

-- Any byte.
abbrev pub any_byte : List ℕ
any_byte = bytes 0 255

-- The place is left where one of the bytes stands.
abbrev pub left_at : List ℕ → Entry
left_at set = (set ∷ [], leaves)

-- The bytes a stand for the bytes b.
abbrev pub stand_for : List ℕ → List ℕ → Entry
stand_for a b = (exactly a, means (length a) (λ (s : List ℕ). b))

-- CR LF and CR are LF: of CR LF the CR gives nothing.
abbrev pub line_ends : List Entry
line_ends = (exactly (13 ∷ 10 ∷ []), means 1 (λ (s : List ℕ). [])) ∷ stand_for (13 ∷ []) (10 ∷ []) ∷ []

-- NUL is U+FFFD.
abbrev pub nul_replaced : Entry
nul_replaced = stand_for (0 ∷ []) substitute
