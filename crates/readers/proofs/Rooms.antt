-- What is written of a short valid text to a room of its own tells its outcome: the text is read as a whole, and the room begins with the result.
-- Assumes nothing.
use mathlib.Core.Path.{◌≡◌, sym, ap, ◌∙◌}
use mathlib.Core.List.{List}
use Prim.Native.Nat.{ℕ, ◌≤◌}
use native.Mathlib.Omega.{arith}
use lib.ListN.{length as size, take, drop, length-append}
use lib.Seq.{take-append_seam}
use Rattle.rules.specs.Bytes.{over}
use Rattle.rules.specs.Moves.{first_of, through}
use Rattle.rules.specs.Utf8.{valid_to}
use Rattle.rules.specs.Answers.{Measures, whole as whole_of}
use Rattle.rules.specs.Reading.{read_step}
use Rattle.rules.specs.Operations.{read_of}
use Rattle.rules.specs.declared.Context.{Context}
use Rattle.rules.specs.declared.Measured.{Measured}
use Rattle.rules.proofs.Laws.{read_length, form-within}
use Rattle.rules.proofs.Reasons.{no-lefts, read-leaveless}
use Rattle.outcomes.specs.Outcomes.{Whole}

module _ (c : Context) (t : List ℕ) (short : size t ≤ 64) where
  -- The result has room in as many bytes as the text.
  pub fits : size (read_of c t) ≤ 64
  fits = omega (arith, short, read_length c t, form-within c t)

  module _ (found : Measured) (m : Measures found (through (read_step c) t)) where
    -- A text that is read to its end is read as a whole.
    pub whole : valid_to t ≡ size t → size t ≤ found.place → Whole (through (read_step c) t) t
    whole valid h = (omega (arith, short), valid, omega (arith, h, m.reach, form-within c t))

    -- The measure, in the words of an outcome: the strict reader leaves nothing as it is.
    pub measured : size t ≤ found.place → Measures (whole_of found.length (size t) found.replaced) (through (read_step c) t)
    measured h =
        record {
          long = m.long;
          reach = omega (arith, h, m.reach, form-within c t);
          many = m.many;
          first = sym (ap first_of (no-lefts (read_step c) (read-leaveless c) 0 0 0 t));
        }

    module _ (out room : List ℕ) (e : room ≡ over (read_of c t) out) where
      -- The room begins with the result.
      pub head : take found.length room ≡ read_of c t
      head = rw (e, m.long) (take-append_seam (read_of c t) (drop (size (read_of c t)) out))

      pub reaches : found.length ≤ size room
      reaches = rw (e, length-append (read_of c t) (drop (size (read_of c t)) out)) (omega (arith, m.long))

      pub head-size : found.length ≡ size (take found.length room)
      head-size = m.long ∙ sym (ap size head)
