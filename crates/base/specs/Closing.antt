-- The name of a closing tag at the head of a text, byte by byte.
-- Assumes nothing.
use Rattle.std.specs.Prelude.{Bool, false, ◌&&◌, List, [], ◌∷◌, ℕ}
use Rattle.rules.specs.Bytes.{one_of}
use Rattle.rules.specs.Encoding.{any_case, terminators}

-- The bytes of the name in either letter case stand at the head of s, and then a terminator, or the end where it counts.
abbrev pub named : Bool → List ℕ → List ℕ → Bool
named last [] [] = last
named last [] (b ∷ s) = one_of terminators b
named last (a ∷ name) [] = false
named last (a ∷ name) (b ∷ s) = one_of (any_case a) b && named last name s
