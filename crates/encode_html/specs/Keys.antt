-- The bytes that a text has none of if it is ASCII and nothing in it is replaced.
-- Assumes nothing.
use Rattle.std.specs.Prelude.{Bool, ◌||◌, cond, List, ℕ, eqb, ltb, get_or}
use Rattle.std.specs.Int.Bits.{bit_xor}
use Rattle.plain.specs.Plain.{lesser}
use Rattle.rules.specs.declared.Html.{Html}
use Rattle.encode_html.specs.Written.{only_text}
use Rattle.encode_html.specs.Gains.{grows}
use Rattle.encode_html.specs.declared.look.Keys.{Keys}

-- The byte where it grows, else `&`.
abbrev pub key_of : ℕ → ℕ → ℕ
key_of gain b = cond (eqb gain 0) 38 b

-- The keys of a context, by what grows in it.
abbrev pub keys_of : Html → Keys
keys_of h = record { text = only_text h; gt = key_of (grows h 62) 62; double = key_of (grows h 34) 34; single = key_of (grows h 39) 39; slash = key_of (grows h 47) 47 }

-- A byte above ASCII, `&`, `<`, `>` where it is a key, and where there are more keys these.
abbrev pub special : Keys → ℕ → Bool
special k b =
    cond k.text
    (ltb 127 b || eqb b 38 || eqb b 60 || eqb b k.gt)
    (ltb 127 b || eqb b 38 || eqb b 60 || eqb b k.gt || eqb b k.double || eqb b k.single || eqb b k.slash)

-- Such a byte is at place i of a text.
abbrev pub special_at : Keys → List ℕ → ℕ → Bool
special_at k t i = special k (get_or t i 0)

-- 0 where the byte is `&`, `<` or a key: the least of its differences from them, bit by bit.
abbrev pub far_of : Keys → ℕ → ℕ
far_of k b =
    lesser
    (lesser (lesser (bit_xor b 38) (bit_xor b 60)) (lesser (bit_xor b k.gt) (bit_xor b k.double)))
    (lesser (bit_xor b k.single) (bit_xor b k.slash))
