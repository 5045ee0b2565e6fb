-- How many bytes a character has, by the bounds that its number reaches.
-- Assumes nothing.
use mathlib.Core.Bool.{Bool, true, false, cond}
use mathlib.Core.Path.{◌≡◌, refl}
use Prim.Native.Nat.{ℕ, ◌+◌, ◌≤◌}
use native.Mathlib.Omega.{arith}
use borrow.Author.Tests.{ltb-true, ltb-false, le-ltb, le-leb, lt-leb}
use lib.Dec.{leb, ltb}
use lib.ListN.{length}
use Rattle.rules.specs.Utf8.{utf8}

-- One byte, and one more for each bound that a number reaches.
abbrev steps : ℕ → ℕ
steps n = 1 + cond (leb 0x80 n) 1 0 + cond (leb 0x800 n) 1 0 + cond (leb 0x10000 n) 1 0

-- So many bytes its character has.
pub utf8-length : (n : ℕ) → steps n ≡ length (utf8 n)
utf8-length n = one (ltb n 0x80) refl
  where
    three : (x : Bool) → ltb n 0x10000 ≡ x → 0x800 ≤ n → steps n ≡ length (utf8 n)
    three true e h =
        let l = ltb-true n 0x10000 e in
        rw (le-leb 0x80 n (omega arith), le-leb 0x800 n h, lt-leb 0x10000 n l, le-ltb n 0x80 (omega arith), le-ltb n 0x800 h, e)
    three false e h =
        let l = ltb-false n 0x10000 e in
        rw (le-leb 0x80 n (omega arith), le-leb 0x800 n h, le-leb 0x10000 n l, le-ltb n 0x80 (omega arith), le-ltb n 0x800 h, e)

    two : (x : Bool) → ltb n 0x800 ≡ x → 0x80 ≤ n → steps n ≡ length (utf8 n)
    two true e h =
        let l = ltb-true n 0x800 e in
        rw (le-leb 0x80 n h, lt-leb 0x800 n l, lt-leb 0x10000 n (omega arith), le-ltb n 0x80 h, e)
    two false e h = three (ltb n 0x10000) refl (ltb-false n 0x800 e)

    one : (x : Bool) → ltb n 0x80 ≡ x → steps n ≡ length (utf8 n)
    one true e =
        let l = ltb-true n 0x80 e in
        rw (lt-leb 0x80 n l, lt-leb 0x800 n (omega arith), lt-leb 0x10000 n (omega arith), e)
    one false e = two (ltb n 0x800) refl (ltb-false n 0x80 e)
