-- RULES 17, of section 20: each escaped pattern and each kind of sequence cut at every place, with how many bytes are held there; and calls in states of
-- every kind, with their answers and the states after them.
-- Assumes nothing.
use Rattle.std.specs.Prelude.{Bool, true, false, ◌&&◌, cond, List, [], ◌∷◌, ◌++◌, map, ℕ, suc, eqb, length as size, take, drop}
use Rattle.rules.specs.Bytes.{ascii, all, count, same_bytes}
use Rattle.rules.specs.Moves.{result}
use Rattle.rules.specs.Operations.{raw_of}
use Rattle.rules.specs.Stream.{held, settled_moves, started, holding, held_in, PartCall, part_case, part_answer, part_state, part_call}
use Rattle.rules.specs.declared.Answer.{Answer}
use Rattle.rules.specs.declared.RawState.{RawState}

-- ---- texts cut at every place

-- A text, how many bytes are held after each number of its bytes from 0 on, and what script_raw writes of it.
abbrev pub Cut : Type 0
Cut = List ℕ × List ℕ × List ℕ

-- What two parts and then finish write, where the first part has n bytes.
abbrev pub in_two : List ℕ → ℕ → List ℕ
in_two t n =
    let rest = held (take n t) ++ drop n t in
    result (settled_moves (take n t)) ++ result (settled_moves rest) ++ raw_of (held rest)

abbrev pub cut_as : Cut → Bool
cut_as c =
    let places = count 0 (suc (size c.0)) in
    same_bytes (map (λ (n : ℕ). size (held (take n c.0))) places) c.1 && all (λ (n : ℕ). same_bytes (in_two c.0 n) c.2) places

-- A text that is written as it is.
abbrev kept : List ℕ → List ℕ → Cut
kept t ns = (t, ns, t)

abbrev pub patterns : List Cut
patterns =
    (ascii "<!--", 0 ∷ 1 ∷ 2 ∷ 3 ∷ 0 ∷ [], ascii "<\\!--")
    ∷ (ascii "<!-<!---", 0 ∷ 1 ∷ 2 ∷ 3 ∷ 1 ∷ 2 ∷ 3 ∷ 0 ∷ 0 ∷ [], ascii "<!-<\\!---")
    ∷ (ascii "</script>", count 0 9 ++ 0 ∷ [], ascii "<\\/script>")
    ∷ (ascii "</SCRIPT/", count 0 9 ++ 0 ∷ [], ascii "<\\/SCRIPT/")
    ∷ (ascii "</ScRiPt ", count 0 9 ++ 0 ∷ [], ascii "<\\/ScRiPt ")
    ∷ (ascii "</script" ++ 9 ∷ [], count 0 9 ++ 0 ∷ [], ascii "<\\/script" ++ 9 ∷ [])
    ∷ (ascii "</script" ++ 13 ∷ [], count 0 9 ++ 0 ∷ [], ascii "<\\/script" ++ 13 ∷ [])
    ∷ (ascii "</script" ++ 28 ∷ [], count 0 9 ++ 0 ∷ [], ascii "<\\/script" ++ 28 ∷ [])
    ∷ (ascii "</script" ++ 31 ∷ [], count 0 9 ++ 0 ∷ [], ascii "<\\/script" ++ 31 ∷ [])
    ∷ (ascii "</script", count 0 9, ascii "<\\/script")
    ∷ (ascii "</s</script", 0 ∷ 1 ∷ 2 ∷ 3 ∷ count 1 8, ascii "</s<\\/script")
    ∷ (ascii "<</scripts", 0 ∷ 1 ∷ count 1 8 ++ 0 ∷ [], ascii "<</scripts")
    ∷ kept (ascii "</script" ++ 14 ∷ []) (count 0 9 ++ 0 ∷ [])
    ∷ kept (ascii "</script" ++ 27 ∷ []) (count 0 9 ++ 0 ∷ [])
    ∷ kept (ascii "</script" ++ 0xE2 ∷ 0x80 ∷ 0xA8 ∷ []) (count 0 9 ++ 1 ∷ 2 ∷ 0 ∷ [])
    ∷ kept (ascii "</scrypt") (0 ∷ 1 ∷ 2 ∷ 3 ∷ 4 ∷ 5 ∷ 0 ∷ 0 ∷ 0 ∷ [])
    ∷ kept (ascii "<!-x") (0 ∷ 1 ∷ 2 ∷ 3 ∷ 0 ∷ [])
    ∷ kept (ascii "<!x") (0 ∷ 1 ∷ 2 ∷ 0 ∷ [])
    ∷ kept (ascii "<x<") (0 ∷ 1 ∷ 0 ∷ 1 ∷ [])
    ∷ kept (ascii "!--/script>") (0 ∷ map (λ (n : ℕ). 0) (ascii "!--/script>"))
    ∷ kept [] (0 ∷ [])
    ∷ []

-- The first and the last character of each sequence, and bytes that are in none.
abbrev pub sequence_cuts : List Cut
sequence_cuts =
    kept (0x00 ∷ 0x7F ∷ []) (0 ∷ 0 ∷ 0 ∷ [])
    ∷ kept (0xC2 ∷ 0x80 ∷ 0xDF ∷ 0xBF ∷ []) (0 ∷ 1 ∷ 0 ∷ 1 ∷ 0 ∷ [])
    ∷ kept (0xE0 ∷ 0xA0 ∷ 0x80 ∷ 0xE0 ∷ 0xBF ∷ 0xBF ∷ []) (0 ∷ 1 ∷ 2 ∷ 0 ∷ 1 ∷ 2 ∷ 0 ∷ [])
    ∷ kept (0xE1 ∷ 0x80 ∷ 0x80 ∷ 0xEC ∷ 0xBF ∷ 0xBF ∷ []) (0 ∷ 1 ∷ 2 ∷ 0 ∷ 1 ∷ 2 ∷ 0 ∷ [])
    ∷ kept (0xED ∷ 0x80 ∷ 0x80 ∷ 0xED ∷ 0x9F ∷ 0xBF ∷ []) (0 ∷ 1 ∷ 2 ∷ 0 ∷ 1 ∷ 2 ∷ 0 ∷ [])
    ∷ kept (0xEE ∷ 0x80 ∷ 0x80 ∷ 0xEF ∷ 0xBF ∷ 0xBF ∷ []) (0 ∷ 1 ∷ 2 ∷ 0 ∷ 1 ∷ 2 ∷ 0 ∷ [])
    ∷ kept (0xF0 ∷ 0x90 ∷ 0x80 ∷ 0x80 ∷ 0xF0 ∷ 0xBF ∷ 0xBF ∷ 0xBF ∷ []) (0 ∷ 1 ∷ 2 ∷ 3 ∷ 0 ∷ 1 ∷ 2 ∷ 3 ∷ 0 ∷ [])
    ∷ kept (0xF1 ∷ 0x80 ∷ 0x80 ∷ 0x80 ∷ 0xF3 ∷ 0xBF ∷ 0xBF ∷ 0xBF ∷ []) (0 ∷ 1 ∷ 2 ∷ 3 ∷ 0 ∷ 1 ∷ 2 ∷ 3 ∷ 0 ∷ [])
    ∷ kept (0xF4 ∷ 0x80 ∷ 0x80 ∷ 0x80 ∷ 0xF4 ∷ 0x8F ∷ 0xBF ∷ 0xBF ∷ []) (0 ∷ 1 ∷ 2 ∷ 3 ∷ 0 ∷ 1 ∷ 2 ∷ 3 ∷ 0 ∷ [])
    ∷ kept (0x80 ∷ 0xBF ∷ 0xC0 ∷ 0xC1 ∷ 0xF5 ∷ 0xFF ∷ []) (0 ∷ 0 ∷ 0 ∷ 0 ∷ 0 ∷ 0 ∷ 0 ∷ [])
    ∷ kept (0xE0 ∷ 0x9F ∷ 0xED ∷ 0xA0 ∷ 0xF0 ∷ 0x8F ∷ 0xF4 ∷ 0x90 ∷ []) (0 ∷ 1 ∷ 0 ∷ 1 ∷ 0 ∷ 1 ∷ 0 ∷ 1 ∷ 0 ∷ [])
    ∷ kept (0xE2 ∷ 0x80 ∷ 0x3C ∷ 0x2F ∷ 0xE2 ∷ 0x82 ∷ 0xAC ∷ []) (0 ∷ 1 ∷ 2 ∷ 1 ∷ 2 ∷ 1 ∷ 2 ∷ 0 ∷ [])
    ∷ []

-- ---- calls

-- A call, and what it answers (status, length, same, replaced, place), what is held after it, how many bytes are taken, and whether it is finished.
abbrev pub Called : Type 0
Called = PartCall × List ℕ × List ℕ × ℕ × Bool

abbrev numbers : Answer → List ℕ
numbers a = a.status ∷ a.length ∷ a.same ∷ a.replaced ∷ a.place ∷ []

abbrev same_bool : Bool → Bool → Bool
same_bool a b = cond a b (cond b false true)

abbrev pub called_as : Called → Bool
called_as c =
    let k = c.0 in
    let s = part_state (part_case k) k in
    same_bytes (numbers (part_answer (part_case k) k)) c.1 && (same_bytes (held_in s) c.2 && (eqb s.done c.3 && same_bool s.finished c.4))

-- A call of a part, and one of finish, in the state that holds h after n bytes, with some room.
abbrev part_in : List ℕ → ℕ → List ℕ → ℕ → PartCall
part_in h n t room = record { last = false; state = holding h n false; joined = h ++ t; room = room }

abbrev finish_in : List ℕ → ℕ → ℕ → PartCall
finish_in h n room = record { last = true; state = holding h n false; joined = h; room = room }

-- Forged states: finished with bytes held, and a count above eight.
abbrev ended : PartCall → PartCall
ended k = record { last = k.last; state = holding (ascii "<") 70000 true; joined = ascii "<"; room = 0 }

abbrev overfull : RawState
overfull = record { held = ascii "abcdefg<"; count = 200; done = 3; finished = false }

abbrev pub calls : List Called
calls =
    (part_call false started (ascii "ab") (0 ∷ 0 ∷ []), 0 ∷ 2 ∷ 0 ∷ 0 ∷ 0 ∷ [], [], 2, false)
    ∷ (part_in [] 0 [] 0, 0 ∷ 0 ∷ 0 ∷ 0 ∷ 0 ∷ [], [], 0, false)
    ∷ (part_in [] 0 (ascii "a<") 1, 0 ∷ 1 ∷ 0 ∷ 0 ∷ 0 ∷ [], ascii "<", 1, false)
    ∷ (part_in (ascii "<") 5 (ascii "!--") 4, 3 ∷ 5 ∷ 0 ∷ 0 ∷ 0 ∷ [], ascii "<", 5, false)
    ∷ (part_in (ascii "<") 5 (ascii "!--") 5, 0 ∷ 5 ∷ 0 ∷ 1 ∷ 0 ∷ [], [], 9, false)
    ∷ (part_in (ascii "</SCRIPT") 5 (ascii ">") 10, 0 ∷ 10 ∷ 0 ∷ 1 ∷ 0 ∷ [], [], 14, false)
    ∷ (part_in (ascii "</script") 5 (0xE2 ∷ []) 8, 0 ∷ 8 ∷ 0 ∷ 0 ∷ 0 ∷ [], 0xE2 ∷ [], 13, false)
    ∷ (part_in (0xE2 ∷ 0x82 ∷ []) 7 (0xAC ∷ []) 3, 0 ∷ 3 ∷ 0 ∷ 0 ∷ 0 ∷ [], [], 10, false)
    ∷ (part_in (0xE2 ∷ []) 7 (ascii "a") 9, 2 ∷ 0 ∷ 0 ∷ 0 ∷ 7 ∷ [], 0xE2 ∷ [], 7, false)
    ∷ (part_in [] 7 (ascii "ab" ++ 0xFF ∷ []) 0, 2 ∷ 0 ∷ 0 ∷ 0 ∷ 9 ∷ [], [], 7, false)
    ∷ (part_in (0xC3 ∷ []) 65534 (0xA9 ∷ []) 2, 0 ∷ 2 ∷ 0 ∷ 0 ∷ 0 ∷ [], [], 65536, false)
    ∷ (part_in (0xC3 ∷ []) 65535 (0xFF ∷ []) 0, 1 ∷ 0 ∷ 0 ∷ 0 ∷ 0 ∷ [], 0xC3 ∷ [], 65535, false)
    ∷ (part_in [] 65537 [] 0, 1 ∷ 0 ∷ 0 ∷ 0 ∷ 0 ∷ [], [], 65537, false)
    ∷ (part_in (ascii "ab") 0 (ascii "c") 3, 0 ∷ 3 ∷ 0 ∷ 0 ∷ 0 ∷ [], [], 3, false)
    ∷ (finish_in (ascii "</script") 5 8, 3 ∷ 9 ∷ 0 ∷ 0 ∷ 0 ∷ [], ascii "</script", 5, false)
    ∷ (finish_in (ascii "</script") 5 9, 0 ∷ 9 ∷ 0 ∷ 1 ∷ 0 ∷ [], [], 13, true)
    ∷ (finish_in (ascii "<!-") 5 3, 0 ∷ 3 ∷ 0 ∷ 0 ∷ 0 ∷ [], [], 8, true)
    ∷ (finish_in [] 65536 0, 0 ∷ 0 ∷ 0 ∷ 0 ∷ 0 ∷ [], [], 65536, true)
    ∷ (finish_in (0xF0 ∷ 0x9F ∷ 0x92 ∷ []) 5 0, 7 ∷ 0 ∷ 0 ∷ 0 ∷ 5 ∷ [], 0xF0 ∷ 0x9F ∷ 0x92 ∷ [], 5, false)
    ∷ (finish_in (0x80 ∷ []) 5 0, 2 ∷ 0 ∷ 0 ∷ 0 ∷ 5 ∷ [], 0x80 ∷ [], 5, false)
    ∷ (finish_in (0xC3 ∷ []) 65536 0, 1 ∷ 0 ∷ 0 ∷ 0 ∷ 0 ∷ [], 0xC3 ∷ [], 65536, false)
    ∷ (ended (part_in [] 0 [] 0), 9 ∷ 0 ∷ 0 ∷ 0 ∷ 0 ∷ [], ascii "<", 70000, true)
    ∷ (ended (finish_in [] 0 0), 9 ∷ 0 ∷ 0 ∷ 0 ∷ 0 ∷ [], ascii "<", 70000, true)
    ∷ (part_call false overfull (ascii "!--") (map (λ (n : ℕ). 0) (count 0 12)), 0 ∷ 12 ∷ 0 ∷ 1 ∷ 0 ∷ [], [], 14, false)
    ∷ []
