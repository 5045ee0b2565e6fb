-- RULES 24 at its edges, read off the rules by hand: zero to five layers, each HTML context, each refusal, and the order of the refusals.
-- Assumes nothing.
use Rattle.std.specs.Prelude.{Bool, List, [], ◌∷◌, ◌++◌, map, ℕ}
use Rattle.rules.specs.Bytes.{ascii, count, same_bytes}
use Rattle.repairs.specs.Repair.{repair_of}

-- The request for a stored field in a context.
abbrev pub stored : List ℕ → List ℕ → List ℕ
stored name field = ascii "context=" ++ name ++ ascii "\ntext=" ++ field

-- Bytes that are no text, with so many letters after the first.
abbrev pub unreadable : ℕ → List ℕ
unreadable n = 0x80 ∷ map (λ (b : ℕ). 0x61) (count 0 n)

-- Requests, each with what is printed for it.
abbrev pub edges : List (List ℕ × List ℕ)
edges =
    (stored (ascii "quoted") (ascii "Nan&amp;amp;s"), ascii "layers=2\ntext=Nan&amp;s")
    -- zero to five layers; after four the rest stays
    ∷ (stored (ascii "quoted") [], ascii "layers=0\ntext=")
    ∷ (stored (ascii "quoted") (ascii "Nan"), ascii "layers=0\ntext=Nan")
    ∷ (stored (ascii "quoted") (ascii "Tom &amp; Co"), ascii "layers=1\ntext=Tom &amp; Co")
    ∷ (stored (ascii "text") (ascii "&amp;amp;amp;lt;"), ascii "layers=4\ntext=&lt;")
    ∷ (stored (ascii "text") (ascii "&amp;amp;amp;"), ascii "layers=3\ntext=&amp;")
    ∷ (stored (ascii "text") (ascii "&amp;amp;amp;amp;"), ascii "layers=4\ntext=&amp;")
    ∷ (stored (ascii "text") (ascii "&amp;amp;amp;amp;amp;"), ascii "layers=4\ntext=&amp;amp;")
    -- the deepest layer ends the readings, not the shallowest
    ∷ (stored (ascii "text") (ascii "&amp;amp; &amp;"), ascii "layers=1\ntext=&amp;amp; &amp;")
    -- the other contexts
    ∷ (stored (ascii "text_minimal") (ascii "&lt;b>"), ascii "layers=1\ntext=&lt;b>")
    ∷ (stored (ascii "double_quoted") (ascii "&amp;quot;"), ascii "layers=2\ntext=&quot;")
    ∷ (stored (ascii "single_quoted") (ascii "&amp;#x27;"), ascii "layers=2\ntext=&#x27;")
    ∷ (stored (ascii "safe") (ascii "&amp;#x2F;"), ascii "layers=2\ntext=&#x2F;")
    ∷ (stored (ascii "unquoted") (ascii "a&amp;&#x23;x20&#x3B;b"), ascii "layers=2\ntext=a&#x20;b")
    ∷ (stored (ascii "ascii_quoted") (ascii "&amp;eacute; &amp;"), ascii "layers=1\ntext=&amp;eacute; &amp;")
    ∷ (stored (ascii "ascii_quoted") (ascii "&amp;amp;eacute;"), ascii "layers=3\ntext=&eacute;")
    -- no form; not UTF-8; cut short; too long
    ∷ (stored (ascii "quoted") (ascii "AT&T"), ascii "status=4\n")
    ∷ (stored (ascii "text_minimal") (ascii "&gt;"), ascii "status=4\n")
    ∷ (stored (ascii "ascii_quoted") (ascii "&copy;"), ascii "status=4\n")
    ∷ (stored (ascii "ascii_quoted") (0xC3 ∷ 0xA9 ∷ []), ascii "status=4\n")
    ∷ (stored (ascii "quoted") (0x61 ∷ 0xC3 ∷ 0x28 ∷ []), ascii "status=2\n")
    ∷ (stored (ascii "quoted") (0x26 ∷ 0xC3 ∷ []), ascii "status=7\n")
    ∷ (stored (ascii "quoted") (unreadable 8191), ascii "status=2\n")
    ∷ (stored (ascii "quoted") (unreadable 8192), ascii "status=1\n")
    -- no HTML context, which goes before the length
    ∷ (stored (ascii "script_quoted") (ascii "a"), ascii "status=5\n")
    ∷ (stored (ascii "style_single") (unreadable 8192), ascii "status=5\n")
    ∷ (stored (ascii "script_raw") (ascii "a"), ascii "status=5\n")
    ∷ (stored (ascii "json") (ascii "a"), ascii "status=5\n")
    -- no request
    ∷ ([], ascii "status=6\n")
    ∷ (ascii "op=read\ncontext=quoted\ntext=a", ascii "status=6\n")
    ∷ (ascii "context=quoted\r\ntext=a", ascii "status=6\n")
    ∷ (ascii "context=quoted\nTEXT=a", ascii "status=6\n")
    ∷ (stored (ascii "quote") (ascii "a"), ascii "status=6\n")
    ∷ []

-- That is what is printed.
abbrev pub repairs : List ℕ × List ℕ → Bool
repairs e = same_bytes (repair_of e.0) e.1
