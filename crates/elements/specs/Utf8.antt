-- RFC 3629, section 4, "Syntax of UTF-8 Byte Sequences": its rules, of the bytes of c from place i on.
use Rattle.std.specs.Prelude.{ℕ, ◌+◌, List, Bool, ◌&&◌, ◌||◌, length, get_or, ltb, leb}
use Rattle.elements.specs.Choice.{pick}

-- %xLL-HH: the byte at i is there, and from l to h
abbrev pub byte : ℕ → ℕ → List ℕ → ℕ → Bool
byte l h c i = ltb i (length c) && (leb l (get_or c i 0) && leb (get_or c i 0) h)

-- UTF8-tail = %x80-BF
abbrev pub utf8_tail : List ℕ → ℕ → Bool
utf8_tail c i = byte 0x80 0xbf c i

-- UTF8-1 = %x00-7F
unfoldable pub utf8_1 : List ℕ → ℕ → Bool
utf8_1 c i = byte 0x00 0x7f c i

-- UTF8-2 = %xC2-DF UTF8-tail, where first tests the first byte; so below
abbrev pub two : (ℕ → ℕ → Bool) → List ℕ → ℕ → Bool
two first c i = first 0xc2 0xdf && utf8_tail c (i + 1)

unfoldable pub utf8_2 : List ℕ → ℕ → Bool
utf8_2 c i = two (λ l h. byte l h c i) c i

-- UTF8-3 = %xE0 %xA0-BF UTF8-tail / %xE1-EC 2( UTF8-tail ) / %xED %x80-9F UTF8-tail / %xEE-EF 2( UTF8-tail )
abbrev pub three : (ℕ → ℕ → Bool) → List ℕ → ℕ → Bool
three first c i =
    (first 0xe0 0xe0 && (byte 0xa0 0xbf c (i + 1) && utf8_tail c (i + 2))) ||
    ((first 0xe1 0xec && (utf8_tail c (i + 1) && utf8_tail c (i + 2))) ||
    ((first 0xed 0xed && (byte 0x80 0x9f c (i + 1) && utf8_tail c (i + 2))) ||
    (first 0xee 0xef && (utf8_tail c (i + 1) && utf8_tail c (i + 2)))))

unfoldable pub utf8_3 : List ℕ → ℕ → Bool
utf8_3 c i = three (λ l h. byte l h c i) c i

-- UTF8-4 = %xF0 %x90-BF 2( UTF8-tail ) / %xF1-F3 3( UTF8-tail ) / %xF4 %x80-8F 2( UTF8-tail )
abbrev pub four : (ℕ → ℕ → Bool) → List ℕ → ℕ → Bool
four first c i =
    (first 0xf0 0xf0 && (byte 0x90 0xbf c (i + 1) && (utf8_tail c (i + 2) && utf8_tail c (i + 3)))) ||
    ((first 0xf1 0xf3 && (utf8_tail c (i + 1) && (utf8_tail c (i + 2) && utf8_tail c (i + 3)))) ||
    (first 0xf4 0xf4 && (byte 0x80 0x8f c (i + 1) && (utf8_tail c (i + 2) && utf8_tail c (i + 3)))))

unfoldable pub utf8_4 : List ℕ → ℕ → Bool
utf8_4 c i = four (λ l h. byte l h c i) c i

-- UTF8-char = UTF8-1 / UTF8-2 / UTF8-3 / UTF8-4: how many bytes it has; 0 where there is none
unfoldable pub utf8_char : List ℕ → ℕ → ℕ
utf8_char c i = pick (utf8_1 c i) 1 (pick (utf8_2 c i) 2 (pick (utf8_3 c i) 3 (pick (utf8_4 c i) 4 0)))
