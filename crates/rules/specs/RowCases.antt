-- Every row of every table, held fast: all components at their upper bounds and at their lower ones, the required ones alone,
-- and what lies one past a bound, lacks, or is not in its form.
use Rattle.std.specs.Prelude.{ℕ, zero, suc, ◌≡◌, refl, List, [], ◌∷◌, ◌++◌, map, replicate}
use Rattle.elements.specs.Put.{le32}
use Rattle.elements.specs.Length.{wrap}
use Rattle.rules.specs.declared.table.Row.{Row}
use Rattle.rules.specs.Reading.{Rec, rec}
use Rattle.rules.specs.Tables.{cia_rows, common_rows, rule_rows, key_rows, certificate_rows, authentication_rows, private_rows, password_rows, path_rows}
use Rattle.rules.specs.Book.{encode}
use Rattle.rules.specs.Computing.{Seen, book, refusal, answered, reads_rows}

-- a component as the card has it, by tag and contents
pub record Written : Type 0 where
  pub tag : ℕ
  pub contents : List ℕ

abbrev part : ℕ → List ℕ → Written
part t c = record { tag = t; contents = c }

abbrev elements : List Written → List ℕ
elements [] = []
elements (w ∷ ws) = wrap w.tag w.contents ++ elements ws

pub record Case : Type 0 where
  pub rows : List Row
  pub written : List Written
  pub answer : Seen

-- these components have these records
abbrev has : List Row → List Written → List Rec → Case
has rs ws bs = record { rows = rs; written = ws; answer = book (encode bs) }

-- these are refused, with number and place
abbrev lacks : List Row → ℕ → ℕ → List Written → Case
lacks rs n p ws = record { rows = rs; written = ws; answer = refusal n p }

-- so many of a character, by its bytes
abbrev copies : ℕ → List ℕ → List ℕ
copies zero c = []
copies (suc n) c = c ++ copies n c

-- Α, U+0391; the G clef, U+1D11E
abbrev alpha : List ℕ
alpha = 0xce ∷ 0x91 ∷ []

abbrev clef : List ℕ
clef = 0xf0 ∷ 0x9d ∷ 0x84 ∷ 0x9e ∷ []

-- 29 February 2000, 23:59:59
abbrev leap_day : List ℕ
leap_day = 50 ∷ 48 ∷ 48 ∷ 48 ∷ 48 ∷ 50 ∷ 50 ∷ 57 ∷ 50 ∷ 51 ∷ 53 ∷ 57 ∷ 53 ∷ 57 ∷ 90 ∷ []

pub table : List Case
unfolding encode wrap
table =
    -- CIAInfo: upper bounds
    has cia_rows (part 0x02 (0x00 ∷ 0xff ∷ []) ∷ part 0x04 (replicate 255 0xff) ∷ part 0x0c (copies 255 clef) ∷ part 0x80 (copies 255 clef) ∷ part 0x03 (0x07 ∷ 0x80 ∷ []) ∷ []) (rec 0x0101 (le32 255) ∷ rec 0x0102 (replicate 255 0xff) ∷ rec 0x0103 (copies 255 clef) ∷ rec 0x0104 (copies 255 clef) ∷ rec 0x0105 (le32 1) ∷ []) ∷
    -- CIAInfo: lower bounds
    has cia_rows (part 0x02 (0x00 ∷ []) ∷ part 0x04 [] ∷ part 0x0c [] ∷ part 0x80 [] ∷ part 0x03 (0x00 ∷ []) ∷ []) (rec 0x0101 (le32 0) ∷ rec 0x0102 [] ∷ rec 0x0103 [] ∷ rec 0x0104 [] ∷ rec 0x0105 (le32 0) ∷ []) ∷
    -- CIAInfo: what is required
    has cia_rows (part 0x02 (0x00 ∷ []) ∷ part 0x03 (0x00 ∷ []) ∷ []) (rec 0x0101 (le32 0) ∷ rec 0x0105 (le32 0) ∷ []) ∷
    -- version 256
    lacks cia_rows 7 0 (part 0x02 (0x01 ∷ 0x00 ∷ []) ∷ []) ∷
    -- no version
    lacks cia_rows 3 0 (part 0x03 (0x00 ∷ []) ∷ []) ∷
    -- a serialNumber of 256 bytes
    lacks cia_rows 7 3 (part 0x02 (0x00 ∷ []) ∷ part 0x04 (replicate 256 0xff) ∷ []) ∷
    -- a manufacturerID of 256 characters
    lacks cia_rows 7 3 (part 0x02 (0x00 ∷ []) ∷ part 0x0c (replicate 256 0x41) ∷ []) ∷
    -- a manufacturerID that is no text
    lacks cia_rows 65 3 (part 0x02 (0x00 ∷ []) ∷ part 0x0c (0xff ∷ []) ∷ []) ∷
    -- a label of 256 characters
    lacks cia_rows 7 3 (part 0x02 (0x00 ∷ []) ∷ part 0x80 (replicate 256 0x41) ∷ []) ∷
    -- a label that is no text
    lacks cia_rows 65 3 (part 0x02 (0x00 ∷ []) ∷ part 0x80 (0xff ∷ []) ∷ []) ∷
    -- no cardflags
    lacks cia_rows 5 3 (part 0x02 (0x00 ∷ []) ∷ []) ∷
    -- CommonObjectAttributes: upper bounds
    has common_rows (part 0x0c (copies 255 clef) ∷ part 0x03 (0x07 ∷ 0x80 ∷ []) ∷ part 0x04 (replicate 255 0xff) ∷ part 0x02 (0x7f ∷ 0xff ∷ []) ∷ []) (rec 0x0121 (copies 255 clef) ∷ rec 0x0122 (le32 1) ∷ rec 0x0123 (replicate 255 0xff) ∷ rec 0x0124 (le32 32767) ∷ []) ∷
    -- CommonObjectAttributes: lower bounds
    has common_rows (part 0x0c [] ∷ part 0x03 (0x00 ∷ []) ∷ part 0x04 [] ∷ part 0x02 (0x01 ∷ []) ∷ []) (rec 0x0121 [] ∷ rec 0x0122 (le32 0) ∷ rec 0x0123 [] ∷ rec 0x0124 (le32 1) ∷ []) ∷
    -- CommonObjectAttributes: nothing is required
    has common_rows [] [] ∷
    -- a label of 255 characters of two bytes, and of one
    has common_rows (part 0x0c (copies 255 alpha) ∷ []) (rec 0x0121 (copies 255 alpha) ∷ []) ∷
    has common_rows (part 0x0c (replicate 255 0x41) ∷ []) (rec 0x0121 (replicate 255 0x41) ∷ []) ∷
    -- a label of 256 characters of one byte, of two, and of four
    lacks common_rows 7 0 (part 0x0c (replicate 256 0x41) ∷ []) ∷
    lacks common_rows 7 0 (part 0x0c (copies 256 alpha) ∷ []) ∷
    lacks common_rows 7 0 (part 0x0c (copies 256 clef) ∷ []) ∷
    -- a label of 255 characters, and of 256, and one byte of the next: 65 comes before 7
    lacks common_rows 65 0 (part 0x0c (copies 255 alpha ++ (0xce ∷ [])) ∷ []) ∷
    lacks common_rows 65 0 (part 0x0c (copies 256 alpha ++ (0xce ∷ [])) ∷ []) ∷
    -- a label that is no text
    lacks common_rows 65 0 (part 0x0c (0xff ∷ []) ∷ []) ∷
    -- an authId of 256 bytes
    lacks common_rows 7 0 (part 0x04 (replicate 256 0xff) ∷ []) ∷
    -- userConsent 32,768
    lacks common_rows 7 0 (part 0x02 (0x00 ∷ 0x80 ∷ 0x00 ∷ []) ∷ []) ∷
    -- userConsent 0
    lacks common_rows 7 0 (part 0x02 (0x00 ∷ []) ∷ []) ∷
    -- AccessControlRule
    has rule_rows (part 0x03 (0x07 ∷ 0x80 ∷ []) ∷ []) (rec 0x0125 (le32 1) ∷ []) ∷
    -- no accessMode
    lacks rule_rows 5 0 [] ∷
    -- CommonKeyAttributes: upper bounds
    has key_rows (part 0x04 (replicate 255 0xff) ∷ part 0x03 (0x07 ∷ 0x80 ∷ []) ∷ part 0x01 (0x00 ∷ []) ∷ part 0x03 (0x07 ∷ 0x80 ∷ []) ∷ part 0x02 (0x00 ∷ 0xff ∷ []) ∷ part 0x18 leap_day ∷ part 0x80 leap_day ∷ []) (rec 0x0130 (replicate 255 0xff) ∷ rec 0x0131 (le32 1) ∷ rec 0x0132 (0x00 ∷ []) ∷ rec 0x0133 (le32 1) ∷ rec 0x0134 (le32 255) ∷ rec 0x0135 leap_day ∷ rec 0x0136 leap_day ∷ []) ∷
    -- CommonKeyAttributes: lower bounds
    has key_rows (part 0x04 [] ∷ part 0x03 (0x00 ∷ []) ∷ part 0x03 (0x00 ∷ []) ∷ part 0x02 (0x80 ∷ []) ∷ []) (rec 0x0130 [] ∷ rec 0x0131 (le32 0) ∷ rec 0x0133 (le32 0) ∷ rec 0x0134 (0x80 ∷ 0xff ∷ 0xff ∷ 0xff ∷ []) ∷ []) ∷
    -- keyReference minus 127, and 129: "two values with two encodings"; minus 1, 0, 127
    has key_rows (part 0x04 [] ∷ part 0x03 (0x00 ∷ []) ∷ part 0x02 (0x81 ∷ []) ∷ []) (rec 0x0130 [] ∷ rec 0x0131 (le32 0) ∷ rec 0x0134 (0x81 ∷ 0xff ∷ 0xff ∷ 0xff ∷ []) ∷ []) ∷
    has key_rows (part 0x04 [] ∷ part 0x03 (0x00 ∷ []) ∷ part 0x02 (0x00 ∷ 0x81 ∷ []) ∷ []) (rec 0x0130 [] ∷ rec 0x0131 (le32 0) ∷ rec 0x0134 (0x81 ∷ 0x00 ∷ 0x00 ∷ 0x00 ∷ []) ∷ []) ∷
    has key_rows (part 0x04 [] ∷ part 0x03 (0x00 ∷ []) ∷ part 0x02 (0xff ∷ []) ∷ []) (rec 0x0130 [] ∷ rec 0x0131 (le32 0) ∷ rec 0x0134 (0xff ∷ 0xff ∷ 0xff ∷ 0xff ∷ []) ∷ []) ∷
    has key_rows (part 0x04 [] ∷ part 0x03 (0x00 ∷ []) ∷ part 0x02 (0x00 ∷ []) ∷ []) (rec 0x0130 [] ∷ rec 0x0131 (le32 0) ∷ rec 0x0134 (0x00 ∷ 0x00 ∷ 0x00 ∷ 0x00 ∷ []) ∷ []) ∷
    has key_rows (part 0x04 [] ∷ part 0x03 (0x00 ∷ []) ∷ part 0x02 (0x7f ∷ []) ∷ []) (rec 0x0130 [] ∷ rec 0x0131 (le32 0) ∷ rec 0x0134 (0x7f ∷ 0x00 ∷ 0x00 ∷ 0x00 ∷ []) ∷ []) ∷
    -- CommonKeyAttributes: what is required
    has key_rows (part 0x04 [] ∷ part 0x03 (0x00 ∷ []) ∷ []) (rec 0x0130 [] ∷ rec 0x0131 (le32 0) ∷ []) ∷
    -- CommonKeyAttributes: a number in between
    has key_rows (part 0x04 [] ∷ part 0x03 (0x00 ∷ []) ∷ part 0x02 (0x01 ∷ []) ∷ []) (rec 0x0130 [] ∷ rec 0x0131 (le32 0) ∷ rec 0x0134 (le32 1) ∷ []) ∷
    -- an iD of 256 bytes
    lacks key_rows 7 0 (part 0x04 (replicate 256 0xff) ∷ []) ∷
    -- no iD
    lacks key_rows 3 0 (part 0x03 (0x00 ∷ []) ∷ []) ∷
    -- no usage
    lacks key_rows 5 2 (part 0x04 [] ∷ []) ∷
    -- native written though TRUE
    lacks key_rows 68 5 (part 0x04 [] ∷ part 0x03 (0x00 ∷ []) ∷ part 0x01 (0xff ∷ []) ∷ []) ∷
    -- keyReference minus 129; minus 127 too long in form; numbers that end in four bytes of minus 127, of 129 and of minus 2 to the 31
    lacks key_rows 7 5 (part 0x04 [] ∷ part 0x03 (0x00 ∷ []) ∷ part 0x02 (0xff ∷ 0x7f ∷ []) ∷ []) ∷
    lacks key_rows 62 5 (part 0x04 [] ∷ part 0x03 (0x00 ∷ []) ∷ part 0x02 (0xff ∷ 0x81 ∷ []) ∷ []) ∷
    lacks key_rows 7 5 (part 0x04 [] ∷ part 0x03 (0x00 ∷ []) ∷ part 0x02 (0x00 ∷ 0xff ∷ 0xff ∷ 0xff ∷ 0x81 ∷ []) ∷ []) ∷
    lacks key_rows 7 5 (part 0x04 [] ∷ part 0x03 (0x00 ∷ []) ∷ part 0x02 (0xff ∷ 0x00 ∷ 0x00 ∷ 0x00 ∷ 0x81 ∷ []) ∷ []) ∷
    lacks key_rows 7 5 (part 0x04 [] ∷ part 0x03 (0x00 ∷ []) ∷ part 0x02 (0x80 ∷ 0x00 ∷ 0x00 ∷ 0x00 ∷ []) ∷ []) ∷
    -- keyReference 256
    lacks key_rows 7 5 (part 0x04 [] ∷ part 0x03 (0x00 ∷ []) ∷ part 0x02 (0x01 ∷ 0x00 ∷ []) ∷ []) ∷
    -- a startDate that is no time
    lacks key_rows 66 5 (part 0x04 [] ∷ part 0x03 (0x00 ∷ []) ∷ part 0x18 [] ∷ []) ∷
    -- an endDate that is no time
    lacks key_rows 66 5 (part 0x04 [] ∷ part 0x03 (0x00 ∷ []) ∷ part 0x80 [] ∷ []) ∷
    -- CommonCertificateAttributes: upper bounds
    has certificate_rows (part 0x04 (replicate 255 0xff) ∷ part 0x01 (0xff ∷ []) ∷ []) (rec 0x0140 (replicate 255 0xff) ∷ rec 0x0141 (0x01 ∷ []) ∷ []) ∷
    -- CommonCertificateAttributes: what is required
    has certificate_rows (part 0x04 [] ∷ []) (rec 0x0140 [] ∷ []) ∷
    -- an iD of 256 bytes
    lacks certificate_rows 7 0 (part 0x04 (replicate 256 0xff) ∷ []) ∷
    -- no iD
    lacks certificate_rows 5 0 [] ∷
    -- authority written though FALSE
    lacks certificate_rows 68 2 (part 0x04 [] ∷ part 0x01 (0x00 ∷ []) ∷ []) ∷
    -- CommonAuthenticationObjectAttributes: upper bounds
    has authentication_rows (part 0x04 (replicate 255 0xff) ∷ part 0x02 (0x00 ∷ 0xff ∷ []) ∷ part 0x80 (0x00 ∷ 0xff ∷ []) ∷ []) (rec 0x0150 (replicate 255 0xff) ∷ rec 0x0151 (le32 255) ∷ rec 0x0152 (le32 255) ∷ []) ∷
    -- CommonAuthenticationObjectAttributes: lower bounds
    has authentication_rows (part 0x04 [] ∷ part 0x02 (0x00 ∷ []) ∷ part 0x80 (0x00 ∷ []) ∷ []) (rec 0x0150 [] ∷ rec 0x0151 (le32 0) ∷ rec 0x0152 (le32 0) ∷ []) ∷
    -- CommonAuthenticationObjectAttributes: nothing is required
    has authentication_rows [] [] ∷
    -- CommonAuthenticationObjectAttributes: numbers in between
    has authentication_rows (part 0x02 (0x01 ∷ []) ∷ part 0x80 (0x01 ∷ []) ∷ []) (rec 0x0151 (le32 1) ∷ rec 0x0152 (le32 1) ∷ []) ∷
    -- an authId of 256 bytes
    lacks authentication_rows 7 0 (part 0x04 (replicate 256 0xff) ∷ []) ∷
    -- authReference 256
    lacks authentication_rows 7 0 (part 0x02 (0x01 ∷ 0x00 ∷ []) ∷ []) ∷
    -- seIdentifier 256
    lacks authentication_rows 7 0 (part 0x80 (0x01 ∷ 0x00 ∷ []) ∷ []) ∷
    -- PrivateRSAKeyAttributes: upper bound
    has private_rows (part 0x02 (0x00 ∷ 0xff ∷ 0xff ∷ []) ∷ []) (rec 0x0183 (le32 65535) ∷ []) ∷
    -- PrivateRSAKeyAttributes: lower bound
    has private_rows (part 0x02 (0x00 ∷ []) ∷ []) (rec 0x0183 (le32 0) ∷ []) ∷
    -- modulusLength 65,536
    lacks private_rows 7 0 (part 0x02 (0x01 ∷ 0x00 ∷ 0x00 ∷ []) ∷ []) ∷
    -- no modulusLength
    lacks private_rows 5 0 [] ∷
    -- PasswordAttributes: upper bounds
    has password_rows (part 0x03 (0x07 ∷ 0x80 ∷ []) ∷ part 0x0a (0x04 ∷ []) ∷ part 0x02 (0x08 ∷ []) ∷ part 0x02 (0x40 ∷ []) ∷ part 0x02 (0x00 ∷ 0xff ∷ 0xff ∷ []) ∷ part 0x80 (0x00 ∷ 0xff ∷ []) ∷ part 0x04 (0xff ∷ []) ∷ part 0x18 leap_day ∷ []) (rec 0x0190 (le32 1) ∷ rec 0x0191 (le32 4) ∷ rec 0x0192 (le32 8) ∷ rec 0x0193 (le32 64) ∷ rec 0x0194 (le32 65535) ∷ rec 0x0195 (le32 255) ∷ rec 0x0196 (0xff ∷ []) ∷ rec 0x0197 leap_day ∷ []) ∷
    -- PasswordAttributes: lower bounds
    has password_rows (part 0x03 (0x00 ∷ []) ∷ part 0x0a (0x00 ∷ []) ∷ part 0x02 (0x04 ∷ []) ∷ part 0x02 (0x00 ∷ []) ∷ part 0x02 (0x00 ∷ []) ∷ part 0x80 (0x01 ∷ []) ∷ []) (rec 0x0190 (le32 0) ∷ rec 0x0191 (le32 0) ∷ rec 0x0192 (le32 4) ∷ rec 0x0193 (le32 0) ∷ rec 0x0194 (le32 0) ∷ rec 0x0195 (le32 1) ∷ []) ∷
    -- PasswordAttributes: what is required
    has password_rows (part 0x03 (0x00 ∷ []) ∷ part 0x0a (0x00 ∷ []) ∷ part 0x02 (0x04 ∷ []) ∷ part 0x02 (0x00 ∷ []) ∷ []) (rec 0x0190 (le32 0) ∷ rec 0x0191 (le32 0) ∷ rec 0x0192 (le32 4) ∷ rec 0x0193 (le32 0) ∷ []) ∷
    -- PasswordAttributes: numbers in between
    has password_rows (part 0x03 (0x00 ∷ []) ∷ part 0x0a (0x01 ∷ []) ∷ part 0x02 (0x05 ∷ []) ∷ part 0x02 (0x01 ∷ []) ∷ part 0x02 (0x01 ∷ []) ∷ []) (rec 0x0190 (le32 0) ∷ rec 0x0191 (le32 1) ∷ rec 0x0192 (le32 5) ∷ rec 0x0193 (le32 1) ∷ rec 0x0194 (le32 1) ∷ []) ∷
    -- no pwdFlags
    lacks password_rows 3 0 (part 0x0a (0x00 ∷ []) ∷ []) ∷
    -- no pwdType
    lacks password_rows 3 3 (part 0x03 (0x00 ∷ []) ∷ part 0x02 (0x04 ∷ []) ∷ []) ∷
    -- pwdType 5
    lacks password_rows 7 3 (part 0x03 (0x00 ∷ []) ∷ part 0x0a (0x05 ∷ []) ∷ []) ∷
    -- no minLength
    lacks password_rows 5 6 (part 0x03 (0x00 ∷ []) ∷ part 0x0a (0x00 ∷ []) ∷ []) ∷
    -- minLength 0
    lacks password_rows 7 6 (part 0x03 (0x00 ∷ []) ∷ part 0x0a (0x00 ∷ []) ∷ part 0x02 (0x00 ∷ []) ∷ []) ∷
    -- minLength 1
    lacks password_rows 7 6 (part 0x03 (0x00 ∷ []) ∷ part 0x0a (0x00 ∷ []) ∷ part 0x02 (0x01 ∷ []) ∷ []) ∷
    -- minLength 3
    lacks password_rows 7 6 (part 0x03 (0x00 ∷ []) ∷ part 0x0a (0x00 ∷ []) ∷ part 0x02 (0x03 ∷ []) ∷ []) ∷
    -- minLength 9
    lacks password_rows 7 6 (part 0x03 (0x00 ∷ []) ∷ part 0x0a (0x00 ∷ []) ∷ part 0x02 (0x09 ∷ []) ∷ []) ∷
    -- no storedLength
    lacks password_rows 5 9 (part 0x03 (0x00 ∷ []) ∷ part 0x0a (0x00 ∷ []) ∷ part 0x02 (0x04 ∷ []) ∷ []) ∷
    -- storedLength 65
    lacks password_rows 7 9 (part 0x03 (0x00 ∷ []) ∷ part 0x0a (0x00 ∷ []) ∷ part 0x02 (0x04 ∷ []) ∷ part 0x02 (0x41 ∷ []) ∷ []) ∷
    -- maxLength 65,536
    lacks password_rows 7 12 (part 0x03 (0x00 ∷ []) ∷ part 0x0a (0x00 ∷ []) ∷ part 0x02 (0x04 ∷ []) ∷ part 0x02 (0x00 ∷ []) ∷ part 0x02 (0x01 ∷ 0x00 ∷ 0x00 ∷ []) ∷ []) ∷
    -- pwdReference 256
    lacks password_rows 7 12 (part 0x03 (0x00 ∷ []) ∷ part 0x0a (0x00 ∷ []) ∷ part 0x02 (0x04 ∷ []) ∷ part 0x02 (0x00 ∷ []) ∷ part 0x80 (0x01 ∷ 0x00 ∷ []) ∷ []) ∷
    -- pwdReference written though 0
    lacks password_rows 68 12 (part 0x03 (0x00 ∷ []) ∷ part 0x0a (0x00 ∷ []) ∷ part 0x02 (0x04 ∷ []) ∷ part 0x02 (0x00 ∷ []) ∷ part 0x80 (0x00 ∷ []) ∷ []) ∷
    -- a padChar of no byte
    lacks password_rows 7 12 (part 0x03 (0x00 ∷ []) ∷ part 0x0a (0x00 ∷ []) ∷ part 0x02 (0x04 ∷ []) ∷ part 0x02 (0x00 ∷ []) ∷ part 0x04 [] ∷ []) ∷
    -- a padChar of two bytes
    lacks password_rows 7 12 (part 0x03 (0x00 ∷ []) ∷ part 0x0a (0x00 ∷ []) ∷ part 0x02 (0x04 ∷ []) ∷ part 0x02 (0x00 ∷ []) ∷ part 0x04 (0xff ∷ 0xff ∷ []) ∷ []) ∷
    -- a lastPasswordChange that is no time
    lacks password_rows 66 12 (part 0x03 (0x00 ∷ []) ∷ part 0x0a (0x00 ∷ []) ∷ part 0x02 (0x04 ∷ []) ∷ part 0x02 (0x00 ∷ []) ∷ part 0x18 [] ∷ []) ∷
    -- Path: upper bounds
    has path_rows (part 0x04 (replicate 64 0xff) ∷ part 0x02 (0x00 ∷ 0xff ∷ 0xff ∷ []) ∷ part 0x80 (0x00 ∷ 0xff ∷ 0xff ∷ []) ∷ []) (rec 0x0180 (replicate 64 0xff) ∷ rec 0x0181 (le32 65535) ∷ rec 0x0182 (le32 65535) ∷ []) ∷
    -- Path: lower bounds
    has path_rows (part 0x04 [] ∷ part 0x02 (0x00 ∷ []) ∷ part 0x80 (0x00 ∷ []) ∷ []) (rec 0x0180 [] ∷ rec 0x0181 (le32 0) ∷ rec 0x0182 (le32 0) ∷ []) ∷
    -- Path: what is required
    has path_rows (part 0x04 [] ∷ []) (rec 0x0180 [] ∷ []) ∷
    -- Path: numbers in between
    has path_rows (part 0x04 [] ∷ part 0x02 (0x01 ∷ []) ∷ part 0x80 (0x01 ∷ []) ∷ []) (rec 0x0180 [] ∷ rec 0x0181 (le32 1) ∷ rec 0x0182 (le32 1) ∷ []) ∷
    -- an efidOrPath of 65 bytes
    lacks path_rows 7 0 (part 0x04 (replicate 65 0xff) ∷ []) ∷
    -- no efidOrPath
    lacks path_rows 5 0 [] ∷
    -- index 65,536
    lacks path_rows 7 2 (part 0x04 [] ∷ part 0x02 (0x01 ∷ 0x00 ∷ 0x00 ∷ []) ∷ []) ∷
    -- length 65,536
    lacks path_rows 7 2 (part 0x04 [] ∷ part 0x80 (0x01 ∷ 0x00 ∷ 0x00 ∷ []) ∷ []) ∷
    -- minus 1 as any other number: version, userConsent, authReference, seIdentifier, modulusLength, pwdType, minLength, storedLength, maxLength, pwdReference, index, length
    lacks cia_rows 7 0 (part 0x02 (0xff ∷ []) ∷ []) ∷
    lacks common_rows 7 0 (part 0x02 (0xff ∷ []) ∷ []) ∷
    lacks authentication_rows 7 0 (part 0x02 (0xff ∷ []) ∷ []) ∷
    lacks authentication_rows 7 0 (part 0x80 (0xff ∷ []) ∷ []) ∷
    lacks private_rows 7 0 (part 0x02 (0xff ∷ []) ∷ []) ∷
    lacks password_rows 7 3 (part 0x03 (0x00 ∷ []) ∷ part 0x0a (0xff ∷ []) ∷ []) ∷
    lacks password_rows 7 6 (part 0x03 (0x00 ∷ []) ∷ part 0x0a (0x00 ∷ []) ∷ part 0x02 (0xff ∷ []) ∷ []) ∷
    lacks password_rows 7 9 (part 0x03 (0x00 ∷ []) ∷ part 0x0a (0x00 ∷ []) ∷ part 0x02 (0x04 ∷ []) ∷ part 0x02 (0xff ∷ []) ∷ []) ∷
    lacks password_rows 7 12 (part 0x03 (0x00 ∷ []) ∷ part 0x0a (0x00 ∷ []) ∷ part 0x02 (0x04 ∷ []) ∷ part 0x02 (0x00 ∷ []) ∷ part 0x02 (0xff ∷ []) ∷ []) ∷
    lacks password_rows 7 12 (part 0x03 (0x00 ∷ []) ∷ part 0x0a (0x00 ∷ []) ∷ part 0x02 (0x04 ∷ []) ∷ part 0x02 (0x00 ∷ []) ∷ part 0x80 (0xff ∷ []) ∷ []) ∷
    lacks path_rows 7 2 (part 0x04 [] ∷ part 0x02 (0xff ∷ []) ∷ []) ∷
    lacks path_rows 7 2 (part 0x04 [] ∷ part 0x80 (0xff ∷ []) ∷ []) ∷
    -- 61: a native of no byte, of 01; in a bad form though TRUE; an authority in one though FALSE
    lacks key_rows 61 5 (part 0x04 [] ∷ part 0x03 (0x00 ∷ []) ∷ part 0x01 [] ∷ []) ∷
    lacks key_rows 61 5 (part 0x04 [] ∷ part 0x03 (0x00 ∷ []) ∷ part 0x01 (0x01 ∷ []) ∷ []) ∷
    lacks key_rows 61 5 (part 0x04 [] ∷ part 0x03 (0x00 ∷ []) ∷ part 0x01 (0xff ∷ 0xff ∷ []) ∷ []) ∷
    lacks certificate_rows 61 2 (part 0x04 [] ∷ part 0x01 (0x00 ∷ 0x00 ∷ []) ∷ []) ∷
    -- 62: a version of no byte, one too long; a pwdType, ENUMERATED, too long; minus 1 too long, before 7; a pwdReference in a bad form though 0
    lacks cia_rows 62 0 (part 0x02 [] ∷ []) ∷
    lacks cia_rows 62 0 (part 0x02 (0x00 ∷ 0x7f ∷ []) ∷ []) ∷
    lacks password_rows 62 3 (part 0x03 (0x00 ∷ []) ∷ part 0x0a (0x00 ∷ 0x01 ∷ []) ∷ []) ∷
    lacks key_rows 62 5 (part 0x04 [] ∷ part 0x03 (0x00 ∷ []) ∷ part 0x02 (0xff ∷ 0xff ∷ []) ∷ []) ∷
    lacks password_rows 62 12 (part 0x03 (0x00 ∷ []) ∷ part 0x0a (0x00 ∷ []) ∷ part 0x02 (0x04 ∷ []) ∷ part 0x02 (0x00 ∷ []) ∷ part 0x80 (0x00 ∷ 0x00 ∷ []) ∷ []) ∷
    -- 63: cardflags of no byte; with 8 unused bits, with and without bytes; with a count and no bytes; with an unused bit set
    lacks cia_rows 63 3 (part 0x02 (0x00 ∷ []) ∷ part 0x03 [] ∷ []) ∷
    lacks cia_rows 63 3 (part 0x02 (0x00 ∷ []) ∷ part 0x03 (0x08 ∷ 0x80 ∷ []) ∷ []) ∷
    lacks cia_rows 63 3 (part 0x02 (0x00 ∷ []) ∷ part 0x03 (0x08 ∷ []) ∷ []) ∷
    lacks cia_rows 63 3 (part 0x02 (0x00 ∷ []) ∷ part 0x03 (0x01 ∷ []) ∷ []) ∷
    lacks cia_rows 63 3 (part 0x02 (0x00 ∷ []) ∷ part 0x03 (0x07 ∷ 0x81 ∷ []) ∷ []) ∷
    -- 63 before 64: an unused bit set, and the bit before them zero; 63 and 64 before 7: 33 bits and an unused one set, 40 bits and the last of them zero; 33 bits in good form
    lacks cia_rows 63 3 (part 0x02 (0x00 ∷ []) ∷ part 0x03 (0x04 ∷ 0x08 ∷ []) ∷ []) ∷
    lacks cia_rows 63 3 (part 0x02 (0x00 ∷ []) ∷ part 0x03 (0x07 ∷ 0xff ∷ 0xff ∷ 0xff ∷ 0xff ∷ 0x81 ∷ []) ∷ []) ∷
    lacks cia_rows 64 3 (part 0x02 (0x00 ∷ []) ∷ part 0x03 (0x00 ∷ 0xff ∷ 0xff ∷ 0xff ∷ 0xff ∷ 0x00 ∷ []) ∷ []) ∷
    lacks cia_rows 7 3 (part 0x02 (0x00 ∷ []) ∷ part 0x03 (0x07 ∷ 0xff ∷ 0xff ∷ 0xff ∷ 0xff ∷ 0x80 ∷ []) ∷ []) ∷
    -- 64: usage with trailing zero bits, in the last byte in use and in a byte of them alone
    lacks key_rows 64 2 (part 0x04 [] ∷ part 0x03 (0x05 ∷ 0x80 ∷ []) ∷ []) ∷
    lacks key_rows 64 2 (part 0x04 [] ∷ part 0x03 (0x00 ∷ 0x80 ∷ 0x00 ∷ []) ∷ []) ∷
    []

-- each is answered so
pub all_answered : map (λ c. answered (reads_rows c.rows (elements c.written))) table ≡ map (λ c. c.answer) table
unfolding table answered encode wrap
all_answered = refl
