-- "UTF8String is well formed": RFC 3629, section 4, its alternatives in its order.
use Rattle.std.specs.Prelude.{ℕ, ◌+◌, ◌-◌, List, [], ◌∷◌, Bool, ◌&&◌, ltb, leb, eqb, Err}
use Rattle.elements.specs.Choice.{pick}
use Rattle.elements.specs.Told.{told}
use Rattle.elements.specs.declared.fault.Fault.TheVariants.{BadText}
use Rattle.elements.specs.Answer.{Value}

-- what is due inside a character: so many bytes more, the next of them from low to high
pub record Due : Type 0 where
  pub more : ℕ
  pub low : ℕ
  pub high : ℕ

-- what a byte leaves due, or that it may not stand there
pub data Next : Type 0 where
  Then : Due → Next
  Never : Next

-- so many bytes more of a character, the next of them from l to h
abbrev pub due : ℕ → ℕ → ℕ → Due
due k l h = record { more = k; low = l; high = h }

-- from l to h
abbrev pub from : ℕ → ℕ → ℕ → Bool
from l h b = leb l b && leb b h

-- first bytes from l to h leave d due
pub data Row : Type 0 where
  row : ℕ → ℕ → Due → Row

-- UTF8-1, UTF8-2, UTF8-3 (four alternatives), UTF8-4 (three)
abbrev pub rows : List Row
rows =
    row 0x00 0x7f (due 0 0 0) ∷
    row 0xc2 0xdf (due 1 0x80 0xbf) ∷
    row 0xe0 0xe0 (due 2 0xa0 0xbf) ∷
    row 0xe1 0xec (due 2 0x80 0xbf) ∷
    row 0xed 0xed (due 2 0x80 0x9f) ∷
    row 0xee 0xef (due 2 0x80 0xbf) ∷
    row 0xf0 0xf0 (due 3 0x90 0xbf) ∷
    row 0xf1 0xf3 (due 3 0x80 0xbf) ∷
    row 0xf4 0xf4 (due 3 0x80 0x8f) ∷
    []

unfoldable pub find : List Row → ℕ → Next
find [] b = Never
find (row l h d ∷ r) b = pick (from l h b) (Then d) (find r b)

-- the first byte of a character: the first alternative that it begins
unfoldable pub lead_of : ℕ → Next
lead_of b = find rows b

-- a byte where d is due; UTF8-tail = %x80-BF
unfoldable pub step_of : Due → ℕ → Next
step_of d b =
    pick (eqb d.more 0) (lead_of b)
    (pick (ltb b d.low) Never
    (pick (ltb d.high b) Never
    (Then (due (d.more - 1) 0x80 0xbf))))

-- a byte starts a character where nothing is due
unfoldable pub starts : Due → ℕ
starts d = pick (eqb d.more 0) 1 0

-- n characters were started, and d is due
unfoldable pub text_from : Due → ℕ → List ℕ → Value
text_from d n [] = pick (eqb d.more 0) (told n) (Err BadText)
text_from d n (b ∷ l) = elim (step_of d b) [ Then t ↦ text_from t (n + starts d) l | Never ↦ Err BadText ]

-- UTF8-octets = *( UTF8-char ): how many characters
unfoldable pub text : List ℕ → Value
text c = text_from (due 0 0 0) 0 c
