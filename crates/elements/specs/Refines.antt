-- Item 3 of document 02: "Each answer of 6 turns into just one of these, at the same place, and no other answer changes". What a fault's number was, and what it is.
use Rattle.std.specs.Prelude.{ℕ, ◌≤◌, ◌≡◌, refl, Bool, true, false, ◌&&◌, leb, eqb}
use Rattle.std.proofs.Common.{leb-true}
use Rattle.std.proofs.lemmas.Bool.{eqb-false}
use Rattle.elements.specs.declared.fault.Fault.{Fault}
use Rattle.elements.specs.declared.fault.Fault.TheVariants.{DumpSize, RecordBroken, RecordMissing, RecordKind, FileLength, PathLength, RecordOver, BadTag, CutTag, NotDue, OneMore, BadLength, CutLength, LongLength, Missing, BadBoolean, BadInteger, BadBits, TrailingBits, BadText, BadTime, BadNull, DefaultWritten, OutOfRange, BadSize, ManyBits, ManyConditions, PathPair, PasswordFlags, TooDeep, ManyObjects, FillDiffers, PathTwice, FileDiffers, FileMissing, FileExtra, AuthIdTwice, NoRoom, NoDump, NotThere, SecondObject}
use Rattle.elements.specs.Choice.{pick}
use Rattle.elements.specs.ChoiceLaws.{both_true}
use Rattle.elements.specs.Faults.{number_of}

-- the number that a fault had before, when 6 was one number: it stands here for these laws alone
abbrev pub first_number_of : Fault → ℕ
first_number_of DumpSize = 1
first_number_of RecordBroken = 2
first_number_of RecordMissing = 2
first_number_of RecordKind = 2
first_number_of FileLength = 2
first_number_of PathLength = 2
first_number_of RecordOver = 2
first_number_of BadTag = 3
first_number_of CutTag = 3
first_number_of NotDue = 3
first_number_of OneMore = 3
first_number_of BadLength = 4
first_number_of CutLength = 4
first_number_of LongLength = 4
first_number_of Missing = 5
first_number_of BadBoolean = 6
first_number_of BadInteger = 6
first_number_of BadBits = 6
first_number_of TrailingBits = 6
first_number_of BadText = 6
first_number_of BadTime = 6
first_number_of BadNull = 6
first_number_of DefaultWritten = 6
first_number_of OutOfRange = 7
first_number_of BadSize = 7
first_number_of ManyBits = 7
first_number_of ManyConditions = 7
first_number_of PathPair = 8
first_number_of PasswordFlags = 8
first_number_of TooDeep = 9
first_number_of ManyObjects = 10
first_number_of FillDiffers = 11
first_number_of PathTwice = 12
first_number_of FileDiffers = 12
first_number_of FileMissing = 12
first_number_of FileExtra = 12
first_number_of AuthIdTwice = 13
first_number_of NoRoom = 14
first_number_of NoDump = 15
first_number_of NotThere = 16
first_number_of SecondObject = 17

-- 61 to 68, taken to 6
abbrev pub coarse : ℕ → ℕ
coarse n = pick (leb 61 n && leb n 68) 6 n

-- each fault's number was the one that it has, with 61 to 68 taken to 6; "6 is no longer given"
pub refines : (f : Fault) → (first_number_of f ≡ coarse (number_of f)) × (eqb (number_of f) 6 ≡ false)
refines DumpSize = (refl, refl)
refines RecordBroken = (refl, refl)
refines RecordMissing = (refl, refl)
refines RecordKind = (refl, refl)
refines FileLength = (refl, refl)
refines PathLength = (refl, refl)
refines RecordOver = (refl, refl)
refines BadTag = (refl, refl)
refines CutTag = (refl, refl)
refines NotDue = (refl, refl)
refines OneMore = (refl, refl)
refines BadLength = (refl, refl)
refines CutLength = (refl, refl)
refines LongLength = (refl, refl)
refines Missing = (refl, refl)
refines BadBoolean = (refl, refl)
refines BadInteger = (refl, refl)
refines BadBits = (refl, refl)
refines TrailingBits = (refl, refl)
refines BadText = (refl, refl)
refines BadTime = (refl, refl)
refines BadNull = (refl, refl)
refines DefaultWritten = (refl, refl)
refines OutOfRange = (refl, refl)
refines BadSize = (refl, refl)
refines ManyBits = (refl, refl)
refines ManyConditions = (refl, refl)
refines PathPair = (refl, refl)
refines PasswordFlags = (refl, refl)
refines TooDeep = (refl, refl)
refines ManyObjects = (refl, refl)
refines FillDiffers = (refl, refl)
refines PathTwice = (refl, refl)
refines FileDiffers = (refl, refl)
refines FileMissing = (refl, refl)
refines FileExtra = (refl, refl)
refines AuthIdTwice = (refl, refl)
refines NoRoom = (refl, refl)
refines NoDump = (refl, refl)
refines NotThere = (refl, refl)
refines SecondObject = (refl, refl)

-- what is taken to 6 and is not 6 is one of the eight
pub split : (n : ℕ) → eqb n 6 ≡ false → coarse n ≡ 6 → (61 ≤ n) × (n ≤ 68)
split n h = go (leb 61 n && leb n 68) refl
  where
    go : (t : Bool) → (leb 61 n && leb n 68) ≡ t → pick t 6 n ≡ 6 → (61 ≤ n) × (n ≤ 68)
    go true e q = let b = both_true (leb 61 n) (leb n 68) e in (leb-true 61 n b.0, leb-true n 68 b.1)
    go false e q = absurd (eqb-false n 6 h q)

-- and what is not taken to 6 is what it was
pub unsplit : (n : ℕ) → (coarse n ≡ 6 → ⊥) → coarse n ≡ n
unsplit n = go (leb 61 n && leb n 68)
  where
    go : (t : Bool) → (pick t 6 n ≡ 6 → ⊥) → pick t 6 n ≡ n
    go true h = absurd (h refl)
    go false h = refl
