-- The number that documents 01 and 02 give each fault.
use Rattle.std.specs.Prelude.{ℕ}
use Rattle.elements.specs.declared.fault.Fault.{Fault}
use Rattle.elements.specs.declared.fault.Fault.TheVariants.{DumpSize, RecordBroken, RecordMissing, RecordKind, FileLength, PathLength, RecordOver, BadTag, CutTag, NotDue, OneMore, BadLength, CutLength, LongLength, Missing, BadBoolean, BadInteger, BadBits, TrailingBits, BadText, BadTime, BadNull, DefaultWritten, OutOfRange, BadSize, ManyBits, ManyConditions, PathPair, PasswordFlags, TooDeep, ManyObjects, FillDiffers, PathTwice, FileDiffers, FileMissing, FileExtra, AuthIdTwice, NoRoom, NoDump, NotThere, SecondObject}

abbrev pub number_of : Fault → ℕ
number_of DumpSize = 1
number_of RecordBroken = 2
number_of RecordMissing = 2
number_of RecordKind = 2
number_of FileLength = 2
number_of PathLength = 2
number_of RecordOver = 2
number_of BadTag = 3
number_of CutTag = 3
number_of NotDue = 3
number_of OneMore = 3
number_of BadLength = 4
number_of CutLength = 4
number_of LongLength = 4
number_of Missing = 5
number_of BadBoolean = 61
number_of BadInteger = 62
number_of BadBits = 63
number_of TrailingBits = 64
number_of BadText = 65
number_of BadTime = 66
number_of BadNull = 67
number_of DefaultWritten = 68
number_of OutOfRange = 7
number_of BadSize = 7
number_of ManyBits = 7
number_of ManyConditions = 7
number_of PathPair = 8
number_of PasswordFlags = 8
number_of TooDeep = 9
number_of ManyObjects = 10
number_of FillDiffers = 11
number_of PathTwice = 12
number_of FileDiffers = 12
number_of FileMissing = 12
number_of FileExtra = 12
number_of AuthIdTwice = 13
number_of NoRoom = 14
number_of NoDump = 15
number_of NotThere = 16
number_of SecondObject = 17
