-- "Times are YYYYMMDDhhmmssZ, Gregorian, hours to 23, minutes and seconds to 59."
use Rattle.std.specs.Prelude.{ℕ, zero, suc, ◌+◌, ◌-◌, ◌*◌, ◌%◌, List, [], ◌∷◌, Bool, true, false, ◌&&◌, ◌||◌, length, get_or, ltb, leb, eqb, Err}
use Rattle.elements.specs.Choice.{pick}
use Rattle.elements.specs.declared.fault.Fault.TheVariants.{BadTime}
use Rattle.elements.specs.Answer.{Value, of}

abbrev pub is_digit : ℕ → Bool
is_digit x = leb 48 x && leb x 57

-- the first k bytes are digits
unfoldable pub digits : ℕ → List ℕ → Bool
digits zero l = true
digits (suc k) [] = false
digits (suc k) (x ∷ l) = pick (is_digit x) (digits k l) false

-- the number of the two digits at i
unfoldable pub two : List ℕ → ℕ → ℕ
two c i = (get_or c i 0 - 48) * 10 + (get_or c (i + 1) 0 - 48)

-- "Gregorian"
unfoldable pub leap : ℕ → Bool
leap y = pick (eqb (y % 4) 0) (pick (eqb (y % 100) 0) (eqb (y % 400) 0) true) false

-- the days of month m; none where there is no such month
unfoldable pub days_of : ℕ → ℕ → ℕ
days_of y m =
    pick (eqb m 2) (pick (leap y) 29 28)
    (pick (eqb m 4 || eqb m 6 || eqb m 9 || eqb m 11) 30
    (pick (leb 1 m && leb m 12) 31 0))

unfoldable pub dated : ℕ → ℕ → ℕ → Bool
dated y m d = pick (eqb d 0) false (leb d (days_of y m))

-- "hours to 23, minutes and seconds to 59"
unfoldable pub clocked : ℕ → ℕ → ℕ → Bool
clocked h m s = pick (ltb 23 h) false (pick (ltb 59 m) false (leb s 59))

-- "YYYYMMDDhhmmssZ"
unfoldable pub stated : List ℕ → Bool
stated c =
    pick (eqb (length c) 15)
    (pick (eqb (get_or c 14 0) 90)
    (pick (digits 14 c)
    (pick (dated (two c 0 * 100 + two c 2) (two c 4) (two c 6))
    (clocked (two c 8) (two c 10) (two c 12))
    false) false) false) false

unfoldable pub time : List ℕ → Value
time c = pick (stated c) (of false 0) (Err BadTime)
