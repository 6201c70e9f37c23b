-- "Named-bit strings: unused bits zero, trailing zero bits removed (none set is 03 01 00), at most 32 bits; named bit i becomes 2^i in the book."
use Rattle.std.specs.Prelude.{ℕ, zero, suc, ◌+◌, ◌-◌, ◌*◌, ◌/◌, ◌%◌, ◌^◌, List, [], ◌∷◌, false, length, get_or, drop, ltb, leb, eqb, Err}
use Rattle.std.specs.Int.Count.{count_leading_zeros}
use Rattle.elements.specs.Choice.{pick}
use Rattle.elements.specs.declared.fault.Fault.TheVariants.{BadBits, TrailingBits, ManyBits}
use Rattle.elements.specs.Answer.{Value, of}

-- bit i of a byte, counted from the most significant, is 2^i
unfoldable pub reversed : ℕ → ℕ
reversed b = b / 128 % 2 + 2 * (b / 64 % 2) + 4 * (b / 32 % 2) + 8 * (b / 16 % 2) + 16 * (b / 8 % 2) + 32 * (b / 4 % 2) + 64 * (b / 2 % 2) + 128 * (b % 2)

-- "named bit i becomes 2^i"
unfoldable pub weigh : List ℕ → ℕ
weigh [] = 0
weigh (x ∷ l) = reversed x + 256 * weigh l

-- the last byte has u bits unused: they are zero, the bit before them is not
unfoldable pub bits_of : List ℕ → ℕ → ℕ → Value
bits_of c u last =
    pick (eqb (last % 2 ^ u) 0)
    (pick (eqb (last / 2 ^ u % 2) 1)
    (pick (leb ((length c - 1) * 8 - u) 32) (of false (weigh (drop 1 c))) (Err ManyBits))
    (Err TrailingBits))
    (Err BadBits)

-- the first byte counts the unused bits
unfoldable pub bits : List ℕ → Value
bits c =
    pick (eqb (length c) 0) (Err BadBits)
    (pick (ltb 7 (get_or c 0 0)) (Err BadBits)
    (pick (eqb (length c) 1) (pick (eqb (get_or c 0 0) 0) (of false 0) (Err BadBits))
    (bits_of c (get_or c 0 0) (get_or c (length c - 1) 0))))

-- the way back: "byte count and unused bits of a written flag word come from its count of leading zeros"
unfoldable pub width : ℕ → ℕ
width w = 32 - count_leading_zeros 32 w

unfoldable pub flag_run : ℕ → ℕ → List ℕ
flag_run zero w = []
flag_run (suc k) w = reversed (w % 256) ∷ flag_run k (w / 256)

unfoldable pub flag_bytes : ℕ → List ℕ
flag_bytes w = ((width w + 7) / 8 * 8 - width w) ∷ flag_run ((width w + 7) / 8) w
