-- "INTEGER and ENUMERATED are shortest"; "The integer reader should give a signed value": by sign and magnitude.
use Rattle.std.specs.Prelude.{ℕ, zero, suc, ◌+◌, ◌-◌, ◌*◌, ◌/◌, ◌%◌, List, [], ◌∷◌, ◌++◌, Bool, true, false, ℤ, pos, negsuc, neg_ℤ, length, get_or, ltb, leb, eqb, Err}
use Rattle.elements.specs.Choice.{pick, choose}
use Rattle.elements.specs.declared.fault.Fault.TheVariants.{BadInteger}
use Rattle.elements.specs.Answer.{Value, of}

-- the largest magnitude told: it stands for itself and for all above
abbrev pub most : ℕ
most = 4294967295

abbrev pub least : ℕ → ℕ → ℕ
least m n = pick (ltb m n) m n

-- the number of a sign and a magnitude
abbrev pub signed : Bool → ℕ → ℤ
signed false m = pos m
signed true m = neg_ℤ (pos m)

-- in two's complement the bytes of -1 - w are those of w, each complemented
abbrev pub digit : Bool → ℕ → ℕ
digit false x = x
digit true x = 255 - x

-- the bytes of w
unfoldable pub bare : Bool → List ℕ → List ℕ
bare n [] = []
bare n (x ∷ l) = digit n x ∷ bare n l

-- bytes, the most significant first, after those that came to v
unfoldable pub big : ℕ → List ℕ → ℕ
big v [] = v
big v (x ∷ l) = big (v * 256 + x) l

-- so a negative number's magnitude is one more than w
abbrev pub beyond : Bool → ℕ
beyond false = 0
beyond true = 1

-- sign and magnitude of contents of any length
unfoldable pub magnitude : Bool → List ℕ → Value
magnitude n c = of n (least (big 0 (bare n c) + beyond n) most)

-- the first bit is the sign
unfoldable pub whole : List ℕ → Value
whole c = pick (ltb (get_or c 0 0) 128) (magnitude false c) (magnitude true c)

-- the first nine bits are equal: the first byte could be left out
unfoldable pub padded : ℕ → ℕ → Bool
padded x y = pick (eqb x 0) (ltb y 128) (pick (eqb x 255) (leb 128 y) false)

unfoldable pub integer : List ℕ → Value
integer c =
    pick (eqb (length c) 0) (Err BadInteger)
    (pick (eqb (length c) 1) (whole c)
    (pick (padded (get_or c 0 0) (get_or c 1 0)) (Err BadInteger)
    (whole c)))

-- the way back: the fewest bytes of w that leave the first bit clear, complemented where the number is negative; k bounds the recursion
unfoldable pub spread_by : ℕ → Bool → ℕ → List ℕ
spread_by zero n w = digit n w ∷ []
spread_by (suc k) n w = choose (ltb w 128) (λ _. digit n w ∷ []) (λ _. spread_by k n (w / 256) ++ (digit n (w % 256) ∷ []))

unfoldable pub spread : Bool → ℕ → List ℕ
spread n w = spread_by w n w

-- so a signed number has one encoding; negsuc w is -1 - w
unfoldable pub integer_bytes : ℤ → List ℕ
integer_bytes (pos w) = spread false w
integer_bytes (negsuc w) = spread true w
