-- The way back of a header.
use Rattle.std.specs.Prelude.{ℕ, ◌+◌, ◌*◌, ◌/◌, ◌%◌, List, [], ◌∷◌, ◌++◌, length, ltb}
use Rattle.elements.specs.Choice.{pick}

-- the shortest length field of n, for n to 65,535; bytes for every n
unfoldable pub shortest : ℕ → List ℕ
shortest n = pick (ltb n 128) (n ∷ []) (pick (ltb n 256) (129 ∷ n ∷ []) (130 ∷ n / 256 % 256 ∷ n % 256 ∷ []))

-- an element of a low tag
unfoldable pub wrap : ℕ → List ℕ → List ℕ
wrap t c = t ∷ shortest (length c) ++ c

-- a tag's number in seven bits a byte, the most significant first, all but the last with the top bit set, for n below 2,097,152
unfoldable pub sevens : ℕ → List ℕ
sevens n =
    pick (ltb n 128) (n ∷ [])
    (pick (ltb n 16384) ((128 + n / 128) ∷ (n % 128) ∷ [])
    ((128 + n / 16384) ∷ (128 + n / 128 % 128) ∷ (n % 128) ∷ []))

-- a tag: k is its class and whether it is constructed (the first byte's top three bits), n its number
unfoldable pub tag_bytes : ℕ → ℕ → List ℕ
tag_bytes k n = pick (ltb n 31) ((k * 32 + n) ∷ []) ((k * 32 + 31) ∷ sevens n)
