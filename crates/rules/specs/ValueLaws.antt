-- Numbers in two bytes and in four; bytes of a part.
use Rattle.std.specs.Prelude.{ℕ, zero, suc, ◌+◌, ◌*◌, ◌/◌, ◌%◌, ◌^◌, ◌<◌, List, [], ◌∷◌, ◌≡◌, take}
use Rattle.std.proofs.Common.{arith, get_or-drop}
use Rattle.std.proofs.Math.Seq.{slice}
use Rattle.elements.specs.Lists.{Bytes}
use Rattle.elements.specs.Put.{le16, le32}
use Rattle.rules.specs.Reading.{number, count}

bytes_take : (n : ℕ) (l : List ℕ) → Bytes l → Bytes (take n l)
bytes_take zero l b i = omega arith
bytes_take (suc n) [] b i = omega arith
bytes_take (suc n) (x ∷ l) b zero = b zero
bytes_take (suc n) (x ∷ l) b (suc i) = bytes_take n l (λ j. b (suc j)) i

pub bytes_slice : (a e : ℕ) (s : List ℕ) → Bytes s → Bytes (slice a e s)
bytes_slice a e s b i = rw get_or-drop (bytes_take e s b (a + i))

-- two bytes hold a number, and four do
pub two_bytes : (w : ℕ) → w < 65536 → w % 256 + 256 * (w / 256 % 256) ≡ w
two_bytes w h = omega arith

pub number_le32 : (v : ℕ) → v < 2 ^ 32 → number (le32 v) ≡ v
unfolding number
number_le32 v h =
    let w : v % 65536 % 256 + 256 * (v % 65536 / 256 % 256) ≡ v % 65536 = two_bytes (v % 65536) (omega arith) in
    let u : v / 65536 % 256 + 256 * (v / 65536 / 256 % 256) ≡ v / 65536 = two_bytes (v / 65536) (omega arith) in
    let z : v ≡ v % 65536 + 65536 * (v / 65536) = omega arith in
    omega (arith, w, u, z)

pub count_le16 : (v : ℕ) → v < 65536 → count (le16 v) ≡ v
unfolding count
count_le16 v h = omega arith
