-- Laws of the book's records.
use Rattle.std.specs.Prelude.{◌≡◌, List, ◌++◌, ℕ, ◌+◌, ◌-◌, ◌≤◌, length}
use Rattle.std.proofs.Math.Seq.{slice, length-slice}
use Rattle.elements.specs.Put.{le16}
use Rattle.elements.specs.Record.{record_bytes}

-- a record whose payload is a part of s
pub record_made : (kind a e : ℕ) (s : List ℕ) → e ≤ length s → (le16 (e - a + 2) ++ le16 kind) ++ slice a e s ≡ record_bytes kind (slice a e s)
unfolding record_bytes
record_made kind a e s k = rw (length-slice a e s k)
