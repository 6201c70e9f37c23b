-- "A record is a 2-byte length (kind plus payload, so at least 2), a 2-byte kind, the payload. All little-endian. Number is a 4-byte payload."
use Rattle.std.specs.Prelude.{List, ◌++◌, ℕ, ◌+◌, length}
use Rattle.elements.specs.Put.{le16}

unfoldable pub record_bytes : ℕ → List ℕ → List ℕ
record_bytes kind p = le16 (length p + 2) ++ le16 kind ++ p
