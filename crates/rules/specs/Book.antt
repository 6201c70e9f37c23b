-- The book: records laid out as bytes, and back.
use Rattle.std.specs.Prelude.{ℕ, zero, suc, ◌+◌, ◌-◌, ◌*◌, ◌≤◌, ◌≡◌, List, [], ◌∷◌, ◌++◌, Bool, false, length, take, drop, eqb}
use Rattle.std.proofs.Math.Seq.{slice}
use Rattle.elements.specs.Record.{record_bytes}
use Rattle.rules.specs.Reading.{Rec, rec}
use Rattle.rules.specs.Files.{two}

unfoldable pub encode : List Rec → List ℕ
encode [] = []
encode (r ∷ rs) = record_bytes r.kind r.pay ++ encode rs

-- the first n bytes are a payload of kind k; what is left is read by f
abbrev pub laid : (List ℕ → List Rec) → List ℕ → List Rec
laid f [] = []
laid f (a ∷ []) = []
laid f (a ∷ b ∷ []) = []
laid f (a ∷ b ∷ c ∷ []) = []
laid f (a ∷ b ∷ c ∷ d ∷ l) = rec (c + 256 * d) (take (a + 256 * b - 2) l) ∷ f (drop (a + 256 * b - 2) l)

-- the records of well-framed bytes; of others, whatever comes of it
unfoldable pub records_of : ℕ → List ℕ → List Rec
records_of zero l = []
records_of (suc g) l = laid (λ m. records_of g m) l

unfoldable pub records : List ℕ → List Rec
records b = records_of (length b) b

-- the records of b from place i on
unfoldable pub records_from : List ℕ → ℕ → List Rec
records_from b i = records (drop i b)

-- the record at i ends at e
pub record Ends (b : List ℕ) (i e : ℕ) : Type 0 where
  pub is : records_from b i ≡ rec (two b (i + 2)) (slice (i + 4) e b) ∷ records_from b e
  pub low : i + 4 ≤ e
  pub high : e ≤ length b

-- the next record is of this kind
abbrev pub next_is : ℕ → List Rec → Bool
next_is k [] = false
next_is k (r ∷ rs) = eqb r.kind k
