-- What is read of a card's records.
use Rattle.std.specs.Prelude.{ℕ, ◌+◌, ◌<◌, ◌≡◌, List, length, Option, MatchOption}
use Rattle.std.proofs.Math.Seq.{slice}
use Rattle.rules.specs.Files.{two}
use Rattle.rules.specs.Book.{Ends}
use Rattle.lister.specs.declared.records.Record.{Record}
use Rattle.lister.specs.declared.records.Records.{Records}

-- the record at place i of b, which ends at e
pub record RecordTold (b : List ℕ) (i e : ℕ) (x : Record) : Type 0 where
  pub at : x.start ≡ i
  pub sort : x.kind ≡ two b (i + 2)
  pub pay : x.payload.now ≡ slice (i + 4) e b
  pub ends : Ends b i e

-- a call gave the record at the next place, and the one behind it is next; or none, where not four bytes are left
abbrev pub Gives : Records → Option Record → Records → Type 0
Gives s r t = (t.bytes.now ≡ s.bytes.now)
    × MatchOption r ((length s.bytes.now < s.next + 4) × (t.next ≡ s.next)) (RecordTold s.bytes.now s.next t.next)
