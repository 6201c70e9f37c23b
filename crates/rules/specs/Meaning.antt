-- What the promises speak of: an accepted dump, its book, an accepted book.
use Rattle.std.specs.Prelude.{ℕ, ◌≡◌, List}
use Rattle.elements.specs.Lists.{Bytes}
use Rattle.rules.specs.Reading.{Rec}
use Rattle.rules.specs.Files.{accepted, read_dump}
use Rattle.rules.specs.Book.{encode}

-- the dump d is accepted, and b is its book
pub record Has (d b : List ℕ) : Type 0 where
  pub bytes : Bytes d
  pub records : List Rec
  pub reads : read_dump d ≡ accepted records
  pub book : encode records ≡ b

-- b is an accepted book: an accepted dump has it
pub record AcceptedBook (b : List ℕ) : Type 0 where
  pub dump : List ℕ
  pub has : Has dump b
