-- A book is accepted exactly when writing it and reading it back gives it.
use Rattle.std.specs.Prelude.{ℕ, List}
use Rattle.elements.specs.Choice.{choose}
use Rattle.rules.specs.Files.{Answer, accepted, refused, equal, read_dump}
use Rattle.rules.specs.Book.{encode, records}
use Rattle.rules.specs.Render.{render}

pub data Written : Type 0 where
  written : List ℕ → Written
  no_book : Written

-- d is the dump that could have the book b, and reading it answered a
abbrev pub confirmed : List ℕ → List ℕ → Answer → Written
confirmed b d (refused f p) = no_book
confirmed b d (accepted rs) = choose (equal (encode rs) b) (λ _. written d) (λ _. no_book)

unfoldable pub write_dump : List ℕ → Written
write_dump b = let d = render (records b) in confirmed b d (read_dump d)
