-- The acceptance test: "is there an accepted dump that has this book?"
use Rattle.std.specs.Prelude.{ℕ, ◌≤◌, ◌≡◌, refl, Bool, true, false, List, length, take, Some, None, Option}
use Rattle.rules.specs.Files.{read_dump}
use Rattle.rules.specs.Meaning.{AcceptedBook}
use Rattle.rules.specs.Write.{Written, written, no_book, confirmed, write_dump}

-- what is written if reading the candidate d gave the book, or did not
abbrev pub confirming : Bool → List ℕ → Written
confirming true d = written d
confirming false d = no_book

-- whether reading the candidate d gives the book b
pub record Confirms (b d : List ℕ) (r : Bool) : Type 0 where
  pub is : confirmed b d (read_dump d) ≡ confirming r d

-- the book b was tried: its dump is the first n bytes of d, or there is none
pub data Tried (b d : List ℕ) : (Option ℕ) → Type 0 where
  holds : {n : ℕ} → n ≤ length d → write_dump b ≡ written (take n d) → Tried b d (Some n)
  none : write_dump b ≡ no_book → Tried b d None

-- an accepted dump has the book, or none has it
pub record BookTold (b : List ℕ) (r : Bool) : Type 0 where
  pub yes : r ≡ true → AcceptedBook b
  pub no : r ≡ false → AcceptedBook b → ⊥

-- any two results that the contract allows are equal
pub one_told : {b : List ℕ} {q r : Bool} → BookTold b q → BookTold b r → q ≡ r
one_told {q = true} {r = true} h g = refl
one_told {q = true} {r = false} h g = absurd (g.no refl (h.yes refl))
one_told {q = false} {r = true} h g = absurd (h.no refl (g.yes refl))
one_told {q = false} {r = false} h g = refl
