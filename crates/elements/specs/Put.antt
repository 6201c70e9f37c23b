-- Storing into a lent slice: what has a place is stored, and the answer is where it ended.
use Rattle.std.specs.Prelude.{◌≡◌, List, [], ◌∷◌, ◌++◌, ℕ, ◌+◌, ◌/◌, ◌%◌, ◌≤◌, ◌<◌, length}
use Rattle.std.proofs.lemmas.List.Edits.{sets}

-- two bytes, the low one first
abbrev pub le16 : ℕ → List ℕ
le16 n = n % 256 ∷ n / 256 % 256 ∷ []

-- four bytes, the low one first
abbrev pub le32 : ℕ → List ℕ
le32 n = le16 (n % 65536) ++ le16 (n / 65536)

-- out' is out with bs stored from o on, as far as out reaches, and r is the place past them
pub record Put {A : Type 0} (out out' : List A) (o r : ℕ) (bs : List A) : Type 0 where
  pub at : r ≡ o + length bs
  pub to : out' ≡ sets out o bs

-- r of n places from o on are there, of len in all: all of them, or those before the end
pub record Places (len o n r : ℕ) : Type 0 where
  pub most : r ≤ n
  pub inside : 0 < r → o + r ≤ len
  pub all : r < n → len ≤ o + r
