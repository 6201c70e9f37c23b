-- Records of the book, and what reading a part answers.
use Rattle.std.specs.Prelude.{ℕ, ◌+◌, ◌-◌, ◌*◌, List, [], ◌∷◌, ◌++◌, ℤ, pos, negsuc, take, ltb}
use Rattle.elements.specs.Choice.{choose}
use Rattle.elements.specs.declared.fault.Fault.{Fault}

-- a record of the book: its kind and its payload
pub record Rec : Type 0 where
  pub kind : ℕ
  pub pay : List ℕ

abbrev pub rec : ℕ → List ℕ → Rec
rec k p = record { kind = k; pay = p }

-- what reading a part answers: its records, the places of what is counted in it (objects, conditions of a list), where it ends;
-- or a refusal and its place
pub data Res : Type 0 where
  took : List Rec → List ℕ → ℕ → Res
  fails : Fault → ℕ → Res

-- a part is read from a place on, in a container that ends at `end`: p end at
abbrev pub Reader : Type 0
Reader = ℕ → ℕ → Res

-- the inside of an element that starts at `at`, its contents from a to e: b at a e
abbrev pub Body : Type 0
Body = ℕ → ℕ → ℕ → Res

-- what was read before, in front of what is read now
abbrev pub also : List Rec → List ℕ → Res → Res
also bs ms (took cs ns n) = took (bs ++ cs) (ms ++ ns) n
also bs ms (fails f p) = fails f p

abbrev pub and_then : Res → (ℕ → Res) → Res
and_then (took bs ms n) k = also bs ms (k n)
and_then (fails f p) k = fails f p

-- strictly one part after the other
abbrev pub ◌then◌ : Reader → Reader → Reader
◌then◌ p q = λ end at. and_then (p end at) (λ n. q end n)

-- "All little-endian."
abbrev pub unle : List ℕ → ℕ
unle [] = 0
unle (x ∷ l) = x + 256 * unle l

-- the number in a payload of two bytes, and of four; of a longer one, in its first bytes
unfoldable pub count : List ℕ → ℕ
count p = unle (take 2 p)

unfoldable pub number : List ℕ → ℕ
number p = unle (take 4 p)

-- "0134 holds the two's complement in four bytes", as a number, and back
abbrev pub twos : ℤ → ℕ
twos (pos m) = m
twos (negsuc w) = 4294967295 - w

abbrev pub untwos : ℕ → ℤ
untwos v = choose (ltb v 2147483648) (λ _. pos v) (λ _. negsuc (4294967295 - v))

infixl 20 ◌then◌
