-- "Tags" and "Lengths" of document 01. A position is an offset into the whole dump; a container ends at `end`.
-- Places of 3 and 4 are the element's first byte; 5 is the container's end.
use Rattle.std.specs.Prelude.{ℕ, zero, suc, ◌+◌, ◌-◌, ◌*◌, ◌%◌, List, get_or, ltb, leb, eqb}
use Rattle.elements.specs.Choice.{pick, choose}
use Rattle.elements.specs.declared.fault.Fault.TheVariants.{BadTag, CutTag, BadLength, CutLength, LongLength, Missing}
use Rattle.elements.specs.Answer.{Head, found, refused}

-- "inside the container": n bytes of contents from q on, of the element at `at` whose first tag byte is b
unfoldable pub fitted : ℕ → ℕ → ℕ → ℕ → ℕ → Head
fitted at end b q n = pick (leb n (end - q)) (found b q (q + n)) (refused LongLength at)

-- "shortest form": 81 and one byte, from 128 up
unfoldable pub long1 : List ℕ → ℕ → ℕ → ℕ → ℕ → Head
long1 s at end b p =
    pick (leb end p) (refused CutLength at)
    (pick (ltb (get_or s p 0) 128) (refused BadLength at)
    (fitted at end b (p + 1) (get_or s p 0)))

-- "shortest form", "at most 65,535": 82 and two bytes, from 256 up
unfoldable pub long2_of : ℕ → ℕ → ℕ → ℕ → ℕ → ℕ → Head
long2_of at end b q x y = pick (ltb (x * 256 + y) 256) (refused BadLength at) (fitted at end b q (x * 256 + y))

unfoldable pub long2 : List ℕ → ℕ → ℕ → ℕ → ℕ → Head
long2 s at end b p = pick (ltb (end - p) 2) (refused CutLength at) (long2_of at end b (p + 2) (get_or s p 0) (get_or s (p + 1) 0))

-- "Lengths: definite, shortest form, at most 65,535, inside the container": the length field at p
unfoldable pub length_at : List ℕ → ℕ → ℕ → ℕ → ℕ → Head
length_at s at end b p =
    pick (leb end p) (refused CutLength at)
    (pick (ltb (get_or s p 0) 128) (fitted at end b (p + 1) (get_or s p 0))
    (pick (eqb (get_or s p 0) 129) (long1 s at end b (p + 1))
    (pick (eqb (get_or s p 0) 130) (long2 s at end b (p + 1))
    (refused BadLength at))))

-- "in at most three further bytes": at most so many from p on, the last of them below 128
unfoldable pub further : ℕ → List ℕ → ℕ → ℕ → ℕ → ℕ → Head
further zero s at end b p = refused BadTag at
further (suc k) s at end b p =
    pick (leb end p) (refused CutTag at)
    (choose (ltb (get_or s p 0) 128) (λ _. length_at s at end b (p + 1)) (λ _. further k s at end b (p + 1)))

-- "high form with a minimal number from 31 up": no first digit 0 (a byte 80), and not below 31
unfoldable pub high_tag : List ℕ → ℕ → ℕ → ℕ → ℕ → Head
high_tag s at end b p =
    pick (leb end p) (refused CutTag at)
    (pick (ltb (get_or s p 0) 31) (refused BadTag at)
    (pick (eqb (get_or s p 0) 128) (refused BadTag at)
    (further 3 s at end b p)))

-- "Tags: low form, or high form ..; tag 00 is no tag". At the container's end, "container ends early; place is its end"
unfoldable pub header : List ℕ → ℕ → ℕ → Head
header s at end =
    pick (leb end at) (refused Missing end)
    (pick (eqb (get_or s at 0) 0) (refused BadTag at)
    (pick (eqb (get_or s at 0 % 32) 31) (high_tag s at end (get_or s at 0) (at + 1))
    (length_at s at end (get_or s at 0) (at + 1))))
