-- "A sealed part is checked for tags, lengths and exact nesting only, at most 16 deep (house, the outermost counts 1), and kept as it is.
-- Rest means sealed elements after the listed components; the tag of an optional or defaulted component of that sequence may not occur there."
use Rattle.std.specs.Prelude.{ℕ, zero, suc, ◌-◌, ◌/◌, ◌%◌, List, [], ◌∷◌, Bool, false, ◌||◌, ltb, eqb, Err, Ok}
use Rattle.elements.specs.Choice.{pick, choose}
use Rattle.elements.specs.declared.fault.Fault.TheVariants.{TooDeep, NotDue}
use Rattle.elements.specs.Header.{header}
use Rattle.elements.specs.Loop.{Turn, next, done, loop}
use Rattle.elements.specs.Answer.{Head, Run, refused}

-- x is one of the numbers
abbrev pub among : ℕ → List ℕ → Bool
among x [] = false
among x (y ∷ l) = eqb x y || among x l

-- bit 6 of the first tag byte: the contents are elements
abbrev pub constructed : ℕ → Bool
constructed b = eqb (b / 32 % 2) 1

-- after the contents of an element that ends at e
abbrev pub onward : ℕ → Run → Turn ℕ Run
onward e (Ok i) = next e
onward e (Err r) = done (refused r.0 r.1)

-- the element at i, its tag not kept out; its contents, where it is constructed, are judged by `inner`
abbrev pub sealed_one : (ℕ → ℕ → Run) → List ℕ → ℕ → Head → Turn ℕ Run
sealed_one inner out i (Err r) = done (refused r.0 r.1)
sealed_one inner out i (Ok x) =
    pick (among x.0 out) (done (refused NotDue i))
    (choose (constructed x.0) (λ _. onward x.2 (inner x.1 x.2)) (λ _. next x.2))

-- at a run's position i
abbrev pub sealed_turn : (ℕ → Turn ℕ Run) → ℕ → ℕ → Turn ℕ Run
sealed_turn f end i = choose (ltb i end) (λ _. f i) (λ _. done (Ok i))

-- the elements from `at` to `end`, with so many levels left; the depth comes first at an element
unfoldable pub sealed_run : ℕ → List ℕ → List ℕ → ℕ → ℕ → Run
sealed_run zero s out at end = loop (sealed_turn (λ i. done (refused TooDeep i)) end) (Ok end) (suc (end - at)) at
sealed_run (suc l) s out at end =
    loop (sealed_turn (λ i. sealed_one (λ a e. sealed_run l s [] a e) out i (header s i end)) end) (Ok end) (suc (end - at)) at
