-- Objects and their records, sought record by record.
use Prim.Native.Nat.{ℕ, ◌+◌, ◌<◌, ◌≤◌}
use mathlib.Core.Path.{◌≡◌, refl, ◌∙◌}
use mathlib.Core.List.{List}
use mathlib.Core.Bool.{Bool, true, false}
use native.Mathlib.Omega.{arith}
use lib.ListN.{length}
use Rattle.std.specs.Prelude.{Some, None}
use borrow.Author.Tests.{eq-eqb, ne_eqb}
use Rattle.rules.specs.Files.{two}
use Rattle.rules.specs.Book.{Ends}
use Rattle.rules.specs.BookLaws.{from_few}
use Rattle.rules.specs.Blocks.{closing}
use Rattle.links.specs.Links.{held_from, objects_from, Found, first_of}
use Rattle.links.specs.FindingLaws.{within_end, objects_first, held_first, some_end}
use Rattle.links.specs.Finding.{Within, objects_at, held_at, NextObject, FoundAt}

-- the loop of `next_object`: no object begins before j
pub record Seeking (b : List ℕ) (i j : ℕ) : Type 0 where
  pub low : i ≤ j
  pub within : Within b j
  pub same : objects_at b i ≡ objects_at b j

module _ {b : List ℕ} {i j : ℕ} (w : Seeking b i j) where
  pub seeking_all : length b < j + 4 → NextObject b i None
  unfolding objects_from
  seeking_all h = w.same ∙ rw (from_few b j h) refl

  module _ {k : ℕ} (q : k ≡ two b (j + 2)) where
    pub seeking_found : k ≡ 0x0120 → j + 4 ≤ length b → NextObject b i (Some j)
    seeking_found u h = record { low = w.low; inside = h; is = λ e d. w.same ∙ rw (objects_first d, ← q, u) refl }

    pub seeking_next : {e : ℕ} → (k ≡ 0x0120 → ⊥) → Ends b j e → Seeking b i e
    seeking_next u d = record { low = omega arith; within = within_end w.within d; same = w.same ∙ rw (objects_first d, ← q, ne_eqb k 0x0120 u) refl }

-- the loop of `find`: the record sought is not before j
pub record Searching (b : List ℕ) (k j : ℕ) (f : Found) : Type 0 where
  pub within : Within b j
  pub comes : f ≡ first_of k (held_at b j)

module _ {b : List ℕ} {k j : ℕ} {f : Found} (w : Searching b k j f) where
  pub searching_all : length b < j + 4 → FoundAt b f None
  unfolding held_from first_of
  searching_all h = w.comes ∙ rw (from_few b j h) refl

  module _ {c : ℕ} (q : c ≡ two b (j + 2)) {t : Bool} (s : t ≡ closing c) where
    pub searching_closed : t ≡ true → j + 4 ≤ length b → FoundAt b f None
    unfolding first_of
    searching_closed u h = w.comes ∙ some_end b j h (λ e d. rw (held_first d, ← q, ← s, u) refl)

    module _ (u : t ≡ false) where
      pub searching_found : c ≡ k → j + 4 ≤ length b → FoundAt b f (Some j)
      unfolding first_of
      searching_found z h = record { inside = h; is = λ e d. w.comes ∙ rw (held_first d, ← q, ← s, u, z, eq-eqb k k refl) refl }

      pub searching_next : {e : ℕ} → (c ≡ k → ⊥) → Ends b j e → Searching b k e f
      unfolding first_of
      searching_next n d = record { within = within_end w.within d; comes = w.comes ∙ rw (held_first d, ← q, ← s, u, ne_eqb c k n) refl }
