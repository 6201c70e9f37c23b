-- The rows of an object's records, and of all objects.
use Prim.Native.Nat.{ℕ, ◌+◌, ◌*◌, ◌<◌, ◌≤◌}
use mathlib.Core.Path.{◌≡◌, refl}
use mathlib.Core.List.{List, [], ◌∷◌}
use mathlib.Core.Bool.{Bool, true, false}
use native.Mathlib.Numerals.{add-one}
use native.Mathlib.Omega.{arith}
use lib.ListN.{length, get_or}
use lib.Seq.{slice}
use borrow.Author.Tests.{eq-eqb, ne_eqb}
use Rattle.rules.specs.Files.{two}
use Rattle.rules.specs.Book.{Ends}
use Rattle.rules.specs.BookLaws.{from_few}
use Rattle.rules.specs.Blocks.{closing}
use Rattle.links.specs.Links.{Object, held_from, states, answers, rows_of, record_rows, object_rows, links_from}
use Rattle.links.specs.declared.index.Index.{Index}
use Rattle.links.specs.Chains.{Indexed}
use Rattle.links.specs.Finding.{Within, objects_at, held_at, ObjectAt, RowsPut}
use Rattle.links.specs.FindingLaws.{within_end, held_first, some_end}
use Rattle.links.proofs.RowLaws.{Partly, partly_none, partly_more, partly_all}

-- the loop of `put_object`: the rows of the records before j are put
pub record Telling (b : List ℕ) (i entry object w : ℕ) (a c : List ℕ) (o j q : ℕ) : Type 0 where
  pub within : Within b j
  pub few : q ≤ o + 128 * j
  pub partly : Partly w a c o q (object_rows (objects_at b 0) object entry (held_at b i)) (object_rows (objects_at b 0) object entry (held_at b j))

pub telling_none : {b : List ℕ} {i : ℕ} (entry object w : ℕ) (a : List ℕ) (o : ℕ) → Within b i → Telling b i entry object w a a o i o
telling_none entry object w a o v = record { within = v; few = omega arith; partly = partly_none w a o _ }

module _ {b : List ℕ} {i entry object w : ℕ} {a c : List ℕ} {o j q : ℕ} (p : Telling b i entry object w a c o j q) where
  -- no record is left
  pub telling_all : length b < j + 4 → RowsPut w a c o q (object_rows (objects_at b 0) object entry (held_at b i))
  unfolding held_from object_rows
  telling_all h = partly_all p.partly (rw (from_few b j h) refl)

  module _ {k : ℕ} {t : Bool} (v : k ≡ two b (j + 2)) (s : t ≡ closing k) where
    -- the record at j is none of the object's
    pub telling_closed : t ≡ true → j + 4 ≤ length b → RowsPut w a c o q (object_rows (objects_at b 0) object entry (held_at b i))
    unfolding object_rows
    telling_closed u h = partly_all p.partly (some_end b j h (λ e d. rw (held_first d, ← v, ← s, u) refl))

    -- the record at j states the link l
    module _ {e l : ℕ} (u : t ≡ false) (d : Ends b j e) (g : l ≡ states entry k) where
      pub telling_same : l ≡ 0 → Telling b i entry object w a c o e q
      unfolding object_rows record_rows
      telling_same z = record {
        within = within_end p.within d;
        few = omega arith;
        partly = rw (held_first d, ← v, ← s, u, ← g, eq-eqb l 0 z) at p.partly;
      }

      pub telling_more : {f : List ℕ} {r : ℕ} → (l ≡ 0 → ⊥) → RowsPut w c f q r (rows_of l object j (answers l (slice (j + 4) e b) 0 (objects_at b 0))) → r ≤ q + 128 → Telling b i entry object w a f o e r
      unfolding object_rows record_rows
      telling_more n x y = record {
        within = within_end p.within d;
        few = omega arith;
        partly = partly_more p.partly _ x (rw (held_first d, ← v, ← s, u, ← g, ne_eqb l 0 n) refl);
      }

-- the loop of `put_links`: the rows of the objects before i are put, which are k
pub record Linking (b : List ℕ) (n w : ℕ) (a c : List ℕ) (i q k : ℕ) : Type 0 where
  pub within : Within b i
  pub few : q ≤ 16777216 * k
  pub count : length (objects_at b i) + k ≡ n
  pub partly : Partly w a c 0 q (links_from (objects_at b 0) 0 (objects_at b 0)) (links_from (objects_at b 0) k (objects_at b i))

pub linking_none : {b : List ℕ} {x : Index} (w : ℕ) (a : List ℕ) → Indexed b x → Within b 0 → Linking b x.n w a a 0 0 0
linking_none w a g v = record { within = v; few = omega arith; count = omega (arith, g.entered.count); partly = partly_none w a 0 _ }

module _ {b : List ℕ} {n w : ℕ} {a c : List ℕ} {i q k : ℕ} (p : Linking b n w a c i q k) where
  -- no object is left
  pub linking_out : objects_at b i ≡ [] → RowsPut w a c 0 q (links_from (objects_at b 0) 0 (objects_at b 0))
  unfolding links_from
  linking_out e = partly_all p.partly (rw e refl)

  pub linking_all : n ≤ k → RowsPut w a c 0 q (links_from (objects_at b 0) 0 (objects_at b 0))
  linking_all h = linking_out (none (objects_at b i) (omega arith))
    where
      none : (os : List Object) → length os ≡ 0 → os ≡ []
      none [] e = refl
      none (o ∷ os) e = absurd (omega arith)

  pub linking_next : {j e tag r : ℕ} {d : List ℕ} → ObjectAt b i j → Ends b j e → tag ≡ get_or (slice (j + 4) e b) 0 0 → RowsPut w c d q r (object_rows (objects_at b 0) k tag (held_at b e)) → r ≤ q + 16777216 → Linking b n w a d e r (k + 1)
  unfolding links_from
  linking_next {e = e} x y g f m = record {
    within = within_end p.within y;
    few = omega (arith, p.few);
    count = let z = rw (x.is e y) at p.count in omega arith;
    partly = partly_more p.partly _ f (rw (add-one, x.is e y, g) refl);
  }
