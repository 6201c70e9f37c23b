-- The index of a book's objects, made object by object.
use Prim.Native.Nat.{ℕ, suc, ◌+◌, ◌<◌, ◌≤◌}
use mathlib.Core.Path.{◌≡◌, refl, sym, ap, ◌∙◌}
use mathlib.Core.List.{List, ◌∷◌}
use mathlib.Core.Bool.{Bool, true, false}
use native.Mathlib.Nat.{add-zero}
use native.Mathlib.Omega.{arith}
use lib.ListN.{length, get_or, set, length-set}
use lib.Seq.{slice, get_or-set_same, get_or-set_other}
use lib.Dec.{eqb}
use borrow.Author.Tests.{eqb-true, eqb-false}
use Rattle.std.specs.Prelude.{Option}
use Rattle.rules.specs.Book.{Ends}
use Rattle.links.specs.declared.index.Entry.{Entry}
use Rattle.links.specs.declared.index.Index.{Index}
use Rattle.links.specs.Links.{id_kind, first_of, chosen, object_at}
use Rattle.links.specs.Finding.{Within, objects_at, held_at, object_there, ObjectAt, FoundAt, tag_at, id_at, Entries}
use Rattle.links.specs.FindingLaws.{within_end}

-- what is read after a store: what was stored, or what was there
pub by_set : {A : Type 0} (d : A) (P : A → Type 0) (l : List A) (i : ℕ) (v : A) (k : ℕ) → i < length l → (k ≡ i → P v) → ((k ≡ i → ⊥) → P (get_or l k d)) → P (get_or (set l i v) k d)
by_set d P l i v k h f g = go (eqb k i) refl
  where
    go : (t : Bool) → eqb k i ≡ t → P (get_or (set l i v) k d)
    go true t = let e = eqb-true k i t in rw (e, get_or-set_same l i v d h) (f e)
    go false t = let n = eqb-false k i t in rw (get_or-set_other l i k v d n) (g n)

-- the loop of `enter`: n objects are entered, and those from place i on are left
pub record Entering (b : List ℕ) (x : Index) (n i : ℕ) : Type 0 where
  pub within : Within b i
  pub so_far : x.n ≡ n
  pub few : length (objects_at b 0) ≤ 128
  pub count : length (objects_at b 0) ≡ n + length (objects_at b i)
  pub left : (k : ℕ) → object_at (objects_at b 0) (n + k) ≡ object_at (objects_at b i) k
  pub entries : Entries b x.entries n

module _ {b : List ℕ} {x : Index} {n i : ℕ} (w : Entering b x n i) where
  -- one object more
  pub entering_next : {j e tag k : ℕ} {id : Option ℕ} → n < length x.entries → ObjectAt b i j → Ends b j e → tag ≡ get_or (slice (j + 4) e b) 0 0 → k ≡ id_kind tag → FoundAt b (first_of k (held_at b e)) id → (v : Entry) → v.tag ≡ tag → v.id ≡ id → Entering b (record x { entries = set x.entries n v; n = n + 1 }) (n + 1) e
  entering_next {j} {e} {tag} {k} {id} l o d q z f v y u = record {
    within = within_end w.within d;
    so_far = refl;
    few = w.few;
    count = omega (arith, ap length first, w.count);
    left = rest;
    entries = record {
      long = rw (length-set x.entries n v) (omega arith);
      tags = λ m g. by_set _ (λ (t : Entry). tag_at b m ≡ t.tag) x.entries n v m l (λ a. rw (a, here, y) (sym q)) (λ a. w.entries.tags m (omega arith));
      ids = λ m g. by_set _ (λ (t : Entry). FoundAt b (id_at b m) t.id) x.entries n v m l (λ a. rw (a, here, u, ← q, ← z) f) (λ a. w.entries.ids m (omega arith));
    };
  }
    where
      first : objects_at b i ≡ object_there b j e ∷ objects_at b e
      first = o.is e d

      rest : (m : ℕ) → object_at (objects_at b 0) (n + 1 + m) ≡ object_at (objects_at b e) m
      rest m =
          let s : n + 1 + m ≡ n + suc m = omega arith in
          rw s (w.left (suc m) ∙ rw first refl)

      here : object_at (objects_at b 0) n ≡ chosen (object_there b j e)
      here = rw add-zero at (w.left 0) ∙ rw first refl
