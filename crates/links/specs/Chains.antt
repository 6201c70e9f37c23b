-- Objects whose identifiers have the same key form a chain; an identifier's answers are in the chain of its key.
use Prim.Native.Nat.{ℕ, ◌+◌, ◌-◌, ◌<◌, ◌≤◌}
use Rattle.std.specs.Prelude.{◌≡◌, length, get_or, replicate, Option, Some, None, unwrap_or}
use mathlib.Core.List.{List}
use native.Mathlib.Omega.{arith}
use Rattle.std.proofs.lemmas.List.{get_or-replicate}
use Rattle.links.specs.Links.{Found, none, found}
use Rattle.links.specs.declared.index.Index.{Index}
use Rattle.links.specs.Finding.{id_at, Entered}

-- the key of an identifier: its last byte, 0 if it is empty; 256 where there is none
unfoldable pub key_of : List ℕ → ℕ
key_of x = get_or x (length x - 1) 0

abbrev pub key_in : Found → ℕ
key_in none = 256
key_in (found h) = key_of h.pay

-- of object j's
unfoldable pub key_at : List ℕ → ℕ → ℕ
key_at b j = key_in (id_at b j)

-- r is the key of the identifier x
pub record Key (x : List ℕ) (r : ℕ) : Type 0 where
  pub is : key_of x ≡ r
  pub small : r < 256

-- of the n objects, r is the first one from i on with this key, if there is one
pub record Leads (b : List ℕ) (n key i : ℕ) (r : Option ℕ) : Type 0 where
  pub low : i ≤ unwrap_or r n
  pub skips : (k : ℕ) → i ≤ k → k < unwrap_or r n → key_at b k ≡ key → ⊥
  pub here : (j : ℕ) → r ≡ Some j → (j < n) × (key_at b j ≡ key)

-- no chain has begun
pub record Blank (firsts : List (Option ℕ)) : Type 0 where
  pub none : (h : ℕ) → h < 256 → get_or firsts h None ≡ None

-- as the array is made
pub blank : Blank (replicate 256 None)
blank = record { none = λ h l. get_or-replicate 256 h None None (omega arith) }

-- the chains of the objects from i on: the first one of each key, and the one of its key after each object
pub record Chained (b : List ℕ) (x : Index) (i : ℕ) : Type 0 where
  pub long : x.n ≤ length x.nexts
  pub first : (h : ℕ) → h < 256 → Leads b x.n h i (get_or x.firsts h None)
  pub next : (j h : ℕ) → i ≤ j → j < x.n → h < 256 → key_at b j ≡ h → Leads b x.n h (j + 1) (get_or x.nexts j None)

-- an index of all objects
pub record Indexed (b : List ℕ) (x : Index) : Type 0 where
  pub entered : Entered b x
  pub chained : Chained b x 0
