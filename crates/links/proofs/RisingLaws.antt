-- The rows of the list rise (demand 3).
use Prim.Native.Nat.{ℕ, suc, ◌<◌, ◌≤◌}
use Rattle.std.specs.Prelude.{◌≡◌, ◌⊎◌, Bool, eqb}
use Rattle.std.proofs.Math.Path.{refl}
use Rattle.std.proofs.Math.Logic.{inl}
use Rattle.std.proofs.Common.{inr}
use mathlib.Core.List.Memᴰ
use mathlib.Core.List.{List, [], ◌∷◌, ◌++◌, map, Memᴰ}
use Rattle.std.proofs.Math.Bool.{true, false}
use native.Mathlib.Omega.{arith}
use Rattle.std.proofs.Math.ListN.{get_or}
use Rattle.elements.specs.Choice.{choose}
use Rattle.rules.specs.Reading.{Rec}
use Rattle.rules.specs.Blocks.{closing}
use Rattle.links.specs.Links.{Held, held, Object, past, held_from, objects_from, objects_of, states, bears, answers, by, Row, row, rows_of, record_rows, object_rows, links_from, links, Before, Rises}
use Rattle.links.specs.WholeLaws.{not_closing}
use Rattle.links.proofs.AnswerLaws.{stated_are}

rises_append : (a b : List Row) → Rises a → Rises b → ((r q : Row) → Memᴰ r a → Memᴰ q b → Before r q) → Rises (a ++ b)
rises_append [] b f g h = g
rises_append (r ∷ a) b f g h = (λ q m. go q (Memᴰ.append_cases a m), rises_append a b f.1 g (λ s q m n. h s q (Memᴰ.tail m) n))
  where
    go : (q : Row) → Memᴰ q a ⊎ Memᴰ q b → Before r q
    go q (inl m) = f.0 q m
    go q (inr m) = h r q (Memᴰ.head refl) m

-- answers rise
abbrev Climbs : List ℕ → Type 0
Climbs [] = Unit {0}
Climbs (j ∷ js) = ((k : ℕ) → Memᴰ k js → j < k) × Climbs js

module _ (link : ℕ) (x : List ℕ) where
  answers_from_lem : (k : ℕ) (os : List Object) (j : ℕ) → Memᴰ j (answers link x k os) → k ≤ j
  unfolding answers
  answers_from_lem k [] j m = absurd (Memᴰ.not-nil m)
  answers_from_lem k (o ∷ os) j m = go (bears link x o) (answers_from_lem (suc k) os j) m
    where
      go : (t : Bool) → (Memᴰ j (answers link x (suc k) os) → suc k ≤ j) → Memᴰ j (choose t (λ _. k ∷ answers link x (suc k) os) (λ _. answers link x (suc k) os)) → k ≤ j
      go true i (Memᴰ.head q) = omega arith
      go true i (Memᴰ.tail n) = omega (arith, i n)
      go false i n = omega (arith, i n)

  answers_climb : (k : ℕ) (os : List Object) → Climbs (answers link x k os)
  unfolding answers
  answers_climb k [] = tt
  answers_climb k (o ∷ os) = go (bears link x o) (answers_climb (suc k) os)
    where
      go : (t : Bool) → Climbs (answers link x (suc k) os) → Climbs (choose t (λ _. k ∷ answers link x (suc k) os) (λ _. answers link x (suc k) os))
      go true c = (λ j m. answers_from_lem (suc k) os j m, c)
      go false c = c

rows_rise : (l i p : ℕ) (js : List ℕ) → Climbs js → Rises (map (row l i p) (map by js))
rows_rise l i p [] c = tt
rows_rise l i p (j ∷ js) c = (go, rows_rise l i p js c.1)
  where
    go : (q : Row) → Memᴰ q (map (row l i p) (map by js)) → Before (row l i p (by j)) q
    go q m =
        let w = Memᴰ.of_map (row l i p) (map by js) m in
        let v = Memᴰ.of_map by js w.1 in
        rw (← w.2, ← v.2) (inr (refl, c.0 v.0 v.1))

replies_rise : (l i p : ℕ) (js : List ℕ) → Climbs js → Rises (rows_of l i p js)
replies_rise l i p [] c = (λ q m. absurd (Memᴰ.not-nil m), tt)
replies_rise l i p (j ∷ js) c = rows_rise l i p (j ∷ js) c

module _ (os : List Object) where
  stated_rise : (i entry : ℕ) (h : Held) → Rises (record_rows os i entry h)
  unfolding record_rows
  stated_rise i entry h = go (eqb (states entry h.kind) 0)
    where
      go : (t : Bool) → Rises (choose t (λ _. []) (λ _. rows_of (states entry h.kind) i h.at (answers (states entry h.kind) h.pay 0 os)))
      go true = tt
      go false = replies_rise (states entry h.kind) i h.at (answers (states entry h.kind) h.pay 0 os) (answers_climb (states entry h.kind) h.pay 0 os)

  -- an object's rows lie from its records on
  object_from : (i entry at : ℕ) (rs : List Rec) (q : Row) → Memᴰ q (object_rows os i entry (held_from at rs)) → at ≤ q.at
  unfolding object_rows held_from
  object_from i entry at [] q m = absurd (Memᴰ.not-nil m)
  object_from i entry at (r ∷ rs) q m = go (closing r.kind) (object_from i entry (past at r) rs q) m
    where
      go : (t : Bool) → (Memᴰ q (object_rows os i entry (held_from (past at r) rs)) → past at r ≤ q.at) → Memᴰ q (object_rows os i entry (choose t (λ _. []) (λ _. held at r.kind r.pay ∷ held_from (past at r) rs))) → at ≤ q.at
      go true f n = absurd (Memᴰ.not-nil n)
      go false f n = which (Memᴰ.append_cases (record_rows os i entry (held at r.kind r.pay)) n)
        where
          which : Memᴰ q (record_rows os i entry (held at r.kind r.pay)) ⊎ Memᴰ q (object_rows os i entry (held_from (past at r) rs)) → at ≤ q.at
          which (inl v) = omega (arith, ((stated_are os i entry (held at r.kind r.pay) q).0 v).at)
          which (inr v) = omega (arith, f v)

  links_from_lem : (k at : ℕ) (rs : List Rec) (q : Row) → Memᴰ q (links_from os k (objects_from at rs)) → at ≤ q.at
  unfolding links_from objects_from
  links_from_lem k at [] q m = absurd (Memᴰ.not-nil m)
  links_from_lem k at (r ∷ rs) q m = go (eqb r.kind 0x0120) (links_from_lem (suc k) (past at r) rs q) (links_from_lem k (past at r) rs q) m
    where
      o : Object
      o = record { entry = get_or r.pay 0 0; records = held_from (past at r) rs }

      go : (t : Bool) → (Memᴰ q (links_from os (suc k) (objects_from (past at r) rs)) → past at r ≤ q.at) → (Memᴰ q (links_from os k (objects_from (past at r) rs)) → past at r ≤ q.at) → Memᴰ q (links_from os k (choose t (λ _. o ∷ objects_from (past at r) rs) (λ _. objects_from (past at r) rs))) → at ≤ q.at
      go true f g n = which (Memᴰ.append_cases (object_rows os k o.entry o.records) n)
        where
          which : Memᴰ q (object_rows os k o.entry o.records) ⊎ Memᴰ q (links_from os (suc k) (objects_from (past at r) rs)) → at ≤ q.at
          which (inl v) = omega (arith, object_from k o.entry (past at r) rs q v)
          which (inr v) = omega (arith, f v)
      go false f g n = omega (arith, g n)

  -- an object's rows come before those of the objects behind it
  apart : (i entry k at : ℕ) (rs : List Rec) (r q : Row) → Memᴰ r (object_rows os i entry (held_from at rs)) → Memᴰ q (links_from os k (objects_from at rs)) → r.at < q.at
  unfolding object_rows held_from objects_from
  apart i entry k at [] r q m n = absurd (Memᴰ.not-nil m)
  apart i entry k at (c ∷ rs) r q m n = go (closing c.kind) refl (apart i entry k (past at c) rs r q) m
    where
      go : (t : Bool) → closing c.kind ≡ t → (Memᴰ r (object_rows os i entry (held_from (past at c) rs)) → Memᴰ q (links_from os k (objects_from (past at c) rs)) → r.at < q.at) →
          Memᴰ r (object_rows os i entry (choose t (λ _. []) (λ _. held at c.kind c.pay ∷ held_from (past at c) rs))) → r.at < q.at
      go true e f v = absurd (Memᴰ.not-nil v)
      go false e f v = which (Memᴰ.append_cases (record_rows os i entry (held at c.kind c.pay)) v)
        where
          n' : Memᴰ q (links_from os k (objects_from (past at c) rs))
          n' = rw (not_closing c.kind e) at n

          which : Memᴰ r (record_rows os i entry (held at c.kind c.pay)) ⊎ Memᴰ r (object_rows os i entry (held_from (past at c) rs)) → r.at < q.at
          which (inl w) = omega (arith, ((stated_are os i entry (held at c.kind c.pay) r).0 w).at, links_from_lem k (past at c) rs q n')
          which (inr w) = f w n'

  object_rise : (i entry at : ℕ) (rs : List Rec) → Rises (object_rows os i entry (held_from at rs))
  unfolding object_rows held_from
  object_rise i entry at [] = tt
  object_rise i entry at (r ∷ rs) = go (closing r.kind) (object_rise i entry (past at r) rs)
    where
      go : (t : Bool) → Rises (object_rows os i entry (held_from (past at r) rs)) → Rises (object_rows os i entry (choose t (λ _. []) (λ _. held at r.kind r.pay ∷ held_from (past at r) rs)))
      go true f = tt
      go false f = rises_append (record_rows os i entry (held at r.kind r.pay)) (object_rows os i entry (held_from (past at r) rs)) (stated_rise i entry (held at r.kind r.pay)) f
          (λ s q m n. inl (omega (arith, ((stated_are os i entry (held at r.kind r.pay) s).0 m).at, object_from i entry (past at r) rs q n)))

  links_rise : (k at : ℕ) (rs : List Rec) → Rises (links_from os k (objects_from at rs))
  unfolding links_from objects_from
  links_rise k at [] = tt
  links_rise k at (r ∷ rs) = go (eqb r.kind 0x0120) (links_rise (suc k) (past at r) rs) (links_rise k (past at r) rs)
    where
      o : Object
      o = record { entry = get_or r.pay 0 0; records = held_from (past at r) rs }

      go : (t : Bool) → Rises (links_from os (suc k) (objects_from (past at r) rs)) → Rises (links_from os k (objects_from (past at r) rs)) → Rises (links_from os k (choose t (λ _. o ∷ objects_from (past at r) rs) (λ _. objects_from (past at r) rs)))
      go true f g = rises_append (object_rows os k o.entry o.records) (links_from os (suc k) (objects_from (past at r) rs)) (object_rise k o.entry (past at r) rs) f (λ s q m n. inl (apart k o.entry (suc k) (past at r) rs s q m n))
      go false f g = g

-- all rows
pub rows_rising : (rs : List Rec) → Rises (links rs)
unfolding links
rows_rising rs = links_rise (objects_of rs) 0 0 rs
