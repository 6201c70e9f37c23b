-- Where a book's records stand: their offsets rise, so that a record is known by its offset, and an object by any of its records.
use Rattle.std.specs.Prelude.{ℕ, zero, suc, ◌≤◌, ◌<◌, ◌≡◌, refl, Bool, true, false, get_or, eqb}
use Rattle.std.proofs.Common.{sym, ap, ◌∙◌, arith, eq-eqb, ne_eqb}
use mathlib.Core.List.Memᴰ
use mathlib.Core.List.{List, [], ◌∷◌, Memᴰ}
use Rattle.elements.specs.Choice.{choose}
use Rattle.rules.specs.Reading.{Rec}
use Rattle.rules.specs.Blocks.{closing}
use Rattle.links.specs.Links.{Held, held, Object, past, held_from, objects_from, chosen, object_at}
use Rattle.links.specs.WholeLaws.{not_closing, held_all}
use Rattle.why.specs.Why.{pay_at}

-- ---- of all records
all_low : (at : ℕ) (rs : List Rec) (g : Held) → Memᴰ g (held_all at rs) → at ≤ g.at
unfolding held_all
all_low at [] g m = absurd (Memᴰ.not-nil m)
all_low at (r ∷ rs) g (Memᴰ.head q) = rw q (omega arith)
all_low at (r ∷ rs) g (Memᴰ.tail m) = omega (arith, all_low (past at r) rs g m)

pub one_held : (at : ℕ) (rs : List Rec) (h g : Held) → Memᴰ h (held_all at rs) → Memᴰ g (held_all at rs) → h.at ≡ g.at → h ≡ g
unfolding held_all
one_held at [] h g a b e = absurd (Memᴰ.not-nil a)
one_held at (r ∷ rs) h g (Memᴰ.head a) (Memᴰ.head b) e = a ∙ sym b
one_held at (r ∷ rs) h g (Memᴰ.head a) (Memᴰ.tail b) e = absurd (omega (arith, all_low (past at r) rs g b, ap (λ (y : Held). y.at) a))
one_held at (r ∷ rs) h g (Memᴰ.tail a) (Memᴰ.head b) e = absurd (omega (arith, all_low (past at r) rs h a, ap (λ (y : Held). y.at) b))
one_held at (r ∷ rs) h g (Memᴰ.tail a) (Memᴰ.tail b) e = one_held (past at r) rs h g a b e

-- ---- of an object's, from some place on
held_in : (at : ℕ) (rs : List Rec) (h : Held) → Memᴰ h (held_from at rs) → Memᴰ h (held_all at rs)
unfolding held_from held_all
held_in at [] h m = m
held_in at (r ∷ rs) h m = go (closing r.kind) (held_in (past at r) rs h) m
  where
    go : (t : Bool) → (Memᴰ h (held_from (past at r) rs) → Memᴰ h (held_all (past at r) rs)) → Memᴰ h (choose t (λ _. []) (λ _. held at r.kind r.pay ∷ held_from (past at r) rs)) → Memᴰ h (held at r.kind r.pay ∷ held_all (past at r) rs)
    go true f n = absurd (Memᴰ.not-nil n)
    go false f (Memᴰ.head q) = Memᴰ.head q
    go false f (Memᴰ.tail n) = Memᴰ.tail (f n)

pub held_low : (at : ℕ) (rs : List Rec) (g : Held) → Memᴰ g (held_from at rs) → at ≤ g.at
held_low at rs g m = all_low at rs g (held_in at rs g m)

-- what is held at an offset is found there
pub value_there : (at : ℕ) (rs : List Rec) (p kind : ℕ) (x : List ℕ) → Memᴰ (held p kind x) (held_from at rs) → pay_at p (held_from at rs) ≡ x
unfolding held_from pay_at
value_there at [] p kind x m = absurd (Memᴰ.not-nil m)
value_there at (r ∷ rs) p kind x m = go (closing r.kind) (value_there (past at r) rs p kind x) m
  where
    k : Held
    k = held at r.kind r.pay

    go : (t : Bool) → (Memᴰ (held p kind x) (held_from (past at r) rs) → pay_at p (held_from (past at r) rs) ≡ x) → Memᴰ (held p kind x) (choose t (λ _. []) (λ _. k ∷ held_from (past at r) rs)) → pay_at p (choose t (λ _. []) (λ _. k ∷ held_from (past at r) rs)) ≡ x
    go true f n = absurd (Memᴰ.not-nil n)
    go false f (Memᴰ.head y) = rw (eq-eqb at p (sym (ap (λ (z : Held). z.at) y))) (sym (ap (λ (z : Held). z.pay) y))
    go false f (Memᴰ.tail y) = rw (ne_eqb at p (λ z. absurd (omega (arith, held_low (past at r) rs (held p kind x) y)))) (f y)

-- ---- of the objects
-- an object's records are those from some place on, and stand in the book
pub record Laid (from : ℕ) (rs : List Rec) (o : Object) : Type 0 where
  pub at : ℕ
  pub rest : List Rec
  pub are : o.records ≡ held_from at rest
  pub within : (h : Held) → Memᴰ h o.records → Memᴰ h (held_all from rs)

pub laid : (at : ℕ) (rs : List Rec) (n : ℕ) {o : Object} → object_at (objects_from at rs) n ≡ chosen o → Laid at rs o
unfolding objects_from held_all
laid at [] n e = absurd (let z : ◌≡◌ {A = ℕ} 0 1 = cc in omega arith)
laid at (r ∷ rs) n {o} e = go (eqb r.kind 0x0120) (λ k q. later (laid (past at r) rs k q)) n e
  where
    p : Object
    p = record { entry = get_or r.pay 0 0; records = held_from (past at r) rs }

    behind : List Object
    behind = objects_from (past at r) rs

    later : Laid (past at r) rs o → Laid at (r ∷ rs) o
    later l = record { at = l.at; rest = l.rest; are = l.are; within = λ h m. Memᴰ.tail (l.within h m) }

    go : (t : Bool) → ((k : ℕ) → object_at behind k ≡ chosen o → Laid at (r ∷ rs) o) → (k : ℕ) → object_at (choose t (λ _. p ∷ behind) (λ _. behind)) k ≡ chosen o → Laid at (r ∷ rs) o
    go false f k q = f k q
    go true f zero q = let y : p ≡ o = cc in record { at = past at r; rest = rs; are = rw (← y) refl; within = λ h m. Memᴰ.tail (held_in (past at r) rs h (rw (← y) at m)) }
    go true f (suc k) q = f k q

-- an object's records stand before those of the objects behind it
pub apart : (at : ℕ) (rs : List Rec) (h : Held) (n : ℕ) {o : Object} (g : Held) → Memᴰ h (held_from at rs) → object_at (objects_from at rs) n ≡ chosen o → Memᴰ g o.records → h.at < g.at
unfolding held_from objects_from
apart at [] h n g m e w = absurd (Memᴰ.not-nil m)
apart at (c ∷ rs) h n {o} g m e w = go (closing c.kind) refl (λ v q. apart (past at c) rs h n g v q w) m
  where
    go : (t : Bool) → closing c.kind ≡ t → (Memᴰ h (held_from (past at c) rs) → object_at (objects_from (past at c) rs) n ≡ chosen o → h.at < g.at) →
        Memᴰ h (choose t (λ _. []) (λ _. held at c.kind c.pay ∷ held_from (past at c) rs)) → h.at < g.at
    go true z f v = absurd (Memᴰ.not-nil v)
    go false z f (Memᴰ.head q) = rw q (omega (arith, all_low (past at c) rs g ((laid (past at c) rs n (rw (not_closing c.kind z) at e)).within g w)))
    go false z f (Memᴰ.tail v) = f v (rw (not_closing c.kind z) at e)

-- so no record is that of two
pub one_object : (at : ℕ) (rs : List Rec) (n m : ℕ) {o q : Object} (h : Held) → object_at (objects_from at rs) n ≡ chosen o → object_at (objects_from at rs) m ≡ chosen q → Memᴰ h o.records → Memᴰ h q.records → o ≡ q
unfolding objects_from
one_object at [] n m h a b v w = absurd (let z : ◌≡◌ {A = ℕ} 0 1 = cc in omega arith)
one_object at (r ∷ rs) n m {o} {q} h a b v w = go (eqb r.kind 0x0120) (λ i j c d. one_object (past at r) rs i j h c d v w) n m a b
  where
    p : Object
    p = record { entry = get_or r.pay 0 0; records = held_from (past at r) rs }

    behind : List Object
    behind = objects_from (past at r) rs

    go : (t : Bool) → ((i j : ℕ) → object_at behind i ≡ chosen o → object_at behind j ≡ chosen q → o ≡ q) → (i j : ℕ) → object_at (choose t (λ _. p ∷ behind) (λ _. behind)) i ≡ chosen o → object_at (choose t (λ _. p ∷ behind) (λ _. behind)) j ≡ chosen q → o ≡ q
    go false f i j c d = f i j c d
    go true f zero zero c d = let y : p ≡ o = cc in let z : p ≡ q = cc in sym y ∙ z
    go true f zero (suc j) c d = let y : p ≡ o = cc in absurd (omega (arith, apart (past at r) rs h j h (rw (← y) at v) d w))
    go true f (suc i) zero c d = let z : p ≡ q = cc in absurd (omega (arith, apart (past at r) rs h i h (rw (← z) at w) c v))
    go true f (suc i) (suc j) c d = f i j c d
