-- The record that states a row's link stands in the book's bytes.
use Prim.Native.Nat.{ℕ, zero, suc, ◌+◌, ◌<◌, ◌≤◌}
use mathlib.Core.Path.{◌≡◌, refl, ap, ◌∙◌}
use mathlib.Core.List.Memᴰ
use mathlib.Core.List.{List, [], ◌∷◌, Memᴰ}
use mathlib.Core.Bool.{Bool, true, false}
use native.Mathlib.Omega.{arith}
use lib.ListN.{length}
use lib.Seq.{slice}
use lib.Dec.{eqb}
use Rattle.elements.specs.Choice.{choose}
use Rattle.elements.specs.ChoiceLaws.{by_less}
use Rattle.rules.specs.Files.{two}
use Rattle.rules.specs.Book.{records, Ends}
use Rattle.rules.specs.BookLaws.{from_few, one_end}
use Rattle.rules.specs.Blocks.{closing}
use Rattle.links.specs.Links.{Held, held, Object, held_from, objects_from, Row, links, nobody, chosen, object_at}
use Rattle.links.specs.Finding.{objects_at, held_at, object_there, held_there}
use Rattle.links.specs.FindingLaws.{from_start, objects_first, held_first, some_end}
use Rattle.links.proofs.AnswerLaws.{rows_stated}
use Rattle.why.specs.Why.{value_in}
use Rattle.why.specs.RowFacts.{stated_value}

-- an object's records are those from some place on
records_from_lem : (b : List ℕ) (k i n : ℕ) {o : Object} → length b ≤ i + k → object_at (objects_at b i) n ≡ chosen o → (e : ℕ) × (o.records ≡ held_at b e)
unfolding objects_from
records_from_lem b zero i n {o} l q = let z : nobody ≡ chosen o = rw (from_few b i (omega arith)) at q in absurd (let y : ◌≡◌ {A = ℕ} 0 1 = cc in omega arith)
records_from_lem b (suc k) i n {o} l q = go (λ m j low z. records_from_lem b k m j low z)
  where
    go : ((m j : ℕ) → length b ≤ m + k → object_at (objects_at b m) j ≡ chosen o → (e : ℕ) × (o.records ≡ held_at b e)) → (e : ℕ) × (o.records ≡ held_at b e)
    go again = by_less (length b) (i + 4) few (λ h. some_end b i h (λ m d. step m d (eqb (two b (i + 2)) 0x0120) n (rw (objects_first d) at q)))
      where
        few : length b < i + 4 → (e : ℕ) × (o.records ≡ held_at b e)
        few h = let z : nobody ≡ chosen o = rw (from_few b i h) at q in absurd (let y : ◌≡◌ {A = ℕ} 0 1 = cc in omega arith)

        step : (m : ℕ) → Ends b i m → (t : Bool) (j : ℕ) → object_at (choose t (λ _. object_there b i m ∷ objects_at b m) (λ _. objects_at b m)) j ≡ chosen o → (e : ℕ) × (o.records ≡ held_at b e)
        step m d true zero z = let y : object_there b i m ≡ o = cc in (m, rw (← y) refl)
        step m d true (suc j) z = again m j (omega (arith, d.low)) z
        step m d false j z = again m j (omega (arith, d.low)) z

-- a record of an object's is where its offset says
held_there_lem : (b : List ℕ) (k i : ℕ) (h : Held) → length b ≤ i + k → Memᴰ h (held_at b i) → (h.at + 4 ≤ length b) × ((e : ℕ) → Ends b h.at e → h ≡ held_there b h.at e)
unfolding held_from
held_there_lem b zero i h l m = absurd (Memᴰ.not-nil (rw (from_few b i (omega arith)) at m))
held_there_lem b (suc k) i h l m = by_less (length b) (i + 4) (λ f. absurd (Memᴰ.not-nil (rw (from_few b i f) at m))) (more (λ e low n. held_there_lem b k e h low n))
  where
    There : Type 0
    There = (h.at + 4 ≤ length b) × ((e : ℕ) → Ends b h.at e → h ≡ held_there b h.at e)

    more : ((e : ℕ) → length b ≤ e + k → Memᴰ h (held_at b e) → There) → i + 4 ≤ length b → There
    more again f = some_end b i f (λ e d. go e d (closing (two b (i + 2))) (rw (held_first d) at m))
      where
        go : (e : ℕ) → Ends b i e → (t : Bool) → Memᴰ h (choose t (λ _. []) (λ _. held_there b i e ∷ held_at b e)) → There
        go e d true n = absurd (Memᴰ.not-nil n)
        go e d false (Memᴰ.head q) = rw q (f, λ g x. rw (one_end d x) refl)
        go e d false (Memᴰ.tail n) = again e (omega (arith, d.low)) n

-- so the value of a row of the list is what the record at its offset holds
module _ (b : List ℕ) (r : Row) (m : Memᴰ r (links (records b))) where
  pub record Stated : Type 0 where
    pub inside : r.at + 4 ≤ length b
    pub value : (e : ℕ) → Ends b r.at e → value_in r.at (object_at (objects_at b 0) r.object) ≡ slice (r.at + 4) e b

  pub stated : Stated
  stated =
      let w = rows_stated (records b) r m in
      let s = w.1 in
      let n : object_at (objects_at b 0) r.object ≡ chosen s.object = rw (from_start b) s.numbered in
      let p = records_from_lem b (length b) 0 r.object (omega arith) n in
      let h = held_there_lem b (length b) p.0 (held r.at s.kind w.0) (omega arith) (rw p.1 at s.holds) in
      let v : value_in r.at (object_at (objects_at b 0) r.object) ≡ w.0 = rw (from_start b) (stated_value (records b) r.link r.object r.at w.0 s) in
      record { inside = h.0; value = λ e d. v ∙ ap (λ (y : Held). y.pay) (h.1 e d) }
