-- field and field_place agree: a field is where it is told to be.
use Rattle.std.specs.Prelude.{ℕ, zero, suc, ◌+◌, ◌-◌, ◌^◌, ◌<◌, ◌≤◌, refl, Bool, true, false, ◌&&◌, List, [], ◌∷◌, take, drop, leb, eqb}
use Rattle.std.proofs.Math.Path.{◌≡◌}
use Rattle.std.proofs.Common.{sym, ◌∙◌, arith, leb-true, leb-false, Fits}
use Rattle.std.proofs.Math.ListN.{length}
use Rattle.std.proofs.Math.Seq.{slice, length-slice}
use Rattle.std.specs.Int.{w64}
use Rattle.elements.specs.Choice.{choose}
use Rattle.elements.specs.Lists.{lent}
use Rattle.elements.specs.declared.fault.Fault.{Fault}
use Rattle.elements.specs.declared.fault.Fault.TheVariants.{NoDump}
use Rattle.rules.specs.Files.{two}
use Rattle.rules.specs.Book.{records, records_from, Ends}
use Rattle.rules.specs.BookLaws.{from_few}
use Rattle.rules.specs.Write.{Written, written, no_book, write_dump}
use Rattle.rules.specs.Blocks.{closing}
use Rattle.elements.specs.Answer as code
use Rattle.links.specs.Links.{Held, held_from, objects_from, Found, none, found, first_of, object_at, field_in, field_of}
use Rattle.links.specs.Finding.{objects_at, held_at, object_there, held_there}
use Rattle.links.specs.FindingLaws.{from_start, objects_first, held_first, some_end}
use Rattle.links.specs.Serving.{Sought, at_place, same_place, if_book, place_of, placing, PlaceTold, pay_of, handing, FieldTold}

-- every record is in its place
pub record InPlace (b : List ℕ) (h : Held) : Type 0 where
  pub within : h.at + 4 + length h.pay ≤ length b
  pub is : slice (h.at + 4) (h.at + 4 + length h.pay) b ≡ h.pay

there_in_place : (b : List ℕ) (i e : ℕ) → Ends b i e → InPlace b (held_there b i e)
there_in_place b i e w =
    let l : i + 4 + length (slice (i + 4) e b) ≡ e = omega (arith, length-slice (i + 4) e b w.high, w.low) in
    record { within = omega (arith, w.high); is = rw l refl }

-- what is found is in its place: among an object's records, and in any object
data Placed (b : List ℕ) : Found → Type 0 where
  nowhere : Placed b none
  somewhere : {h : Held} → InPlace b h → Placed b (found h)

placed_test : {b : List ℕ} (t : Bool) {x y : Found} → Placed b x → Placed b y → Placed b (choose t (λ _. x) (λ _. y))
placed_test true f g = f
placed_test false f g = g

-- a property of what is found from i on: it holds where no record is, and it carries over from behind a record
by_records : (b : List ℕ) (P : ℕ → Type 0) → ((i : ℕ) → records_from b i ≡ [] → P i) → ((i e : ℕ) → Ends b i e → P e → P i) → (g i : ℕ) → length b ≤ g + i → P i
by_records b P out step zero i l = out i (from_few b i (omega arith))
by_records b P out step (suc g) i l = go (leb (i + 4) (length b)) refl (λ e m. by_records b P out step g e m)
  where
    go : (t : Bool) → leb (i + 4) (length b) ≡ t → ((e : ℕ) → length b ≤ g + e → P e) → P i
    go true q f = some_end b i (leb-true (i + 4) (length b) q) (λ e w. step i e w (f e (omega (arith, w.low))))
    go false q f = out i (from_few b i (leb-false (i + 4) (length b) q))

first_placed : (b : List ℕ) (k i : ℕ) → Placed b (first_of k (held_at b i))
unfolding first_of held_from
first_placed b k i = by_records b (λ j. Placed b (first_of k (held_at b j))) (λ j q. rw q nowhere) step (length b) i (omega arith)
  where
    go : (j e : ℕ) → Ends b j e → (t : Bool) → Placed b (first_of k (held_at b e)) → Placed b (first_of k (choose t (λ _. []) (λ _. held_there b j e ∷ held_at b e)))
    go j e w true f = nowhere
    go j e w false f = placed_test (eqb (two b (j + 2)) k) (somewhere (there_in_place b j e w)) f

    step : (j e : ℕ) → Ends b j e → Placed b (first_of k (held_at b e)) → Placed b (first_of k (held_at b j))
    step j e w f = rw (held_first w) (go j e w (closing (two b (j + 2))) f)

field_placed : (b : List ℕ) (k i n : ℕ) → Placed b (field_in k (object_at (objects_at b i) n))
unfolding objects_from
field_placed b k i n = by_records b (λ j. (m : ℕ) → Placed b (field_in k (object_at (objects_at b j) m))) (λ j q m. rw q nowhere) step (length b) i (omega arith) n
  where
    go : (j e : ℕ) → (t : Bool) → ((m : ℕ) → Placed b (field_in k (object_at (objects_at b e) m))) → (m : ℕ) → Placed b (field_in k (object_at (choose t (λ _. object_there b j e ∷ objects_at b e) (λ _. objects_at b e)) m))
    go j e true f zero = first_placed b k e
    go j e true f (suc m) = f m
    go j e false f m = f m

    step : (j e : ℕ) → Ends b j e → ((m : ℕ) → Placed b (field_in k (object_at (objects_at b e) m))) → (m : ℕ) → Placed b (field_in k (object_at (objects_at b j) m))
    step j e w f m = rw (objects_first w) (go j e (eqb (two b (j + 2)) 0x0120) f m)

-- a field of a book is in its place
book_placed : (b : List ℕ) (i k : ℕ) → Placed b (field_of i k (records b))
unfolding field_of
book_placed b i k = placed_test (leb 0x0121 k && leb k 0x01ff) (rw (from_start b) at (field_placed b k 0 i)) nowhere

-- where a field is told to be, there it is
module _ {b : List ℕ} {i k : ℕ} {r : Sought} (t : PlaceTold b i k r) {p n : ℕ} (e : r ≡ at_place p n) where
  handed : (p + n ≤ length b) × (slice p (p + n) b ≡ handing b i k)
  unfolding placing handing
  handed = go (write_dump b) (book_placed b i k) (sym e ∙ t.is)
    where
      go : (v : Written) {f : Found} → Placed b f → at_place p n ≡ if_book v (place_of f) (code.refused NoDump 0) → (p + n ≤ length b) × (slice p (p + n) b ≡ if_book v (pay_of f) [])
      go no_book w q = absurd (let z : ◌≡◌ {A = ℕ} 0 1 = cc in omega arith)
      go (written d) nowhere q = absurd (let z : ◌≡◌ {A = ℕ} 0 1 = cc in omega arith)
      go (written d) (somewhere {h = h} w) q =
          let x = same_place q in
          (omega (arith, w.within, x.0, x.1), rw (x.0, x.1) w.is)

  pub handed_fits : p + n ≤ length b
  handed_fits = handed.0

  pub handed_sum : length b < 2 ^ 64 → Fits w64 (p + n)
  handed_sum h = record { fits = omega (arith, handed_fits) }

  pub handed_part : FieldTold b i k (take (p + n - p) (drop p b))
  handed_part = record { is = lent p (p + n) b ∙ handed.1 }

-- and where it is refused, nothing is handed back
pub handed_none : {b : List ℕ} {i k : ℕ} {r : Sought} → PlaceTold b i k r → {f : Fault} {p : ℕ} → r ≡ code.refused f p → FieldTold b i k []
unfolding placing handing
handed_none {b} {i} {k} {r} t {f} {p} e = record { is = go (write_dump b) (field_of i k (records b)) (sym e ∙ t.is) }
  where
    go : (v : Written) (x : Found) → code.refused f p ≡ if_book v (place_of x) (code.refused NoDump 0) → [] ≡ if_book v (pay_of x) []
    go no_book x q = refl
    go (written d) none q = refl
    go (written d) (found h) q = absurd (let z : ◌≡◌ {A = ℕ} 0 1 = cc in omega arith)

-- what field hands back is the part that field_place tells
pub same_part : {b x : List ℕ} {i k p n : ℕ} → FieldTold b i k x → PlaceTold b i k (at_place p n) → x ≡ slice p (p + n) b
same_part {b} {p = p} {n = n} f t = f.is ∙ sym (handed t refl).1

-- and nothing where field_place refuses
pub no_part : {b x : List ℕ} {i k p : ℕ} {f : Fault} → FieldTold b i k x → PlaceTold b i k (code.refused f p) → x ≡ []
no_part g t = g.is ∙ sym (handed_none t refl).is
