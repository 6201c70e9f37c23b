-- Where a value stands, sought record by record; whether there is an object of the class, entry by entry.
use Prim.Native.Nat.{ℕ, ◌+◌, ◌<◌, ◌≤◌}
use mathlib.Core.Path.{◌≡◌, refl, sym, ◌∙◌}
use mathlib.Core.List.{List, []}
use mathlib.Core.Bool.{Bool, true, false, true≢false}
use native.Mathlib.Omega.{arith}
use lib.ListN.{length, get_or, take}
use Rattle.std.proofs.lemmas.List.{get_or-take, length-take-le}
use Rattle.std.specs.Prelude.{Option, Some, None, is_some}
use lib.Seq.{slice}
use Rattle.rules.specs.Files.{two, equal}
use Rattle.rules.specs.Book.{Ends}
use Rattle.rules.specs.BookLaws.{from_few, one_end}
use Rattle.rules.specs.Blocks.{closing}
use Rattle.links.specs.Links.{Object, held_from, answering, Found, chosen, object_at}
use Rattle.links.specs.declared.index.Entry.{Entry}
use Rattle.links.specs.declared.index.Index.{Index}
use Rattle.links.specs.Finding.{Within, objects_at, held_at, ObjectAt, FoundAt, entry_at}
use Rattle.links.specs.Chains.{Indexed}
use Rattle.links.specs.FindingLaws.{within_end, held_first, some_end, at_number}
use Rattle.links.specs.Told.{at_below}
use Rattle.why.specs.Why.{peopled, aside, stands_in, stands}
use Rattle.why.specs.Whys.{PeopledTold}
use Rattle.why.specs.WhyFacts.{peopled_some, peopled_none}

-- the loop of `stands_in`: the record sought is not before j
pub record Standing (b : List ℕ) (link entry : ℕ) (x : List ℕ) (j : ℕ) (f : Found) : Type 0 where
  pub within : Within b j
  pub comes : f ≡ stands_in link x entry (held_at b j)

module _ {b : List ℕ} {link entry : ℕ} {x : List ℕ} {j : ℕ} {f : Found} (w : Standing b link entry x j f) where
  pub standing_all : length b < j + 4 → FoundAt b f None
  unfolding held_from stands_in
  standing_all h = w.comes ∙ rw (from_few b j h) refl

  module _ {c : ℕ} (q : c ≡ two b (j + 2)) {t : Bool} (s : t ≡ closing c) where
    pub standing_closed : t ≡ true → j + 4 ≤ length b → FoundAt b f None
    unfolding stands_in
    standing_closed u h = w.comes ∙ some_end b j h (λ e d. rw (held_first d, ← q, ← s, u) refl)

    module _ (u : t ≡ false) {m : ℕ} (d : Ends b j m) {a : Bool} (v : a ≡ aside link entry c) where
      pub standing_found : {z : Bool} → a ≡ true → z ≡ equal x (slice (j + 4) m b) → z ≡ true → j + 4 ≤ length b → FoundAt b f (Some j)
      unfolding stands_in
      standing_found g n y h = record {
        inside = h;
        is = λ e k. w.comes ∙ rw (held_first k, ← q, ← s, u, ← v, g, ← one_end d k, ← n, y) refl;
      }

      pub standing_other : {z : Bool} → a ≡ true → z ≡ equal x (slice (j + 4) m b) → z ≡ false → Standing b link entry x m f
      unfolding stands_in
      standing_other g n y = record { within = within_end w.within d; comes = w.comes ∙ rw (held_first d, ← q, ← s, u, ← v, g, ← n, y) refl }

      pub standing_next : a ≡ false → Standing b link entry x m f
      unfolding stands_in
      standing_next g = record { within = within_end w.within d; comes = w.comes ∙ rw (held_first d, ← q, ← s, u, ← v, g) refl }

-- the loop of `stands`: it does not stand in an object before i
pub record Roaming (b : List ℕ) (link : ℕ) (x : List ℕ) (i : ℕ) (f : Found) : Type 0 where
  pub within : Within b i
  pub comes : f ≡ stands link x (objects_at b i)

module _ {b : List ℕ} {link : ℕ} {x : List ℕ} {i : ℕ} {f : Found} (w : Roaming b link x i f) where
  pub roaming_all : objects_at b i ≡ [] → FoundAt b f None
  unfolding stands
  roaming_all e = w.comes ∙ rw e refl

  module _ {j e entry : ℕ} (r : Option ℕ) (n : ObjectAt b i j) (d : Ends b j e) (q : entry ≡ get_or (slice (j + 4) e b) 0 0) (k : FoundAt b (stands_in link x entry (held_at b e)) r) where
    pub roaming_found : is_some r ≡ true → FoundAt b f r
    unfolding stands
    roaming_found = go r k
      where
        go : (p : Option ℕ) → FoundAt b (stands_in link x entry (held_at b e)) p → is_some p ≡ true → FoundAt b f p
        go None y z = absurd (true≢false (sym z))
        go (Some p) y z = record { inside = y.inside; is = λ m g. w.comes ∙ rw (n.is e d, ← q, y.is m g) refl }

    pub roaming_next : is_some r ≡ false → Roaming b link x e f
    unfolding stands
    roaming_next = go r k
      where
        go : (p : Option ℕ) → FoundAt b (stands_in link x entry (held_at b e)) p → is_some p ≡ false → Roaming b link x e f
        go None y z = record { within = within_end w.within d; comes = w.comes ∙ rw (n.is e d, ← q, y) refl }
        go (Some p) y z = absurd (true≢false z)

-- the loop of `is_peopled`: no entry before j is of the class
pub record Peopling (link : ℕ) (entries : List Entry) (j : ℕ) : Type 0 where
  pub none : (k : ℕ) → k < j → answering link (entry_at entries k).tag ≡ false

-- the entries are the objects'
pub peopled_told : {b : List ℕ} {x : Index} {link : ℕ} {r : Bool} → Indexed b x → PeopledTold link (take x.n x.entries) r → r ≡ peopled link (objects_at b 0)
peopled_told {b} {x} {link} {r} g w = go r refl (peopled link (objects_at b 0)) refl
  where
    many : length (take x.n x.entries) ≡ x.n
    many = length-take-le x.n x.entries g.entered.entries.long

    tag : (j : ℕ) {o : Object} → object_at (objects_at b 0) j ≡ chosen o → o.entry ≡ (entry_at (take x.n x.entries) j).tag
    tag j e =
        let l = at_below (objects_at b 0) j e in
        rw (get_or-take x.n x.entries j (record { tag = 0; id = None }) (omega (arith, l, g.entered.count))) (rw e at (g.entered.entries.tags j (omega (arith, l, g.entered.count))))

    go : (t : Bool) → r ≡ t → (u : Bool) → peopled link (objects_at b 0) ≡ u → r ≡ u
    go true e true z = e
    go false e false z = e
    go true e false z =
        let s = w.some e in
        let o = at_number (objects_at b 0) s.0 (omega (arith, s.1, many, g.entered.count)) in
        absurd (peopled_none link (objects_at b 0) z (record { number = s.0; object = o.0; numbered = o.1; class = rw (tag s.0 o.1) s.2 }))
    go false e true z =
        let p = peopled_some link (objects_at b 0) z in
        let l = at_below (objects_at b 0) p.number p.numbered in
        absurd (true≢false (sym p.class ∙ rw (tag p.number p.numbered) (w.none e p.number (omega (arith, l, many, g.entered.count)))))
