-- "Each answer is given exactly when its fact holds and none before it does, over the book and not over the search; an offset shown bears that value."
use Rattle.std.specs.Prelude.{ℕ, zero, suc, ◌≤◌, ◌≡◌, refl, ◌⊎◌, Bool, true, false, ◌&&◌, ◌||◌, get_or, eqb}
use Rattle.std.proofs.Common.{sym, ◌∙◌, inl, inr, true≢false, le_antisymm, arith}
use mathlib.Core.List.Memᴰ
use mathlib.Core.List.{List, [], ◌∷◌, Memᴰ}
use Rattle.elements.specs.Choice.{choose}
use Rattle.elements.specs.ChoiceLaws.{both_true}
use Rattle.rules.specs.Files.{equal}
use Rattle.rules.specs.EqualLaws.{equal_is, equal_self}
use Rattle.rules.specs.Reading.{Rec}
use Rattle.rules.specs.Blocks.{closing}
use Rattle.links.specs.Finding.{id_in}
use Rattle.links.specs.Links.{Held, held, Object, past, held_from, objects_from, objects_of, answering, Found, none, found, chosen, object_at, Reply, by, missing}
use Rattle.why.specs.Why.{peopled, aside, stands_in, or_else, stands, Reason, met, no_object, elsewhere, nowhere, unmet, reason_for}
use Rattle.why.specs.OffsetLaws.{one_held, held_low, laid, apart}

-- an object of the class that answers the link
pub record Peoples (os : List Object) (link : ℕ) : Type 0 where
  pub number : ℕ
  pub object : Object
  pub numbered : object_at os number ≡ chosen object
  pub class : answering link object.entry ≡ true

-- the value x stands in the record h, which does not state a link of this number
pub record Stands (os : List Object) (link : ℕ) (x : List ℕ) (h : Held) : Type 0 where
  pub number : ℕ
  pub object : Object
  pub numbered : object_at os number ≡ chosen object
  pub holds : Memᴰ h object.records
  pub other : aside link object.entry h.kind ≡ true
  pub value : h.pay ≡ x

-- h comes first, by book offset
abbrev pub Lowest : List Object → ℕ → List ℕ → Held → Type 0
Lowest os link x h = (g : Held) → Stands os link x g → h.at ≤ g.at

-- the fact of each answer, to a row of this link, value and reply; none before it holds
pub data Fact (os : List Object) (link : ℕ) (x : List ℕ) : Reply → Reason → Type 0 where
  is_met : {j : ℕ} {h : Held} → id_in (object_at os j) ≡ found h → h.pay ≡ x → Fact os link x (by j) (met h)
  is_no_object : (Peoples os link → ⊥) → Fact os link x missing no_object
  is_elsewhere : {h : Held} → Peoples os link → Stands os link x h → Lowest os link x h → Fact os link x missing (elsewhere h)
  is_nowhere : Peoples os link → ((g : Held) → Stands os link x g → ⊥) → Fact os link x missing nowhere

-- ---- whether there is an object of the class
pub peopled_some : (link : ℕ) (os : List Object) → peopled link os ≡ true → Peoples os link
unfolding peopled
peopled_some link [] e = absurd (true≢false (sym e))
peopled_some link (o ∷ os) e = go (answering link o.entry) refl e (peopled_some link os)
  where
    go : (t : Bool) → answering link o.entry ≡ t → (t || peopled link os) ≡ true → (peopled link os ≡ true → Peoples os link) → Peoples (o ∷ os) link
    go true q z i = record { number = 0; object = o; numbered = refl; class = q }
    go false q z i = let w = i z in record { number = suc w.number; object = w.object; numbered = w.numbered; class = w.class }

pub peopled_none : (link : ℕ) (os : List Object) → peopled link os ≡ false → Peoples os link → ⊥
unfolding peopled
peopled_none link [] e w = let z : ◌≡◌ {A = ℕ} 0 1 = cc w.numbered in omega arith
peopled_none link (o ∷ os) e w = go (answering link o.entry) refl e (peopled_none link os) w.number w.numbered
  where
    go : (t : Bool) → answering link o.entry ≡ t → (t || peopled link os) ≡ false → (peopled link os ≡ false → Peoples os link → ⊥) → (n : ℕ) → object_at (o ∷ os) n ≡ chosen w.object → ⊥
    go true q z i n m = true≢false z
    go false q z i zero m = let y : o ≡ w.object = cc in true≢false (sym w.class ∙ rw y at q)
    go false q z i (suc n) m = i z (record { number = n; object = w.object; numbered = m; class = w.class })

-- ---- the first record of an object's in which the value stands
abbrev In : ℕ → List ℕ → ℕ → Held → Type 0
In link x entry h = (aside link entry h.kind ≡ true) × (h.pay ≡ x)

test_in : (link : ℕ) (x : List ℕ) (entry : ℕ) (h : Held) → (aside link entry h.kind && equal x h.pay) ≡ true → In link x entry h
test_in link x entry h e = let w = both_true (aside link entry h.kind) (equal x h.pay) e in (w.0, sym (equal_is x h.pay w.1))

in_test : (link : ℕ) (x : List ℕ) (entry : ℕ) (h : Held) → In link x entry h → (aside link entry h.kind && equal x h.pay) ≡ true
in_test link x entry h w = rw (w.0, w.1) (equal_self x)

data First (link : ℕ) (x : List ℕ) (entry : ℕ) (hs : List Held) : Found → Type 0 where
  no_one : ((g : Held) → Memᴰ g hs → In link x entry g → ⊥) → First link x entry hs none
  one : {h : Held} → Memᴰ h hs → In link x entry h → First link x entry hs (found h)

first : (link : ℕ) (x : List ℕ) (entry : ℕ) (hs : List Held) → First link x entry hs (stands_in link x entry hs)
unfolding stands_in
first link x entry [] = no_one (λ g m _. Memᴰ.not-nil m)
first link x entry (h ∷ hs) = go (aside link entry h.kind && equal x h.pay) refl (stands_in link x entry hs) (first link x entry hs)
  where
    go : (t : Bool) → (aside link entry h.kind && equal x h.pay) ≡ t → (f : Found) → First link x entry hs f → First link x entry (h ∷ hs) (choose t (λ _. found h) (λ _. f))
    go true e f i = one (Memᴰ.head refl) (test_in link x entry h e)
    go false e _ (one m w) = one (Memᴰ.tail m) w
    go false e _ (no_one n) = no_one (λ g m w. which g m w)
      where
        which : (g : Held) → Memᴰ g (h ∷ hs) → In link x entry g → ⊥
        which g (Memᴰ.head q) w = true≢false (sym (in_test link x entry h (rw q at w)) ∙ e)
        which g (Memᴰ.tail m) w = n g m w

-- so the first of an object's is its lowest
lowest_in : (link : ℕ) (x : List ℕ) (entry at : ℕ) (rs : List Rec) (h g : Held) → stands_in link x entry (held_from at rs) ≡ found h → Memᴰ g (held_from at rs) → In link x entry g → h.at ≤ g.at
unfolding held_from stands_in
lowest_in link x entry at [] h g e m w = absurd (Memᴰ.not-nil m)
lowest_in link x entry at (r ∷ rs) h g e m w = go (closing r.kind) (λ q n. lowest_in link x entry (past at r) rs h g q n w) e m
  where
    k : Held
    k = held at r.kind r.pay

    go : (t : Bool) → (stands_in link x entry (held_from (past at r) rs) ≡ found h → Memᴰ g (held_from (past at r) rs) → h.at ≤ g.at) →
        stands_in link x entry (choose t (λ _. []) (λ _. k ∷ held_from (past at r) rs)) ≡ found h → Memᴰ g (choose t (λ _. []) (λ _. k ∷ held_from (past at r) rs)) → h.at ≤ g.at
    go true f q n = absurd (Memᴰ.not-nil n)
    go false f q n = test (aside link entry k.kind && equal x k.pay) refl q n
      where
        test : (u : Bool) → (aside link entry k.kind && equal x k.pay) ≡ u → choose u (λ _. found k) (λ _. stands_in link x entry (held_from (past at r) rs)) ≡ found h → Memᴰ g (k ∷ held_from (past at r) rs) → h.at ≤ g.at
        test true z v (Memᴰ.head y) = let i : k ≡ h = cc in rw (← i, y) (omega arith)
        test true z v (Memᴰ.tail y) = let i : k ≡ h = cc in rw (← i) (omega (arith, held_low (past at r) rs g y))
        test false z v (Memᴰ.head y) = absurd (true≢false (sym (in_test link x entry k (rw y at w)) ∙ z))
        test false z v (Memᴰ.tail y) = f v y

-- ---- the first of all
data All (os : List Object) (link : ℕ) (x : List ℕ) : Found → Type 0 where
  in_none : ((g : Held) → Stands os link x g → ⊥) → All os link x none
  in_one : {h : Held} → Stands os link x h → All os link x (found h)

stands_next : {o : Object} {os : List Object} {link : ℕ} {x : List ℕ} {h : Held} → Stands os link x h → Stands (o ∷ os) link x h
stands_next w = record { number = suc w.number; object = w.object; numbered = w.numbered; holds = w.holds; other = w.other; value = w.value }

-- one of the first object's, or one of the others'
stands_cases : {o : Object} {os : List Object} {link : ℕ} {x : List ℕ} {h : Held} → Stands (o ∷ os) link x h → (Memᴰ h o.records × In link x o.entry h) ⊎ Stands os link x h
stands_cases {o} {os} {link} {x} {h} w = go w.number w.numbered
  where
    go : (n : ℕ) → object_at (o ∷ os) n ≡ chosen w.object → (Memᴰ h o.records × In link x o.entry h) ⊎ Stands os link x h
    go zero e = let y : o ≡ w.object = cc in inl (rw y w.holds, (rw y w.other, w.value))
    go (suc n) e = inr (record { number = n; object = w.object; numbered = e; holds = w.holds; other = w.other; value = w.value })

all : (link : ℕ) (x : List ℕ) (os : List Object) → All os link x (stands link x os)
unfolding stands
all link x [] = in_none (λ g w. let z : ◌≡◌ {A = ℕ} 0 1 = cc w.numbered in omega arith)
all link x (o ∷ os) = go (stands_in link x o.entry o.records) (first link x o.entry o.records) (stands link x os) (all link x os)
  where
    go : (f : Found) → First link x o.entry o.records f → (g : Found) → All os link x g → All (o ∷ os) link x (or_else f g)
    go _ (one m w) g i = in_one (record { number = 0; object = o; numbered = refl; holds = m; other = w.0; value = w.1 })
    go _ (no_one n) _ (in_one w) = in_one (stands_next w)
    go _ (no_one n) _ (in_none i) = in_none (λ g w. which g (stands_cases w))
      where
        which : (g : Held) → (Memᴰ g o.records × In link x o.entry g) ⊎ Stands os link x g → ⊥
        which g (inl v) = n g v.0 v.1
        which g (inr v) = i g v

-- is the lowest
lowest : (link : ℕ) (x : List ℕ) (at : ℕ) (rs : List Rec) (h : Held) → stands link x (objects_from at rs) ≡ found h → Lowest (objects_from at rs) link x h
unfolding objects_from stands
lowest link x at [] h e g w = absurd (let z : ◌≡◌ {A = ℕ} 0 1 = cc in omega arith)
lowest link x at (r ∷ rs) h e g w = go (eqb r.kind 0x0120) (λ q v. lowest link x (past at r) rs h q g v) e w
  where
    p : Object
    p = record { entry = get_or r.pay 0 0; records = held_from (past at r) rs }

    behind : List Object
    behind = objects_from (past at r) rs

    go : (t : Bool) → (stands link x behind ≡ found h → Stands behind link x g → h.at ≤ g.at) → stands link x (choose t (λ _. p ∷ behind) (λ _. behind)) ≡ found h → Stands (choose t (λ _. p ∷ behind) (λ _. behind)) link x g → h.at ≤ g.at
    go false f q v = f q v
    go true f q v = by_first (stands_in link x p.entry p.records) refl (first link x p.entry p.records) q (stands_cases v)
      where
        by_first : (u : Found) → stands_in link x p.entry p.records ≡ u → First link x p.entry p.records u → or_else u (stands link x behind) ≡ found h → (Memᴰ g p.records × In link x p.entry g) ⊎ Stands behind link x g → h.at ≤ g.at
        by_first (found k) z (one m i) y (inl c) = let j : k ≡ h = cc in lowest_in link x p.entry (past at r) rs h g (rw j at z) c.0 c.1
        by_first (found k) z (one m i) y (inr c) = let j : k ≡ h = cc in omega (arith, apart (past at r) rs h c.number g (rw j at m) c.numbered c.holds)
        by_first none z (no_one n) y (inl c) = absurd (n g c.0 c.1)
        by_first none z (no_one n) y (inr c) = f y c

-- ---- each answer is given exactly when its fact holds
module _ (rs : List Rec) (link : ℕ) (x : List ℕ) where
  abbrev os : List Object
  os = objects_of rs

  unmet_fact : Peoples os link → (f : Found) → All os link x f → (((h : Held) → f ≡ found h → Lowest os link x h)) → Fact os link x missing (unmet f)
  unmet_fact c _ (in_none n) l = is_nowhere c n
  unmet_fact c _ (in_one {h = h} w) l = is_elsewhere c w (l h refl)

  pub missing_fact : Fact os link x missing (reason_for os link x missing)
  missing_fact = go (peopled link os) refl
    where
      go : (t : Bool) → peopled link os ≡ t → Fact os link x missing (choose t (λ _. unmet (stands link x os)) (λ _. no_object))
      go true e = unmet_fact (peopled_some link os e) (stands link x os) (all link x os) (λ h q. lowest link x 0 rs h q)
      go false e = is_no_object (peopled_none link os e)

  -- an answer whose fact holds is the one that is given
  pub exactly : {reply : Reply} {q : Reason} → Fact os link x reply q → reason_for os link x reply ≡ q
  exactly (is_met e v) = rw e refl
  exactly (is_no_object n) = go (peopled link os) refl
    where
      go : (t : Bool) → peopled link os ≡ t → choose t (λ _. unmet (stands link x os)) (λ _. no_object) ≡ no_object
      go true e = absurd (n (peopled_some link os e))
      go false e = refl
  exactly (is_elsewhere {h = h} c w l) = go (peopled link os) refl
    where
      found_it : (f : Found) → stands link x os ≡ f → All os link x f → unmet f ≡ elsewhere h
      found_it _ z (in_none n) = absurd (n h w)
      found_it _ z (in_one {h = g} v) =
          let e : h.at ≡ g.at = le_antisymm (l g v) (lowest link x 0 rs g z h w) in
          rw (one_held 0 rs h g ((laid 0 rs w.number w.numbered).within h w.holds) ((laid 0 rs v.number v.numbered).within g v.holds) e) refl

      go : (t : Bool) → peopled link os ≡ t → choose t (λ _. unmet (stands link x os)) (λ _. no_object) ≡ elsewhere h
      go true e = found_it (stands link x os) refl (all link x os)
      go false e = absurd (peopled_none link os e c)
  exactly (is_nowhere c n) = go (peopled link os) refl
    where
      nothing : (f : Found) → All os link x f → unmet f ≡ nowhere
      nothing _ (in_none i) = refl
      nothing _ (in_one {h = g} v) = absurd (n g v)

      go : (t : Bool) → peopled link os ≡ t → choose t (λ _. unmet (stands link x os)) (λ _. no_object) ≡ nowhere
      go true e = nothing (stands link x os) (all link x os)
      go false e = absurd (peopled_none link os e c)
