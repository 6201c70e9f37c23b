-- Lists of kinds: what records begin with, what may follow them, how long they are.
use Rattle.std.specs.Prelude.{ℕ, ◌+◌, ◌≤◌, ◌<◌, List, [], ◌∷◌, ◌++◌, Bool, true, false, not, ◌||◌, ◌&&◌, ◌≡◌, refl, length, ltb, leb, eqb, T}
use Rattle.std.proofs.Common.{arith, length-append, T_not, eqb-true, eq-eqb}
use Rattle.elements.specs.Sealed.{among}
use Rattle.rules.specs.Reading.{Rec, rec}
use Rattle.rules.specs.Looks.{Look, only_if}
use Rattle.rules.specs.Rendering.{gives, Renderer, when, either}
use Rattle.rules.specs.TestLaws.{and_left, and_right, is_true}

-- records that do not begin with one of the kinds
abbrev pub Fresh : List ℕ → List Rec → Type 0
Fresh ks [] = Unit {0}
Fresh ks (r ∷ rs) = T (not (among r.kind ks))

-- records that begin with one of the kinds, or none where there may be none
pub fresh_any : (rs : List Rec) → Fresh [] rs
fresh_any [] = tt
fresh_any (r ∷ rs) = tt

pub data Begins (ks : List ℕ) (e : Bool) : List Rec → Type 0 where
  none : T e → Begins ks e []
  some : {r : Rec} {rs : List Rec} → T (among r.kind ks) → Begins ks e (r ∷ rs)

-- none of the first kinds is one of the second
abbrev pub avoids : List ℕ → List ℕ → Bool
avoids [] ks = true
avoids (k ∷ l) ks = not (among k ks) && avoids l ks

-- the bytes of a book
abbrev pub size : List Rec → ℕ
size [] = 0
size (r ∷ rs) = 4 + length r.pay + size rs

-- records that a book can hold: their kinds and lengths fit two bytes each
abbrev pub Laid : ℕ → List Rec → Type 0
Laid n [] = Unit {0}
Laid n (r ∷ rs) = T (ltb r.kind 65536) × (length r.pay ≤ n + 4) × Laid n rs

-- what stands in an element costs at most eight bytes beyond four for each byte of contents
abbrev pub bodily : Look → Bool
bodily L = leb L.credit 8

-- an item has records, what may not follow it does not begin one, and it pays for itself
abbrev pub repeats : Look → Bool
repeats L = not L.empty && (avoids L.first L.stop && leb L.credit 0)

-- each of the first kinds is one of the second
abbrev pub subset : List ℕ → List ℕ → Bool
subset [] m = true
subset (x ∷ l) m = among x m && subset l m

-- where the first holds, so does the second
abbrev pub implies : Bool → Bool → Bool
implies true b = b
implies false b = true

-- a part may be known by less
abbrev pub under : Look → Look → Bool
under L M = (subset L.first M.first && subset L.stop M.stop) && (implies L.empty M.empty && leb L.credit M.credit)

-- tests, and small lists of kinds
is_false : (b : Bool) → T (not b) → b ≡ false
is_false true h = absurd h
is_false false h = refl

or_not : (a b : Bool) → T (not (a || b)) → T (not a) × T (not b)
or_not true b t = absurd t
or_not false b t = (tt, t)

not_or : (a b : Bool) → T (not a) → T (not b) → T (not (a || b))
not_or true b t u = t
not_or false b t u = u

contra : (a b : Bool) → (T a → T b) → T (not b) → T (not a)
contra true b f t = absurd (rw (is_false b t) at (f tt))
contra false b f t = tt

implied : (a b : Bool) → T (implies a b) → T a → T b
implied true b t u = t
implied false b t u = absurd u

among_append : (k : ℕ) (l m : List ℕ) → T (not (among k (l ++ m))) → T (not (among k l)) × T (not (among k m))
among_append k [] m t = (tt, t)
among_append k (x ∷ l) m t =
    let w = or_not (eqb k x) (among k (l ++ m)) t in
    let v = among_append k l m w.1 in
    (not_or (eqb k x) (among k l) w.0 v.0, v.1)

pub among_more : (k : ℕ) (l m : List ℕ) → T (among k l) → T (among k (l ++ m))
among_more k [] m t = absurd t
among_more k (x ∷ l) m t = go (eqb k x) (among_more k l m) t
  where
    go : (b : Bool) → (T (among k l) → T (among k (l ++ m))) → T (b || among k l) → T (b || among k (l ++ m))
    go true ih t = tt
    go false ih t = ih t

pub among_later : (k : ℕ) (l m : List ℕ) → T (among k m) → T (among k (l ++ m))
among_later k [] m t = t
among_later k (x ∷ l) m t = go (eqb k x) (among_later k l m t)
  where
    go : (b : Bool) → T (among k (l ++ m)) → T (b || among k (l ++ m))
    go true ih = tt
    go false ih = ih

pub avoids_among : (k : ℕ) (l ks : List ℕ) → T (avoids l ks) → T (among k l) → T (not (among k ks))
avoids_among k [] ks a m = absurd m
avoids_among k (x ∷ l) ks a m = go (avoids_among k l ks (and_right (not (among x ks)) (avoids l ks) a)) (eqb k x) refl m
  where
    go : (T (among k l) → T (not (among k ks))) → (b : Bool) → eqb k x ≡ b → T (b || among k l) → T (not (among k ks))
    go ih true e m = rw (eqb-true k x e) (and_left (not (among x ks)) (avoids l ks) a)
    go ih false e m = ih m

subset_among : (k : ℕ) (l m : List ℕ) → T (subset l m) → T (among k l) → T (among k m)
subset_among k [] m t h = absurd h
subset_among k (x ∷ l) m t h = go (eqb k x) refl (subset_among k l m (and_right (among x m) (subset l m) t)) h
  where
    go : (b : Bool) → eqb k x ≡ b → (T (among k l) → T (among k m)) → T (b || among k l) → T (among k m)
    go true e ih h = rw (eqb-true k x e) (and_left (among x m) (subset l m) t)
    go false e ih h = ih h

-- what may follow
pub fresh_left : (l m : List ℕ) (rs : List Rec) → Fresh (l ++ m) rs → Fresh l rs
fresh_left l m [] f = tt
fresh_left l m (r ∷ rs) f = (among_append r.kind l m f).0

pub fresh_right : (l m : List ℕ) (rs : List Rec) → Fresh (l ++ m) rs → Fresh m rs
fresh_right l m [] f = tt
fresh_right l m (r ∷ rs) f = (among_append r.kind l m f).1

pub fresh_subset : (l m : List ℕ) (rs : List Rec) → T (subset l m) → Fresh m rs → Fresh l rs
fresh_subset l m [] t f = tt
fresh_subset l m (r ∷ rs) t f = contra (among r.kind l) (among r.kind m) (subset_among r.kind l m t) f

pub only : (b : Bool) (l : List ℕ) (rs : List Rec) → Fresh (only_if b l) rs → T b → Fresh l rs
only true l rs f t = f
only false l rs f t = absurd t

-- what begins a part does not begin with what may not follow the part before
pub begins_fresh : (first stop : List ℕ) (e : Bool) {bs : List Rec} (rs : List Rec) → Begins first e bs → T (avoids first stop) → (T e → Fresh stop rs) → Fresh stop (bs ++ rs)
begins_fresh first stop e rs (none t) a f = f t
begins_fresh first stop e rs (some {r = r} m) a f = avoids_among r.kind first stop a m

-- what begins
pub begins_hard : {ks : List ℕ} {e : Bool} {bs : List Rec} → T (not e) → Begins ks e bs → Begins ks false bs
begins_hard {e = true} h b = absurd h
begins_hard {e = false} h b = b

pub begins_soft : {ks : List ℕ} (e : Bool) {bs : List Rec} → Begins ks false bs → Begins ks e bs
begins_soft e (none t) = absurd t
begins_soft e (some m) = some m

pub begins_one : (kind : ℕ) (p : List ℕ) (rs : List Rec) (e : Bool) → Begins (kind ∷ []) e (rec kind p ∷ rs)
begins_one kind p rs e = let m : T (among kind (kind ∷ [])) = rw (eq-eqb kind kind refl) tt in some m

pub begins_many : {ks : List ℕ} {bs : List Rec} (e : Bool) (cs : List Rec) → Begins ks false bs → Begins ks e (bs ++ cs)
begins_many e cs (none t) = absurd t
begins_many e cs (some m) = some m

pub begins_more : {l : List ℕ} (m : List ℕ) (e : Bool) {bs : List Rec} → Begins l false bs → Begins (l ++ m) e bs
begins_more m e (none t) = absurd t
begins_more {l} m e (some {r = r} h) = some (among_more r.kind l m h)

pub begins_later : (l : List ℕ) {m : List ℕ} (e : Bool) {bs : List Rec} → Begins m false bs → Begins (l ++ m) e bs
begins_later l e (none t) = absurd t
begins_later l {m} e (some {r = r} h) = some (among_later r.kind l m h)

pub apart : {l m : List ℕ} {bs cs : List Rec} → T (avoids m l) → Begins l false bs → Begins m false cs → bs ≡ cs → ⊥
apart a (none t) c e = t
apart a (some h) (none t) e = t
apart {l} {m} a (some {r = x} h) (some {r = y} k) e =
    let z : x ≡ y = cc in
    T_not (among y.kind l) (avoids_among y.kind m l a k) (rw z at h)

pub longer : {ks : List ℕ} {bs : List Rec} (cs : List Rec) → Begins ks false bs → length cs < length (bs ++ cs)
longer cs (none t) = absurd t
longer cs (some {rs = rs} m) = omega (arith, length-append rs cs)

pub not_empty : {ks : List ℕ} {bs : List Rec} → Begins ks false bs → bs ≡ [] → ⊥
not_empty (none t) z = t
not_empty (some m) z = let z : ◌≡◌ {A = ℕ} 0 1 = cc in omega arith

pub begins_subset : (l m : List ℕ) (d e : Bool) {bs : List Rec} → T (subset l m) → T (implies d e) → Begins l d bs → Begins m e bs
begins_subset l m d e t i (none u) = none (implied d e i u)
begins_subset l m d e t i (some {r = r} h) = some (subset_among r.kind l m t h)

pub begins_seq : (f g : List ℕ) (d e : Bool) {bs cs : List Rec} → Begins f d bs → Begins g e cs → Begins (f ++ only_if d g) (d && e) (bs ++ cs)
begins_seq f g true e (none t) (none u) = none u
begins_seq f g true e (none t) (some {r = r} m) = some (among_later r.kind f g m)
begins_seq f g false e (none t) c = absurd t
begins_seq f g d e (some {r = r} m) c = some (among_more r.kind f (only_if d g) m)

-- the bytes of a book, and whether it can be laid
pub size_append : (bs cs : List Rec) → size (bs ++ cs) ≡ size bs + size cs
size_append [] cs = omega arith
size_append (b ∷ bs) cs = omega (arith, size_append bs cs)

pub laid_append : (n : ℕ) (bs cs : List Rec) → Laid n bs → Laid n cs → Laid n (bs ++ cs)
laid_append n [] cs h g = g
laid_append n (b ∷ bs) cs h g = (h.0, h.1, laid_append n bs cs h.2 g)

-- the first record's payload
abbrev pub pay_first : List Rec → List ℕ
pay_first [] = []
pay_first (r ∷ rs) = r.pay

-- what the next record's kind decides
pub when_none : (ks : List ℕ) (q : Renderer) (rs : List Rec) → Fresh ks rs → when ks q rs ≡ gives [] rs
when_none ks q [] f = refl
when_none ks q (r ∷ rs) f = rw (is_false (among r.kind ks) f) refl

pub when_some : {ks : List ℕ} {bs : List Rec} (q : Renderer) (rs : List Rec) → Begins ks false bs → when ks q (bs ++ rs) ≡ q (bs ++ rs)
when_some q rs (none t) = absurd t
when_some {ks} q rs (some {r = r} m) = rw (is_true (among r.kind ks) m) refl

pub either_left : {ks : List ℕ} {bs : List Rec} (q p : Renderer) (rs : List Rec) → Begins ks false bs → either ks q p (bs ++ rs) ≡ q (bs ++ rs)
either_left q p rs (none t) = absurd t
either_left {ks} q p rs (some {r = r} m) = rw (is_true (among r.kind ks) m) refl

pub either_right : (ks : List ℕ) {l : List ℕ} {bs : List Rec} (q p : Renderer) (rs : List Rec) → T (avoids l ks) → Begins l false bs → either ks q p (bs ++ rs) ≡ p (bs ++ rs)
either_right ks q p rs a (none t) = absurd t
either_right ks {l} q p rs a (some {r = r} m) = rw (is_false (among r.kind ks) (avoids_among r.kind l ks a m)) refl
