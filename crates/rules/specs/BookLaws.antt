-- The records of any bytes.
use Rattle.std.specs.Prelude.{ℕ, zero, suc, ◌+◌, ◌-◌, ◌*◌, ◌<◌, ◌≤◌, ◌≡◌, true, false, ◌&&◌, List, [], ◌∷◌, get_or, drop, leb, eqb}
use Rattle.std.proofs.Math.Path.{refl, sym}
use Rattle.std.proofs.Common.{ap, ◌∙◌, length-append, drop_of_length-le, drop-cons, drop-drop, get_or-drop, get_or-take, eq-eqb, ne_eqb, le-leb, leb-true}
use native.Mathlib.Omega.{arith}
use Rattle.std.proofs.Math.ListN.{length, take, length-drop, get_or-eq_default}
use Rattle.std.proofs.Math.Seq.{slice, take_all, drop-length, length-slice}
use Rattle.std.proofs.lemmas.Bool.{lt-leb}
use Rattle.elements.specs.ChoiceLaws.{both_true}
use Rattle.elements.specs.Lists.{lent}
use Rattle.rules.specs.Reading.{Rec, rec}
use Rattle.rules.specs.Files.{two, names_path}
use Rattle.elements.specs.Record.{record_bytes}
use Rattle.rules.specs.LookLaws.{size}
use Rattle.rules.specs.Book.{encode, records_of, records, records_from, Ends, next_is}

-- enough turns are enough
enough : (g h : ℕ) (l : List ℕ) → length l ≤ g → length l ≤ h → records_of g l ≡ records_of h l
unfolding records_of
enough zero zero l i j = refl
enough zero (suc h) [] i j = refl
enough zero (suc h) (a ∷ l) i j = absurd (omega arith)
enough (suc g) zero [] i j = refl
enough (suc g) zero (a ∷ l) i j = absurd (omega arith)
enough (suc g) (suc h) [] i j = refl
enough (suc g) (suc h) (a ∷ []) i j = refl
enough (suc g) (suc h) (a ∷ b ∷ []) i j = refl
enough (suc g) (suc h) (a ∷ b ∷ c ∷ []) i j = refl
enough (suc g) (suc h) (a ∷ b ∷ c ∷ d ∷ l) i j =
    let e = enough g h (drop (a + 256 * b - 2) l) (omega (arith, length-drop (a + 256 * b - 2) l)) (omega (arith, length-drop (a + 256 * b - 2) l)) in
    ap (λ (r : List Rec). rec (c + 256 * d) (take (a + 256 * b - 2) l) ∷ r) e

-- fewer than four bytes are no record
few : (l : List ℕ) → length l < 4 → records l ≡ []
unfolding records records_of
few [] h = refl
few (a ∷ []) h = refl
few (a ∷ b ∷ []) h = refl
few (a ∷ b ∷ c ∷ []) h = refl
few (a ∷ b ∷ c ∷ d ∷ l) h = absurd (omega arith)

pub from_few : (b : List ℕ) (i : ℕ) → length b < i + 4 → records_from b i ≡ []
unfolding records_from
from_few b i h = few (drop i b) (omega (arith, length-drop i b))

-- the first record of bytes
first_of : (w x y z : ℕ) (l : List ℕ) → records (w ∷ x ∷ y ∷ z ∷ l) ≡ rec (y + 256 * z) (take (w + 256 * x - 2) l) ∷ records (drop (w + 256 * x - 2) l)
unfolding records records_of
first_of w x y z l =
    let e = enough (suc (suc (suc (length l)))) (length (drop (w + 256 * x - 2) l)) (drop (w + 256 * x - 2) l) (omega (arith, length-drop (w + 256 * x - 2) l)) (omega arith) in
    ap (λ (r : List Rec). rec (y + 256 * z) (take (w + 256 * x - 2) l) ∷ r) e

four : (b : List ℕ) (i : ℕ) → i + 4 ≤ length b → drop i b ≡ get_or b i 0 ∷ get_or b (i + 1) 0 ∷ get_or b (i + 2) 0 ∷ get_or b (i + 2 + 1) 0 ∷ drop (i + 4) b
four b i h =
    let p : suc i ≡ i + 1 = omega arith in
    let q : suc (i + 1) ≡ i + 2 = omega arith in
    let r : suc (i + 2) ≡ i + 2 + 1 = omega arith in
    let t : suc (i + 2 + 1) ≡ i + 4 = omega arith in
    let w : drop (i + 2 + 1) b ≡ get_or b (i + 2 + 1) 0 ∷ drop (i + 4) b = rw t at (drop-cons b (i + 2 + 1) 0 (omega arith)) in
    let x : drop (i + 2) b ≡ get_or b (i + 2) 0 ∷ drop (i + 2 + 1) b = rw r at (drop-cons b (i + 2) 0 (omega arith)) in
    let y : drop (i + 1) b ≡ get_or b (i + 1) 0 ∷ drop (i + 2) b = rw q at (drop-cons b (i + 1) 0 (omega arith)) in
    let z : drop i b ≡ get_or b i 0 ∷ drop (i + 1) b = rw p at (drop-cons b i 0 (omega arith)) in
    z ∙ rw (y, x, w) refl

at_place : (b : List ℕ) (i : ℕ) → i + 4 ≤ length b → records_from b i ≡ rec (two b (i + 2)) (take (two b i - 2) (drop (i + 4) b)) ∷ records_from b (i + 4 + (two b i - 2))
unfolding records_from
at_place b i h =
    let e = first_of (get_or b i 0) (get_or b (i + 1) 0) (get_or b (i + 2) 0) (get_or b (i + 2 + 1) 0) (drop (i + 4) b) in
    ap records (four b i h) ∙ e ∙ ap (λ (l : List ℕ). rec (two b (i + 2)) (take (two b i - 2) (drop (i + 4) b)) ∷ records l) (drop-drop (two b i - 2) (i + 4) b)

-- where it ends: a senseless length, one that goes beyond the book, a good one
module _ (b : List ℕ) (i : ℕ) (h : i + 4 ≤ length b) {n : ℕ} (e : n ≡ two b i) where
  ends_by : (m : ℕ) → i + 4 + (two b i - 2) ≡ m → m ≤ length b → Ends b i m
  ends_by m q l =
      let z : two b i - 2 ≡ m - (i + 4) = omega arith in
      let t : take (two b i - 2) (drop (i + 4) b) ≡ slice (i + 4) m b = rw z (lent (i + 4) m b) in
      record { is = at_place b i h ∙ rw (t, q) refl; low = omega arith; high = l }

  pub ends_least : n < 2 → Ends b i (i + 4)
  ends_least l = ends_by (i + 4) (omega arith) h

  pub ends_good : 2 ≤ n → i + 2 + n ≤ length b → Ends b i (i + 2 + n)
  ends_good l m = ends_by (i + 2 + n) (omega arith) m

  pub ends_cut : 2 ≤ n → length b < i + 2 + n → Ends b i (length b)
  unfolding records_from
  ends_cut l m =
      let k : length (drop (i + 4) b) ≤ two b i - 2 = omega (arith, length-drop (i + 4) b) in
      let t : take (two b i - 2) (drop (i + 4) b) ≡ slice (i + 4) (length b) b = take_all (two b i - 2) (drop (i + 4) b) k ∙ sym (take_all (length b - (i + 4)) (drop (i + 4) b) (omega (arith, length-drop (i + 4) b))) ∙ lent (i + 4) (length b) b in
      let u : records_from b (i + 4 + (two b i - 2)) ≡ records_from b (length b) = rw (drop_of_length-le b {i = i + 4 + (two b i - 2)} (omega arith), drop-length b) refl in
      record { is = at_place b i h ∙ rw (t, u) refl; low = h; high = omega arith }

-- whether it is of a kind
pub next_none : (b : List ℕ) (i k : ℕ) → length b < i + 4 → false ≡ next_is k (records_from b i)
next_none b i k h = rw (from_few b i h) refl

pub next_some : (b : List ℕ) (i k : ℕ) {w : ℕ} → i + 4 ≤ length b → w ≡ two b (i + 2) → eqb w k ≡ next_is k (records_from b i)
next_some b i k h e = rw (at_place b i h, e) refl

-- a byte of what stands from p to e
pub byte_none : (b : List ℕ) (p e k : ℕ) → e ≤ length b → e - p ≤ k → 0 ≡ get_or (slice p e b) k 0
byte_none b p e k h l = sym (get_or-eq_default (slice p e b) 0 (omega (arith, length-slice p e b h)))

pub byte_some : (b : List ℕ) (p e k : ℕ) → k < e - p → get_or b (p + k) 0 ≡ get_or (slice p e b) k 0
byte_some b p e k l = sym (get_or-drop p (take e b) k 0 ∙ get_or-take e b (p + k) 0 (omega arith))

-- whether the record at j, which ends at e, names a path
module _ (b : List ℕ) (j e : ℕ) {w : ℕ} (q : w ≡ two b (j + 2)) where
  pub name_kind : (w ≡ 0x0110 → ⊥) → false ≡ names_path (two b (j + 2)) (slice (j + 4) e b)
  name_kind z = rw (← q, ne_eqb w 0x0110 z) refl

  module _ (z : w ≡ 0x0110) (h : e ≤ length b) where
    pub name_short : e - (j + 4) < 2 → false ≡ names_path (two b (j + 2)) (slice (j + 4) e b)
    name_short l = rw (← q, eq-eqb w 0x0110 z, length-slice (j + 4) e b h, lt-leb 2 (e - (j + 4)) l) refl

    pub name_byte : {x : ℕ} → 2 ≤ e - (j + 4) → x ≡ get_or (slice (j + 4) e b) 1 0 → eqb x 0 ≡ names_path (two b (j + 2)) (slice (j + 4) e b)
    name_byte l t = rw (← q, ← t, eq-eqb w 0x0110 z, length-slice (j + 4) e b h, le-leb 2 (e - (j + 4)) l) refl

-- one that does has room for the path
pub name_room : (k : ℕ) (b : List ℕ) (j e : ℕ) → e ≤ length b → names_path k (slice (j + 4) e b) ≡ true → j + 6 ≤ e
name_room k b j e h z =
    let p = slice (j + 4) e b in
    let u = both_true (leb 2 (length p)) (eqb (get_or p 1 0) 0) (both_true (eqb k 0x0110) (leb 2 (length p) && eqb (get_or p 1 0) 0) z).1 in
    omega (arith, leb-true 2 (length p) u.0, length-slice (j + 4) e b h)

-- and the path stands behind the tag and 00
pub name_path : (b : List ℕ) (j e : ℕ) → drop 2 (slice (j + 4) e b) ≡ slice (j + 6) e b
name_path b j e = let z : j + 4 + 2 ≡ j + 6 = omega arith in drop-drop 2 (j + 4) (take e b) ∙ rw z refl

-- any two ends that a record may have are equal
pub one_end : {b : List ℕ} {i e f : ℕ} → Ends b i e → Ends b i f → e ≡ f
one_end {b} {i} {e} {f} h g =
    let q : rec (two b (i + 2)) (slice (i + 4) e b) ∷ records_from b e ≡ rec (two b (i + 2)) (slice (i + 4) f b) ∷ records_from b f = sym h.is ∙ g.is in
    let w : rec (two b (i + 2)) (slice (i + 4) e b) ≡ rec (two b (i + 2)) (slice (i + 4) f b) = cc in
    let n : e - (i + 4) ≡ f - (i + 4) = sym (length-slice (i + 4) e b h.high) ∙ ap (λ (r : Rec). length r.pay) w ∙ length-slice (i + 4) f b g.high in
    omega (arith, n, h.low, g.low)

-- the book's length
pub book_size : (rs : List Rec) → length (encode rs) ≡ size rs
unfolding encode record_bytes
book_size [] = refl
book_size (r ∷ rs) = omega (arith, length-append r.pay (encode rs), book_size rs)
