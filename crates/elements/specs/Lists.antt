-- Lists of bytes and their parts.
use Rattle.std.specs.Prelude.{ℕ, zero, suc, ◌+◌, ◌-◌, ◌<◌, ◌≤◌, List, [], ◌∷◌, ◌++◌, ◌≡◌, refl, length, get_or, take, drop}
use Rattle.std.proofs.Common.{zero-le, sym, ap, ◌∙◌, not-suc-le-zero, le_of_suc-le-suc, add-one, arith, length-take-le}
use Rattle.std.proofs.Math.Seq.{slice, slice_empty, slice-cons, length-slice, take-nil}

-- every member is a byte, as a slice's are
abbrev pub Bytes : List ℕ → Type 0
Bytes c = (i : ℕ) → get_or c i 0 < 256

-- two parts that meet are one
pub join : (i j k : ℕ) (l : List ℕ) → i ≤ j → j ≤ k → slice i j l ++ slice j k l ≡ slice i k l
join zero zero k l h g = refl
join zero (suc j) zero l h g = absurd (not-suc-le-zero g)
join zero (suc j) (suc k) [] h g = refl
join zero (suc j) (suc k) (x ∷ l) h g = ap {B = List ℕ} (λ r. x ∷ r) (join zero j k l zero-le (le_of_suc-le-suc g))
join (suc i) zero k l h g = absurd (not-suc-le-zero h)
join (suc i) (suc j) zero l h g = absurd (not-suc-le-zero g)
join (suc i) (suc j) (suc k) [] h g = refl
join (suc i) (suc j) (suc k) (x ∷ l) h g = join i j k l (le_of_suc-le-suc h) (le_of_suc-le-suc g)

-- a part and its first byte
pub cons : (s : List ℕ) (i j : ℕ) → i < j → j ≤ length s → slice i j s ≡ get_or s i 0 ∷ slice (i + 1) j s
cons s i j h g = rw (add-one, slice-cons i j s 0 h g) refl

-- a part of one byte
pub one : (s : List ℕ) (i : ℕ) → i < length s → slice i (i + 1) s ≡ get_or s i 0 ∷ []
one s i h = cons s i (i + 1) (omega arith) (omega arith) ∙ rw (slice_empty (i + 1) s) refl

-- the part from i to j begins with x, and l follows
pub record Begins (s : List ℕ) (i j x : ℕ) (l : List ℕ) : Type 0 where
  pub before : i < j
  pub first : get_or s i 0 ≡ x
  pub rest : slice (i + 1) j s ≡ l

-- the first byte of a part that is known
pub begins : (s : List ℕ) (i j : ℕ) {x : ℕ} {l : List ℕ} → j ≤ length s → slice i j s ≡ x ∷ l → Begins s i j x l
begins s i j {x} {l} h e =
    let n : j - i ≡ suc (length l) = sym (length-slice i j s h) ∙ ap length e in
    let b : i < j = omega arith in
    let c : get_or s i 0 ∷ slice (i + 1) j s ≡ x ∷ l = sym (cons s i j b h) ∙ e in
    record { before = b; first = cc; rest = cc }

-- a part with no byte in it
pub ends : (s : List ℕ) (i j : ℕ) → j ≤ length s → slice i j s ≡ [] → j ≤ i
ends s i j h e = let n : j - i ≡ 0 = sym (length-slice i j s h) ∙ ap length e in omega arith

-- a part as the code lends it
pub lent : (i j : ℕ) (l : List ℕ) → take (j - i) (drop i l) ≡ slice i j l
lent zero j l = ap {B = List ℕ} (λ n. take n l) (let z : j - 0 ≡ j = omega arith in z)
lent (suc i) zero l = ap {B = List ℕ} (λ n. take n (drop (suc i) l)) (let z : 0 - suc i ≡ 0 = omega arith in z)
lent (suc i) (suc j) [] = take-nil (suc j - suc i)
lent (suc i) (suc j) (x ∷ l) = ap {B = List ℕ} (λ n. take n (drop i l)) (let z : suc j - suc i ≡ j - i = omega arith in z) ∙ lent i j l

-- as many as are taken
pub count_take : (n : ℕ) (l : List ℕ) → n ≤ length l → n ≡ length (take n l)
count_take n l h = sym (length-take-le n l h)
