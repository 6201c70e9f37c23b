-- A row's bounds: what a test of them says, and that a number inside them is told by four bytes.
use Rattle.std.specs.Prelude.{ℕ, zero, suc, ◌-◌, ◌^◌, ◌<◌, ◌≡◌, refl, Bool, true, false, ◌&&◌, ℤ, pos, negsuc, nat_abs, ◌≤ℤ◌, T}
use Rattle.std.proofs.Common.{arith, leb→le, lt-ltb, le-ltb}
use Rattle.std.specs.Int.Signed.{mag, le_z}
use Rattle.elements.specs.ChoiceLaws.{both_true}
use Rattle.elements.specs.Integer.{most, signed}
use Rattle.elements.specs.Encodings.{negative}
use Rattle.rules.specs.declared.table.Row.{Row}
use Rattle.rules.specs.Reading.{twos, untwos}
use Rattle.rules.specs.Parts.{in_bounds}
use Rattle.rules.specs.Grammar.{Within}
use Rattle.rules.specs.TestLaws.{and_left, and_right, is_true, from_true}

pub bounds : (r : Row) (n : Bool) (m : ℕ) → in_bounds r n m ≡ true → Within r (signed n m)
bounds r n m e =
    let b = both_true (le_z r.low (signed n m)) (le_z (signed n m) r.high) e in
    (record { le = from_true (le_z r.low (signed n m)) b.0 }, record { le = from_true (le_z (signed n m) r.high) b.1 })

pub signed_is : (z : ℤ) → signed (negative z) (nat_abs z) ≡ z
signed_is (pos m) = refl
signed_is (negsuc w) = refl

pub within_bounds : (r : Row) (z : ℤ) → Within r z → in_bounds r (negative z) (nat_abs z) ≡ true
within_bounds r z w = rw (signed_is z, is_true (le_z r.low z) w.0.le, is_true (le_z z r.high) w.1.le) refl

-- bounds that four bytes hold, in two's complement
abbrev pub bounds_fit : Row → Bool
bounds_fit r = le_z (negsuc 2147483647) r.low && le_z r.high (pos 2147483647)

above : (l : ℤ) (w : ℕ) → T (le_z (negsuc 2147483647) l) → l ≤ℤ negsuc w → w < 2147483648
above (pos l) w t h = absurd h.le
above (negsuc l) w t h = omega (arith, leb→le l 2147483647 t, leb→le w l h.le)

below : (h : ℤ) (m : ℕ) → T (le_z h (pos 2147483647)) → pos m ≤ℤ h → m < 2147483648
below (pos h) m t l = omega (arith, leb→le h 2147483647 t, leb→le m h l.le)
below (negsuc h) m t l = absurd l.le

pub within_fits : (r : Row) → T (bounds_fit r) → (z : ℤ) → Within r z → mag z < 2147483648
within_fits r t (pos m) w = below r.high m (and_right (le_z (negsuc 2147483647) r.low) (le_z r.high (pos 2147483647)) t) w.1
within_fits r t (negsuc m) w = above r.low m (and_left (le_z (negsuc 2147483647) r.low) (le_z r.high (pos 2147483647)) t) w.0

-- its magnitude is told as it is
pub abs_small : (z : ℤ) → mag z < 2147483648 → nat_abs z < most
abs_small (pos m) h = omega arith
abs_small (negsuc w) h = omega arith

pub signed_small : (n : Bool) (m : ℕ) → mag (signed n m) < 2147483648 → m < most
signed_small false m h = omega arith
signed_small true zero h = omega arith
signed_small true (suc m) h = omega arith

-- "the two's complement in four bytes", and back
pub twos_fits : (z : ℤ) → mag z < 2147483648 → twos z < 2 ^ 32
twos_fits (pos m) h = omega arith
twos_fits (negsuc w) h = omega arith

pub twos_back : (z : ℤ) → mag z < 2147483648 → untwos (twos z) ≡ z
twos_back (pos m) h = rw (lt-ltb m 2147483648 h) refl
twos_back (negsuc w) h =
    let k : 2147483648 - 0 < 4294967296 - w = omega arith in
    let u : 4294967295 - (4294967295 - w) ≡ w = omega arith in
    rw (le-ltb (4294967295 - w) 2147483648 (omega arith), u) refl
