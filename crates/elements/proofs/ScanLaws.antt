-- A turn of a loop over bytes follows the definition that takes a byte off a list.
use Prim.Native.Nat.{ℕ, suc, ◌+◌, ◌-◌, ◌≤◌, ◌<◌}
use mathlib.Core.Path.{◌≡◌}
use mathlib.Core.List.{List}
use mathlib.Core.Bool.{Bool, true, false, not}
use lib.ListN.{length, get_or, drop}
use lib.Seq.{drop-cons}
use borrow.Author.Tests.{not-true, not-false}
use native.Mathlib.Numerals.{add-one}
use native.Mathlib.Omega.{arith}
use Rattle.elements.specs.Choice.{pick}
use Rattle.elements.specs.Time.{is_digit, digits}

module _ (c : List ℕ) (n i : ℕ) (v r : Bool) (left : digits (n - i) (drop i c) ≡ v) (fits : n ≤ length c) (is : r ≡ is_digit (get_or c i 0)) (inside : i < n) where
  turn : pick r (digits (n - (i + 1)) (drop (i + 1) c)) false ≡ v
  unfolding digits
  turn =
      let e : n - i ≡ suc (n - (i + 1)) = omega arith in
      let k : i < length c = omega arith in
      rw (add-one i, is) (rw (e, drop-cons c i 0 k, add-one i) at left)

  -- the byte at i is a digit
  pub digit_on : not r ≡ false → digits (n - (i + 1)) (drop (i + 1) c) ≡ v
  digit_on e = rw (not-false r e) at turn

  -- it is none
  pub digit_off : not r ≡ true → false ≡ v
  digit_off e = rw (not-true r e) at turn

-- the bytes that were to be digits are at their end
pub digits_end : (c : List ℕ) (n i : ℕ) (v : Bool) → digits (n - i) (drop i c) ≡ v → n ≤ i → true ≡ v
unfolding digits
digits_end c n i v left h = let e : n - i ≡ 0 = omega arith in rw e at left
