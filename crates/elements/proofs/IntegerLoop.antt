-- The loop of `magnitude`: the bytes before i came to v.
use Prim.Native.Nat.{ℕ, ◌+◌, ◌*◌, ◌≤◌, ◌<◌}
use mathlib.Core.Path.{◌≡◌, refl, sym, ◌∙◌}
use mathlib.Core.List.{List, [], ◌∷◌}
use mathlib.Core.Bool.{Bool, true, false}
use native.Mathlib.Omega.{arith}
use native.Mathlib.Nat.{le_trans}
use native.Mathlib.Numerals.{add-one}
use lib.ListN.{length, get_or, drop}
use lib.Seq.{drop-cons}
use lib.ListN.{drop_of_length-le}
use lib.Dec.{ltb}
use borrow.Author.Tests.{le-ltb, ltb-false}
use Rattle.elements.specs.ChoiceLaws.{by_pick}
use Rattle.elements.specs.Integer.{most, least, digit, bare, big, beyond, magnitude}
use Rattle.elements.specs.Answer.{of}

grows : (v : ℕ) (l : List ℕ) → v ≤ big v l
unfolding big
grows v [] = omega arith
grows v (x ∷ l) = le_trans (omega arith) (grows (v * 256 + x) l)

least_is : (m k : ℕ) → m ≤ k → least m k ≡ m
least_is m k h = by_pick (λ v. v ≡ m) (ltb m k) (λ _. refl) (λ t. omega (arith, ltb-false m k t))

pub record Sum (c : List ℕ) (n : Bool) (v i : ℕ) : Type 0 where
  pub inside : i ≤ length c
  pub small : v < most
  pub same : big v (bare n (drop i c)) ≡ big 0 (bare n c)

pub sum_none : (c : List ℕ) (n : Bool) → Sum c n 0 0
sum_none c n = record { inside = omega arith; small = omega arith; same = refl }

module _ {c : List ℕ} {n : Bool} {v i d : ℕ} (h : Sum c n v i) (l : i < length c) (e : d ≡ digit n (get_or c i 0)) where
  one_more : big (v * 256 + d) (bare n (drop (i + 1) c)) ≡ big 0 (bare n c)
  unfolding big bare
  one_more = rw (add-one, e) (sym (rw (drop-cons c i 0 l)) ∙ h.same)

  pub sum_more : v * 256 + d < most → Sum c n (v * 256 + d) (i + 1)
  sum_more k = record { inside = omega arith; small = k; same = one_more }

  -- past the largest magnitude told, whatever follows
  pub sum_past : most ≤ v * 256 + d → of n most ≡ magnitude n c
  unfolding magnitude
  sum_past k =
      let g : v * 256 + d ≤ big 0 (bare n c) = rw one_more at (grows (v * 256 + d) (bare n (drop (i + 1) c))) in
      rw (le-ltb (big 0 (bare n c) + beyond n) most (omega arith)) refl

module _ {c : List ℕ} {n : Bool} {v i : ℕ} (h : Sum c n v i) (l : length c ≤ i) where
  all : v ≡ big 0 (bare n c)
  unfolding big bare
  all = rw (drop_of_length-le c l) at h.same

  told : (m : ℕ) → m ≡ v + beyond n → m ≤ most → of n m ≡ magnitude n c
  unfolding magnitude
  told m e k = rw (← all, ← e, least_is m most k)

  pub sum_false : n ≡ false → of false v ≡ magnitude n c
  sum_false e = rw (← e) (told v (rw e (omega arith)) (omega arith))

  pub sum_true : n ≡ true → of true (v + 1) ≡ magnitude n c
  sum_true e = rw (← e) (told (v + 1) (rw e) (omega arith))
