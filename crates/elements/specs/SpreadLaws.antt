-- The bytes of a number that leave the first bit clear, without the bound that `spread` recurses by.
use Rattle.std.specs.Prelude.{◌≡◌, refl, [], ◌∷◌, ◌++◌, Bool, ℕ, zero, suc, ◌+◌, ◌*◌, ◌/◌, ◌%◌, ◌^◌, ◌≤◌, ◌<◌, length}
use Rattle.std.proofs.Common.{sym, ◌∙◌, arith, length-append, lt-ltb, le-ltb}
use Rattle.std.proofs.Math.Decide.{dec_lt}
use Rattle.elements.specs.Integer.{digit, spread_by, spread}

small : (k : ℕ) (n : Bool) (w : ℕ) → w < 128 → spread_by k n w ≡ digit n w ∷ []
unfolding spread_by
small zero n w h = refl
small (suc k) n w h = rw (lt-ltb w 128 h)

more : (k : ℕ) (n : Bool) (w : ℕ) → 128 ≤ w → spread_by (suc k) n w ≡ spread_by k n (w / 256) ++ (digit n (w % 256) ∷ [])
unfolding spread_by
more k n w h = rw (le-ltb w 128 h)

-- any bound from w on gives the same bytes
bound : (j k : ℕ) (n : Bool) (w : ℕ) → w ≤ j → w ≤ k → spread_by j n w ≡ spread_by k n w
bound zero k n w h g = small zero n w (omega arith) ∙ sym (small k n w (omega arith))
bound (suc j) zero n w h g = small (suc j) n w (omega arith) ∙ sym (small zero n w (omega arith))
bound (suc j) (suc k) n w h g = elim (dec_lt w 128) [
  | yes s ↦ small (suc j) n w s ∙ sym (small (suc k) n w s)
  | no b ↦ more j n w (omega arith) ∙ rw (bound j k n (w / 256) (omega arith) (omega arith)) (sym (more k n w (omega arith)))
]

-- a number below 128 is one byte
pub spread_small : (n : Bool) (w : ℕ) → w < 128 → spread n w ≡ digit n w ∷ []
unfolding spread
spread_small n w h = small w n w h

-- any other is its last byte after the bytes of what is before
pub spread_more : (n : Bool) (w : ℕ) → 128 ≤ w → spread n w ≡ spread n (w / 256) ++ (digit n (w % 256) ∷ [])
unfolding spread
spread_more n zero h = elim h [ ]
spread_more n (suc w) h = rw (← bound w (suc w / 256) n (suc w / 256) (omega arith) (omega arith)) (more w n (suc w) h)

-- k + 1 bytes hold what is below 128 times 256 to the k
pub spread_length : (k : ℕ) (n : Bool) (w : ℕ) → w < 128 * 256 ^ k → length (spread n w) ≤ k + 1
spread_length zero n w h = rw (spread_small n w (omega arith)) (omega arith)
spread_length (suc k) n w h = elim (dec_lt w 128) [
  | yes s ↦ rw (spread_small n w s) (omega arith)
  | no b ↦ rw (spread_more n w (omega arith), length-append) (omega (arith, spread_length k n (w / 256) (omega arith)))
]
