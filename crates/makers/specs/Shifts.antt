-- Moving what stands in a list up, a place at a time.
use Rattle.std.specs.Prelude.{ℕ, suc, ◌+◌, ◌-◌, ◌<◌, ◌≤◌, ◌≡◌, refl, List, [], ◌∷◌, ◌++◌, get_or, take, drop, set}
use Rattle.std.proofs.Common.{sym, ◌∙◌, append_assoc, append-nil, arith, length-set, take-append-drop, take-suc, get_or-take, length-take-le}
use Rattle.std.proofs.Math.ListN.{length, get_or-append}
use Rattle.std.proofs.Math.Seq.{slice, slice-cons, slice_empty}
use Rattle.std.proofs.lemmas.List.{set_at}
use Rattle.makers.specs.Making.{Moved}

-- moving, a place at a time, from the end
moved_none : (c : List ℕ) (to by : ℕ) → to + by ≤ length c → Moved c c to to by
moved_none c to by h = record { is = rw (slice_empty to c, append-nil (take (to + by) c)) (sym (take-append-drop (to + by) c)) }

moved_step : (c x : List ℕ) (to by j y : ℕ) → Moved c x (suc j) to by → suc j ≤ to → to + by ≤ length c → y ≡ get_or x j 0 → Moved c (set x (j + by) y) j to by
moved_step c x to by j y m h l q =
    let P = take (j + by) c in
    let S = slice (suc j) to c in
    let D = drop (to + by) c in
    let z = get_or c (j + by) 0 in
    let w : suc j + by ≡ suc (j + by) = omega arith in
    let a : x ≡ P ++ (z ∷ []) ++ S ++ D = m.is ∙ rw (w, take-suc c (j + by) 0 (omega arith)) refl in
    let e : x ≡ P ++ (z ∷ (S ++ D)) = a ∙ rw (append_assoc P (z ∷ []) S, append_assoc P (z ∷ S) D) refl in
    let n : length P ≡ j + by = length-take-le (j + by) c (omega arith) in
    let b : x ≡ take (suc (j + by)) c ++ (S ++ D) = m.is ∙ rw (w) (append_assoc (take (suc (j + by)) c) S D) in
    let k : length (take (suc (j + by)) c) ≡ suc (j + by) = length-take-le (suc (j + by)) c (omega arith) in
    let g : y ≡ get_or c j 0 = q ∙ rw b (get_or-append (take (suc (j + by)) c) (S ++ D) 0 j (omega arith) ∙ get_or-take (suc (j + by)) c j 0 (omega arith)) in
    record { is = rw e (set_at P z (S ++ D) y (j + by) n ∙ rw (slice-cons j to c 0 h (omega arith), g) (sym (append_assoc P (get_or c j 0 ∷ S) D))) }

-- what stands from k on has moved
pub record Shifting (c x : List ℕ) (start to by k : ℕ) : Type 0 where
  pub is : Moved c x k to by
  pub low : start ≤ k
  pub high : k ≤ to
  pub same : length x ≡ length c

pub shifting_start : (c : List ℕ) (start to by : ℕ) → start ≤ to → to + by ≤ length c → Shifting c c start to by to
shifting_start c start to by h l = record { is = moved_none c to by l; low = h; high = omega arith; same = refl }

module _ {c x : List ℕ} {start to by k : ℕ} (m : Shifting c x start to by k) where
  pub shifting_more : {j y : ℕ} → start < k → to + by ≤ length c → j ≡ k - 1 → y ≡ get_or x j 0 → Shifting c (set x (j + by) y) start to by j
  shifting_more {j} {y} z l e q =
      let s : k ≡ suc j = omega arith in
      record { is = moved_step c x to by j y (rw s at m.is) (omega (arith, m.high)) l q; low = omega arith; high = omega (arith, m.high); same = length-set x (j + by) y ∙ m.same }

  pub shifting_done : k ≤ start → Moved c x start to by
  shifting_done h = let s : k ≡ start = omega (arith, m.low) in rw s at m.is
