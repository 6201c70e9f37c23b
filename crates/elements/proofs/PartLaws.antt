-- A part that is put byte by byte, as far as there is a place for it.
use Rattle.std.specs.Prelude.{ℕ, suc, ◌+◌, ◌-◌, ◌≤◌, ◌<◌, ◌≡◌, refl, List, [], ◌∷◌, ◌++◌, Bool, true, false, length, take, ltb, get_or, set}
use Rattle.std.proofs.Common.{arith, take-suc, length-take-le}
use Rattle.std.proofs.Math.Seq.{slice, length-slice, drop-append-le}
use borrow.Author.Tests.{ltb-true, ltb-false}
use Rattle.elements.specs.Lists.{join}
use Rattle.elements.specs.Put.{Put, Places}
use Rattle.elements.specs.PutLaws.{put_put, put_one, put_over}

-- a part of a list with one element more
slice_snoc : (f t : ℕ) (l : List ℕ) → f ≤ t → t < length l → slice f (t + 1) l ≡ slice f t l ++ (get_or l t 0 ∷ [])
slice_snoc f t l h k =
    let e : t + 1 ≡ suc t = omega arith in
    rw (e, take-suc l t 0 k)
    (drop-append-le f (take t l) (get_or l t 0 ∷ []) (omega (arith, length-take-le t l (omega arith))))

-- of n bytes of s from f on, the first i are put from o on
pub record Partly (a b s : List ℕ) (o f i n : ℕ) : Type 0 where
  pub upto : i ≤ n
  pub put : Put a b o (o + i) (slice f (f + i) s)

module _ {a s : List ℕ} {o f t n : ℕ} (w : Places (length a) o (t - f) n) (h : f ≤ t) (k : t ≤ length s) where
  -- one byte more
  pub partly_more : {b : List ℕ} {i : ℕ} → Partly a b s o f i n → i < n → Partly a (set b (o + i) (get_or s (f + i) 0)) s o f (i + 1) n
  partly_more {b} {i} g m =
      let p : o + i + 1 ≡ o + (i + 1) = omega arith in
      let q : f + i + 1 ≡ f + (i + 1) = omega arith in
      record {
        upto = omega arith;
        put = rw (← p, ← q, slice_snoc f (f + i) s (omega arith) (omega (arith, w.most))) (put_put g.put (put_one b (o + i) (get_or s (f + i) 0)));
      }

  -- after the last that has a place
  pub partly_all : {b : List ℕ} {i : ℕ} → Partly a b s o f i n → n ≤ i → Put a b o (o + (t - f)) (slice f t s)
  partly_all {b} {i} g m = go (ltb n (t - f)) refl
    where
      same : i ≡ n
      same = omega (arith, g.upto)

      go : (x : Bool) → ltb n (t - f) ≡ x → Put a b o (o + (t - f)) (slice f t s)
      go true e =
          let q = put_over g.put (omega (arith, same, w.all (ltb-true n (t - f) e))) (slice (f + i) t s) in
          let r : o + i + length (slice (f + i) t s) ≡ o + (t - f) = omega (arith, length-slice (f + i) t s k, w.most, same) in
          rw (r, join f (f + i) t s (omega arith) (omega (arith, w.most, same))) at q
      go false e =
          let q : f + i ≡ t = omega (arith, w.most, same, ltb-false n (t - f) e) in
          let r : o + i ≡ o + (t - f) = omega (arith, w.most, same, ltb-false n (t - f) e) in
          rw (q, r) at g.put
