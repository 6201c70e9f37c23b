-- A loop of the code follows `repeat`: items from `at` to `end`, j counted before the first of them.
use Prim.Native.Nat.{ℕ, zero, suc, ◌+◌, ◌-◌, ◌*◌, ◌<◌, ◌≤◌}
use Rattle.std.specs.Prelude.{◌≡◌, Bool, true, false, List, [], ◌++◌, length, Ok, Err}
use Rattle.std.proofs.Math.Path.{refl}
use Rattle.std.proofs.Common.{sym, ap, ◌∙◌, append-nil, arith, length-append}
use Rattle.elements.specs.declared.fault.Fault.{Fault}
use Rattle.elements.specs.declared.answer.Refusal.{Refusal}
use Rattle.elements.specs.Put.{Put}
use Rattle.elements.specs.PutLaws.{put_none, put_then, put_length}
use Rattle.objects.specs.declared.part.Cursor.{Cursor}
use Rattle.rules.specs.Reading.{Rec, Res, took, fails, also, Reader}
use Rattle.rules.specs.Parts.{counted, repeat}
use Rattle.rules.specs.Book.{encode}
use Rattle.objects.specs.Did.{came, came_with, Did, did, fell, Forward, DidMany, did_many, fell_many}
use Rattle.objects.specs.DidLaws.{encode_append, did_same}
use Rattle.objects.specs.ComponentsLaws.{also_none, also_also}

-- a part has so many marks
pub record Marks (w : Res) (c : ℕ) : Type 0 where
  pub is : (bs : List Rec) (ms : List ℕ) (n : ℕ) → w ≡ took bs ms n → length ms ≡ c

-- k were counted up to n, and their records put up to p; the rest comes to the whole
pub record Going (more : ℕ → ℕ → Bool) (f : ℕ → Reader) (a b : List ℕ) (end at o j k n p : ℕ) : Type 0 where
  pub low : at ≤ n
  pub high : n ≤ end
  pub small : p ≤ 8 * n + 131072
  pub same : length b ≡ length a
  pub bs : List Rec
  pub ms : List ℕ
  pub count : k ≡ j + length ms
  pub put : Put a b o p (encode bs)
  pub turns : ℕ
  pub enough : end - n ≤ turns
  pub rest : also bs ms (repeat more f turns k end n) ≡ repeat more f (end - at) j end at

unfoldable pub going_none : (more : ℕ → ℕ → Bool) (f : ℕ → Reader) (a : List ℕ) (end at o j : ℕ) → at ≤ end → o ≤ 8 * at + 131072 → Going more f a a end at o j j at o
unfolding encode
going_none more f a end at o j h l = record {
  low = omega arith;
  high = h;
  small = l;
  same = refl;
  bs = [];
  ms = [];
  count = omega arith;
  put = put_none a o;
  turns = end - at;
  enough = omega arith;
  rest = also_none (repeat more f (end - at) j end at);
}

stopped : (more : ℕ → ℕ → Bool) (f : ℕ → Reader) (k end n : ℕ) → more end n ≡ false → (t : ℕ) → repeat more f t k end n ≡ took [] [] n
unfolding repeat
stopped more f k end n m zero = rw m refl
stopped more f k end n m (suc t) = rw m refl

module _ {more : ℕ → ℕ → Bool} {f : ℕ → Reader} {a b : List ℕ} {end at o j k n p : ℕ} (h : Going more f a b end at o j k n p) where
  module _ (m : more end n ≡ true) (l : n < end) where
    pub turn : (t : ℕ) → end - n ≤ t → (u : ℕ) × (t ≡ suc u) × (repeat more f t k end n ≡ counted (f k end n) (λ x y. repeat more f u (k + x) end y))
    unfolding repeat
    turn zero e = absurd (omega arith)
    turn (suc u) e = (u, refl, rw m refl)

    -- an item that is refused
    pub going_break : {x : Fault} {q : ℕ} → f k end n ≡ fails x q → repeat more f (end - at) j end at ≡ fails x q
    going_break z = let t = turn h.turns h.enough in sym h.rest ∙ rw (t.2, z) refl

    -- an item that is taken
    unfoldable pub going_step : {c : List ℕ} {r q i : ℕ} (cs : List Rec) (ns : List ℕ) → f k end n ≡ took cs ns r → Put b c p q (encode cs) → n < r → r ≤ end → q ≤ 8 * r + 131072 → i ≡ k + length ns → Going more f a c end at o j i r q
    going_step {c} {r} {q} {i} cs ns u g fw hi sm e =
        let t = turn h.turns h.enough in
        let one : repeat more f h.turns k end n ≡ also cs ns (repeat more f t.0 i end r) = t.2 ∙ rw (u, e) refl in
        record {
          low = omega (arith, h.low);
          high = hi;
          small = sm;
          same = put_length g ∙ h.same;
          bs = h.bs ++ cs;
          ms = h.ms ++ ns;
          count = omega (arith, h.count, length-append h.ms ns);
          put = put_then h.put g (sym (encode_append h.bs cs));
          turns = t.0;
          enough = omega (arith, h.enough, t.1);
          rest = sym (also_also h.bs cs h.ms ns (repeat more f t.0 i end r)) ∙ ap (also h.bs h.ms) (sym one) ∙ h.rest;
        }

  -- no item is left
  pub going_stop : more end n ≡ false → repeat more f (end - at) j end at ≡ took h.bs h.ms n
  going_stop m = sym h.rest ∙ rw (stops h.turns, append-nil h.bs, append-nil h.ms) refl
    where
      stops : (t : ℕ) → repeat more f t k end n ≡ took [] [] n
      stops t = stopped more f k end n m t

module _ {more : ℕ → ℕ → Bool} {f : ℕ → Reader} {a b : List ℕ} {end at o j k n p : ℕ} (h : Going more f a b end at o j k n p) where
  module _ (m : more end n ≡ true) (l : n < end) {c : List ℕ} where
    module _ {e : Refusal} (d : Did b c p n end (f k end n) (Err e)) where
      fails_so : repeat more f (end - at) j end at ≡ fails e.0 e.1
      fails_so = going_break h m l (failed d)
        where
          failed : {v : Res} {e : Refusal} → Did b c p n end v (Err e) → v ≡ fails e.0 e.1
          failed (fell e) = refl

      lengths : length c ≡ length a
      lengths = did_same d ∙ h.same

      pub going_fails : Did a c o at end (repeat more f (end - at) j end at) (Err e)
      going_fails = rw fails_so (fell lengths)

      pub going_fell : DidMany a c o at end (repeat more f (end - at) j end at) (Err e)
      going_fell = rw fails_so (fell_many lengths)

    -- the next item, which has x marks
    pub going_next : {x i : ℕ} {r : Cursor} → Did b c p n end (f k end n) (Ok r) → Forward n (Ok r) → Marks (f k end n) x → i ≡ k + x → Going more f a c end at o j i r.dump r.book
    going_next {x} {i} {r} d g v e = go (f k end n) refl d
      where
        go : (y : Res) → f k end n ≡ y → Did b c p n end y (Ok r) → Going more f a c end at o j i r.dump r.book
        go (fails _ _) u d = elim d [ ]
        go (took cs ns _) u (did g' lo hi sm) = let len : length ns ≡ x = v.is cs ns r.dump u in going_step h m l cs ns u g' (g.is r refl) hi sm (omega arith)

  module _ (m : more end n ≡ false) where
    pub going_all : Did a b o at end (repeat more f (end - at) j end at) (came n p)
    going_all = rw (going_stop h m) (did h.put h.low h.high h.small)

    pub going_many : {c : ℕ} → k ≡ j + c → DidMany a b o at end (repeat more f (end - at) j end at) (came_with n p c)
    going_many {c} e = rw (going_stop h m) (did_many {ms = h.ms} {c = c} h.put (omega (arith, h.count)) h.low h.high h.small)
