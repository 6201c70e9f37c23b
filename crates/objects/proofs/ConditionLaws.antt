-- Conditions: by their levels, and lists of them.
use Prim.Native.Nat.{ℕ, zero, suc, ◌+◌, ◌-◌, ◌*◌, ◌/◌, ◌%◌, ◌^◌, ◌<◌, ◌≤◌}
use mathlib.Core.Path.{◌≡◌, refl, sym, ap, ◌∙◌}
use mathlib.Core.List.{List, [], ◌∷◌, ◌++◌}
use native.Mathlib.Numerals.{add-four, add_six}
use native.Mathlib.Omega.{arith}
use lib.Dec.{ltb}
use lib.ListN.{length, length-append, set}
use lib.Seq.{sets, set-set, set_comm}
use borrow.Author.Tests.{lt-ltb, le-ltb, le-leb, lt-leb}
use Rattle.std.specs.Prelude.{Ok, Err}
use Rattle.elements.specs.declared.fault.Fault.{Fault}
use Rattle.elements.specs.declared.fault.Fault.TheVariants.{Missing, TooDeep}
use Rattle.elements.specs.declared.answer.Refusal.{Refusal}
use Rattle.elements.specs.Answer.{refused}
use Rattle.elements.specs.Choice.{choose}
use Rattle.elements.specs.ChoiceLaws.{by_choose}
use Rattle.elements.specs.Put.{Put, le16}
use Rattle.elements.specs.PutLaws.{put_as, put_length}
use Rattle.elements.specs.Record.{record_bytes}
use Rattle.objects.specs.declared.part.Cursor.{Cursor}
use Rattle.rules.specs.Reading.{Rec, rec, Res, took, fails, also, Reader}
use Rattle.rules.specs.Parts.{element, counted, repeat, to_end}
use Rattle.rules.specs.Objects.{counts, listed, condition_body, condition}
use Rattle.rules.specs.Book.{encode}
use Rattle.objects.specs.Did.{Part, came_with, Did, did, fell, Forward, DidMany, did_many, fell_many}
use Rattle.objects.specs.RepeatLaws.{Marks, Going, going_none, going_fell, going_next, going_many}
use Rattle.objects.proofs.PartLaws.{did_counts}
use Rattle.rules.specs.Conditions as conditions

abbrev Inner : List ℕ → ℕ → ℕ → Reader
Inner s l = λ j f i. condition s l j f i

-- ---- by the levels that are left
by_level : (s : List ℕ) (l k end at : ℕ) → (l ≡ 0 → ⊥) → condition s l k end at ≡ counts at (element s (condition_body s (l - 1) (k + 1)) end at)
unfolding conditions.condition condition_body
by_level s zero k end at n = absurd (n refl)
by_level s (suc l) k end at n = let u : suc l - 1 ≡ l = omega arith in rw u refl

module _ (s : List ℕ) (levels k end at : ℕ) where
  pub no_level : levels ≡ 0 → condition s levels k end at ≡ choose (ltb at end) (λ _. fails TooDeep at) (λ _. fails Missing end)
  unfolding conditions.condition
  no_level z = rw z refl

  pub condition_by : (levels ≡ 0 → ⊥) → {a b : List ℕ} {o : ℕ} {r : Part} → Did a b o at end (element s (condition_body s (levels - 1) (k + 1)) end at) r → Did a b o at end (condition s levels k end at) r
  condition_by n d = rw (by_level s levels k end at n) (did_counts at d)

-- ---- the conditions of a list
counts_marks : (p : ℕ) (w : Res) → Marks (counts p w) 1
counts_marks p (took bs ms n) = record { is = λ cs ns m e. let z : p ∷ [] ≡ ns = cc in rw (sym z) refl }
counts_marks p (fails f x) = record { is = λ cs ns m e. let z : ◌≡◌ {A = ℕ} 0 1 = cc in absurd (omega arith) }

fails_marks : (f : Fault) (p c : ℕ) → Marks (fails f p) c
fails_marks f p c = record { is = λ cs ns m e. let z : ◌≡◌ {A = ℕ} 0 1 = cc in absurd (omega arith) }

one_mark : (s : List ℕ) (levels k end at : ℕ) → Marks (condition s levels k end at) 1
unfolding conditions.condition condition_body
one_mark s zero k end at = by_choose (λ w. Marks w 1) (ltb at end) (λ _ _. fails_marks TooDeep at 1) (λ _ _. fails_marks Missing end 1)
one_mark s (suc l) k end at = counts_marks at (element s (condition_body s l (k + 1)) end at)

-- so many were read up to n
pub record Listing (s : List ℕ) (levels : ℕ) (a b : List ℕ) (end at o k n p : ℕ) : Type 0 where
  pub going : Going to_end (Inner s levels) a b end at o 0 k n p
  pub few : k ≤ n - at

pub listing_none : (s : List ℕ) (levels : ℕ) (a : List ℕ) (end at o : ℕ) → at ≤ end → o ≤ 8 * at + 131072 → Listing s levels a a end at o 0 at o
listing_none s levels a end at o h l = record { going = going_none to_end (Inner s levels) a end at o 0 h l; few = omega arith }

module _ {s : List ℕ} {levels : ℕ} {a b : List ℕ} {end at o k n p : ℕ} (h : Listing s levels a b end at o k n p) where
  module _ (l : n < end) {c : List ℕ} where
    pub listing_fell : {x : Refusal} → Did b c p n end (condition s levels k end n) (Err x) → DidMany a c o at end (repeat to_end (Inner s levels) (end - at) 0 end at) (Err x)
    listing_fell d = going_fell h.going (lt-ltb n end l) l d

    pub listing_next : {r : Cursor} → Did b c p n end (condition s levels k end n) (Ok r) → Forward n (Ok r) → Listing s levels a c end at o (k + 1) r.dump r.book
    listing_next {r} d g = record {
      going = going_next h.going (lt-ltb n end l) l d g (one_mark s levels k end n) refl;
      few = omega (arith, h.few, h.going.low, g.is r refl);
    }

  pub listing_all : end ≤ n → DidMany a b o at end (repeat to_end (Inner s levels) (end - at) 0 end at) (came_with n p k)
  listing_all l = going_many h.going (le-ltb n end l) (omega arith)

-- ---- a list has at most as many conditions as bytes
data Few (g : ℕ) : Res → Type 0 where
  few : {bs : List Rec} {ms : List ℕ} {n : ℕ} → length ms ≤ g → Few g (took bs ms n)
  none : {f : Fault} {p : ℕ} → Few g (fails f p)

few_also : (bs : List Rec) (ms : List ℕ) {g : ℕ} {w : Res} → length ms ≡ 1 → Few g w → Few (suc g) (also bs ms w)
few_also bs ms {g} e (few {ms = ns} h) = few {ms = ms ++ ns} (omega (arith, length-append ms ns))
few_also bs ms e none = none

few_counted : (w : Res) (y : ℕ → ℕ → Res) (g : ℕ) → Marks w 1 → ((c n : ℕ) → Few g (y c n)) → Few (suc g) (counted w y)
few_counted (took bs ms n) y g m f = few_also bs ms (m.is bs ms n refl) (f (length ms) n)
few_counted (fails x p) y g m f = none

few_of : (s : List ℕ) (levels g k end at : ℕ) → Few g (repeat to_end (Inner s levels) g k end at)
unfolding repeat
few_of s levels zero k end at = by_choose (Few zero) (ltb at end) (λ _ _. none) (λ _ _. few {ms = []} (omega arith))
few_of s levels (suc g) k end at =
    by_choose (Few (suc g)) (ltb at end)
    (λ _ _. few_counted (condition s levels k end at) (λ c n. repeat to_end (Inner s levels) g (k + c) end n) g (one_mark s levels k end at) (λ c n. few_of s levels g (k + c) end n))
    (λ _ _. few {ms = []} (omega arith))

pub few_fit : (s : List ℕ) (levels x e : ℕ) {b c : List ℕ} {q : ℕ} {y : Cursor × ℕ} → DidMany b c q x e (repeat to_end (Inner s levels) (e - x) 0 e x) (Ok y) → e ≤ length s → length s ≤ 32768 → y.1 < 2 ^ 16
few_fit s levels x e {b} {c} {q} {y} d h l = go (few_of s levels (e - x) 0 e x) d
  where
    go : {w : Res} {y : Cursor × ℕ} → Few (e - x) w → DidMany b c q x e w (Ok y) → y.1 < 2 ^ 16
    go (none {p = p}) d = elim d [ ]
    go (few m) (did_many f u _ _ _) = omega arith

-- ---- the count is put when it is known
set_before : (vs l : List ℕ) (i j a : ℕ) → j < i → set (sets l i vs) j a ≡ sets (set l j a) i vs
set_before [] l i j a h = refl
set_before (v ∷ vs) l i j a h = set_before vs (set l i v) (suc i) j a (omega arith) ∙ ap (λ (m : List ℕ). sets m (suc i) vs) (set_comm l i j v a (λ e. omega arith))

patched : (l vs : List ℕ) (p r u v x y : ℕ) → suc p < r → set (set (sets (set (set l p u) (suc p) v) r vs) p x) (suc p) y ≡ sets (set (set l p x) (suc p) y) r vs
patched l vs p r u v x y h =
    ap (λ (m : List ℕ). set m (suc p) y) (set_before vs (set (set l p u) (suc p) v) r p x (omega arith))
    ∙ set_before vs (set (set (set l p u) (suc p) v) p x) r (suc p) y h
    ∙ ap (λ (m : List ℕ). sets m r vs)
    (ap (λ (m : List ℕ). set m (suc p) y) (set_comm (set l p u) (suc p) p v x (λ e. omega arith) ∙ ap (λ (m : List ℕ). set m (suc p) v) (set-set l p u x))
    ∙ set-set (set l p x) (suc p) v y)

put_patch : {a b c d : List ℕ} {o q t y : ℕ} {vs : List ℕ} (kind n : ℕ) → Put a b o q (record_bytes kind (0 ∷ 0 ∷ [])) → Put b c q t vs → Put c d (o + 4) y (le16 n) → Put a d o t (record_bytes kind (le16 n) ++ vs)
unfolding record_bytes
put_patch {a} {b} {c} {d} {o} {q} {t} {y} {vs} kind n f g h = record {
  at = omega (arith, f.at, g.at);
  to = h.to ∙ rw (g.to, f.to, f.at, add-four, add_six)
      (patched (set (set (set (set a o 4) (suc o) 0) (suc (suc o)) (kind % 256)) (suc (suc (suc o))) (kind / 256 % 256)) vs (suc (suc (suc (suc o)))) (suc (suc (suc (suc (suc (suc o)))))) 0 0 (n % 256) (n / 256 % 256) (omega arith));
}

counted_bytes : (kind k : ℕ) (bs : List Rec) (ms : List ℕ) → k ≡ length ms → record_bytes kind (le16 k) ++ encode bs ≡ encode (rec kind (le16 (length ms)) ∷ bs)
unfolding encode
counted_bytes kind k bs ms e = rw e refl

module _ (kind x e : ℕ) {a b c : List ℕ} {o q : ℕ} {w : Res} (f : Put a b o q (record_bytes kind (0 ∷ 0 ∷ []))) where
  pub listed_bad : {y : Refusal} → DidMany b c q x e w (Err y) → Did a c o x e (listed kind e w) (Err y)
  listed_bad d = go d
    where
      go : {w : Res} {y : Refusal} → DidMany b c q x e w (Err y) → Did a c o x e (listed kind e w) (Err y)
      go (fell_many g) = fell (g ∙ put_length f)

  module _ {y : Cursor × ℕ} (d : DidMany b c q x e w (Ok y)) where
    pub listed_few : y.1 < 2 → Did a c o x e (listed kind e w) (refused Missing e)
    listed_few l = go d l
      where
        go : {w : Res} {y : Cursor × ℕ} → DidMany b c q x e w (Ok y) → y.1 < 2 → Did a c o x e (listed kind e w) (refused Missing e)
        go (did_many {ms = ms} g u _ _ _) l = rw (lt-leb 2 (length ms) (omega arith)) (fell (put_length g ∙ put_length f))

    pub listed_put : {m : List ℕ} {z : ℕ} → 2 ≤ y.1 → Put c m (o + 4) z (le16 y.1) → Did a m o x e (listed kind e w) (Ok y.0)
    listed_put {m} {z} l h = go d l h
      where
        go : {w : Res} {y : Cursor × ℕ} → DidMany b c q x e w (Ok y) → 2 ≤ y.1 → Put c m (o + 4) z (le16 y.1) → Did a m o x e (listed kind e w) (Ok y.0)
        go (did_many {bs = bs} {ms = ms} {n = n} {c = k} g u i j v) l h = rw (le-leb 2 (length ms) (omega arith)) (did {n = n} (put_as (put_patch kind k f g h) (counted_bytes kind k bs ms u)) i j v)
