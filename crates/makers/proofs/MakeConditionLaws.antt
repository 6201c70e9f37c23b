-- Conditions as they are made: the ways through their code.
use Prim.Native.Nat.{ℕ, zero, suc, ◌+◌, ◌-◌, ◌<◌, ◌≤◌}
use mathlib.Core.Path.{◌≡◌, refl, sym, ◌∙◌}
use mathlib.Core.List.{List, []}
use native.Mathlib.Omega.{arith}
use lib.ListN.{length}
use lib.Seq.{slice, slice_empty}
use borrow.Author.Tests.{ne_eqb}
use Rattle.elements.specs.Length.{wrap}
use Rattle.std.specs.Prelude.{Ok, Err}
use Rattle.makers.specs.declared.made.Made.{Made}
use Rattle.makers.specs.declared.made.TooLong.{TooLong}
use Rattle.rules.specs.declared.table.Sort.{Sort}
use Rattle.rules.specs.declared.table.Sort.TheVariants.{Always, Identifier, Not, And, Or, Other}
use Rattle.rules.specs.Reading.{Rec, count}
use Rattle.rules.specs.Files.{two}
use Rattle.rules.specs.Tables.{kind_of, sort_by}
use Rattle.rules.specs.Render.{gives, Renderer, ◌next◌, within, from, r_times, r_condition_as, r_condition}
use Rattle.rules.specs.Book.{records_from, Ends}
use Rattle.makers.specs.Making.{Answer, Makes}
use Rattle.rules.specs.BookLaws.{from_few}
use Rattle.makers.specs.MadeLaws.{makes_none, makes_as, makes_same, made_high, made_room, next_long, next_took, from_some}
use Rattle.rules.specs.Conditions as conditions

-- ---- the sort that has a kind
module _ (k : ℕ) where
  pub kind_always : k ≡ 0x0126 → Always ≡ sort_by kind_of k
  unfolding sort_by
  kind_always e = rw e refl

  pub kind_identifier : k ≡ 0x0127 → Identifier ≡ sort_by kind_of k
  unfolding sort_by
  kind_identifier e = rw e refl

  pub kind_not : k ≡ 0x0129 → Not ≡ sort_by kind_of k
  unfolding sort_by
  kind_not e = rw e refl

  pub kind_and : k ≡ 0x012a → And ≡ sort_by kind_of k
  unfolding sort_by
  kind_and e = rw e refl

  pub kind_or : k ≡ 0x012b → Or ≡ sort_by kind_of k
  unfolding sort_by
  kind_or e = rw e refl

  pub kind_other : (k ≡ 0x0126 → ⊥) → (k ≡ 0x0127 → ⊥) → (k ≡ 0x0129 → ⊥) → (k ≡ 0x012a → ⊥) → (k ≡ 0x012b → ⊥) → Other ≡ sort_by kind_of k
  unfolding sort_by
  kind_other a b c d e = rw (ne_eqb k 0x0126 a, ne_eqb k 0x0127 b, ne_eqb k 0x0129 c, ne_eqb k 0x012a d, ne_eqb k 0x012b e) refl

-- ---- a condition, by its record
abbrev Inner : ℕ → Renderer
Inner l = λ rs. r_condition l rs

by_level : (levels : ℕ) (rs : List Rec) → (levels ≡ 0 → ⊥) → r_condition levels rs ≡ from (λ k p. r_condition_as (levels - 1) (sort_by kind_of k) p) rs
unfolding conditions.condition r_condition_as
by_level zero rs n = absurd (n refl)
by_level (suc l) rs n = let u : suc l - 1 ≡ l = omega arith in rw u refl

none_deep : (levels : ℕ) (rs : List Rec) → levels ≡ 0 → r_condition levels rs ≡ gives [] rs
unfolding conditions.condition
none_deep zero rs z = refl
none_deep (suc l) rs z = absurd (omega arith)

none_left : (levels : ℕ) → r_condition levels [] ≡ gives [] []
unfolding conditions.condition
none_left zero = refl
none_left (suc l) = refl

module _ (b : List ℕ) (levels : ℕ) where
  pub condition_deep : (a : List ℕ) (x : Made) → levels ≡ 0 → x.next ≤ length b → x.end ≤ length a → Makes b a a x.next x.end (r_condition levels (records_from b x.next)) (Ok x)
  condition_deep a x z h l = makes_as (makes_none b a x h l) (sym (none_deep levels (records_from b x.next) z))

  pub condition_none : (a : List ℕ) (x : Made) → length b < x.next + 4 → x.next ≤ length b → x.end ≤ length a → Makes b a a x.next x.end (r_condition levels (records_from b x.next)) (Ok x)
  condition_none a x z h l = makes_as (makes_none b a x h l) (rw (from_few b x.next z) (sym (none_left levels)))

  pub condition_here : {a c : List ℕ} {i e o k : ℕ} {y : Sort} {r : Answer} → (levels ≡ 0 → ⊥) → Ends b i e → k ≡ two b (i + 2) → y ≡ sort_by kind_of k → Makes b a c e o (r_condition_as (levels - 1) y (slice (i + 4) e b) (records_from b e)) r → Makes b a c i o (r_condition levels (records_from b i)) r
  condition_here {i = i} n h w v m = makes_as (from_some (λ k p. r_condition_as (levels - 1) (sort_by kind_of k) p) h (rw (v, w) at m)) (sym (by_level levels (records_from b i) n))

-- ---- a condition of a sort
module _ (b : List ℕ) (levels p i : ℕ) {y : Sort} {a c : List ℕ} {o : ℕ} {r : Answer} where
  pub as_always : y ≡ Always → Makes b a c i o (gives (wrap 5 (slice p p b)) (records_from b i)) r → Makes b a c i o (r_condition_as levels y (slice p i b) (records_from b i)) r
  unfolding r_condition_as
  as_always z m = rw z (rw (slice_empty p b) at m)

  pub as_identifier : y ≡ Identifier → Makes b a c i o (gives (wrap 4 (slice p i b)) (records_from b i)) r → Makes b a c i o (r_condition_as levels y (slice p i b) (records_from b i)) r
  unfolding r_condition_as
  as_identifier z m = rw z m

  pub as_not : y ≡ Not → Makes b a c i o (within 0xa0 (Inner levels) (records_from b i)) r → Makes b a c i o (r_condition_as levels y (slice p i b) (records_from b i)) r
  unfolding r_condition_as
  as_not z m = rw z m

  module _ {k : ℕ} (e : k ≡ count (slice p i b)) where
    pub as_and : y ≡ And → Makes b a c i o (within 0xa1 (r_times k (Inner levels)) (records_from b i)) r → Makes b a c i o (r_condition_as levels y (slice p i b) (records_from b i)) r
    unfolding r_condition_as
    as_and z m = rw z (rw e at m)

    pub as_or : y ≡ Or → Makes b a c i o (within 0xa2 (r_times k (Inner levels)) (records_from b i)) r → Makes b a c i o (r_condition_as levels y (slice p i b) (records_from b i)) r
    unfolding r_condition_as
    as_or z m = rw z (rw e at m)

  pub as_other : y ≡ Other → Makes b a c i o (gives (slice p i b) (records_from b i)) r → Makes b a c i o (r_condition_as levels y (slice p i b) (records_from b i)) r
  unfolding r_condition_as
  as_other z m = rw z m

-- ---- so many conditions
-- where one makes nothing, so do many
times_none : (q : Renderer) (k : ℕ) (rs : List Rec) → q rs ≡ gives [] rs → r_times k q rs ≡ gives [] rs
unfolding r_times
times_none q zero rs e = refl
times_none q (suc k) rs e = rw (e, times_none q k rs e) refl

times_zero : (q : Renderer) (k : ℕ) (rs : List Rec) → k ≤ 0 → r_times k q rs ≡ gives [] rs
unfolding r_times
times_zero q zero rs h = refl
times_zero q (suc k) rs h = absurd (omega arith)

times_more : (q : Renderer) (k : ℕ) (rs : List Rec) → 0 < k → r_times k q rs ≡ (q next r_times (k - 1) q) rs
unfolding r_times
times_more q zero rs h = absurd (omega arith)
times_more q (suc k) rs h = let u : suc k - 1 ≡ k = omega arith in rw u refl

-- after j of them, what the others make from x on completes the whole
pub record Timing (b : List ℕ) (levels k : ℕ) (a c : List ℕ) (i o j : ℕ) (x : Made) : Type 0 where
  pub is : (d : List ℕ) (s : Answer) → Makes b c d x.next x.end (r_times (k - j) (Inner levels) (records_from b x.next)) s → Makes b a d i o (r_times k (Inner levels) (records_from b i)) s
  pub high : x.next ≤ length b
  pub room : x.end ≤ length c
  pub same : length c ≡ length a

pub times_deep : (b : List ℕ) (levels k : ℕ) (a : List ℕ) (x : Made) → levels ≡ 0 → x.next ≤ length b → x.end ≤ length a → Makes b a a x.next x.end (r_times k (Inner levels) (records_from b x.next)) (Ok x)
times_deep b levels k a x z h l = makes_as (makes_none b a x h l) (sym (times_none (Inner levels) k (records_from b x.next) (none_deep levels (records_from b x.next) z)))

pub timing_start : (b : List ℕ) (levels k : ℕ) (a : List ℕ) (x : Made) → x.next ≤ length b → x.end ≤ length a → Timing b levels k a a x.next x.end 0 x
timing_start b levels k a x h l = let z : k - 0 ≡ k = omega arith in record { is = λ d s m. rw z at m; high = h; room = l; same = refl }

module _ {b : List ℕ} {levels k : ℕ} {a c : List ℕ} {i o j : ℕ} {x : Made} (h : Timing b levels k a c i o j x) where
  pub timing_none : length b < x.next + 4 → Makes b a c i o (r_times k (Inner levels) (records_from b i)) (Ok x)
  timing_none l =
      let e : records_from b x.next ≡ [] = from_few b x.next l in
      let f : r_condition levels (records_from b x.next) ≡ gives [] (records_from b x.next) = rw e (none_left levels) in
      h.is c (Ok x) (makes_as (makes_none b c x h.high h.room) (sym (times_none (Inner levels) (k - j) (records_from b x.next) f)))

  pub timing_all : k ≤ j → Makes b a c i o (r_times k (Inner levels) (records_from b i)) (Ok x)
  timing_all l = h.is c (Ok x) (makes_as (makes_none b c x h.high h.room) (sym (times_zero (Inner levels) (k - j) (records_from b x.next) (omega arith))))

  module _ (l : j < k) where
    turn : {d : List ℕ} {s : Answer} → Makes b c d x.next x.end ((Inner levels next r_times (k - (j + 1)) (Inner levels)) (records_from b x.next)) s → Makes b a d i o (r_times k (Inner levels) (records_from b i)) s
    turn {d} {s} m = let z : k - j - 1 ≡ k - (j + 1) = omega arith in h.is d s (makes_as m (sym (rw z at (times_more (Inner levels) (k - j) (records_from b x.next) (omega arith)))))

    pub timing_long : {d : List ℕ} {y : TooLong} → Makes b c d x.next x.end (r_condition levels (records_from b x.next)) (Err y) → Makes b a d i o (r_times k (Inner levels) (records_from b i)) (Err y)
    timing_long m = turn (next_long (Inner levels) (r_times (k - (j + 1)) (Inner levels)) m)

    pub timing_next : {d : List ℕ} {y : Made} → Makes b c d x.next x.end (r_condition levels (records_from b x.next)) (Ok y) → Timing b levels k a d i o (j + 1) y
    timing_next m = record {
      is = λ e s v. turn (next_took (Inner levels) (r_times (k - (j + 1)) (Inner levels)) m v);
      high = made_high m;
      room = made_room m;
      same = makes_same m ∙ h.same;
    }
