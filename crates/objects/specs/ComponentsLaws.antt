-- The loop over a sequence's rows.
use Rattle.std.specs.Prelude.{ℕ, ◌+◌, ◌*◌, ◌<◌, ◌≤◌, ◌≡◌, refl, List, [], ◌++◌, length, get_or, Ok, Err}
use Rattle.std.proofs.Math.Path.{sym}
use Rattle.std.proofs.Common.{◌∙◌, append-nil, append_assoc, arith}
use Rattle.std.proofs.Math.Numerals.{add-one}
use Rattle.std.proofs.Math.Seq.{slice, slice_empty, slice-cons}
use Rattle.elements.specs.declared.answer.Refusal.{Refusal}
use Rattle.objects.specs.declared.part.Cursor.{Cursor}
use Rattle.rules.specs.declared.table.Row.{Row}
use Rattle.rules.specs.Reading.{Rec, Res, took, fails, also, and_then}
use Rattle.rules.specs.Parts.{component, row_body, components}
use Rattle.rules.specs.Tables.{no_row}
use Rattle.objects.specs.Did.{Part, came, Did}
use Rattle.objects.specs.DidLaws.{did_then, did_fails, did_none, did_low, did_high, did_small, did_same, did_as}

abbrev one : List ℕ → Row → ℕ → ℕ → Res
one s r end at = component s r.tag r.need (row_body s r) end at

-- what is left after w, which the code has read up to n and put up to p
pub record Along (s : List ℕ) (rs : List Row) (a b : List ℕ) (i last end at o k n p : ℕ) : Type 0 where
  pub from : i ≤ k
  pub upto : k ≤ last
  pub fits : last ≤ length rs
  pub low : at ≤ n
  pub high : n ≤ end
  pub small : p ≤ 8 * n + 131072
  pub same : length b ≡ length a
  pub before : Res
  pub done : Did a b o at end before (came n p)
  pub rest : and_then before (λ m. components s (slice k last rs) end m) ≡ components s (slice i last rs) end at

pub also_none : (w : Res) → also [] [] w ≡ w
also_none (took bs ms n) = refl
also_none (fails f p) = refl

pub along_none : (s : List ℕ) (rs : List Row) (a : List ℕ) (i last end at o : ℕ) → i ≤ last → last ≤ length rs → at ≤ end → o ≤ 8 * at + 131072 → Along s rs a a i last end at o i at o
along_none s rs a i last end at o h l j k = record {
  from = omega arith;
  upto = h;
  fits = l;
  low = omega arith;
  high = j;
  small = k;
  same = refl;
  before = took [] [] at;
  done = did_none a o at end j k;
  rest = also_none (components s (slice i last rs) end at);
}

pub also_also : (bs cs : List Rec) (ms ns : List ℕ) (w : Res) → also bs ms (also cs ns w) ≡ also (bs ++ cs) (ms ++ ns) w
also_also bs cs ms ns (took ds ps n) = rw (append_assoc bs cs ds, append_assoc ms ns ps) refl
also_also bs cs ms ns (fails f p) = refl

pub then_then : (w : Res) (f g : ℕ → Res) → and_then w (λ m. and_then (f m) g) ≡ and_then (and_then w f) g
then_then (took bs ms n) f g = go (f n)
  where
    go : (v : Res) → also bs ms (and_then v g) ≡ and_then (also bs ms v) g
    go (took cs ns k) = also_also bs cs ms ns (g k)
    go (fails x p) = refl
then_then (fails x p) f g = refl

module _ {s : List ℕ} {rs : List Row} {a b : List ℕ} {i last end at o k n p : ℕ} (h : Along s rs a b i last end at o k n p) (l : k < last) where
  head_is : and_then (and_then h.before (λ m. one s (get_or rs k no_row) end m)) (λ m. components s (slice (k + 1) last rs) end m) ≡ components s (slice i last rs) end at
  unfolding components
  head_is =
      sym (then_then h.before (λ m. one s (get_or rs k no_row) end m) (λ m. components s (slice (k + 1) last rs) end m))
      ∙ (rw add-one (rw (slice-cons k last rs no_row l h.fits) at h.rest))

  module _ {c : List ℕ} {r : Row} (e : r ≡ get_or rs k no_row) where
    here : {w : Part} → Did b c p n end (one s r end n) w → Did a c o at end (and_then h.before (λ m. one s (get_or rs k no_row) end m)) w
    here d = did_then h.done (λ m. one s (get_or rs k no_row) end m) (rw e at d)

    pub along_fails : {x : Refusal} → Did b c p n end (one s r end n) (Err x) → Did a c o at end (components s (slice i last rs) end at) (Err x)
    along_fails d = did_as (did_fails (here d) (λ m. components s (slice (k + 1) last rs) end m)) head_is

    pub along_next : {m : Cursor} → Did b c p n end (one s r end n) (Ok m) → Along s rs a c i last end at o (k + 1) m.dump m.book
    along_next {m} d = record {
      from = omega (arith, h.from);
      upto = omega arith;
      fits = h.fits;
      low = did_low (here d);
      high = did_high (here d);
      small = did_small (here d);
      same = did_same (here d);
      before = and_then h.before (λ y. one s (get_or rs k no_row) end y);
      done = here d;
      rest = head_is;
    }

pub along_all : {s : List ℕ} {rs : List Row} {a b : List ℕ} {i last end at o k n p : ℕ} → Along s rs a b i last end at o k n p → last ≤ k → Did a b o at end (components s (slice i last rs) end at) (came n p)
unfolding components
along_all {s} {rs} {a} {b} {i} {last} {end} {at} {o} {k} {n} {p} h l = did_as h.done (go h.before ∙ (rw (empty, components) at h.rest))
  where
    empty : slice k last rs ≡ []
    empty = let z : k ≡ last = omega (arith, h.upto) in rw z (slice_empty last rs)

    go : (w : Res) → w ≡ and_then w (λ m. took [] [] m)
    go (took bs ms m) = rw (append-nil bs, append-nil ms) refl
    go (fails f x) = refl
