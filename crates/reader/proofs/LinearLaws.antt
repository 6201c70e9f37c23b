-- The records of a record file in turn, and a file of either kind.
use Prim.Native.Nat.{ℕ, ◌+◌, ◌-◌, ◌*◌, ◌^◌, ◌<◌, ◌≤◌}
use mathlib.Core.Path.{◌≡◌, refl, ◌∙◌}
use mathlib.Core.List.{List, []}
use native.Mathlib.Omega.{arith}
use lib.ListN.{length}
use borrow.Author.Tests.{lt-ltb, le-ltb, ne_eqb}
use Rattle.elements.specs.declared.fault.Fault.{Fault}
use Rattle.elements.specs.Lists.{Bytes}
use Rattle.elements.specs.Put.{Put}
use Rattle.elements.specs.PutLaws.{put_none, put_put}
use Rattle.elements.specs.Record.{record_bytes}
use Rattle.files.specs.declared.holder.Holder.TheVariants as holder
use Rattle.rules.specs.Reading.{Res, fails}
use Rattle.rules.specs.declared.site.Site.{Site}
use Rattle.rules.specs.Grammar.{site_of}
use Rattle.rules.specs.Parts.{to_end}
use Rattle.rules.specs.Files.{two, record_end, directory, record_in, linear}
use Rattle.cards.specs.Fits.{Fit, spent, onto, Sorted, transparent, of_records}
use Rattle.cards.proofs.RecordLaws.{fit_high, record_closes}
use Rattle.objects.specs.RepeatLaws.{Going, going_none, going_step, going_stop, going_break}
use Rattle.files.specs.Filing.{DidObjects, did_objects, fell_objects, filled_up}
use Rattle.files.specs.ObjectsLaws.{objects_open, objects_small, objects_few, objects_same, objects_kept, objects_front}
use Rattle.reader.specs.Linear.{record_at, records_in, by_kind}
use Rattle.objects.specs.Did.{Many, came_with}
use Rattle.elements.specs.Answer.{refused}

-- the loop over the records: those before n were read, and those from n on fit
pub record Records (s : List ℕ) (site : Site) (entry : ℕ) (a b u v : List ℕ) (end at o k j n p : ℕ) : Type 0 where
  pub bytes : Bytes s
  pub inside : end ≤ length s
  pub short : length s ≤ 32768
  pub going : Going to_end (record_at s site entry) a b end at o k j n p
  pub marks : Put u v k j going.ms
  pub few : j ≤ 128
  pub low : at ≤ n
  pub high : n ≤ end
  pub small : p ≤ 8 * n + 131072
  pub fit : Fit s end n
  pub same : length b ≡ length a
  pub kept : length v ≡ length u

pub records_start : {s : List ℕ} (site : Site) (entry : ℕ) (a u : List ℕ) {end at : ℕ} (o k : ℕ) → Bytes s → end ≤ length s → length s ≤ 32768 → Fit s end at → k ≤ 128 → at ≤ end → o ≤ 8 * at + 131072 → Records s site entry a a u u end at o k k at o
unfolding going_none
records_start {s} site entry a u {end} {at} o k b i l f h m q = record {
  bytes = b;
  inside = i;
  short = l;
  going = going_none to_end (record_at s site entry) a end at o k m q;
  marks = put_none u k;
  few = h;
  low = omega arith;
  high = m;
  small = q;
  fit = f;
  same = refl;
  kept = refl;
}

module _ {s : List ℕ} {site : Site} {entry : ℕ} {a b u v : List ℕ} {end at o k j n p : ℕ} (h : Records s site entry a b u v end at o k j n p) where
  pub records_all : end ≤ n → DidObjects a b u v o at end k (records_in s site entry k end at) (came_with n p j)
  records_all l = rw (going_stop h.going (le-ltb n end l)) (did_objects {n = n} h.going.put h.marks h.low h.high h.small h.few)

  pub records_few : j ≤ 128
  records_few = h.few

  module _ (l : n < end) where
    -- the next record lies in the file
    next_fit : Fit s end (record_end s n)
    next_fit = go h.fit
      where
        go : Fit s end n → Fit s end (record_end s n)
        go (spent e) = absurd (omega arith)
        go (onto _ f) = f

    next_high : n + 2 + two s n ≤ end
    next_high = fit_high next_fit

    pub records_word : n + 2 ≤ length s
    records_word = omega (arith, next_high, h.inside)

    module _ {m : ℕ} (k' : m ≡ two s n) where
      pub records_end : n + 2 + m < 2 ^ 64
      records_end = omega (arith, next_high, h.inside, h.short)

      pub records_mid : n + 2 ≤ n + 2 + m
      records_mid = omega arith

      pub records_high : n + 2 + m ≤ length s
      records_high = omega (arith, next_high, h.inside)

      pub records_room : p + 4 ≤ 8 * (n + 2) + 131072
      records_room = omega (arith, h.small)

      pub records_small : p ≤ 8 * (n + 2) + 131072
      records_small = omega (arith, h.small)

      module _ {c x : List ℕ} {w : Many} (d : DidObjects b c v x p (n + 2) (n + 2 + m) j (filled_up s holder.Record 0x011a site entry j (n + 2 + m) (n + 2)) w) where
        -- what was read is the record
        is_record : DidObjects b c v x p (n + 2) (record_end s n) j (record_at s site entry j end n) w
        unfolding record_in
        is_record = rw k' at d

        pub records_fell : {f : Fault} {y : ℕ} → w ≡ refused f y → DidObjects a c u x o at end k (records_in s site entry k end at) (refused f y)
        records_fell {f} {y} z = failed (record_at s site entry j end n) refl (rw z at is_record)
          where
            failed : (r : Res) → record_at s site entry j end n ≡ r → DidObjects b c v x p (n + 2) (record_end s n) j r (refused f y) → DidObjects a c u x o at end k (records_in s site entry k end at) (refused f y)
            failed (Rattle.rules.specs.Reading.took _ _ _) q x6 = elim x6 [ ]
            failed (fails _ _) q (fell_objects i g) = rw (going_break h.going (lt-ltb n end l) l q) (fell_objects (i ∙ h.same) (g ∙ h.kept))

        module _ {r q i : ℕ} (z : w ≡ came_with r q i) where
          -- it ends where its length says
          closes : r ≡ record_end s n
          closes = let y = objects_open (rw z at is_record) in record_closes site s h.bytes h.short entry j h.few (record_end s n) (n + 2) (omega arith) (omega (arith, next_high, h.inside)) y.2

          pub records_less : end - r < end - n
          records_less = omega (arith, closes)

          pub records_next : Records s site entry a c u x end at o k i r q
          unfolding going_step
          records_next =
              let y = objects_open (rw z at is_record) in
              let e = closes in
              let up = next_high in
              record {
                bytes = h.bytes;
                inside = h.inside;
                short = h.short;
                going = going_step h.going (lt-ltb n end l) l y.0 y.1 y.2 y.3 (omega arith) (omega arith) (objects_small (rw z at d)) y.4.at;
                marks = put_put h.marks y.4;
                few = objects_few (rw z at d);
                low = omega (arith, h.low);
                high = omega arith;
                small = objects_small (rw z at d);
                fit = rw e next_fit;
                same = objects_same d ∙ h.same;
                kept = objects_kept d ∙ h.kept;
              }

-- behind its 0119
pub linear_front : {a b c u v : List ℕ} {o q at end k : ℕ} {r : Many} (s : List ℕ) (n entry : ℕ) → Put a b o q (record_bytes 0x0119 []) → DidObjects b c u v q at end k (records_in s (site_of n at) entry k end at) r → DidObjects a c u v o at end k (linear s n entry k end at) r
unfolding linear
linear_front s n entry f d = objects_front 0x0119 [] f d

-- a file of either kind
module _ {a b u v : List ℕ} {o at end k : ℕ} (s : List ℕ) (kind n entry : ℕ) {r : Many} where
  pub kind_transparent : kind ≡ 3 → DidObjects a b u v o at end k (filled_up s holder.File 0x0118 (site_of n at) entry k end at) r → DidObjects a b u v o at end k (by_kind s kind n entry k end at) r
  unfolding directory
  kind_transparent z d = rw z d

  pub kind_linear : (kind ≡ 3 → ⊥) → DidObjects a b u v o at end k (linear s n entry k end at) r → DidObjects a b u v o at end k (by_kind s kind n entry k end at) r
  kind_linear z d = rw (ne_eqb kind 3 z) d

-- one of records has records that fit
pub kind_fits : {s : List ℕ} {kind end at : ℕ} → Sorted s kind end at → (kind ≡ 3 → ⊥) → Fit s end at
kind_fits (transparent e) z = absurd (z e)
kind_fits (of_records _ f) z = f
