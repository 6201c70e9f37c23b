-- A record file: what stands where its records are read in turn, and that they are read where they stand.
use Prim.Native.Nat.{ℕ, zero, suc, ◌+◌, ◌-◌, ◌/◌, ◌%◌, ◌≤◌, ◌<◌}
use mathlib.Core.List.{List, [], ◌∷◌, ◌++◌, append_assoc}
use Rattle.std.proofs.Math.Bool.{true}
use Rattle.std.specs.Prelude.{◌≡◌, refl, length, get_or}
use Rattle.std.proofs.Common.{sym, ap, ◌∙◌, subst, arith, length-append}
use Rattle.std.proofs.Math.Nat.{le_refl}
use Rattle.std.proofs.Math.Seq.{slice, length-slice}
use borrow.Author.Tests.{lt-ltb, le-ltb, eq-eqb}
use Rattle.elements.specs.Lists.{Bytes, Begins, begins, join, cons}
use Rattle.elements.specs.Put.{le16}
use Rattle.rules.proofs.SoundFiles.{record_fine, record_sound}
use Rattle.rules.specs.Reading.{Rec, rec, Res, took, also, Reader}
use Rattle.rules.specs.Parts.{counted, repeat, to_end, inside}
use Rattle.rules.specs.Files as files
use Rattle.rules.specs.Files.{two, record_end, fits, linear}
use Rattle.rules.specs.declared.site.Site.{Site}
use Rattle.rules.specs.Grammar.{site_of, here, opening, many, total, AllMeet, flat}
use Rattle.rules.specs.ElementLaws.{is_end, parted}
use Rattle.rules.specs.GrammarLaws.{close, marks_append, Reads, refuses, takes, Facts, reached, Goes, BodyLaw}
use Rattle.rules.specs.ItemLaws.{behind_reads, behind_goes}
use Rattle.rules.specs.ValueLaws.{two_bytes}
use Rattle.rules.specs.RenderLaws.{home, many_renders, lengthed_renders}
use Rattle.rules.specs.Layouts as layouts
use Rattle.rules.specs.Entries as entries
use Rattle.rules.specs.FileLayouts as filing
use Rattle.cards.specs.Card as card
use Rattle.cards.specs.Fits.{Fit, spent, onto}
use Rattle.cards.proofs.FrameLaws.{bytes_are}
use Rattle.cards.proofs.PartLaws.{all_of}

-- what fits does not run over
pub fit_high : {s : List ℕ} {stop at : ℕ} → Fit s stop at → at ≤ stop
fit_high (spent e) = omega arith
fit_high (onto h f) = omega arith

module _ (site : Site) (s : List ℕ) (bytes : Bytes s) (small : length s ≤ 32768) (t : ℕ) where
  -- a record after k objects
  record_law : (k : ℕ) → k ≤ 128 → BodyLaw site s (inside (files.record_in s site t k)) (filing.record_in t).part (filing.record_in t).count k 128
  unfolding files.record_in entries.object
  record_law k h = ((record_sound t).lawful (record_fine t)).exact site s bytes small k h

  -- it ends where its container does
  pub record_closes : (k : ℕ) → k ≤ 128 → (end at : ℕ) → at ≤ end → end ≤ length s → {bs : List Rec} {ms : List ℕ} {n : ℕ} → files.record_in s site t k end at ≡ took bs ms n → n ≡ end
  record_closes k h end at i l {bs} {ms} {n} e = go (subst (Reads site s (filing.record_in t).part (filing.record_in t).count k 128 close end at) e ((record_law k h).sound 0 at end (omega arith) i l))
    where
      go : Reads site s (filing.record_in t).part (filing.record_in t).count k 128 close end at (took bs ms n) → n ≡ end
      go (takes x) = x.closes tt

  -- the record at a place
  abbrev record_at : ℕ → Reader
  record_at j _ i = files.record_in s site t j (record_end s i) (i + 2)

  abbrev Records : (stop k at : ℕ) → Res → Type 0
  Records stop k at r = Reads site s (many (card.record_in t)) (total (filing.record_in t).count) k 128 close stop at r

  -- the bytes of a record, its length in front
  record_bytes_lem : (at : ℕ) → record_end s at ≤ length s → slice at (record_end s at) s ≡ le16 (length (slice (at + 2) (record_end s at) s)) ++ slice (at + 2) (record_end s at) s
  record_bytes_lem at l =
      let e = record_end s at in
      let n : length (slice (at + 2) e s) ≡ two s at = omega (arith, length-slice (at + 2) e s l) in
      let b = bytes_are (get_or s at 0) (get_or s (at + 1) 0) (bytes at) (bytes (at + 1)) in
      let z : at + 1 + 1 ≡ at + 2 = omega arith in
      cons s at e (omega arith) l ∙ rw (cons s (at + 1) e (omega arith) l, z, n, b.0, b.1) refl

  -- one record before the others
  records_more : {stop k at : ℕ} → record_end s at ≤ stop → stop ≤ length s → {bs : List Rec} {ms : List ℕ} {n : ℕ} → Facts site s (filing.record_in t).part (filing.record_in t).count k 128 close (record_end s at) (at + 2) bs ms n →
      {r : Res} → Records stop (k + length ms) n r → Records stop k at (also bs ms r)
  records_more h l x (refuses p o) = refuses p o
  records_more {stop} {k} {at} h l {bs} {ms} {n} x (takes {rs = ds} {ms = ns} {n = m} d) =
      let e = record_end s at in
      let z : n ≡ e = x.closes tt in
      let y : slice (at + 2) e s ≡ (filing.record_in t).part.bytes x.it = all_of x in
      takes {rs = bs ++ ds} {ms = ms ++ ns} {n = m} (record {
        it = x.it ∷ d.it;
        meets = (x.meets, d.meets);
        low = omega (arith, x.low, d.low);
        high = d.high;
        bytes = sym (join at e stop s (omega arith) h) ∙ rw (record_bytes_lem at (omega arith), y, ← z, d.bytes, append_assoc) refl;
        book =
            let b = (filing.record_in t).part.book (here site (at + 2)) x.it in
            let i : n ≡ at + length ((card.record_in t).bytes x.it) = omega (arith, reached (omega arith) x) in
            rw (x.book, d.book) (ap (λ j. b ++ (many (card.record_in t)).book (here site j) d.it) i);
        counted = length-append ms ns ∙ omega (arith, x.counted, d.counted);
        marks = marks_append (length s) ms ns x.marks d.marks;
        room = omega (arith, d.room, x.counted);
        closes = d.closes;
      })

  -- records that fit are read as they are
  records_sound : {stop at : ℕ} → Fit s stop at → stop ≤ length s → (g k : ℕ) → k ≤ 128 → stop - at ≤ g → Records stop k at (repeat to_end record_at g k stop at)
  unfolding repeat
  records_sound {stop} {at} (spent e) l g k h m = go g
    where
      none : Records stop k at (took [] [] at)
      none = takes {rs = []} {ms = []} {n = at} (record { it = []; meets = tt; low = le_refl at; high = omega arith; bytes = refl; book = refl; counted = refl; marks = tt; room = omega arith; closes = λ _. e })

      go : (g : ℕ) → Records stop k at (repeat to_end record_at g k stop at)
      go zero = rw (le-ltb at stop (omega arith)) none
      go (suc g) = rw (le-ltb at stop (omega arith)) none
  records_sound (onto h f) l zero k i m = absurd (omega arith)
  records_sound {stop} {at} (onto h f) l (suc g) k i m =
      let e = record_end s at in
      rw (lt-ltb at stop h) (by_record ((record_law k i).sound 0 (at + 2) e (omega arith) (omega arith) (omega (arith, fit_high f))) (λ j o. records_sound f l g j o (omega arith)))
    where
      by_record : {r : Res} → Reads site s (filing.record_in t).part (filing.record_in t).count k 128 close (record_end s at) (at + 2) r →
          ((j : ℕ) → j ≤ 128 → Records stop j (record_end s at) (repeat to_end record_at g j stop (record_end s at))) → Records stop k at (counted r (λ c n. repeat to_end record_at g (k + c) stop n))
      by_record (refuses p o) more = refuses p o
      by_record (takes {ms = ms} {n = n} x) more = let z : n ≡ record_end s at = x.closes tt in records_more (fit_high f) l x {r = repeat to_end record_at g (k + length ms) stop n} (rw z (more (k + length ms) (omega (arith, x.room, x.counted))))

  -- a card's records stand there: they fit, and they are read
  record RecordsGo (stop at : ℕ) (xs : (card.linear t).Of) : Type 0 where
    fit : (g : ℕ) → stop - at ≤ g → fits s g stop at ≡ true
    goes : (g k : ℕ) → stop - at ≤ g → k + total (filing.record_in t).count xs ≤ 128 → Goes s stop at ((many (card.record_in t)).book (here site at) xs) (total (filing.record_in t).count xs) [] (repeat to_end record_at g k stop at)

  records_complete : (stop : ℕ) → stop ≤ length s → (xs : (card.linear t).Of) → AllMeet (card.record_in t).Meets xs → (at : ℕ) → at ≤ stop → slice at stop s ≡ flat (card.record_in t).bytes xs → RecordsGo stop at xs
  unfolding fits repeat
  records_complete stop l [] y at h e =
      let z : at ≡ stop = is_end s at stop h l e in
      record { fit = λ g _. fitting g z; goes = λ g k _ _. record { ms = []; n = at; is = over g k z; counted = refl; low = le_refl at; high = h; left = e } }
    where
      fitting : (g : ℕ) → at ≡ stop → fits s g stop at ≡ true
      fitting zero z = eq-eqb at stop z
      fitting (suc g) z = rw (le-ltb at stop (omega arith)) (eq-eqb at stop z)

      over : (g k : ℕ) → at ≡ stop → repeat to_end record_at g k stop at ≡ took [] [] at
      over zero k z = rw (le-ltb at stop (omega arith)) refl
      over (suc g) k z = rw (le-ltb at stop (omega arith)) refl
  records_complete stop l (x ∷ xs) y at h e =
      let b = (filing.record_in t).part.bytes x in
      let w = flat (card.record_in t).bytes xs in
      let n = length b in
      let f1 : Begins s at stop (n % 256) (n / 256 % 256 ∷ (b ++ w)) = begins s at stop l e in
      let f2 : Begins s (at + 1) stop (n / 256 % 256) (b ++ w) = begins s (at + 1) stop l f1.rest in
      let z2 : at + 1 + 1 ≡ at + 2 = omega arith in
      let q = parted s (at + 2) stop b w (omega (arith, f2.before)) l (rw z2 at f2.rest) in
      let i : at + 2 + n ≤ stop = q.high in
      let v : record_end s at ≡ at + 2 + n = ap (λ (m : ℕ). at + 2 + m) (rw (f1.first, f2.first) (two_bytes n (omega arith))) in
      let d = records_complete stop l xs y.1 (at + 2 + n) i q.left in
      record {
        fit = λ g m. fitting g m v (omega (arith, f1.before)) d.fit;
        goes = λ g k m r. going g k m r v (omega (arith, f1.before)) i q.this d;
      }
    where
      n : ℕ
      n = length ((filing.record_in t).part.bytes x)

      fitting : (g : ℕ) → stop - at ≤ g → record_end s at ≡ at + 2 + n → at < stop → ((g : ℕ) → stop - (at + 2 + n) ≤ g → fits s g stop (at + 2 + n) ≡ true) → fits s g stop at ≡ true
      fitting zero m v o f = absurd (omega arith)
      fitting (suc g) m v o f = rw (lt-ltb at stop o, v) (f g (omega arith))

      going : (g k : ℕ) → stop - at ≤ g → k + total (filing.record_in t).count (x ∷ xs) ≤ 128 → record_end s at ≡ at + 2 + n → at < stop → at + 2 + n ≤ stop → slice (at + 2) (at + 2 + n) s ≡ (filing.record_in t).part.bytes x → RecordsGo stop (at + 2 + n) xs →
          Goes s stop at ((many (card.record_in t)).book (here site at) (x ∷ xs)) (total (filing.record_in t).count (x ∷ xs)) [] (repeat to_end record_at g k stop at)
      going zero k m r v o i q d = absurd (omega arith)
      going (suc g) k m r v o i q d =
          let a = (record_law k (omega arith)).complete 0 (at + 2) (at + 2 + n) (omega arith) (omega arith) (omega arith) x y.0 (omega arith) q in
          let j : a.n ≡ at + 2 + n = is_end s a.n (at + 2 + n) a.high (omega arith) a.left in
          let first : files.record_in s site t k (record_end s at) (at + 2) ≡ took ((filing.record_in t).part.book (here site (at + 2)) x) a.ms (at + 2 + n) = rw v (a.is ∙ ap (took ((filing.record_in t).part.book (here site (at + 2)) x) a.ms) j) in
          let z : at + 2 + n ≡ at + length ((card.record_in t).bytes x) = omega arith in
          let u = d.goes g (k + length a.ms) (omega arith) (omega (arith, a.counted)) in
          record {
            ms = a.ms ++ u.ms;
            n = u.n;
            is = rw (lt-ltb at stop o, first, u.is) (ap (λ i. took ((filing.record_in t).part.book (here site (at + 2)) x ++ (many (card.record_in t)).book (here site i) xs) (a.ms ++ u.ms) u.n) z);
            counted = length-append a.ms u.ms ∙ omega (arith, a.counted, u.counted);
            low = omega (arith, u.low);
            high = u.high;
            left = u.left;
          }

-- its records are the same wherever it starts
pub linear_home : (t n p : ℕ) (xs : (card.linear t).Of) → (card.linear t).book (opening n p) xs ≡ (card.linear t).book (opening n 0) xs
unfolding entries.object layouts.insides
linear_home t n p xs = rw (home (many_renders {P = card.record_in t} tt (lengthed_renders tt ((record_sound t).lawful (record_fine t)).renders)) n p xs) refl

-- a record file, the nth, is read as it is, if its records fit
module _ (s : List ℕ) (bytes : Bytes s) (small : length s ≤ 32768) (n t : ℕ) where
  pub linear_sound : {stop at : ℕ} → Fit s stop at → stop ≤ length s → (k : ℕ) → k ≤ 128 → Reads (site_of n at) s (card.linear t) (total (filing.record_in t).count) k 128 close stop at (linear s n t k stop at)
  unfolding linear
  linear_sound {stop} {at} f l k h = behind_reads (rec 0x0119 []) (records_sound (site_of n at) s bytes small t f l (stop - at) k h (le_refl (stop - at)))

  -- and a card's fits, and is read
  pub linear_complete : (stop at : ℕ) → at ≤ stop → stop ≤ length s → (xs : (card.linear t).Of) → (card.linear t).Meets xs → slice at stop s ≡ (card.linear t).bytes xs →
      (fits s (stop - at) stop at ≡ true) × ((k : ℕ) → k + total (filing.record_in t).count xs ≤ 128 → Goes s stop at ((card.linear t).book (opening n at) xs) (total (filing.record_in t).count xs) [] (linear s n t k stop at))
  unfolding linear
  linear_complete stop at h l xs y e =
      let d = records_complete (site_of n at) s bytes small t stop l xs y at h e in
      (d.fit (stop - at) (le_refl (stop - at)), (λ k r. behind_goes (rec 0x0119 []) (d.goes (stop - at) k (le_refl (stop - at)) r)))
