-- EF.OD's entries and what is inside directory files, made.
use Prim.Native.Nat.{ℕ, ◌+◌, ◌<◌, ◌≤◌}
use mathlib.Core.Path.{◌≡◌, refl, sym, ◌∙◌}
use mathlib.Core.List.{List}
use native.Mathlib.Omega.{arith}
use lib.ListN.{get_or, drop_of_length-le}
use lib.Seq.{slice, slice_empty, length-slice}
use borrow.Author.Tests.{lt-ltb, le-ltb, ne_eqb}
use Rattle.elements.specs.Length.{wrap}
use Rattle.rules.specs.Render.{gives, ◌next◌, within, r_fill, r_objects, r_inside, r_entry_of, r_entry, r_directory}
use Rattle.rules.specs.Book.{records_from, Ends}
use Rattle.rules.specs.BookLaws.{name_path}
use Rattle.makers.specs.Making.{Answer, Makes}
use Rattle.writer.specs.MakingFiles.{Tail}
use Rattle.makers.specs.MadeLaws.{makes_as, makes_behind, from_some}

-- an entry's own bytes
pub tail_none : (i e : ℕ) → e < i + 6 → Tail i e e
tail_none i e h = record { is = λ b l. drop_of_length-le (slice (i + 4) e b) {i = 2} (omega (arith, length-slice (i + 4) e b l)) ∙ sym (slice_empty e b) }

pub tail_some : (i e : ℕ) → i + 6 ≤ e → Tail i e (i + 6)
tail_some i e h = record { is = λ b l. name_path b i e }

-- inside an entry
module _ {b a c : List ℕ} {i e o : ℕ} (h : Ends b i e) {x : ℕ} (t : x ≡ get_or (slice (i + 4) e b) 1 0) {r : Answer} where
  pub inside_path : {p : ℕ} → x ≡ 0 → Tail i e p → Makes b a c e o (gives (wrap 0x30 (wrap 0x04 (slice p e b))) (records_from b e)) r → Makes b a c i o (r_inside (records_from b i)) r
  unfolding r_inside
  inside_path {p} z f m = from_some _ h (makes_as m (rw (sym t ∙ z, f.is b h.high) refl))

  pub inside_objects : (x ≡ 0 → ⊥) → Makes b a c e o (within 0xa0 r_objects (records_from b e)) r → Makes b a c i o (r_inside (records_from b i)) r
  unfolding r_inside r_objects
  inside_objects z m = from_some _ h (makes_as m (rw (← t, ne_eqb x 0 z) refl))

-- an entry
module _ {b a c : List ℕ} {i e o : ℕ} (h : Ends b i e) {x : ℕ} (t : x ≡ get_or (slice (i + 4) e b) 1 0) {r : Answer} where
  pub entry_known : {y : ℕ} → x < 2 → y ≡ get_or (slice (i + 4) e b) 0 0 → Makes b a c i o (within y r_inside (records_from b i)) r → Makes b a c i o (r_entry (records_from b i)) r
  unfolding r_entry r_entry_of
  entry_known z v m = makes_as (rw v at m) (rw (h.is, ← t, lt-ltb x 2 z) refl)

  pub entry_kept : {p : ℕ} → 2 ≤ x → Tail i e p → Makes b a c e o (gives (slice p e b) (records_from b e)) r → Makes b a c i o (r_entry (records_from b i)) r
  unfolding r_entry r_entry_of
  entry_kept {p} z f m = makes_as (makes_behind h m) (rw (h.is, ← t, le-ltb x 2 z, f.is b h.high) refl)

-- inside a directory file
pub directory_made : {b a c : List ℕ} {i e o : ℕ} {r : Answer} → Ends b i e → Makes b a c e o ((r_objects next r_fill 0x0107) (records_from b e)) r → Makes b a c i o (r_directory (records_from b i)) r
unfolding r_directory r_objects
directory_made h m = rw h.is (makes_behind h m)
