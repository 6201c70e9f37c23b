-- What the code does of a file's parts: its fill, its objects with their places, EF.OD's entries.
use Rattle.std.specs.Prelude.{ℕ, ◌+◌, ◌-◌, ◌*◌, ◌≤◌, ◌<◌, ◌≡◌, List, [], ◌∷◌, Bool, false, length, ltb, Option, Some, None, Result, Ok, Err}
use Rattle.elements.specs.declared.fault.Fault.{Fault}
use Rattle.elements.specs.declared.fault.Fault.TheVariants.{FillDiffers, SecondObject}
use Rattle.elements.specs.Put.{Put}
use Rattle.elements.specs.declared.answer.Refusal.{Refusal}
use Rattle.files.specs.declared.holder.Holder.{Holder}
use Rattle.files.specs.declared.holder.Holder.TheVariants as holder
use Rattle.rules.specs.Reading.{Rec, rec, Res, took, fails, also, Reader, ◌then◌}
use Rattle.rules.specs.Parts.{element, ended, repeat, up_to, to_end}
use Rattle.rules.specs.declared.site.Site.{Site}
use Rattle.rules.specs.Objects.{object}
use Rattle.rules.specs.Files.{to_fill, filled, fill, entry_inside, entry_body, names_of, paths, first_again, entry_place}
use Rattle.rules.specs.Book.{encode}
use Rattle.objects.specs.Did.{Many, came_with}
use Rattle.elements.specs.Answer.{refused}
use Rattle.files.specs.declared.answer.Entries.{Entries}
use Rattle.objects.specs.declared.part.Cursor.{Cursor}

-- r is the first place from `at` on that differs from b, or the end
pub record Filled (s : List ℕ) (b end at r : ℕ) : Type 0 where
  pub bad : r < end → filled s b (end - at) end at ≡ fails FillDiffers r
  pub all : end ≤ r → filled s b (end - at) end at ≡ took [] [] end

-- the same of objects, the places of which are stored from k on in lent marks, which were u and are v
pub data DidObjects (a b u v : List ℕ) (o at end k : ℕ) : Res → Many → Type 0 where
  did_objects : {bs : List Rec} {ms : List ℕ} {n q j : ℕ} → Put a b o q (encode bs) → Put u v k j ms → at ≤ n → n ≤ end → q ≤ 8 * n + 131072 → j ≤ 128 → DidObjects a b u v o at end k (took bs ms n) (came_with n q j)
  fell_objects : {f : Fault} {p : ℕ} → length b ≡ length a → length v ≡ length u → DidObjects a b u v o at end k (fails f p) (refused f p)

-- 12: `again` is the place of the first entry of EF.OD that names a path once more; or there is none, and all the paths ps differ
pub record PathsTold (s : List ℕ) (end at : ℕ) (ps : List (List ℕ)) (again : Option ℕ) : Type 0 where
  pub never : again ≡ None → first_again [] ps ≡ length ps
  pub twice : (p : ℕ) → again ≡ Some p → (first_again [] ps < length ps) × (p ≡ entry_place s (length s) (first_again [] ps) end at)

-- the same of EF.OD's entries, with that place
abbrev pub Listed : Type 0
Listed = Result Entries Refusal

abbrev pub listed : ℕ → ℕ → ℕ → Option ℕ → Listed
listed n q j again = Ok (record { at = record { dump = n; book = q }; objects = j; again = again })

abbrev pub objects_of : Listed → Many
objects_of (Ok c) = came_with c.at.dump c.at.book c.objects
objects_of (Err r) = Err r

pub record DidEntries (s a b u v : List ℕ) (o at end : ℕ) (w : Res) (r : Listed) : Type 0 where
  pub objects : DidObjects a b u v o at end 0 w (objects_of r)
  pub told : {cs : List Rec} {ms : List ℕ} {m : ℕ} {e : Entries} → w ≡ took cs ms m → r ≡ Ok e → PathsTold s end at (paths (names_of cs)) e.again

pub record ForwardMany (at : ℕ) (r : Many) : Type 0 where
  pub is : (c : Cursor) (j : ℕ) → r ≡ Ok (c, j) → at < c.dump

-- objects go up to the end of a list in EF.OD, or up to the fill of a file or of a record
abbrev pub more_of : List ℕ → Holder → ℕ → ℕ → Bool
more_of s holder.List end at = to_end end at
more_of s holder.File end at = to_fill s end at
more_of s holder.Record end at = to_fill s end at

-- a record is full with one: k came before it, j in all
abbrev pub full_of : Holder → ℕ → ℕ → Bool
full_of holder.List k j = false
full_of holder.File k j = false
full_of holder.Record k j = ltb k j

module _ (s : List ℕ) where
  -- the next object of a holder, k before which there were
  abbrev pub item_of : Holder → Site → ℕ → ℕ → ℕ → Reader
  item_of holder.List site entry k = object s site entry
  item_of holder.File site entry k = object s site entry
  item_of holder.Record site entry k = up_to (k + 1) SecondObject (object s site entry)

  -- its objects; behind the record that opens it; with its fill
  abbrev pub objects_in : Holder → Site → ℕ → ℕ → Reader
  objects_in x site entry k end at = repeat (more_of s x) (item_of x site entry k) (end - at) k end at

  abbrev pub opened_by : Holder → ℕ → Site → ℕ → ℕ → Reader
  opened_by x kind site entry k end at = also (rec kind [] ∷ []) [] (objects_in x site entry k end at)

  abbrev pub filled_up : Holder → ℕ → Site → ℕ → ℕ → Reader
  filled_up x kind site entry k = opened_by x kind site entry k then fill s 0x0107

  -- objects in EF.OD itself, behind the record of their entry
  abbrev pub inlined : Site → ℕ → ℕ → Reader
  inlined site entry k end at = also (rec 0x0110 (entry ∷ 1 ∷ []) ∷ []) [] (objects_in holder.List site entry k end at)

module _ (site : Site) (s : List ℕ) where
  -- the contents of an entry of a class
  abbrev pub known_entry : ℕ → ℕ → Reader
  known_entry entry k = element s (entry_inside site s entry k) then ended s

  -- an entry, after k objects
  abbrev pub entry_at : ℕ → Reader
  entry_at k = element s (entry_body site s k)

  -- EF.OD's entries, up to its fill
  abbrev pub entries_at : Reader
  entries_at end at = repeat (to_fill s) entry_at (end - at) 0 end at
