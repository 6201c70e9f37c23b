-- CIAInfo, EF.OD and a transparent file: their readers read those parts of a card, and count its objects.
use Rattle.std.specs.Prelude.{ℕ, ◌≤◌, List, [], ◌∷◌, ◌≡◌, length}
use Rattle.std.proofs.Common.{append-nil, inl, inr, ◌∙◌, arith, length-append}
use Rattle.std.proofs.Math.Path.{refl}
use Rattle.std.proofs.Math.Seq.{slice, slice_empty}
use Rattle.elements.specs.Lists.{Bytes}
use Rattle.rules.proofs.SoundLayouts.{cia_fine, cia_sound}
use Rattle.rules.proofs.SoundFiles.{dir_fine, dir_sound, directory_fine, directory_sound, od_fine, od_sound}
use Rattle.rules.specs.Reading.{Rec}
use Rattle.rules.specs.Parts.{inside}
use Rattle.rules.specs.Files as files
use Rattle.rules.specs.declared.site.Site.{Site}
use Rattle.rules.specs.Grammar.{Where, site_of, origin, ◌on◌, each, one, Part, total}
use Rattle.rules.specs.GrammarLaws.{close, Facts, BodyLaw, PlainBody, inside_law}
use Rattle.rules.specs.ItemLaws.{recount_body, total_none}
use Rattle.rules.specs.Layouts as layouts
use Rattle.rules.specs.Entries as entries
use Rattle.rules.specs.FileLayouts as filing
use Rattle.cards.specs.Card as card
use Rattle.cards.specs.Card.{under, in_entry, in_od, in_records}

-- as many as are listed
total_each : {A B : Type 0} (c : A → ℕ) (b : A → List ℕ) (f : Where → A → List B) → ((v : Where) (x : A) → c x ≡ length (f v x)) → (v : Where) (xs : List A) → total c xs ≡ length (each b f v xs)
total_each c b f h v [] = refl
total_each c b f h v (x ∷ xs) = let w = v on length (b x) in omega (arith, h v x, total_each c b f h w xs, length-append (f v x) (each b f w xs))

-- the objects under a tag are counted, each once
pub count_under : (t : ℕ) (v : Where) (os : List (entries.object t).part.Of) → total (entries.object t).count os ≡ length (under t v os)
unfolding entries.object
count_under t v os = total_each (entries.object t).count (entries.object t).part.bytes (λ v o. (t, o, v) ∷ []) (λ v o. refl) v os

-- and those in an entry
count_entry : (v : Where) (x : (entries.item).Of) → entries.in_entry x ≡ length (in_entry v x)
count_entry v (inl (t, inl path)) = refl
count_entry v (inl (t, inr objects)) = count_under t _ objects
count_entry v (inr unknown) = refl

count_od : (x : (card.od).Of) → (filing.od).count x ≡ length (in_od x)
count_od (list, fill) = total_each entries.in_entry (one entries.item).bytes in_entry count_entry origin list

-- and those of a file
pub count_file : (t : ℕ) (v : Where) (x : (card.directory t).Of) → (filing.directory t).count x ≡ length (under t v x.0)
count_file t v x = count_under t v x.0

pub count_records : (t : ℕ) (v : Where) (xs : (card.linear t).Of) → total (filing.record_in t).count xs ≡ length (in_records t v xs)
count_records t v xs = total_each (filing.record_in t).count (card.record_in t).bytes (λ v r. under t (v on 2) r.0) (λ v r. count_under t (v on 2) r.0) v xs

module _ (s : List ℕ) (bytes : Bytes s) (small : length s ≤ 32768) where
  -- CIAInfo
  pub cia_law : (site : Site) → PlainBody site s (inside (files.cia s)) card.cia
  unfolding layouts.cia
  cia_law site = inside_law ((cia_sound.lawful cia_fine).exact site s bytes small 0 (omega arith)) refl

  -- EF.OD, from its first byte on
  pub od_law : (p : ℕ) → BodyLaw (site_of 0 p) s (inside ((filing.od).read (site_of 0 p) s 0)) card.od (λ x. length (in_od x)) 0 128
  od_law p = recount_body (λ x. length (in_od x)) (λ x. count_od x) ((od_sound.lawful od_fine).exact (site_of 0 p) s bytes small 0 (omega arith))

  -- EF.DIR
  pub dir_law : (p : ℕ) → BodyLaw (site_of 0 p) s (inside (files.dir s)) card.templates (λ _. 0) 0 0
  unfolding files.dir
  dir_law p = recount_body (λ _. 0) (λ x. total_none x.0) ((dir_sound.lawful dir_fine).exact (site_of 0 p) s bytes small 0 (omega arith))

  -- a directory file, from its first byte on
  pub directory_law : (n p t k : ℕ) → k ≤ 128 → BodyLaw (site_of n p) s (inside ((filing.directory t).read (site_of n p) s k)) (card.directory t) (filing.directory t).count k 128
  unfolding entries.object
  directory_law n p t k h = ((directory_sound t).lawful (directory_fine t)).exact (site_of n p) s bytes small k h

-- what closes is all of it
pub all_of : {site : Site} {s : List ℕ} {P : Part} {c : P.Of → ℕ} {k N end at : ℕ} {rs : List Rec} {ms : List ℕ} {n : ℕ} (f : Facts site s P c k N close end at rs ms n) → slice at end s ≡ P.bytes f.it
all_of {s = s} {P = P} {end = end} f = f.bytes ∙ rw (f.closes tt, slice_empty end s) (append-nil (P.bytes f.it))
