-- What holds objects: a list in EF.OD, a transparent file, a record of a record file.
use Rattle.rules.specs.Entries as entries
use Rattle.rules.specs.declared.site.Site.{Site}
use Rattle.rules.specs.Grammar.{here, numbers}
use Prim.Native.Nat.{ℕ, ◌+◌, ◌-◌, ◌*◌, ◌<◌, ◌≤◌}
use mathlib.Core.Path.{◌≡◌, refl, sym, ◌∙◌}
use mathlib.Core.Bool.{Bool, true, false, not, ◌&&◌, ◌||◌}
use mathlib.Core.List.{List, [], ◌∷◌}
use native.Mathlib.Omega.{arith}
use lib.ListN.{length, get_or}
use lib.Dec.{leb, eqb, ltb}
use borrow.Author.Tests.{lt-ltb, le-ltb, ltb-true, ltb-false}
use Rattle.elements.specs.declared.fault.Fault.TheVariants.{SecondObject}
use Rattle.elements.specs.ChoiceLaws.{by_choose, both_true}
use Rattle.elements.specs.Header.{header}
use Rattle.elements.specs.Put.{Put}
use Rattle.elements.specs.PutLaws.{put_none, put_put, put_length}
use Rattle.files.specs.declared.holder.Holder.{Holder}
use Rattle.files.specs.declared.holder.Holder.TheVariants as holder
use Rattle.rules.specs.Reading.{Rec, rec, Res, took, fails, also}
use Rattle.rules.specs.Parts.{element, whatever}
use Rattle.rules.specs.Objects.{counts, contents, object, object_body}
use Rattle.rules.specs.Files.{to_fill, fill}
use Rattle.objects.specs.Did.{Did, fell, Forward, came_with}
use Rattle.objects.specs.DidLaws.{did_high, did_small, did_same}
use Rattle.objects.specs.RepeatLaws.{Going, going_none, going_step, going_stop, going_break}
use Rattle.files.specs.Filing.{DidObjects, did_objects, fell_objects, more_of, full_of, item_of, objects_in, opened_by, filled_up}
use Rattle.files.specs.ObjectsLaws.{not_took, did_open, objects_fails, objects_then, objects_then_fell, plain_fill}
use Rattle.elements.specs.Answer.{Head, refused}
use Rattle.std.specs.Prelude.{Err, Ok}
use Rattle.objects.specs.declared.part.Cursor.{Cursor}
use Rattle.elements.specs.declared.answer.Refusal.{Refusal}

-- an object's mark is its place, and it is one of the first 128
counts_mark : (at : ℕ) (w : Res) {bs : List Rec} {ms : List ℕ} {n : ℕ} → counts at w ≡ took bs ms n → ms ≡ at ∷ []
counts_mark at (took cs ns m) z = cc
counts_mark at (fails f p) z = let y : ◌≡◌ {A = ℕ} 0 1 = cc in absurd (omega arith)

body : (s : List ℕ) (site : Site) (entry t at a e : ℕ) {bs : List Rec} {ms : List ℕ} {n : ℕ} → object_body s site entry t at a e ≡ took bs ms n → ms ≡ at ∷ []
unfolding object_body
body s site entry t at a e {bs} {ms} {n} = by_choose (λ (w : Res). w ≡ took bs ms n → ms ≡ at ∷ []) (eqb t 0x30 || (leb 0xa0 t && leb t 0xa7)) (λ _ _ z. counts_mark at (also (rec 0x0120 (entry ∷ t ∷ numbers (here site at)) ∷ []) [] (contents s entry t e a)) z) (λ _ _ z. absurd (not_took z))

pub object_mark : (s : List ℕ) (site : Site) (entry k end at : ℕ) {bs : List Rec} {ms : List ℕ} {n : ℕ} → object s site entry k end at ≡ took bs ms n → ms ≡ at ∷ []
unfolding entries.object object_body element
object_mark s site entry k end at {bs} {ms} {n} =
    by_choose P (ltb k 128) (λ _ _. by_choose P (ltb at end) (λ _ _. go (header s at end)) (λ _ _ z. absurd (not_took z))) (λ _ _ z. absurd (not_took z))
  where
    P : Res → Type 0
    P w = w ≡ took bs ms n → ms ≡ at ∷ []

    go : (h : Head) → P (whatever (object_body s site entry) at h)
    go (Err r) = λ z. absurd (not_took z)
    go (Ok x) = body s site entry x.0 at x.1 x.2

pub object_few : (s : List ℕ) (site : Site) (entry k end at : ℕ) {bs : List Rec} {ms : List ℕ} {n : ℕ} → object s site entry k end at ≡ took bs ms n → k < 128
unfolding entries.object
object_few s site entry k end at {bs} {ms} {n} = by_choose (λ (w : Res). w ≡ took bs ms n → k < 128) (ltb k 128) (λ _ e _. ltb-true k 128 e) (λ _ _ z. absurd (not_took z))

-- the loop over the objects of a holder
pub record Objects (s : List ℕ) (x : Holder) (site : Site) (entry : ℕ) (a b u v : List ℕ) (end at o k j n p : ℕ) : Type 0 where
  pub going : Going (more_of s x) (item_of s x site entry k) a b end at o k j n p
  pub marks : Put u v k j going.ms
  pub few : j ≤ 128
  pub low : at ≤ n
  pub high : n ≤ end
  pub small : p ≤ 8 * n + 131072
  pub same : length b ≡ length a
  pub kept : length v ≡ length u

pub objects_start : (s : List ℕ) (x : Holder) (site : Site) (entry : ℕ) (a u : List ℕ) (end at o k : ℕ) → k ≤ 128 → at ≤ end → o ≤ 8 * at + 131072 → Objects s x site entry a a u u end at o k k at o
unfolding going_none
objects_start s x site entry a u end at o k h i l = record {
  going = going_none (more_of s x) (item_of s x site entry k) a end at o k i l;
  marks = put_none u k;
  few = h;
  low = omega arith;
  high = i;
  small = l;
  same = refl;
  kept = refl;
}

fill_before : (s : List ℕ) (end at : ℕ) → to_fill s end at ≡ true → at < end
fill_before s end at e = ltb-true at end (both_true (ltb at end) (not (eqb (get_or s at 0) 0 || eqb (get_or s at 0) 0xff)) e).0

pub more_before : (s : List ℕ) (x : Holder) (end at : ℕ) → more_of s x end at ≡ true → at < end
more_before s holder.List end at e = ltb-true at end e
more_before s holder.File end at e = fill_before s end at e
more_before s holder.Record end at e = fill_before s end at e

-- the next object of a holder that is full, and of one that is not
full_item : (s : List ℕ) (x : Holder) (site : Site) (entry k j end at : ℕ) → full_of x k j ≡ true → item_of s x site entry k j end at ≡ fails SecondObject at
full_item s holder.List site entry k j end at e = absurd (let z : ◌≡◌ {A = ℕ} 0 1 = cc in omega arith)
full_item s holder.File site entry k j end at e = absurd (let z : ◌≡◌ {A = ℕ} 0 1 = cc in omega arith)
full_item s holder.Record site entry k j end at e = rw (le-ltb j (k + 1) (omega (arith, ltb-true k j e))) refl

next_item : (s : List ℕ) (x : Holder) (site : Site) (entry k j end at : ℕ) → full_of x k j ≡ false → item_of s x site entry k j end at ≡ object s site entry j end at
next_item s holder.List site entry k j end at e = refl
next_item s holder.File site entry k j end at e = refl
next_item s holder.Record site entry k j end at e = rw (lt-ltb j (k + 1) (omega (arith, ltb-false k j e))) refl

module _ {s : List ℕ} {x : Holder} {site : Site} {entry : ℕ} {a b u v : List ℕ} {end at o k j n p : ℕ} (h : Objects s x site entry a b u v end at o k j n p) {t : Bool} (m : t ≡ more_of s x end n) where
  pub objects_all : t ≡ false → DidObjects a b u v o at end k (objects_in s x site entry k end at) (came_with n p j)
  objects_all z = rw (going_stop h.going (sym m ∙ z)) (did_objects {n = n} h.going.put h.marks h.low h.high h.small h.few)

  module _ (z : t ≡ true) {y : Bool} (w : y ≡ full_of x k j) where
    -- one more than it may hold
    pub objects_second : y ≡ true → DidObjects a b u v o at end k (objects_in s x site entry k end at) (refused SecondObject n)
    objects_second e = rw (going_break h.going (sym m ∙ z) (more_before s x end n (sym m ∙ z)) (full_item s x site entry k j end n (sym w ∙ e))) (fell_objects h.same h.kept)

    module _ (e : y ≡ false) where
      next : item_of s x site entry k j end n ≡ object s site entry j end n
      next = next_item s x site entry k j end n (sym w ∙ e)

      pub objects_broke : {c : List ℕ} {r : Refusal} → Did b c p n end (object s site entry j end n) (Err r) → DidObjects a c u v o at end k (objects_in s x site entry k end at) (Err r)
      objects_broke {c} {r} d = failed (object s site entry j end n) next d
        where
          failed : (g : Res) → item_of s x site entry k j end n ≡ g → Did b c p n end g (Err r) → DidObjects a c u v o at end k (objects_in s x site entry k end at) (Err r)
          failed (took _ _ _) g y = elim y [ ]
          failed (fails _ _) g (fell l) = rw (going_break h.going (sym m ∙ z) (more_before s x end n (sym m ∙ z)) g) (fell_objects (l ∙ h.same) h.kept)

      module _ {c : List ℕ} {r : Cursor} (d : Did b c p n end (object s site entry j end n) (Ok r)) (fw : Forward n (Ok r)) where
        pub objects_less : end - r.dump < end - n
        objects_less = omega (arith, fw.is r refl, did_high d)

        pub objects_next : {v' : List ℕ} {j' y' : ℕ} → Put v v' j j' (y' ∷ []) → y' ≡ n → Objects s x site entry a c u v' end at o k j' r.dump r.book
        unfolding going_step
        objects_next {v'} {j'} {y'} f l =
            let was = did_open d in
            let one : was.1 ≡ n ∷ [] = object_mark s site entry j end n was.2 in
            let is : item_of s x site entry k j end n ≡ took was.0 (n ∷ []) r.dump = next ∙ rw one at was.2 in
            record {
              going = going_step h.going (sym m ∙ z) (more_before s x end n (sym m ∙ z)) was.0 (n ∷ []) is was.3 (fw.is r refl) (did_high d) (did_small d) f.at;
              marks = put_put h.marks (rw l at f);
              few = omega (arith, object_few s site entry j end n was.2, f.at);
              low = omega (arith, h.low, fw.is r refl);
              high = did_high d;
              small = did_small d;
              same = did_same d ∙ h.same;
              kept = put_length f ∙ h.kept;
            }

-- whether another object comes, and whether it may
module _ (s : List ℕ) {x : Holder} (end at : ℕ) where
  pub more_list : x ≡ holder.List → ltb at end ≡ more_of s x end at
  more_list e = rw e refl

  pub more_file : {r : Bool} → x ≡ holder.File → r ≡ to_fill s end at → r ≡ more_of s x end at
  more_file e k = rw e k

  pub more_record : {r : Bool} → x ≡ holder.Record → r ≡ to_fill s end at → r ≡ more_of s x end at
  more_record e k = rw e k

module _ {x : Holder} (k j : ℕ) where
  pub full_list : x ≡ holder.List → false ≡ full_of x k j
  full_list e = rw e refl

  pub full_file : x ≡ holder.File → false ≡ full_of x k j
  full_file e = rw e refl

  pub full_record : x ≡ holder.Record → ltb k j ≡ full_of x k j
  full_record e = rw e refl

-- objects behind the record that opens them, and then fill
module _ {a b u v : List ℕ} {o at end k : ℕ} (s : List ℕ) (x : Holder) (kind : ℕ) (site : Site) (entry : ℕ) where
  pub held_fails : {e : Refusal} → DidObjects a b u v o at end k (opened_by s x kind site entry k end at) (Err e) → DidObjects a b u v o at end k (filled_up s x kind site entry k end at) (Err e)
  held_fails d = objects_fails d (λ n. fill s 0x0107 end n)

  module _ {p : Cursor} {j : ℕ} (d : DidObjects a b u v o at end k (opened_by s x kind site entry k end at) (Ok (p, j))) {c : List ℕ} where
    pub held_fill_fails : {e : Refusal} → Did b c p.book p.dump end (fill s 0x0107 end p.dump) (Err e) → DidObjects a c u v o at end k (filled_up s x kind site entry k end at) (Err e)
    held_fill_fails e = objects_then_fell d (λ m. fill s 0x0107 end m) e

    pub held_filled : {y : Cursor} → Did b c p.book p.dump end (fill s 0x0107 end p.dump) (Ok y) → DidObjects a c u v o at end k (filled_up s x kind site entry k end at) (Ok (y, j))
    held_filled e = objects_then d (λ m. fill s 0x0107 end m) (plain_fill s 0x0107 end p.dump) e
