-- What a template begins with and comes to, EF.DIR's elements, and its file.
use Prim.Native.Nat.{ℕ, suc, ◌+◌, ◌-◌, ◌*◌, ◌≤◌, ◌<◌}
use mathlib.Core.Path.{◌≡◌, refl, sym, ◌∙◌}
use mathlib.Core.Bool.{Bool, true, false, ◌||◌, ◌&&◌, not}
use mathlib.Core.List.{List, [], ◌∷◌}
use native.Mathlib.Omega.{arith}
use native.Mathlib.Numerals.{add-one}
use lib.ListN.{length, get_or, drop}
use lib.Seq.{slice, slice_empty, drop-cons}
use lib.Dec.{ltb, eqb}
use borrow.Author.Tests.{eq-eqb, ne_eqb, ltb-true}
use Rattle.elements.specs.declared.fault.Fault.TheVariants.{Missing}
use Rattle.elements.specs.Header.{header}
use Rattle.elements.specs.Choice.{pick}
use Rattle.elements.specs.ChoiceLaws.{both_true}
use Rattle.elements.specs.HeaderLaws.{header_sound}
use Rattle.elements.specs.Lists.{Bytes, cons}
use Rattle.elements.specs.Put.{Put}
use Rattle.elements.specs.PutLaws.{put_put, put_length}
use Rattle.elements.specs.Record.{record_bytes}
use Rattle.rules.specs.Reading.{rec, Res, also}
use Rattle.rules.specs.Parts.{sealed}
use Rattle.rules.specs.Files.{to_fill}
use Rattle.rules.specs.FileLayouts.{dir_tag, dir_body}
use Rattle.rules.specs.Book.{encode}
use Rattle.rules.specs.Rulings.{starts_with, ours, headed_by}
use Rattle.rules.specs.declared.table.Need.{Need}
use Rattle.objects.specs.Did.{Did, did, fell, Forward, Dues, Part, came}
use Rattle.objects.specs.DidLaws.{due_low, did_none, did_as, did_same, did_high, did_small, element_here, head_low}
use Rattle.objects.specs.RepeatLaws.{Going, going_none, going_step, going_fails, going_all}
use Rattle.files.specs.ObjectsLaws.{did_open}
use Rattle.templates.specs.Templates.{ours_at, unreached_by, settled, from_name, template, item, items}
use Rattle.templates.proofs.PlacesLaws.{by_places}
use Rattle.elements.specs.Answer.{refused}
use Rattle.std.specs.Prelude.{Option, Some, Ok, Err}
use Rattle.elements.specs.declared.answer.Header.{Header}
use Rattle.elements.specs.declared.answer.Refusal.{Refusal}
use Rattle.objects.specs.declared.part.Cursor.{Cursor}

-- a record in front of what was read
pub did_headed : (kind : ℕ) (p : List ℕ) {a b c : List ℕ} {o q x e : ℕ} {w : Res} {r : Part} → Put a b o q (record_bytes kind p) → Did b c q x e w r → Did a c o x e (headed_by kind (λ _. p) w) r
unfolding encode
did_headed kind p f (did g h l m) = did (put_put f g) h l m
did_headed kind p f (fell z) = fell (z ∙ put_length f)

pub did_ahead : (kind : ℕ) {a b c : List ℕ} {o q x e : ℕ} {w : Res} {r : Part} → Put a b o q (record_bytes kind []) → Did b c q x e w r → Did a c o x e (also (rec kind [] ∷ []) [] w) r
unfolding encode
did_ahead kind f (did g h l m) = did (put_put f g) h l m
did_ahead kind f (fell z) = fell (z ∙ put_length f)

-- an element's own two bytes pay for that record
pub due_open : {s : List ℕ} {tag : ℕ} {need : Need} {end at : ℕ} {y : Option Header} → Dues s tag need end at (Ok y) → {x : Header} → y ≡ Some x → {o : ℕ} → o ≤ 8 * at + 131072 → o + 4 ≤ 8 * x.1 + 131072
due_open u t l = omega (arith, due_low u t)

-- the fixed start
abbrev start : List ℕ
start = 0xe8 ∷ 0x28 ∷ 0xbd ∷ 0x08 ∷ 0x0f ∷ []

-- the loop of `starts`: what is left decides
pub record Starting (s : List ℕ) (a e i : ℕ) : Type 0 where
  pub upto : i ≤ 5
  pub inside : a + i ≤ e
  pub within : e ≤ length s
  pub comes : starts_with (drop i start) (slice (a + i) e s) ≡ ours (slice a e s)

pub starting : (s : List ℕ) (a e : ℕ) → a ≤ e → e ≤ length s → Starting s a e 0
starting s a e h l = let z : a + 0 ≡ a = omega arith in record { upto = omega arith; inside = omega arith; within = l; comes = rw z refl }

module _ {s : List ℕ} {a e i : ℕ} (w : Starting s a e i) where
  opens : i < 5 → drop i start ≡ get_or start i 0 ∷ drop (suc i) start
  opens h = drop-cons start i 0 h

  pub starting_over : i < 5 → e ≤ a + i → false ≡ ours (slice a e s)
  starting_over h l =
      let z : a + i ≡ e = omega (arith, w.inside) in
      let y : slice (a + i) e s ≡ [] = rw z (slice_empty e s) in
      let q : starts_with (drop i start) (slice (a + i) e s) ≡ false = rw (opens h, y) refl in
      sym q ∙ w.comes

  pub starting_next : i < 5 → a + i < e → get_or s (a + i) 0 ≡ get_or start i 0 → Starting s a e (i + 1)
  starting_next h l q =
      let z : a + (i + 1) ≡ a + i + 1 = omega arith in
      let u : i + 1 ≡ suc i = add-one i in
      let v : starts_with (drop i start) (slice (a + i) e s) ≡ starts_with (drop (suc i) start) (slice (a + i + 1) e s) = rw (opens h, cons s (a + i) e l w.within, q, eq-eqb (get_or start i 0) (get_or start i 0) refl) refl in
      record { upto = omega arith; inside = omega arith; within = w.within; comes = rw (z, u) (sym v ∙ w.comes) }

  pub starting_differs : i < 5 → a + i < e → (get_or s (a + i) 0 ≡ get_or start i 0 → ⊥) → false ≡ ours (slice a e s)
  starting_differs h l q =
      let v : starts_with (drop i start) (slice (a + i) e s) ≡ false = rw (opens h, cons s (a + i) e l w.within, ne_eqb (get_or s (a + i) 0) (get_or start i 0) q) refl in
      sym v ∙ w.comes

  pub starting_all : 5 ≤ i → true ≡ ours (slice a e s)
  starting_all h =
      let z : i ≡ 5 = omega (arith, w.upto) in
      let v : starts_with (drop i start) (slice (a + i) e s) ≡ true = rw z refl in
      sym v ∙ w.comes

-- by the header of the element
module _ (s : List ℕ) (end at : ℕ) where
  pub ours_none : {e : Refusal} → Err e ≡ header s at end → false ≡ ours_at s end at
  ours_none k = rw (sym k) refl

  pub ours_some : {x : Header} → Ok x ≡ header s at end → {b : Bool} → b ≡ ours (slice x.1 x.2 s) → b ≡ ours_at s end at
  ours_some k z = z ∙ rw (sym k) refl

-- neither path nor 73
module _ {mine : Bool} (i j k : ℕ) where
  pub unreached_same : mine ≡ true → i ≡ j → eqb j k ≡ unreached_by mine i j k
  unreached_same m e = rw (m, eq-eqb i j e) refl

  pub unreached_moved : mine ≡ true → (i ≡ j → ⊥) → false ≡ unreached_by mine i j k
  unreached_moved m e = rw (m, ne_eqb i j e) refl

  pub unreached_other : mine ≡ false → false ≡ unreached_by mine i j k
  unreached_other m = rw m refl

module _ (mine : Bool) (i j k end n : ℕ) {t : Bool} (z : t ≡ unreached_by mine i j k) where
  pub settled_fails : (a : List ℕ) (o : ℕ) → t ≡ true → Did a a o n end (settled mine i j k end n) (refused Missing end)
  settled_fails a o e = rw (sym z ∙ e) (fell refl)

  pub settled_passes : (a : List ℕ) (o : ℕ) → n ≤ end → o ≤ 8 * n + 131072 → t ≡ false → Did a a o n end (settled mine i j k end n) (came n o)
  settled_passes a o h l e = rw (sym z ∙ e) (did_none a o n end h l)

-- a template behind its record
pub template_headed : (s : List ℕ) (end at : ℕ) {a b c : List ℕ} {o q x : ℕ} {mine : Bool} {r : Part} → Put a b o q (record_bytes 0x0201 (x ∷ [])) → x ≡ pick mine 1 0 → mine ≡ ours_at s end at → Did b c q at end (from_name s mine end at) r → Did a c o at end (template s end at) r
template_headed s end at f y z d = did_headed 0x0201 (pick (ours_at s end at) 1 0 ∷ []) (rw (y, z) at f) (rw z at d)

-- an element of EF.DIR
module _ (s : List ℕ) (end at : ℕ) {x : Header} (k : Ok x ≡ header s at end) where
  pub item_template : {a b : List ℕ} {o : ℕ} {y : Part} → x.0 ≡ 0x61 → Did a b o x.1 x.2 (template s x.2 x.1) y → Did a b o at end (item s end at) y
  item_template z d = element_here s (dir_body s) end at k (did_as d (rw z (sym (by_places s at x.2 x.1))))

  pub head_flag : {o : ℕ} → o ≤ 8 * at + 131072 → o + 5 ≤ 8 * x.1 + 131072
  head_flag l = omega (arith, head_low s end at k)

  -- another one, which does not begin as fill does
  pub item_other : Bytes s → {a b : List ℕ} {o : ℕ} {y : Part} → end ≤ length s → to_fill s end at ≡ true → (x.0 ≡ 0x61 → ⊥) → Did a b o x.1 x.2 (sealed s 0x0211 [] x.0 at x.1 x.2) y → Did a b o at end (item s end at) y
  item_other bytes l m z d = element_here s (dir_body s) end at k (did_as d (rw (dir_tag_lem, ne_eqb x.0 0x61 z) refl))
    where
      go : (x y : Bool) → not (x || y) ≡ true → (not x && not y) ≡ true
      go true y e = e
      go false y e = e

      dir_tag_lem : dir_tag x.0 ≡ true
      dir_tag_lem = rw (header_sound s at end bytes l (sym k)).first (go (eqb (get_or s at 0) 0) (eqb (get_or s at 0) 255) (both_true (ltb at end) (not (eqb (get_or s at 0) 0 || eqb (get_or s at 0) 255)) m).1)

-- the loop over them: what was read and laid out so far, whatever was counted
pub record Turning (s a b : List ℕ) (end at o n p : ℕ) : Type 0 where
  pub count : ℕ
  pub going : Going (to_fill s) (λ _. item s) a b end at o 0 count n p
  pub high : n ≤ end
  pub small : p ≤ 8 * n + 131072
  pub same : length b ≡ length a

pub turning_start : (s a : List ℕ) (end at o : ℕ) → at ≤ end → o ≤ 8 * at + 131072 → Turning s a a end at o at o
turning_start s a end at o h l = record { count = 0; going = going_none (to_fill s) (λ _. item s) a end at o 0 h l; high = h; small = l; same = refl }

module _ {s a b : List ℕ} {end at o n p : ℕ} (h : Turning s a b end at o n p) {t : Bool} (m : t ≡ to_fill s end n) where
  pub turning_all : t ≡ false → Did a b o at end (items s end at) (came n p)
  turning_all z = going_all h.going (sym m ∙ z)

  pub turning_on : t ≡ true → to_fill s end n ≡ true
  turning_on z = sym m ∙ z

  module _ (z : t ≡ true) {c : List ℕ} {w : Part} (d : Did b c p n end (item s end n) w) where
    before : n < end
    before = ltb-true n end (both_true (ltb n end) (not (eqb (get_or s n 0) 0 || eqb (get_or s n 0) 255)) (sym m ∙ z)).0

    pub turning_fails : {e : Refusal} → w ≡ Err e → Did a c o at end (items s end at) (Err e)
    turning_fails e = going_fails h.going (sym m ∙ z) before (rw e at d)

    module _ {r : Cursor} (e : w ≡ Ok r) (fw : Forward n w) where
      pub turning_less : end - r.dump < end - n
      turning_less = omega (arith, fw.is r e, did_high (rw e at d))

      pub turning_next : Turning s a c end at o r.dump r.book
      turning_next =
          let y = did_open (rw e at d) in
          record {
            count = h.count + length y.1;
            going = going_step h.going (sym m ∙ z) before y.0 y.1 y.2 y.3 (fw.is r e) (did_high (rw e at d)) (did_small (rw e at d)) refl;
            high = did_high (rw e at d);
            small = did_small (rw e at d);
            same = did_same (rw e at d) ∙ h.same;
          }
