-- EF.OD's entries.
use Prim.Native.Nat.{ℕ, ◌+◌, ◌-◌, ◌*◌, ◌<◌, ◌≤◌}
use mathlib.Core.Path.{◌≡◌, refl, sym, ap, ◌∙◌}
use mathlib.Core.Bool.{Bool, true, false, ◌&&◌}
use mathlib.Core.List.{List, [], ◌∷◌, ◌++◌, append-nil}
use native.Mathlib.Omega.{arith}
use lib.ListN.{length}
use lib.Seq.{slice}
use lib.Dec.{leb, eqb, ltb}
use borrow.Author.Tests.{ne_eqb, le-leb, lt-leb, leb-true}
use Rattle.elements.specs.declared.fault.Fault.TheVariants.{BadSize, NotDue}
use Rattle.elements.specs.ChoiceLaws.{by_choose, both_true}
use Rattle.elements.specs.Header.{header}
use Rattle.elements.specs.Lists.{Bytes}
use Rattle.elements.specs.HeaderLaws.{header_in}
use Rattle.elements.specs.Put.{Put}
use Rattle.elements.specs.PutLaws.{put_none, put_put}
use Rattle.elements.specs.Record.{record_bytes}
use Rattle.files.specs.declared.scan.Key.TheVariants.{Path}
use Rattle.rules.specs.declared.table.Need.TheVariants.{Required}
use Rattle.rules.specs.Reading.{Rec, rec, Res, took, fails, also, ◌then◌, Reader, Body}
use Rattle.rules.specs.Parts.{repeat, element, component, due, ended, surplus, keep, inner_run, sealed}
use Rattle.rules.specs.Files.{to_fill, fill, named_path, entry_inside, entry_body, od, names_of, paths}
use Rattle.rules.specs.declared.site.Site.{Site}
use Rattle.rules.specs.Grammar.{site_of}
use Rattle.rules.specs.Book.{encode}
use Rattle.rules.specs.LookLaws.{Laid, laid_append}
use Rattle.rules.specs.BookLaws.{book_size}
use Rattle.rules.specs.Pays.{names_append}
use Rattle.objects.specs.Did.{Did, fell, Many, came}
use Rattle.files.specs.Filing.{DidObjects, did_objects, fell_objects, DidEntries, ForwardMany, objects_in, Listed, listed}
use Rattle.files.specs.declared.holder.Holder.TheVariants as holder
use Rattle.files.specs.ObjectsLaws.{Plain, not_took, did_open, objects_fell, objects_same, objects_kept, objects_widen, objects_fails, objects_low, objects_high, objects_small, objects_few, objects_then, objects_then_fell, objects_open, plain_then, plain_fill}
use Rattle.files.proofs.HolderLaws.{more_before}
use Rattle.files.specs.Scan.{Lies, Holds, Whole, AgainTold, key_at}
use Rattle.objects.specs.DidLaws.{by_header, element_fails, did_one}
use Rattle.objects.specs.RepeatLaws.{Going, going_none, going_step, going_stop, going_break}
use Rattle.files.specs.LiesLaws.{First, first, first_whole, put_lies, put_lie}
use Rattle.files.proofs.NameLaws.{silent_took, fill_silent, Entry, entry_told, Naming, naming_start, naming_next, naming_bears, names_bear}
use Rattle.elements.specs.Answer.{Head, Run, refused}
use Rattle.std.specs.Prelude.{Err, Ok, Option, None}
use Rattle.elements.specs.AnswerLaws.{answer_or, leaves}
use Rattle.std.specs.Result.{IsErr, IsErrAnd}
use Rattle.files.specs.declared.answer.Entries.{Entries}
use Rattle.objects.specs.declared.part.Cursor.{Cursor}
use Rattle.elements.specs.declared.answer.Refusal.{Refusal}
use Rattle.elements.specs.declared.answer.Header.{Header}

-- a path of EF.OD
module _ (s : List ℕ) (entry at x e : ℕ) where
  pub named_short : (a : List ℕ) (o : ℕ) → e - x < 1 → Did a a o x e (named_path s entry at x e) (refused BadSize at)
  unfolding named_path
  named_short a o h = rw (lt-leb 1 (e - x) h) (fell refl)

  pub named_long : (a : List ℕ) (o : ℕ) → 1 ≤ e - x → 64 < e - x → Did a a o x e (named_path s entry at x e) (refused BadSize at)
  unfolding named_path
  named_long a o h i = rw (le-leb 1 (e - x) h, lt-leb (e - x) 64 i) (fell refl)

  pub named_put : {a b : List ℕ} {o q : ℕ} → 1 ≤ e - x → e - x ≤ 64 → at + 2 ≤ x → x ≤ e → o ≤ 8 * at + 131072 → q ≡ o + 6 + (e - x) → Put a b o q (record_bytes 0x0110 (entry ∷ 0 ∷ slice x e s)) → Did a b o x e (named_path s entry at x e) (came e q)
  unfolding named_path
  named_put h i j k l n f = rw (le-leb 1 (e - x) h, le-leb (e - x) 64 i) (did_one 0x0110 (entry ∷ 0 ∷ slice x e s) x e f k (omega arith))

-- an entry of another tag
module _ (s : List ℕ) (t at x e : ℕ) where
  pub unknown_bad : (a : List ℕ) (o : ℕ) {r : Refusal} → Err r ≡ inner_run s t x e → Did a a o x e (sealed s 0x0110 (t ∷ 2 ∷ []) t at x e) (Err r)
  unfolding sealed
  unknown_bad a o q = rw (sym q) (fell refl)

  pub unknown_put : {a b : List ℕ} {o p i : ℕ} → Ok i ≡ inner_run s t x e → at + 2 ≤ x → x ≤ e → o ≤ 8 * at + 131072 → p ≡ o + 6 + (e - at) → Put a b o p (record_bytes 0x0110 (t ∷ 2 ∷ slice at e s)) → Did a b o x e (sealed s 0x0110 (t ∷ 2 ∷ []) t at x e) (came e p)
  unfolding sealed
  unknown_put q h i l n f = rw (sym q) (did_one 0x0110 (t ∷ 2 ∷ slice at e s) x e f i (omega arith))

-- parts that have no marks
pub plain_sealed : (s : List ℕ) (kind : ℕ) (front : List ℕ) (t at x e : ℕ) → Plain (sealed s kind front t at x e)
unfolding sealed
plain_sealed s kind front t at x e = go (inner_run s t x e)
  where
    go : (r : Run) → Plain (keep (rec kind (front ++ slice at e s) ∷ []) e r)
    go (Ok i) = record { is = λ bs ms n z. cc }
    go (Err r) = record { is = λ bs ms n z. absurd (not_took z) }

pub plain_ended : (s : List ℕ) (end at : ℕ) → Plain (ended s end at)
unfolding ended
plain_ended s end at = by_choose Plain (ltb at end) (λ _ _. go (header s at end)) (λ _ _. record { is = λ bs ms n z. cc })
  where
    go : (h : Head) → Plain (surplus at h)
    go (Err r) = record { is = λ bs ms n z. absurd (not_took z) }
    go (Ok x) = record { is = λ bs ms n z. absurd (not_took z) }

named_plain : (s : List ℕ) (entry at a e : ℕ) → Plain (named_path s entry at a e)
unfolding named_path
named_plain s entry at a e = by_choose Plain (leb 1 (e - a) && leb (e - a) 64) (λ _ _. record { is = λ bs ms n z. cc }) (λ _ _. record { is = λ bs ms n z. absurd (not_took z) })

-- a path entry has no marks
pub plain_path : (s : List ℕ) (entry end at : ℕ) → Plain ((component s 0x04 Required (named_path s entry) then ended s) end at)
unfolding component
plain_path s entry end at = plain_then (by_choose Plain (ltb at end) (λ _ _. go (header s at end)) (λ _ _. record { is = λ bs ms n z. absurd (not_took z) })) (λ n. plain_ended s end n)
  where
    go : (h : Head) → Plain (due 0x04 Required (named_path s entry) at h)
    go (Err r) = record { is = λ bs ms n z. absurd (not_took z) }
    go (Ok x) = by_choose Plain (eqb x.0 0x04) (λ _ _. named_plain s entry at x.1 x.2) (λ _ _. record { is = λ bs ms n z. absurd (not_took z) })

-- a tag in a range, and not
module _ (t a b : ℕ) where
  pub in_range : a ≤ t → t < b + 1 → true ≡ (leb a t && leb t b)
  in_range h l = rw (le-leb a t h, le-leb t b (omega arith)) refl

  pub below_range : t < a → false ≡ (leb a t && leb t b)
  below_range h = rw (lt-leb a t h) refl

  pub above_range : a ≤ t → b + 1 ≤ t → false ≡ (leb a t && leb t b)
  above_range h l = rw (le-leb a t h, lt-leb t b (omega arith)) refl

-- an element whatever its tag, by its header
module _ (s : List ℕ) (g : ℕ → Body) (end at k : ℕ) where
  pub element_none : {e : Refusal} → Err e ≡ header s at end → (a u : List ℕ) (o : ℕ) → DidObjects a a u u o at end k (element s g end at) (Err e)
  element_none q a u o = objects_fell u k (element_fails s g end at q a o)

  pub element_objects : {x : Header} → Ok x ≡ header s at end → {a b u v : List ℕ} {o : ℕ} {r : Many} → DidObjects a b u v o x.1 x.2 k (g x.0 at x.1 x.2) r → DidObjects a b u v o at end k (element s g end at) r
  element_objects q d = let i = header_in s at end (sym q) in rw (by_header s g end at, sym q) (objects_widen d (omega (arith, i.0)) i.2)

-- what stands in an entry
module _ (site : Site) (s : List ℕ) (entry k t at x e : ℕ) {a b u v : List ℕ} {o : ℕ} {r : Many} where
  pub in_path : t ≡ 0x30 → DidObjects a b u v o x e k ((component s 0x04 Required (named_path s entry) then ended s) e x) r → DidObjects a b u v o x e k (entry_inside site s entry k t at x e) r
  unfolding entry_inside
  in_path z d = rw z d

  pub in_objects : t ≡ 0xa0 → DidObjects a b u v o x e k (also (rec 0x0110 (entry ∷ 1 ∷ []) ∷ []) [] (objects_in s holder.List site entry k e x)) r → DidObjects a b u v o x e k (entry_inside site s entry k t at x e) r
  unfolding entry_inside
  in_objects z d = rw z d

  pub body_known : {y : Bool} → y ≡ (leb 0xa0 t && leb t 0xa8) → y ≡ true → DidObjects a b u v o x e k ((element s (entry_inside site s t k) then ended s) e x) r → DidObjects a b u v o x e k (entry_body site s k t at x e) r
  unfolding entry_body
  body_known m z d = rw (sym m ∙ z) d

  pub body_context : {y w : Bool} → y ≡ (leb 0xa0 t && leb t 0xa8) → y ≡ false → w ≡ (leb 0x80 t && leb t 0xbf) → w ≡ true → DidObjects a b u v o x e k (sealed s 0x0110 (t ∷ 2 ∷ []) t at x e) r → DidObjects a b u v o x e k (entry_body site s k t at x e) r
  unfolding entry_body
  body_context m z n y d = rw (sym m ∙ z, sym n ∙ y) d

module _ (site : Site) (s : List ℕ) (entry k t at x e : ℕ) (a u : List ℕ) (o : ℕ) where
  pub in_other : (t ≡ 0x30 → ⊥) → (t ≡ 0xa0 → ⊥) → DidObjects a a u u o x e k (entry_inside site s entry k t at x e) (refused NotDue at)
  unfolding entry_inside
  in_other z y = rw (ne_eqb t 0x30 z, ne_eqb t 0xa0 y) (fell_objects refl refl)

  pub body_neither : {y w : Bool} → y ≡ (leb 0xa0 t && leb t 0xa8) → y ≡ false → w ≡ (leb 0x80 t && leb t 0xbf) → w ≡ false → DidObjects a a u u o x e k (entry_body site s k t at x e) (refused NotDue at)
  unfolding entry_body
  body_neither m z n y = rw (sym m ∙ z, sym n ∙ y) (fell_objects refl refl)

module _ (t a b : ℕ) {y : Bool} (m : y ≡ (leb a t && leb t b)) (z : y ≡ true) where
  pub range_low : a ≤ t
  range_low = leb-true a t (both_true (leb a t) (leb t b) (sym m ∙ z)).0

  pub range_high : t ≤ b
  range_high = leb-true t b (both_true (leb a t) (leb t b) (sym m ∙ z)).1

pub forward_many : {a b u v : List ℕ} {o x e k : ℕ} {w : Res} {r : Many} (at : ℕ) → at + 2 ≤ x → DidObjects a b u v o x e k w r → ForwardMany at r
forward_many at h d = record { is = λ c j t. omega (arith, objects_low (rw t at d)) }

pub forward_left : {r : Many} (at : ℕ) (e : Refusal) → IsErr r × IsErrAnd r (λ y. y ≡ e) → ForwardMany at r
forward_left {r} at e h = rw (leaves h) none
  where
    none : ForwardMany at (Err e)
    none = record { is = λ c j t. let z : ◌≡◌ {A = ℕ} 0 1 = cc in absurd (omega arith) }

-- EF.OD's entries
abbrev entries_of : Site → List ℕ → ℕ → Reader
entries_of site s k = element s (entry_body site s k)

abbrev all_entries : Site → List ℕ → ℕ → ℕ → Res
all_entries site s end at = repeat (to_fill s) (entries_of site s) (end - at) 0 end at

-- EF.OD lies from `at` to `end`, and its records have room in a from o on
pub record Ready (s a : List ℕ) (end at o : ℕ) : Type 0 where
  pub bytes : Bytes s
  pub inside : end ≤ length s
  pub short : length s ≤ 32768
  pub room : o + 3 ≤ 4 * at
  pub wide : 131072 ≤ length a

-- the loop over them: what was read, laid out and named so far, and what is left
pub record Listing (site : Site) (s a b u v : List ℕ) (end at o k n p : ℕ) (again : Option ℕ) : Type 0 where
  pub ready : Ready s a end at o
  pub going : Going (to_fill s) (entries_of site s) a b end at o 0 k n p
  pub laid : Laid (length s) going.bs
  pub bound : p + 3 ≤ 4 * n
  pub naming : Naming s end at n (paths (names_of going.bs)) again
  pub marks : Put u v 0 k going.ms
  pub few : k ≤ 128
  pub low : at ≤ n
  pub high : n ≤ end
  pub small : p ≤ 8 * n + 131072
  pub same : length b ≡ length a
  pub kept : length v ≡ length u

pub entries_start : {site : Site} {s a : List ℕ} {end at o : ℕ} (u : List ℕ) → Ready s a end at o → at ≤ end → o ≤ 8 * at + 131072 → Listing site s a a u u end at o 0 at o None
unfolding going_none names_of
entries_start {site} {s} {a} {end} {at} {o} u r i l = record {
  ready = r;
  going = going_none (to_fill s) (entries_of site s) a end at o 0 i l;
  laid = tt;
  bound = r.room;
  naming = naming_start s end at r.inside;
  marks = put_none u 0;
  few = omega arith;
  low = omega arith;
  high = i;
  small = l;
  same = refl;
  kept = refl;
}

-- a refusal tells no place
pub entries_fell : {s a b u v : List ℕ} {o at end : ℕ} {w : Res} {r : Refusal} → DidObjects a b u v o at end 0 w (Err r) → DidEntries s a b u v o at end w (Err r)
entries_fell d = record { objects = d; told = λ _ e. let z : ◌≡◌ {A = ℕ} 0 1 = cc in absurd (omega arith) }

-- what a `?` hands on
pub entries_left : {s a b u v : List ℕ} {o at end : ℕ} {w : Res} {r : Listed} {e : Refusal} → IsErr r × IsErrAnd r (λ y. y ≡ e) → DidEntries s a b u v o at end w (Err e) → DidEntries s a b u v o at end w r
entries_left h d = rw (leaves h) d

-- equal answers tell the same place
again_same : {n q j : ℕ} {again : Option ℕ} {e : Entries} → listed n q j again ≡ Ok e → again ≡ e.again
again_same {n} {q} {j} {again} z = ap (λ r. (answer_or {A = Entries} (record { at = record { dump = n; book = q }; objects = j; again = again }) r).again) z

module _ {site : Site} {s a b u v : List ℕ} {end at o k n p : ℕ} {again : Option ℕ} (h : Listing site s a b u v end at o k n p again) {t : Bool} (m : t ≡ to_fill s end n) where
  pub entries_all : t ≡ false → DidEntries s a b u v o at end (all_entries site s end at) (listed n p k again)
  entries_all z =
      let all : all_entries site s end at ≡ took h.going.bs h.going.ms n = going_stop h.going (sym m ∙ z) in
      record {
        objects = rw all (did_objects {n = n} h.going.put h.marks h.low h.high h.small h.few);
        told = λ {cs} {e = x} y z.
            let bs : h.going.bs ≡ cs = cc (all, y) in
            let same : again ≡ x.again = again_same z in
            rw (← bs, ← same) h.naming.told;
      }

  module _ (z : t ≡ true) where
    before : n < end
    before = more_before s holder.File end n (sym m ∙ z)

    pub entries_broke : {c x : List ℕ} {f : Refusal} → DidObjects b c v x p n end k (element s (entry_body site s k) end n) (Err f) → DidEntries s a c u x o at end (all_entries site s end at) (Err f)
    entries_broke {c} {x} {f} d = entries_fell (failed (element s (entry_body site s k) end n) refl d)
      where
        failed : (r : Res) → element s (entry_body site s k) end n ≡ r → DidObjects b c v x p n end k r (Err f) → DidObjects a c u x o at end 0 (all_entries site s end at) (Err f)
        failed (took _ _ _) q y = elim y [ ]
        failed (fails _ _) q (fell_objects l g) = rw (going_break h.going (sym m ∙ z) before q) (fell_objects (l ∙ h.same) (g ∙ h.kept))

    module _ {c x : List ℕ} {next : Cursor} {j : ℕ} (d : DidObjects b c v x p n end k (element s (entry_body site s k) end n) (Ok (next, j))) where
      -- the entry's records, which lie behind those before them
      record EntryOpen : Type 0 where
        cs : List Rec
        ns : List ℕ
        is : element s (entry_body site s k) end n ≡ took cs ns next.dump
        put : Put b c p next.book (encode cs)
        marks : Put v x k j ns
        told : Entry s end n cs next.dump
        behind : next.book + 3 ≤ 4 * next.dump
        here : First c p next.book told.first told.rest
        old : Lies c o p h.going.bs

      entry_open : EntryOpen
      entry_open =
          let y = objects_open d in
          let i = h.ready in
          let g = entry_told site s i.bytes i.short k end n h.few before i.inside y.2 in
          let f = header_in s n end g.head in
          let l : next.book + 3 ≤ 4 * next.dump = omega (arith, h.bound, y.3.at, book_size y.0, g.bound) in
          let fits : next.book ≤ length b = omega (arith, h.same, i.wide, i.short, i.inside) in
          record {
            cs = y.0;
            ns = y.1;
            is = y.2;
            put = y.3;
            marks = y.4;
            told = g;
            behind = l;
            here = first (rw g.are at (put_lie s y.3 fits i.short g.laid));
            old = put_lies y.3 (omega arith) (put_lie s h.going.put (omega (arith, h.same, y.3.at)) i.short h.laid);
          }

      pub entries_hold : Holds c o p
      entries_hold = record { rs = h.going.bs; lies = entry_open.old }

      pub entries_whole : Whole c p
      entries_whole = first_whole entry_open.here

      module _ (fw : ForwardMany n (Ok (next, j))) where
        pub entries_less : end - next.dump < end - n
        entries_less = omega (arith, fw.is next j refl, objects_high d)

        pub entries_next : {again' : Option ℕ} → AgainTold c o p n again again' → Listing site s a c u x end at o j next.dump next.book again'
        unfolding going_step
        entries_next {again'} l =
            let y = entry_open in
            record {
              ready = h.ready;
              going = going_step h.going (sym m ∙ z) before y.cs y.ns y.is y.put (fw.is next j refl) (objects_high d) (objects_small d) y.marks.at;
              laid = laid_append (length s) h.going.bs y.cs h.laid y.told.laid;
              bound = y.behind;
              naming = rw (names_bear y.told y.here h.going.bs) (naming_next h.naming before y.told.head (key_at c Path p) (naming_bears y.told y.here) (l.is h.going.bs y.old));
              marks = put_put h.marks y.marks;
              few = objects_few d;
              low = omega (arith, h.low, fw.is next j refl);
              high = objects_high d;
              small = objects_small d;
              same = objects_same d ∙ h.same;
              kept = objects_kept d ∙ h.kept;
            }

-- EF.OD's file
module _ {s a b u v : List ℕ} {o at end : ℕ} where
  pub od_fails : {e : Refusal} → DidEntries s a b u v o at end (all_entries (site_of 0 at) s end at) (Err e) → DidEntries s a b u v o at end (od s end at) (Err e)
  unfolding od
  od_fails d = entries_fell (objects_fails d.objects (λ n. fill s 0x0107 end n))

  module _ {x : Entries} (d : DidEntries s a b u v o at end (all_entries (site_of 0 at) s end at) (Ok x)) where
    pub od_high : x.at.dump ≤ end
    od_high = objects_high d.objects

    pub od_small : x.at.book ≤ 8 * x.at.dump + 131072
    od_small = objects_small d.objects

    module _ {c : List ℕ} where
      pub od_fill_fails : {e : Refusal} → Did b c x.at.book x.at.dump end (fill s 0x0107 end x.at.dump) (Err e) → DidEntries s a c u v o at end (od s end at) (Err e)
      unfolding od
      od_fill_fails e = entries_fell (objects_then_fell d.objects (λ m. fill s 0x0107 end m) e)

      pub od_filled : {y : Cursor} → Did b c x.at.book x.at.dump end (fill s 0x0107 end x.at.dump) (Ok y) → DidEntries s a c u v o at end (od s end at) (Ok (record { at = y; objects = x.objects; again = x.again }))
      unfolding od
      od_filled {y} e =
          let all = objects_open d.objects in
          let last = did_open e in
          let none : names_of last.0 ≡ [] = silent_took (fill_silent s end x.at.dump) last.2 in
          record {
            objects = objects_then d.objects (λ m. fill s 0x0107 end m) (plain_fill s 0x0107 end x.at.dump) e;
            told = λ {cs} {ms} {m = i} {e = e'} f g.
                let whole : took (all.0 ++ last.0) (all.1 ++ last.1) y.dump ≡ took cs ms i = rw (all.2, last.2) at f in
                let bs : all.0 ++ last.0 ≡ cs = cc in
                let names : names_of cs ≡ names_of all.0 = rw (← bs, names_append all.0 last.0, none) (append-nil (names_of all.0)) in
                let same : x.again ≡ e'.again = again_same g in
                rw (names, ← same) (d.told all.2 refl);
          }
