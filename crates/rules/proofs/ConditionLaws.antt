-- Conditions are read as they are, and only so.
use Prim.Native.Nat.{ℕ, zero, suc, ◌+◌, ◌-◌, ◌≤◌, ◌<◌}
use mathlib.Core.List.{List, [], ◌∷◌, append-nil}
use Rattle.std.specs.Prelude.{Bool, ◌&&◌, ◌≡◌}
use Rattle.std.proofs.Math.Bool.{true, false}
use Rattle.std.proofs.Math.Path.{refl, sym, ap, subst}
use Rattle.std.proofs.Common.{◌∙◌, le_refl}
use native.Mathlib.Omega.{arith}
use Rattle.std.proofs.Math.ListN.{length}
use Rattle.std.proofs.Math.Seq.{slice, slice_empty}
use Rattle.std.proofs.Math.Dec.{ltb, leb, eqb}
use borrow.Author.Tests.{ltb-true, ltb-false, lt-ltb, le-ltb, leb-true, le-leb, eqb-true, eq-eqb}
use Rattle.elements.specs.Choice.{choose}
use Rattle.elements.specs.ChoiceLaws.{by_choose}
use Rattle.elements.specs.Lists.{Bytes}
use Rattle.elements.specs.Put.{le16}
use Rattle.rules.specs.declared.table.Sort.{Sort}
use Rattle.rules.specs.declared.table.Sort.TheVariants.{Always, Identifier, Not, And, Or, Other}
use Rattle.rules.specs.Reading.{rec, Res, Body}
use Rattle.rules.specs.Parts as parts
use Rattle.rules.specs.Parts.{repeat, to_end}
use Rattle.rules.specs.Tables.{tag_of, kind_of, sort_by}
use Rattle.rules.specs.Rulings.{counts, quiet, listed, identified}
use Rattle.rules.specs.Grammar.{Element, first_of, Site, Part, Item, empty, flat, one, tagged, with, behind, many, never, raw, total}
use Rattle.rules.specs.ElementLaws.{is_end, Stands}
use Rattle.rules.specs.GrammarLaws.{tags, close, Stop, Reads, refuses, takes, whole_reads, whole_goes, raw_law, Law, BodyLaw, Plain, ItemLaw, Any, inside_law, ended_law, element_law, tagged_law, shaped_reads, low_tag_lem, low_is, LowTag, by_head}
use Rattle.rules.specs.ItemLaws.{lift_reads, lift_body, lift_item, narrow, behind_body, sealed_law, list_law, mapped_reads, counts_reads, counts_goes}
use Rattle.rules.specs.TestLaws.{clash}
use Rattle.rules.specs.Faces.{cond_look}
use Rattle.rules.specs.Conditions.{Several, Condition, Sorted, is_other, sorts, body_by_sort, by_sort, condition}

pub total_length : {A : Type 0} (xs : List A) → total (λ _. 1) xs ≡ length xs
total_length [] = refl
total_length (x ∷ xs) = omega (arith, total_length xs)

-- the sort that has a tag
pub data Found (f : Sort → ℕ) (t : ℕ) : Sort → Type 0 where
  found : {x : Sort} → t ≡ f x → Found f t x
  other : Found f t Other

pub found_sort : (f : Sort → ℕ) (t : ℕ) → Found f t (sort_by f t)
unfolding sort_by
found_sort f t = go Always λ _. go Identifier λ _. go Not λ _. go And λ _. go Or λ _. other
  where
    go : (x : Sort) {y : Unit {0} → Sort} → ((u : Unit {0}) → Found f t (y u)) → Found f t (choose (eqb t (f x)) (λ _. x) y)
    go x g = by_choose (Found f t) (eqb t (f x)) (λ _ e. found (eqb-true t (f x) e)) (λ u _. g u)

-- "05 00": nothing is inside
abbrev Bare : Sort → List ℕ → Type 0
Bare Always c = c ≡ []
Bare Identifier c = Unit {0}
Bare Not c = Unit {0}
Bare And c = Unit {0}
Bare Or c = Unit {0}
Bare Other c = Unit {0}

abbrev OfSort : Sort → Element → Type 0
OfSort x y = (sort_by tag_of (first_of y) ≡ x) × Bare x y.contents

is_other_lem : (x : Sort) → is_other x ≡ true → x ≡ Other
is_other_lem Other e = refl
is_other_lem Always e = let z : ◌≡◌ {A = ℕ} 0 1 = cc in absurd (omega arith)
is_other_lem Identifier e = let z : ◌≡◌ {A = ℕ} 0 1 = cc in absurd (omega arith)
is_other_lem Not e = let z : ◌≡◌ {A = ℕ} 0 1 = cc in absurd (omega arith)
is_other_lem And e = let z : ◌≡◌ {A = ℕ} 0 1 = cc in absurd (omega arith)
is_other_lem Or e = let z : ◌≡◌ {A = ℕ} 0 1 = cc in absurd (omega arith)

module _ (site : Site) (s : List ℕ) (bytes : Bytes s) (small : length s ≤ 32768) where
  abbrev SortLaw : Sort → Sorted → Type 0
  SortLaw x S = ItemLaw site s (S.body s) S.item S.inside 0 255 (OfSort x)

  -- a sort that has its tag
  of_tag : (x : Sort) → is_other x ≡ false → (y : Element) → sort_by tag_of (first_of y) ≡ x → first_of y ≡ tag_of x
  of_tag x n y e = go (sort_by tag_of (first_of y)) e (found_sort tag_of (first_of y))
    where
      go : (z : Sort) → z ≡ x → Found tag_of (first_of y) z → first_of y ≡ tag_of x
      go z q (found g) = rw (← q) g
      go z q other = absurd (clash (is_other x) (rw (← q) refl) n)

  tag_law : (x : Sort) {b : Body} (P : Part) {c : P.Of → ℕ} → is_other x ≡ false → ((d : List ℕ) → Bare x d) → ((y : Element) → first_of y ≡ tag_of x → sort_by tag_of (first_of y) ≡ x) → LowTag (tag_of x) → BodyLaw site s b P c 0 255 → ItemLaw site s (λ _. b) (tagged (tag_of x) P) c 0 255 (OfSort x)
  tag_law x P n v w z f = narrow (OfSort x) (λ y d. of_tag x n y d.0) (λ y d. (w y d, v y.contents)) (tagged_law site s bytes small (tag_of x) z f)

  -- "05 00": its header says that nothing is inside
  always_law : (c : Condition) → SortLaw Always (sorts c Always)
  unfolding sort_by
  always_law c = record {
    sound = λ x i d end at a e st l.
        let z : a ≡ e = is_end s a e st.order (omega (arith, st.inside)) (st.within ∙ d.1) in
        let P = behind empty (λ _. rec (kind_of Always) []) in
        shaped_reads site s bytes small at P (sorts c Always).item (λ _. 0) (tag_of Always) (λ y. y) (λ _. refl) (λ _. refl) (λ _ m. m) (λ _. refl) (low_tag_lem (tag_of Always) tt) x (of_tag Always refl x d.0) st (omega (arith, st.inside))
        (lift_reads 0 255 (omega arith) (whole_reads P (rec (kind_of Always) [] ∷ []) tt tt st.order (rw z (slice_empty e s)) refl));
    is = λ i y. low_is (tag_of Always) [] (low_tag_lem (tag_of Always) tt);
    begins = λ i y. (refl, refl);
    complete = λ i y r end at a e st l. whole_goes (omega (arith, st.after, st.order)) refl;
  }

  identifier_law : (c : Condition) → SortLaw Identifier (sorts c Identifier)
  unfolding sort_by identified
  identifier_law c = tag_law Identifier (raw (rec (kind_of Identifier)) (λ c. length c ≤ 255)) refl (λ _. tt) (λ y e. rw e refl) (low_tag_lem 0x04 tt)
      (lift_body 0 255 (omega arith) (raw_law (rec 0x0127) (λ c. length c ≤ 255) (λ n. leb n 255) (λ c. leb-true (length c) 255) (λ c. le-leb (length c) 255)))

  other_law : (c : Condition) → SortLaw Other (sorts c Other)
  other_law c = narrow (OfSort Other) (λ y d. rw d.0 refl) (λ y d. (is_other_lem (sort_by tag_of (first_of y)) d, tt)) (lift_item 0 255 (omega arith) (sealed_law site s bytes small (λ t. is_other (sort_by tag_of t)) (kind_of Other) (λ _. [])))

  module _ (c : Condition) (law : (k : ℕ) → k ≤ 255 → Law site s (c.read s k) (one c.item) (λ _. 1) k 255 cond_look) where
    not_law : SortLaw Not (sorts c Not)
    unfolding sort_by
    not_law = tag_law Not (behind (one c.item) (λ _. rec (kind_of Not) [])) refl (λ _. tt) (λ y e. rw e refl) (low_tag_lem 0xa0 tt) (behind_body (rec (kind_of Not) []) (inside_law (ended_law site s bytes small (law 0 (omega arith))) refl))

    abbrev list_part : ℕ → Part
    list_part kind = behind (with (many (one c.item)) Several) (λ x. rec kind (le16 (length x)))

    listed_reads : (kind at e : ℕ) {r : Res} → e ≤ length s → Reads site s (many (one c.item)) (total (λ _. 1)) 0 255 close e at r → Reads site s (list_part kind) (λ _. 0) 0 255 close e at (listed kind e r)
    listed_reads kind at e l (refuses p o) = refuses p o
    listed_reads kind at e l (takes {rs = rs} {ms = ms} {n = n} f) =
        let z : length ms ≡ length f.it = f.counted ∙ total_length f.it in
        by_choose (Reads site s (list_part kind) (λ _. 0) 0 255 close e at) (leb 2 (length ms))
        (λ _ u. takes {rs = rec kind (le16 (length ms)) ∷ rs} {ms = []} {n = n} (record {
          it = f.it;
          meets = (f.meets, (omega (arith, leb-true 2 (length ms) u), omega (arith, f.room, f.counted)));
          low = f.low;
          high = f.high;
          bytes = f.bytes;
          book = rw (z, f.book) refl;
          counted = refl;
          marks = tt;
          room = omega arith;
          closes = f.closes;
        }))
        (λ _ _. refuses e (l, tt))

    list_body : (kind : ℕ) → BodyLaw site s (λ at a e. listed kind e (repeat to_end (λ j f i. c.read s j f i) (e - a) 0 e a)) (list_part kind) (λ _. 0) 0 255
    list_body kind =
        let f = list_law small (λ j f i. c.read s j f i) law tt refl 0 (omega arith) in
        record {
          sound = λ at a e i h l. listed_reads kind a e l (f.sound e a h l);
          complete = λ at a e _ h l x y r q.
              let n = total_length x in
              let g = f.complete e a h l x y.0 (omega (arith, y.1.1)) [] refl (q ∙ sym (append-nil (flat (one c.item).bytes x))) in
              let z : length g.ms ≡ length x = g.counted ∙ n in
              record { ms = []; n = g.n; is = rw (g.is, z, le-leb 2 (length x) y.1.0) refl; counted = refl; low = g.low; high = g.high; left = g.left };
        }

    sort_law : (x : Sort) → SortLaw x (sorts c x)
    unfolding sort_by
    sort_law Always = always_law c
    sort_law Identifier = identifier_law c
    sort_law Not = not_law
    sort_law And = tag_law And (list_part (kind_of And)) refl (λ _. tt) (λ y e. rw e refl) (low_tag_lem 0xa1 tt) (list_body (kind_of And))
    sort_law Or = tag_law Or (list_part (kind_of Or)) refl (λ _. tt) (λ y e. rw e refl) (low_tag_lem 0xa2 tt) (list_body (kind_of Or))
    sort_law Other = other_law c

    -- the conditions of one list, after k others
    abbrev here : Item
    here = (by_sort (sorts c)).item

    abbrev in_here : here.Of → ℕ
    in_here i = (sorts c i.0).inside i.1

    few : (x : Sort) (i : (sorts c x).item.Of) → (sorts c x).inside i ≤ 1
    few Always i = omega arith
    few Identifier i = omega arith
    few Not i = omega arith
    few And i = omega arith
    few Or i = omega arith
    few Other i = omega arith

    -- a header that is no bad NULL says what its sort needs
    bare : (x : Sort) (t a e : ℕ) → a ≤ e → e ≤ length s → Found tag_of t x → (eqb t (tag_of Always) && ltb a e) ≡ false → (d : List ℕ) → slice a e s ≡ d → Bare x d
    bare Always t a e h l (found z) q d w =
        let o : ltb a e ≡ false = rw (eq-eqb t (tag_of Always) z) at q in
        let z : a ≡ e = omega (arith, ltb-false a e o) in
        sym w ∙ rw z (slice_empty e s)
    bare Identifier t a e h l f q d w = tt
    bare Not t a e h l f q d w = tt
    bare And t a e h l f q d w = tt
    bare Or t a e h l f q d w = tt
    bare Other t a e h l f q d w = tt

    not_null : (x : Sort) (i : (sorts c x).item.Of) → (sorts c x).item.Meets i → {end at a e : ℕ} → Stands s at end ((sorts c x).item.shape i) a e → end ≤ length s → (eqb (first_of ((sorts c x).item.shape i)) (tag_of Always) && ltb a e) ≡ false
    unfolding sort_by
    not_null x i y {end} {at} {a} {e} st l = go (eqb (first_of ((sorts c x).item.shape i)) (tag_of Always)) refl ((sort_law x).begins i y)
      where
        go : (b : Bool) → eqb (first_of ((sorts c x).item.shape i)) (tag_of Always) ≡ b → OfSort x ((sorts c x).item.shape i) → (b && ltb a e) ≡ false
        go false q d = refl
        go true q d =
            let w : x ≡ Always = sym d.0 ∙ ap (sort_by tag_of) (eqb-true (first_of ((sorts c x).item.shape i)) (tag_of Always) q) in
            let v : ((sorts c x).item.shape i).contents ≡ [] = subst (λ z. Bare z ((sorts c x).item.shape i).contents) w d.1 in
            let z : a ≡ e = is_end s a e st.order (omega (arith, st.inside)) (st.within ∙ v) in
            le-ltb a e (omega arith)

    here_law : (nth : ℕ) → nth ≤ 255 → ItemLaw site s (body_by_sort (sorts c) s nth) here in_here 0 255 Any
    unfolding body_by_sort
    here_law nth h = record {
      sound = λ y i _ end at a e st l.
          let t = first_of y in
          let o : at ≤ length s = omega (arith, st.after, st.order, st.inside) in
          by_choose (Reads site s (one here) in_here 0 255 close e at) (eqb t (tag_of Always) && ltb a e) (λ _ _. refuses at (o, tt)) (λ _ q.
          by_choose (Reads site s (one here) in_here 0 255 close e at) (ltb 255 nth) (λ _ _. refuses at (o, tt)) (λ _ _.
          mapped_reads (sorts c (sort_by tag_of t)).item here in_here (λ j. (sort_by tag_of t, j)) (λ _. refl) (λ _ _. refl) (λ _ m. m) (λ _. refl)
          ((sort_law (sort_by tag_of t)).sound y i (refl, bare (sort_by tag_of t) t a e st.order (omega (arith, st.inside)) (found_sort tag_of t) q y.contents st.within) end at a e st l)));
      is = λ i m. (sort_law i.0).is i.1 m;
      begins = λ _ _. tt;
      complete = λ i m r end at a e st l. rw (not_null i.0 i.1 m st l, le-ltb 255 nth h, ((sort_law i.0).begins i.1 m).0) ((sort_law i.0).complete i.1 m r end at a e st l);
    }

    -- the 256th
    none_more : (k end at : ℕ) → 255 < k + 1 → at ≤ end → end ≤ length s → Reads site s (one here) (λ _. 1) k 255 (tags []) end at ((by_sort (sorts c)).read s k end at)
    unfolding parts.element body_by_sort
    none_more k end at h i l =
        let Z : Res → Type 0 = λ x. Reads site s (one here) (λ _. 1) k 255 (tags []) end at (counts at x) in
        by_choose Z (ltb at end)
        (λ _ _. by_head s bytes small Z (parts.whatever (body_by_sort (sorts c) s (k + 1)) at) end at i l (λ _ p o. refuses p o)
        (λ t a e v. by_choose Z (eqb t (tag_of Always) && ltb a e) (λ _ _. refuses at (omega arith, tt)) (λ _ _. rw (lt-ltb 255 (k + 1) h) (refuses at (omega arith, tt)))))
        (λ _ _. refuses end (l, tt))

    by_sort_law : (k : ℕ) → k ≤ 255 → Law site s ((by_sort (sorts c)).read s k) (one here) (λ _. 1) k 255 cond_look
    by_sort_law k h = go (ltb 255 (k + 1)) refl
      where
        next : (k : ℕ) → k + 1 ≤ 255 → Law site s (parts.element s (body_by_sort (sorts c) s (k + 1))) (one here) in_here 0 255 cond_look
        next k h = element_law site s bytes small (λ _. true) (here_law (k + 1) h) (λ _ _. refl)

        go : (b : Bool) → ltb 255 (k + 1) ≡ b → Law site s ((by_sort (sorts c)).read s k) (one here) (λ _. 1) k 255 cond_look
        go false e =
            let z : k + 1 ≤ 255 = ltb-false 255 (k + 1) e in
            let f = next k z in
            record {
              sound = λ end at i l. counts_reads k 255 at (omega arith) z (f.sound end at i l);
              starts = f.starts;
              complete = λ end at i l x y r w v q. counts_goes at (f.complete end at i l x y (omega (arith, few x.0 x.1)) w v q);
            }
        go true e =
            let z = ltb-true 255 (k + 1) e in
            record {
              sound = λ end at i l. none_more k end at z i l;
              starts = (next 0 (omega arith)).starts;
              complete = λ end at i l x y r w v q. absurd (omega arith);
            }

  pub condition_law : (l k : ℕ) → k ≤ 255 → Law site s ((condition l).read s k) (one (condition l).item) (λ _. 1) k 255 cond_look
  unfolding condition
  condition_law zero k h = record {
    sound = λ end at i l. by_choose (Reads site s (one never) (λ _. 1) k 255 (tags []) end at) (ltb at end) (λ _ _. refuses at (omega arith, tt)) (λ _ _. refuses end (l, tt));
    starts = λ x y. absurd x;
    complete = λ end at i l x y r w v e. absurd x;
  }
  condition_law (suc l) k h = by_sort_law (condition l) (condition_law l) k h

  quiet_reads : {P : Part} {t : Stop} {end at : ℕ} {r : Res} → Reads site s P (λ _. 1) 0 255 t end at r → Reads site s P (λ _. 0) 0 0 t end at (quiet r)
  quiet_reads (refuses p o) = refuses p o
  quiet_reads (takes {rs = rs} {n = n} f) = takes {rs = rs} {ms = []} {n = n} (record { it = f.it; meets = f.meets; low = f.low; high = f.high; bytes = f.bytes; book = f.book; counted = refl; marks = tt; room = le_refl 0; closes = f.closes })

  pub plain_condition_lem : (l : ℕ) → Plain site s (λ end at. quiet ((condition l).read s 0 end at)) (one (condition l).item) cond_look
  plain_condition_lem l =
      let f = condition_law l 0 (omega arith) in
      record {
        sound = λ end at h l. quiet_reads (f.sound end at h l);
        starts = f.starts;
        complete = λ end at h l x y r w v e.
            let g = f.complete end at h l x y (omega arith) w v e in
            record { ms = []; n = g.n; is = rw g.is refl; counted = refl; low = g.low; high = g.high; left = g.left };
      }
