-- Which entries of EF.OD name a path, and the place of the first that names one once more.
use Prim.Native.Nat.{ℕ, zero, suc, ◌+◌, ◌-◌, ◌*◌, ◌<◌, ◌≤◌}
use mathlib.Core.Path.{◌≡◌, refl, sym, ap, ◌∙◌}
use mathlib.Core.Bool.{Bool, true, false, ◌&&◌, ◌||◌}
use mathlib.Core.List.{List, [], ◌∷◌, ◌++◌, append-nil}
use mathlib.Core.Logic.{inl, inr}
use native.Mathlib.Omega.{arith}
use native.Mathlib.Nat.{le_of_lt}
use lib.ListN.{length, get_or, length-append}
use lib.Seq.{slice, length-slice}
use lib.Dec.{ltb, eqb}
use borrow.Author.Tests.{lt-ltb, le-leb, eq-eqb, ne_eqb}
use Rattle.elements.specs.Choice.{pick, choose}
use Rattle.elements.specs.ChoiceLaws.{by_choose}
use Rattle.elements.specs.Header.{header}
use Rattle.elements.specs.HeaderLaws.{header_in}
use Rattle.elements.specs.Lists.{Bytes}
use Rattle.elements.specs.declared.fault.Fault.{Fault}
use Rattle.rules.specs.Reading.{Rec, rec, Res, took, fails, also, and_then}
use Rattle.rules.specs.Parts.{element}
use Rattle.rules.specs.declared.site.Site.{Site}
use Rattle.rules.specs.Grammar.{Where, here, into, low, element_bytes, first_of, many}
use Rattle.rules.specs.ElementLaws.{LowTag, low_tag_lem, low_is, low_first, Stands, head_complete}
use Rattle.rules.specs.LookLaws.{Laid, size}
use Rattle.rules.specs.Pays.{names_append}
use Rattle.rules.proofs.ReadLaws.{facts_kept, reads_facts}
use Rattle.rules.specs.Counted.{listed}
use Rattle.rules.specs.Entries.{object, item, inline, known_tag, context_tag}
use Rattle.rules.proofs.EntryLaws.{known_low, unknown, entry_body_lem, entry_law, entry_renders}
use Rattle.rules.specs.Files.{Name, names_of, paths, met, equal, first_again, filled, fill, entry_body, is_path, is_naming, entry_place}
use Rattle.cards.proofs.CardKinds.{objects_names}
use Rattle.files.specs.Filing.{PathsTold}
use Rattle.files.specs.declared.scan.Key.TheVariants.{Path}
use Rattle.files.specs.Scan.{bears, key_at, or_else}
use Rattle.files.specs.LiesLaws.{First}
use Rattle.files.proofs.ScanLaws.{name_at, names_first, keys_first, keys_append}
use Rattle.elements.specs.Answer.{found}
use Rattle.std.specs.Prelude.{Option, Some, None}

-- a part that names no path
pub data Silent : Res → Type 0 where
  stops : {f : Fault} {p : ℕ} → Silent (fails f p)
  silent : {bs : List Rec} {ms : List ℕ} {n : ℕ} → names_of bs ≡ [] → Silent (took bs ms n)

pub silent_took : {w : Res} {bs : List Rec} {ms : List ℕ} {n : ℕ} → Silent w → w ≡ took bs ms n → names_of bs ≡ []
silent_took {bs = bs} {ms} {n} h e = go (rw e at h)
  where
    go : {cs : List Rec} {ns : List ℕ} {m : ℕ} → Silent (took cs ns m) → names_of cs ≡ []
    go (silent z) = z

silent_also : (bs : List Rec) (ms : List ℕ) {w : Res} → names_of bs ≡ [] → Silent w → Silent (also bs ms w)
silent_also bs ms e stops = stops
silent_also bs ms e (silent {bs = cs} z) = silent (names_append bs cs ∙ rw (e, z) refl)

silent_then : {w : Res} {g : ℕ → Res} → Silent w → ((n : ℕ) → Silent (g n)) → Silent (and_then w g)
silent_then stops f = stops
silent_then (silent {bs = bs} {ms = ms} {n = n} z) f = silent_also bs ms z (f n)

silent_none : {n : ℕ} → Silent (took [] [] n)
unfolding names_of
silent_none = silent refl

module _ (s : List ℕ) where
  filled_silent : (b g end at : ℕ) → Silent (filled s b g end at)
  unfolding filled
  filled_silent b zero end at = silent_none
  filled_silent b (suc g) end at = by_choose Silent (eqb (get_or s at 0) b) (λ _ _. filled_silent b g end (at + 1)) (λ _ _. stops)

  -- EF.OD's fill
  pub fill_silent : (end at : ℕ) → Silent (fill s 0x0107 end at)
  unfolding fill names_of
  fill_silent end at = by_choose Silent (ltb at end) (λ _ _. silent_then (filled_silent (get_or s at 0) (end - at) end at) (λ n. silent refl)) (λ _ _. silent_none)

-- an entry of EF.OD that was read up to n: its first record names a path if it is naming, and no other does
pub record Entry (s : List ℕ) (end at : ℕ) (bs : List Rec) (n : ℕ) : Type 0 where
  pub tag : ℕ
  pub from : ℕ
  pub head : header s at end ≡ found tag from n
  pub first : Rec
  pub rest : List Rec
  pub are : bs ≡ first ∷ rest
  pub quiet : names_of rest ≡ []
  pub names : length (names_of (first ∷ [])) ≡ pick (is_naming s (header s at end)) 1 0
  pub bound : size bs ≤ 4 * (n - at)
  pub laid : Laid (length s) bs

-- the element at a place that ends a container, by its bytes
module _ (s : List ℕ) (small : length s ≤ 32768) where
  tag_at : (a e t : ℕ) (c : List ℕ) → LowTag t → a ≤ e → e ≤ length s → slice a e s ≡ element_bytes (low t c) → is_path s (header s a e) ≡ eqb t 0x30
  tag_at a e t c z h l q = rw ((head_complete s small a e (low t c) [] h l (low_is t c z) (q ∙ sym (append-nil (element_bytes (low t c))))).stands.is, low_first t c z) refl

  -- what an entry's records name
  module _ {end at n : ℕ} (l : end ≤ length s) where
    by_item : (x : item.Of) → item.Meets x → {a e : ℕ} → Stands s at end (item.shape x) a e → e ≡ n → (i : Where) → size (item.book i x) ≤ 4 * (n - at) → Laid (length s) (item.book i x) → Entry s end at (item.book i x) n
    unfolding names_of
    by_item (inl (t, inl path)) m {a} {e} st w i b v =
        let c = element_bytes (low 0x30 (element_bytes (low 0x04 path))) in
        let z : first_of (low t c) ≡ t = low_first t c (known_low t m.0) in
        let q : header s at end ≡ found t a e = st.is ∙ rw z refl in
        let p = tag_at a e 0x30 (element_bytes (low 0x04 path)) (low_tag_lem 0x30 tt) st.order (omega (arith, st.inside)) st.within in
        record { tag = t; from = a; head = q ∙ rw w refl; first = rec 0x0110 (t ∷ 0 ∷ path); rest = []; are = refl; quiet = refl; names = rw (q, m.0, p, le-leb 2 (length (t ∷ 0 ∷ path)) (omega arith)) refl; bound = b; laid = v }
    by_item (inl (t, inr objects)) m {a} {e} st w i b v =
        let d = (listed (object t)).part.bytes objects in
        let c = element_bytes (low 0xa0 d) in
        let z : first_of (low t c) ≡ t = low_first t c (known_low t m.0) in
        let q : header s at end ≡ found t a e = st.is ∙ rw z refl in
        let p = tag_at a e 0xa0 d (low_tag_lem 0xa0 tt) st.order (omega (arith, st.inside)) st.within in
        record { tag = t; from = a; head = q ∙ rw w refl; first = rec 0x0110 (t ∷ 1 ∷ []); rest = (many (object t).part).book (into (into i (item.shape (inl (t, inr objects)))) ((inline t).shape objects)) objects; are = refl; quiet = objects_names t _ objects; names = rw (q, m.0, p) refl; bound = b; laid = v }
    by_item (inr x) m {a} {e} st w i b v =
        record { tag = first_of x; from = a; head = st.is ∙ rw w refl; first = rec 0x0110 (first_of x ∷ 2 ∷ element_bytes x); rest = []; are = refl; quiet = refl; names = rw (st.is, (unknown (known_tag (first_of x)) (context_tag (first_of x)) m.2).0, le-leb 2 (length (first_of x ∷ 2 ∷ element_bytes x)) (omega arith)) refl; bound = b; laid = v }

module _ (site : Site) (s : List ℕ) (bytes : Bytes s) (small : length s ≤ 32768) where
  pub entry_told : (k end at : ℕ) {bs : List Rec} {ms : List ℕ} {n : ℕ} → k ≤ 128 → at < end → end ≤ length s → element s (entry_body site s k) end at ≡ took bs ms n → Entry s end at bs n
  entry_told k end at {bs} {ms} {n} m h l z =
      let f = reads_facts ((entry_law site s bytes small k m).sound end at (le_of_lt h) l) z in
      let x = f.it in
      let g = facts_kept entry_renders l f in
      let p = head_complete s small at end (item.shape x) (slice n end s) (le_of_lt h) l ((entry_body_lem site s bytes small k m).is x f.meets) f.bytes in
      let c : length (slice p.e end s) ≡ length (slice n end s) = ap length p.left in
      let w : p.e ≡ n = omega (arith, c, length-slice p.e end s l, length-slice n end s l, f.high, p.stands.inside) in
      let b : size bs ≤ 4 * (n - at) = omega (arith, g.bound) in
      rw f.book (by_item s small l x f.meets p.stands w (here site at) (rw f.book at b) (rw f.book at g.laid))

-- the same of its records as they lie in the book
module _ {s : List ℕ} {end at n : ℕ} {bs : List Rec} (g : Entry s end at bs n) {c : List ℕ} {p q : ℕ} (f : First c p q g.first g.rest) where
  pub naming_bears : bears c Path p ≡ is_naming s (header s at end)
  unfolding names_of
  naming_bears = go (name_at c p) (bears c Path p) (is_naming s (header s at end)) (sym (ap length (names_first f [])) ∙ g.names)
    where
      go : (l : Name) (x y : Bool) → length (choose x (λ _. l ∷ []) (λ _. [])) ≡ pick y 1 0 → x ≡ y
      go l true true z = refl
      go l true false z = absurd (omega arith)
      go l false true z = absurd (omega arith)
      go l false false z = refl

  pub names_bear : (rs : List Rec) → paths (names_of (rs ++ bs)) ≡ paths (names_of rs) ++ choose (bears c Path p) (λ _. key_at c Path p ∷ []) (λ _. [])
  names_bear rs = keys_append Path rs bs ∙ rw (g.are, keys_first f Path g.rest, g.quiet) refl

-- the first path that is named once more, with others behind, and with one more behind paths that differ
again_more : (before ps qs : List (List ℕ)) → first_again before ps < length ps → first_again before (ps ++ qs) ≡ first_again before ps
unfolding first_again
again_more before [] qs h = absurd (omega arith)
again_more before (p ∷ ps) qs h = go (again_more (p ∷ before) ps qs) (met p before) h
  where
    go : (first_again (p ∷ before) ps < length ps → first_again (p ∷ before) (ps ++ qs) ≡ first_again (p ∷ before) ps) → (t : Bool) → choose t (λ _. 0) (λ _. suc (first_again (p ∷ before) ps)) < suc (length ps) → choose t (λ _. 0) (λ _. suc (first_again (p ∷ before) (ps ++ qs))) ≡ choose t (λ _. 0) (λ _. suc (first_again (p ∷ before) ps))
    go i true z = refl
    go i false z = ap suc (i (omega arith))

again_last : (key : List ℕ) (before ps : List (List ℕ)) → first_again before ps ≡ length ps → first_again before (ps ++ (key ∷ [])) ≡ length ps + pick (met key before || met key ps) 0 1
unfolding first_again
again_last key before [] h = go (met key before)
  where
    go : (t : Bool) → choose t (λ _. 0) (λ _. 1) ≡ 0 + pick (t || false) 0 1
    go true = refl
    go false = refl
again_last key before (p ∷ ps) h = go (again_last key (p ∷ before) ps) (met p before) h
  where
    turned : (a b c : Bool) → (a || b || c) ≡ (b || (a || c))
    turned true true c = refl
    turned true false c = refl
    turned false true c = refl
    turned false false c = refl

    go : (first_again (p ∷ before) ps ≡ length ps → first_again (p ∷ before) (ps ++ (key ∷ [])) ≡ length ps + pick (met key (p ∷ before) || met key ps) 0 1) →
        (t : Bool) → choose t (λ _. 0) (λ _. suc (first_again (p ∷ before) ps)) ≡ suc (length ps) → choose t (λ _. 0) (λ _. suc (first_again (p ∷ before) (ps ++ (key ∷ [])))) ≡ suc (length ps) + pick (met key before || met key (p ∷ ps)) 0 1
    go i true z = absurd (omega arith)
    go i false z = rw (← turned (equal key p) (met key before) (met key ps)) (omega (arith, i (omega arith)))

-- the ways past an entry of EF.OD, to the place of the path entry after m others
module _ (s : List ℕ) (m end i : ℕ) {t a e : ℕ} (l : i < end) (q : header s i end ≡ found t a e) {g k : ℕ} (u : g ≡ suc k) where
  place_here : is_naming s (header s i end) ≡ true → m ≡ 0 → entry_place s g m end i ≡ i
  unfolding entry_place
  place_here x z = rw (u, lt-ltb i end l, x, eq-eqb m 0 z) refl

  place_one : is_naming s (header s i end) ≡ true → (m ≡ 0 → ⊥) → entry_place s g m end i ≡ entry_place s k (m - 1) end e
  unfolding entry_place
  place_one x z = rw (u, lt-ltb i end l, x, ne_eqb m 0 z, q) refl

  place_next : is_naming s (header s i end) ≡ false → entry_place s g m end i ≡ entry_place s k m end e
  unfolding entry_place
  place_next x = rw (u, lt-ltb i end l, x, q) refl

-- the entries up to n name the paths ps: what is known of `again`, and that the search for an entry's place has come to n
pub record Naming (s : List ℕ) (end at n : ℕ) (ps : List (List ℕ)) (again : Option ℕ) : Type 0 where
  pub told : PathsTold s end at ps again
  pub turns : ℕ
  pub enough : end - n ≤ turns
  pub comes : (m : ℕ) → entry_place s (length s) (length ps + m) end at ≡ entry_place s turns m end n

none_some : {p : ℕ} → ◌≡◌ {A = Option ℕ} None (Some p) → ⊥
none_some z = let y : ◌≡◌ {A = ℕ} 0 1 = cc in omega arith

pub naming_start : (s : List ℕ) (end at : ℕ) → end ≤ length s → Naming s end at at [] None
unfolding first_again
naming_start s end at h = record {
  told = record { never = λ _. refl; twice = λ p z. absurd (none_some z) };
  turns = length s;
  enough = omega arith;
  comes = λ m. let e : 0 + m ≡ m = omega arith in rw e refl;
}

turn : (d g : ℕ) → d ≤ g → 0 < d → (k : ℕ) × (g ≡ suc k)
turn d zero h l = absurd (omega arith)
turn d (suc k) h l = (k, refl)

-- one entry more, which names the path `key` or none
module _ {s : List ℕ} {end at n : ℕ} {ps : List (List ℕ)} {again : Option ℕ} (w : Naming s end at n ps again) (l : n < end) {t a e : ℕ} (q : header s n end ≡ found t a e) where
  naming_none : is_naming s (header s n end) ≡ false → Naming s end at e ps again
  naming_none x =
      let b = header_in s n end q in
      let g = turn (end - n) w.turns w.enough (omega arith) in
      record { told = w.told; turns = g.0; enough = omega (arith, w.enough, g.1); comes = λ m. w.comes m ∙ place_next s m end n l q g.1 x }

  naming_one : {r : Option ℕ} (key : List ℕ) → is_naming s (header s n end) ≡ true → r ≡ or_else again (pick (met key ps) (Some n) None) → Naming s end at e (ps ++ (key ∷ [])) r
  naming_one {r} key x y =
      let b = header_in s n end q in
      let g = turn (end - n) w.turns w.enough (omega arith) in
      record {
        told = told_one again w.told y;
        turns = g.0;
        enough = omega (arith, w.enough, g.1);
        comes = λ m.
            let c : length (ps ++ (key ∷ [])) + m ≡ length ps + suc m = omega (arith, length-append ps (key ∷ [])) in
            let d : suc m - 1 ≡ m = omega arith in
            rw c (w.comes (suc m) ∙ place_one s (suc m) end n l q g.1 x (λ z. omega arith) ∙ rw d refl);
      }
    where
      more : length (ps ++ (key ∷ [])) ≡ length ps + 1
      more = length-append ps (key ∷ [])

      told_one : (v : Option ℕ) → PathsTold s end at ps v → r ≡ or_else v (pick (met key ps) (Some n) None) → PathsTold s end at (ps ++ (key ∷ [])) r
      told_one None p y = by_met (met key ps) (again_last key [] ps (p.never refl)) y
        where
          by_met : (u : Bool) → first_again [] (ps ++ (key ∷ [])) ≡ length ps + pick u 0 1 → r ≡ pick u (Some n) None → PathsTold s end at (ps ++ (key ∷ [])) r
          by_met true f z =
              let g = turn (end - n) w.turns w.enough (omega arith) in
              record {
                never = λ v. absurd (none_some (sym v ∙ z));
                twice = λ x' v.
                    let same : n ≡ x' = cc in
                    rw f (omega (arith, more), sym same ∙ sym (w.comes 0 ∙ place_here s 0 end n l q g.1 x refl));
              }
          by_met false f z = record { never = λ _. omega (arith, more); twice = λ x v. absurd (none_some (sym z ∙ v)) }
      told_one (Some v) p y =
          let o = p.twice v refl in
          record {
            never = λ x. absurd (none_some (sym x ∙ y));
            twice = λ x u.
                let same : v ≡ x = cc in
                rw (again_more [] ps (key ∷ []) o.0) (omega (arith, o.0, more), sym same ∙ o.1);
          }

  -- by what its first record bears
  pub naming_next : {r : Option ℕ} {x : Bool} (key : List ℕ) → x ≡ is_naming s (header s n end) → r ≡ or_else again (pick (x && met key ps) (Some n) None) → Naming s end at e (ps ++ choose x (λ _. key ∷ []) (λ _. [])) r
  naming_next {x = true} key x y = naming_one key (sym x) y
  naming_next {x = false} key x y = rw (append-nil ps, y ∙ same again) (naming_none (sym x))
    where
      same : (v : Option ℕ) → or_else v None ≡ v
      same None = refl
      same (Some v) = refl
