-- Objects and EF.OD's entries: read as they are, and only so; their records give their bytes and tell their data.
use Rattle.std.specs.Prelude.{ℕ, ◌-◌, ◌*◌, ◌≤◌, ◌<◌, List, [], ◌∷◌, ◌++◌, Bool, true, false, ◌||◌, ◌&&◌, ◌≡◌, length, get_or, drop, ltb}
use Rattle.std.proofs.Math.Bool.{not}
use Rattle.std.proofs.Common.{inl, inr, sym, ap, subst, ◌∙◌, arith, length-append}
use Rattle.std.proofs.Math.Path.{refl}
use Rattle.std.proofs.Math.Dec.{leb, eqb}
use borrow.Author.Tests.{leb-true, le-leb, eqb-true, eq-eqb}
use Rattle.elements.specs.Choice.{choose}
use Rattle.elements.specs.ChoiceLaws.{both_true}
use Rattle.elements.specs.Lists.{Bytes}
use Rattle.elements.specs.Length.{wrap}
use Rattle.rules.specs.declared.table.Need.TheVariants.{Required, Optional}
use Rattle.rules.specs.Reading.{Rec, rec, ◌then◌}
use Rattle.rules.specs.Parts as parts
use Rattle.rules.specs.Parts.{component, inside}
use Rattle.rules.specs.Rendering.{gives, Renderer}
use Rattle.rules.specs.Grammar.{Site, Where, into, ◌on◌, ◌later◌, low, element_bytes, first_of, ◌or◌, one, tagged, choice, sealed_one, raw}
use Rattle.rules.specs.ElementLaws.{LowTag, low_tag_lem, low_first, wrap_is, element_long, same_element}
use Rattle.rules.specs.LookLaws.{pay_first, Fresh, Begins, some, size, size_append, Laid}
use Rattle.rules.specs.RenderLaws.{Renders, later_on, moved_on}
use Rattle.rules.specs.GrammarLaws as exact
use Rattle.rules.specs.GrammarLaws.{tags, Law, BodyLaw, PlainBody, ItemLaw, Any, inside_law, ended_law, element_law, component_law, tagged_law, choice_law, raw_law}
use Rattle.rules.specs.ItemLaws.{lift_body, lift_item, narrow, or_law, otherwise_law, behind_body, sealed_law}
use Rattle.rules.specs.Bytewise.{Outs, out, out_test, b_get, b_drop, wrap_b, within_b, from_b}
use Rattle.rules.proofs.Lawful.{LawfulCounted}
use Rattle.rules.specs.Faces.{any_tag}
use Rattle.rules.specs.Counted.{listed, Paid}
use Rattle.rules.specs.Tables.{class_of, type_of}
use Rattle.rules.specs.Layout.{due, maybe, ended, apart}
use Rattle.rules.specs.Layouts.{common, class, subclass, typed, contents, insides}
use Rattle.rules.proofs.Sound.{due_sound, offered_sound, ended_sound, apart_sound}
use Rattle.rules.proofs.SoundLayouts.{common_sound, class_sound, subclass_sound, typed_sound, contents_fine}
use Rattle.rules.proofs.SoundCounted.{listed_sound, object_sound}
use Rattle.rules.specs.FileLayouts.{entry_look}
use Rattle.rules.specs.Entries.{PathSize, object_tag, object, naming, inline, known_tag, context_tag, item, in_known, in_entry, named_path, entry_inside, entry_body, r_inside, r_entry_of, r_entry}

-- tags of one byte
pub low_between : (t a b : ℕ) → (leb a t && leb t b) ≡ true → 0xa0 ≤ a → b ≤ 0xa8 → LowTag t
low_between t a b e h g =
    let v = both_true (leb a t) (leb t b) e in
    let x = leb-true a t v.0 in
    let y = leb-true t b v.1 in
    record { byte = omega arith; some_tag = λ z. omega arith; short = omega arith }

pub object_low : (t : ℕ) → object_tag t ≡ true → LowTag t
object_low t e = go (eqb t 0x30) refl e
  where
    go : (b : Bool) → eqb t 0x30 ≡ b → (b || (leb 0xa0 t && leb t 0xa7)) ≡ true → LowTag t
    go true z e = rw (eqb-true t 0x30 z) (low_tag_lem 0x30 tt)
    go false z e = low_between t 0xa0 0xa7 e (omega arith) (omega arith)

-- an object's common attributes are an element that has no record of its own
contents_paid : (entry tag : ℕ) → Paid (contents entry tag).part
unfolding insides
contents_paid entry tag v (((x, y), z), w) (((mx, my), mz), mw) =
    let f = contents_fine entry tag in
    let i = common.part.bytes x in
    let j = due 0x30 (class (class_of entry)) in
    let k = maybe 0xa0 subclass in
    let l = due 0xa1 (ended (apart (typed (type_of entry tag)))) in
    let first = element_bytes (low 0x30 i) in
    let second = j.part.bytes y in
    let third = k.part.bytes z in
    let a = common.part.book (into v (low 0x30 i)) x in
    let b = j.part.book (v on length first) y in
    let c = k.part.book (v on length (first ++ second)) z in
    let d = l.part.book (v on length ((first ++ second) ++ third)) w in
    omega (
      arith,
      size_append a b,
      size_append (a ++ b) c,
      size_append ((a ++ b) ++ c) d,
      length-append first second,
      length-append (first ++ second) third,
      length-append ((first ++ second) ++ third) (l.part.bytes w),
      (common_sound.lawful f.0.0.0.0).renders.bound (into v (low 0x30 i)) x mx,
      ((due_sound 0x30 (class_sound (class_of entry))).lawful f.0.0.1).renders.bound (v on length first) y my,
      ((offered_sound Optional 0xa0 subclass_sound).lawful f.0.1).renders.bound (v on length (first ++ second)) z mz,
      ((due_sound 0xa1 (ended_sound (apart_sound (typed_sound (type_of entry tag))))).lawful f.1).renders.bound (v on length ((first ++ second) ++ third)) w mw,
      element_long (low 0x30 i),
    )

pub object_fine : (entry : ℕ) → (object entry).Fine
unfolding object insides
object_fine entry = ((λ y t. (contents_fine y t, tt, tt, contents_paid y t)), object_low, tt, omega arith, tt)

pub objects_fine : (t : ℕ) → (listed (object t)).Fine
unfolding object insides
objects_fine t = (object_fine t, tt, tt, tt)

module _ (site : Site) (s : List ℕ) (bytes : Bytes s) (small : length s ≤ 32768) where
  -- objects of a list
  objects_law : (entry k : ℕ) → k ≤ 128 → BodyLaw site s (inside ((listed (object entry)).read site s k)) (listed (object entry)).part (listed (object entry)).count k 128
  unfolding object
  objects_law entry k h = inside_law (((listed_sound (object_sound entry)).lawful (objects_fine entry)).exact site s bytes small k h) refl

  name_law : (entry : ℕ) → PlainBody site s (named_path s entry) (raw (λ c. rec 0x0110 (entry ∷ 0 ∷ c)) PathSize)
  unfolding named_path
  name_law entry = raw_law (λ c. rec 0x0110 (entry ∷ 0 ∷ c)) PathSize (λ n. leb 1 n && leb n 64)
      (λ c u. let v = both_true (leb 1 (length c)) (leb (length c) 64) u in (leb-true 1 (length c) v.0, leb-true (length c) 64 v.1))
      (λ c y. rw (le-leb 1 (length c) y.0, le-leb (length c) 64 y.1) refl)

  naming_law : (entry : ℕ) → PlainBody site s (inside (component s 0x04 Required (named_path s entry) then parts.ended s)) (one (tagged 0x04 (raw (λ c. rec 0x0110 (entry ∷ 0 ∷ c)) PathSize)))
  naming_law entry = inside_law (ended_law site s bytes small (component_law site s bytes small 0x04 (low_tag_lem 0x04 tt) (name_law entry) Required)) refl

  -- "Inside is a Path 30 or objects A0"
  inside_entry : (entry k : ℕ) → k ≤ 128 → ItemLaw site s (entry_inside site s entry k) (naming entry or inline entry) (in_known entry) k 128 Any
  unfolding entry_inside
  inside_entry entry k h =
      or_law (naming entry) (inline entry) (in_known entry) Any (λ t. eqb t 0x30)
      (narrow (λ y. Any y × (eqb (first_of y) 0x30 ≡ true)) (λ y d. eqb-true (first_of y) 0x30 d.1) (λ y d. (tt, eq-eqb (first_of y) 0x30 d)) (tagged_law site s bytes small 0x30 (low_tag_lem 0x30 tt) (lift_body k 128 h (naming_law entry))))
      (otherwise_law (λ y. Any y × (eqb (first_of y) 0x30 ≡ false)) (λ t. eqb t 0xa0)
      (narrow (λ y. (Any y × (eqb (first_of y) 0x30 ≡ false)) × (eqb (first_of y) 0xa0 ≡ true)) (λ y d. eqb-true (first_of y) 0xa0 d.1) (λ y d. ((tt, rw d refl), eq-eqb (first_of y) 0xa0 d))
      (tagged_law site s bytes small 0xa0 (low_tag_lem 0xa0 tt) (behind_body (rec 0x0110 (entry ∷ 1 ∷ [])) (objects_law entry k h)))))

  known_law : (t k : ℕ) → k ≤ 128 → BodyLaw site s (inside (parts.element s (entry_inside site s t k) then parts.ended s)) (one (naming t or inline t)) (in_known t) k 128
  known_law t k h = inside_law (ended_law site s bytes small (element_law site s bytes small any_tag (inside_entry t k h) (λ _ _. refl))) refl

pub known_low : (t : ℕ) → known_tag t ≡ true → LowTag t
known_low t e = low_between t 0xa0 0xa8 e (omega arith) (omega arith)

known_context : (t : ℕ) → known_tag t ≡ true → context_tag t ≡ true
known_context t e =
    let v = both_true (leb 0xa0 t) (leb t 0xa8) e in
    let x = leb-true 0xa0 t v.0 in
    let y = leb-true t 0xa8 v.1 in
    rw (le-leb 0x80 t (omega arith), le-leb t 0xbf (omega arith)) refl

entry_first : (i : item.Of) → item.Meets i → context_tag (first_of (item.shape i)) ≡ true
entry_first (inl x) y = rw (low_first x.0 ((one (naming x.0 or inline x.0)).bytes x.1) (known_low x.0 y.0)) (known_context x.0 y.0)
entry_first (inr x) y = (both_true (not (known_tag (first_of x))) (context_tag (first_of x)) y.2).1

pub unknown : (a b : Bool) → (not a && b) ≡ true → (a ≡ false) × (b ≡ true)
unknown false b e = (refl, e)
unknown true b e = let z : ◌≡◌ {A = ℕ} 0 1 = cc in absurd (omega arith)

module _ (site : Site) (s : List ℕ) (bytes : Bytes s) (small : length s ≤ 32768) where
  pub entry_body_lem : (k : ℕ) → k ≤ 128 → ItemLaw site s (entry_body site s k) item in_entry k 128 Any
  unfolding entry_body
  entry_body_lem k h =
      or_law (choice known_tag (λ t. one (naming t or inline t))) (sealed_one (λ t. not (known_tag t) && context_tag t) 0x0110 (λ t. t ∷ 2 ∷ [])) in_entry Any known_tag
      (narrow (λ y. Any y × (known_tag (first_of y) ≡ true)) (λ y d. d.1) (λ y d. (tt, d)) (choice_law site s bytes small known_tag (λ t. one (naming t or inline t)) in_known known_low (λ t _. known_law site s bytes small t k h)))
      (otherwise_law (λ y. Any y × (known_tag (first_of y) ≡ false)) context_tag
      (narrow (λ y. (Any y × (known_tag (first_of y) ≡ false)) × (context_tag (first_of y) ≡ true)) (λ y d. rw (d.0.1, d.1) refl) (λ y d. let v = unknown (known_tag (first_of y)) (context_tag (first_of y)) d in ((tt, v.0), v.1))
      (lift_item k 128 h (sealed_law site s bytes small (λ t. not (known_tag t) && context_tag t) 0x0110 (λ t. t ∷ 2 ∷ [])))))

  pub entry_law : (k : ℕ) → k ≤ 128 → Law site s (parts.element s (entry_body site s k)) (one item) in_entry k 128 (exact.look context_tag false (tags []))
  entry_law k h = element_law site s bytes small context_tag (entry_body_lem k h) entry_first

module _ (t : ℕ) where
  -- its objects, whatever the entry: the renderer takes their entry from their records
  objects_renders : Renders (listed (object t)).part (listed (object 0)).render (listed (object 0)).kinds
  unfolding object
  objects_renders = ((listed_sound (object_sound t)).lawful (objects_fine t)).renders

  known_renders : known_tag t ≡ true → (x : (naming t or inline t).Of) → (naming t or inline t).Meets x → (v : Where) (w : List Rec) → Fresh entry_look.stop w →
      r_entry ((naming t or inline t).book v x ++ w) ≡ gives (element_bytes (low t (element_bytes ((naming t or inline t).shape x)))) w
  unfolding r_entry r_entry_of r_inside
  known_renders e (inl p) m v w h = rw (wrap_is t (element_bytes (low 0x30 (element_bytes (low 0x04 p)))) (known_low t e), wrap_is 0x30 (element_bytes (low 0x04 p)) (low_tag_lem 0x30 tt), wrap_is 0x04 p (low_tag_lem 0x04 tt)) refl
  known_renders e (inr os) m v w h =
      let c = (listed (object t)).part.bytes os in
      rw (objects_renders.renders _ os m w h, wrap_is t (element_bytes (low 0xa0 c)) (known_low t e), wrap_is 0xa0 c (low_tag_lem 0xa0 tt)) refl

  known_bound : (v : Where) (x : (naming t or inline t).Of) → (naming t or inline t).Meets x → size ((naming t or inline t).book v x) ≤ 4 * length (element_bytes (low t (element_bytes ((naming t or inline t).shape x))))
  known_bound v (inl p) m = omega (arith, element_long (low 0x04 p), element_long (low 0x30 (element_bytes (low 0x04 p))), element_long (low t (element_bytes (low 0x30 (element_bytes (low 0x04 p))))))
  known_bound v (inr os) m = let c = (listed (object t)).part.bytes os in omega (arith, objects_renders.bound (into v (low 0xa0 c)) os m, element_long (low 0xa0 c), element_long (low t (element_bytes (low 0xa0 c))))

  known_laid : (v : Where) (x : (naming t or inline t).Of) → (naming t or inline t).Meets x → (n : ℕ) → length (element_bytes (low t (element_bytes ((naming t or inline t).shape x)))) ≤ n → Laid n ((naming t or inline t).book v x)
  known_laid v (inl p) m n h = (tt, omega (arith, element_long (low 0x04 p), element_long (low 0x30 (element_bytes (low 0x04 p))), element_long (low t (element_bytes (low 0x30 (element_bytes (low 0x04 p)))))), tt)
  known_laid v (inr os) m n h = let c = (listed (object t)).part.bytes os in (tt, omega arith, objects_renders.laid _ os m n (omega (arith, element_long (low 0xa0 c), element_long (low t (element_bytes (low 0xa0 c))))))

  known_begins : (v : Where) (x : (naming t or inline t).Of) → Begins (0x0110 ∷ []) false ((naming t or inline t).book v x)
  known_begins v (inl p) = some tt
  known_begins v (inr os) = some tt

  known_tells : (u v : Where) (x y : (naming t or inline t).Of) → (naming t or inline t).Meets x → (naming t or inline t).Meets y → (naming t or inline t).book u x ≡ (naming t or inline t).book v y → x ≡ y
  known_tells u v (inl p) (inl q) m n e = ap inl (ap (λ l. drop 2 l) (ap pay_first e))
  known_tells u v (inl p) (inr os) m n e = absurd (omega (arith, ap (λ l. get_or l 1 0) (ap pay_first e)))
  known_tells u v (inr os) (inl p) m n e = absurd (omega (arith, ap (λ l. get_or l 1 0) (ap pay_first e)))
  known_tells u v (inr os) (inr ps) m n e = ap inr (objects_renders.tells _ _ os ps m n (ap (drop 1) e))

  known_moved : (v : Where) (n : ℕ) (x : (naming t or inline t).Of) → (naming t or inline t).book (v later n) x ≡ (naming t or inline t).book v x
  known_moved v n (inl p) = refl
  known_moved v n (inr os) = let c = (listed (object t)).part.bytes os in rw (moved_on objects_renders v n (length (element_bytes (low 0xa0 c)) - length c) os) refl

  -- its first record tells its tag and its form
  known_tag_lem : (v : Where) (x : (naming t or inline t).Of) → get_or (pay_first ((naming t or inline t).book v x)) 0 0 ≡ t
  known_tag_lem v (inl p) = refl
  known_tag_lem v (inr os) = refl

  known_form : (v : Where) (x : (naming t or inline t).Of) → get_or (pay_first ((naming t or inline t).book v x)) 1 0 < 2
  known_form v (inl p) = omega arith
  known_form v (inr os) = omega arith

entry_tells : (i j : Where) (x y : item.Of) → item.Meets x → item.Meets y → item.book i x ≡ item.book j y → x ≡ y
entry_tells i j (inl (t, x)) (inl (u, y)) m n e =
    subst (λ (v : ℕ). (y : (naming v or inline v).Of) → (naming v or inline v).Meets y → (k : Where) → (naming t or inline t).book (into i (low t ((one (naming t or inline t)).bytes x))) x ≡ (naming v or inline v).book k y → ◌≡◌ {A = item.Of} (inl (t, x)) (inl (v, y)))
    (sym (known_tag_lem t _ x) ∙ ap (λ l. get_or (pay_first l) 0 0) e ∙ known_tag_lem u _ y) (λ y n k e. ap {B = item.Of} (λ k. inl (t, k)) (known_tells t _ k x y m.1 n e)) y n.1 _ e
entry_tells i j (inl (t, x)) (inr y) m n e = absurd (omega (arith, known_form t (into i (low t ((one (naming t or inline t)).bytes x))) x, ap (λ l. get_or (pay_first l) 1 0) e))
entry_tells i j (inr x) (inl (u, y)) m n e = absurd (omega (arith, known_form u (into j (low u ((one (naming u or inline u)).bytes y))) y, ap (λ l. get_or (pay_first l) 1 0) e))
entry_tells i j (inr x) (inr y) m n e = ap inr (same_element x y (ap (λ l. drop 2 (pay_first l)) e))

entry_moved : (v : Where) (n : ℕ) (x : item.Of) → item.book (v later n) x ≡ item.book v x
entry_moved v n (inl (t, x)) =
    let c = (one (naming t or inline t)).bytes x in
    let k = length (element_bytes (low t c)) - length c in
    ap (λ w. (naming t or inline t).book w x) (later_on v n k) ∙ known_moved t (v on k) n x
entry_moved v n (inr x) = refl

pub entry_renders : Renders (one item) r_entry entry_look
unfolding r_entry r_entry_of
entry_renders = record {
  renders = λ v. elim [ inl (t, x) ↦ (λ m w h. known_renders t m.0 x m.1 _ w h) | inr x ↦ (λ m w h. refl) ];
  begins = λ v. elim [ inl (t, x) ↦ (λ m. known_begins t _ x) | inr x ↦ (λ m. some tt) ];
  bound = λ v. elim [ inl (t, x) ↦ (λ m. omega (arith, known_bound t (into v (low t ((one (naming t or inline t)).bytes x))) x m.1)) | inr x ↦ (λ m. omega (arith, element_long x)) ];
  laid = λ v. elim [ inl (t, x) ↦ (λ m. known_laid t _ x m.1) | inr x ↦ (λ m n h. (tt, omega arith, tt)) ];
  tells = entry_tells;
  moved = entry_moved;
}

-- whatever the records, what is rendered of them is bytes
test_clean : (t : Bool) {x y : Unit {0} → Renderer} → ((u : Unit {0}) → Outs (x u)) → ((u : Unit {0}) → Outs (y u)) → Outs (choose t x y)
test_clean true f g = f tt
test_clean false f g = g tt

inside_clean : Outs r_inside
unfolding r_inside
inside_clean = from_b (λ k p a. test_clean (eqb (get_or p 1 0) 0) (λ _ rs h. out (wrap_b 0x30 (wrap 0x04 (drop 2 p)) (omega arith) (wrap_b 0x04 (drop 2 p) (omega arith) (b_drop 2 p a))) h) (λ _. within_b 0xa0 (omega arith) ((listed_sound (object_sound 0)).lawful (objects_fine 0)).clean))

entry_clean : Outs r_entry
unfolding r_entry r_entry_of
entry_clean [] h = out tt tt
entry_clean (r ∷ rs) h = out_test (ltb (get_or r.pay 1 0) 2) (λ _. within_b (get_or r.pay 0 0) (b_get r.pay 0 h.0) inside_clean (r ∷ rs) h) (λ _. out (b_drop 2 r.pay h.0) h.1)

pub entry_lawful : LawfulCounted 128 (one item) in_entry (λ site s k. parts.element s (entry_body site s k)) r_entry entry_look (exact.look context_tag false (tags []))
entry_lawful = record { exact = entry_law; renders = entry_renders; clean = entry_clean }
