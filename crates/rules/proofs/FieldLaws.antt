-- The components of a table are read as they are, and only so.
use Rattle.std.specs.Prelude.{ℕ, ◌^◌, ◌≤◌, ◌<◌, Bool, true, false, ◌&&◌, ◌≡◌, ℤ, pos, negsuc, nat_abs, length, T, Err, Ok}
use mathlib.Core.List.{List, [], ◌∷◌}
use Rattle.std.proofs.Math.Path.{refl}
use Rattle.std.proofs.Common.{sym, ap, ◌∙◌, ne_eqb}
use native.Mathlib.Omega.{arith}
use Rattle.std.proofs.Math.Seq.{slice}
use Rattle.std.proofs.lemmas.Bool.{eqb-false}
use Rattle.elements.specs.declared.fault.Fault.{Fault}
use Rattle.elements.specs.declared.answer.Form.{Form}
use Rattle.elements.specs.declared.answer.Form.TheVariants as form
use Rattle.elements.specs.ChoiceLaws.{by_choose}
use Rattle.elements.specs.Lists.{Bytes}
use Rattle.elements.specs.Put.{le32}
use Rattle.elements.specs.Integer.{signed}
use Rattle.elements.specs.Values.{value}
use Rattle.elements.specs.Encodings.{Worth, contents_of, tells, negative, Encodes}
use Rattle.elements.specs.ToldLaws.{least_is, told_exact}
use Rattle.elements.proofs.ValueLaws.{value_sound, value_complete}
use Rattle.rules.specs.declared.table.Need.{Need}
use Rattle.rules.specs.declared.table.Need.TheVariants.{Required, Optional, Default}
use Rattle.rules.specs.declared.table.Row.{Row}
use Rattle.rules.specs.Reading.{rec, took, twos}
use Rattle.rules.specs.Parts.{Val, good, wrong, is_default, in_bounds, sized, payload, judged, valued, row_body, components}
use Rattle.rules.specs.ValueLaws.{bytes_slice}
use Rattle.rules.specs.FaultLaws.{of_reading, value_fault}
use Rattle.rules.specs.TestLaws.{and_left, and_right}
use Rattle.rules.specs.Grammar.{Site, pay_of, NotDefault, Within, Fine, field, fields}
use Rattle.rules.specs.BoundLaws.{bounds, within_bounds, signed_is, bounds_fit, within_fits, abs_small, signed_small}
use Rattle.rules.specs.Faces.{row_tags, rows_clear}
use Rattle.rules.specs.GrammarLaws.{close, Reads, refuses, Plain, PlainBody, clear, seq, none_law, low_tag, low_tag_lem, slot_look, whole_reads, whole_goes, component_law}
use Rattle.elements.specs.Answer.{Value}

-- what contents come to
data Judged (f : Form) (r : Row) (c : List ℕ) : Val → Type 0 where
  bad : {x : Fault} → T (of_reading x) → Judged f r c (wrong x)
  fine : {p : List ℕ} (v : Worth f) → Fine f r v → c ≡ contents_of f v → p ≡ pay_of f v → Judged f r c (good p)

not_default : (d : Need) (z : ℤ) {n : Bool} (m : ℕ) → n ≡ negative z → z ≡ signed n m → is_default d n m ≡ false → NotDefault d z
not_default Required z m s q e = tt
not_default Optional z m s q e = tt
not_default (Default d) z m s q e = λ p. eqb-false m d (rw (s ∙ ap negative p) at e) (ap nat_abs (sym (rw (s ∙ ap negative p) at q) ∙ p))

default_not : (d : Need) (z : ℤ) → NotDefault d z → is_default d (negative z) (nat_abs z) ≡ false
default_not Required z e = refl
default_not Optional z e = refl
default_not (Default d) (pos m) e = ne_eqb m d (λ q. e (ap pos q))
default_not (Default d) (negsuc w) e = refl

-- where what was told is in bounds, it is what is to tell
told_within : (f : Form) (r : Row) {c : List ℕ} {n : Bool} {m : ℕ} → T (bounds_fit r) → (w : Encodes f c n m) → in_bounds r n m ≡ true → (tells f w.worth ≡ signed n m) × Within r (tells f w.worth)
told_within f r {c} {n} {m} t w b =
    let k = bounds r n m b in
    let z : tells f w.worth ≡ signed n m = told_exact (tells f w.worth) w.told (signed_small n m (within_fits r t (signed n m) k)) in
    (z, rw z k)

judges_size : (f : Form) (r : Row) (c : List ℕ) {n : Bool} {m : ℕ} → T (bounds_fit r) → (w : Encodes f c n m) → (Within r (tells f w.worth) → Judged f r c (good c)) → Judged f r c (sized r c n m)
judges_size f r c {n} {m} t w g = by_choose (Judged f r c) (in_bounds r n m) (λ _ b. g (told_within f r t w b).1) (λ _ _. bad tt)

judges : (f : Form) (r : Row) (c : List ℕ) (n : Bool) (m : ℕ) → T (bounds_fit r) → Encodes f c n m → Judged f r c (payload f r c n m)
unfolding payload
judges form.Integer r c n m t w =
    by_choose (Judged form.Integer r c) (is_default r.need n m) (λ _ _. bad tt) (λ _ d.
    by_choose (Judged form.Integer r c) (in_bounds r n m) (λ _ b.
    let k = told_within form.Integer r t w b in
    fine {p = le32 (twos (signed n m))} w.worth (tt, (k.1, not_default r.need w.worth m w.told.0 k.0 d)) w.bytes (rw k.0 refl)) (λ _ _. bad tt))
judges form.Boolean r c n m t w =
    by_choose (Judged form.Boolean r c) (is_default r.need n m) (λ _ _. bad tt) (λ _ d.
    let z : m ≡ w.worth = w.told.1 ∙ least_is w.worth (omega (arith, w.proper)) in
    fine {p = m ∷ []} w.worth (w.proper, not_default r.need (pos w.worth) m w.told.0 (rw (w.told.0, z) refl) d) w.bytes (rw z refl))
judges form.Bits r c n m t w = let z : m ≡ w.worth = w.told.1 ∙ least_is w.worth w.proper in fine {p = le32 m} w.worth (w.proper, tt) w.bytes (rw z refl)
judges form.Null r c n m t w = fine {p = c} tt (tt, tt) w.bytes w.bytes
judges form.Octets r c n m t w = judges_size form.Octets r c t w (λ b. fine w.worth (tt, b) w.bytes w.bytes)
judges form.Text r c n m t w = judges_size form.Text r c t w (λ b. fine w.worth (w.proper, b) w.bytes w.bytes)
judges form.Time r c n m t w = fine {p = c} w.worth (w.proper, tt) w.bytes w.bytes

-- and back: a value is encoded, and comes to its payload
small_tells : (f : Form) (r : Row) → T (bounds_fit r) → (v : Worth f) → Fine f r v → nat_abs (tells f v) < 2 ^ 32
small_tells form.Boolean r t v w = omega (arith, w.0)
small_tells form.Integer r t v w = omega (arith, abs_small v (within_fits r t v w.1.0))
small_tells form.Bits r t v w = w.0
small_tells form.Null r t v w = omega arith
small_tells form.Text r t v w = omega (arith, abs_small (pos (length v)) (within_fits r t (pos (length v)) w.1))
small_tells form.Time r t v w = omega arith
small_tells form.Octets r t v w = omega (arith, abs_small (pos (length v)) (within_fits r t (pos (length v)) w.1))

encoding : (f : Form) (r : Row) → T (bounds_fit r) → (v : Worth f) → Fine f r v → Encodes f (contents_of f v) (negative (tells f v)) (nat_abs (tells f v))
encoding f r t v w = record { worth = v; proper = w.0; bytes = refl; told = (refl, sym (least_is (nat_abs (tells f v)) (small_tells f r t v w))) }

pays : (f : Form) (r : Row) (v : Worth f) → Fine f r v → payload f r (contents_of f v) (negative (tells f v)) (nat_abs (tells f v)) ≡ good (pay_of f v)
unfolding payload
pays form.Integer r v w = rw (default_not r.need v w.1.1, within_bounds r v w.1.0, signed_is v) refl
pays form.Boolean r v w = rw (default_not r.need (pos v) w.1) refl
pays form.Bits r v w = refl
pays form.Null r v w = refl
pays form.Octets r v w = rw (within_bounds r (pos (length v)) w.1) refl
pays form.Text r v w = rw (within_bounds r (pos (length v)) w.1) refl
pays form.Time r v w = refl

module _ (site : Site) (s : List ℕ) (bytes : Bytes s) (small : length s ≤ 32768) where
  valued_reads : (r : Row) (at a e : ℕ) → at ≤ length s → a ≤ e → {v : Val} → Judged r.form r (slice a e s) v → Reads site s (field r) (λ _. 0) 0 0 close e a (valued r at e v)
  valued_reads r at a e o h (bad t) = refuses at (o, t)
  valued_reads r at a e o h (fine {p = p} v w q z) = whole_reads (field r) (rec r.kind p ∷ []) v w h q (rw z refl)

  row_sound : (r : Row) → T (bounds_fit r) → (at a e : ℕ) → at ≤ a → a ≤ e → e ≤ length s → Reads site s (field r) (λ _. 0) 0 0 close e a (row_body s r at a e)
  unfolding row_body
  row_sound r m at a e i h l = go (value r.form (slice a e s)) refl
    where
      go : (v : Value) → value r.form (slice a e s) ≡ v → Reads site s (field r) (λ _. 0) 0 0 close e a (valued r at e (judged r (slice a e s) v))
      go (Err f) q = refuses at (omega arith, value_fault r.form (slice a e s) q)
      go (Ok x1) q = valued_reads r at a e (omega arith) h (judges r.form r (slice a e s) x1.0 x1.1 m (value_sound r.form (slice a e s) (bytes_slice a e s bytes) q))

  row_complete : (r : Row) → T (bounds_fit r) → (at a e : ℕ) → a ≤ e → (v : Worth r.form) → Fine r.form r v → slice a e s ≡ contents_of r.form v → row_body s r at a e ≡ took (rec r.kind (pay_of r.form v) ∷ []) [] e
  unfolding row_body
  row_complete r m at a e h v w q = rw (q, value_complete r.form (contents_of r.form v) (encoding r.form r m v w), pays r.form r v w) refl

  row_law : (r : Row) → T (bounds_fit r) → PlainBody site s (row_body s r) (field r)
  row_law r m = record {
    sound = row_sound r m;
    complete = λ at a e _ h l v w _ q. whole_goes h (row_complete r m at a e h v w q);
  }

  pub fields_law : (rs : List Row) → T (rows_clear rs) → Plain site s (components s rs) (fields rs) (row_tags rs)
  unfolding components
  fields_law [] t = none_law site s
  fields_law (r ∷ rs) t =
      let a = and_left (low_tag r.tag && bounds_fit r) (clear (row_tags rs).first (slot_look r.need r.tag).stop && rows_clear rs) t in
      let b = and_right (low_tag r.tag && bounds_fit r) (clear (row_tags rs).first (slot_look r.need r.tag).stop && rows_clear rs) t in
      seq (component_law site s bytes small r.tag (low_tag_lem r.tag (and_left (low_tag r.tag) (bounds_fit r) a)) (row_law r (and_right (low_tag r.tag) (bounds_fit r) a)) r.need)
      (fields_law rs (and_right (clear (row_tags rs).first (slot_look r.need r.tag).stop) (rows_clear rs) b))
      (and_left (clear (row_tags rs).first (slot_look r.need r.tag).stop) (rows_clear rs) b)
