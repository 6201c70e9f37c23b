-- An element as data, and the header that is read of it.
use Rattle.std.specs.Prelude.{ℕ, suc, ◌+◌, ◌-◌, ◌*◌, ◌/◌, ◌%◌, ◌≤◌, ◌<◌, List, [], ◌∷◌, ◌++◌, Bool, true, false, not, ◌&&◌, ◌≡◌, refl, length, take, drop, ltb, eqb, T, Ok}
use Rattle.std.proofs.Common.{append_assoc, sym, ap, ◌∙◌, arith, length-append, take_at, drop_at, ltb-true, lt-ltb, le-ltb}
use Rattle.std.proofs.Math.Seq.{slice, slice_empty, length-slice}
use Rattle.std.proofs.lemmas.Bool.{eqb-false}
use Rattle.elements.specs.Choice.{pick}
use Rattle.elements.specs.ChoiceLaws.{by_pick, by_less}
use Rattle.elements.specs.Lists.{Bytes, join, Begins, begins}
use Rattle.elements.specs.Length.{shortest, wrap, sevens, tag_bytes}
use Rattle.elements.specs.Encodings.{Der, Nested}
use Rattle.elements.specs.Encodings as encodings
use Rattle.elements.specs.Header.{header}
use Rattle.elements.specs.HeaderLaws.{header_in, header_sound, header_complete}
use Rattle.elements.specs.Sealed.{sealed_run}
use Rattle.elements.specs.SealedLaws.{sealed_sound, sealed_complete}
use Rattle.rules.specs.Grammar.{Element, low, element_bytes, first_of, IsElement, SealedRun, over, shallow, deep}
use Rattle.elements.specs.Answer.{found}

-- a part that is known, and what is left of its container
pub record Parted (s : List ℕ) (at end : ℕ) (p w : List ℕ) : Type 0 where
  pub high : at + length p ≤ end
  pub this : slice at (at + length p) s ≡ p
  pub left : slice (at + length p) end s ≡ w

pub parted : (s : List ℕ) (at end : ℕ) (p w : List ℕ) → at ≤ end → end ≤ length s → slice at end s ≡ p ++ w → Parted s at end p w
parted s at end p w h l e =
    let n : end - at ≡ length p + length w = sym (length-slice at end s l) ∙ ap length e ∙ length-append p w in
    let j : slice at (at + length p) s ++ slice (at + length p) end s ≡ p ++ w = join at (at + length p) end s (omega arith) (omega arith) ∙ e in
    let k : length (slice at (at + length p) s) ≡ length p = omega (arith, length-slice at (at + length p) s (omega arith)) in
    record {
      high = omega arith;
      this = sym (take_at (slice at (at + length p) s) (slice (at + length p) end s) (length p) k) ∙ ap (take (length p)) j ∙ take_at p w (length p) refl;
      left = sym (drop_at (slice at (at + length p) s) (slice (at + length p) end s) (length p) k) ∙ ap (drop (length p)) j ∙ drop_at p w (length p) refl;
    }

-- nothing is left
pub is_end : (s : List ℕ) (n end : ℕ) → n ≤ end → end ≤ length s → slice n end s ≡ [] → n ≡ end
is_end s n end h l e = let z : end - n ≡ 0 = sym (length-slice n end s l) ∙ ap length e in omega arith

-- a tag begins with its first byte
pub record TagIs (x : Element) : Type 0 where
  pub more : List ℕ
  pub is : tag_bytes x.lead x.number ≡ first_of x ∷ more

pub tag_is : (x : Element) → TagIs x
unfolding tag_bytes
tag_is x = by_tag (ltb x.number 31) refl
  where
    by_tag : (b : Bool) → ltb x.number 31 ≡ b → TagIs x
    by_tag true e = record { more = []; is = rw e refl }
    by_tag false e = record { more = sevens x.number; is = rw e refl }

-- where the element x stands
pub record Stands (s : List ℕ) (at end : ℕ) (x : Element) (a e : ℕ) : Type 0 where
  pub is : header s at end ≡ found (first_of x) a e
  pub after : at + 2 ≤ a
  pub order : a ≤ e
  pub inside : e ≤ end
  pub whole : slice at e s ≡ element_bytes x
  pub within : slice a e s ≡ x.contents

pub record Headed (s : List ℕ) (at end t a e : ℕ) : Type 0 where
  pub x : Element
  pub element : IsElement x
  pub tag : first_of x ≡ t
  pub stands : Stands s at end x a e
  pub split : slice at end s ≡ element_bytes x ++ slice e end s

pub head_sound : (s : List ℕ) → Bytes s → (at end : ℕ) {t a e : ℕ} → end ≤ length s → header s at end ≡ found t a e → Headed s at end t a e
unfolding element_bytes
head_sound s bytes at end {t} {a} {e} l q =
    let d : Der s at end t a e = header_sound s at end bytes l q in
    let i : (at + 2 ≤ a) × (a ≤ e) × (e ≤ end) = header_in s at end q in
    let x : Element = record { lead = d.lead; number = d.number; contents = slice a e s } in
    let n : length (slice a e s) ≡ e - a = length-slice a e s (omega arith) in
    let g = tag_is x in
    let b : slice at a s ≡ first_of x ∷ (g.more ++ shortest (e - a)) = d.bytes ∙ rw g.is refl in
    let f : Begins s at a (first_of x) (g.more ++ shortest (e - a)) = begins s at a (omega arith) b in
    let z : first_of x ≡ t = sym f.first ∙ sym d.first in
    let w : slice at e s ≡ tag_bytes d.lead d.number ++ shortest (length (slice a e s)) ++ slice a e s = sym (join at a e s (omega arith) (omega arith)) ∙ rw (d.bytes, n) refl in
    record {
      x = x;
      element = record { lead_fits = d.lead_fits; number_fits = d.number_fits; some_tag = d.some };
      tag = z;
      stands = record { is = q ∙ rw z refl; after = i.0; order = i.1; inside = i.2; whole = w; within = refl };
      split = sym (join at e end s (omega arith) (omega arith)) ∙ rw w refl;
    }

pub record Placed (s : List ℕ) (at end : ℕ) (x : Element) (w : List ℕ) : Type 0 where
  pub a : ℕ
  pub e : ℕ
  pub stands : Stands s at end x a e
  pub der : Der s at end (first_of x) a e
  pub left : slice e end s ≡ w

pub head_complete : (s : List ℕ) → length s ≤ 32768 → (at end : ℕ) (x : Element) (w : List ℕ) → at ≤ end → end ≤ length s → IsElement x → slice at end s ≡ element_bytes x ++ w → Placed s at end x w
unfolding element_bytes
head_complete s small at end x w h l i q =
    let n = length x.contents in
    let p = tag_bytes x.lead x.number ++ shortest n in
    let q1 : slice at end s ≡ p ++ (x.contents ++ w) = q ∙ append_assoc p x.contents w in
    let f = parted s at end p (x.contents ++ w) h l q1 in
    let a = at + length p in
    let g = parted s a end x.contents w f.high l f.left in
    let e = a + n in
    let ge : a + n ≤ end = g.high in
    let m : e - a ≡ n = omega arith in
    let k = tag_is x in
    let b : slice at a s ≡ first_of x ∷ (k.more ++ shortest n) = f.this ∙ rw k.is refl in
    let v : Begins s at a (first_of x) (k.more ++ shortest n) = begins s at a (omega (arith, f.high)) b in
    let d : Der s at end (first_of x) a e = record {
      lead = x.lead;
      number = x.number;
      lead_fits = i.lead_fits;
      number_fits = i.number_fits;
      some = i.some_tag;
      order = omega arith;
      inside = ge;
      short = omega arith;
      first = sym v.first;
      bytes = rw m f.this;
    } in
    let r : header s at end ≡ found (first_of x) a e = header_complete s at end l d in
    let y : (at + 2 ≤ a) × (a ≤ e) × (e ≤ end) = header_in s at end r in
    record {
      a = a;
      e = e;
      stands = record { is = r; after = y.0; order = y.1; inside = y.2; whole = sym (join at a e s (omega arith) (omega arith)) ∙ rw (f.this, g.this) refl; within = g.this };
      der = d;
      left = g.left;
    }

-- sealed runs
nested_run : (s : List ℕ) → Bytes s → {l : ℕ} {out : List ℕ} {at end : ℕ} → end ≤ length s → Nested s l out at end → SealedRun l out (slice at end s)
nested_run s bytes {at = at} {end = end} k (encodings.over e) = over {c = slice at end s} (rw e (slice_empty end s))
nested_run s bytes {out = out} {at = at} {end = end} k (encodings.plain {b = b} {e = e} d m c n) =
    let v = head_sound s bytes at end k (header_complete s at end k d) in
    shallow {out = out} v.x (slice e end s) v.element (rw v.tag m) (rw v.tag c) (nested_run s bytes k n) v.split
nested_run s bytes {out = out} {at = at} {end = end} k (encodings.deep {b = b} {a = a} {e = e} d m c i n) =
    let v = head_sound s bytes at end k (header_complete s at end k d) in
    let z : a ≤ e = d.order in
    deep {out = out} v.x (slice e end s) v.element (rw v.tag m) (rw v.tag c) (rw v.stands.within at (nested_run s bytes (omega (arith, d.inside)) i)) (nested_run s bytes k n) v.split

run_nested : (s : List ℕ) → length s ≤ 32768 → {l : ℕ} {out c : List ℕ} → SealedRun l out c → (at end : ℕ) → at ≤ end → end ≤ length s → slice at end s ≡ c → Nested s l out at end
run_nested s small (over z) at end h k q = encodings.over (is_end s at end h k (q ∙ z))
run_nested s small (shallow x w i m c n z) at end h k q =
    let v = head_complete s small at end x w h k i (q ∙ z) in
    encodings.plain v.der m c (run_nested s small n v.e end v.stands.inside k v.left)
run_nested s small (deep x w i m c j n z) at end h k q =
    let v = head_complete s small at end x w h k i (q ∙ z) in
    let g : v.e ≤ length s = omega (arith, v.stands.inside) in
    encodings.deep v.der m c (run_nested s small j v.a v.e v.stands.order g v.stands.within) (run_nested s small n v.e end v.stands.inside k v.left)

pub run_sound : (s : List ℕ) → Bytes s → (l : ℕ) (out : List ℕ) (at end : ℕ) {i : ℕ} → at ≤ end → end ≤ length s → sealed_run l s out at end ≡ Ok i → SealedRun l out (slice at end s)
run_sound s bytes l out at end h k q = nested_run s bytes k (sealed_sound l s out at end bytes h k q)

pub run_complete : (s : List ℕ) → length s ≤ 32768 → (l : ℕ) (out : List ℕ) (at end : ℕ) → at ≤ end → end ≤ length s → SealedRun l out (slice at end s) → sealed_run l s out at end ≡ Ok end
run_complete s small l out at end h k r = sealed_complete k (run_nested s small r at end h k refl)

-- a tag of one byte
abbrev pub low_tag : ℕ → Bool
low_tag t = ltb t 256 && (not (eqb t 0) && not (eqb (t % 32) 31))

pub record LowTag (t : ℕ) : Type 0 where
  pub byte : t < 256
  pub some_tag : t ≡ 0 → ⊥
  pub short : t % 32 < 31

pub low_tag_lem : (t : ℕ) → T (low_tag t) → LowTag t
low_tag_lem t z = go (ltb t 256) refl (eqb t 0) refl (eqb (t % 32) 31) refl z
  where
    go : (a : Bool) → ltb t 256 ≡ a → (b : Bool) → eqb t 0 ≡ b → (c : Bool) → eqb (t % 32) 31 ≡ c → T (a && (not b && not c)) → LowTag t
    go true p false q false r z = let n = eqb-false (t % 32) 31 r in record { byte = ltb-true t 256 p; some_tag = eqb-false t 0 q; short = by_less (t % 32) 31 (λ x. x) (λ x. absurd (n (omega arith))) }
    go true p true q c r z = absurd z
    go true p false q true r z = absurd z
    go false p b q c r z = absurd z

pub low_is : (t : ℕ) (c : List ℕ) → LowTag t → IsElement (low t c)
low_is t c z = record { lead_fits = omega (arith, z.byte); number_fits = omega arith; some_tag = λ p q. z.some_tag (omega arith) }

pub low_first : (t : ℕ) (c : List ℕ) → LowTag t → first_of (low t c) ≡ t
low_first t c z = rw (lt-ltb (t % 32) 31 z.short) (omega arith)

-- the element with that first byte
pub low_bytes : (x : Element) (t : ℕ) → LowTag t → first_of x ≡ t → element_bytes (low t x.contents) ≡ element_bytes x
unfolding element_bytes
low_bytes x t z e = go (ltb x.number 31) refl e
  where
    go : (b : Bool) → ltb x.number 31 ≡ b → pick b (x.lead * 32 + x.number) (x.lead * 32 + 31) ≡ t → tag_bytes (t / 32) (t % 32) ++ shortest (length x.contents) ++ x.contents ≡ tag_bytes x.lead x.number ++ shortest (length x.contents) ++ x.contents
    go true q e = let h = ltb-true x.number 31 q in let a : t / 32 ≡ x.lead = omega arith in let b : t % 32 ≡ x.number = omega arith in rw (a, b) refl
    go false q e = absurd (let h : t % 32 < 31 = z.short in omega arith)

-- an element of a low tag, as it is written
pub wrap_is : (t : ℕ) (c : List ℕ) → LowTag t → element_bytes (low t c) ≡ wrap t c
unfolding element_bytes wrap tag_bytes
wrap_is t c z = let e : t / 32 * 32 + t % 32 ≡ t = omega arith in rw (lt-ltb (t % 32) 31 z.short, e) refl

-- the shortest length field is not empty
short_one : (n : ℕ) → 1 ≤ length (shortest n)
unfolding shortest
short_one n = by_pick (λ (l : List ℕ). 1 ≤ length l) (ltb n 128) (λ _. omega arith) (λ _.
    by_pick (λ (l : List ℕ). 1 ≤ length l) (ltb n 256) (λ _. omega arith) (λ _. omega arith))

-- an element has two bytes beside its contents
pub element_long : (x : Element) → length x.contents + 2 ≤ length (element_bytes x)
unfolding element_bytes
element_long x =
    let t = tag_is x in
    let n = length x.contents in
    let a : length (tag_bytes x.lead x.number) ≡ suc (length t.more) = ap length t.is in
    omega (arith, short_one n, length-append (tag_bytes x.lead x.number ++ shortest n) x.contents, length-append (tag_bytes x.lead x.number) (shortest n))

-- what follows the shortest length field
abbrev past : List ℕ → List ℕ
past [] = []
past (x ∷ l) = pick (ltb x 128) l (drop (x - 128) l)

past_short : (n : ℕ) (a : List ℕ) → past (shortest n ++ a) ≡ a
unfolding shortest
past_short n a = by_pick (λ (l : List ℕ). past (l ++ a) ≡ a) (ltb n 128) (λ t. rw t refl) (λ _. by_pick (λ (l : List ℕ). past (l ++ a) ≡ a) (ltb n 256) (λ _. refl) (λ _. refl))

-- a number in seven bits a byte, after bytes that came to v, and what follows it
abbrev unseven : ℕ → List ℕ → ℕ × List ℕ
unseven v [] = (v, [])
unseven v (x ∷ l) = pick (ltb x 128) (v * 128 + x, l) (unseven (v * 128 + (x - 128)) l)

unseven_sevens : (n : ℕ) (a : List ℕ) → unseven 0 (sevens n ++ a) ≡ (n, a)
unfolding sevens
unseven_sevens n a =
    let b : ltb (n % 128) 128 ≡ true = lt-ltb (n % 128) 128 (omega arith) in
    let c : ltb (128 + n / 128) 128 ≡ false = le-ltb (128 + n / 128) 128 (omega arith) in
    let d : ltb (128 + n / 128 % 128) 128 ≡ false = le-ltb (128 + n / 128 % 128) 128 (omega arith) in
    let e : ltb (128 + n / 16384) 128 ≡ false = le-ltb (128 + n / 16384) 128 (omega arith) in
    by_pick (λ (l : List ℕ). unseven 0 (l ++ a) ≡ (n, a)) (ltb n 128) (λ t. rw t (is (omega arith))) (λ _.
    by_pick (λ (l : List ℕ). unseven 0 (l ++ a) ≡ (n, a)) (ltb n 16384) (λ _. rw (c, b) (is (omega arith))) (λ _. rw (e, d, b) (is (omega arith))))
  where
    is : {k : ℕ} → k ≡ n → ◌≡◌ {A = ℕ × List ℕ} (k, a) (n, a)
    is e = rw e refl

-- a tag, and what follows it
abbrev untag : List ℕ → ℕ × (ℕ × List ℕ)
untag [] = (0, (0, []))
untag (x ∷ l) = (x / 32, pick (ltb (x % 32) 31) (x % 32, l) (unseven 0 l))

untag_tag : (k n : ℕ) (a : List ℕ) → untag (tag_bytes k n ++ a) ≡ (k, (n, a))
unfolding tag_bytes
untag_tag k n a = by_pick (λ (l : List ℕ). untag (l ++ a) ≡ (k, (n, a))) (ltb n 31)
    (λ t.
    let h = ltb-true n 31 t in
    let d : (k * 32 + n) / 32 ≡ k = omega arith in
    let m : (k * 32 + n) % 32 ≡ n = omega arith in
    rw (d, m, t) refl)
    (λ _.
    let d : (k * 32 + 31) / 32 ≡ k = omega arith in
    let m : (k * 32 + 31) % 32 ≡ 31 = omega arith in
    rw (d, m, unseven_sevens n a) refl)

untag_element : (x : Element) → untag (element_bytes x) ≡ (x.lead, (x.number, shortest (length x.contents) ++ x.contents))
unfolding element_bytes
untag_element x = rw append_assoc (untag_tag x.lead x.number (shortest (length x.contents) ++ x.contents))

-- an element is told by its bytes
pub same_element : (x y : Element) → element_bytes x ≡ element_bytes y → x ≡ y
same_element x y e =
    let g = sym (untag_element x) ∙ ap untag e ∙ untag_element y in
    let c : x.contents ≡ y.contents = sym (past_short (length x.contents) x.contents) ∙ ap (λ t. past t.1.1) g ∙ past_short (length y.contents) y.contents in
    λ i. record { lead = (g i).0; number = (g i).1.0; contents = c i }
