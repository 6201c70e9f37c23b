-- What an accepted header is: a tag of DER and the shortest length of contents that lie in the container.
use Rattle.std.specs.Prelude.{ℕ, suc, ◌+◌, ◌-◌, ◌*◌, ◌/◌, ◌%◌, ◌≤◌, ◌<◌, ◌≡◌, length, ltb, leb, eqb}
use mathlib.Core.List.{List, [], ◌∷◌, ◌++◌}
use Rattle.std.proofs.Math.Path.{refl, sym}
use Rattle.std.proofs.Common.{◌∙◌, subst}
use native.Mathlib.Omega.{arith}
use Rattle.std.proofs.Math.ListN.{get_or}
use Rattle.std.proofs.Math.Seq.{slice, length-slice}
use borrow.Author.Tests.{ltb-true, ltb-false, leb-true, leb-false, eqb-true, eqb-false, lt-ltb, le-ltb, le-leb, lt-leb, ne_eqb}
use Rattle.elements.specs.declared.fault.Fault.{Fault}
use Rattle.elements.specs.ChoiceLaws.{by_pick, by_choose, by_less}
use Rattle.elements.specs.Lists.{Bytes, join, cons, one, Begins, begins, ends}
use Rattle.elements.specs.Encodings.{Der}
use Rattle.elements.specs.Length.{shortest, wrap, sevens, tag_bytes}
use Rattle.elements.specs.Header.{fitted, long1, long2_of, long2, length_at, further, high_tag, header}
use Rattle.elements.specs.Answer.{Head, found, refused}

-- the bytes from `at` to p are a tag
record Tag (s : List ℕ) (at b p : ℕ) : Type 0 where
  pub lead : ℕ
  pub number : ℕ
  pub lead_fits : lead < 8
  pub number_fits : number < 2097152
  pub some : lead ≡ 0 → number ≡ 0 → ⊥
  pub first : b ≡ get_or s at 0
  pub bytes : slice at p s ≡ tag_bytes lead number

-- the bytes from p to q are the length n
record Len (s : List ℕ) (p q n : ℕ) : Type 0 where
  pub short : n ≤ 65535
  pub bytes : slice p q s ≡ shortest n

-- what an answer says; that it is DER needs bytes, and a container within them
data Sound (s : List ℕ) (at end : ℕ) : Head → Type 0 where
  refuses : {f : Fault} (p : ℕ) → (at ≤ end → (at ≤ p) × (p ≤ end)) → Sound s at end (refused f p)
  takes : {b : ℕ} (a e : ℕ) → (at + 2 ≤ a) × (a ≤ e) × (e ≤ end) → (Bytes s → end ≤ length s → Der s at end b a e) → Sound s at end (found b a e)

-- the bytes of tags and lengths
tag_low : (k n : ℕ) → n < 31 → tag_bytes k n ≡ (k * 32 + n) ∷ []
unfolding tag_bytes
tag_low k n h = rw (lt-ltb n 31 h) refl

tag_high : (k n : ℕ) → 31 ≤ n → tag_bytes k n ≡ (k * 32 + 31) ∷ sevens n
unfolding tag_bytes
tag_high k n h = rw (le-ltb n 31 h) refl

seven1 : (n : ℕ) → n < 128 → sevens n ≡ n ∷ []
unfolding sevens
seven1 n h = rw (lt-ltb n 128 h) refl

seven2 : (n : ℕ) → 128 ≤ n → n < 16384 → sevens n ≡ (128 + n / 128) ∷ (n % 128) ∷ []
unfolding sevens
seven2 n h g = rw (le-ltb n 128 h, lt-ltb n 16384 g) refl

seven3 : (n : ℕ) → 16384 ≤ n → sevens n ≡ (128 + n / 16384) ∷ (128 + n / 128 % 128) ∷ (n % 128) ∷ []
unfolding sevens
seven3 n h = rw (le-ltb n 128 (omega arith), le-ltb n 16384 h) refl

len1 : (n : ℕ) → n < 128 → shortest n ≡ n ∷ []
unfolding shortest
len1 n h = rw (lt-ltb n 128 h) refl

len2 : (n : ℕ) → 128 ≤ n → n < 256 → shortest n ≡ 129 ∷ n ∷ []
unfolding shortest
len2 n h g = rw (le-ltb n 128 h, lt-ltb n 256 g) refl

len3 : (n : ℕ) → 256 ≤ n → n ≤ 65535 → shortest n ≡ 130 ∷ (n / 256) ∷ (n % 256) ∷ []
unfolding shortest
len3 n h g = let d : n / 256 % 256 ≡ n / 256 = omega arith in rw (le-ltb n 128 (omega arith), le-ltb n 256 h, d) refl

module _ (s : List ℕ) (at end : ℕ) where
  here : {f : Fault} → Sound s at end (refused f at)
  here = refuses at (λ h. (omega arith, h))

  module _ (b p : ℕ) (past : at < p) (tag : Bytes s → end ≤ length s → Tag s at b p) where
    fitted_ok : (q n : ℕ) → p < q → q ≤ end → (Bytes s → end ≤ length s → Len s p q n) → Sound s at end (fitted at end b q n)
    unfolding fitted
    fitted_ok q n h g len =
        by_pick (Sound s at end) (leb n (end - q))
        (λ t.
        let l : n ≤ end - q = leb-true n (end - q) t in
        takes q (q + n) (omega arith, omega arith, omega arith) (λ c k.
        let T : Tag s at b p = tag c k in
        let L : Len s p q n = len c k in
        let m : q + n - q ≡ n = omega arith in
        record {
          lead = T.lead;
          number = T.number;
          lead_fits = T.lead_fits;
          number_fits = T.number_fits;
          some = T.some;
          order = omega arith;
          inside = omega arith;
          short = rw m L.short;
          first = T.first;
          bytes = rw m (sym (join at p q s (omega arith) (omega arith)) ∙ rw (T.bytes, L.bytes) refl);
        }))
        (λ _. here)

    length_ok : Sound s at end (length_at s at end b p)
    unfolding length_at long1 long2 long2_of
    length_ok =
        let q = p + 1 in
        let x = get_or s p 0 in
        let y = get_or s q 0 in
        let z = get_or s (q + 1) 0 in
        by_pick (Sound s at end) (leb end p) (λ _. here) λ t.
        let i : p < end = leb-false end p t in
        by_pick (Sound s at end) (ltb x 128) (λ u.
        fitted_ok q x (omega arith) (omega arith) (λ c k.
        let l : x < 128 = ltb-true x 128 u in
        record { short = omega arith; bytes = one s p (omega arith) ∙ sym (len1 x l) })) λ _.
        by_pick (Sound s at end) (eqb x 129) (λ u.
        by_pick (Sound s at end) (leb end q) (λ _. here) λ v.
        let j : q < end = leb-false end q v in
        by_pick (Sound s at end) (ltb y 128) (λ _. here) λ w.
        fitted_ok (q + 1) y (omega arith) (omega arith) (λ c k. record {
          short = omega (arith, c q);
          bytes = cons s p (q + 1) (omega arith) (omega arith) ∙ rw (one s q (omega arith), eqb-true x 129 u, len2 y (ltb-false y 128 w) (c q)) refl;
        })) λ _.
        by_pick (Sound s at end) (eqb x 130) (λ u.
        by_pick (Sound s at end) (ltb (end - q) 2) (λ _. here) λ v.
        let j : 2 ≤ end - q = ltb-false (end - q) 2 v in
        by_pick (Sound s at end) (ltb (y * 256 + z) 256) (λ _. here) λ w.
        fitted_ok (q + 2) (y * 256 + z) (omega arith) (omega arith) (λ c k. record {
          short = omega (arith, c q, c (q + 1));
          bytes =
              let r = q + 2 in
              let e : q + 1 + 1 ≡ r = omega arith in
              let f : x ≡ 130 = eqb-true x 130 u in
              let n = y * 256 + z in
              let zb : z < 256 = c (q + 1) in
              let d : n / 256 ≡ y = omega arith in
              let m : n % 256 ≡ z = omega arith in
              cc (
                cons s p r (omega arith) (omega arith),
                cons s q r (omega arith) (omega arith),
                one s (q + 1) (omega arith),
                len3 n (ltb-false n 256 w) (omega (arith, c q, c (q + 1))),
              );
        })) λ _. here

  -- a tag of low form
  low_tag_lem : at < end → (get_or s at 0 ≡ 0 → ⊥) → (get_or s at 0 % 32 ≡ 31 → ⊥) → Bytes s → end ≤ length s → Tag s at (get_or s at 0) (at + 1)
  low_tag_lem h nz low c k =
      let b = get_or s at 0 in
      let v : b < 256 = c at in
      let f : b ≡ b / 32 * 32 + b % 32 = omega arith in
      let l : b % 32 < 31 = omega arith in
      record {
        lead = b / 32;
        number = b % 32;
        lead_fits = omega arith;
        number_fits = omega arith;
        some = λ d e. nz (omega arith);
        first = refl;
        bytes = cc (one s at (omega arith), tag_low (b / 32) (b % 32) l);
      }

  -- a tag of high form
  high_tag_lem : get_or s at 0 % 32 ≡ 31 → Bytes s → end ≤ length s → (n q : ℕ) → at < q → q ≤ end → 31 ≤ n → n < 2097152 →
      slice (at + 1) q s ≡ sevens n → Tag s at (get_or s at 0) q
  high_tag_lem high c k n q i j l m e =
      let b = get_or s at 0 in
      let v : b < 256 = c at in
      let f : b ≡ b / 32 * 32 + 31 = omega arith in
      record {
        lead = b / 32;
        number = n;
        lead_fits = omega arith;
        number_fits = m;
        some = λ _ z. omega arith;
        first = refl;
        bytes = cc (cons s at q (omega arith) (omega arith), tag_high (b / 32) n l);
      }

  high_ok : at < end → get_or s at 0 % 32 ≡ 31 → Sound s at end (high_tag s at end (get_or s at 0) (at + 1))
  unfolding high_tag further
  high_ok h high =
      let b = get_or s at 0 in
      let p = at + 1 in
      let x = get_or s p 0 in
      let y = get_or s (p + 1) 0 in
      let z = get_or s (p + 1 + 1) 0 in
      by_pick (Sound s at end) (leb end p) (λ _. here) λ t.
      let i : p < end = leb-false end p t in
      by_pick (Sound s at end) (ltb x 31) (λ _. here) λ u.
      let l : 31 ≤ x = ltb-false x 31 u in
      by_pick (Sound s at end) (eqb x 128) (λ _. here) λ v.
      let ne : x ≡ 128 → ⊥ = eqb-false x 128 v in
      by_pick (Sound s at end) (leb end p) (λ _. here) λ _.
      by_choose (Sound s at end) (ltb x 128) (λ _ w.
      length_ok b (p + 1) (omega arith) (λ c k.
      let o : x < 128 = ltb-true x 128 w in
      high_tag_lem high c k x (p + 1) (omega arith) (omega arith) l (omega arith) (cc (one s p (omega arith), seven1 x o)))) λ _ w.
      let o : 128 ≤ x = ltb-false x 128 w in
      by_pick (Sound s at end) (leb end (p + 1)) (λ _. here) λ t2.
      let i2 : p + 1 < end = leb-false end (p + 1) t2 in
      by_choose (Sound s at end) (ltb y 128) (λ _ w2.
      length_ok b (p + 1 + 1) (omega arith) (λ c k.
      let o2 : y < 128 = ltb-true y 128 w2 in
      let cx : x < 256 = c p in
      let n = (x - 128) * 128 + y in
      let q = p + 1 + 1 in
      let d : 128 + n / 128 ≡ x = omega arith in
      let m : n % 128 ≡ y = omega arith in
      high_tag_lem high c k n q (omega arith) (omega arith) (omega arith) (omega arith)
      (cc (cons s p q (omega arith) (omega arith), one s (p + 1) (omega arith), seven2 n (omega arith) (omega arith))))) λ _ w2.
      let o2 : 128 ≤ y = ltb-false y 128 w2 in
      by_pick (Sound s at end) (leb end (p + 1 + 1)) (λ _. here) λ t3.
      let i3 : p + 1 + 1 < end = leb-false end (p + 1 + 1) t3 in
      by_choose (Sound s at end) (ltb z 128) (λ _ w3.
      length_ok b (p + 1 + 1 + 1) (omega arith) (λ c k.
      let o3 : z < 128 = ltb-true z 128 w3 in
      let cx : x < 256 = c p in
      let cy : y < 256 = c (p + 1) in
      let n = (x - 128) * 16384 + (y - 128) * 128 + z in
      let q = p + 1 + 1 + 1 in
      let d : 128 + n / 16384 ≡ x = omega arith in
      let g : 128 + n / 128 % 128 ≡ y = omega arith in
      let m : n % 128 ≡ z = omega arith in
      high_tag_lem high c k n q (omega arith) (omega arith) (omega arith) (omega arith)
      (cc (cons s p q (omega arith) (omega arith), cons s (p + 1) q (omega arith) (omega arith), one s (p + 1 + 1) (omega arith), seven3 n (omega arith))))) λ _ _. here

  header_ok : Sound s at end (header s at end)
  unfolding header
  header_ok =
      let b = get_or s at 0 in
      by_pick (Sound s at end) (leb end at) (λ _. refuses end (λ h. (h, omega arith))) λ t.
      let i : at < end = leb-false end at t in
      by_pick (Sound s at end) (eqb b 0) (λ _. here) λ u.
      by_pick (Sound s at end) (eqb (b % 32) 31) (λ v. high_ok i (eqb-true (b % 32) 31 v)) λ v.
      length_ok b (at + 1) (omega arith) (low_tag_lem i (eqb-false b 0 u) (eqb-false (b % 32) 31 v))

-- an accepted element lies in its container, and has a tag and a length
pub header_in : (s : List ℕ) (at end : ℕ) {b a e : ℕ} → header s at end ≡ found b a e → (at + 2 ≤ a) × (a ≤ e) × (e ≤ end)
header_in s at end {b} {a} {e} q = go (subst (Sound s at end) q (header_ok s at end))
  where
    go : Sound s at end (found b a e) → (at + 2 ≤ a) × (a ≤ e) × (e ≤ end)
    go (takes _ _ h _) = h

-- what is accepted is DER
pub header_sound : (s : List ℕ) (at end : ℕ) {b a e : ℕ} → Bytes s → end ≤ length s → header s at end ≡ found b a e → Der s at end b a e
header_sound s at end {b} {a} {e} c k q = go (subst (Sound s at end) q (header_ok s at end))
  where
    go : Sound s at end (found b a e) → Der s at end b a e
    go (takes _ _ _ d) = d c k

-- a refusal's place lies in the container
pub header_refuses : (s : List ℕ) (at end : ℕ) {f : Fault} {p : ℕ} → at ≤ end → header s at end ≡ refused f p → (at ≤ p) × (p ≤ end)
header_refuses s at end {f} {p} l q = go (subst (Sound s at end) q (header_ok s at end))
  where
    go : Sound s at end (refused f p) → (at ≤ p) × (p ≤ end)
    go (refuses _ h) = h l

-- an element of a low tag is its first byte, the shortest length and the contents
pub header_wrap : (s : List ℕ) (at end : ℕ) {b a e : ℕ} → Bytes s → end ≤ length s → header s at end ≡ found b a e → (b % 32 ≡ 31 → ⊥) → slice at e s ≡ wrap b (slice a e s)
unfolding wrap
header_wrap s at end {b} {a} {e} c k q low =
    let d : Der s at end b a e = header_sound s at end c k q in
    let i : (at + 2 ≤ a) × (a ≤ e) × (e ≤ end) = header_in s at end q in
    let n : length (slice a e s) ≡ e - a = length-slice a e s (omega arith) in
    let g : slice at a s ≡ b ∷ shortest (e - a) =
    by_less d.number 31
    (λ l.
    let h : slice at a s ≡ (d.lead * 32 + d.number) ∷ shortest (e - a) = d.bytes ∙ rw (tag_low d.lead d.number l) refl in
    let f : Begins s at a (d.lead * 32 + d.number) (shortest (e - a)) = begins s at a (omega arith) h in
    cc)
    (λ l.
    let h : slice at a s ≡ (d.lead * 32 + 31) ∷ (sevens d.number ++ shortest (e - a)) = d.bytes ∙ rw (tag_high d.lead d.number l) refl in
    let f : Begins s at a (d.lead * 32 + 31) (sevens d.number ++ shortest (e - a)) = begins s at a (omega arith) h in
    absurd (low (omega arith))) in
    sym (join at a e s (omega arith) d.order) ∙ rw (g, n, wrap) refl

module _ (s : List ℕ) (at end b : ℕ) (k : end ≤ length s) where
  fitted_is : (q n : ℕ) → q + n ≤ end → fitted at end b q n ≡ found b q (q + n)
  unfolding fitted
  fitted_is q n h = rw (le-leb n (end - q) (omega arith)) refl

  length_complete : (p q n : ℕ) → q + n ≤ end → n ≤ 65535 → slice p q s ≡ shortest n → length_at s at end b p ≡ found b q (q + n)
  unfolding length_at long1 long2 long2_of
  length_complete p q n h g e =
      by_less n 128
      (λ l.
      let f : Begins s p q n [] = begins s p q (omega arith) (e ∙ len1 n l) in
      let z : p + 1 ≡ q = omega (arith, ends s (p + 1) q (omega arith) f.rest) in
      simp (lt-leb end p (omega arith), f.first, lt-ltb n 128 l, z, fitted_is q n h))
      (λ m.
      by_less n 256
      (λ l.
      let f : Begins s p q 129 (n ∷ []) = begins s p q (omega arith) (e ∙ len2 n m l) in
      let f2 : Begins s (p + 1) q n [] = begins s (p + 1) q (omega arith) f.rest in
      let z : p + 1 + 1 ≡ q = omega (arith, ends s (p + 1 + 1) q (omega arith) f2.rest) in
      simp (lt-leb end p (omega arith), f.first, lt-leb end (p + 1) (omega arith), f2.first, le-ltb n 128 m, z, fitted_is q n h))
      (λ l.
      let f : Begins s p q 130 (n / 256 ∷ n % 256 ∷ []) = begins s p q (omega arith) (e ∙ len3 n l g) in
      let f2 : Begins s (p + 1) q (n / 256) (n % 256 ∷ []) = begins s (p + 1) q (omega arith) f.rest in
      let f3 : Begins s (p + 1 + 1) q (n % 256) [] = begins s (p + 1 + 1) q (omega arith) f2.rest in
      let z : p + 1 + 2 ≡ q = omega (arith, ends s (p + 1 + 1 + 1) q (omega arith) f3.rest) in
      let v : n / 256 * 256 + n % 256 ≡ n = omega arith in
      simp (lt-leb end p (omega arith), f.first, le-ltb (end - (p + 1)) 2 (omega arith), f2.first, f3.first, v, le-ltb n 256 l, z, fitted_is q n h)))

  -- the bytes of a tag's number: one that goes on, and the last
  goes_on : (j p x : ℕ) → p < end → get_or s p 0 ≡ x → 128 ≤ x → further (suc j) s at end b p ≡ further j s at end b (p + 1)
  unfolding further
  goes_on j p x h e l = simp (lt-leb end p h, e, le-ltb x 128 l)

  stops : (j p x : ℕ) → p < end → get_or s p 0 ≡ x → x < 128 → further (suc j) s at end b p ≡ length_at s at end b (p + 1)
  unfolding further
  stops j p x h e l = simp (lt-leb end p h, e, lt-ltb x 128 l)

  -- the number's bytes and then the length, from p on
  high_complete : (p q v n : ℕ) → q + n ≤ end → n ≤ 65535 → 31 ≤ v → v < 2097152 → slice p q s ≡ sevens v ++ shortest n → high_tag s at end b p ≡ found b q (q + n)
  unfolding high_tag
  high_complete p q v n h g l m e =
      by_less v 128
      (λ i.
      let f : Begins s p q v (shortest n) = begins s p q (omega arith) (e ∙ rw (seven1 v i) refl) in
      let o : p < end = omega arith in
      simp (lt-leb end p o, f.first, le-ltb v 31 l, ne_eqb v 128 (λ (z : v ≡ 128). omega arith), stops 2 p v o f.first i, length_complete (p + 1) q n h g f.rest))
      (λ i.
      by_less v 16384
      (λ j.
      let x = 128 + v / 128 in
      let f : Begins s p q x ((v % 128) ∷ shortest n) = begins s p q (omega arith) (e ∙ rw (seven2 v i j) refl) in
      let f2 : Begins s (p + 1) q (v % 128) (shortest n) = begins s (p + 1) q (omega arith) f.rest in
      let o : p < end = omega arith in
      simp (
        lt-leb end p o,
        f.first,
        le-ltb x 31 (omega arith),
        ne_eqb x 128 (λ (z : x ≡ 128). omega arith),
        goes_on 2 p x o f.first (omega arith),
        stops 1 (p + 1) (v % 128) (omega arith) f2.first (omega arith),
        length_complete (p + 1 + 1) q n h g f2.rest,
      ))
      (λ j.
      let x = 128 + v / 16384 in
      let y = 128 + v / 128 % 128 in
      let f : Begins s p q x (y ∷ (v % 128) ∷ shortest n) = begins s p q (omega arith) (e ∙ rw (seven3 v j) refl) in
      let f2 : Begins s (p + 1) q y ((v % 128) ∷ shortest n) = begins s (p + 1) q (omega arith) f.rest in
      let f3 : Begins s (p + 1 + 1) q (v % 128) (shortest n) = begins s (p + 1 + 1) q (omega arith) f2.rest in
      let o : p < end = omega arith in
      simp (
        lt-leb end p o,
        f.first,
        le-ltb x 31 (omega arith),
        ne_eqb x 128 (λ (z : x ≡ 128). omega arith),
        goes_on 2 p x o f.first (omega arith),
        goes_on 1 (p + 1) y (omega arith) f2.first (omega arith),
        stops 0 (p + 1 + 1) (v % 128) (omega arith) f3.first (omega arith),
        length_complete (p + 1 + 1 + 1) q n h g f3.rest,
      )))

-- and DER is accepted
pub header_complete : (s : List ℕ) (at end : ℕ) {b a e : ℕ} → end ≤ length s → Der s at end b a e → header s at end ≡ found b a e
unfolding header
header_complete s at end {b} {a} {e} k d =
    let n = e - a in
    let v = d.number in
    let w : a + n ≡ e = omega arith in
    by_less v 31
    (λ l.
    let x = d.lead * 32 + v in
    let f : Begins s at a x (shortest n) = begins s at a (omega arith) (d.bytes ∙ rw (tag_low d.lead v l) refl) in
    let nz : x ≡ 0 → ⊥ = λ z. d.some (omega arith) (omega arith) in
    let m : x % 32 ≡ v = omega arith in
    simp (
      lt-leb end at (omega arith),
      f.first,
      ne_eqb x 0 nz,
      m,
      ne_eqb v 31 (λ (z : v ≡ 31). omega arith),
      length_complete s at end x k (at + 1) a n (omega arith) d.short f.rest,
      w,
    ) (cc))
    (λ l.
    let x = d.lead * 32 + 31 in
    let f : Begins s at a x (sevens v ++ shortest n) = begins s at a (omega arith) (d.bytes ∙ rw (tag_high d.lead v l) refl) in
    let m : x % 32 ≡ 31 = omega arith in
    simp (
      lt-leb end at (omega arith),
      f.first,
      ne_eqb x 0 (λ (z : x ≡ 0). omega arith),
      m,
      high_complete s at end x k (at + 1) a v n (omega arith) d.short l d.number_fits f.rest,
      w,
    ) (cc))
