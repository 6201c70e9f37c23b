-- INTEGER: what is read is the shortest two's complement of a number, and every such encoding is read.
use Rattle.std.specs.Prelude.{ℕ, zero, suc, ◌+◌, ◌-◌, ◌*◌, ◌/◌, ◌%◌, ◌≤◌, ◌<◌, ◌≡◌, refl, Bool, true, false, ℤ, pos, negsuc, length, get_or, ltb, eqb}
use Rattle.std.proofs.Common.{sym, ap, ◌∙◌, add-zero, add-one, ltb-true, ltb-false, leb-false, eqb-true, lt-ltb, le-ltb, ne_eqb}
use mathlib.Core.List.{List, [], ◌∷◌, ◌++◌, append-nil}
use native.Mathlib.Omega.{arith}
use Rattle.std.proofs.Math.Seq.{append_snoc}
use Rattle.std.proofs.lemmas.Bool.{eqb-false, lt-leb}
use Rattle.elements.specs.Lists.{Bytes}
use Rattle.elements.specs.Choice.{pick}
use Rattle.elements.specs.ChoiceLaws.{by_pick}
use Rattle.elements.specs.Says.{Says, wrong, says, by_test, said}
use Rattle.elements.specs.declared.answer.Form.TheVariants as form
use Rattle.elements.specs.Integer.{most, least, digit, bare, big, beyond, magnitude, whole, padded, integer, spread, integer_bytes}
use Rattle.elements.specs.SpreadLaws.{spread_small, spread_more}
use Rattle.elements.specs.Encodings.{ToldAs, Encodes}
use Rattle.elements.specs.Answer.{of}

-- complementing twice, and what it keeps
twice : (n : Bool) (x : ℕ) → x < 256 → digit n (digit n x) ≡ x
twice false x h = refl
twice true x h = omega arith

fits : (n : Bool) (x : ℕ) → x < 256 → digit n x < 256
fits false x h = h
fits true x h = omega arith

-- shortest contents of a number of sign n
data Short (n : Bool) : List ℕ → Type 0 where
  single : {x : ℕ} → x < 256 → digit n x < 128 → Short n (x ∷ [])
  longer : {x y : ℕ} {l : List ℕ} → x < 256 → y < 256 → digit n x < 128 → 128 ≤ digit n x * 256 + digit n y → Short n (x ∷ y ∷ l)

-- shortest contents are read
signed : (n : Bool) (x : ℕ) (c : List ℕ) → x < 256 → digit n x < 128 → pick (ltb x 128) (magnitude false c) (magnitude true c) ≡ magnitude n c
signed false x c h k = rw (lt-ltb x 128 k)
signed true x c h k = rw (le-ltb x 128 (omega arith))

unpadded : (n : Bool) (x y : ℕ) → x < 256 → y < 256 → digit n x < 128 → 128 ≤ digit n x * 256 + digit n y → padded x y ≡ false
unfolding padded
unpadded false x y h k p q =
    by_pick (λ v. v ≡ false) (eqb x 0) (λ t. le-ltb y 128 (omega (arith, eqb-true x 0 t))) (λ _.
    by_pick (λ v. v ≡ false) (eqb x 255) (λ t. absurd (omega (arith, eqb-true x 255 t))) (λ _. refl))
unpadded true x y h k p q =
    by_pick (λ v. v ≡ false) (eqb x 0) (λ t. absurd (omega (arith, eqb-true x 0 t))) (λ _.
    by_pick (λ v. v ≡ false) (eqb x 255) (λ t. lt-leb 128 y (omega (arith, eqb-true x 255 t))) (λ _. refl))

short_read : {n : Bool} {c : List ℕ} → Short n c → integer c ≡ magnitude n c
unfolding integer whole
short_read {n} (single {x = x} h k) = signed n x (x ∷ []) h k
short_read {n} (longer {x = x} {y = y} {l = l} h i k g) =
    rw (ne_eqb (length (x ∷ y ∷ l)) 0 (omega arith), ne_eqb (length (x ∷ y ∷ l)) 1 (omega arith), unpadded n x y h i k g) (signed n x (x ∷ y ∷ l) h k)

-- after the first bytes, which came to v, the others follow
spread_big : (n : Bool) (v : ℕ) (l : List ℕ) → 1 ≤ v → Bytes l → spread n (big v (bare n l)) ≡ spread n v ++ l
unfolding big bare
spread_big n v [] h b = sym (append-nil (spread n v))
spread_big n v (y ∷ l) h b =
    let k : digit n y < 256 = fits n y (b 0) in
    let d : (v * 256 + digit n y) / 256 ≡ v = omega arith in
    let m : (v * 256 + digit n y) % 256 ≡ digit n y = omega arith in
    spread_big n (v * 256 + digit n y) l (omega arith) (λ i. b (suc i)) ∙
    rw (spread_more n (v * 256 + digit n y) (omega arith), d, m, twice n y (b 0)) (append_snoc (spread n v) y l)

-- the number that shortest contents come to has them for its encoding
short_spread : {n : Bool} {c : List ℕ} → Short n c → Bytes c → spread n (big 0 (bare n c)) ≡ c
unfolding big bare
short_spread {n} (single {x = x} h k) b = let z : 0 * 256 + digit n x ≡ digit n x = omega arith in rw (z, spread_small n (digit n x) k, twice n x h)
short_spread {n} (longer {x = x} {y = y} {l = l} h i k g) b =
    let f : digit n y < 256 = fits n y i in
    let v : (0 * 256 + digit n x) * 256 + digit n y ≡ digit n x * 256 + digit n y = omega arith in
    let d : (digit n x * 256 + digit n y) / 256 ≡ digit n x = omega arith in
    let m : (digit n x * 256 + digit n y) % 256 ≡ digit n y = omega arith in
    ap (λ w. spread n (big w (bare n l))) v ∙ spread_big n (digit n x * 256 + digit n y) l (omega arith) (λ j. b (suc (suc j))) ∙
    rw (spread_more n (digit n x * 256 + digit n y) g, d, m, spread_small n (digit n x) k, twice n x h, twice n y i)

-- w or -1 - w, its bytes, and what is told of it
abbrev of_sign : Bool → ℕ → ℤ
of_sign false w = pos w
of_sign true w = negsuc w

sign_bytes : (n : Bool) (w : ℕ) → integer_bytes (of_sign n w) ≡ spread n w
unfolding integer_bytes
sign_bytes false w = refl
sign_bytes true w = refl

sign_told : (n : Bool) (w : ℕ) → ToldAs (of_sign n w) n (least (w + beyond n) most)
sign_told false w = (refl, rw add-zero refl)
sign_told true w = (refl, rw add-one refl)

-- contents that are read are shortest, and of the sign told
short_whole : (c : List ℕ) → Bytes c → {n : Bool} → Short n c → Says (Encodes form.Integer c) (magnitude n c)
unfolding magnitude
short_whole c b {n} h =
    let w : ℕ = big 0 (bare n c) in
    says {n = n} {m = least (w + beyond n) most} (record { worth = of_sign n w; proper = tt; bytes = sym (sign_bytes n w ∙ short_spread h b); told = sign_told n w })

of_sign_lem : (c : List ℕ) → Bytes c → ((n : Bool) → digit n (get_or c 0 0) < 128 → Short n c) → Says (Encodes form.Integer c) (whole c)
unfolding whole
of_sign_lem c b f =
    by_test (ltb (get_or c 0 0) 128) (λ t. short_whole c b (f false (ltb-true (get_or c 0 0) 128 t)))
    (λ t. short_whole c b (f true (let l = b 0 in let z : 255 - get_or c 0 0 < 128 = omega (arith, ltb-false (get_or c 0 0) 128 t) in z)))

-- where the first byte could not be left out
kept : (n : Bool) (x y : ℕ) → x < 256 → digit n x < 128 → y < 256 → padded x y ≡ false → 128 ≤ digit n x * 256 + digit n y
unfolding padded
kept false x y i h k p = go (eqb x 0) refl
  where
    go : (t : Bool) → eqb x 0 ≡ t → 128 ≤ x * 256 + y
    go true e = omega (arith, ltb-false y 128 (rw e at p))
    go false e = omega (arith, eqb-false x 0 e)
kept true x y i h k p = go (eqb x 255) refl
  where
    go : (t : Bool) → eqb x 255 ≡ t → 128 ≤ (255 - x) * 256 + (255 - y)
    go true e = omega (arith, leb-false 128 y (rw (ne_eqb x 0 (λ z. absurd (omega arith)), e) at p))
    go false e = omega (arith, eqb-false x 255 e)

integer_says : (c : List ℕ) → Bytes c → Says (Encodes form.Integer c) (integer c)
unfolding integer
integer_says [] b = wrong
integer_says (x ∷ []) b = of_sign_lem (x ∷ []) b (λ n h. single (b 0) h)
integer_says (x ∷ y ∷ l) b =
    rw (ne_eqb (length (x ∷ y ∷ l)) 0 (omega arith), ne_eqb (length (x ∷ y ∷ l)) 1 (omega arith))
    (by_test (padded x y) (λ _. wrong) (λ t. of_sign_lem (x ∷ y ∷ l) b (λ n h. longer (b 0) (b 1) h (kept n x y (b 0) h (b 1) t))))

-- contents that are read as an INTEGER are the shortest two's complement of the number told
pub integer_sound : (c : List ℕ) → Bytes c → {n : Bool} {m : ℕ} → integer c ≡ of n m → Encodes form.Integer c n m
integer_sound c b e = said (integer_says c b) e

-- the way back
bare_snoc : (n : Bool) (l : List ℕ) (a : ℕ) → bare n (l ++ (a ∷ [])) ≡ bare n l ++ (digit n a ∷ [])
unfolding bare
bare_snoc n [] a = refl
bare_snoc n (x ∷ l) a = rw (bare_snoc n l a)

big_snoc : (v : ℕ) (l : List ℕ) (a : ℕ) → big v (l ++ (a ∷ [])) ≡ big v l * 256 + a
unfolding big
big_snoc v [] a = refl
big_snoc v (x ∷ l) a = big_snoc (v * 256 + x) l a

come : (n : Bool) (l : List ℕ) (a : ℕ) → a < 256 → big 0 (bare n (l ++ (digit n a ∷ []))) ≡ big 0 (bare n l) * 256 + a
come n l a h = rw (bare_snoc n l (digit n a), big_snoc 0 (bare n l) (digit n (digit n a)), twice n a h)

short_more : {n : Bool} {l : List ℕ} (a : ℕ) → Short n l → a < 256 → 128 ≤ big 0 (bare n l) * 256 + a → Short n (l ++ (digit n a ∷ []))
unfolding bare big
short_more {n} a (single {x = x} h k) g m = longer h (fits n a g) k (rw (twice n a g) (omega arith))
short_more {n} a (longer h i k j) g m = longer h i k j

record Spread (n : Bool) (w : ℕ) : Type 0 where
  short : Short n (spread n w)
  comes : big 0 (bare n (spread n w)) ≡ w

module _ (n : Bool) (w : ℕ) where
  few : w < 128 → Spread n w
  unfolding bare big
  few h =
      let e : spread n w ≡ digit n w ∷ [] = spread_small n w h in
      let f : w < 256 = omega arith in
      record { short = rw e (single (fits n w f) (rw (twice n w f) h)); comes = rw (e, twice n w f) (omega arith) }

  many : 128 ≤ w → Spread n (w / 256) → Spread n w
  many h r =
      let e : spread n w ≡ spread n (w / 256) ++ (digit n (w % 256) ∷ []) = spread_more n w h in
      let f : w % 256 < 256 = omega arith in
      let g : big 0 (bare n (spread n (w / 256))) * 256 + w % 256 ≡ w = rw r.comes (omega arith) in
      record { short = rw e (short_more (w % 256) r.short f (rw g h)); comes = rw e (come n (spread n (w / 256)) (w % 256) f ∙ g) }

spread_is : (n : Bool) (k w : ℕ) → w ≤ k → Spread n w
spread_is n zero w l = few n w (omega arith)
spread_is n (suc k) w l = go (ltb w 128) refl (spread_is n k (w / 256))
  where
    go : (t : Bool) → ltb w 128 ≡ t → (w / 256 ≤ k → Spread n (w / 256)) → Spread n w
    go true e r = few n w (ltb-true w 128 e)
    go false e r = many n w (ltb-false w 128 e) (r (omega (arith, ltb-false w 128 e)))

spread_read : (n : Bool) (w : ℕ) → integer (spread n w) ≡ of n (least (w + beyond n) most)
unfolding magnitude
spread_read n w = let r : Spread n w = spread_is n w w (omega arith) in rw (short_read r.short, r.comes)

-- every shortest two's complement is read, and as its number
pub integer_complete : (z : ℤ) {n : Bool} {m : ℕ} → ToldAs z n m → integer (integer_bytes z) ≡ of n m
unfolding integer_bytes
integer_complete (pos w) t = rw (t.0, t.1) (rw add-zero at (spread_read false w))
integer_complete (negsuc w) t = rw (t.0, t.1) (rw add-one at (spread_read true w))
