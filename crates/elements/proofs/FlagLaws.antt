-- Named bits: what is read is the encoding of a flag word, and every such encoding is read.
use Rattle.std.specs.Prelude.{ℕ, zero, suc, ◌+◌, ◌-◌, ◌*◌, ◌/◌, ◌%◌, ◌^◌, ◌≤◌, ◌<◌, ◌≡◌, refl, List, [], ◌∷◌, Bool, true, false, ◌&&◌, length, get_or, ltb, leb, eqb, T}
use Rattle.std.proofs.Common.{sym, ap, ◌∙◌, arith, pow-add, eqb→eq, ltb-true, ltb-false, leb-true, eqb-true, lt-ltb, le-ltb, le-leb, ne_eqb}
use Rattle.std.proofs.Math.Nat.{pow-succ', pow-le-pow_right}
use Rattle.std.specs.Int.Count.{count_leading_zeros, leading_unique}
use Rattle.std.proofs.lemmas.Nat.{leading_top}
use Rattle.std.proofs.lemmas.Bool.{eqb-false}
use Rattle.elements.specs.Lists.{Bytes}
use Rattle.elements.specs.ChoiceLaws.{all_both, both_true}
use Rattle.elements.specs.Says.{Says, wrong, says, by_test, said}
use Rattle.elements.specs.Bits.{reversed, weigh, bits_of, bits, width, flag_run, flag_bytes}
use Rattle.elements.specs.declared.answer.Form.TheVariants as form
use Rattle.elements.specs.Encodings.{Encodes}
use Rattle.elements.specs.ToldLaws.{least_is}
use Rattle.elements.specs.BitsLaws.{reversed_small}
use Rattle.elements.specs.Answer.{of}

-- tests that are computed for every number below n
abbrev every : ℕ → (ℕ → Bool) → Bool
every zero p = true
every (suc n) p = p n && every n p

at : (n : ℕ) (p : ℕ → Bool) → T (every n p) → (i : ℕ) → i < n → T (p i)
at zero p t i h = absurd (omega arith)
at (suc n) p t i h = go (at n p (all_both (p n) (every n p) t).1 i) (eqb i n) refl
  where
    go : (i < n → T (p i)) → (b : Bool) → eqb i n ≡ b → T (p i)
    go ih true e = rw (eqb-true i n e) (all_both (p n) (every n p) t).0
    go ih false e = ih (omega (arith, eqb-false i n e))

same : Bool → Bool → Bool
same true b = b
same false true = false
same false false = true

same_is : (a b : Bool) → T (same a b) → a ≡ b
unfolding same
same_is true true t = refl
same_is true false t = absurd t
same_is false true t = absurd t
same_is false false t = refl

-- a last byte b with u bits unused: they are zero, and the bit before them is not
abbrev closes : ℕ → ℕ → Bool
closes u b = eqb (b % 2 ^ u) 0 && eqb (b / 2 ^ u % 2) 1

-- the highest bit of w is bit e
abbrev topped : ℕ → ℕ → Bool
topped e w = leb (2 ^ e) w && ltb w (2 * 2 ^ e)

-- in the other order, the last bit in use is the highest
turned : ℕ → ℕ → Bool
turned u b = eqb (reversed (reversed b)) b && same (closes u b) (topped (7 - u) (reversed b))

turned_at : ℕ → Bool
turned_at u = every 256 (turned u)

all_turned : T (every 8 turned_at)
unfolding turned turned_at reversed same
all_turned = tt

module _ (u b : ℕ) (h : u < 8) (k : b < 256) where
  table : T (turned u b)
  unfolding turned_at
  table = at 256 (turned u) (at 8 turned_at all_turned u h) b k

  reversed_closes : closes u b ≡ topped (7 - u) (reversed b)
  unfolding turned
  reversed_closes = same_is (closes u b) (topped (7 - u) (reversed b)) (all_both (eqb (reversed (reversed b)) b) (same (closes u b) (topped (7 - u) (reversed b))) table).1

twice : (b : ℕ) → b < 256 → reversed (reversed b) ≡ b
unfolding turned
twice b k = eqb→eq (reversed (reversed b)) b (all_both (eqb (reversed (reversed b)) b) (same (closes 0 b) (topped (7 - 0) (reversed b))) (table 0 b (omega arith) k)).0

-- the highest bit of w is bit e
record Top (e w : ℕ) : Type 0 where
  from : 2 ^ e ≤ w
  to : w < 2 * 2 ^ e

both : {a b : Bool} → a ≡ true → b ≡ true → (a && b) ≡ true
both p q = rw (p, q)

top_of : (e w : ℕ) → topped e w ≡ true → Top e w
top_of e w t =
    let b = both_true (leb (2 ^ e) w) (ltb w (2 * 2 ^ e)) t in
    record { from = leb-true (2 ^ e) w b.0; to = ltb-true w (2 * 2 ^ e) b.1 }

top_topped : {e w : ℕ} → Top e w → topped e w ≡ true
top_topped {e} {w} t = both (le-leb (2 ^ e) w t.from) (lt-ltb w (2 * 2 ^ e) t.to)

-- eight bits higher
eight : (e : ℕ) → 2 ^ (8 + e) ≡ 256 * 2 ^ e
eight e = pow-add 2 8 e

-- bytes of which the last closes have its last bit in use for their highest
weigh_top : (u x : ℕ) (l : List ℕ) → u < 8 → Bytes (x ∷ l) → closes u (get_or (x ∷ l) (length l) 0) ≡ true → (e : ℕ) → e + u + 1 ≡ 8 * length (x ∷ l) → Top e (weigh (x ∷ l))
unfolding weigh
weigh_top u x [] h b c e q =
    let f : 7 - u ≡ e = omega arith in
    let w : reversed x + 256 * 0 ≡ reversed x = omega arith in
    rw w (top_of e (reversed x) (rw (reversed_closes u x h (b 0), f) at c))
weigh_top u x (y ∷ l) h b c e q =
    let t = weigh_top u y l h (λ i. b (suc i)) c (e - 8) (omega arith) in
    let p : 2 ^ e ≡ 256 * 2 ^ (e - 8) = ap (λ k. 2 ^ k) (let z : e ≡ 8 + (e - 8) = omega arith in z) ∙ eight (e - 8) in
    record { from = rw p (omega (arith, t.from)); to = rw p (omega (arith, t.to, reversed_small x)) }

-- the way back from such bytes
run_weigh : (l : List ℕ) → Bytes l → flag_run (length l) (weigh l) ≡ l
unfolding flag_run weigh
run_weigh [] b = refl
run_weigh (x ∷ l) b =
    let m : (reversed x + 256 * weigh l) % 256 ≡ reversed x = omega (arith, reversed_small x) in
    let d : (reversed x + 256 * weigh l) / 256 ≡ weigh l = omega (arith, reversed_small x) in
    rw (m, d, twice x (b 0), run_weigh l (λ i. b (suc i)))

low_pow : (i j : ℕ) → i ≤ j → 2 ^ i ≤ 2 ^ j
low_pow i j h = pow-le-pow_right (omega arith) {i = i} {j = j} h

two_pow : (e : ℕ) → 2 ^ suc e ≡ 2 * 2 ^ e
two_pow e = pow-succ' 2 e

width_is : (e w : ℕ) → e < 32 → Top e w → width w ≡ suc e
unfolding width
width_is e w h t =
    let z : 31 - e ≡ count_leading_zeros 32 w = leading_unique 32 w (31 - e) (suc e) (omega arith) (rw (two_pow e) t.to) (rw (two_pow e) (omega (arith, t.from))) in
    rw (← z) (omega arith)

-- so many bytes, of which the last leaves u bits unused, and the highest bit is the last in use
flags_are : (u k e w : ℕ) → u < 8 → e + u + 1 ≡ 8 * k → e < 32 → Top e w → flag_bytes w ≡ u ∷ flag_run k w
unfolding flag_bytes
flags_are u k e w h q l t =
    let p : (suc e + 7) / 8 ≡ k = omega arith in
    let r : k * 8 - suc e ≡ u = omega arith in
    rw (width_is e w l t, p, r)

closed : (u x : ℕ) (l : List ℕ) → u < 8 → Bytes (x ∷ l) → closes u (get_or (x ∷ l) (length l) 0) ≡ true → 8 * length (x ∷ l) - u ≤ 32 → Encodes form.Bits (u ∷ x ∷ l) false (weigh (x ∷ l))
closed u x l h b c k =
    let e : ℕ = 8 * length (x ∷ l) - u - 1 in
    let q : e + u + 1 ≡ 8 * length (x ∷ l) = omega arith in
    let t : Top e (weigh (x ∷ l)) = weigh_top u x l h b c e q in
    let p : 2 ^ e ≤ 2 ^ 31 = low_pow e 31 (omega arith) in
    let f : weigh (x ∷ l) < 2 ^ 32 = omega (arith, t.to) in
    record { worth = weigh (x ∷ l); proper = f; bytes = sym (flags_are u (length (x ∷ l)) e (weigh (x ∷ l)) h q (omega arith) t ∙ ap (λ l. u ∷ l) (run_weigh (x ∷ l) b)); told = (refl, sym (least_is (weigh (x ∷ l)) f)) }

-- "none set is 03 01 00"
none_set : flag_bytes 0 ≡ 0 ∷ []
unfolding flag_bytes flag_run width count_leading_zeros
none_set = refl

last_at : (u x : ℕ) (l : List ℕ) → get_or (u ∷ x ∷ l) (length (u ∷ x ∷ l) - 1) 0 ≡ get_or (x ∷ l) (length l) 0
last_at u x l = ap (λ i. get_or (u ∷ x ∷ l) i 0) (let z : length (u ∷ x ∷ l) - 1 ≡ suc (length l) = omega arith in z)

bits_says : (c : List ℕ) → Bytes c → Says (Encodes form.Bits c) (bits c)
unfolding bits bits_of
bits_says [] b = wrong
bits_says (u ∷ []) b = by_test (ltb 7 u) (λ _. wrong) (λ _. by_test (eqb u 0) (λ t. says {n = false} {m = 0} (record { worth = 0; proper = omega arith; bytes = rw (eqb-true u 0 t) (sym none_set); told = (refl, refl) })) (λ _. wrong))
bits_says (u ∷ x ∷ l) b =
    rw (ne_eqb (length (u ∷ x ∷ l)) 0 (omega arith), ne_eqb (length (u ∷ x ∷ l)) 1 (omega arith), last_at u x l)
    (by_test (ltb 7 u) (λ _. wrong) (λ s.
    by_test (eqb (get_or (x ∷ l) (length l) 0 % 2 ^ u) 0) (λ p.
    by_test (eqb (get_or (x ∷ l) (length l) 0 / 2 ^ u % 2) 1) (λ q.
    by_test (leb ((length (u ∷ x ∷ l) - 1) * 8 - u) 32) (λ r. says {n = false} {m = weigh (x ∷ l)} (closed u x l (omega (arith, ltb-false 7 u s)) (λ i. b (suc i)) (both p q) (omega (arith, leb-true ((length (u ∷ x ∷ l) - 1) * 8 - u) 32 r)))) (λ _. wrong))
    (λ _. wrong)) (λ _. wrong)))

-- contents that are read as named bits are the encoding of the flag word told
pub bits_sound : (c : List ℕ) → Bytes c → {n : Bool} {m : ℕ} → bits c ≡ of n m → Encodes form.Bits c n m
bits_sound c b e = said (bits_says c b) e

run_length : (k w : ℕ) → length (flag_run k w) ≡ k
unfolding flag_run
run_length zero w = refl
run_length (suc k) w = ap suc (run_length k (w / 256))

record Back (u k w : ℕ) : Type 0 where
  weighs : weigh (flag_run (suc k) w) ≡ w
  ends : closes u (get_or (flag_run (suc k) w) k 0) ≡ true

run_back : (k u e w : ℕ) → u < 8 → e + u + 1 ≡ 8 * suc k → Top e w → Back u k w
unfolding flag_run weigh
run_back zero u e w h q t =
    let f : 7 - u ≡ e = omega arith in
    let p : 2 ^ e ≤ 2 ^ 7 = low_pow e 7 (omega arith) in
    let l : w < 256 = omega (arith, t.to) in
    let m : w % 256 ≡ w = omega arith in
    record { weighs = rw (m, twice w l) (omega arith); ends = rw (m, reversed_closes u (reversed w) h (reversed_small w), twice w l, f) (top_topped t) }
run_back (suc k) u e w h q t =
    let p : 2 ^ e ≡ 256 * 2 ^ (e - 8) = ap (λ k. 2 ^ k) (let z : e ≡ 8 + (e - 8) = omega arith in z) ∙ eight (e - 8) in
    let r = run_back k u (e - 8) (w / 256) h (omega arith) (record { from = omega (arith, t.from); to = omega (arith, t.to) }) in
    record { weighs = rw (r.weighs, twice (w % 256) (omega arith)) (omega arith); ends = r.ends }

read_closed : (u x : ℕ) (l : List ℕ) → u < 8 → closes u (get_or (x ∷ l) (length l) 0) ≡ true → length l ≤ 3 → bits (u ∷ x ∷ l) ≡ of false (weigh (x ∷ l))
unfolding bits bits_of
read_closed u x l h c k =
    let b = both_true (eqb (get_or (x ∷ l) (length l) 0 % 2 ^ u) 0) (eqb (get_or (x ∷ l) (length l) 0 / 2 ^ u % 2) 1) c in
    rw (ne_eqb (length (u ∷ x ∷ l)) 0 (omega arith), le-ltb 7 u (omega arith), ne_eqb (length (u ∷ x ∷ l)) 1 (omega arith), last_at u x l, b.0, b.1, le-leb ((length (u ∷ x ∷ l) - 1) * 8 - u) 32 (omega arith))

top_read : (j w : ℕ) → j < 32 → Top j w → bits (flag_bytes w) ≡ of false w
unfolding flag_run
top_read j w h t =
    let u : ℕ = 7 - j % 8 in
    let q : j + u + 1 ≡ 8 * suc (j / 8) = omega arith in
    let r : Back u (j / 8) w = run_back (j / 8) u j w (omega arith) q t in
    let n : length (flag_run (j / 8) (w / 256)) ≡ j / 8 = run_length (j / 8) (w / 256) in
    rw (flags_are u (suc (j / 8)) j w (omega arith) q h t)
    (read_closed u (reversed (w % 256)) (flag_run (j / 8) (w / 256)) (omega arith) (rw n r.ends) (omega arith) ∙ ap (λ m. of false m) r.weighs)

-- the encoding of every flag word is read, and as that word
pub bits_complete : (m : ℕ) → m < 2 ^ 32 → bits (flag_bytes m) ≡ of false m
unfolding bits
bits_complete zero h = rw none_set
bits_complete (suc w) h =
    let t = leading_top 32 (suc w) (omega arith) h in
    top_read t.0 (suc w) (omega (arith, t.1)) (record { from = t.2; to = rw (two_pow t.0) at t.3 })
