-- "At one element the order is 61 to 68": when a bit string is 63, and when 64.
use Rattle.std.specs.Prelude.{ℕ, ◌-◌, ◌*◌, ◌/◌, ◌%◌, ◌^◌, ◌≤◌, ◌<◌, ◌≡◌, refl, ◌↔◌, List, [], ◌∷◌, length, get_or, ltb, leb, eqb, Err}
use Rattle.std.proofs.Common.{arith, ltb-false, eqb-true, lt-ltb, le-ltb, ne_eqb}
use Rattle.std.proofs.lemmas.Bool.{eqb-false}
use Rattle.elements.specs.declared.fault.Fault.TheVariants.{BadBits, TrailingBits}
use Rattle.elements.specs.ChoiceLaws.{by_pick}
use Rattle.elements.specs.Bits.{bits_of, bits}
use Rattle.elements.specs.Answer.{Value}

-- how many bits are unused, and the byte that they are the last of
abbrev pub count : List ℕ → ℕ
count c = get_or c 0 0

abbrev pub last : List ℕ → ℕ
last c = get_or c (length c - 1) 0

-- "63 (bit string: empty, bad unused count or unused bits set)": a count of more than 7, or a count without bytes, is a bad one
pub data Malformed (c : List ℕ) : Type 0 where
  empty : length c ≡ 0 → Malformed c
  over_7 : 7 < count c → Malformed c
  alone : length c ≡ 1 → (count c ≡ 0 → ⊥) → Malformed c
  unused : 1 < length c → (last c % 2 ^ count c ≡ 0 → ⊥) → Malformed c

-- "64 (bit string: trailing zero bits kept)": the last bit in use is zero; "only where it is not empty, its count is good and its unused bits are zero"
pub record Kept (c : List ℕ) : Type 0 where
  pub filled : 1 < length c
  pub good : count c ≤ 7
  pub clear : last c % 2 ^ count c ≡ 0
  pub kept : last c / 2 ^ count c % 2 ≡ 0

-- 63, whatever else is wrong
pub first_63 : (c : List ℕ) → Malformed c → bits c ≡ Err BadBits
unfolding bits bits_of
first_63 c (empty e) = rw e
first_63 [] (over_7 h) = refl
first_63 (x ∷ l) (over_7 h) = rw (ne_eqb (length (x ∷ l)) 0 (omega arith), lt-ltb 7 x h)
first_63 c (alone e h) = rw (e, ne_eqb (count c) 0 h) (by_pick (λ (v : Value). v ≡ Err BadBits) (ltb 7 (count c)) (λ _. refl) (λ _. refl))
first_63 c (unused l h) = rw (ne_eqb (length c) 0 (omega arith), ne_eqb (length c) 1 (omega arith), ne_eqb (last c % 2 ^ count c) 0 h) (by_pick (λ (v : Value). v ≡ Err BadBits) (ltb 7 (count c)) (λ _. refl) (λ _. refl))

-- 64 exactly where they are kept, however many bits there are
pub exactly_64 : (c : List ℕ) → (bits c ≡ Err TrailingBits) ↔ Kept c
unfolding bits bits_of
exactly_64 c = (only, λ k. rw (ne_eqb (length c) 0 (omega (arith, k.filled)), le-ltb 7 (count c) k.good, ne_eqb (length c) 1 (omega (arith, k.filled)), k.clear, k.kept))
  where
    Only : Value → Type 0
    Only v = v ≡ Err TrailingBits → Kept c

    other : {v : Value} → (v ≡ Err TrailingBits → ◌≡◌ {A = ℕ} 0 1) → Only v
    other h q = absurd (omega (arith, h q))

    only : bits c ≡ Err TrailingBits → Kept c
    only =
        by_pick Only (eqb (length c) 0) (λ _. other (λ q. cc)) (λ e.
        by_pick Only (ltb 7 (count c)) (λ _. other (λ q. cc)) (λ l.
        by_pick Only (eqb (length c) 1) (λ _. by_pick Only (eqb (count c) 0) (λ _. other (λ q. cc)) (λ _. other (λ q. cc))) (λ f.
        by_pick Only (eqb (last c % 2 ^ count c) 0) (λ z.
        by_pick Only (eqb (last c / 2 ^ count c % 2) 1) (λ _. by_pick Only (leb ((length c - 1) * 8 - count c) 32) (λ _. other (λ q. cc)) (λ _. other (λ q. cc))) (λ o q.
        record { filled = omega (arith, eqb-false (length c) 0 e, eqb-false (length c) 1 f); good = ltb-false 7 (count c) l; clear = eqb-true (last c % 2 ^ count c) 0 z; kept = omega (arith, eqb-false (last c / 2 ^ count c % 2) 1 o) })) (λ _. other (λ q. cc)))))
