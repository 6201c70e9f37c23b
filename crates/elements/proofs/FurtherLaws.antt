-- The loop of `further` follows its definition.
use Prim.Native.Nat.{ℕ, zero, suc, ◌+◌, ◌-◌, ◌<◌, ◌≤◌}
use mathlib.Core.Path.{◌≡◌, refl, sym, ◌∙◌}
use mathlib.Core.List.{List}
use native.Mathlib.Omega.{arith}
use native.Mathlib.Numerals.{sub-one}
use lib.ListN.{get_or}
use lib.Dec.{ltb, leb}
use Rattle.elements.specs.Choice.{pick, choose}
use Rattle.elements.specs.declared.fault.Fault.TheVariants.{BadTag, CutTag}
use Rattle.elements.specs.Header.{further, length_at}
use Rattle.elements.proofs.Auto.{tests}
use Rattle.elements.specs.Answer.{Head, refused}

-- with so many bytes left from p on, the tag comes to v
pub record Further (s : List ℕ) (at end b p left : ℕ) (v : Head) : Type 0 where
  pub comes : further left s at end b p ≡ v

-- at the number's first byte
pub further_start : (s : List ℕ) (at end b p : ℕ) {q : ℕ} → q ≡ p → Further s at end b q 3 (further 3 s at end b p)
further_start s at end b p z = record { comes = rw z }

-- no byte may follow
pub further_none : {s : List ℕ} {at end b p left : ℕ} {v : Head} → Further s at end b p left v → left ≤ 0 → refused BadTag at ≡ v
unfolding further
further_none {s} {at} {end} {b} {p} {left} {v} w h = let z : left ≡ 0 = omega arith in rw z at w.comes

turn : (s : List ℕ) (at end b p left : ℕ) → 0 < left →
    further left s at end b p ≡
    pick (leb end p) (refused CutTag at)
    (choose (ltb (get_or s p 0) 128) (λ _. length_at s at end b (p + 1)) (λ _. further (left - 1) s at end b (p + 1)))
unfolding further
turn s at end b p zero h = absurd (omega arith)
turn s at end b p (suc k) h = rw sub-one refl

module _ {s : List ℕ} {at end b p left : ℕ} {v : Head} (w : Further s at end b p left v) (h : 0 < left) where
  -- the container ends inside the tag
  pub further_cut : end ≤ p → refused CutTag at ≡ v
  further_cut c = sym (turn s at end b p left h ∙ search tests) ∙ w.comes

  -- the last byte, and then the length
  pub further_last : {r : Head} → p < end → get_or s p 0 < 128 → r ≡ length_at s at end b (p + 1) → r ≡ v
  further_last i c e = e ∙ sym (turn s at end b p left h ∙ search tests) ∙ w.comes

  -- a byte that goes on
  pub further_next : p < end → 128 ≤ get_or s p 0 → {q k : ℕ} → q ≡ p + 1 → k ≡ left - 1 → Further s at end b q k v
  further_next i c z u = record { comes = rw (z, u) (sym (turn s at end b p left h ∙ search tests) ∙ w.comes) }
