-- What an entry's tag and an object's decide: the class and the type.
use Prim.Native.Nat.{ℕ, zero, suc, ◌-◌, ◌<◌, ◌≤◌}
use mathlib.Core.Path.{◌≡◌, refl, sym}
use mathlib.Core.List.{List, [], ◌∷◌}
use native.Mathlib.Omega.{arith}
use lib.ListN.{length, get_or}
use borrow.Author.Tests.{eq-eqb, ne_eqb, le-leb, lt-leb}
use Rattle.rules.specs.declared.table.Class.{Class}
use Rattle.rules.specs.declared.table.Class.TheVariants.{Keys}
use Rattle.rules.specs.declared.table.ObjectType.TheVariants.{PrivateKey, Certificate, Password, Sealed}
use Rattle.rules.specs.Tables.{classes, class_of, type_of}

-- tags that are no entry's
pub class_below : (entry : ℕ) → entry < 0xa0 → Keys ≡ class_of entry
class_below entry h = let z : entry - 0xa0 ≡ 0 = omega arith in rw z refl

pub class_above : (entry : ℕ) → 0xa8 < entry → Keys ≡ class_of entry
class_above entry h = sym (get_d_past classes (entry - 0xa0) (omega arith))
  where
    get_d_past : (l : List Class) (i : ℕ) → length l ≤ i → get_or l i Keys ≡ Keys
    get_d_past [] i h = refl
    get_d_past (x ∷ l) zero h = absurd (omega arith)
    get_d_past (x ∷ l) (suc i) h = get_d_past l i (omega arith)

-- what an object's type is
module _ {tag : ℕ} (entry : ℕ) where
  pub type_other : (tag ≡ 0x30 → ⊥) → Sealed ≡ type_of entry tag
  unfolding type_of
  type_other h = rw (ne_eqb tag 0x30 h) refl

  module _ (h : tag ≡ 0x30) where
    pub type_key : entry ≡ 0xa0 → PrivateKey ≡ type_of entry tag
    unfolding type_of
    type_key k = rw (h, k) refl

    pub type_password : entry ≡ 0xa8 → Password ≡ type_of entry tag
    unfolding type_of
    type_password k = rw (h, k) refl

    module _ (k : entry ≡ 0xa0 → ⊥) where
      pub type_certificate : 0xa4 ≤ entry → entry < 0xa7 → Certificate ≡ type_of entry tag
      unfolding type_of
      type_certificate i j = rw (eq-eqb tag 0x30 h, ne_eqb entry 0xa0 k, le-leb 0xa4 entry i, le-leb entry 0xa6 (omega arith)) refl

      module _ (l : entry ≡ 0xa8 → ⊥) where
        pub type_below : entry < 0xa4 → Sealed ≡ type_of entry tag
        unfolding type_of
        type_below i = rw (eq-eqb tag 0x30 h, ne_eqb entry 0xa0 k, lt-leb 0xa4 entry i, ne_eqb entry 0xa8 l) refl

        pub type_above : 0xa7 ≤ entry → Sealed ≡ type_of entry tag
        unfolding type_of
        type_above i = rw (eq-eqb tag 0x30 h, ne_eqb entry 0xa0 k, le-leb 0xa4 entry (omega arith), lt-leb entry 0xa6 (omega arith), ne_eqb entry 0xa8 l) refl
