-- The functions of the grammar: what each test comes to.
use Prim.Native.Nat.{ℕ, ◌+◌, ◌≤◌, ◌<◌}
use mathlib.Core.Path.{◌≡◌, refl, sym, ◌∙◌}
use mathlib.Core.Bool.{Bool, true, false, ◌&&◌}
use mathlib.Core.List.{List}
use native.Mathlib.Omega.{arith}
use lib.ListN.{length, get_or, drop, drop_of_length-le}
use lib.Dec.{leb, T}
use borrow.Author.Tests.{lt-ltb, le-ltb, lt-leb, le-leb}
use Rattle.elements.specs.declared.fault.Fault.TheVariants.{BadText}
use Rattle.elements.specs.Told.{told}
use Rattle.elements.specs.Text.{due, rows, text_from}
use Rattle.elements.specs.TextLaws.{level}
use Rattle.elements.specs.Utf8.{byte, utf8_tail, three, four, utf8_1, utf8_2, utf8_3, utf8_4, utf8_char}
use Rattle.elements.specs.Utf8Laws.{passes, three_range, four_range, Turn, no_char, one_char, turn}
use Rattle.elements.specs.Answer.{Value}
use Rattle.std.specs.Prelude.{Err}

-- one test after the other
and_no : {w x r : Bool} (y : Bool) → w ≡ (x && y) → r ≡ x → r ≡ false → r ≡ w
and_no y e h z = z ∙ sym (e ∙ rw (sym h ∙ z) refl)

and_yes : {w x y r q : Bool} → w ≡ (x && y) → r ≡ x → r ≡ true → q ≡ y → q ≡ w
and_yes e h z g = g ∙ sym (e ∙ rw (sym h ∙ z) refl)

-- a byte that is one
pub is_low : {a b : ℕ} → b ≡ a → a ≤ b
is_low e = omega (arith, e)

pub is_high : {a b : ℕ} → b ≡ a → b ≤ a
is_high e = omega (arith, e)

-- a byte in its range
pub byte_none : (l h : ℕ) (c : List ℕ) (i : ℕ) → length c ≤ i → false ≡ byte l h c i
byte_none l h c i g = rw (le-ltb i (length c) g) refl

module _ (l h : ℕ) (c : List ℕ) (i : ℕ) (g : i < length c) where
  pub byte_low : get_or c i 0 < l → leb l (get_or c i 0) ≡ byte l h c i
  byte_low e = rw (lt-ltb i (length c) g, lt-leb l (get_or c i 0) e) refl

  pub byte_high : l ≤ get_or c i 0 → leb (get_or c i 0) h ≡ byte l h c i
  byte_high e = rw (lt-ltb i (length c) g, le-leb l (get_or c i 0) e) refl

-- a first byte below or above all alternatives of a rule
module _ (c : List ℕ) (i : ℕ) (g : i < length c) where
  below : (l h : ℕ) → get_or c i 0 < l → byte l h c i ≡ false
  below l h e = rw (lt-ltb i (length c) g, lt-leb l (get_or c i 0) e) refl

  above : (l h : ℕ) → h < get_or c i 0 → byte l h c i ≡ false
  above l h e = rw (lt-ltb i (length c) g, lt-leb (get_or c i 0) h e) (go (leb l (get_or c i 0)))
    where
      go : (t : Bool) → (t && false) ≡ false
      go true = refl
      go false = refl

  pub one_above : 0x80 ≤ get_or c i 0 → false ≡ utf8_1 c i
  unfolding utf8_1
  one_above e = rw (above 0x00 0x7f (omega arith)) refl

  pub two_below : get_or c i 0 < 0xc2 → false ≡ utf8_2 c i
  unfolding utf8_2
  two_below e = rw (below 0xc2 0xdf e) refl

  pub two_above : 0xe0 ≤ get_or c i 0 → false ≡ utf8_2 c i
  unfolding utf8_2
  two_above e = rw (above 0xc2 0xdf (omega arith)) refl

  pub three_below : get_or c i 0 < 0xe0 → false ≡ utf8_3 c i
  unfolding utf8_3
  three_below e = rw (below 0xe0 0xe0 e, below 0xe1 0xec (omega arith), below 0xed 0xed (omega arith), below 0xee 0xef (omega arith)) refl

  pub three_above : 0xf0 ≤ get_or c i 0 → false ≡ utf8_3 c i
  unfolding utf8_3
  three_above e = rw (above 0xe0 0xe0 (omega arith), above 0xe1 0xec (omega arith), above 0xed 0xed (omega arith), above 0xee 0xef (omega arith)) refl

  pub four_below : get_or c i 0 < 0xf0 → false ≡ utf8_4 c i
  unfolding utf8_4
  four_below e = rw (below 0xf0 0xf0 e, below 0xf1 0xf3 (omega arith), below 0xf4 0xf4 (omega arith)) refl

  pub four_above : 0xf5 ≤ get_or c i 0 → false ≡ utf8_4 c i
  unfolding utf8_4
  four_above e = rw (above 0xf0 0xf0 (omega arith), above 0xf1 0xf3 (omega arith), above 0xf4 0xf4 (omega arith)) refl

-- an alternative of three bytes, of which the first is from m to n and the second from l to u; so of four
module _ (m n l u : ℕ) (same : T (level rows m n)) (c : List ℕ) (i : ℕ) where
  module _ (alone : three (passes m) c i ≡ (byte l u c (i + 1) && utf8_tail c (i + 2))) (g : i < length c) (p : m ≤ get_or c i 0) (q : get_or c i 0 ≤ n) where
    three_is : utf8_3 c i ≡ (byte l u c (i + 1) && utf8_tail c (i + 2))
    three_is = three_range c i m n g p q same ∙ alone

    pub three_no : {r : Bool} → r ≡ byte l u c (i + 1) → r ≡ false → r ≡ utf8_3 c i
    three_no h z = and_no (utf8_tail c (i + 2)) three_is h z

    pub three_yes : {r t : Bool} → r ≡ byte l u c (i + 1) → r ≡ true → t ≡ utf8_tail c (i + 2) → t ≡ utf8_3 c i
    three_yes h z k = and_yes three_is h z k

  module _ (alone : four (passes m) c i ≡ (byte l u c (i + 1) && (utf8_tail c (i + 2) && utf8_tail c (i + 3)))) (g : i < length c) (p : m ≤ get_or c i 0) (q : get_or c i 0 ≤ n) where
    four_is : utf8_4 c i ≡ (byte l u c (i + 1) && (utf8_tail c (i + 2) && utf8_tail c (i + 3)))
    four_is = four_range c i m n g p q same ∙ alone

    pub four_no : {r : Bool} → r ≡ byte l u c (i + 1) → r ≡ false → r ≡ utf8_4 c i
    four_no h z = and_no (utf8_tail c (i + 2) && utf8_tail c (i + 3)) four_is h z

    pub four_half : {r t : Bool} → r ≡ byte l u c (i + 1) → r ≡ true → t ≡ utf8_tail c (i + 2) → t ≡ false → t ≡ utf8_4 c i
    four_half h z k y = and_yes four_is h z (and_no (utf8_tail c (i + 3)) refl k y)

    pub four_yes : {r t v : Bool} → r ≡ byte l u c (i + 1) → r ≡ true → t ≡ utf8_tail c (i + 2) → t ≡ true → v ≡ utf8_tail c (i + 3) → v ≡ utf8_4 c i
    four_yes h z k y x = and_yes four_is h z (and_yes refl k y x)

-- the bytes that a character has
module _ (c : List ℕ) (i : ℕ) {o : Bool} (a : o ≡ utf8_1 c i) where
  pub char_1 : o ≡ true → 1 ≡ utf8_char c i
  unfolding utf8_char
  char_1 e = rw (← a, e) refl

  module _ (e : o ≡ false) {t : Bool} (b : t ≡ utf8_2 c i) where
    pub char_2 : t ≡ true → 2 ≡ utf8_char c i
    unfolding utf8_char
    char_2 g = rw (← a, e, ← b, g) refl

    module _ (g : t ≡ false) {s : Bool} (d : s ≡ utf8_3 c i) where
      pub char_3 : s ≡ true → 3 ≡ utf8_char c i
      unfolding utf8_char
      char_3 h = rw (← a, e, ← b, g, ← d, h) refl

      module _ (h : s ≡ false) {f : Bool} (j : f ≡ utf8_4 c i) where
        pub char_4 : f ≡ true → 4 ≡ utf8_char c i
        unfolding utf8_char
        char_4 k = rw (← a, e, ← b, g, ← d, h, ← j, k) refl

        pub char_0 : f ≡ false → 0 ≡ utf8_char c i
        unfolding utf8_char
        char_0 k = rw (← a, e, ← b, g, ← d, h, ← j, k) refl

-- a turn of the loop
module _ (c : List ℕ) (i n : ℕ) (v : Value) (left : text_from (due 0 0 0) n (drop i c) ≡ v) {k : ℕ} (is : k ≡ utf8_char c i) (inside : i < length c) where
  pub octets_never : k ≡ 0 → Err BadText ≡ v
  octets_never z = go (turn c i n inside)
    where
      go : Turn c i n → Err BadText ≡ v
      go (no_char e f) = sym f ∙ left
      go (one_char m e l f) = absurd (omega (arith, is ∙ e))

  pub octets_fit : i + k ≤ length c
  octets_fit = go (turn c i n inside)
    where
      go : Turn c i n → i + k ≤ length c
      go (no_char e f) = omega (arith, is ∙ e)
      go (one_char m e l f) = omega (arith, is ∙ e)

  pub octets_on : (k ≡ 0 → ⊥) → text_from (due 0 0 0) (n + 1) (drop (i + k) c) ≡ v
  octets_on z = go (turn c i n inside)
    where
      go : Turn c i n → text_from (due 0 0 0) (n + 1) (drop (i + k) c) ≡ v
      go (no_char e f) = absurd (z (is ∙ e))
      go (one_char m e l f) = rw (is ∙ e) (sym f ∙ left)

pub octets_end : (c : List ℕ) (i n : ℕ) (v : Value) → text_from (due 0 0 0) n (drop i c) ≡ v → {r : Value} → length c ≤ i → r ≡ told n → r ≡ v
unfolding text_from
octets_end c i n v left g e = e ∙ (rw (drop_of_length-le c g) at left)
