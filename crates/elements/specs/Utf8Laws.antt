-- The grammar of RFC 3629 and the reading of texts, one whole character at a time, agree.
use Rattle.std.specs.Prelude.{ℕ, zero, suc, ◌+◌, ◌≤◌, ◌<◌, ◌≡◌, Bool, true, false, ◌&&◌, ◌||◌, List, [], ◌∷◌, length, get_or, drop, ltb, leb, eqb, T, Err}
use Rattle.std.proofs.Math.Path.{refl}
use Rattle.std.proofs.Common.{ap, ◌∙◌, add-zero, arith, drop_of_length-le, drop-cons, lt-ltb, le-ltb, ltb-true, ne_eqb, le-leb}
use Rattle.std.proofs.Math.Numerals.{add-one}
use Rattle.std.proofs.lemmas.Bool.{lt-leb}
use Rattle.elements.specs.Choice.{pick}
use Rattle.elements.specs.ChoiceLaws.{by_less, both_true, all_both}
use Rattle.elements.specs.declared.fault.Fault.TheVariants.{BadText}
use Rattle.elements.specs.Text.{Due, Then, Never, Row, row, due, from, rows, find, lead_of, step_of, starts, text_from}
use Rattle.elements.specs.TextLaws.{level, lower, upper, leads, rests, due_step}
use Rattle.elements.specs.Utf8.{byte, utf8_tail, two, three, four, utf8_1, utf8_2, utf8_3, utf8_4, utf8_char}

-- a byte that is from l to h is there
byte_there : (l h : ℕ) (c : List ℕ) (i : ℕ) → byte l h c i ≡ true → i < length c
byte_there l h c i e = ltb-true i (length c) (both_true (ltb i (length c)) (leb l (get_or c i 0) && leb (get_or c i 0) h) e).0

-- k bytes from place i on, the first from l to h, the others tails
abbrev follow : ℕ → ℕ → ℕ → List ℕ → ℕ → Bool
follow zero l h c i = true
follow (suc k) l h c i = byte l h c i && follow k 0x80 0xbf c (i + 1)

follow_fits : (k l h : ℕ) (c : List ℕ) (i : ℕ) → i ≤ length c → follow k l h c i ≡ true → i + k ≤ length c
follow_fits zero l h c i b e = omega arith
follow_fits (suc k) l h c i b e =
    let w = both_true (byte l h c i) (follow k 0x80 0xbf c (i + 1)) e in
    omega (arith, follow_fits k 0x80 0xbf c (i + 1) (omega (arith, byte_there l h c i w.0)) w.1)

-- where they are due, they are read, or it is no text
abbrev Reads : ℕ → ℕ → ℕ → ℕ → List ℕ → ℕ → Type 0
Reads k l h n c i = text_from (due k l h) n (drop i c) ≡ pick (follow k l h c i) (text_from (due 0 0 0) n (drop (i + k) c)) (Err BadText)

follow_more : (k l h n : ℕ) (c : List ℕ) (i : ℕ) → Reads k 0x80 0xbf n c (i + 1) → Reads (suc k) l h n c i
unfolding text_from step_of starts
follow_more k l h n c i on =
    by_less i (length c)
    (λ g. by_less (get_or c i 0) l
    (λ p. rw (drop-cons c i 0 g, text_from, a, lt-ltb (get_or c i 0) l p, lt-ltb i (length c) g, lt-leb l (get_or c i 0) p) refl)
    (λ p. by_less h (get_or c i 0)
    (λ q. rw (drop-cons c i 0 g, text_from, a, le-ltb (get_or c i 0) l p, lt-ltb h (get_or c i 0) q, lt-ltb i (length c) g, le-leb l (get_or c i 0) p, lt-leb (get_or c i 0) h q) refl)
    (λ q. rw (drop-cons c i 0 g, due_step k l h (get_or c i 0) p q, text_from, a, add-zero, lt-ltb i (length c) g, le-leb l (get_or c i 0) p, le-leb (get_or c i 0) h q, e, add-one i) (rw (add-one i) at on))))
    (λ g. rw (drop_of_length-le c g, a, le-ltb i (length c) g) refl)
  where
    a : eqb (suc k) 0 ≡ false
    a = ne_eqb (suc k) 0 (omega arith)

    e : i + suc k ≡ i + 1 + k
    e = omega arith

follow_read : (k l h n : ℕ) (c : List ℕ) (i : ℕ) → Reads k l h n c i
follow_read zero l h n c i = rests l h n (drop i c) ∙ rw add-zero refl
follow_read (suc k) l h n c i = follow_more k l h n c i (follow_read k 0x80 0xbf n c (i + 1))

-- what a first byte m passes
abbrev pub passes : ℕ → ℕ → ℕ → Bool
passes m l h = from l h m

-- a character, by what its first byte passes
abbrev char_by : (ℕ → ℕ → Bool) → List ℕ → ℕ → ℕ
char_by p c i = pick (p 0x00 0x7f) 1 (pick (two p c i) 2 (pick (three p c i) 3 (pick (four p c i) 4 0)))

-- where no alternative begins or ends inside m to n, each byte there passes what m does
module _ (c : List ℕ) (i m n : ℕ) (inside : i < length c) (p : m ≤ get_or c i 0) (q : get_or c i 0 ≤ n) where
  abbrev Agree : List Row → Type 0
  Agree [] = Unit {0}
  Agree (row l h d ∷ r) = (byte l h c i ≡ passes m l h) × Agree r

  agree : (r : List Row) → T (level r m n) → Agree r
  agree [] t = tt
  agree (row l h d ∷ r) t =
      let s = all_both (leb l m || ltb n l) _ t in
      let u = all_both (ltb h m || leb n h) _ s.1 in
      (rw (lt-ltb i (length c) inside, lower l m n (get_or c i 0) s.0 p q, upper h m n (get_or c i 0) u.0 p q) refl, agree r u.1)

  pub one_range : T (level rows m n) → utf8_1 c i ≡ passes m 0x00 0x7f
  unfolding utf8_1
  one_range t = let a = agree rows t in a.0

  pub two_range : T (level rows m n) → utf8_2 c i ≡ two (passes m) c i
  unfolding utf8_2
  two_range t = let a = agree rows t in rw a.1.0 refl

  pub three_range : T (level rows m n) → utf8_3 c i ≡ three (passes m) c i
  unfolding utf8_3
  three_range t = let a = (agree rows t).1.1 in rw (a.0, a.1.0, a.1.1.0, a.1.1.1.0) refl

  pub four_range : T (level rows m n) → utf8_4 c i ≡ four (passes m) c i
  unfolding utf8_4
  four_range t = let a = (agree rows t).1.1.1.1.1.1 in rw (a.0, a.1.0, a.1.1.0) refl

  char_range : T (level rows m n) → utf8_char c i ≡ char_by (passes m) c i
  unfolding utf8_char
  char_range t = rw (one_range t, two_range t, three_range t, four_range t) refl

-- a character stands at i, and is read whole; or none does, and it is no text
pub data Turn (c : List ℕ) (i n : ℕ) : Type 0 where
  no_char : utf8_char c i ≡ 0 → text_from (due 0 0 0) n (drop i c) ≡ Err BadText → Turn c i n
  one_char : (k : ℕ) → utf8_char c i ≡ suc k → i + suc k ≤ length c → text_from (due 0 0 0) n (drop i c) ≡ text_from (due 0 0 0) (n + 1) (drop (i + suc k) c) → Turn c i n

module _ (c : List ℕ) (i n : ℕ) (inside : i < length c) where
  lead_then : (d : Due) → lead_of (get_or c i 0) ≡ Then d → text_from (due 0 0 0) n (drop i c) ≡ text_from d (n + 1) (drop (i + 1) c)
  unfolding text_from step_of starts
  lead_then d e = rw (drop-cons c i 0 inside, text_from, e, add-one i) refl

  turn_never : lead_of (get_or c i 0) ≡ Never → utf8_char c i ≡ 0 → Turn c i n
  unfolding text_from step_of starts
  turn_never e z = no_char z (rw (drop-cons c i 0 inside, text_from, e) refl)

  turn_then : (k l h : ℕ) → lead_of (get_or c i 0) ≡ Then (due k l h) → utf8_char c i ≡ pick (follow k l h c (i + 1)) (suc k) 0 → Turn c i n
  turn_then k l h e z = go (follow k l h c (i + 1)) refl
    where
      w : i + suc k ≡ i + 1 + k
      w = omega arith

      read : text_from (due 0 0 0) n (drop i c) ≡ pick (follow k l h c (i + 1)) (text_from (due 0 0 0) (n + 1) (drop (i + suc k) c)) (Err BadText)
      read = lead_then (due k l h) e ∙ rw w (follow_read k l h (n + 1) c (i + 1))

      go : (t : Bool) → follow k l h c (i + 1) ≡ t → Turn c i n
      go true f = one_char k (rw f at z) (omega (arith, follow_fits k l h c (i + 1) (omega arith) f)) (rw f at read)
      go false f = no_char (rw f at z) (rw f at read)

and_true : (b : Bool) → (b && true) ≡ b
and_true true = refl
and_true false = refl

pub or_false : (b : Bool) → (b || false) ≡ b
or_false true = refl
or_false false = refl

-- what an alternative of two, three or four bytes asks behind the first byte
module _ (l u : ℕ) (c : List ℕ) (i : ℕ) where
  follow_1 : byte l u c (i + 1) ≡ follow 1 l u c (i + 1)
  follow_1 = rw and_true refl

  follow_2 : (byte l u c (i + 1) && utf8_tail c (i + 2)) ≡ follow 2 l u c (i + 1)
  follow_2 = let e : i + 1 + 1 ≡ i + 2 = omega arith in rw (e, and_true) refl

  follow_3 : (byte l u c (i + 1) && (utf8_tail c (i + 2) && utf8_tail c (i + 3))) ≡ follow 3 l u c (i + 1)
  follow_3 = let e : i + 1 + 1 ≡ i + 2 = omega arith in let f : i + 2 + 1 ≡ i + 3 = omega arith in rw (e, f, and_true) refl

-- by the first byte: each alternative of the grammar in its turn, and what begins none
pub turn : (c : List ℕ) (i n : ℕ) → i < length c → Turn c i n
unfolding lead_of find
turn c i n g =
    by_less b 0x80 (λ h. within 0x00 0x7f 0 0 0 refl (λ s. s) tt (omega arith) h)
    (λ a. by_less b 0xc2 (λ h. never 0x80 0xc1 refl (λ s. s) tt a h)
    (λ a. by_less b 0xe0 (λ h. within 0xc2 0xdf 1 0x80 0xbf refl (λ s. s ∙ ap (λ t. pick t 2 0) (follow_1 0x80 0xbf c i)) tt a h)
    (λ a. by_less b 0xe1 (λ h. within 0xe0 0xe0 2 0xa0 0xbf refl (λ s. s ∙ rw or_false (ap (λ t. pick t 3 0) (follow_2 0xa0 0xbf c i))) tt a h)
    (λ a. by_less b 0xed (λ h. within 0xe1 0xec 2 0x80 0xbf refl (λ s. s ∙ rw or_false (ap (λ t. pick t 3 0) (follow_2 0x80 0xbf c i))) tt a h)
    (λ a. by_less b 0xee (λ h. within 0xed 0xed 2 0x80 0x9f refl (λ s. s ∙ rw or_false (ap (λ t. pick t 3 0) (follow_2 0x80 0x9f c i))) tt a h)
    (λ a. by_less b 0xf0 (λ h. within 0xee 0xef 2 0x80 0xbf refl (λ s. s ∙ ap (λ t. pick t 3 0) (follow_2 0x80 0xbf c i)) tt a h)
    (λ a. by_less b 0xf1 (λ h. within 0xf0 0xf0 3 0x90 0xbf refl (λ s. s ∙ rw or_false (ap (λ t. pick t 4 0) (follow_3 0x90 0xbf c i))) tt a h)
    (λ a. by_less b 0xf4 (λ h. within 0xf1 0xf3 3 0x80 0xbf refl (λ s. s ∙ rw or_false (ap (λ t. pick t 4 0) (follow_3 0x80 0xbf c i))) tt a h)
    (λ a. by_less b 0xf5 (λ h. within 0xf4 0xf4 3 0x80 0x8f refl (λ s. s ∙ ap (λ t. pick t 4 0) (follow_3 0x80 0x8f c i)) tt a h)
    (λ a. never 0xf5 b refl (λ s. s) tt a (omega arith)))))))))))
  where
    b : ℕ
    b = get_or c i 0

    within : (m h k l u : ℕ) → lead_of m ≡ Then (due k l u) → (utf8_char c i ≡ char_by (passes m) c i → utf8_char c i ≡ pick (follow k l u c (i + 1)) (suc k) 0) → T (level rows m h) → m ≤ get_or c i 0 → suc (get_or c i 0) ≤ suc h → Turn c i n
    within m h k l u e z t p q = turn_then c i n g k l u (leads m h (get_or c i 0) t p (omega arith) ∙ e) (z (char_range c i m h g p (omega arith) t))

    never : (m h : ℕ) → lead_of m ≡ Never → (utf8_char c i ≡ char_by (passes m) c i → utf8_char c i ≡ 0) → T (level rows m h) → m ≤ get_or c i 0 → suc (get_or c i 0) ≤ suc h → Turn c i n
    never m h e z t p q = turn_never c i n g (leads m h (get_or c i 0) t p (omega arith) ∙ e) (z (char_range c i m h g p (omega arith) t))
