-- What is made of single records, and of a sequence's rows.
use Prim.Native.Nat.{ℕ, ◌+◌, ◌-◌, ◌*◌, ◌<◌, ◌≤◌}
use mathlib.Core.Path.{◌≡◌, refl, sym, ◌∙◌}
use mathlib.Core.Logic.{◌⊎◌, inl, inr}
use mathlib.Core.List.{List, [], ◌∷◌, ◌++◌, append_assoc, append-nil}
use native.Mathlib.Numerals.{add-one}
use native.Mathlib.Omega.{arith}
use lib.ListN.{length, get_or, take, drop, replicate, length-drop, length-replicate, drop_of_length-le}
use lib.Seq.{slice, drop-cons, drop-drop, get_or-drop, length-take-le}
use borrow.Rule.Slice.PartMut.{put_mid}
use Rattle.std.specs.Int.{w32, from_le_bytes}
use Rattle.elements.specs.declared.answer.Form.{Form}
use Rattle.elements.specs.declared.answer.Form.TheVariants.{Integer, Bits, Boolean, Octets, Text, Time, Null}
use Rattle.elements.specs.Integer.{integer_bytes}
use Rattle.elements.specs.Bits.{flag_bytes}
use Rattle.elements.specs.Boolean.{boolean_bytes}
use Rattle.elements.specs.Put.{Put}
use Rattle.elements.specs.PutLaws.{put_length}
use Rattle.std.specs.Prelude.{Ok, Err}
use Rattle.makers.specs.declared.made.Made.{Made}
use Rattle.makers.specs.declared.made.TooLong.{TooLong}
use Rattle.rules.specs.declared.table.Row.{Row}
use Rattle.rules.specs.Reading.{Rec, count, number, untwos}
use Rattle.rules.specs.Tables.{no_row}
use Rattle.rules.specs.Render.{gives, Renderer, nothing, ◌next◌, from, plain, unvalue, r_row, r_rows}
use Rattle.rules.specs.Book.{records_from, Ends}
use Rattle.makers.specs.Making.{Answer, Makes, breaks}
use Rattle.makers.specs.MadeLaws.{spliced, makes_none, makes_as, makes_same, made_room, made_high, next_long, next_took, from_none, from_some, puts_took, puts_long}

-- the number in a payload's first bytes
count_is : (l : List ℕ) → get_or l 0 0 + 256 * get_or l 1 0 ≡ count l
unfolding count
count_is [] = refl
count_is (a ∷ []) = omega arith
count_is (a ∷ b ∷ l) = omega arith

number_is : (l : List ℕ) → get_or l 0 0 + 256 * get_or l 1 0 + 65536 * get_or l 2 0 + 16777216 * get_or l 3 0 ≡ number l
unfolding number
number_is [] = refl
number_is (a ∷ []) = omega arith
number_is (a ∷ b ∷ []) = omega arith
number_is (a ∷ b ∷ c ∷ []) = omega arith
number_is (a ∷ b ∷ c ∷ d ∷ l) = omega arith

pub count_two : (l : List ℕ) (k : ℕ) {x y r : ℕ} → x ≡ get_or l k 0 → y ≡ get_or l (k + 1) 0 → r ≡ x + 256 * y → r ≡ count (drop k l)
count_two l k h i q = let z : k + 0 ≡ k = omega arith in q ∙ rw (h, i) (rw (get_or-drop k l 0 0, get_or-drop k l 1 0, z) at (count_is (drop k l)))

pub number_four : (l : List ℕ) {x y z w r : ℕ} → x ≡ get_or l 0 0 → y ≡ get_or l 1 0 → z ≡ get_or l 2 0 → w ≡ get_or l 3 0 → r ≡ from_le_bytes w32 (x ∷ y ∷ z ∷ w ∷ []) → r ≡ number l
number_four l h i j k q = q ∙ rw (h, i, j, k) (omega (arith, number_is l))

-- the contents that a payload tells
module _ {a c : List ℕ} {o q : ℕ} {f : Form} (p : List ℕ) where
  as_form : (g : Form) → f ≡ g → Put a c o q (unvalue g p) → Put a c o q (unvalue f p)
  as_form g z d = rw z d

  module _ {m : ℕ} (h : m ≡ number p) where
    pub value_integer : f ≡ Integer → Put a c o q (integer_bytes (untwos m)) → Put a c o q (unvalue f p)
    unfolding unvalue
    value_integer z d = as_form Integer z (rw h at d)

    pub value_bits : f ≡ Bits → Put a c o q (flag_bytes m) → Put a c o q (unvalue f p)
    unfolding unvalue
    value_bits z d = as_form Bits z (rw h at d)

  pub value_boolean : {x m : ℕ} → f ≡ Boolean → x ≡ get_or p 0 0 → m ≡ x → Put a c o q (boolean_bytes m) → Put a c o q (unvalue f p)
  unfolding unvalue
  value_boolean {x} {m} z h e d = as_form Boolean z (rw (e ∙ h) at d)

  pub value_bytes : ((f ≡ Octets) ⊎ ((f ≡ Text) ⊎ ((f ≡ Time) ⊎ (f ≡ Null)))) → Put a c o q p → Put a c o q (unvalue f p)
  unfolding unvalue
  value_bytes (inl z) d = as_form Octets z d
  value_bytes (inr (inl z)) d = as_form Text z d
  value_bytes (inr (inr (inl z))) d = as_form Time z d
  value_bytes (inr (inr (inr z))) d = as_form Null z d

abbrev value_of : Form → ℕ → List ℕ → Renderer
value_of f k p rs = gives (unvalue f p) rs

module _ (f : Form) {b : List ℕ} where
  pub told_none : (a : List ℕ) (x : Made) → length b < x.next + 4 → x.next ≤ length b → x.end ≤ length a → Makes b a a x.next x.end (from (value_of f) (records_from b x.next)) (Ok x)
  told_none a x h l m = from_none (value_of f) h l m

  module _ {a c : List ℕ} {i e o q : ℕ} (h : Ends b i e) (d : Put a c o q (unvalue f (slice (i + 4) e b))) where
    pub told_long : {y : TooLong} → length c < q → Makes b a c i o (from (value_of f) (records_from b i)) (Err y)
    told_long l = from_some (value_of f) h (puts_long d e (records_from b e) l)

    pub told_took : q ≤ length c → Makes b a c i o (from (value_of f) (records_from b i)) (Ok (record { next = e; end = q }))
    told_took l = from_some (value_of f) h (puts_took d h.high l)

pub plain_made : (rs : List Rec) {b a c : List ℕ} {i o : ℕ} {r : Answer} → Makes b a c i o (from (value_of Octets) rs) r → Makes b a c i o (plain rs) r
unfolding unvalue
plain_made rs m = m

abbrev fill_of : ℕ → List ℕ → Renderer
fill_of k p rs = gives (replicate (count (drop 1 p)) (get_or p 0 0)) rs

module _ {b a : List ℕ} {i e o n : ℕ} (h : Ends b i e) (z : n ≡ count (drop 1 (slice (i + 4) e b))) where
  pub same_long : {y : TooLong} → length a - o < n → o ≤ length a → Makes b a a i o (from fill_of (records_from b i)) (Err y)
  same_long l m =
      let w = get_or (slice (i + 4) e b) 0 0 in
      from_some fill_of h (breaks {w = fill_of 0 (slice (i + 4) e b) (records_from b e)} (rw (← z) (omega (arith, length-replicate n w))) refl)

  pub same_took : {x : ℕ} {s : List ℕ} → n ≤ length a - o → o ≤ length a → x ≡ get_or (slice (i + 4) e b) 0 0 → s ≡ replicate (length (take (o + n - o) (drop o a))) x → Makes b a (put_mid o (o + n - o) a s) i o (from fill_of (records_from b i)) (Ok (record { next = e; end = o + n }))
  same_took {x} {s} l m y u =
      let k : o + n - o ≡ n = omega arith in
      let g : length (take n (drop o a)) ≡ n = length-take-le n (drop o a) (omega (arith, length-drop o a)) in
      let v : s ≡ replicate n x = rw (k, g) at u in
      let w : put_mid o (o + n - o) a s ≡ take o a ++ replicate n x ++ drop (o + n) a = rw (k, v, drop-drop n o a) (sym (append_assoc (take o a) (replicate n x) (drop (o + n) a))) in
      let d : Put a (put_mid o (o + n - o) a s) o (o + n) (replicate n x) = spliced a _ (replicate n x) o (o + n) (omega (arith, length-replicate n x)) (omega arith) w in
      from_some fill_of h (rw (← z, ← y) (puts_took {b = b} d h.high (omega (arith, put_length d))))

-- the rows from the k-th on are left, after `before`
pub record Along (b : List ℕ) (rs : List Row) (a c : List ℕ) (i o k : ℕ) (x : Made) : Type 0 where
  pub high : x.next ≤ length b
  pub room : x.end ≤ length c
  pub same : length c ≡ length a
  pub before : Renderer
  pub done : Makes b a c i o (before (records_from b i)) (Ok x)
  pub rest : (before next r_rows (drop k rs)) (records_from b i) ≡ r_rows rs (records_from b i)

pub along_start : (b : List ℕ) (rs : List Row) (a : List ℕ) (x : Made) → x.next ≤ length b → x.end ≤ length a → Along b rs a a x.next x.end 0 x
along_start b rs a x h l = record {
  high = h;
  room = l;
  same = refl;
  before = nothing;
  done = makes_none b a x h l;
  rest = refl;
}

next_next : (p q s : Renderer) (rs : List Rec) → ((p next q) next s) rs ≡ (p next (q next s)) rs
next_next p q s rs = let x = p rs in let y = q x.left in let z = s y.left in rw (append_assoc x.bytes y.bytes z.bytes) refl

module _ {b : List ℕ} {rs : List Row} {a c : List ℕ} {i o k : ℕ} {x : Made} (h : Along b rs a c i o k x) (l : k < length rs) {r : Row} (e : r ≡ get_or rs k no_row) where
  both_rest : ((h.before next r_row r) next r_rows (drop (k + 1) rs)) (records_from b i) ≡ r_rows rs (records_from b i)
  unfolding r_rows
  both_rest = next_next h.before (r_row r) (r_rows (drop (k + 1) rs)) (records_from b i) ∙ rw (e, add-one) (rw (drop-cons rs k no_row l) at h.rest)

  both_made : {d : List ℕ} {w : Answer} → Makes b c d x.next x.end (r_row r (records_from b x.next)) w → Makes b a d i o ((h.before next r_row r) (records_from b i)) w
  both_made m = next_took h.before (r_row r) h.done m

  pub along_long : {d : List ℕ} {y : TooLong} → Makes b c d x.next x.end (r_row r (records_from b x.next)) (Err y) → Makes b a d i o (r_rows rs (records_from b i)) (Err y)
  along_long m = makes_as (next_long (h.before next r_row r) (r_rows (drop (k + 1) rs)) (both_made m)) both_rest

  pub along_next : {d : List ℕ} {y : Made} → Makes b c d x.next x.end (r_row r (records_from b x.next)) (Ok y) → Along b rs a d i o (k + 1) y
  along_next m =
      record {
        high = made_high m;
        room = made_room m;
        same = makes_same m ∙ h.same;
        before = h.before next r_row r;
        done = both_made m;
        rest = both_rest;
      }

pub along_all : {b : List ℕ} {rs : List Row} {a c : List ℕ} {i o k : ℕ} {x : Made} → Along b rs a c i o k x → length rs ≤ k → Makes b a c i o (r_rows rs (records_from b i)) (Ok x)
unfolding r_rows
along_all {b} {rs} {a} {c} {i} {o} {k} h l =
    let x = h.before (records_from b i) in
    let e : drop k rs ≡ [] = drop_of_length-le rs {i = k} l in
    let u : gives (x.bytes ++ []) x.left ≡ r_rows rs (records_from b i) = rw e at h.rest in
    makes_as h.done (rw (append-nil x.bytes) at u)
