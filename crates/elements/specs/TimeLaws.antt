-- A time that is read is exactly YYYYMMDDhhmmssZ of a day of the calendar, and every such time is read.
use Rattle.std.specs.Prelude.{ℕ, zero, suc, ◌+◌, ◌-◌, ◌*◌, ◌/◌, ◌%◌, ◌≤◌, ◌<◌, ◌≡◌, refl, List, [], ◌∷◌, ◌++◌, Bool, true, false, length, drop, leb, ltb, eqb, Err}
use Rattle.std.proofs.Common.{sym, ◌∙◌, ap, drop_of_length-le, drop-cons, lit≤, le-leb, ne_eqb, le-ltb, leb-true, leb-false, ltb-false, eqb-true}
use Rattle.std.proofs.Math.ListN.{get_or}
use Rattle.std.proofs.lemmas.Bool.{lt-leb, eqb-false}
use native.Mathlib.Omega.{arith}
use Rattle.elements.specs.Choice.{pick}
use Rattle.elements.specs.ChoiceLaws.{both_true}
use Rattle.elements.specs.Time.{is_digit, digits, two, days_of, dated, clocked, stated, time}
use Rattle.elements.specs.Encodings.{pair, Moment}
use Rattle.elements.specs.declared.fault.Fault.TheVariants.{BadTime}
use Rattle.elements.specs.AnswerLaws.{of_same}
use Rattle.elements.specs.Answer.{of}

-- there is no month after the twelfth
no_month : (y m : ℕ) → 12 < m → days_of y m ≡ 0
unfolding days_of
no_month y m h = rw (ne_eqb m 2 (omega arith), ne_eqb m 4 (omega arith), ne_eqb m 6 (omega arith), ne_eqb m 9 (omega arith), ne_eqb m 11 (omega arith), le-leb 1 m (omega arith), lt-leb m 12 h)

-- ---- reading what was written
high_digit : (a : ℕ) → a < 100 → is_digit (48 + a / 10) ≡ true
high_digit a h = rw (le-leb 48 (48 + a / 10) (omega arith), le-leb (48 + a / 10) 57 (omega arith))

low_digit : (a : ℕ) → is_digit (48 + a % 10) ≡ true
low_digit a = rw (le-leb 48 (48 + a % 10) (omega arith), le-leb (48 + a % 10) 57 (omega arith))

two_digits : (a : ℕ) → (48 + a / 10 - 48) * 10 + (48 + a % 10 - 48) ≡ a
two_digits a = omega arith

stated_is : (a b m d h i s : ℕ) → a < 100 → b < 100 → m < 100 → d < 100 → h < 100 → i < 100 → s < 100 → stated (pair a ++ pair b ++ pair m ++ pair d ++ pair h ++ pair i ++ pair s ++ (90 ∷ [])) ≡ pick (dated (a * 100 + b) m d) (clocked h i s) false
unfolding stated digits two pair
stated_is a b m d h i s fa fb fm fd fh fi fs = simp (two_digits, high_digit, low_digit)

pick_most : (t : Bool) (n a b : ℕ) → a ≤ n → b ≤ n → pick t a b ≤ n
pick_most true n a b h l = h
pick_most false n a b h l = l

-- no month is longer than 31 days
days_most : (y m : ℕ) → days_of y m ≤ 31
unfolding days_of
days_most y m = search (pick_most, lit≤)

month_fits : (y m d : ℕ) → 1 ≤ d → d ≤ days_of y m → m < 100
month_fits y m d h l = go (leb m 12) refl
  where
    go : (t : Bool) → leb m 12 ≡ t → m < 100
    go true e = omega (arith, leb-true m 12 e)
    go false e = absurd (omega (arith, no_month y m (leb-false m 12 e)))

-- every time of a day of the calendar is read
pub time_complete : {c : List ℕ} → Moment c → time c ≡ of false 0
unfolding time dated clocked
time_complete h =
    let y = h.year in
    let e : y / 100 * 100 + y % 100 ≡ y = omega arith in
    let p = days_most y h.month in
    let q = month_fits y h.month h.day h.day_from h.day_to in
    rw (
      h.bytes,
      stated_is (y / 100) (y % 100) h.month h.day h.hour h.minute h.second (omega arith) (omega arith) q (omega arith) (omega arith) (omega arith) (omega arith),
      e,
      ne_eqb h.day 0 (omega arith),
      le-leb h.day (days_of y h.month) h.day_to,
      le-ltb 23 h.hour h.hour_to,
      le-ltb 59 h.minute h.minute_to,
      le-leb h.second 59 h.second_to,
    )

-- ---- what was read was written
both : (t a : Bool) → pick t a false ≡ true → (t ≡ true) × (a ≡ true)
both true a e = (refl, e)
both false a e = let z : ◌≡◌ {A = ℕ} 0 1 = cc in absurd (omega arith)

unless : (t a : Bool) → pick t false a ≡ true → (t ≡ false) × (a ≡ true)
unless true a e = let z : ◌≡◌ {A = ℕ} 0 1 = cc in absurd (omega arith)
unless false a e = (refl, e)

-- the k bytes from i on
abbrev members : ℕ → ℕ → List ℕ → List ℕ
members zero i c = []
members (suc k) i c = get_or c i 0 ∷ members k (suc i) c

members_are : (k i : ℕ) (c : List ℕ) → i + k ≡ length c → drop i c ≡ members k i c
members_are zero i c h = drop_of_length-le c {i = i} (omega arith)
members_are (suc k) i c h = drop-cons c i 0 (omega arith) ∙ ap (λ l. get_or c i 0 ∷ l) (members_are k (suc i) c (omega arith))

digit_at : (k i : ℕ) (c : List ℕ) → digits k c ≡ true → i < k → (48 ≤ get_or c i 0) × (get_or c i 0 ≤ 57)
unfolding digits
digit_at zero i c e h = absurd (omega arith)
digit_at (suc k) i [] e h = let z : ◌≡◌ {A = ℕ} 0 1 = cc in absurd (omega arith)
digit_at (suc k) zero (x ∷ c) e h =
    let f = both (is_digit x) (digits k c) e in
    let g = both_true (leb 48 x) (leb x 57) f.0 in
    (leb-true 48 x g.0, leb-true x 57 g.1)
digit_at (suc k) (suc i) (x ∷ c) e h = digit_at k i c (both (is_digit x) (digits k c) e).1 (omega arith)

module _ (c : List ℕ) (k : ℕ) (e : digits k c ≡ true) (i : ℕ) (h : i + 1 < k) where
  two_fits : two c i < 100
  unfolding two
  two_fits = omega (arith, digit_at k i c e (omega arith), digit_at k (i + 1) c e (omega arith))

  pair_two : pair (two c i) ≡ get_or c i 0 ∷ get_or c (i + 1) 0 ∷ []
  unfolding two pair
  pair_two =
      let p = digit_at k i c e (omega arith) in
      let q = digit_at k (i + 1) c e (omega arith) in
      let r : 48 + two c i / 10 ≡ get_or c i 0 = omega arith in
      let s : 48 + two c i % 10 ≡ get_or c (i + 1) 0 = omega arith in
      rw (r, s)

dated_is : (y m d : ℕ) → dated y m d ≡ true → (1 ≤ d) × (d ≤ days_of y m)
unfolding dated
dated_is y m d e =
    let a = unless (eqb d 0) _ e in
    (omega (arith, eqb-false d 0 a.0), leb-true d (days_of y m) a.1)

clocked_is : (h i s : ℕ) → clocked h i s ≡ true → (h ≤ 23) × (i ≤ 59) × (s ≤ 59)
unfolding clocked
clocked_is h i s e =
    let a = unless (ltb 23 h) _ e in
    let b = unless (ltb 59 i) _ a.1 in
    (ltb-false 23 h a.0, ltb-false 59 i b.0, leb-true s 59 b.1)

moment : (c : List ℕ) → stated c ≡ true → Moment c
unfolding stated
moment c e =
    let a = both (eqb (length c) 15) _ e in
    let b = both (eqb (get_or c 14 0) 90) _ a.1 in
    let d = both (digits 14 c) _ b.1 in
    let f = both (dated (two c 0 * 100 + two c 2) (two c 4) (two c 6)) _ d.1 in
    let g = dated_is (two c 0 * 100 + two c 2) (two c 4) (two c 6) f.0 in
    let h = clocked_is (two c 8) (two c 10) (two c 12) f.1 in
    let fits = two_fits c 14 d.0 in
    let is = pair_two c 14 d.0 in
    let p = fits 0 (omega arith) in
    let q = fits 2 (omega arith) in
    let century : (two c 0 * 100 + two c 2) / 100 ≡ two c 0 = omega arith in
    let within : (two c 0 * 100 + two c 2) % 100 ≡ two c 2 = omega arith in
    let last : get_or c 14 0 ≡ 90 = eqb-true (get_or c 14 0) 90 b.0 in
    record {
      year = two c 0 * 100 + two c 2;
      month = two c 4;
      day = two c 6;
      hour = two c 8;
      minute = two c 10;
      second = two c 12;
      year_fits = omega arith;
      day_from = g.0;
      day_to = g.1;
      hour_to = h.0;
      minute_to = h.1;
      second_to = h.2;
      bytes =
          members_are 15 0 c (sym (eqb-true (length c) 15 a.0)) ∙
          (rw (century, within, is 0 (omega arith), is 2 (omega arith), is 4 (omega arith), is 6 (omega arith), is 8 (omega arith), is 10 (omega arith), is 12 (omega arith), last));
    }

-- a time that is read is exactly YYYYMMDDhhmmssZ of a day of the calendar
pub time_sound : (c : List ℕ) {n : Bool} {m : ℕ} → time c ≡ of n m → (n ≡ false) × (m ≡ 0) × Moment c
unfolding time
time_sound c {n} {m} e = go (stated c) refl e
  where
    go : (t : Bool) → stated c ≡ t → pick t (of false 0) (Err BadTime) ≡ of n m → (n ≡ false) × (m ≡ 0) × Moment c
    go true f g = let z = of_same g in (sym z.0, sym z.1, moment c f)
    go false f g = let z : ◌≡◌ {A = ℕ} 0 1 = cc in absurd (omega arith)
