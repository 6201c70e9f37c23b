-- Records that lie in bytes: the first of them, and that they are no others.
use Rattle.std.specs.Prelude.{ℕ, suc, ◌+◌, ◌<◌, ◌≤◌, ◌≡◌, refl, List, [], ◌∷◌, ◌++◌, length, drop, take, set}
use Rattle.std.proofs.Common.{sym, ap, ◌∙◌, arith, ltb→lt}
use Rattle.std.proofs.Math.Seq.{slice, slice_empty}
use Rattle.std.proofs.lemmas.List.Edits.{sets}
use Rattle.std.proofs.lemmas.List.{take-set-le}
use Rattle.elements.specs.Lists.{cons, begins, ends}
use Rattle.elements.specs.Put.{Put}
use Rattle.elements.specs.PutLaws.{put_length, put_there}
use Rattle.elements.specs.Record.{record_bytes}
use Rattle.rules.specs.Reading.{Rec, rec}
use Rattle.rules.specs.Files.{two}
use Rattle.rules.specs.Book.{encode}
use Rattle.rules.specs.LookLaws.{Laid}
use Rattle.rules.specs.ValueLaws.{two_bytes}
use Rattle.files.specs.Scan.{Lies, Whole, behind}
use Rattle.objects.specs.DidLaws.{encode_one}

-- a part that is known to be two
pub record Parted (b : List ℕ) (x y z : ℕ) (p q : List ℕ) : Type 0 where
  pub within : y ≤ z
  pub left : slice x y b ≡ p
  pub right : slice y z b ≡ q

pub part : (b : List ℕ) (x z : ℕ) (p q : List ℕ) → x ≤ z → z ≤ length b → slice x z b ≡ p ++ q → Parted b x (x + length p) z p q
part b x z [] q h l e = let y : x + 0 ≡ x = omega arith in record { within = omega arith; left = rw y (slice_empty x b); right = rw y e }
part b x z (a ∷ p) q h l e =
    let w = begins b x z l e in
    let i = part b (x + 1) z p q (omega (arith, w.before)) l w.rest in
    let y : x + 1 + length p ≡ x + suc (length p) = omega arith in
    record {
      within = omega (arith, i.within);
      left = cons b x (x + suc (length p)) (omega arith) (omega (arith, i.within)) ∙ rw (w.first, ← y, i.left) refl;
      right = rw y at i.right;
    }

-- the first of the records from j on
pub record First (b : List ℕ) (j end : ℕ) (r : Rec) (rest : List Rec) : Type 0 where
  pub long : two b j ≡ length r.pay + 2
  pub kind : two b (j + 2) ≡ r.kind
  pub pay : slice (j + 4) (behind b j) b ≡ r.pay
  pub within : behind b j ≤ end
  pub here : slice j (behind b j) b ≡ encode (r ∷ [])
  pub after : Lies b (behind b j) end rest

pub first : {b : List ℕ} {j end : ℕ} {r : Rec} {rest : List Rec} → Lies b j end (r ∷ rest) → First b j end r rest
unfolding encode record_bytes
first {b} {j} {end} {r} {rest} l =
    let w = part b j end (record_bytes r.kind r.pay) (encode rest) l.low l.high l.are in
    let m : ℕ = j + length (record_bytes r.kind r.pay) in
    let h : m ≤ length b = omega (arith, w.within, l.high) in
    let x = begins b j m h w.left in
    let y = begins b (j + 1) m h x.rest in
    let z = begins b (j + 1 + 1) m h y.rest in
    let v = begins b (j + 1 + 1 + 1) m h z.rest in
    let two_more : j + 1 + 1 ≡ j + 2 = omega arith in
    let four_more : j + 1 + 1 + 1 + 1 ≡ j + 4 = omega arith in
    let long : two b j ≡ length r.pay + 2 = rw (x.first, y.first) (two_bytes (length r.pay + 2) (omega (arith, l.laid.1, l.small))) in
    let kind : two b (j + 2) ≡ r.kind = rw (← two_more, z.first, v.first) (two_bytes r.kind (ltb→lt r.kind 65536 l.laid.0)) in
    let e : m ≡ behind b j = omega (arith, long) in
    record {
      long = long;
      kind = kind;
      pay = rw (← e, ← four_more) v.rest;
      within = omega (arith, w.within, e);
      here = rw (← e) (w.left ∙ sym (encode_one r.kind r.pay));
      after = record { low = omega (arith, w.within, e); high = l.high; are = rw (← e) w.right; size = l.size; small = l.small; laid = l.laid.2 };
    }

-- records that lie somewhere have a first one
pub data Begun (b : List ℕ) (j end : ℕ) : List Rec → Type 0 where
  some : {r : Rec} {rest : List Rec} → First b j end r rest → Begun b j end (r ∷ rest)

pub some_lie : {b : List ℕ} {j end : ℕ} {rs : List Rec} → Lies b j end rs → j < end → Begun b j end rs
unfolding encode
some_lie {b} {j} {end} {rs} l h = go rs l
  where
    go : (rs : List Rec) → Lies b j end rs → Begun b j end rs
    go [] l = absurd (omega (arith, ends b j end l.high l.are))
    go (r ∷ rest) l = some (first l)

pub none_lie : {b : List ℕ} {j end : ℕ} {rs : List Rec} → Lies b j end rs → end ≤ j → rs ≡ []
none_lie {b} {j} {end} {rs} l h = go rs l
  where
    go : (rs : List Rec) → Lies b j end rs → rs ≡ []
    go [] l = refl
    go (r ∷ rest) l = absurd (omega (arith, (first l).within, (first l).long))

-- the record is whole
pub first_whole : {b : List ℕ} {j end : ℕ} {r : Rec} {rest : List Rec} → First b j end r rest → Whole b j
first_whole f = record { least = omega (arith, f.long); fits = omega (arith, f.within, f.after.high) }

pub whole : {b : List ℕ} {j end : ℕ} {rs : List Rec} → Lies b j end rs → j < end → Whole b j
whole {b} {j} {end} l h = go (some_lie l h)
  where
    go : {rs : List Rec} → Begun b j end rs → Whole b j
    go (some f) = first_whole f

-- no others lie there
same_there : {b : List ℕ} {j end : ℕ} (rs ws : List Rec) → Lies b j end rs → Lies b j end ws → rs ≡ ws
unfolding encode
same_there {b} {j} {end} [] ws l k = sym (none_lie k (ends b j end l.high l.are))
same_there {b} {j} {end} (r ∷ rs) [] l k = absurd (omega (arith, ends b j end k.high k.are, (first l).within, (first l).long))
same_there {b} {j} {end} (r ∷ rs) (w ∷ ws) l k =
    let f = first l in
    let g = first k in
    let h : rec r.kind r.pay ≡ rec w.kind w.pay = rw (sym f.kind ∙ g.kind, sym f.pay ∙ g.pay) refl in
    let t : rs ≡ ws = same_there {j = behind b j} rs ws f.after g.after in
    cc

pub lie_same : {b : List ℕ} {j end : ℕ} {rs ws : List Rec} → Lies b j end rs → Lies b j end ws → rs ≡ ws
lie_same {rs = rs} {ws = ws} l k = same_there rs ws l k

-- what is put behind a place leaves what lies before it
sets_behind : (xs l : List ℕ) (e o : ℕ) → e ≤ o → take e (sets l o xs) ≡ take e l
sets_behind [] l e o h = refl
sets_behind (x ∷ xs) l e o h = sets_behind xs (set l o x) e (suc o) (omega arith) ∙ take-set-le e l o x h

pub put_lies : {a b : List ℕ} {o q i end : ℕ} {xs : List ℕ} {rs : List Rec} → Put a b o q xs → end ≤ o → Lies a i end rs → Lies b i end rs
put_lies {a} {b} {o} {q} {i} {end} {xs} f h l = record {
  low = l.low;
  high = omega (arith, l.high, put_length f);
  are = ap (drop i) (rw f.to (sets_behind xs a end o h)) ∙ l.are;
  size = l.size;
  small = l.small;
  laid = l.laid;
}

-- records that were put where there is room lie there
pub put_lie : (s : List ℕ) {a b : List ℕ} {i end : ℕ} {cs : List Rec} → Put a b i end (encode cs) → end ≤ length a → length s ≤ 32768 → Laid (length s) cs → Lies b i end cs
put_lie s f h m l = record { low = omega (arith, f.at); high = omega (arith, put_length f); are = put_there f h; size = length s; small = m; laid = l }
