-- A Path: its three components, and the rule that index and length stand both or neither.
use Prim.Native.Nat.{ℕ, ◌+◌}
use mathlib.Core.Path.{◌≡◌, refl, sym}
use mathlib.Core.Bool.{Bool, true, false, ◌&&◌, ◌||◌, not}
use mathlib.Core.List.{List, [], ◌∷◌, ◌++◌}
use native.Mathlib.Omega.{arith}
use lib.Seq.{slice}
use lib.Dec.{ltb, eqb}
use borrow.Author.Tests.{eq-eqb, ne_eqb}
use Rattle.std.specs.Prelude.{Err, Ok}
use Rattle.elements.specs.declared.fault.Fault.TheVariants.{PathPair}
use Rattle.elements.specs.declared.answer.Refusal.{Refusal}
use Rattle.elements.specs.Answer.{Head, refused}
use Rattle.elements.specs.Choice.{choose}
use Rattle.elements.specs.ChoiceLaws.{by_choose}
use Rattle.elements.specs.Header.{header}
use Rattle.objects.specs.declared.part.Cursor.{Cursor}
use Rattle.rules.specs.declared.table.Row.{Row}
use Rattle.rules.specs.Reading.{Rec, rec, Res, took, and_then}
use Rattle.rules.specs.Parts.{components, ended, surplus}
use Rattle.rules.specs.Tables.{path_rows_from, efid_or_path_row, index_row, length_row}
use Rattle.rules.specs.Objects.{has, same, paired, path_from}
use Rattle.objects.specs.Did.{Part, came, Did, did, fell, Stays, Paired}
use Rattle.objects.specs.SeenLaws.{Seen, bad, gone, stood, seen_at, then_none}
use Rattle.objects.specs.DidLaws.{did_then, did_same}
use Rattle.rules.specs.Layouts as layouts

-- a row's record is among what was read exactly if the place moved
and_false : (b : Bool) → (b && false) ≡ false
and_false true = refl
and_false false = refl

seen_has : {kind at : ℕ} {w : Res} → Seen kind at w → {bs : List Rec} {ms : List ℕ} {n : ℕ} → w ≡ took bs ms n → (k : ℕ) → has k bs ≡ (eqb kind k && not (eqb at n))
seen_has bad e k = absurd (cc)
seen_has {kind} {at} gone {bs} {ms} {n} e k =
    let u : [] ≡ bs = cc in
    let v : at ≡ n = cc in
    rw (sym u, eq-eqb at n v, and_false (eqb kind k)) refl
seen_has {kind} {at} (stood p {n = m} h) {bs} {ms} {n} e k =
    let u : rec kind p ∷ [] ≡ bs = cc in
    let v : m ≡ n = cc in
    rw (sym u, ne_eqb at n (λ z. omega arith)) (go (eqb kind k))
  where
    go : (b : Bool) → (b || false) ≡ (b && true)
    go true = refl
    go false = refl

has_append : (k : ℕ) (bs cs : List Rec) → has k (bs ++ cs) ≡ (has k bs || has k cs)
has_append k [] cs = refl
has_append k (b ∷ bs) cs = rw (has_append k bs cs) (go (eqb b.kind k))
  where
    go : (x : Bool) → (x || (has k bs || has k cs)) ≡ ((x || has k bs) || has k cs)
    go true = refl
    go false = refl

same_not : (x y : Bool) → same ((not x || false) || false) (not y || false) ≡ same x y
same_not true true = refl
same_not true false = refl
same_not false true = refl
same_not false false = refl

-- nothing follows: no record
ended_none : (s : List ℕ) (end at : ℕ) {bs : List Rec} {ms : List ℕ} {n : ℕ} → ended s end at ≡ took bs ms n → bs ≡ []
unfolding ended
ended_none s end at {bs} {ms} {n} = by_choose (λ w. w ≡ took bs ms n → bs ≡ []) (ltb at end) (λ _ _. go (header s at end)) (λ _ _ e. let u : bs ≡ [] = cc in u)
  where
    go : (h : Head) → surplus at h ≡ took bs ms n → bs ≡ []
    go (Err r) e = absurd (cc)
    go (Ok x) e = absurd (cc)

-- what was taken
record Taken (w : Res) (n : ℕ) : Type 0 where
  pub recs : List Rec
  pub marks : List ℕ
  pub is : w ≡ took recs marks n

taken : {a b : List ℕ} {o at end : ℕ} {w : Res} {p : Cursor} → Did a b o at end w (Ok p) → Taken w p.dump
taken (did {bs = bs} {ms = ms} _ _ _ _) = record { recs = bs; marks = ms; is = refl }

-- the rule, on what was read
module _ {a b : List ℕ} {o x e : ℕ} (at : ℕ) where
  paired_fails : (k : ℕ) {w : Res} {y : Refusal} → Did a b o x e w (Err y) → Did a b o x e (paired k at w) (Err y)
  paired_fails k (fell z) = fell z

  paired_did : (k : ℕ) {n v : ℕ} {bs : List Rec} {ms : List ℕ} (t : Bool) {r : Part} → same (has (k + 1) bs) (has (k + 2) bs) ≡ t →
      Did a b o x e (took bs ms n) (came n v) → r ≡ choose t (λ _. came n v) (λ _. refused PathPair at) → Did a b o x e (paired k at (took bs ms n)) r
  paired_did k true q d z = rw (q, z) d
  paired_did k false q d z = rw (q, z) (fell (did_same d))

-- the three components of a table, each by itself
abbrev three : List ℕ → List Row → ℕ → ℕ → Res
three s rows x e = and_then (components s (slice 0 1 rows) e x) (λ i. and_then (components s (slice 1 2 rows) e i) (λ j. components s (slice 2 3 rows) e j))

-- of the Path whose records have kinds from K on
module _ (s : List ℕ) (K at x e : ℕ) where
  path_is : path_from s K at x e ≡ paired K at (and_then (three s (path_rows_from K) x e) (λ n. ended s e n))
  unfolding layouts.path_from components
  path_is = simp then_none

  module _ {a b c d : List ℕ} {o : ℕ} {i j k n : Cursor} (d0 : Did a b o x e (components s (efid_or_path_row K ∷ []) e x) (Ok i)) (d1 : Did b c i.book i.dump e (components s (index_row K ∷ []) e i.dump) (Ok j))
      (d2 : Did c d j.book j.dump e (components s (length_row K ∷ []) e j.dump) (Ok k)) (d3 : Did d d k.book k.dump e (ended s e k.dump) (Ok n)) where
    t0 : Taken (components s (efid_or_path_row K ∷ []) e x) i.dump
    t0 = taken d0

    t1 : Taken (components s (index_row K ∷ []) e i.dump) j.dump
    t1 = taken d1

    t2 : Taken (components s (length_row K ∷ []) e j.dump) k.dump
    t2 = taken d2

    t3 : Taken (ended s e k.dump) n.dump
    t3 = taken d3

    abbrev held : List Rec
    held = (t0.recs ++ (t1.recs ++ t2.recs)) ++ t3.recs

    whole : and_then (three s (path_rows_from K) x e) (λ m. ended s e m) ≡ took held ((t0.marks ++ (t1.marks ++ t2.marks)) ++ t3.marks) n.dump
    whole = rw (t0.is, t1.is, t2.is, t3.is) refl

    has_held : (m : ℕ) → has m held ≡ (((eqb (efid_or_path_row K).kind m && not (eqb x i.dump)) || ((eqb (index_row K).kind m && not (eqb i.dump j.dump)) || (eqb (length_row K).kind m && not (eqb j.dump k.dump)))) || false)
    has_held m =
        let u0 = seen_has (seen_at s (efid_or_path_row K) e x) t0.is m in
        let u1 = seen_has (seen_at s (index_row K) e i.dump) t1.is m in
        let u2 = seen_has (seen_at s (length_row K) e j.dump) t2.is m in
        rw (has_append m (t0.recs ++ (t1.recs ++ t2.recs)) t3.recs, has_append m t0.recs (t1.recs ++ t2.recs), has_append m t1.recs t2.recs, u0, u1, u2, ended_none s e k.dump t3.is) refl

    ruled : same (has (index_row K).kind held) (has (length_row K).kind held) ≡ same (eqb i.dump j.dump) (eqb j.dump k.dump)
    ruled = rw (has_held (K + 1), has_held (K + 2), ne_eqb K (K + 1) (omega arith), ne_eqb K (K + 2) (omega arith), ne_eqb (K + 1) (K + 2) (omega arith), ne_eqb (K + 2) (K + 1) (omega arith), eq-eqb (K + 1) (K + 1) refl, eq-eqb (K + 2) (K + 2) refl) (same_not (eqb i.dump j.dump) (eqb j.dump k.dump))

    four : Did a d o x e (and_then (three s (path_rows_from K) x e) (λ m. ended s e m)) (Ok n)
    four = did_then (did_then d0 _ (did_then d1 _ d2)) _ d3

    pairs : {y : Part} → Paired at i.dump j.dump k.dump n.dump n.book y → Did a d o x e (path_from s K at x e) y
    pairs pair = rw (path_is, whole) (paired_did at K (same (eqb i.dump j.dump) (eqb j.dump k.dump)) ruled (rw whole at four) pair.is)

  module _ (rows : List Row) (own : rows ≡ path_rows_from K) {a : List ℕ} {o : ℕ} where
    pub path_fails : {b : List ℕ} {y : Refusal} → Did a b o x e (and_then (three s rows x e) (λ n. ended s e n)) (Err y) → Did a b o x e (path_from s K at x e) (Err y)
    path_fails d = rw path_is (paired_fails at K (rw own at d))

    pub path_pairs : {b c d : List ℕ} {i j k n : Cursor} {y : Part} → Did a b o x e (components s (slice 0 1 rows) e x) (Ok i) → Did b c i.book i.dump e (components s (slice 1 2 rows) e i.dump) (Ok j)
        → Did c d j.book j.dump e (components s (slice 2 3 rows) e j.dump) (Ok k) → Stays k.book k.dump e (ended s e k.dump) (Ok n) → Paired at i.dump j.dump k.dump n.dump n.book y → Did a d o x e (path_from s K at x e) y
    path_pairs {d = d} d0 d1 d2 d3 pair = pairs (rw own at d0) (rw own at d1) (rw own at d2) (d3.is d) pair
