-- "12 paths" and "13 twice": what each check passes, and where it refuses.
use Prim.Native.Nat.{ℕ, zero, suc, ◌-◌, ◌≤◌}
use Rattle.std.specs.Prelude.{List, [], ◌∷◌, Bool, true, false, ◌||◌, ◌≡◌, refl, get_or, drop, ltb, eqb, T, Err, Ok}
use Rattle.std.proofs.Common.{sym, arith, ltb-false, le-ltb, eqb-true}
use Rattle.std.proofs.Math.Nat.{le_trans}
use Rattle.std.proofs.Math.ListN.{length}
use Rattle.elements.specs.declared.fault.Fault.{Fault}
use Rattle.elements.specs.ChoiceLaws.{by_choose}
use Rattle.elements.specs.Header.{header}
use Rattle.elements.specs.HeaderLaws.{header_in}
use Rattle.rules.specs.Reading.{Rec}
use Rattle.rules.specs.Tables.{own_id_row}
use Rattle.rules.specs.Files.{Check, fine, wrong_at, is_naming, end_of, entry_place, equal, met, first_again, repeated}
use Rattle.rules.specs.FaultLaws.{of_reading}
use Rattle.rules.specs.GrammarLaws.{or_false, Marks}
use Rattle.rules.specs.TestLaws.{clash}
use Rattle.rules.specs.EqualLaws.{equal_is, equal_self}
use Rattle.rules.specs.Pays.{pays, ids_of}
use Rattle.cards.specs.Card.{NotIn, Distinct}
use Rattle.elements.specs.Answer.{Head}

-- what meets none of these is not one of them
met_none : (x : List ℕ) (ys : List (List ℕ)) → met x ys ≡ false → NotIn x ys
met_none x [] e = tt
met_none x (y ∷ ys) e = let v = or_false (equal x y) (met x ys) e in ((λ z. clash (equal x y) (rw z (equal_self y)) v.0), met_none x ys v.1)

-- what is not one of them meets none
none_met : (x : List ℕ) (ys : List (List ℕ)) → NotIn x ys → met x ys ≡ false
none_met x [] h = refl
none_met x (y ∷ ys) h = go (equal x y) refl (none_met x ys h.1)
  where
    go : (b : Bool) → equal x y ≡ b → met x ys ≡ false → (b || met x ys) ≡ false
    go true e m = absurd (h.0 (equal_is x y e))
    go false e m = m

-- none of these is one of those before
abbrev pub Apart : List (List ℕ) → List (List ℕ) → Type 0
Apart before [] = Unit {0}
Apart before (p ∷ ps) = NotIn p before × Apart before ps

-- where there was none before
pub apart_none : (ps : List (List ℕ)) → Apart [] ps
apart_none [] = tt
apart_none (p ∷ ps) = (tt, apart_none ps)

-- one of those before is none of these
apart_tail : (p : List ℕ) (before ps : List (List ℕ)) → Apart (p ∷ before) ps → NotIn p ps × Apart before ps
apart_tail p before [] a = (tt, tt)
apart_tail p before (q ∷ ps) a = let v = apart_tail p before ps a.1 in (((λ z. a.0.0 (sym z)), v.0), (a.0.1, v.1))

-- what is none of these may stand before
apart_cons : (p : List ℕ) (before ps : List (List ℕ)) → NotIn p ps → Apart before ps → Apart (p ∷ before) ps
apart_cons p before [] n a = tt
apart_cons p before (q ∷ ps) n a = (((λ z. n.0 (sym z)), a.0), apart_cons p before ps n.1 a.1)

-- new, and unlike one another
abbrev pub New : List (List ℕ) → List (List ℕ) → Type 0
New before ps = Apart before ps × Distinct ps

-- one that was not met before, and the others after it
new_cons : (p : List ℕ) (before ps : List (List ℕ)) → met p before ≡ false → New (p ∷ before) ps → New before (p ∷ ps)
new_cons p before ps m v = let w = apart_tail p before ps v.0 in ((met_none p before m, w.1), (w.0, v.1))

-- the others after it
new_rest : (p : List ℕ) (before ps : List (List ℕ)) → New before (p ∷ ps) → New (p ∷ before) ps
new_rest p before ps v = (apart_cons p before ps v.1.0 v.0.1, v.1.1)

-- 12 passes only what is new
pub once_sound : (before ps : List (List ℕ)) → ltb (first_again before ps) (length ps) ≡ false → New before ps
unfolding first_again
once_sound before [] e = (tt, tt)
once_sound before (p ∷ ps) e =
    by_choose (λ (n : ℕ). ltb n (suc (length ps)) ≡ false → New before (p ∷ ps)) (met p before)
    (λ _ _ z. let y = ltb-false 0 (suc (length ps)) z in absurd (omega arith))
    (λ _ m z. let y = ltb-false (suc (first_again (p ∷ before) ps)) (suc (length ps)) z in new_cons p before ps m (once_sound (p ∷ before) ps (le-ltb (first_again (p ∷ before) ps) (length ps) (omega arith)))) e

-- and all that is
pub once_complete : (before ps : List (List ℕ)) → New before ps → ltb (first_again before ps) (length ps) ≡ false
unfolding first_again
once_complete before [] v = refl
once_complete before (p ∷ ps) v =
    let z = ltb-false (first_again (p ∷ before) ps) (length ps) (once_complete (p ∷ before) ps (new_rest p before ps v)) in
    rw (none_met p before v.0.0) (le-ltb (suc (first_again (p ∷ before) ps)) (suc (length ps)) (omega arith))

module _ (s : List ℕ) where
  -- an element ends where its container ends, or before
  end_of_lem : (end at : ℕ) → at ≤ end → end_of s at (header s at end) ≤ end
  end_of_lem end at h = go (header s at end) refl
    where
      go : (w : Head) → header s at end ≡ w → end_of s at w ≤ end
      go (Err r) q = h
      go (Ok x) q = (header_in s at end q).2

  -- 12's place lies in the dump
  pub entry_place_lem : (g m end at : ℕ) → at ≤ end → end ≤ length s → entry_place s g m end at ≤ length s
  unfolding entry_place
  entry_place_lem zero m end at h l = le_trans h l
  entry_place_lem (suc g) m end at h l =
      let i = end_of_lem end at h in
      by_choose (λ (n : ℕ). n ≤ length s) (ltb at end)
      (λ _ _. by_choose (λ (n : ℕ). n ≤ length s) (is_naming s (header s at end))
      (λ _ _. by_choose (λ (n : ℕ). n ≤ length s) (eqb m 0) (λ _ _. le_trans h l) (λ _ _. entry_place_lem g (m - 1) end (end_of s at (header s at end)) i l))
      (λ _ _. entry_place_lem g m end (end_of s at (header s at end)) i l))
      (λ _ _. le_trans h l)

-- what 13 comes to: a fault of reading at a place that lies in the dump, or new identifiers
pub data IdsRead (n : ℕ) (before ids : List (List ℕ)) : Check → Type 0 where
  again : {f : Fault} (p : ℕ) → (p ≤ n) × T (of_reading f) → IdsRead n before ids (wrong_at f p)
  new : New before ids → IdsRead n before ids fine

-- the first place lies in the dump
marks_head : (n : ℕ) (ps : List ℕ) → Marks n ps → get_or ps 0 0 ≤ n
marks_head n [] h = omega arith
marks_head n (p ∷ ps) h = h.0

-- and those after it
marks_tail : (n : ℕ) (ps : List ℕ) → Marks n ps → Marks n (drop 1 ps)
marks_tail n [] h = tt
marks_tail n (p ∷ ps) h = h.1

-- an object's record is no identifier's
not_own : (k : ℕ) → eqb k 0x0120 ≡ true → eqb k own_id_row.kind ≡ false
not_own k e = rw (eqb-true k 0x0120 e) refl

-- one identifier more
ids_cons : {n : ℕ} {x : List ℕ} {before ids : List (List ℕ)} {c : Check} → met x before ≡ false → IdsRead n (x ∷ before) ids c → IdsRead n before (x ∷ ids) c
ids_cons m (again p o) = again p o
ids_cons {x = x} {before = before} {ids = ids} m (new v) = new (new_cons x before ids m v)

-- 13 passes only new identifiers
pub ids_sound : (n : ℕ) (before : List (List ℕ)) (place : ℕ) (ps : List ℕ) (rs : List Rec) → place ≤ n → Marks n ps → IdsRead n before (ids_of rs) (repeated before place ps rs)
unfolding repeated pays
ids_sound n before place ps [] h m = new (tt, tt)
ids_sound n before place ps (r ∷ rs) h m =
    by_choose (IdsRead n before (ids_of (r ∷ rs))) (eqb r.kind 0x0120)
    (λ _ e. rw (not_own r.kind e) (ids_sound n before (get_or ps 0 0) (drop 1 ps) rs (marks_head n ps m) (marks_tail n ps m)))
    (λ _ _. by_choose (IdsRead n before (ids_of (r ∷ rs))) (eqb r.kind own_id_row.kind)
    (λ _ e. rw e (by_choose (IdsRead n before (r.pay ∷ ids_of rs)) (met r.pay before) (λ _ _. again place (h, tt)) (λ _ f. ids_cons f (ids_sound n (r.pay ∷ before) place ps rs h m))))
    (λ _ e. rw e (ids_sound n before place ps rs h m)))

-- and all that are new
pub ids_complete : (before : List (List ℕ)) (place : ℕ) (ps : List ℕ) (rs : List Rec) → New before (ids_of rs) → repeated before place ps rs ≡ fine
unfolding repeated pays
ids_complete before place ps [] v = refl
ids_complete before place ps (r ∷ rs) v =
    by_choose (λ (c : Check). c ≡ fine) (eqb r.kind 0x0120)
    (λ _ e. ids_complete before (get_or ps 0 0) (drop 1 ps) rs (rw (not_own r.kind e) at v))
    (λ _ _. by_choose (λ (c : Check). c ≡ fine) (eqb r.kind own_id_row.kind)
    (λ _ e.
    let w : New before (r.pay ∷ ids_of rs) = rw e at v in
    rw (none_met r.pay before w.0.0) (ids_complete (r.pay ∷ before) place ps rs (new_rest r.pay before (ids_of rs) w)))
    (λ _ e. ids_complete before place ps rs (rw e at v)))
