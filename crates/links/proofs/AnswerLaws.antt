-- Which rows stand on the list (demand 3).
use Prim.Native.Nat.{ℕ, zero, suc, ◌+◌}
use Rattle.std.specs.Prelude.{◌≡◌, ◌↔◌, ◌⊎◌, Bool, true, false, ◌&&◌, eqb}
use Rattle.std.proofs.Math.Path.{refl}
use Rattle.std.proofs.Common.{sym, ap, ◌∙◌, inl, inr, true≢false, arith, eqb-true}
use mathlib.Core.List.Memᴰ
use mathlib.Core.List.{List, [], ◌∷◌, ◌++◌, map, Memᴰ}
use Rattle.std.proofs.lemmas.Bool.{eqb-false}
use Rattle.elements.specs.Choice.{choose}
use Rattle.rules.specs.Reading.{Rec}
use Rattle.rules.specs.EqualLaws.{equal_is}
use Rattle.rules.specs.EqualLaws.{equal_self}
use Rattle.links.specs.Links.{Held, held, Object, objects_of, states, answering, id_kind, Found, none, found, first_of, is_id, bears, answers, Reply, by, missing, Row, row, replies, rows_of, record_rows, object_rows, links_from, links, chosen, object_at, States, Bears}

-- what bearing is
bears_is : (link : ℕ) (x : List ℕ) (o : Object) → (bears link x o ≡ true) ↔ ((h : Held) × (answering link o.entry ≡ true) × (first_of (id_kind o.entry) o.records ≡ found h) × (h.pay ≡ x))
unfolding bears
bears_is link x o = go (answering link o.entry) refl (first_of (id_kind o.entry) o.records) refl
  where
    go : (t : Bool) → answering link o.entry ≡ t → (f : Found) → first_of (id_kind o.entry) o.records ≡ f → ((t && is_id x f) ≡ true) ↔ ((h : Held) × (answering link o.entry ≡ true) × (first_of (id_kind o.entry) o.records ≡ found h) × (h.pay ≡ x))
    go true e none g = (λ z. absurd (true≢false (sym z)), λ w. absurd (let y : none ≡ found w.0 = sym g ∙ w.2 in let z : ◌≡◌ {A = ℕ} 0 1 = cc in omega arith))
    go true e (found h) g = (λ z. (h, e, g, sym (equal_is x h.pay z)), λ w. let y : found h ≡ found w.0 = sym g ∙ w.2 in let q : h.pay ≡ x = cc w.3 in rw q (equal_self x))
    go false e f g = (λ z. absurd (true≢false (sym z)), λ w. absurd (true≢false (sym w.1 ∙ e)))

-- j is a number of the objects os, which are counted from k on
pub record Counted (os : List Object) (k j : ℕ) (o : Object) : Type 0 where
  pub off : ℕ
  pub from : j ≡ k + off
  pub numbered : object_at os off ≡ chosen o

counted_first : (o : Object) (os : List Object) (k : ℕ) → Counted (o ∷ os) k k o
counted_first o os k = record { off = 0; from = omega arith; numbered = refl }

counted_next : {os : List Object} {k j : ℕ} {o : Object} (p : Object) → Counted os (suc k) j o → Counted (p ∷ os) k j o
counted_next p c = record { off = suc c.off; from = omega (arith, c.from); numbered = c.numbered }

-- one of them, or one of the others
counted_cases : {p : Object} {os : List Object} {k j : ℕ} {o : Object} → Counted (p ∷ os) k j o → ((j ≡ k) × (p ≡ o)) ⊎ Counted os (suc k) j o
counted_cases {p} {os} {k} {j} {o} c = go c.off c.from c.numbered
  where
    go : (m : ℕ) → j ≡ k + m → object_at (p ∷ os) m ≡ chosen o → ((j ≡ k) × (p ≡ o)) ⊎ Counted os (suc k) j o
    go zero e n = inl (omega arith, cc)
    go (suc m) e n = inr (record { off = m; from = omega arith; numbered = n })

counted_none : {k j : ℕ} {o : Object} → Counted [] k j o → ⊥
counted_none c = let z : ◌≡◌ {A = ℕ} 0 1 = cc c.numbered in omega arith

-- the answers are the objects that bear the identifier
answers_are : (link : ℕ) (x : List ℕ) (k : ℕ) (os : List Object) (j : ℕ) → Memᴰ j (answers link x k os) ↔ ((o : Object) × Counted os k j o × (bears link x o ≡ true))
unfolding answers
answers_are link x k [] j = (λ m. absurd (Memᴰ.not-nil m), λ w. absurd (counted_none w.1))
answers_are link x k (p ∷ os) j = go (bears link x p) refl (answers_are link x (suc k) os j)
  where
    W : Type 0
    W = (o : Object) × Counted (p ∷ os) k j o × (bears link x o ≡ true)

    go : (t : Bool) → bears link x p ≡ t → Memᴰ j (answers link x (suc k) os) ↔ ((o : Object) × Counted os (suc k) j o × (bears link x o ≡ true)) → Memᴰ j (choose t (λ _. k ∷ answers link x (suc k) os) (λ _. answers link x (suc k) os)) ↔ W
    go true e i = (to, from)
      where
        to : Memᴰ j (k ∷ answers link x (suc k) os) → W
        to (Memᴰ.head q) = (p, rw q (counted_first p os k), e)
        to (Memᴰ.tail m) = let w = i.0 m in (w.0, counted_next p w.1, w.2)

        from : W → Memᴰ j (k ∷ answers link x (suc k) os)
        from (o, c, b) = at (counted_cases c)
          where
            at : ((j ≡ k) × (p ≡ o)) ⊎ Counted os (suc k) j o → Memᴰ j (k ∷ answers link x (suc k) os)
            at (inl w) = Memᴰ.head w.0
            at (inr d) = Memᴰ.tail (i.1 (o, d, b))
    go false e i = (λ m. let w = i.0 m in (w.0, counted_next p w.1, w.2), from)
      where
        from : W → Memᴰ j (answers link x (suc k) os)
        from (o, c, b) = at (counted_cases c)
          where
            at : ((j ≡ k) × (p ≡ o)) ⊎ Counted os (suc k) j o → Memᴰ j (answers link x (suc k) os)
            at (inl w) = absurd (true≢false (sym b ∙ ap (bears link x) (sym w.1) ∙ e))
            at (inr d) = i.1 (o, d, b)

-- each object that answers is a reply, and missing is one exactly if none does
reply_by : (js : List ℕ) (j : ℕ) → Memᴰ (by j) (replies js) ↔ Memᴰ j js
reply_by [] j = (to, λ m. absurd (Memᴰ.not-nil m))
  where
    to : Memᴰ (by j) (missing ∷ []) → Memᴰ j []
    to (Memᴰ.head q) = absurd (let z : ◌≡◌ {A = ℕ} 0 1 = cc in omega arith)
    to (Memᴰ.tail m) = absurd (Memᴰ.not-nil m)
reply_by (k ∷ js) j = (to, λ m. Memᴰ.map by m)
  where
    to : Memᴰ (by j) (map by (k ∷ js)) → Memᴰ j (k ∷ js)
    to m = let w = Memᴰ.of_map by (k ∷ js) m in let e : j ≡ w.0 = cc w.2 in rw e w.1

reply_missing : (js : List ℕ) → Memᴰ missing (replies js) ↔ (js ≡ [])
reply_missing [] = (λ _. refl, λ _. Memᴰ.head refl)
reply_missing (k ∷ js) = (to, λ e. absurd (let z : ◌≡◌ {A = ℕ} 0 1 = cc in omega arith))
  where
    to : Memᴰ missing (map by (k ∷ js)) → (k ∷ js) ≡ []
    to m = let w = Memᴰ.of_map by (k ∷ js) m in absurd (let z : ◌≡◌ {A = ℕ} 0 1 = cc w.2 in omega arith)

-- the row is one of the record h of object i
pub record Said (os : List Object) (i entry : ℕ) (h : Held) (r : Row) : Type 0 where
  pub object : r.object ≡ i
  pub at : r.at ≡ h.at
  pub link : r.link ≡ states entry h.kind
  pub some : r.link ≡ 0 → ⊥
  pub reply : Memᴰ r.reply (replies (answers r.link h.pay 0 os))

module _ (os : List Object) where
  pub stated_are : (i entry : ℕ) (h : Held) (r : Row) → Memᴰ r (record_rows os i entry h) ↔ Said os i entry h r
  unfolding record_rows
  stated_are i entry h r = go (eqb l 0) refl
    where
      l : ℕ
      l = states entry h.kind

      go : (t : Bool) → eqb l 0 ≡ t → Memᴰ r (choose t (λ _. []) (λ _. rows_of l i h.at (answers l h.pay 0 os))) ↔ Said os i entry h r
      go true e = (λ m. absurd (Memᴰ.not-nil m), λ s. absurd (s.some (s.link ∙ eqb-true l 0 e)))
      go false e = (to, from)
        where
          to : Memᴰ r (rows_of l i h.at (answers l h.pay 0 os)) → Said os i entry h r
          to m =
              let w = Memᴰ.of_map (row l i h.at) (replies (answers l h.pay 0 os)) m in
              rw (sym w.2) (record { object = refl; at = refl; link = refl; some = eqb-false l 0 e; reply = w.1 })

          from : Said os i entry h r → Memᴰ r (rows_of l i h.at (answers l h.pay 0 os))
          from s =
              let t : row l i h.at r.reply ≡ r = rw (sym s.link, sym s.object, sym s.at) refl in
              rw t at (Memᴰ.map (row l i h.at) (rw s.link at s.reply))

  object_rows_lem : (i entry : ℕ) (hs : List Held) (r : Row) → Memᴰ r (object_rows os i entry hs) ↔ ((h : Held) × Memᴰ h hs × Said os i entry h r)
  unfolding object_rows
  object_rows_lem i entry [] r = (λ m. absurd (Memᴰ.not-nil m), λ w. absurd (Memᴰ.not-nil w.1))
  object_rows_lem i entry (g ∷ hs) r = let i' = object_rows_lem i entry hs r in (λ m. to i' (Memᴰ.append_cases (record_rows os i entry g) m), λ w. from i' w.0 w.1 w.2)
    where
      Rest : Type 0
      Rest = Memᴰ r (object_rows os i entry hs) ↔ ((h : Held) × Memᴰ h hs × Said os i entry h r)

      to : Rest → Memᴰ r (record_rows os i entry g) ⊎ Memᴰ r (object_rows os i entry hs) → (h : Held) × Memᴰ h (g ∷ hs) × Said os i entry h r
      to j (inl m) = (g, Memᴰ.head refl, (stated_are i entry g r).0 m)
      to j (inr m) = let w = j.0 m in (w.0, Memᴰ.tail w.1, w.2)

      from : Rest → (h : Held) → Memᴰ h (g ∷ hs) → Said os i entry h r → Memᴰ r (record_rows os i entry g ++ object_rows os i entry hs)
      from j h (Memᴰ.head q) s = Memᴰ.append_left (object_rows os i entry hs) ((stated_are i entry g r).1 (rw q at s))
      from j h (Memᴰ.tail m) s = Memᴰ.append_right (record_rows os i entry g) (j.1 (h, m, s))

  links_rows : (k : ℕ) (ps : List Object) (r : Row) → Memᴰ r (links_from os k ps) ↔ ((i : ℕ) × (o : Object) × (h : Held) × Counted ps k i o × Memᴰ h o.records × Said os i o.entry h r)
  unfolding links_from
  links_rows k [] r = (λ m. absurd (Memᴰ.not-nil m), λ w. absurd (counted_none w.3))
  links_rows k (p ∷ ps) r = let i' = links_rows (suc k) ps r in (λ m. to i' (Memᴰ.append_cases (object_rows os k p.entry p.records) m), λ w. from i' w.0 w.1 w.2 (counted_cases w.3) w.4 w.5)
    where
      Rest : Type 0
      Rest = Memᴰ r (links_from os (suc k) ps) ↔ ((i : ℕ) × (o : Object) × (h : Held) × Counted ps (suc k) i o × Memᴰ h o.records × Said os i o.entry h r)

      to : Rest → Memᴰ r (object_rows os k p.entry p.records) ⊎ Memᴰ r (links_from os (suc k) ps) → (i : ℕ) × (o : Object) × (h : Held) × Counted (p ∷ ps) k i o × Memᴰ h o.records × Said os i o.entry h r
      to j (inl m) = let w = (object_rows_lem k p.entry p.records r).0 m in (k, p, w.0, counted_first p ps k, w.1, w.2)
      to j (inr m) = let w = j.0 m in (w.0, w.1, w.2, counted_next p w.3, w.4, w.5)

      from : Rest → (i : ℕ) (o : Object) (h : Held) → ((i ≡ k) × (p ≡ o)) ⊎ Counted ps (suc k) i o → Memᴰ h o.records → Said os i o.entry h r → Memᴰ r (object_rows os k p.entry p.records ++ links_from os (suc k) ps)
      from j i o h (inl (e, q)) m s = Memᴰ.append_left (links_from os (suc k) ps) ((object_rows_lem k p.entry p.records r).1 (h, rw (← q) at m, rw (← q, e) at s))
      from j i o h (inr c) m s = Memᴰ.append_right (object_rows os k p.entry p.records) (j.1 (i, o, h, c, m, s))

-- a number counted from 0 on is the object's own
counted_zero : {os : List Object} {i : ℕ} {o : Object} → Counted os 0 i o → object_at os i ≡ chosen o
counted_zero {os} {i} {o} c = let e : c.off ≡ i = omega (arith, c.from) in rw e at c.numbered

module _ (rs : List Rec) (link i p : ℕ) where
  -- a row stands on the list if and only if its object states that link there and its reply is one
  on_list : (y : Reply) → Memᴰ (row link i p y) (links rs) ↔ ((x : List ℕ) × States (objects_of rs) link i p x × Memᴰ y (replies (answers link x 0 (objects_of rs))))
  unfolding links
  on_list y = let w = links_rows (objects_of rs) 0 (objects_of rs) (row link i p y) in (λ m. to (w.0 m), λ z. w.1 (from z.0 z.1 z.2))
    where
      Held-there : Type 0
      Held-there = (j : ℕ) × (o : Object) × (h : Held) × Counted (objects_of rs) 0 j o × Memᴰ h o.records × Said (objects_of rs) j o.entry h (row link i p y)

      to : Held-there → (x : List ℕ) × States (objects_of rs) link i p x × Memᴰ y (replies (answers link x 0 (objects_of rs)))
      to (j, o, h, c, m, s) = (h.pay, record { object = o; numbered = rw s.object (counted_zero c); kind = h.kind; holds = rw s.at m; says = sym s.link; some = s.some }, s.reply)

      from : (x : List ℕ) → States (objects_of rs) link i p x → Memᴰ y (replies (answers link x 0 (objects_of rs))) → Held-there
      from x s m = (i, s.object, held p s.kind x, record { off = i; from = omega arith; numbered = s.numbered }, s.holds, record { object = refl; at = refl; link = sym s.says; some = s.some; reply = m })

  bears_to : (x : List ℕ) (j : ℕ) → Memᴰ j (answers link x 0 (objects_of rs)) ↔ Bears (objects_of rs) link x j
  bears_to x j = let w = answers_are link x 0 (objects_of rs) j in (λ m. to (w.0 m), λ b. w.1 (b.object, record { off = j; from = omega arith; numbered = b.numbered }, (bears_is link x b.object).1 (b.field, b.class, b.first, b.equal)))
    where
      to : (o : Object) × Counted (objects_of rs) 0 j o × (bears link x o ≡ true) → Bears (objects_of rs) link x j
      to (o, c, e) = let v = (bears_is link x o).0 e in record { object = o; numbered = counted_zero c; class = v.1; field = v.0; first = v.2; equal = v.3 }

  -- a row with an answer
  pub rows_answered : (j : ℕ) → Memᴰ (row link i p (by j)) (links rs) ↔ ((x : List ℕ) × States (objects_of rs) link i p x × Bears (objects_of rs) link x j)
  rows_answered j = (
    λ m. let w = (on_list (by j)).0 m in (w.0, w.1, (bears_to w.0 j).0 ((reply_by (answers link w.0 0 (objects_of rs)) j).0 w.2)),
    λ z. (on_list (by j)).1 (z.0, z.1, (reply_by (answers link z.0 0 (objects_of rs)) j).1 ((bears_to z.0 j).1 z.2)),
  )

  -- one without
  pub rows_missing : Memᴰ (row link i p missing) (links rs) ↔ ((x : List ℕ) × States (objects_of rs) link i p x × ((j : ℕ) → Bears (objects_of rs) link x j → ⊥))
  rows_missing = (
    λ m. let w = (on_list missing).0 m in (w.0, w.1, λ j b. Memᴰ.not-nil (rw ((reply_missing (answers link w.0 0 (objects_of rs))).0 w.2) at ((bears_to w.0 j).1 b))),
    λ z. (on_list missing).1 (z.0, z.1, (reply_missing (answers link z.0 0 (objects_of rs))).1 (empty (answers link z.0 0 (objects_of rs)) (λ j m. z.2 j ((bears_to z.0 j).0 m)))),
  )
    where
      empty : (js : List ℕ) → ((j : ℕ) → Memᴰ j js → ⊥) → js ≡ []
      empty [] f = refl
      empty (j ∷ js) f = absurd (f j (Memᴰ.head refl))

-- any row
pub rows_stated : (rs : List Rec) (r : Row) → Memᴰ r (links rs) → (x : List ℕ) × States (objects_of rs) r.link r.object r.at x
rows_stated rs r m = let w = (on_list rs r.link r.object r.at r.reply).0 m in (w.0, w.1)
