-- The payloads of the records of one kind, and the names in records.
use Rattle.std.specs.Prelude.{ℕ, ◌+◌, ◌≤◌, ◌↔◌, Bool, true, false, ◌&&◌, not, ◌≡◌, refl, length, get_or, drop, leb, eqb, T}
use mathlib.Core.List.Memᴰ
use mathlib.Core.List.{List, [], ◌∷◌, ◌++◌, Memᴰ}
use Rattle.std.proofs.Common.{⊎_elim, sym, ap, ◌∙◌, arith, length-append, eqb-true}
use Rattle.std.proofs.Math.Option.{none, some}
use Rattle.std.proofs.lemmas.Bool.{eqb-false}
use Rattle.elements.specs.Choice.{pick, choose}
use Rattle.elements.specs.Sealed.{among}
use Rattle.rules.specs.declared.table.Need.{Need}
use Rattle.rules.specs.declared.table.Need.TheVariants.{Required, Optional, Default}
use Rattle.rules.specs.declared.table.Row.{Row}
use Rattle.rules.specs.Reading.{Rec, rec}
use Rattle.rules.specs.Tables.{own_id_row}
use Rattle.rules.specs.Grammar.{Where, ◌on◌, each, Part, ◌and◌, slot, tagged, unless_empty, pay_of, field, fields, flat}
use Rattle.rules.specs.Kinds.{Among, none_there, there, kinds_of}
use Rattle.rules.specs.Layout.{Layout}
use Rattle.rules.specs.Files.{Name, names_path, names_of}

-- the payloads of the records of kind k, in order
unfoldable pub pays : ℕ → List Rec → List (List ℕ)
pays k [] = []
pays k (r ∷ rs) = choose (eqb r.kind k) (λ _. r.pay ∷ pays k rs) (λ _. pays k rs)

-- the own identifiers in records
abbrev pub ids_of : List Rec → List (List ℕ)
ids_of rs = pays own_id_row.kind rs

pub pays_append : (k : ℕ) (rs ss : List Rec) → pays k (rs ++ ss) ≡ pays k rs ++ pays k ss
unfolding pays
pays_append k [] ss = refl
pays_append k (r ∷ rs) ss = go (eqb r.kind k) (pays_append k rs ss)
  where
    go : (b : Bool) → pays k (rs ++ ss) ≡ pays k rs ++ pays k ss → choose b (λ _. r.pay ∷ pays k (rs ++ ss)) (λ _. pays k (rs ++ ss)) ≡ choose b (λ _. r.pay ∷ pays k rs) (λ _. pays k rs) ++ pays k ss
    go true h = rw h refl
    go false h = h

pub and_pays : (k : ℕ) (P Q : Part) (v : Where) (x : P.Of) (y : Q.Of) {f g : List (List ℕ)} → pays k (P.book v x) ≡ f → pays k (Q.book (v on length (P.bytes x)) y) ≡ g → pays k ((P and Q).book v (x, y)) ≡ f ++ g
and_pays k P Q v x y e d = pays_append k (P.book v x) (Q.book (v on length (P.bytes x)) y) ∙ rw (e, d) refl

-- of parts one after the other, from those of each
pub pays_flat : {A : Type 0} (k : ℕ) (f : A → List Rec) (g : A → List (List ℕ)) → ((x : A) → pays k (f x) ≡ g x) → (xs : List A) → pays k (flat f xs) ≡ flat g xs
unfolding pays
pays_flat k f g h [] = refl
pays_flat k f g h (x ∷ xs) = pays_append k (f x) (flat f xs) ∙ rw (h x, pays_flat k f g h xs) refl

-- the same where they stand one behind the other
pub pays_each : {A : Type 0} (k : ℕ) (b : A → List ℕ) (f : Where → A → List Rec) (g : A → List (List ℕ)) → ((v : Where) (x : A) → pays k (f v x) ≡ g x) → (v : Where) (xs : List A) → pays k (each b f v xs) ≡ flat g xs
unfolding pays
pays_each k b f g h v [] = refl
pays_each k b f g h v (x ∷ xs) = pays_append k (f v x) (each b f (v on length (b x)) xs) ∙ rw (h v x, pays_each k b f g h (v on length (b x)) xs) refl

-- the names in records behind records
pub names_append : (rs ss : List Rec) → names_of (rs ++ ss) ≡ names_of rs ++ names_of ss
unfolding names_of
names_append [] ss = refl
names_append (r ∷ rs) ss = rw (names_append rs ss) (go (names_path r.kind r.pay) (record { tag = get_or r.pay 0 0; path = drop 2 r.pay }))
  where
    go : (b : Bool) (n : Name) → choose b (λ _. n ∷ (names_of rs ++ names_of ss)) (λ _. names_of rs ++ names_of ss) ≡ choose b (λ _. n ∷ names_of rs) (λ _. names_of rs) ++ names_of ss
    go true n = refl
    go false n = refl

-- there are none without 0110
pub names_none : (rs : List Rec) → pays 0x0110 rs ≡ [] → names_of rs ≡ []
unfolding names_of pays
names_none [] h = refl
names_none (r ∷ rs) h = go (eqb r.kind 0x0110) (leb 2 (length r.pay) && eqb (get_or r.pay 1 0) 0) (names_none rs) h
  where
    go : (b c : Bool) → (pays 0x0110 rs ≡ [] → names_of rs ≡ []) → choose b (λ _. r.pay ∷ pays 0x0110 rs) (λ _. pays 0x0110 rs) ≡ [] → choose (b && c) (λ _. record { tag = get_or r.pay 0 0; path = drop 2 r.pay } ∷ names_of rs) (λ _. names_of rs) ≡ []
    go true c i h = absurd (omega (arith, ap length h))
    go false c i h = i h

-- where no record is of kind k
pub pays_none : (k : ℕ) (ks : List ℕ) → T (not (among k ks)) → {rs : List Rec} → Among ks rs → pays k rs ≡ []
unfolding pays
pays_none k ks t none_there = refl
pays_none k ks t (there {r = r} {rs = rs} h g) = go (eqb r.kind k) refl (pays_none k ks t g)
  where
    both : (b : Bool) → T b → T (not b) → ⊥
    both true u v = v
    both false u v = u

    go : (b : Bool) → eqb r.kind k ≡ b → pays k rs ≡ [] → choose b (λ _. r.pay ∷ pays k rs) (λ _. pays k rs) ≡ []
    go true e i = absurd (both (among k ks) (rw (eqb-true r.kind k e) at h) t)
    go false e i = i

-- of a layout without that kind
pub lacks : (k : ℕ) (P : Layout) → T (not (among k P.all)) → (v : Where) (x : P.part.Of) → pays k (P.part.book v x) ≡ []
lacks k P t v x = pays_none k P.all t (P.only v x)

-- how many of these kinds are k
abbrev pub times : ℕ → List ℕ → ℕ
times k [] = 0
times k (x ∷ xs) = pick (eqb x k) 1 0 + times k xs

-- of kind k there are at most as many records as kinds
pub record Few (k : ℕ) (ks : List ℕ) (rs : List Rec) : Type 0 where
  pub most : length (pays k rs) ≤ times k ks

-- no record
none_few : (k : ℕ) (ks : List ℕ) → Few k ks []
unfolding pays
none_few k ks = record { most = omega arith }

-- one record
pub one_few : (k kind : ℕ) (p : List ℕ) → Few k (kind ∷ []) (rec kind p ∷ [])
unfolding pays
one_few k kind p = record { most = go (eqb kind k) }
  where
    go : (b : Bool) → length (choose b (λ _. p ∷ []) (λ _. [])) ≤ pick b 1 0 + 0
    go true = omega arith
    go false = omega arith

-- records behind records
times_append : (k : ℕ) (l m : List ℕ) → times k (l ++ m) ≡ times k l + times k m
times_append k [] m = omega arith
times_append k (x ∷ l) m = omega (arith, times_append k l m)

pub and_few : {k : ℕ} {l m : List ℕ} {bs cs : List Rec} → Few k l bs → Few k m cs → Few k (l ++ m) (bs ++ cs)
and_few {k} {l} {m} {bs} {cs} f g = record { most = rw (pays_append k bs cs) (omega (arith, length-append (pays k bs) (pays k cs), times_append k l m)) }

-- a rest
pub rest_few : (k kind : ℕ) (c : List ℕ) → Few k (kind ∷ []) (unless_empty kind c)
rest_few k kind [] = none_few k (kind ∷ [])
rest_few k kind (x ∷ c) = one_few k kind (x ∷ c)

-- the components of a table
slot_few : (k : ℕ) (r : Row) (d : Need) (v : Where) (x : (slot d (tagged r.tag (field r))).Of) → Few k (r.kind ∷ []) ((slot d (tagged r.tag (field r))).book v x)
slot_few k r Required v x = one_few k r.kind (pay_of r.form x)
slot_few k r Optional v none = none_few k (r.kind ∷ [])
slot_few k r Optional v (some x) = one_few k r.kind (pay_of r.form x)
slot_few k r (Default d) v none = none_few k (r.kind ∷ [])
slot_few k r (Default d) v (some x) = one_few k r.kind (pay_of r.form x)

pub fields_few : (k : ℕ) (rs : List Row) (v : Where) (x : (fields rs).Of) → Few k (kinds_of rs) ((fields rs).book v x)
fields_few k [] v x = none_few k []
fields_few k (r ∷ rs) v (x, y) = and_few {l = r.kind ∷ []} (slot_few k r r.need v x) (fields_few k rs _ y)

-- the records of kind k, by their payloads
pub in_pays : (k : ℕ) (x : List ℕ) (rs : List Rec) → Memᴰ x (pays k rs) ↔ Memᴰ (rec k x) rs
unfolding pays
in_pays k x [] = ((λ m. absurd (Memᴰ.not-nil m)), (λ m. absurd (Memᴰ.not-nil m)))
in_pays k x (r ∷ rs) = go (eqb r.kind k) refl (in_pays k x rs)
  where
    tail : {A : Type 0} {y z : A} {l : List A} → (y ≡ z → ⊥) → Memᴰ y (z ∷ l) → Memᴰ y l
    tail n m = ⊎_elim (λ e. absurd (n e)) (λ t. t) (Memᴰ.cases_cons m)

    go : (b : Bool) → eqb r.kind k ≡ b → Memᴰ x (pays k rs) ↔ Memᴰ (rec k x) rs → Memᴰ x (choose b (λ _. r.pay ∷ pays k rs) (λ _. pays k rs)) ↔ Memᴰ (rec k x) (r ∷ rs)
    go true e h = (
      (λ m. ⊎_elim (λ q. Memᴰ.head (rw (← eqb-true r.kind k e) (ap (rec r.kind) q))) (λ t. Memᴰ.tail (h.0 t)) (Memᴰ.cases_cons m)),
      (λ m. ⊎_elim (λ q. Memᴰ.head (ap (λ (y : Rec). y.pay) q)) (λ t. Memᴰ.tail (h.1 t)) (Memᴰ.cases_cons m)),
    )
    go false e h = ((λ m. Memᴰ.tail (h.0 m)), (λ m. h.1 (tail (λ q. eqb-false r.kind k e (sym (ap (λ (y : Rec). y.kind) q))) m)))
