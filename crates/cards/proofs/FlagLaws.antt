-- In an accepted book 0201 is 01 exactly when the 0202 behind it begins with the five bytes.
use Rattle.std.specs.Prelude.{ℕ, ◌≡◌, refl, Bool, true, false, List, [], ◌∷◌, ◌++◌, ◌↔◌, length, eqb}
use Rattle.std.proofs.Common.{ap, ◌∙◌, subst, inl, inr, arith, eqb-true, eq-eqb}
use Rattle.std.proofs.Math.Option.{none, some}
use Rattle.std.proofs.lemmas.Bool.{eqb-false}
use Rattle.elements.specs.Choice.{pick, choose}
use Rattle.elements.specs.ChoiceLaws.{both_true}
use Rattle.elements.specs.Lists.{Bytes}
use Rattle.rules.specs.Reading.{Rec, rec}
use Rattle.rules.specs.Files.{accepted, read_dump}
use Rattle.rules.specs.Grammar.{Where, origin, into, ◌on◌, one, many, fill}
use Rattle.rules.specs.Rulings.{starts_with, ours, flag_of}
use Rattle.rules.specs.Pays.{pays, pays_none, lacks}
use Rattle.rules.specs.Kinds.{fill_only}
use Rattle.rules.specs.Layouts as layouts
use Rattle.rules.specs.FileLayouts as filing
use Rattle.cards.specs.Card as card
use Rattle.cards.specs.Card.{Card}
use Rattle.cards.proofs.CardKinds.{in_none, nothing_flat, card_pays}
use Rattle.cards.proofs.DumpLaws.{accepted_card}
use Rattle.cards.specs.Flags.{Begins, FlagTold}

-- the test is of these five bytes
cons_eq : {x y : ℕ} {l m : List ℕ} → x ≡ y → l ≡ m → x ∷ l ≡ y ∷ m
cons_eq e q = rw (e, q) refl

starts_is : (l c : List ℕ) → starts_with l c ≡ true → (more : List ℕ) × (c ≡ l ++ more)
starts_is [] c e = (c, refl)
starts_is (x ∷ l) [] e = absurd (let z : ◌≡◌ {A = ℕ} 0 1 = cc in omega arith)
starts_is (x ∷ l) (y ∷ c) e =
    let v = both_true (eqb y x) (starts_with l c) e in
    let w = starts_is l c v.1 in
    (w.0, cons_eq (eqb-true y x v.0) w.1)

is_starts : (l more : List ℕ) → starts_with l (l ++ more) ≡ true
is_starts [] more = refl
is_starts (x ∷ l) more = rw (eq-eqb x x refl) (is_starts l more)

begins_ours : (aid : List ℕ) → Begins aid → ours aid ≡ true
begins_ours aid b = rw b.1 (is_starts (0xe8 ∷ 0x28 ∷ 0xbd ∷ 0x08 ∷ 0x0f ∷ []) b.0)

abbrev flag : Bool → List ℕ
flag t = pick t 1 0 ∷ []

told_by : (aid : List ℕ) → ((flag_of aid ≡ 1 ∷ []) ↔ Begins aid) × ((flag_of aid ≡ 0 ∷ []) ↔ (Begins aid → ⊥))
told_by aid = go (ours aid) refl
  where
    go : (t : Bool) → ours aid ≡ t → ((flag t ≡ 1 ∷ []) ↔ Begins aid) × ((flag t ≡ 0 ∷ []) ↔ (Begins aid → ⊥))
    go true e =
        let b : Begins aid = starts_is (0xe8 ∷ 0x28 ∷ 0xbd ∷ 0x08 ∷ 0x0f ∷ []) aid e in
        (((λ _. b), (λ _. refl)), ((λ q. let z : ◌≡◌ {A = ℕ} 0 1 = cc in absurd (omega arith)), (λ n. absurd (n b))))
    go false e =
        let n : Begins aid → ⊥ = λ b. let y = begins_ours aid b in let z : ◌≡◌ {A = ℕ} 0 1 = cc in omega arith in
        (((λ q. let z : ◌≡◌ {A = ℕ} 0 1 = cc in absurd (omega arith)), (λ b. absurd (n b))), ((λ _. n), (λ _. refl)))

-- ---- every 0201 of these records tells of the record behind it
abbrev Tells : Rec → List Rec → Type 0
Tells r [] = ⊥
Tells r (q ∷ qs) = (q.kind ≡ 0x0202) × (r.pay ≡ flag_of q.pay)

unfoldable AllTell : List Rec → Type 0
AllTell [] = Unit {0}
AllTell (r ∷ rs) = (r.kind ≡ 0x0201 → Tells r rs) × AllTell rs

tells_more : (r : Rec) (rs ss : List Rec) → Tells r rs → Tells r (rs ++ ss)
tells_more r [] ss t = absurd t
tells_more r (q ∷ qs) ss t = t

tell_append : (rs ss : List Rec) → AllTell rs → AllTell ss → AllTell (rs ++ ss)
unfolding AllTell
tell_append [] ss a b = b
tell_append (r ∷ rs) ss a b = ((λ e. tells_more r rs ss (a.0 e)), tell_append rs ss a.1 b)

-- where there is none
tell_none : (rs : List Rec) → pays 0x0201 rs ≡ [] → AllTell rs
unfolding AllTell pays
tell_none [] e = tt
tell_none (r ∷ rs) e = go (eqb r.kind 0x0201) refl e (tell_none rs)
  where
    go : (t : Bool) → eqb r.kind 0x0201 ≡ t → choose t (λ _. r.pay ∷ pays 0x0201 rs) (λ _. pays 0x0201 rs) ≡ [] → (pays 0x0201 rs ≡ [] → AllTell rs) → (r.kind ≡ 0x0201 → Tells r rs) × AllTell rs
    go true q z i = absurd (omega (arith, ap length z))
    go false q z i = ((λ k. absurd (eqb-false r.kind 0x0201 q k)), i z)

-- a template
template_tells : (v : Where) (x : (layouts.template).part.Of) → AllTell ((layouts.template).part.book v x)
unfolding AllTell layouts.template layouts.discretionary layouts.path_from
template_tells v (((aid, fields), inner), others) = ((λ _. (refl, refl)), tell_none ((layouts.template_parts).part.book v (((aid, fields), inner), others)) (pays_none 0x0201 (layouts.template_parts).all tt ((layouts.template_parts).only v (((aid, fields), inner), others))))

items_tell : (v : Where) (xs : List (filing.dir_item).Of) → AllTell ((many (one filing.dir_item)).book v xs)
unfolding AllTell
items_tell v [] = tt
items_tell v (inl x ∷ xs) =
    let i = into v ((filing.dir_item).shape (inl x)) in
    let j = v on length ((one filing.dir_item).bytes (inl x)) in
    tell_append ((layouts.template).part.book i x) ((many (one filing.dir_item)).book j xs) (template_tells i x) (items_tell j xs)
items_tell v (inr x ∷ xs) = ((λ e. absurd (omega arith)), items_tell (v on length ((one filing.dir_item).bytes (inr x))) xs)

-- EF.DIR
dir_tells : (v : Where) (x : (card.ef_dir).Of) → AllTell ((card.ef_dir).book v x)
unfolding AllTell
dir_tells v none = tt
dir_tells v (some (items, filling)) = ((λ e. absurd (omega arith)), tell_append ((many (one filing.dir_item)).book origin items) ((fill 0x0212).book v filling) (items_tell origin items) (tell_none ((fill 0x0212).book v filling) (pays_none 0x0201 (0x0212 ∷ []) tt (fill_only 0x0212 v filling))))

-- the others have none
abbrev others : Card → List Rec
others c = (card.cia).book origin c.info ++ ((card.od).book origin c.main ++ (card.files 1 (card.names_of c.main)).book origin c.dirs)

others_tell : (c : Card) → AllTell (others c)
unfolding layouts.cia layouts.info
others_tell c =
    let more = (card.od).book origin c.main ++ (card.files 1 (card.names_of c.main)).book origin c.dirs in
    tell_append ((card.cia).book origin c.info) more (tell_none ((card.cia).book origin c.info) (lacks 0x0201 layouts.cia tt origin c.info))
    (tell_none more (card_pays 0x0201 (λ _. []) (λ o. in_none 0x0201 refl refl o) refl refl (refl, refl, refl) c.main (card.names_of c.main) c.dirs ∙ nothing_flat (card.objects_of c)))

tells_at : (us vs : List Rec) (p : List ℕ) → AllTell (us ++ rec 0x0201 p ∷ vs) → FlagTold p vs
unfolding AllTell
tells_at [] [] p a = absurd (a.0 refl)
tells_at [] (q ∷ vs) p a = let t = a.0 refl in let u = told_by q.pay in record { aid = q.pay; more = vs; next = rw (← t.0) refl; is_ours = rw t.1 u.0; is_not_lem = rw t.1 u.1 }
tells_at (u ∷ us) vs p a = tells_at us vs p a.1

-- "in an accepted book 0201 is 01 exactly when the 0202 behind it begins with the five bytes"
pub flag_told : (d : List ℕ) → Bytes d → (us vs : List Rec) (p : List ℕ) → read_dump d ≡ accepted (us ++ rec 0x0201 p ∷ vs) → FlagTold p vs
flag_told d bytes us vs p e =
    let c = accepted_card d (us ++ rec 0x0201 p ∷ vs) bytes e in
    let x = c.it in
    tells_at us vs p (subst AllTell c.book (tell_append (others x) ((card.ef_dir).book origin x.dir) (others_tell x) (dir_tells origin x.dir)))
