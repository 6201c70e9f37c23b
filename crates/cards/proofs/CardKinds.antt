-- Where in a card's book its paths, its own identifiers and its conditions' identifiers stand.
use Rattle.std.specs.Prelude.{ℕ, zero, suc, ◌+◌, ◌≤◌, Bool, true, false, not, ◌↔◌, ◌≡◌, eqb, T}
use mathlib.Core.List.{List, [], ◌∷◌, ◌++◌, append-nil, append_assoc, Memᴰ}
use Rattle.std.proofs.Math.Logic.{inl, inr}
use Rattle.std.proofs.Math.Option.{Option, none, some}
use Rattle.std.proofs.Math.Path.{refl}
use Rattle.std.proofs.Common.{sym, ◌∙◌, arith, le-leb, eqb-true}
use Rattle.std.proofs.Math.ListN.{length}
use Rattle.elements.specs.Choice.{choose}
use Rattle.elements.specs.Sealed.{among}
use Rattle.rules.specs.declared.table.Class.{Class}
use Rattle.rules.specs.declared.table.Class.TheVariants.{Keys, Certificates, Containers, Authentications}
use Rattle.rules.specs.declared.table.ObjectType.{ObjectType}
use Rattle.rules.specs.declared.table.Sort.TheVariants.{Always, Identifier, Not, And, Or, Other}
use Rattle.rules.specs.declared.table.Row.{Row}
use Rattle.rules.specs.Reading.{Rec, rec}
use Rattle.rules.specs.Blocks.{closing, inner}
use Rattle.rules.specs.TestLaws.{and_left, and_right}
use Rattle.rules.specs.Tables.{class_of, type_of, kind_of, certificate_id_row, own_id_row, key_rows, certificate_rows, authentication_rows, common_rows, rule_rows}
use Rattle.rules.specs.Parts.{kept_out}
use Rattle.rules.specs.Grammar.{Where, opening, origin, ◌on◌, into, low, each, ◌and◌, one, many, element_bytes, first_of, field, fields, optional, tagged, fill, flat}
use Rattle.rules.specs.Kinds.{kinds_of, fields_only}
use Rattle.rules.specs.Conditions.{condition}
use Rattle.rules.specs.Layout.{rest as rest_of, ended, apart, due, maybe}
use Rattle.rules.specs.Layouts as layouts
use Rattle.rules.specs.Entries as entries
use Rattle.rules.specs.Files as files
use Rattle.rules.specs.Files.{Name}
use Rattle.rules.specs.Pays.{pays, pays_append, and_pays, pays_each, pays_none, names_append, names_none, lacks, times, Few, one_few, and_few, rest_few, fields_few, in_pays}
use Rattle.cards.specs.Card as card
use Rattle.cards.specs.Card.{Object, records_of, behind, identifiers_in}
use Rattle.cards.proofs.BlockLaws.{records_are, behind_inner}

-- ---- an object: what its common part and its class say of a kind that stands nowhere else in it
abbrev Elsewhere : ℕ → Type 0
Elsewhere k = (eqb 0x0120 k ≡ false) × T (not (among k (layouts.subclass).all)) × ((x : ObjectType) → T (not (among k (layouts.typed x).all)))

module _ (k : ℕ) (e : Elsewhere k) (f : (layouts.common).part.Of → List (List ℕ)) (g : (c : Class) → Where → (layouts.class c).part.Of → List (List ℕ))
    (common : (v : Where) (x : (layouts.common).part.Of) → pays k ((layouts.common).part.book v x) ≡ f x) (class : (c : Class) (v : Where) (x : (layouts.class c).part.Of) → pays k ((layouts.class c).part.book v x) ≡ g c v x) where
  object_pays : (o : Object) → (w : Where) × (pays k (records_of o) ≡ f (card.common_part o.0 o.1) ++ g (class_of o.0) w (card.class_part o.0 o.1))
  unfolding pays entries.object layouts.contents card.common_part card.class_part
  object_pays (t, (tag, (((x, y), z), w)), v) =
      let one = (due 0x30 layouts.common).part in
      let two = (due 0x30 (layouts.class (class_of t))).part in
      let three = (maybe 0xa0 layouts.subclass).part in
      let four = (due 0xa1 (ended (apart (layouts.typed (type_of t tag))))).part in
      let i = into v (low tag ((layouts.contents t tag).part.bytes (((x, y), z), w))) in (
        into (i on length (one.bytes x)) (low 0x30 ((layouts.class (class_of t)).part.bytes y)),
        rw e.0 (and_pays k (one and two and three) four i ((x, y), z) w
            (and_pays k (one and two) three i (x, y) z (and_pays k one two i x y (common _ x) (class (class_of t) _ y)) (pays_none k (layouts.subclass).all e.1 ((maybe 0xa0 layouts.subclass).only _ z)))
            (lacks k (layouts.typed (type_of t tag)) (e.2 (type_of t tag)) _ w) ∙ append-nil _ ∙ append-nil _),
      )

-- ---- 0150 stands in the class of authentication objects alone, in front
own_elsewhere : Elsewhere own_id_row.kind
unfolding layouts.insides
own_elsewhere = (refl, tt, (λ x. tt))

abbrev later : List Row → List Row
later [] = []
later (r ∷ rs) = rs

given_own : (v : Where) (i : Option (List ℕ)) → pays own_id_row.kind ((optional (tagged own_id_row.tag (field own_id_row))).book v i) ≡ card.given i
unfolding pays
given_own v none = refl
given_own v (some id) = refl

class_own : (c : Class) (v : Where) (x : (layouts.class c).part.Of) → pays own_id_row.kind ((layouts.class c).part.book v x) ≡ card.own_id_in c x
unfolding layouts.class card.own_id_in
class_own Keys v x = lacks own_id_row.kind (layouts.class Keys) tt v x
class_own Certificates v x = lacks own_id_row.kind (layouts.class Certificates) tt v x
class_own Containers v x = lacks own_id_row.kind (layouts.class Containers) tt v x
class_own Authentications v ((id, references), rest) =
    let k = own_id_row.kind in
    let first = optional (tagged own_id_row.tag (field own_id_row)) in
    let others = fields (later authentication_rows) in
    let r = rest_of 0x015f (kept_out authentication_rows) in
    and_pays k (first and others) r.part v (id, references) rest (and_pays k first others v id references (given_own v id) (pays_none k (kinds_of (later authentication_rows)) tt (fields_only (later authentication_rows) v references))) (lacks k r tt v rest) ∙ append-nil (card.given id ++ []) ∙ append-nil (card.given id)

common_own : (v : Where) (x : (layouts.common).part.Of) → pays own_id_row.kind ((layouts.common).part.book v x) ≡ []
unfolding layouts.common layouts.rules layouts.rule
common_own v x = lacks own_id_row.kind layouts.common tt v x

-- an object's own identifiers are the payloads of its 0150
pub own_pays : (o : Object) → pays own_id_row.kind (records_of o) ≡ card.own_id o
own_pays o = (object_pays own_id_row.kind own_elsewhere (λ _. []) (λ c _. card.own_id_in c) common_own class_own o).1

-- ---- a kind that stands once in the table of a class, and nowhere else, stands in an object at most once
abbrev Once : ℕ → Type 0
Once k = Elsewhere k × T (not (among k (layouts.common).all)) × ((c : Class) → times k (layouts.class c).all ≤ 1)

-- of a class: its table, and its rest
class_few : (k : ℕ) (c : Class) (v : Where) (x : (layouts.class c).part.Of) → Few k (layouts.class c).all ((layouts.class c).part.book v x)
unfolding layouts.class
class_few k Keys v (x, rest) = and_few {l = kinds_of key_rows} (fields_few k key_rows v x) (rest_few k 0x013f rest)
class_few k Certificates v (x, rest) = and_few {l = kinds_of certificate_rows} (fields_few k certificate_rows v x) (rest_few k 0x014f rest)
class_few k Authentications v (x, rest) = and_few {l = kinds_of authentication_rows} (fields_few k authentication_rows v x) (rest_few k 0x015f rest)
class_few k Containers v x = one_few k 0x0160 x

-- of an object
once : (k : ℕ) → Once k → (o : Object) → length (pays k (records_of o)) ≤ 1
once k (e, lacking, few) o =
    let a = object_pays k e (λ _. []) (λ c v x. pays k ((layouts.class c).part.book v x)) (lacks k layouts.common lacking) (λ c v x. refl) o in
    rw a.1 (omega (arith, (class_few k (class_of o.0) a.0 (card.class_part o.0 o.1)).most, few (class_of o.0)))

-- a certificate's identifier, 0140, and an authentication object's own, 0150
pub certificate_once : (o : Object) → length (pays certificate_id_row.kind (records_of o)) ≤ 1
unfolding layouts.insides
certificate_once = once certificate_id_row.kind ((refl, tt, (λ x. tt)), tt, (λ c. elim c as (λ k. times certificate_id_row.kind (layouts.class k).all ≤ 1) [ Keys ↦ omega arith | Certificates ↦ omega arith | Authentications ↦ omega arith | Containers ↦ omega arith ]))

pub own_once : (o : Object) → length (pays own_id_row.kind (records_of o)) ≤ 1
unfolding layouts.insides
own_once = once own_id_row.kind (own_elsewhere, tt, (λ c. elim c as (λ k. times own_id_row.kind (layouts.class k).all ≤ 1) [ Keys ↦ omega arith | Certificates ↦ omega arith | Authentications ↦ omega arith | Containers ↦ omega arith ]))

-- ---- 0127 stands in the rules alone
id_elsewhere : Elsewhere (kind_of Identifier)
unfolding layouts.insides
id_elsewhere = (refl, tt, (λ x. tt))

class_none : (c : Class) (v : Where) (x : (layouts.class c).part.Of) → pays (kind_of Identifier) ((layouts.class c).part.book v x) ≡ []
unfolding layouts.class
class_none Keys v x = lacks (kind_of Identifier) (layouts.class Keys) tt v x
class_none Certificates v x = lacks (kind_of Identifier) (layouts.class Certificates) tt v x
class_none Containers v x = lacks (kind_of Identifier) (layouts.class Containers) tt v x
class_none Authentications v x = lacks (kind_of Identifier) (layouts.class Authentications) tt v x

condition_pays : (l : ℕ) (v : Where) (x : (condition l).item.Of) → pays (kind_of Identifier) ((condition l).item.book v x) ≡ identifiers_in l x
unfolding condition pays identifiers_in
condition_pays zero v x = absurd x
condition_pays (suc l) v (Always, nothing) = refl
condition_pays (suc l) v (Identifier, id) = refl
condition_pays (suc l) v (Not, inner) = condition_pays l _ inner
condition_pays (suc l) v (And, inner) = pays_each (kind_of Identifier) (one (condition l).item).bytes (condition l).item.book (identifiers_in l) (condition_pays l) _ inner
condition_pays (suc l) v (Or, inner) = pays_each (kind_of Identifier) (one (condition l).item).bytes (condition l).item.book (identifiers_in l) (condition_pays l) _ inner
condition_pays (suc l) v (Other, sealed) = refl

rule_pays : (v : Where) (x : (layouts.rule).part.Of) → pays (kind_of Identifier) ((layouts.rule).part.book v x) ≡ card.in_rule x
unfolding layouts.rule card.in_rule
rule_pays v ((mode, c), rest) =
    let k = kind_of Identifier in
    let r = rest_of 0x012c [] in
    and_pays k (fields rule_rows and one (condition 8).item) r.part v (mode, c) rest (and_pays k (fields rule_rows) (one (condition 8).item) v mode c (pays_none k (kinds_of rule_rows) tt (fields_only rule_rows v mode)) (condition_pays 8 _ c)) (lacks k r tt v rest) ∙ append-nil (identifiers_in 8 c)

rules_pays : (v : Where) (x : (layouts.rules).part.Of) → pays (kind_of Identifier) ((layouts.rules).part.book v x) ≡ card.in_rules x
unfolding layouts.rules card.in_rules
rules_pays v (first, others) =
    let k = kind_of Identifier in
    let part = (due 0x30 layouts.rule).part in
    and_pays k part (many part) v first others (rule_pays _ first) (pays_each k part.bytes part.book card.in_rule (λ v x. rule_pays _ x) _ others)

common_pays : (v : Where) (x : (layouts.common).part.Of) → pays (kind_of Identifier) ((layouts.common).part.book v x) ≡ card.in_common x
unfolding pays layouts.common card.in_common
common_pays v ((fs, given), rest) =
    let k = kind_of Identifier in
    let part = (maybe 0x30 layouts.rules).part in
    let r = rest_of 0x012f (0x30 ∷ kept_out common_rows) in
    and_pays k (fields common_rows and part) r.part v (fs, given) rest (and_pays k (fields common_rows) part v fs given (pays_none k (kinds_of common_rows) tt (fields_only common_rows v fs)) (go _ given)) (lacks k r tt v rest) ∙ append-nil (card.in_common ((fs, given), rest))
  where
    go : (v : Where) (given : Option (layouts.rules).part.Of) → pays (kind_of Identifier) ((maybe 0x30 layouts.rules).part.book v given) ≡ card.in_common ((fs, given), rest)
    go v none = refl
    go v (some rules) = rules_pays _ rules

-- "nested access conditions among them": the identifiers in the conditions of an object's rules, at any depth, are the payloads of its 0127, as many and in the same order
pub nested : (o : Object) → pays (kind_of Identifier) (records_of o) ≡ card.identifiers o
nested o = (object_pays (kind_of Identifier) id_elsewhere card.in_common (λ _ _ _. []) common_pays class_none o).1 ∙ append-nil (card.in_common (card.common_part o.0 o.1))

-- an identifier occurs in a condition of an object's rules if and only if the object has a 0127 with it
pub occurs : (o : Object) (x : List ℕ) → Memᴰ x (card.identifiers o) ↔ Memᴰ (rec (kind_of Identifier) x) (records_of o)
occurs o x = rw (← nested o) (in_pays (kind_of Identifier) x (records_of o))

-- ---- the objects of a card, and the paths that its entries name
flat_append : {A B : Type 0} (f : A → List B) (xs ys : List A) → flat f (xs ++ ys) ≡ flat f xs ++ flat f ys
flat_append f [] ys = refl
flat_append f (x ∷ xs) ys = rw (flat_append f xs ys) (sym (append_assoc (f x) (flat f xs) (flat f ys)))

fill_pays : (k kind : ℕ) → eqb kind k ≡ false → (v : Where) (x : (fill kind).Of) → pays k ((fill kind).book v x) ≡ []
unfolding pays
fill_pays k kind e v none = refl
fill_pays k kind e v (some (b, n)) = rw e refl

-- of a kind that stands in objects alone, from what is known of each object
module _ (k : ℕ) (g : Object → List (List ℕ)) (h : (o : Object) → pays k (records_of o) ≡ g o) (a : eqb 0x0110 k ≡ false) (b : eqb 0x0107 k ≡ false) (c : (eqb 0x0118 k ≡ false) × (eqb 0x0119 k ≡ false) × (eqb 0x011a k ≡ false)) where
  -- parts one after the other, each with its objects
  parts_pays : {A : Type 0} (bytes : A → List ℕ) (book : Where → A → List Rec) (objects : Where → A → List Object) → ((v : Where) (x : A) → pays k (book v x) ≡ flat g (objects v x)) → (v : Where) (xs : List A) → pays k (each bytes book v xs) ≡ flat g (each bytes objects v xs)
  unfolding pays
  parts_pays bytes book objects h v [] = refl
  parts_pays bytes book objects h v (x ∷ xs) =
      let w = v on length (bytes x) in
      pays_append k (book v x) (each bytes book w xs) ∙ rw (h v x, parts_pays bytes book objects h w xs) (sym (flat_append g (objects v x) (each bytes objects w xs)))

  objects_pays : (t : ℕ) (v : Where) (os : List (entries.object t).part.Of) → pays k ((many (entries.object t).part).book v os) ≡ flat g (card.under t v os)
  objects_pays t = parts_pays (entries.object t).part.bytes (entries.object t).part.book (λ v o. (t, o, v) ∷ []) (λ v o. h (t, o, v) ∙ sym (append-nil (g (t, o, v))))

  entry_pays : (v : Where) (x : (entries.item).Of) → pays k ((entries.item).book v x) ≡ flat g (card.in_entry v x)
  unfolding pays
  entry_pays v (inl (t, inl path)) = rw a refl
  entry_pays v (inl (t, inr objects)) = rw a (objects_pays t _ objects)
  entry_pays v (inr unknown) = rw a refl

  -- objects with their fill, in a file or in a record
  held_pays_lem : (t : ℕ) (v : Where) (x : (card.directory t).Of) → pays k ((many (entries.object t).part and fill 0x0107).book v x) ≡ flat g (card.under t v x.0)
  held_pays_lem t v (objects, filling) = and_pays k (many (entries.object t).part) (fill 0x0107) v objects filling (objects_pays t v objects) (fill_pays k 0x0107 b v filling) ∙ append-nil (flat g (card.under t v objects))

  record_pays : (t : ℕ) (v : Where) (r : (card.record_in t).Of) → pays k ((card.record_in t).book v r) ≡ flat g (card.under t (v on 2) r.0)
  unfolding pays
  record_pays t v r = rw c.2 (held_pays_lem t (v on 2) r)

  file_pays : (n : ℕ) (m : Name) (v : Where) (x : (card.file n m).Of) → pays k ((card.file n m).book v x) ≡ flat g (card.in_file m.tag (opening n 0) x)
  unfolding pays
  file_pays n m v (inl x) = rw c.0 (held_pays_lem m.tag (opening n 0) x)
  file_pays n m v (inr rs) = rw c.1 (parts_pays (card.record_in m.tag).bytes (card.record_in m.tag).book (λ v r. card.under m.tag (v on 2) r.0) (record_pays m.tag) (opening n 0) rs)

  files_pays : (n : ℕ) (ms : List Name) (v : Where) (x : (card.files n ms).Of) → pays k ((card.files n ms).book v x) ≡ flat g (card.in_files n ms x)
  unfolding pays card.files card.in_files
  files_pays n [] v x = refl
  files_pays n (m ∷ ms) v (f, x) = and_pays k (card.file n m) (card.files (n + 1) ms) v f x (file_pays n m v f) (files_pays (n + 1) ms _ x) ∙ (sym (flat_append g (card.in_file m.tag (opening n 0) f) (card.in_files (n + 1) ms x)))

  pub card_pays : (o : (card.od).Of) (ms : List Name) (x : (card.files 1 ms).Of) → pays k ((card.od).book origin o ++ (card.files 1 ms).book origin x) ≡ flat g (card.in_od o ++ card.in_files 1 ms x)
  card_pays (xs, filling) ms x =
      let a = and_pays k (many (one entries.item)) (fill 0x0107) origin xs filling (parts_pays (one entries.item).bytes (entries.item).book card.in_entry entry_pays origin xs) (fill_pays k 0x0107 b origin filling) ∙ append-nil (flat g (card.in_od (xs, filling))) in
      pays_append k ((card.od).book origin (xs, filling)) ((card.files 1 ms).book origin x) ∙ rw (a, files_pays 1 ms origin x) (sym (flat_append g (card.in_od (xs, filling)) (card.in_files 1 ms x)))

-- the own identifiers of a card's objects are the payloads of its book's 0150
pub card_ids : (o : (card.od).Of) (ms : List Name) (x : (card.files 1 ms).Of) → pays own_id_row.kind ((card.od).book origin o ++ (card.files 1 ms).book origin x) ≡ flat card.own_id (card.in_od o ++ card.in_files 1 ms x)
card_ids = card_pays own_id_row.kind card.own_id own_pays refl refl (refl, refl, refl)

-- ---- a kind that closes an object, as 0110 and EF.DIR's do, stands in none
pub inner_pays : (k : ℕ) → closing k ≡ true → (rs : List Rec) → T (inner rs) → pays k rs ≡ []
unfolding pays
inner_pays k c [] h = refl
inner_pays k c (r ∷ rs) h = go (eqb r.kind k) refl (inner_pays k c rs (and_right (not (closing r.kind)) (inner rs) h))
  where
    go : (b : Bool) → eqb r.kind k ≡ b → pays k rs ≡ [] → choose b (λ _. r.pay ∷ pays k rs) (λ _. pays k rs) ≡ []
    go true e i = absurd (rw (eqb-true r.kind k e, c) at (and_left (not (closing r.kind)) (inner rs) h))
    go false e i = i

pub in_none : (k : ℕ) → closing k ≡ true → eqb 0x0120 k ≡ false → (o : Object) → pays k (records_of o) ≡ []
unfolding pays
in_none k c e o = rw (records_are o, e) (inner_pays k c (behind o) (behind_inner o))

pub nothing_flat : {A : Type 0} (xs : List A) → flat {B = List ℕ} (λ _. []) xs ≡ []
nothing_flat [] = refl
nothing_flat (x ∷ xs) = nothing_flat xs

-- objects name none
pub objects_names : (t : ℕ) (v : Where) (os : List (entries.object t).part.Of) → files.names_of ((many (entries.object t).part).book v os) ≡ []
objects_names t v os = names_none ((many (entries.object t).part).book v os) (pays_each 0x0110 (entries.object t).part.bytes (entries.object t).part.book (λ _. []) (λ v o. in_none 0x0110 refl refl (t, o, v)) v os ∙ nothing_flat os)

entry_names : (v : Where) (x : (entries.item).Of) → files.names_of ((entries.item).book v x) ≡ card.name_in x
unfolding files.names_of
entry_names v (inl (t, inl path)) = rw (le-leb 2 (length (t ∷ 0 ∷ path)) (omega arith)) refl
entry_names v (inl (t, inr objects)) = objects_names t _ objects
entry_names v (inr x) = rw (le-leb 2 (length (first_of x ∷ 2 ∷ element_bytes x)) (omega arith)) refl

entries_names : (v : Where) (xs : List (entries.item).Of) → files.names_of ((many (one entries.item)).book v xs) ≡ flat card.name_in xs
unfolding files.names_of
entries_names v [] = refl
entries_names v (x ∷ xs) = let w = v on length ((one entries.item).bytes x) in names_append ((entries.item).book v x) ((many (one entries.item)).book w xs) ∙ rw (entry_names v x, entries_names w xs) refl

-- the paths that EF.OD's records name are those of the card
pub od_names : (v : Where) (o : (card.od).Of) → files.names_of ((card.od).book v o) ≡ card.names_of o
od_names v (xs, filling) = names_append ((many (one entries.item)).book v xs) ((fill 0x0107).book v filling) ∙ rw (entries_names v xs, names_none ((fill 0x0107).book v filling) (fill_pays 0x0110 0x0107 refl v filling)) (append-nil (flat card.name_in xs))
