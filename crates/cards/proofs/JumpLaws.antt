-- Each 0120 of an accepted book tells the file and the offset where its object's element stands.
use Rattle.std.specs.Prelude.{ℕ, ◌+◌, ◌-◌, ◌<◌, ◌≤◌, ◌⊎◌, ◌≡◌, refl, length}
use mathlib.Core.List.Memᴰ
use mathlib.Core.List.{List, [], ◌∷◌, ◌++◌, map, append_assoc, append-nil, Memᴰ}
use Rattle.std.proofs.Common.{inl, inr, ⊎_elim, sym, ap, subst, ◌∙◌, arith, length-append}
use Rattle.std.proofs.Math.Option.{none, some}
use Rattle.elements.specs.Length.{tag_bytes, shortest, wrap}
use Rattle.elements.specs.Lists.{Bytes}
use Rattle.elements.specs.Put.{le16}
use Rattle.elements.specs.Record.{record_bytes}
use Rattle.rules.specs.Grammar.{Element, element_bytes, Where, here, opening, origin, ◌on◌, into, each, flat, one, AllMeet, fill}
use Rattle.rules.specs.Reading.{Rec}
use Rattle.rules.specs.Files.{Name, accepted, read_dump}
use Rattle.rules.specs.Layouts as layouts
use Rattle.rules.specs.Entries as entries
use Rattle.cards.specs.Card as card
use Rattle.rules.specs.ElementLaws.{LowTag, wrap_is}
use Rattle.rules.proofs.EntryLaws.{object_low}
use Rattle.rules.specs.Pays.{pays, pays_append, pays_none, lacks}
use Rattle.rules.specs.FileLayouts as filing
use Rattle.cards.specs.Card.{Card, Object, Meets, dump_of, book_of, records_of, front, behind, objects_of}
use Rattle.cards.proofs.BlockLaws.{records_are, behind_inner}
use Rattle.cards.proofs.CardKinds.{inner_pays, card_pays}
use Rattle.cards.proofs.DumpLaws.{accepted_card}
use Rattle.cards.specs.Jumps.{Stands, Filed, bytes_in, filed, main_at, files_of, tag_of, element_of, Jump}

-- in the bytes d, which stand at v, an object's element stands where the object does
record In (v : Where) (d : List ℕ) (o : Object) : Type 0 where
  before : List ℕ
  after : List ℕ
  is : d ≡ before ++ (element_of o ++ after)
  place : o.2 ≡ v on length before

all_map : {A : Type 0} {P Q : A → Type 0} → ((x : A) → P x → Q x) → (xs : List A) → AllMeet P xs → AllMeet Q xs
all_map f [] m = tt
all_map f (x ∷ xs) m = (f x m.0, all_map f xs m.1)

all_append : {A : Type 0} (P : A → Type 0) (xs ys : List A) → AllMeet P xs → AllMeet P ys → AllMeet P (xs ++ ys)
all_append P [] ys m n = n
all_append P (x ∷ xs) ys m n = (m.0, all_append P xs ys m.1 n)

-- with more bytes behind, and in front
in_left : (v : Where) (d e : List ℕ) (os : List Object) → AllMeet (In v d) os → AllMeet (In v (d ++ e)) os
in_left v d e os = all_map (λ o m. record { before = m.before; after = m.after ++ e; is = rw m.is (append_assoc m.before (element_of o ++ m.after) e ∙ rw (append_assoc (element_of o) m.after e) refl); place = m.place }) os

in_right : (v : Where) (c d : List ℕ) (os : List Object) → AllMeet (In (v on length c) d) os → AllMeet (In v (c ++ d)) os
in_right v c d os = all_map (λ o m. record {
  before = c ++ m.before;
  after = m.after;
  is = rw m.is (sym (append_assoc c m.before (element_of o ++ m.after)));
  place = m.place ∙ ap (λ (i : ℕ). here v.file i) (let e = length-append c m.before in let z : v.at + length c + length m.before ≡ v.at + length (c ++ m.before) = omega arith in z);
}) os

-- inside an element
in_element : (v : Where) (x : Element) (os : List Object) → AllMeet (In (into v x) x.contents) os → AllMeet (In v (element_bytes x)) os
unfolding element_bytes
in_element v x os m =
    let head = tag_bytes x.lead x.number ++ shortest (length x.contents) in
    let n : length (element_bytes x) - length x.contents ≡ length head = omega (arith, length-append head x.contents) in
    in_right v head x.contents os (subst (λ (i : ℕ). AllMeet (In (v on i) x.contents) os) n m)

-- one after the other
each_in : {A : Type 0} (b : A → List ℕ) (f : Where → A → List Object) → ((v : Where) (x : A) → AllMeet (In v (b x)) (f v x)) → (v : Where) (xs : List A) → AllMeet (In v (flat b xs)) (each b f v xs)
each_in b f h v [] = tt
each_in b f h v (x ∷ xs) =
    let w = v on length (b x) in
    all_append (In v (flat b (x ∷ xs))) (f v x) (each b f w xs) (in_left v (b x) (flat b xs) (f v x) (h v x)) (in_right v (b x) (flat b xs) (each b f w xs) (each_in b f h w xs))

under_in : (t : ℕ) (v : Where) (os : List (entries.object t).part.Of) → AllMeet (In v (flat (entries.object t).part.bytes os)) (card.under t v os)
under_in t = each_in (entries.object t).part.bytes (λ v o. (t, o, v) ∷ []) (λ v o. (
  record {
    before = [];
    after = [];
    is = sym (append-nil ((entries.object t).part.bytes o));
    place = ap (λ (i : ℕ). here v.file i) (let z : v.at ≡ v.at + 0 = omega arith in z);
  },
  tt,
))

entry_in : (v : Where) (x : (entries.item).Of) → AllMeet (In v ((one entries.item).bytes x)) (card.in_entry v x)
entry_in v (inl (t, inl path)) = tt
entry_in v (inl (t, inr objects)) =
    let outer = (entries.item).shape (inl (t, inr objects)) in
    let inner = (entries.inline t).shape objects in
    let os = card.under t (into (into v outer) inner) objects in
    in_element v outer os (in_element (into v outer) inner os (under_in t (into (into v outer) inner) objects))
entry_in v (inr unknown) = tt

record_in_lem : (t : ℕ) (v : Where) (r : (card.record_in t).Of) → AllMeet (In v ((card.record_in t).bytes r)) (card.under t (v on 2) r.0)
record_in_lem t v r =
    let d = flat (entries.object t).part.bytes r.0 in
    let e = (fill 0x0107).bytes r.1 in
    in_right v (le16 (length (d ++ e))) (d ++ e) (card.under t (v on 2) r.0) (in_left (v on 2) d e (card.under t (v on 2) r.0) (under_in t (v on 2) r.0))

file_in_lem : (t : ℕ) (v : Where) (x : (card.directory t).Of ⊎ (card.linear t).Of) → AllMeet (In v (bytes_in t x)) (card.in_file t v x)
file_in_lem t v (inl x) = in_left v (flat (entries.object t).part.bytes x.0) ((fill 0x0107).bytes x.1) (card.under t v x.0) (under_in t v x.0)
file_in_lem t v (inr rs) = each_in (card.record_in t).bytes (λ v r. card.under t (v on 2) r.0) (record_in_lem t) v rs

-- ---- a card's files stand in its dump
stands_left : {d b : List ℕ} {p : ℕ} (e : List ℕ) → Stands d p b → Stands (d ++ e) p b
stands_left {d} {b} e m = record { before = m.before; after = m.after ++ e; is = rw m.is (append_assoc m.before (b ++ m.after) e ∙ rw (append_assoc b m.after e) refl); behind = m.behind }

stands_right : {d b : List ℕ} {p : ℕ} (c : List ℕ) → Stands d p b → Stands (c ++ d) (length c + p) b
stands_right {d} {b} {p} c m = record { before = c ++ m.before; after = m.after; is = rw m.is (sym (append_assoc c m.before (b ++ m.after))); behind = length-append c m.before ∙ omega (arith, m.behind) }

-- what stands in what stands in it
stands_in_lem : {d b e : List ℕ} {p q : ℕ} → Stands d p b → Stands b q e → Stands d (p + q) e
stands_in_lem {d} {b} {e} {p} {q} m n = record {
  before = m.before ++ n.before;
  after = n.after ++ m.after;
  is = m.is ∙ rw (n.is, append_assoc n.before (e ++ n.after) m.after, append_assoc e n.after m.after, append_assoc m.before n.before (e ++ (n.after ++ m.after))) refl;
  behind = length-append m.before n.before ∙ omega (arith, m.behind, n.behind);
}

-- a file in its record, behind these bytes
framed : (kind : ℕ) (front b : List ℕ) → Stands (record_bytes kind (front ++ b)) (4 + length front) b
unfolding record_bytes
framed kind front b = record { before = le16 (length (front ++ b) + 2) ++ (le16 kind ++ front); after = []; is = rw (append-nil b) refl; behind = omega arith }

file_framed : (n : ℕ) (m : Name) (x : (card.file n m).Of) → Stands ((card.file n m).bytes x) (5 + length m.path) (bytes_in m.tag x)
file_framed n m (inl x) = let e : 4 + length (length m.path ∷ m.path) ≡ 5 + length m.path = omega arith in subst (λ (p : ℕ). Stands ((card.file n m).bytes (inl x)) p (bytes_in m.tag (inl x))) e (framed 3 (length m.path ∷ m.path) ((card.directory m.tag).bytes x))
file_framed n m (inr x) = let e : 4 + length (length m.path ∷ m.path) ≡ 5 + length m.path = omega arith in subst (λ (p : ℕ). Stands ((card.file n m).bytes (inr x)) p (bytes_in m.tag (inr x))) e (framed 4 (length m.path ∷ m.path) ((card.linear m.tag).bytes x))

-- those of d, which stands at a place
abbrev FiledIn : ℕ → List ℕ → Filed → Type 0
FiledIn at d f = (p : ℕ) × (f.start ≡ at + p) × Stands d p f.bytes

filed_in : (n at : ℕ) (ms : List Name) (x : (card.files n ms).Of) → AllMeet (FiledIn at ((card.files n ms).bytes x)) (filed n at ms x)
unfolding card.files filed
filed_in n at [] x = tt
filed_in n at (m ∷ ms) (f, x) =
    let b = (card.file n m).bytes f in (
      (5 + length m.path, refl, stands_left ((card.files (n + 1) ms).bytes x) (file_framed n m f)),
      all_map (λ y z. (length b + z.0, z.1 ∙ omega arith, stands_right b z.2)) (filed (n + 1) (at + length b) ms x) (filed_in (n + 1) (at + length b) ms x),
    )

files_stand : (c : Card) → AllMeet (λ f. Stands (dump_of c) f.start f.bytes) (files_of c)
files_stand c =
    let d = (card.ef_dir).bytes c.dir in
    let i = record_bytes 1 ((card.cia).bytes c.info) in
    let m = record_bytes 2 ((card.od).bytes c.main) in
    let w = (card.files 1 (card.names_of c.main)).bytes c.dirs in
    let here_main : length d + (length i + 4) ≡ length d + length i + 4 = omega arith in (
      subst (λ (p : ℕ). Stands (dump_of c) p ((card.od).bytes c.main)) here_main (stands_right d (stands_right i (stands_left w (framed 2 [] ((card.od).bytes c.main))))),
      all_map (λ f z. subst (λ (p : ℕ). Stands (dump_of c) p f.bytes) (let e = z.1 in let q : length d + (length i + (length m + z.0)) ≡ f.start = omega arith in q) (stands_right d (stands_right i (stands_right m z.2))))
          (filed 1 (main_at c + length m) (card.names_of c.main) c.dirs) (filed_in 1 (main_at c + length m) (card.names_of c.main) c.dirs),
    )

-- ---- and so do its objects
all_of : {A : Type 0} (P : A → Type 0) (xs : List A) → AllMeet P xs → {x : A} → Memᴰ x xs → P x
all_of P [] m i = absurd (Memᴰ.not-nil i)
all_of P (y ∷ xs) m i = ⊎_elim (λ e. subst P (sym e) m.0) (λ j. all_of P xs m.1 j) (Memᴰ.cases_cons i)

-- an object of a card has a tag of one byte
Tagged : Object → Type 0
Tagged o = LowTag (tag_of o)

each_tagged : {A : Type 0} (M : A → Type 0) (b : A → List ℕ) (f : Where → A → List Object) → ((v : Where) (x : A) → M x → AllMeet Tagged (f v x)) → (v : Where) (xs : List A) → AllMeet M xs → AllMeet Tagged (each b f v xs)
each_tagged M b f h v [] m = tt
each_tagged M b f h v (x ∷ xs) m = let w = v on length (b x) in all_append Tagged (f v x) (each b f w xs) (h v x m.0) (each_tagged M b f h w xs m.1)

under_tagged : (t : ℕ) (v : Where) (os : List (entries.object t).part.Of) → AllMeet (entries.object t).part.Meets os → AllMeet Tagged (card.under t v os)
unfolding entries.object tag_of Tagged
under_tagged t v os m = each_tagged (entries.object t).part.Meets (entries.object t).part.bytes (λ v o. (t, o, v) ∷ []) (λ v o m. (object_low o.0 m.0, tt)) v os m

entry_tagged : (v : Where) (x : (entries.item).Of) → (entries.item).Meets x → AllMeet Tagged (card.in_entry v x)
entry_tagged v (inl (t, inl path)) m = tt
entry_tagged v (inl (t, inr objects)) m = under_tagged t _ objects m.1
entry_tagged v (inr unknown) m = tt

files_tagged : (n : ℕ) (ms : List Name) (x : (card.files n ms).Of) → (card.files n ms).Meets x → AllMeet Tagged (card.in_files n ms x)
unfolding card.files card.in_files
files_tagged n [] x m = tt
files_tagged n (k ∷ ms) (inl f, x) m = all_append Tagged (card.under k.tag (opening n 0) f.0) (card.in_files (n + 1) ms x) (under_tagged k.tag (opening n 0) f.0 m.0.0.0) (files_tagged (n + 1) ms x m.1)
files_tagged n (k ∷ ms) (inr rs, x) m =
    all_append Tagged (card.in_records k.tag (opening n 0) rs) (card.in_files (n + 1) ms x)
    (each_tagged (card.record_in k.tag).Meets (card.record_in k.tag).bytes (λ v r. card.under k.tag (v on 2) r.0) (λ v r y. under_tagged k.tag (v on 2) r.0 y.0.0) (opening n 0) rs m.0.0)
    (files_tagged (n + 1) ms x m.1)

tagged : (c : Card) → Meets c → AllMeet Tagged (objects_of c)
tagged c m = all_append Tagged (card.in_od c.main) (card.in_files 1 (card.names_of c.main) c.dirs) (each_tagged (entries.item).Meets (one entries.item).bytes card.in_entry entry_tagged origin c.main.0 m.main.0) (files_tagged 1 (card.names_of c.main) c.dirs m.dirs)

tag_first : (o : Object) → Tagged o → (more : List ℕ) × (element_of o ≡ tag_of o ∷ more)
unfolding entries.object tag_of Tagged wrap
tag_first (entry, (tag, contents), v) z = let b = (layouts.contents entry tag).part.bytes contents in (shortest (length b) ++ b, wrap_is tag b z)

front_told : (n k : ℕ) (o : Object) → o.2 ≡ opening n 0 on k → front o ≡ o.0 ∷ tag_of o ∷ (le16 n ++ le16 k)
unfolding front tag_of entries.object
front_told n k (entry, (tag, contents), v) e = let z : 0 + k - 0 ≡ k = omega arith in rw (e, z) refl

jump_in : (c : Card) (f : Filed) → Memᴰ f (files_of c) → (o : Object) → In (opening f.number 0) f.bytes o → Tagged o → Jump c o
jump_in c f i o m z =
    let b : Stands f.bytes (length m.before) (element_of o) = record { before = m.before; after = m.after; is = m.is; behind = refl } in
    record { file = f; there = i; offset = length m.before; told = front_told f.number (length m.before) o m.place; in_file_lem = b; in_dump = stands_in_lem (all_of (λ g. Stands (dump_of c) g.start g.bytes) (files_of c) (files_stand c) i) b; tag = tag_first o z }

files_jump : (c : Card) (n at : ℕ) (ms : List Name) (x : (card.files n ms).Of) → ((f : Filed) → Memᴰ f (filed n at ms x) → Memᴰ f (files_of c)) → AllMeet (λ o. Tagged o → Jump c o) (card.in_files n ms x)
unfolding card.files card.in_files filed
files_jump c n at [] x h = tt
files_jump c n at (m ∷ ms) (f, x) h =
    all_append (λ o. Tagged o → Jump c o) (card.in_file m.tag (opening n 0) f) (card.in_files (n + 1) ms x)
    (all_map (λ o z. jump_in c (record { number = n; start = at + (5 + length m.path); bytes = bytes_in m.tag f }) (h _ (Memᴰ.head refl)) o z) (card.in_file m.tag (opening n 0) f) (file_in_lem m.tag (opening n 0) f))
    (files_jump c (n + 1) (at + length ((card.file n m).bytes f)) ms x (λ g i. h g (Memᴰ.tail i)))

jumps : (c : Card) → AllMeet (λ o. Tagged o → Jump c o) (objects_of c)
jumps c =
    let b = flat (one entries.item).bytes c.main.0 in
    let os = card.in_od c.main in
    let main : Filed = record { number = 0; start = main_at c + 4; bytes = (card.od).bytes c.main } in
    let ms = card.names_of c.main in
    all_append (λ o. Tagged o → Jump c o) os (card.in_files 1 ms c.dirs)
    (all_map (λ o z. jump_in c main (Memᴰ.head refl) o z) os (in_left origin b ((fill 0x0107).bytes c.main.1) os (each_in (one entries.item).bytes card.in_entry entry_in origin c.main.0)))
    (files_jump c 1 (main_at c + length (record_bytes 2 ((card.od).bytes c.main))) ms c.dirs (λ f i. Memᴰ.tail i))

-- "at that offset of that file of the dump stands an element with the object's tag, and its bytes are those that the object was read from"
pub jump : (c : Card) → Meets c → {o : Object} → Memᴰ o (objects_of c) → Jump c o
jump c m i = all_of (λ o. Tagged o → Jump c o) (objects_of c) (jumps c) i (all_of Tagged (objects_of c) (tagged c m) i)

-- ---- two bytes hold the number, and two the offset
stands_long : {d b : List ℕ} {p : ℕ} → Stands d p b → p ≤ length d
stands_long {d} {b} m = rw m.is (omega (arith, m.behind, length-append m.before (b ++ m.after)))

file_size : (n : ℕ) (k : Name) (f : (card.file n k).Of) → (card.file n k).Meets f → length (bytes_in k.tag f) ≤ 16383
file_size n k (inl x) m = m.3
file_size n k (inr x) m = m.3

files_fit : (n at : ℕ) (ms : List Name) (x : (card.files n ms).Of) → (card.files n ms).Meets x → AllMeet (λ f. (f.number ≤ n + length ((card.files n ms).bytes x)) × (length f.bytes ≤ 16383)) (filed n at ms x)
unfolding card.files filed
files_fit n at [] x m = tt
files_fit n at (k ∷ ms) (f, x) m =
    let b = (card.file n k).bytes f in
    let l = length-append b ((card.files (n + 1) ms).bytes x) in
    let s = stands_long (file_framed n k f) in (
      (omega arith, file_size n k f m.0),
      all_map (λ g z. (let e = z.0 in omega arith, z.1)) (filed (n + 1) (at + length b) ms x) (files_fit (n + 1) (at + length b) ms x m.1),
    )

all_fit : (c : Card) → Meets c → AllMeet (λ f. (f.number < 65536) × (length f.bytes ≤ 16383)) (files_of c)
all_fit c m =
    let d = (card.ef_dir).bytes c.dir in
    let i = record_bytes 1 ((card.cia).bytes c.info) in
    let o = record_bytes 2 ((card.od).bytes c.main) in
    let ms = card.names_of c.main in
    let w = (card.files 1 ms).bytes c.dirs in
    let l = length-append d (i ++ (o ++ w)) in
    let k = length-append i (o ++ w) in
    let j = length-append o w in
    let s = m.dump_size in (
      (omega arith, m.main_size),
      all_map (λ f z. (let e = z.0 in omega arith, z.1)) (filed 1 (main_at c + length o) ms c.dirs) (files_fit 1 (main_at c + length o) ms c.dirs m.dirs),
    )

-- so what 0120 tells is the file's number and the offset themselves
pub jump_fits : (c : Card) → Meets c → {o : Object} (j : Jump c o) → (j.file.number < 65536) × (j.offset < 65536)
jump_fits c m j = let z = all_of (λ f. (f.number < 65536) × (length f.bytes ≤ 16383)) (files_of c) (all_fit c m) j.there in (z.0, omega (arith, z.1, stands_long j.in_file_lem))

-- ---- and the book's 0120 are those of the card's objects, in turn
own_told : (o : Object) → pays 0x0120 (records_of o) ≡ front o ∷ []
unfolding pays
own_told o = rw (records_are o, inner_pays 0x0120 refl (behind o) (behind_inner o)) refl

dir_told : (x : (card.ef_dir).Of) → pays 0x0120 ((card.ef_dir).book origin x) ≡ []
unfolding pays layouts.template layouts.discretionary layouts.path_from
dir_told none = refl
dir_told (some x) = pays_none 0x0120 filing.dir_kinds tt (filing.dir_only origin x)

fronts : (os : List Object) → flat (λ o. front o ∷ []) os ≡ map front os
fronts [] = refl
fronts (o ∷ os) = rw (fronts os) refl

pub all_told : (c : Card) → pays 0x0120 (book_of c) ≡ map front (objects_of c)
unfolding layouts.cia layouts.info
all_told c =
    let a = (card.cia).book origin c.info in
    let b = (card.od).book origin c.main ++ (card.files 1 (card.names_of c.main)).book origin c.dirs in
    let d = (card.ef_dir).book origin c.dir in
    let e = card_pays 0x0120 (λ o. front o ∷ []) own_told refl refl (refl, refl, refl) c.main (card.names_of c.main) c.dirs in
    pays_append 0x0120 (a ++ b) d ∙ rw (pays_append 0x0120 a b, lacks 0x0120 layouts.cia tt origin c.info, e, dir_told c.dir, append-nil (flat (λ o. front o ∷ []) (objects_of c))) (fronts (objects_of c))

-- ---- so of a dump that is accepted
among_map : {A B : Type 0} (f : A → B) (xs : List A) {y : B} → Memᴰ y (map f xs) → (x : A) × Memᴰ x xs × (y ≡ f x)
among_map f [] i = absurd (Memᴰ.not-nil i)
among_map f (x ∷ xs) i = ⊎_elim (λ e. (x, Memᴰ.head refl, e)) (λ j. let w = among_map f xs j in (w.0, Memᴰ.tail w.1, w.2)) (Memᴰ.cases_cons i)

-- each 0120 of its book is an object's, which stands there in the dump
pub jump_read : (d : List ℕ) (rs : List Rec) → Bytes d → read_dump d ≡ accepted rs → {p : List ℕ} → Memᴰ p (pays 0x0120 rs) → (c : Card) × (o : Object) × (dump_of c ≡ d) × (book_of c ≡ rs) × (p ≡ front o) × Jump c o
jump_read d rs bytes e {p} i =
    let k = accepted_card d rs bytes e in
    let w = among_map front (objects_of k.it) (subst (λ (l : List (List ℕ)). Memᴰ p l) (ap (λ (b : List Rec). pays 0x0120 b) (sym k.book) ∙ all_told k.it) i) in
    (k.it, w.0, k.dump, k.book, w.2, jump k.it k.meets w.1)
