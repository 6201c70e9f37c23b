-- How the code goes over records: what a loop has passed, and what is left.
use Prim.Native.Nat.{ℕ, ◌+◌, ◌<◌, ◌≤◌}
use mathlib.Core.Path.{◌≡◌, refl, sym, ap, ◌∙◌}
use mathlib.Core.List.{List, [], ◌∷◌, ◌++◌, map, map-append, append_assoc, append-nil}
use mathlib.Core.Bool.{Bool, true, false, ◌&&◌, ◌||◌}
use native.Mathlib.Numerals.{add-one}
use native.Mathlib.Omega.{arith}
use lib.ListN.{length, get_or, take, drop, set, length-set, get_or-eq_default}
use lib.Seq.{slice, slice_empty, get_or-drop, drop-drop, get_or-set_same, get_or-set_other, take-suc-set}
use lib.Dec.{eqb}
use borrow.Author.Tests.{eq-eqb, ne_eqb, eqb-true, eqb-false}
use Rattle.elements.specs.Choice.{pick, choose}
use Rattle.elements.specs.ChoiceLaws.{both_true}
use Rattle.elements.specs.Lists.{cons, join}
use Rattle.elements.specs.declared.fault.Fault.TheVariants.{AuthIdTwice}
use Rattle.files.specs.declared.scan.Key.{Key}
use Rattle.files.specs.declared.scan.Key.TheVariants.{Path, Own}
use Rattle.rules.specs.Reading.{Rec}
use Rattle.rules.specs.Tables.{own_id_row}
use Rattle.rules.specs.Files.{Name, names_path, names_of, paths, equal, met, two, wrong_at, repeated}
use Rattle.rules.specs.Book.{encode}
use Rattle.rules.specs.BookLaws.{byte_some, name_room, name_path}
use Rattle.rules.specs.LookLaws.{Laid}
use Rattle.rules.specs.Pays.{pays, ids_of, pays_append, names_append}
use Rattle.files.specs.Scan.{Lies, Holds, AgainTold, clash_of, IdsTold, NextName, last, found, NameTold, Whole, behind, bears, skip, key_at, keys_of, Spans, MetTold, RepeatTold, placed_keys, Places, Index, Indexed, Noted}
use Rattle.objects.specs.DidLaws.{encode_append}
use Rattle.files.specs.LiesLaws.{First, Begun, some, some_lie, none_lie, lie_same}
use Rattle.std.specs.Prelude.{Some, None, Option}
use Rattle.std.specs.Bool.{then_some}

-- what `bears` says of each key
pub bears_path : (b : List ℕ) (j : ℕ) {x : Key} {n : ℕ} {r : Bool} → x ≡ Path → n ≡ behind b j → r ≡ names_path (two b (j + 2)) (slice (j + 4) n b) → r ≡ bears b x j
unfolding bears
bears_path b j e k h = rw (e, ← k) h

pub bears_own : (b : List ℕ) (j : ℕ) {x : Key} {n : ℕ} → x ≡ Own → n ≡ two b (j + 2) → eqb n own_id_row.kind ≡ bears b x j
unfolding bears
bears_own b j e k = rw (e, k) refl

-- the name that the record at j gives
abbrev pub name_at : List ℕ → ℕ → Name
name_at b j = record { tag = get_or (slice (j + 4) (behind b j) b) 0 0; path = slice (j + 6) (behind b j) b }

module _ {b : List ℕ} {j end : ℕ} {r : Rec} {rest : List Rec} (f : First b j end r rest) where
  pub names_first : (ws : List Rec) → names_of (r ∷ ws) ≡ choose (bears b Path j) (λ _. name_at b j ∷ names_of ws) (λ _. names_of ws)
  unfolding names_of bears
  names_first ws = rw (f.kind, ← name_path b j (behind b j), f.pay) refl

-- the loop of `next_name`: the names of what is left are all
pub record Unnamed (b : List ℕ) (i end j : ℕ) : Type 0 where
  pub all : List Rec
  pub lies : Lies b i end all
  pub left : List Rec
  pub after : Lies b j end left
  pub same : names_of all ≡ names_of left

pub unnamed_none : {b : List ℕ} {i end : ℕ} → Holds b i end → Unnamed b i end i
unnamed_none h = record { all = h.rs; lies = h.lies; left = h.rs; after = h.lies; same = refl }

module _ {b : List ℕ} {i end j : ℕ} (w : Unnamed b i end j) where
  pub unnamed_all : end ≤ j → NameTold b i end None
  unfolding names_of
  unnamed_all h = record { is = λ rs l. last (ap names_of (lie_same l w.lies) ∙ w.same ∙ ap names_of (none_lie w.after h)) }

  module _ (h : j < end) {t : Bool} (e : t ≡ bears b Path j) where
    pub unnamed_next : {n : ℕ} → t ≡ false → n ≡ behind b j → Unnamed b i end n
    unnamed_next {n} q k = go (some_lie w.after h) w.same
      where
        go : {rs : List Rec} → Begun b j end rs → names_of w.all ≡ names_of rs → Unnamed b i end n
        go (some {rest = rest} f) s = record { all = w.all; lies = w.lies; left = rest; after = rw k f.after; same = rw (names_first f rest, sym e ∙ q) at s }

    pub unnamed_found : t ≡ true → NameTold b i end (Some j)
    unfolding bears
    unnamed_found q = record { is = λ rs l. go (some_lie w.after h) (ap names_of (lie_same l w.lies) ∙ w.same) }
      where
        go : {rs ws : List Rec} → Begun b j end ws → names_of rs ≡ names_of ws → NextName b end rs (Some j)
        go (some {rest = rest} f) s =
            let m = name_room (two b (j + 2)) b j (behind b j) (omega (arith, f.within, f.after.high)) (sym e ∙ q) in
            let i : j + 4 + 0 ≡ j + 4 = omega arith in
            let tag : get_or b (j + 4) 0 ≡ (name_at b j).tag = rw i at (byte_some b (j + 4) (behind b j) 0 (omega (arith, m))) in
            found (name_at b j) rest (rw (names_first f rest, sym e ∙ q) at s) h (sym tag) refl (omega (arith, m)) f.after

-- the k-th of too few
pub mark_none : (l : List ℕ) (k : ℕ) → length l ≤ k → 0 ≡ get_or l k 0
mark_none l k h = sym (get_or-eq_default l 0 h)

-- the key of a record that bears one
module _ (b : List ℕ) (x : Key) (j : ℕ) {t : Bool} (e : t ≡ bears b x j) where
  pub key_spans : {q n : ℕ} → t ≡ true → Whole b j → q ≡ skip x → n ≡ behind b j → Spans b (j + q) n
  unfolding bears
  key_spans {q} {n} u w k m = record { low = go x (sym e ∙ u) k; high = omega (arith, w.fits) }
    where
      go : (y : Key) → bears b y j ≡ true → q ≡ skip y → j + q ≤ n
      go Path v k = omega (arith, name_room (two b (j + 2)) b j (behind b j) w.fits v)
      go Own v k = omega (arith, w.least)

  pub key_same : (p n q m : ℕ) {r : Bool} → t ≡ true → q ≡ skip x → m ≡ behind b j → r ≡ equal (slice p n b) (slice (j + q) m b) → r ≡ (bears b x j && equal (slice p n b) (key_at b x j))
  unfolding key_at
  key_same p n q m u k l h = rw (sym e ∙ u, ← k, ← l) h

  pub key_none : (p n : ℕ) → t ≡ false → false ≡ (bears b x j && equal (slice p n b) (key_at b x j))
  key_none p n u = rw (sym e ∙ u) refl

-- the keys of records, the first of which is at j
paths_chosen : (t : Bool) (n : Name) (ns : List Name) → paths (choose t (λ _. n ∷ ns) (λ _. ns)) ≡ choose t (λ _. n.path ∷ paths ns) (λ _. paths ns)
paths_chosen true n ns = refl
paths_chosen false n ns = refl

module _ {b : List ℕ} {j end : ℕ} {r : Rec} {rest : List Rec} (f : First b j end r rest) where
  pub keys_first : (x : Key) (ws : List Rec) → keys_of x (r ∷ ws) ≡ choose (bears b x j) (λ _. key_at b x j ∷ keys_of x ws) (λ _. keys_of x ws)
  unfolding bears key_at pays
  keys_first Path ws = ap paths (names_first f ws) ∙ paths_chosen (bears b Path j) (name_at b j) (names_of ws)
  keys_first Own ws = rw (f.kind, f.pay) refl

-- the loop of `met_before`: what is left decides
pub record Unmet (b : List ℕ) (x : Key) (i j p e k : ℕ) : Type 0 where
  pub all : List Rec
  pub lies : Lies b i j all
  pub left : List Rec
  pub after : Lies b k j left
  pub same : met (slice p e b) (keys_of x all) ≡ met (slice p e b) (keys_of x left)

pub unmet_none : {b : List ℕ} {i j : ℕ} (x : Key) (p e : ℕ) → Holds b i j → Unmet b x i j p e i
unmet_none x p e h = record { all = h.rs; lies = h.lies; left = h.rs; after = h.lies; same = refl }

keys_none : (x : Key) → keys_of x [] ≡ []
unfolding names_of pays
keys_none Path = refl
keys_none Own = refl

module _ {b : List ℕ} {x : Key} {i j p e k : ℕ} (w : Unmet b x i j p e k) where
  to_told : {t : Bool} → t ≡ met (slice p e b) (keys_of x w.left) → MetTold b x i j p e t
  to_told q = record { is = λ rs l. q ∙ sym w.same ∙ ap (λ (ws : List Rec). met (slice p e b) (keys_of x ws)) (lie_same w.lies l) }

  pub unmet_all : j ≤ k → MetTold b x i j p e false
  unmet_all h = to_told (rw (none_lie w.after h, keys_none x) refl)

  -- the record at k decides, or what follows it
  first_or : {rs : List Rec} → Begun b k j rs → met (slice p e b) (keys_of x rs) ≡ ((bears b x k && equal (slice p e b) (key_at b x k)) || met (slice p e b) (keys_of x (drop 1 rs)))
  first_or (some {rest = rest} f) = rw (keys_first f x rest) (go (bears b x k))
    where
      go : (t : Bool) → met (slice p e b) (choose t (λ _. key_at b x k ∷ keys_of x rest) (λ _. keys_of x rest)) ≡ ((t && equal (slice p e b) (key_at b x k)) || met (slice p e b) (keys_of x rest))
      go true = refl
      go false = refl

  module _ (h : k < j) {t : Bool} (q : t ≡ (bears b x k && equal (slice p e b) (key_at b x k))) where
    pub unmet_found : t ≡ true → MetTold b x i j p e true
    unmet_found u = to_told (rw (first_or (some_lie w.after h), sym q ∙ u) refl)

    pub unmet_next : {n : ℕ} → t ≡ false → n ≡ behind b k → Unmet b x i j p e n
    unmet_next {n} u m = go (some_lie w.after h) w.same
      where
        go : {rs : List Rec} → Begun b k j rs → met (slice p e b) (keys_of x w.all) ≡ met (slice p e b) (keys_of x rs) → Unmet b x i j p e n
        go (some {rest = rest} f) s = record { all = w.all; lies = w.lies; left = rest; after = rw m f.after; same = s ∙ rw (first_or (some f), sym q ∙ u) refl }

-- what `repeats` answers
module _ {b : List ℕ} {x : Key} {i j : ℕ} {t : Bool} (e : t ≡ bears b x j) where
  pub repeat_told : {q n : ℕ} {r : Bool} → t ≡ true → q ≡ skip x → n ≡ behind b j → MetTold b x i j (j + q) n r → RepeatTold b x i j r
  unfolding key_at
  repeat_told u k l w = record { is = λ rs z. rw (sym e ∙ u, ← k, ← l) (w.is rs z) }

  pub repeat_none : t ≡ false → RepeatTold b x i j false
  repeat_none u = record { is = λ rs z. rw (sym e ∙ u) refl }

-- what `first_again` answers
pub again_kept : {b : List ℕ} {i j place p : ℕ} {again : Option ℕ} → again ≡ Some p → AgainTold b i j place again (Some p)
again_kept e = record { is = λ rs l. rw e refl }

module _ {b : List ℕ} {i j : ℕ} {t : Bool} (w : RepeatTold b Path i j t) where
  pub again_told : {place : ℕ} {again r : Option ℕ} → again ≡ None → r ≡ then_some t place → AgainTold b i j place again r
  again_told {place} e z = record { is = λ rs l. rw (e, ← w.is rs l) (z ∙ go t) }
    where
      go : (t : Bool) → then_some t place ≡ pick t (Some place) None
      go true = refl
      go false = refl

-- the keys of records one behind the other
pub keys_append : (x : Key) (rs ws : List Rec) → keys_of x (rs ++ ws) ≡ keys_of x rs ++ keys_of x ws
keys_append Path rs ws = ap paths (names_append rs ws) ∙ map-append (λ (n : Name). n.path) (names_of rs) (names_of ws)
keys_append Own rs ws = pays_append own_id_row.kind rs ws

-- what was met does not depend on the order
met_last : (y k : List ℕ) (l : List (List ℕ)) → met y (l ++ (k ∷ [])) ≡ (equal y k || met y l)
met_last y k [] = refl
met_last y k (z ∷ l) = rw (met_last y k l) (go (equal y z) (equal y k))
  where
    go : (a c : Bool) → (a || (c || met y l)) ≡ (c || (a || met y l))
    go true true = refl
    go true false = refl
    go false true = refl
    go false false = refl

laid_left : (n : ℕ) (rs ws : List Rec) → Laid n (rs ++ ws) → Laid n rs
laid_left n [] ws h = tt
laid_left n (r ∷ rs) ws h = (h.0, h.1, laid_left n rs ws h.2)

-- of all records from i to `end`, those from j on are left, and `before` has the keys of the others
pub record Gone (b : List ℕ) (x : Key) (i end j : ℕ) (all left : List Rec) (before : List (List ℕ)) : Type 0 where
  pub low : i ≤ j
  pub lies : Lies b i end all
  pub done : List Rec
  pub are : all ≡ done ++ left
  pub here : slice i j b ≡ encode done
  pub after : Lies b j end left
  pub known : (y : List ℕ) → met y before ≡ met y (keys_of x done)

gone_none : {b : List ℕ} {i end : ℕ} {rs : List Rec} (x : Key) → Lies b i end rs → Gone b x i end i rs rs []
unfolding encode
gone_none {b} {i} x l = record { low = omega arith; lies = l; done = []; are = refl; here = slice_empty i b; after = l; known = λ y. rw (keys_none x) refl }

module _ {b : List ℕ} {x : Key} {i end j : ℕ} {all left : List Rec} {before : List (List ℕ)} (g : Gone b x i end j all left before) where
  gone_lies : Lies b i j g.done
  gone_lies = record {
    low = g.low;
    high = omega (arith, g.after.low, g.after.high);
    are = g.here;
    size = g.lies.size;
    small = g.lies.small;
    laid = laid_left g.lies.size g.done left (rw g.are at g.lies.laid);
  }

  -- what `repeats` answered, of what was met before
  gone_told : {t : Bool} → RepeatTold b x i j t → t ≡ (bears b x j && met (key_at b x j) before)
  gone_told w = rw (g.known (key_at b x j)) (w.is g.done gone_lies)

gone_next : {b : List ℕ} {x : Key} {i end j : ℕ} {all rest : List Rec} {r : Rec} {before : List (List ℕ)} → Gone b x i end j all (r ∷ rest) before → First b j end r rest →
    Gone b x i end (behind b j) all rest (choose (bears b x j) (λ _. key_at b x j ∷ before) (λ _. before))
gone_next {b} {x} {i} {end} {j} {all} {rest} {r} {before} g f = record {
  low = omega (arith, g.low);
  lies = g.lies;
  done = g.done ++ (r ∷ []);
  are = g.are ∙ sym (append_assoc g.done (r ∷ []) rest);
  here = sym (join i j (behind b j) b g.low (omega arith)) ∙ rw (g.here, f.here) (sym (encode_append g.done (r ∷ [])));
  after = f.after;
  known = λ y. rw (keys_append x g.done (r ∷ []), keys_first f x [], keys_none x) (go y (bears b x j));
}
  where
    go : (y : List ℕ) (t : Bool) → met y (choose t (λ _. key_at b x j ∷ before) (λ _. before)) ≡ met y (keys_of x g.done ++ choose t (λ _. key_at b x j ∷ []) (λ _. []))
    go y true = rw (met_last y (key_at b x j) (keys_of x g.done), g.known y) refl
    go y false = rw append-nil (g.known y)

-- the loop of `id_twice_by`: k objects were passed, the last of them at `place`, and no own authId was repeated
pub record Apart (b marks : List ℕ) (i end j k place : ℕ) : Type 0 where
  pub few : k ≤ j
  pub all : List Rec
  pub left : List Rec
  pub ids : List (List ℕ)
  pub gone : Gone b Own i end j all left ids
  pub same : repeated [] 0 marks all ≡ repeated ids place (drop k marks) left

-- what the record at j makes of it
repeated_first : {b : List ℕ} {j end : ℕ} {r : Rec} {rest : List Rec} → First b j end r rest → (ids : List (List ℕ)) (p : ℕ) (ps : List ℕ) →
    repeated ids p ps (r ∷ rest)
    ≡ choose (eqb (two b (j + 2)) 0x0120) (λ _. repeated ids (get_or ps 0 0) (drop 1 ps) rest)
    (λ _. choose (bears b Own j) (λ _. choose (met (key_at b Own j) ids) (λ _. wrong_at AuthIdTwice p) (λ _. repeated (key_at b Own j ∷ ids) p ps rest)) (λ _. repeated ids p ps rest))
unfolding repeated bears key_at
repeated_first f ids p ps = rw (f.kind, f.pay) refl

-- what begins an object bears no own authId
no_object_lem : (b : List ℕ) (j : ℕ) → bears b Own j ≡ true → eqb (two b (j + 2)) 0x0120 ≡ false
unfolding bears
no_object_lem b j e = rw (eqb-true (two b (j + 2)) own_id_row.kind e) refl

no_own : (b : List ℕ) (j : ℕ) → two b (j + 2) ≡ 0x0120 → bears b Own j ≡ false
unfolding bears
no_own b j e = rw e refl

pub apart_none : {b : List ℕ} {i end : ℕ} (marks : List ℕ) → Holds b i end → Apart b marks i end i 0 0
apart_none marks h = record { few = omega arith; all = h.rs; left = h.rs; ids = []; gone = gone_none Own h.lies; same = refl }

module _ {b marks : List ℕ} {i end j k place : ℕ} (w : Apart b marks i end j k place) where
  to_ids : {r : Option ℕ} → repeated w.ids place (drop k marks) w.left ≡ clash_of r → IdsTold b marks i end r
  to_ids e = record { is = λ rs l. rw (lie_same l w.gone.lies) (w.same ∙ e) }

  pub apart_all : end ≤ j → IdsTold b marks i end None
  unfolding repeated
  apart_all h = to_ids (rw (none_lie w.gone.after h) refl)

  module _ (h : j < end) {t : Bool} (e : RepeatTold b Own i j t) where
    pub apart_met : t ≡ true → IdsTold b marks i end (Some place)
    apart_met q = to_ids (go (some_lie w.gone.after h) (both_true (bears b Own j) (met (key_at b Own j) w.ids) (sym (gone_told w.gone e) ∙ q)))
      where
        go : {rs : List Rec} → Begun b j end rs → (bears b Own j ≡ true) × (met (key_at b Own j) w.ids ≡ true) → repeated w.ids place (drop k marks) rs ≡ wrong_at AuthIdTwice place
        go (some f) (u, v) = rw (repeated_first f w.ids place (drop k marks), no_object_lem b j u, u, v) refl

    pub apart_next : {c n : ℕ} → t ≡ false → c ≡ two b (j + 2) → (c ≡ 0x0120 → ⊥) → n ≡ behind b j → Apart b marks i end n k place
    apart_next {c} {n} q o x d = go (some_lie w.gone.after h) w.gone w.same
      where
        go : {rs : List Rec} → Begun b j end rs → Gone b Own i end j w.all rs w.ids → repeated [] 0 marks w.all ≡ repeated w.ids place (drop k marks) rs → Apart b marks i end n k place
        go (some {rest = rest} f) g s = by_bears (bears b Own j) refl (rw (repeated_first f w.ids place (drop k marks), ne_eqb (two b (j + 2)) 0x0120 (λ z. x (o ∙ z))) at s) (gone_next g f)
          where
            by_bears : (u : Bool) → bears b Own j ≡ u →
                repeated [] 0 marks w.all ≡ choose u (λ _. choose (met (key_at b Own j) w.ids) (λ _. wrong_at AuthIdTwice place) (λ _. repeated (key_at b Own j ∷ w.ids) place (drop k marks) rest)) (λ _. repeated w.ids place (drop k marks) rest) →
                Gone b Own i end (behind b j) w.all rest (choose u (λ _. key_at b Own j ∷ w.ids) (λ _. w.ids)) → Apart b marks i end n k place
            by_bears true u s g =
                let v : met (key_at b Own j) w.ids ≡ false = rw u at (sym (gone_told w.gone e) ∙ q) in
                record { few = omega (arith, w.few); all = w.all; left = rest; ids = key_at b Own j ∷ w.ids; gone = rw d g; same = rw v at s }
            by_bears false u s g = record { few = omega (arith, w.few); all = w.all; left = rest; ids = w.ids; gone = rw d g; same = s }

  -- an object begins, at v
  pub apart_object : {c v n : ℕ} → j < end → c ≡ two b (j + 2) → c ≡ 0x0120 → v ≡ get_or marks k 0 → n ≡ behind b j → Apart b marks i end n (k + 1) v
  apart_object {c} {v} {n} h o x p d = go (some_lie w.gone.after h) w.gone w.same
    where
      go : {rs : List Rec} → Begun b j end rs → Gone b Own i end j w.all rs w.ids → repeated [] 0 marks w.all ≡ repeated w.ids place (drop k marks) rs → Apart b marks i end n (k + 1) v
      go (some {rest = rest} f) g s =
          let kind : two b (j + 2) ≡ 0x0120 = sym o ∙ x in
          let z : k + 0 ≡ k = omega arith in
          record {
            few = omega (arith, w.few);
            all = w.all;
            left = rest;
            ids = w.ids;
            gone = rw d (rw (no_own b j kind) at (gone_next g f));
            same = rw p (rw (repeated_first f w.ids place (drop k marks), eq-eqb (two b (j + 2)) 0x0120 kind, get_or-drop k marks 0 0, z, drop-drop 1 k marks) at s);
          }

-- the loop of `met_own`: what is left of the index decides
pub record Unlike (b own : List ℕ) (c p e k : ℕ) : Type 0 where
  pub places : Places b own c
  pub upto : k ≤ c
  pub same : met (slice p e b) (placed_keys b own c) ≡ met (slice p e b) (map (key_at b Own) (slice k c own))

pub unlike_none : {b own : List ℕ} {c : ℕ} (p e : ℕ) → Places b own c → Unlike b own c p e 0
unlike_none p e w = record { places = w; upto = omega arith; same = refl }

pub place_whole : {b own : List ℕ} {c : ℕ} (k : ℕ) {v : ℕ} → Places b own c → k < c → v ≡ get_or own k 0 → Whole b v
place_whole k w h q = rw q (w.whole k h)

module _ {b own : List ℕ} {c p e k : ℕ} (w : Unlike b own c p e k) where
  pub unlike_all : c ≤ k → false ≡ met (slice p e b) (placed_keys b own c)
  unlike_all h =
      let z : k ≡ c = omega (arith, w.upto) in
      sym (w.same ∙ rw (z, slice_empty c own) refl)

  module _ (h : k < c) {v : ℕ} (q : v ≡ get_or own k 0) {t : Bool} (r : t ≡ (bears b Own v && equal (slice p e b) (key_at b Own v))) where
    -- the record at the k-th place decides, or those that follow
    place_or : met (slice p e b) (placed_keys b own c) ≡ (t || met (slice p e b) (map (key_at b Own) (slice (k + 1) c own)))
    place_or = w.same ∙ rw (r, q, w.places.bearing k h, cons own k c h w.places.within) refl

    pub unlike_found : t ≡ true → true ≡ met (slice p e b) (placed_keys b own c)
    unlike_found u = sym (rw u at place_or)

    pub unlike_next : t ≡ false → Unlike b own c p e (k + 1)
    unlike_next u = record { places = w.places; upto = omega arith; same = rw u at place_or }

-- what `noted` makes of an index
pub noted_full : (b own : List ℕ) (c j r : ℕ) → 128 ≤ r → Noted b own own c j r
noted_full b own c j r h = record { is = λ ids x. record { room = x.room; places = λ l. absurd (omega arith); are = λ l. absurd (omega arith) } }

module _ (b own : List ℕ) (c j : ℕ) {t : Bool} (e : t ≡ bears b Own j) where
  pub noted_same : t ≡ false → Noted b own own c j c
  noted_same u = record { is = λ ids x. record { room = x.room; places = x.places; are = λ l. rw (sym e ∙ u, append-nil) (x.are l) } }

  pub noted_more : t ≡ true → c < 128 → Whole b j → Noted b own (set own c j) c j (c + 1)
  noted_more u h w = record {
    is = λ ids x. record {
      room = rw (length-set own c j) x.room;
      places = λ _. record {
        within = rw (length-set own c j) (omega (arith, x.room));
        whole = λ k l. by_place (Whole b) w (x.places h).whole x.room k l;
        bearing = λ k l. by_place (λ (n : ℕ). bears b Own n ≡ true) (sym e ∙ u) (x.places h).bearing x.room k l;
      };
      are = λ _. all ids x;
    };
  }
    where
      by_place : (P : ℕ → Type 0) → P j → ((k : ℕ) → k < c → P (get_or own k 0)) → 128 ≤ length own → (k : ℕ) → k < c + 1 → P (get_or (set own c j) k 0)
      by_place P here there r k l = go (eqb k c) refl
        where
          go : (v : Bool) → eqb k c ≡ v → P (get_or (set own c j) k 0)
          go true q = rw (eqb-true k c q, get_or-set_same own c j 0 (omega (arith, r, h))) here
          go false q = let n : k ≡ c → ⊥ = eqb-false k c q in rw (get_or-set_other own c k j 0 n) (there k (omega (arith, n)))

      all : (ids : List (List ℕ)) → Index b own c ids → placed_keys b (set own c j) (c + 1) ≡ ids ++ pick (bears b Own j) (key_at b Own j ∷ []) []
      all ids x = rw (sym e ∙ u, add-one, take-suc-set own c j (omega (arith, x.room)), map-append (key_at b Own) (take c own) (j ∷ []), x.are h) refl

-- an index of no records
pub indexed_none : {b : List ℕ} {i end : ℕ} (own : List ℕ) → Holds b i end → 128 ≤ length own → Indexed b own i i 0
unfolding pays gone_none
indexed_none own h r = record {
  rs = [];
  lies = gone_lies (gone_none Own h.lies);
  index = record { room = r; places = λ _. record { within = omega arith; whole = λ k l. absurd (omega arith); bearing = λ k l. absurd (omega arith) }; are = λ _. refl };
}

module _ {b own : List ℕ} {i j c : ℕ} (w : Indexed b own i j c) where
  pub indexed_holds : Holds b i j
  indexed_holds = record { rs = w.rs; lies = w.lies }

  pub indexed_places : c < 128 → Places b own c
  indexed_places h = w.index.places h

  -- what `met_own` answered
  pub repeat_placed : {t : Bool} {q n : ℕ} {r : Bool} → c < 128 → t ≡ bears b Own j → t ≡ true → q ≡ skip Own → n ≡ behind b j → r ≡ met (slice (j + q) n b) (placed_keys b own c) → RepeatTold b Own i j r
  unfolding key_at
  repeat_placed h e u k l m = record { is = λ rs z. rw (sym e ∙ u, ← k, ← l, lie_same z w.lies, ← w.index.are h) m }

  -- the record at j as well
  pub indexed_next : {marks own' : List ℕ} {end k place m n : ℕ} → Apart b marks i end j k place → j < end → Noted b own own' c j m → n ≡ behind b j → Indexed b own' i n m
  unfolding gone_next
  indexed_next {own' = own'} {end = end} {m = m} {n = n} a h x d = go (some_lie a.gone.after h) a.gone
    where
      go : {all left : List Rec} {ids : List (List ℕ)} → Begun b j end left → Gone b Own i end j all left ids → Indexed b own' i n m
      go (some {r = r} f) g = record {
        rs = g.done ++ (r ∷ []);
        lies = rw d (gone_lies (gone_next g f));
        index = rw (keys_append Own g.done (r ∷ []), keys_first f Own [], keys_none Own, lie_same (gone_lies g) w.lies) (by_pick (bears b Own j) (x.is (ids_of w.rs) w.index));
      }
        where
          by_pick : (t : Bool) → Index b own' m (ids_of w.rs ++ pick t (key_at b Own j ∷ []) []) → Index b own' m (ids_of w.rs ++ choose t (λ _. key_at b Own j ∷ []) (λ _. []))
          by_pick true y = y
          by_pick false y = y
