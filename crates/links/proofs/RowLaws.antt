-- Rows put into lent numbers, list by list: those of a link's answers.
use Prim.Native.Nat.{ℕ, suc, ◌+◌, ◌-◌, ◌*◌, ◌<◌, ◌≤◌}
use mathlib.Core.Path.{◌≡◌, refl, ◌∙◌}
use mathlib.Core.List.{List, [], ◌∷◌, ◌++◌, map, append_assoc, append-nil}
use mathlib.Core.Bool.{Bool, true, false}
use native.Mathlib.Numerals.{add-one}
use native.Mathlib.Omega.{arith}
use lib.ListN.{length, get_or, drop, drop_of_length-le, length-append, length-drop}
use lib.Seq.{slice, sets, drop-nil, drop-append-le, drop-append-add}
use Rattle.std.specs.Prelude.{Option, Some, None}
use Rattle.std.specs.Option.{unwrap_or}
use Rattle.elements.specs.Put.{Put}
use Rattle.elements.specs.PutLaws.{put_put}
use Rattle.elements.specs.Choice.{choose}
use Rattle.elements.specs.ChoiceLaws.{by_less}
use Rattle.links.specs.Links.{bears, answers, Reply, by, missing, number, Row, row, rows_of, listed}
use Rattle.links.specs.declared.index.Index.{Index}
use Rattle.links.specs.Finding.{objects_at, entry_at, AnswerTold, RowsPut}
use Rattle.links.specs.FindingLaws.{at_number}
use Rattle.links.specs.Told.{four_each}
use Rattle.links.specs.Chains.{key_of, key_at, Key, Leads, Indexed}
use Rattle.links.proofs.LeadLaws.{answers_lead}

-- four numbers put one after the other
pub put_four : {a b c d e : List ℕ} {o p q r s w x y z : ℕ} → Put a b o p (w ∷ []) → Put b c p q (x ∷ []) → Put c d q r (y ∷ []) → Put d e r s (z ∷ []) → Put a e o s (w ∷ x ∷ y ∷ z ∷ [])
put_four f g h k = put_put (put_put (put_put f g) h) k

-- a row before the window is not put; one from there on is, by its four numbers
pub row_before : (a : List ℕ) {w o : ℕ} (r : Row) → o < w → RowsPut w a a o (o + 1) (r ∷ [])
unfolding listed
row_before a {w} {o} r h = record { at = refl; to = let z : w - o ≡ suc (w - o - 1) = omega arith in rw (z, drop-nil (w - o - 1)) refl }

pub row_in : {a b : List ℕ} {w o s l link i p j : ℕ} (q : Reply) → w ≤ o → Put a b (4 * (o - w)) s (l ∷ i ∷ p ∷ j ∷ []) → l ≡ link → j ≡ number q → RowsPut w a b o (o + 1) (row link i p q ∷ [])
unfolding listed
row_in {w = w} {o = o} q h f u e = record { at = refl; to = let z : w - o ≡ 0 = omega arith in rw (z, ← u, ← e) f.to }

-- numbers of rows, list by list
listed_append : (xs ys : List Row) → listed (xs ++ ys) ≡ listed xs ++ listed ys
unfolding listed
listed_append [] ys = refl
listed_append (r ∷ xs) ys = rw (listed_append xs ys) refl

-- rows are put one after the other, whether the window has begun or not
rows_none : (w : ℕ) (a : List ℕ) (o : ℕ) → RowsPut w a a o o []
unfolding listed
rows_none w a o = record { at = omega arith; to = rw (drop-nil (w - o)) refl }

rows_then : {w : ℕ} {a c d : List ℕ} {o q r : ℕ} {xs ys : List Row} → RowsPut w a c o q xs → RowsPut w c d q r ys → RowsPut w a d o r (xs ++ ys)
unfolding listed
rows_then {w} {a} {c} {d} {o} {q} {r} {xs} {ys} f g = record { at = omega (arith, length-append xs ys, f.at, g.at); to = by_less q w before begun }
  where
    before : q < w → d ≡ sets a (4 * (o - w)) (listed (drop (w - o) (xs ++ ys)))
    before h =
        let k : w - o ≡ length xs + (w - q) = omega (arith, f.at) in
        let n : drop (w - o) xs ≡ [] = drop_of_length-le xs {i = w - o} (omega (arith, f.at)) in
        let y : c ≡ a = f.to ∙ rw n refl in
        let i : 4 * (q - w) ≡ 4 * (o - w) = omega (arith, f.at) in
        g.to ∙ rw (y, i, k, drop-append-add xs ys (w - q)) refl

    begun : w ≤ q → d ≡ sets a (4 * (o - w)) (listed (drop (w - o) (xs ++ ys)))
    begun h =
        let z : w - q ≡ 0 = omega arith in
        let m = length-drop (w - o) xs in
        let i : 4 * (q - w) ≡ 4 * (o - w) + length (listed (drop (w - o) xs)) = omega (arith, f.at, four_each (drop (w - o) xs), m) in
        let x : Put a c (4 * (o - w)) (4 * (q - w)) (listed (drop (w - o) xs)) = record { at = i; to = f.to } in
        let y : Put c d (4 * (q - w)) (4 * (q - w) + length (listed ys)) (listed ys) = record { at = refl; to = rw z at g.to } in
        rw (drop-append-le (w - o) xs ys (omega (arith, f.at)), listed_append (drop (w - o) xs) ys) (put_put x y).to

-- of all rows, those before what is left are put
pub record Partly (w : ℕ) (a c : List ℕ) (o q : ℕ) (all left : List Row) : Type 0 where
  pub done : List Row
  pub is : done ++ left ≡ all
  pub put : RowsPut w a c o q done

pub partly_none : (w : ℕ) (a : List ℕ) (o : ℕ) (all : List Row) → Partly w a a o o all all
partly_none w a o all = record { done = []; is = refl; put = rows_none w a o }

module _ {w : ℕ} {a c : List ℕ} {o q : ℕ} {all left : List Row} (p : Partly w a c o q all left) where
  pub partly_more : {d : List ℕ} {r : ℕ} {xs : List Row} (rest : List Row) → RowsPut w c d q r xs → left ≡ xs ++ rest → Partly w a d o r all rest
  partly_more {xs = xs} rest f e = record { done = p.done ++ xs; is = rw (append_assoc, ← e) p.is; put = rows_then p.put f }

  pub partly_all : left ≡ [] → RowsPut w a c o q all
  partly_all e = let z : p.done ≡ all = rw (e, append-nil) at p.is in rw z at p.put

-- the objects that answer, from the j-th on; rows of them
abbrev answers_from : List ℕ → ℕ → ℕ → ℕ → ℕ → List ℕ
answers_from b p e link j = answers link (slice (p + 4) e b) j (drop j (objects_at b 0))

abbrev by_rows : ℕ → ℕ → ℕ → List ℕ → List Row
by_rows link i p js = map (row link i p) (map by js)

-- the loop of `put_answers`: the rows of the answers before object j are put, and j, if it is one of the n, is the next in the identifier's chain
pub record Answering (b : List ℕ) (p e link i n w : ℕ) (a c : List ℕ) (o : ℕ) (next : Option ℕ) (q : ℕ) : Type 0 where
  pub few : q ≤ o + unwrap_or next n
  pub most : q ≤ o + n
  pub here : (j : ℕ) → next ≡ Some j → (j < n) × (key_at b j ≡ key_of (slice (p + 4) e b))
  pub partly : Partly w a c o q (by_rows link i p (answers_from b p e link 0)) (by_rows link i p (answers_from b p e link (unwrap_or next n)))

module _ {b : List ℕ} {x : Index} {p e h : ℕ} (k : Key (slice (p + 4) e b) h) (g : Indexed b x) where
  pub answering_none : (w : ℕ) (a : List ℕ) (link i o : ℕ) → Answering b p e link i x.n w a a o (get_or x.firsts h None) o
  answering_none w a link i o = record { few = omega arith; most = omega arith; here = lead.here; partly = rw (answers_lead link (slice (p + 4) e b) lead) (partly_none w a o _) }
    where
      lead : Leads b x.n (key_of (slice (p + 4) e b)) 0 (get_or x.firsts h None)
      lead = rw k.is (g.chained.first h k.small)

  module _ {link i w : ℕ} {a c : List ℕ} {o q j : ℕ} {next : Option ℕ} (z : Answering b p e link i x.n w a c o next q) (f : next ≡ Some j) where
    pub answering_fits : j < 128
    answering_fits = omega (arith, (z.here j f).0, g.entered.few)

    -- the next one in the chain
    lead : Leads b x.n (key_of (slice (p + 4) e b)) (j + 1) (get_or x.nexts j None)
    lead = rw k.is (g.chained.next j h (omega arith) (z.here j f).0 k.small ((z.here j f).1 ∙ k.is))

    -- the j-th object is told
    module _ {t : Bool} (v : AnswerTold b p e link (entry_at x.entries j).tag (entry_at x.entries j).id t) where
      first : answers_from b p e link (unwrap_or next x.n) ≡ choose t (λ _. j ∷ answers_from b p e link (unwrap_or (get_or x.nexts j None) x.n)) (λ _. answers_from b p e link (unwrap_or (get_or x.nexts j None) x.n))
      unfolding answers bears
      first =
          let l = (z.here j f).0 in
          let m = at_number (objects_at b 0) j (omega (arith, g.entered.count)) in
          let y : m.0.entry ≡ (entry_at x.entries j).tag = rw m.1 at (g.entered.entries.tags j l) in
          rw (f, ← answers_lead link (slice (p + 4) e b) lead, add-one, m.2, (rw (← y) at v).is _ (rw m.1 at (g.entered.entries.ids j l))) refl

      pub answering_more : {d : List ℕ} {r : ℕ} → t ≡ true → RowsPut w c d q r (row link i p (by j) ∷ []) → Answering b p e link i x.n w a d o (get_or x.nexts j None) r
      answering_more u y =
          record {
            few = let l : q ≤ o + j = rw f at z.few in omega (arith, lead.low, y.at);
            most = let l : q ≤ o + j = rw f at z.few in omega (arith, y.at, (z.here j f).0);
            here = lead.here;
            partly = partly_more z.partly {xs = row link i p (by j) ∷ []} _ y (rw (first, u) refl);
          }

      pub answering_same : t ≡ false → Answering b p e link i x.n w a c o (get_or x.nexts j None) q
      answering_same u = record { few = let l : q ≤ o + j = rw f at z.few in omega (arith, lead.low); most = z.most; here = lead.here; partly = rw (first, u) at z.partly }

-- all objects are told
module _ {b : List ℕ} {x : Index} {p e link i w : ℕ} {a c : List ℕ} {o q : ℕ} {next : Option ℕ} (g : Indexed b x) (z : Answering b p e link i x.n w a c o next q) (h : next ≡ None) where
  all_told : RowsPut w a c o q (by_rows link i p (answers_from b p e link 0))
  unfolding answers
  all_told = let n : unwrap_or next x.n ≡ x.n = rw h refl in partly_all z.partly (rw (drop_of_length-le (objects_at b 0) {i = unwrap_or next x.n} (omega (arith, g.entered.count))) refl)

  pub answering_some : (q ≡ o → ⊥) → RowsPut w a c o q (rows_of link i p (answers_from b p e link 0))
  answering_some u = go (answers_from b p e link 0) all_told
    where
      go : (js : List ℕ) → RowsPut w a c o q (by_rows link i p js) → RowsPut w a c o q (rows_of link i p js)
      go [] f = absurd (u (omega (arith, f.at)))
      go (k ∷ js) f = f

  pub answering_missing : {d : List ℕ} {r : ℕ} → q ≡ o → RowsPut w c d o r (row link i p missing ∷ []) → RowsPut w a d o r (rows_of link i p (answers_from b p e link 0))
  answering_missing {d} {r} u g = go (answers_from b p e link 0) all_told
    where
      go : (js : List ℕ) → RowsPut w a c o q (by_rows link i p js) → RowsPut w a d o r (rows_of link i p js)
      go [] f = rows_then (rw u at f) g
      go (k ∷ js) f = absurd (omega (arith, f.at))
