-- A row of the list, out of its four numbers; and why it is as it is.
use Prim.Native.Nat.{ℕ, zero, suc, ◌+◌, ◌<◌, ◌≤◌}
use mathlib.Core.Path.{◌≡◌, refl, sym, ap, ◌∙◌}
use mathlib.Core.Bool.{Bool, true, false, ◌&&◌}
use mathlib.Core.Logic.{◌⊎◌, inl, inr}
use lib.Dec.{eqb}
use Rattle.elements.specs.Choice.{pick}
use Rattle.rules.specs.Reading.{Rec}
use mathlib.Core.List.{List, [], ◌∷◌, Memᴰ}
use native.Mathlib.Nat.{sub-zero, zero-sub}
use native.Mathlib.Omega.{arith}
use lib.ListN.{length, get_or, take, drop}
use Rattle.std.specs.Prelude.{Option, Result, Ok, Err, IsOk}
use lib.Seq.{slice, sets}
use Rattle.elements.specs.Lists.{Bytes}
use Rattle.elements.specs.ChoiceLaws.{by_less}
use Rattle.elements.specs.PutLaws.{put_over}
use Rattle.elements.specs.declared.fault.Fault.TheVariants.{NoDump, NotThere}
use Rattle.rules.specs.Book.{records, Ends}
use Rattle.layouts.specs.Accept.{BookTold}
use Rattle.links.specs.Links.{states, Reply, by, missing, Row, number, listed, links, links_from}
use Rattle.links.specs.declared.sorts.Link.{Link}
use Rattle.links.specs.declared.sorts.NoLink.{NoLink}
use Rattle.links.specs.declared.index.Index.{Index}
use Rattle.links.specs.Numbers.{Names}
use Rattle.links.specs.Chains.{Indexed}
use Rattle.links.specs.Finding.{objects_at, FoundAt, RowsPut}
use Rattle.links.specs.FindingLaws.{from_start, rows_links, some_end}
use Rattle.links.specs.Told.{at_below}
use Rattle.links.specs.BookFacts.{if_book_lem, if_none}
use Rattle.links.proofs.AnswerLaws.{rows_answered, rows_stated}
use Rattle.why.specs.declared.answer.Why.{Why}
use Rattle.why.specs.declared.answer.Why.TheVariants as answer
use Rattle.why.specs.Why.{the_row, row_at, stands, why}
use Rattle.elements.specs.Answer.{refused}
use Rattle.why.specs.Whys.{Reasoned, why_told, whying, WhyTold, UnmetAt, PeopledTold, Missed, Explained}
use Rattle.why.specs.RowFacts.{row_there, row_past}
use Rattle.why.proofs.StandsLaws.{peopled_told}
use Rattle.why.proofs.PlaceLaws.{stated}

-- there are three links
states_few : (entry kind : ℕ) → states entry kind ≤ 3
unfolding states
states_few entry kind = go (eqb kind 0x0123) (eqb kind 0x0127) (eqb kind 0x0130 && eqb entry 0xa0)
  where
    go : (t u v : Bool) → pick t 1 (pick u 2 (pick v 3 0)) ≤ 3
    go true u v = omega arith
    go false true v = omega arith
    go false false true = omega arith
    go false false false = omega arith

-- the first number of a row of the list is a link's
stated_link : (rs : List Rec) (r : Row) → Memᴰ r (links rs) → (r.link ≡ 0) ⊎ (3 < r.link) → ⊥
stated_link rs r m (inl e) = ((rows_stated rs r m).1).some e
stated_link rs r m (inr l) = let s = (rows_stated rs r m).1 in omega (arith, states_few s.object.entry s.kind, s.says)

-- row n, if the list is so long
row_got : (rs : List Row) (n : ℕ) → n < length rs → (r : Row) × (row_at rs n ≡ the_row r) × (drop n rs ≡ r ∷ drop (suc n) rs)
row_got [] n h = absurd (omega arith)
row_got (r ∷ rs) zero h = (r, refl, refl)
row_got (r ∷ rs) (suc n) h = row_got rs n (omega arith)

-- into four numbers the first four are put
first_four : (a : List ℕ) → length a ≡ 4 → (w x y z : ℕ) (more : List ℕ) → sets a 0 (w ∷ x ∷ y ∷ z ∷ more) ≡ w ∷ x ∷ y ∷ z ∷ []
first_four [] e w x y z more = absurd (omega arith)
first_four (i ∷ []) e w x y z more = absurd (omega arith)
first_four (i ∷ j ∷ []) e w x y z more = absurd (omega arith)
first_four (i ∷ j ∷ k ∷ []) e w x y z more = absurd (omega arith)
first_four (i ∷ j ∷ k ∷ l ∷ []) e w x y z more = sym (put_over {a = i ∷ j ∷ k ∷ l ∷ []} {b = w ∷ x ∷ y ∷ z ∷ []} {o = 0} {p = 4} {x = w ∷ x ∷ y ∷ z ∷ []} (record { at = refl; to = refl }) (omega arith) more).to
first_four (i ∷ j ∷ k ∷ l ∷ m ∷ a) e w x y z more = absurd (omega arith)

module _ (b : List ℕ) {c : List ℕ} {w q : ℕ} (a : List ℕ) (four : length a ≡ 4) (f : RowsPut w a c 0 q (links_from (objects_at b 0) 0 (objects_at b 0))) where
  put : RowsPut w a c 0 q (links (records b))
  put = rw (← rows_links b) f

  -- there is no such row
  pub why_none : q ≤ w → refused NotThere 0 ≡ why_told (why (records b) w)
  unfolding why
  why_none h = rw (row_past (links (records b)) w (omega (arith, put.at))) refl

  -- there is one, and these are its numbers
  module _ (h : w < q) where
    got : (r : Row) × (row_at (links (records b)) w ≡ the_row r) × (drop w (links (records b)) ≡ r ∷ drop (suc w) (links (records b)))
    got = row_got (links (records b)) w (omega (arith, put.at))

    abbrev r : Row
    r = got.0

    numbers : c ≡ r.link ∷ r.object ∷ r.at ∷ number r.reply ∷ []
    unfolding listed
    numbers = put.to ∙ rw (zero-sub w, sub-zero w, got.2) (first_four a four r.link r.object r.at (number r.reply) (listed (drop (suc w) (links (records b)))))

    on_list : Memᴰ r (links (records b))
    on_list = row_there (links (records b)) w got.1

    pub why_inside : get_or c 2 0 + 4 ≤ length b
    why_inside = let k : get_or c 2 0 ≡ r.at = ap (λ (y : List ℕ). get_or y 2 0) numbers in rw k (stated b r on_list).inside

    -- its first number is a link's
    pub why_link : (v : Result Link NoLink) → Names (get_or c 0 0) v → IsOk v
    why_link (Ok l) m = refl
    why_link (Err e) m = absurd (stated_link (records b) r on_list (rw numbers at m.1))

    module _ {x : Index} (g : Indexed b x) where
      -- an answering object is one of the n
      replied : (p : Reply) → r.reply ≡ p → number p < x.n → (j : ℕ) → number p ≡ j → r.reply ≡ by j
      replied (by k) e l j z = e ∙ ap by z
      replied missing e l j z = absurd (omega (arith, g.entered.few))

      unreplied : (p : Reply) → r.reply ≡ p → x.n ≤ number p → r.reply ≡ missing
      unreplied missing e l = e
      unreplied (by k) e l =
          let m = (rows_answered (records b) r.link r.object r.at k).0 (rw (← e) on_list) in
          let s = at_below (objects_at b 0) k {o = m.2.object} (rw (from_start b) m.2.numbered) in
          absurd (omega (arith, s, g.entered.count))

      pub why_told_lem : {link : ℕ} {v : Why} → link ≡ get_or c 0 0 → Explained b link (get_or c 2 0) (get_or c 3 0) x v → Ok v ≡ why_told (why (records b) w)
      unfolding why
      why_told_lem {link} {v} f u = by_less (get_or c 3 0) x.n met_told unmet_told
        where
          z : get_or c 3 0 ≡ number r.reply
          z = ap (λ (y : List ℕ). get_or y 3 0) numbers

          met_told : get_or c 3 0 < x.n → Ok v ≡ why_told (why (records b) w)
          met_told l =
              let y = replied r.reply refl (omega (arith, z)) (get_or c 3 0) (sym z) in
              ap Ok ((u.met l).is _ (g.entered.entries.ids (get_or c 3 0) l)) ∙ rw (got.1, y, from_start b) refl

          unmet_told : x.n ≤ get_or c 3 0 → Ok v ≡ why_told (why (records b) w)
          unmet_told l =
              let m = u.unmet l in
              let i : link ≡ r.link = f ∙ ap (λ (y : List ℕ). get_or y 0 0) numbers in
              let k : get_or c 2 0 ≡ r.at = ap (λ (y : List ℕ). get_or y 2 0) numbers in
              let y = unreplied r.reply refl (omega (arith, z)) in
              let d = (stated b r on_list).value m.end (rw k at m.ends) in
              ap Ok m.is ∙ rw (got.1, y, ← from_start b, d, i, k) refl

-- of a missing link
module _ {b : List ℕ} {x : Index} {link p : ℕ} {t : Bool} (g : Indexed b x) (k : PeopledTold link (take x.n x.entries) t) where
  pub missed_none : p + 4 ≤ length b → t ≡ false → Missed b link p answer.NoObject
  missed_none h z = some_end b p h (λ e d. record { end = e; ends = d; is = rw (← peopled_told g k, z) refl })

  pub missed_some : {e : ℕ} {m : Option ℕ} {v : Why} → t ≡ true → Ends b p e → FoundAt b (stands link (slice (p + 4) e b) (objects_at b 0)) m → UnmetAt b m v → Missed b link p v
  missed_some {e} z d f u = record { end = e; ends = d; is = u.is _ f ∙ rw (← peopled_told g k, z) refl }

-- the book is one, or none
module _ {b : List ℕ} {t : Bool} (k : BookTold b t) (n : ℕ) where
  pub why_yes : {v : Reasoned} → t ≡ true → v ≡ why_told (why (records b) n) → WhyTold b n v
  unfolding whying
  why_yes e q = record { is = q ∙ sym (if_book_lem k (why_told (why (records b) n)) (refused NoDump 0) e) }

  pub why_no : t ≡ false → Bytes b → WhyTold b n (refused NoDump 0)
  unfolding whying
  why_no e h = record { is = sym (if_none k (why_told (why (records b) n)) (refused NoDump 0) e h) }
