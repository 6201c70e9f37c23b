-- A renderer makes a part's bytes of its records, in front of any that may follow: said of data alone, nothing is read.
use Prim.Native.Nat.{ℕ, zero, suc, ◌+◌, ◌-◌, ◌*◌, ◌^◌, ◌≤◌, ◌<◌}
use mathlib.Core.List.{List, [], ◌∷◌, ◌++◌, append_assoc, append-nil, append_cancel_right}
use Rattle.std.specs.Prelude.{Bool, true, false, not, ◌||◌, ◌&&◌, ◌≡◌, get_or, drop, replicate, ltb, leb, T}
use Rattle.std.proofs.Math.Option as option
use Rattle.std.proofs.Common.{inl, inr, sym, ap, ◌∙◌, arith, leb→le, eq-eqb}
use Rattle.std.proofs.Math.Path.{refl}
use Rattle.std.proofs.Math.ListN.{length, length-append}
use Rattle.std.proofs.lemmas.List.{length-replicate}
use Rattle.elements.specs.declared.answer.Form.{Form}
use Rattle.elements.specs.declared.answer.Form.TheVariants as form
use Rattle.elements.specs.ChoiceLaws.{all_both}
use Rattle.elements.specs.CharacterLaws.{utf8s_one}
use Rattle.elements.specs.Encodings.{Worth, contents_of}
use Rattle.elements.specs.Put.{le16, le32}
use Rattle.rules.specs.Reading.{Rec, rec, count, number, twos, untwos}
use Rattle.rules.specs.declared.table.Need.{Need}
use Rattle.rules.specs.declared.table.Need.TheVariants.{Required, Optional, Default}
use Rattle.rules.specs.declared.table.Row.{Row}
use Rattle.rules.specs.Looks.{Look, look, only_if, seq_look, elem_look, offer_look, rest_look, many_look, least_look, join_look, row_look, rows_look, fill_look}
use Rattle.rules.specs.Rendering.{gives, Renderer, nothing, ◌next◌, within, r_lengthed, when, either, from, plain, unvalue, r_row, r_rows, r_keep, r_many, r_all, r_times, r_fill}
use Rattle.rules.specs.Grammar.{Where, site_of, here, opening, into, ◌on◌, ◌later◌, each, possibly, low, element_bytes, SealedRun, over, shallow, deep, Part, Item, empty, ◌and◌, ◌or◌, one, optional, slot, tagged, with, behind, sealed_one, raw, unless_empty, rest, flat, AllMeet, many, one_of, lengthed, pay_of, Fine, field, fields, fill}
use Rattle.rules.specs.ElementLaws.{low_tag, LowTag, low_tag_lem, wrap_is, element_long, same_element}
use Rattle.rules.specs.ValueLaws.{count_le16, number_le32}
use Rattle.rules.specs.BoundLaws.{bounds_fit, within_fits, twos_fits, twos_back}
use Rattle.rules.specs.LookLaws.{pay_first, Fresh, Begins, avoids, size, Laid, bodily, repeats, subset, implies, under, fresh_left, fresh_right, begins_fresh, begins_hard, begins_soft, begins_one, size_append, laid_append, when_none, when_some, fresh_subset, only, begins_many, begins_more, begins_later, apart, longer, not_empty, begins_subset, begins_seq, either_left, either_right, none}

-- q makes the part's bytes of its records, in front of any that may follow
pub record Renders (P : Part) (q : Renderer) (L : Look) : Type 0 where
  pub renders : (v : Where) (x : P.Of) → P.Meets x → (w : List Rec) → Fresh L.stop w → q (P.book v x ++ w) ≡ gives (P.bytes x) w
  pub begins : (v : Where) (x : P.Of) → P.Meets x → Begins L.first L.empty (P.book v x)
  pub bound : (v : Where) (x : P.Of) → P.Meets x → size (P.book v x) ≤ 4 * length (P.bytes x) + L.credit
  pub laid : (v : Where) (x : P.Of) → P.Meets x → (n : ℕ) → length (P.bytes x) ≤ n → Laid n (P.book v x)
  -- its records tell its data, wherever it stands
  pub tells : (u v : Where) (x y : P.Of) → P.Meets x → P.Meets y → P.book u x ≡ P.book v y → x ≡ y
  -- its records are the same wherever its file starts
  pub moved : (v : Where) (n : ℕ) (x : P.Of) → P.book (v later n) x ≡ P.book v x

pub later_on : (v : Where) (n k : ℕ) → (v later n) on k ≡ (v on k) later n
later_on v n k = let e : n + v.at + k ≡ n + (v.at + k) = omega arith in ap (λ (i : ℕ). here (site_of v.file.number (n + v.file.start)) i) e

-- and so are those of the nth file
pub home : {P : Part} {q : Renderer} {L : Look} → Renders P q L → (n p : ℕ) (x : P.Of) → P.book (opening n p) x ≡ P.book (opening n 0) x
home {P} r n p x = let e : p ≡ p + 0 = omega arith in ap (λ (i : ℕ). P.book (opening n i) x) e ∙ r.moved (opening n 0) p x

-- so are those of a part that stands so many bytes behind
pub moved_on : {P : Part} {q : Renderer} {L : Look} → Renders P q L → (v : Where) (n k : ℕ) (x : P.Of) → P.book ((v later n) on k) x ≡ P.book (v on k) x
moved_on {P} r v n k x = ap (λ w. P.book w x) (later_on v n k) ∙ r.moved (v on k) n x

-- a part is told by its records and by what may follow them
pub told : {P : Part} {q : Renderer} {L : Look} → Renders P q L → (i j : Where) (x y : P.Of) → P.Meets x → P.Meets y → (v w : List Rec) → Fresh L.stop v → Fresh L.stop w →
    P.book i x ++ v ≡ P.book j y ++ w → (x ≡ y) × (v ≡ w)
told {P} {q} {L} r i j x y mx my v w fv fw e =
    let a : gives (P.bytes x) v ≡ gives (P.bytes y) w = sym (r.renders i x mx v fv) ∙ ap q e ∙ r.renders j y my w fw in
    let b : v ≡ w = ap {B = List Rec} (λ g. g.left) a in
    let c : P.book i x ++ v ≡ P.book j y ++ v = e ∙ rw b refl in
    (r.tells i j x y mx my (append_cancel_right (P.book i x) (P.book j y) v c), b)

module _ {P Q : Part} {q p : Renderer} {L M : Look} where
  -- one part after the other
  pub and_renders : Renders P q L → Renders Q p M → T (avoids M.first L.stop) → Renders (P and Q) (q next p) (seq_look L M)
  and_renders f g a = record {
    renders = λ v x m w h.
        let bs = P.book v x.0 in
        let cs = Q.book (behind v x) x.1 in
        let i : q (bs ++ (cs ++ w)) ≡ gives (P.bytes x.0) (cs ++ w) = f.renders v x.0 m.0 (cs ++ w) (after (behind v x) x.1 m.1 w (only M.empty L.stop w (fresh_right M.stop (only_if M.empty L.stop) w h))) in
        let j : p (cs ++ w) ≡ gives (Q.bytes x.1) w = g.renders (behind v x) x.1 m.1 w (fresh_left M.stop (only_if M.empty L.stop) w h) in
        rw (append_assoc, i, j) refl;
    begins = λ v x m. begins_seq L.first M.first L.empty M.empty (f.begins v x.0 m.0) (g.begins (behind v x) x.1 m.1);
    bound = λ v x m. omega (arith, size_append (P.book v x.0) (Q.book (behind v x) x.1), length-append (P.bytes x.0) (Q.bytes x.1), f.bound v x.0 m.0, g.bound (behind v x) x.1 m.1);
    laid = λ v x m n h.
        let k = length-append (P.bytes x.0) (Q.bytes x.1) in
        laid_append n (P.book v x.0) (Q.book (behind v x) x.1) (f.laid v x.0 m.0 n (omega arith)) (g.laid (behind v x) x.1 m.1 n (omega arith));
    tells = λ u v x y mx my e.
        let t = told {P = P} f u v x.0 y.0 mx.0 my.0 (Q.book (behind u x) x.1) (Q.book (behind v y) y.1) (alone (behind u x) x.1 mx.1) (alone (behind v y) y.1 my.1) e in
        let b : x.0 ≡ y.0 = t.0 in
        let c : x.1 ≡ y.1 = g.tells (behind u x) (behind v y) x.1 y.1 mx.1 my.1 t.1 in
        λ i. (b i, c i);
    moved = λ v n x. rw (f.moved v n x.0, moved_on g v n (length (P.bytes x.0)) x.1) refl;
  }
    where
      -- where the second part stands
      behind : Where → (P and Q).Of → Where
      behind v x = v on length (P.bytes x.0)

      after : (v : Where) (y : Q.Of) → Q.Meets y → (w : List Rec) → (T M.empty → Fresh L.stop w) → Fresh L.stop (Q.book v y ++ w)
      after v y m w h = begins_fresh M.first L.stop M.empty w (g.begins v y m) a h

      alone : (v : Where) (y : Q.Of) → Q.Meets y → Fresh L.stop (Q.book v y)
      alone v y m = rw append-nil at (after v y m [] (λ _. tt))

-- nothing
pub none_renders : Renders empty nothing (look [] true [] 0)
none_renders = record { renders = λ v x m w h. refl; begins = λ v x m. none tt; bound = λ v x m. omega arith; laid = λ v x m n h. tt; tells = λ u v x y mx my e. refl; moved = λ v n x. refl }

module _ {P : Part} {q : Renderer} where
  -- where there is more to meet
  pub with_renders : {L : Look} (f : P.Of → Type 0) → Renders P q L → Renders (with P f) q L
  with_renders f r = record {
    renders = λ v x m. r.renders v x m.0;
    begins = λ v x m. r.begins v x m.0;
    bound = λ v x m. r.bound v x m.0;
    laid = λ v x m. r.laid v x m.0;
    tells = λ u v x y mx my. r.tells u v x y mx.0 my.0;
    moved = r.moved;
  }

  -- known by less
  pub weaken : (L M : Look) → T (under L M) → Renders P q L → Renders P q M
  weaken L M t r =
      let a = all_both (subset L.first M.first && subset L.stop M.stop) (implies L.empty M.empty && leb L.credit M.credit) t in
      let b = all_both (subset L.first M.first) (subset L.stop M.stop) a.0 in
      let c = all_both (implies L.empty M.empty) (leb L.credit M.credit) a.1 in
      let d : L.credit ≤ M.credit = leb→le L.credit M.credit c.1 in
      record {
        renders = λ v x m w h. r.renders v x m w (fresh_subset L.stop M.stop w b.1 h);
        begins = λ v x m. begins_subset L.first M.first L.empty M.empty b.0 c.0 (r.begins v x m);
        bound = λ v x m. omega (arith, r.bound v x m);
        laid = r.laid;
        tells = r.tells;
        moved = r.moved;
      }

module _ {P : Part} {q : Renderer} {L : Look} where
  -- what stands in an element
  pub within_renders : (t : ℕ) → LowTag t → T (bodily L) → Renders P q L → Renders (one (tagged t P)) (within t q) (elem_look L)
  within_renders t z b r =
      let c : L.credit ≤ 8 = leb→le L.credit 8 b in
      let i : Where → P.Of → Where = λ v x. into v (low t (P.bytes x)) in
      record {
        renders = λ v x m w h. rw (r.renders (i v x) x m w h, wrap_is t (P.bytes x) z) refl;
        begins = λ v x. r.begins (i v x) x;
        bound = λ v x m. omega (arith, r.bound (i v x) x m, element_long (low t (P.bytes x)));
        laid = λ v x m n h. r.laid (i v x) x m n (omega (arith, element_long (low t (P.bytes x))));
        tells = λ u v x y. r.tells (i u x) (i v y) x y;
        moved = λ v n x. moved_on r v n (length (element_bytes (low t (P.bytes x))) - length (P.bytes x)) x;
      }

  -- behind a length, which pays for eight bytes of the book
  pub lengthed_renders : T (bodily L) → Renders P q L → Renders (lengthed P) (r_lengthed q) (elem_look L)
  lengthed_renders b r =
      let c : L.credit ≤ 8 = leb→le L.credit 8 b in
      record {
        renders = λ v x m w h. rw (r.renders (v on 2) x m w h) refl;
        begins = λ v. r.begins (v on 2);
        bound = λ v x m. omega (arith, r.bound (v on 2) x m);
        laid = λ v x m n h. r.laid (v on 2) x m n (omega arith);
        tells = λ u v. r.tells (u on 2) (v on 2);
        moved = λ v n x. moved_on r v n 2 x;
      }

  -- what the next record's kind tells
  pub when_renders : T (not L.empty) → Renders P q L → Renders P (when L.first q) (look L.first false (L.first ++ L.stop) L.credit)
  when_renders e r = record {
    renders = λ v x m w h. when_some q w (begins_hard e (r.begins v x m)) ∙ r.renders v x m w (fresh_right L.first L.stop w h);
    begins = λ v x m. begins_hard e (r.begins v x m);
    bound = r.bound;
    laid = r.laid;
    tells = r.tells;
    moved = r.moved;
  }

module _ (P : Part) {q : Renderer} {L : Look} (e : T (not L.empty)) (r : Renders P q L) where
  -- where it need not be there
  pub possibly_renders : Renders (possibly P) (when L.first q) (look L.first true (L.first ++ L.stop) L.credit)
  possibly_renders = record { renders = made; begins = beginning; bound = bounded; laid = lying; tells = telling; moved = moving }
    where
      made : (v : Where) (x : (possibly P).Of) → (possibly P).Meets x → (w : List Rec) → Fresh (L.first ++ L.stop) w → when L.first q ((possibly P).book v x ++ w) ≡ gives ((possibly P).bytes x) w
      made v option.none m w h = when_none L.first q w (fresh_left L.first L.stop w h)
      made v (option.some x) m w h = (when_renders {P = P} e r).renders v x m w h

      beginning : (v : Where) (x : (possibly P).Of) → (possibly P).Meets x → Begins L.first true ((possibly P).book v x)
      beginning v option.none m = none tt
      beginning v (option.some x) m = begins_soft true (begins_hard e (r.begins v x m))

      bounded : (v : Where) (x : (possibly P).Of) → (possibly P).Meets x → size ((possibly P).book v x) ≤ 4 * length ((possibly P).bytes x) + L.credit
      bounded v option.none m = omega arith
      bounded v (option.some x) m = r.bound v x m

      lying : (v : Where) (x : (possibly P).Of) → (possibly P).Meets x → (n : ℕ) → length ((possibly P).bytes x) ≤ n → Laid n ((possibly P).book v x)
      lying v option.none m n h = tt
      lying v (option.some x) m n h = r.laid v x m n h

      telling : (u v : Where) (x y : (possibly P).Of) → (possibly P).Meets x → (possibly P).Meets y → (possibly P).book u x ≡ (possibly P).book v y → x ≡ y
      telling u v option.none option.none m l z = refl
      telling u v option.none (option.some y) m l z = absurd (not_empty (begins_hard e (r.begins v y l)) (sym z))
      telling u v (option.some x) option.none m l z = absurd (not_empty (begins_hard e (r.begins u x m)) z)
      telling u v (option.some x) (option.some y) m l z = ap option.some (r.tells u v x y m l z)

      moving : (v : Where) (n : ℕ) (x : (possibly P).Of) → (possibly P).book (v later n) x ≡ (possibly P).book v x
      moving v n option.none = refl
      moving v n (option.some x) = r.moved v n x

-- the same of an element
pub optional_renders : (I : Item) {q : Renderer} {L : Look} → T (not L.empty) → Renders (one I) q L → Renders (optional I) (when L.first q) (look L.first true (L.first ++ L.stop) L.credit)
optional_renders I e r = possibly_renders (one I) e r

-- an element that its first kinds tell
pub offered_renders : {P : Part} {q : Renderer} {L : Look} (d : Need) (t : ℕ) → LowTag t → T (bodily L) → T (not L.empty) → Renders P q L → Renders (slot d (tagged t P)) (when L.first (within t q)) (offer_look d L)
offered_renders {P} Required t z b e r = when_renders {P = one (tagged t P)} e (within_renders t z b r)
offered_renders {P} Optional t z b e r = optional_renders (tagged t P) e (within_renders t z b r)
offered_renders {P} (Default v) t z b e r = optional_renders (tagged t P) e (within_renders t z b r)

-- a part that is kept as it is
pub sealed_renders : (which : ℕ → Bool) (kind : ℕ) → T (ltb kind 65536) → Renders (one (sealed_one which kind (λ _. []))) plain (look (kind ∷ []) false [] 0)
sealed_renders which kind t = record {
  renders = λ v x m w h. refl;
  begins = λ v x m. begins_one kind (element_bytes x) [] false;
  bound = λ v x m. omega (arith, element_long x);
  laid = λ v x m n h. (t, omega arith, tt);
  tells = λ u v x y m l e. same_element x y (ap pay_first e);
  moved = λ v n x. refl;
}

pub kept_renders : (which : ℕ → Bool) (kind : ℕ) → T (ltb kind 65536) → Renders (one (sealed_one which kind (λ _. []))) (r_keep kind) (look (kind ∷ []) false (kind ∷ []) 0)
unfolding r_keep
kept_renders which kind t = when_renders {P = one (sealed_one which kind (λ _. []))} tt (sealed_renders which kind t)

pub sealed_all_renders : (kind : ℕ) → T (ltb kind 65536) → Renders (raw (rec kind) (SealedRun 16 [])) (r_keep kind) (look (kind ∷ []) false (kind ∷ []) 8)
unfolding r_keep
sealed_all_renders kind t = when_renders {P = raw (rec kind) (SealedRun 16 [])} {q = plain} {L = look (kind ∷ []) false [] 8} tt (record {
  renders = λ v x m w h. refl;
  begins = λ v x m. begins_one kind x [] false;
  bound = λ v x m. omega arith;
  laid = λ v x m n h. (t, omega arith, tt);
  tells = λ u v x y m l e. ap pay_first e;
  moved = λ v n x. refl;
})

-- a run of sealed elements that is not empty has two bytes
run_long : {l : ℕ} {out : List ℕ} (x : ℕ) (c : List ℕ) → SealedRun l out (x ∷ c) → 2 ≤ length (x ∷ c)
run_long x c (over e) = let z : ◌≡◌ {A = ℕ} 0 1 = cc in absurd (omega arith)
run_long x c (shallow i w a b d n e) = omega (arith, element_long i, ap length e, length-append (element_bytes i) w)
run_long x c (deep i w a b d j n e) = omega (arith, element_long i, ap length e, length-append (element_bytes i) w)

-- the rest of a sequence
pub rest_renders : (kind : ℕ) (out : List ℕ) → T (ltb kind 65536) → Renders (rest kind out) (r_keep kind) (rest_look kind)
unfolding r_keep
rest_renders kind out t = record { renders = λ v. made; begins = λ v. beginning; bound = λ v. bounded; laid = λ v. lying; tells = λ u v. telling; moved = λ v n x. refl }
  where
    made : (c : List ℕ) → SealedRun 16 out c → (w : List Rec) → Fresh (kind ∷ []) w → r_keep kind (unless_empty kind c ++ w) ≡ gives c w
    made [] m w h = when_none (kind ∷ []) plain w h
    made (x ∷ c) m w h = when_some plain w (begins_one kind (x ∷ c) [] false)

    beginning : (c : List ℕ) → SealedRun 16 out c → Begins (kind ∷ []) true (unless_empty kind c)
    beginning [] m = none tt
    beginning (x ∷ c) m = begins_one kind (x ∷ c) [] true

    bounded : (c : List ℕ) → SealedRun 16 out c → size (unless_empty kind c) ≤ 4 * length c + 0
    bounded [] m = omega arith
    bounded (x ∷ c) m = omega (arith, run_long x c m)

    lying : (c : List ℕ) → SealedRun 16 out c → (n : ℕ) → length c ≤ n → Laid n (unless_empty kind c)
    lying [] m n h = tt
    lying (x ∷ c) m n h = (t, omega arith, tt)

    telling : (c d : List ℕ) → SealedRun 16 out c → SealedRun 16 out d → unless_empty kind c ≡ unless_empty kind d → c ≡ d
    telling [] [] m l e = refl
    telling [] (y ∷ d) m l e = let z : ◌≡◌ {A = ℕ} 0 1 = cc in absurd (omega arith)
    telling (x ∷ c) [] m l e = let z : ◌≡◌ {A = ℕ} 0 1 = cc in absurd (omega arith)
    telling (x ∷ c) (y ∷ d) m l e = ap pay_first e

-- one or the other
pub one_of_renders : {P Q : Part} {q p : Renderer} {L M : Look} → Renders P q L → Renders Q p M → T (not L.empty) → T (not M.empty) → T (avoids M.first L.first) →
    Renders (one_of P Q) (either L.first q p) (join_look L M)
one_of_renders {P} {Q} {q} {p} {L} {M} f g d e a = record { renders = made; begins = beginning; bound = bounded; laid = lying; tells = telling; moved = moving }
  where
    K : Part
    K = one_of P Q

    left : (v : Where) (i : P.Of) → P.Meets i → Begins L.first false (P.book v i)
    left v i m = begins_hard d (f.begins v i m)

    right : (v : Where) (j : Q.Of) → Q.Meets j → Begins M.first false (Q.book v j)
    right v j m = begins_hard e (g.begins v j m)

    made : (v : Where) (x : K.Of) → K.Meets x → (w : List Rec) → Fresh (L.stop ++ M.stop) w → either L.first q p (K.book v x ++ w) ≡ gives (K.bytes x) w
    made v (inl i) m w h = either_left q p w (left v i m) ∙ f.renders v i m w (fresh_left L.stop M.stop w h)
    made v (inr j) m w h = either_right L.first q p w a (right v j m) ∙ g.renders v j m w (fresh_right L.stop M.stop w h)

    beginning : (v : Where) (x : K.Of) → K.Meets x → Begins (L.first ++ M.first) (L.empty || M.empty) (K.book v x)
    beginning v (inl i) m = begins_more M.first (L.empty || M.empty) (left v i m)
    beginning v (inr j) m = begins_later L.first (L.empty || M.empty) (right v j m)

    bounded : (v : Where) (x : K.Of) → K.Meets x → size (K.book v x) ≤ 4 * length (K.bytes x) + (L.credit + M.credit)
    bounded v (inl i) m = omega (arith, f.bound v i m)
    bounded v (inr j) m = omega (arith, g.bound v j m)

    lying : (v : Where) (x : K.Of) → K.Meets x → (n : ℕ) → length (K.bytes x) ≤ n → Laid n (K.book v x)
    lying v (inl i) m n h = f.laid v i m n h
    lying v (inr j) m n h = g.laid v j m n h

    telling : (u v : Where) (x y : K.Of) → K.Meets x → K.Meets y → K.book u x ≡ K.book v y → x ≡ y
    telling u v (inl i) (inl j) m l z = ap inl (f.tells u v i j m l z)
    telling u v (inr i) (inr j) m l z = ap inr (g.tells u v i j m l z)
    telling u v (inl i) (inr j) m l z = absurd (apart a (left u i m) (right v j l) z)
    telling u v (inr i) (inl j) m l z = absurd (apart a (left v j l) (right u i m) (sym z))

    moving : (v : Where) (n : ℕ) (x : K.Of) → K.book (v later n) x ≡ K.book v x
    moving v n (inl i) = f.moved v n i
    moving v n (inr j) = g.moved v n j

-- the same of elements
pub or_renders : (I J : Item) {q p : Renderer} {L M : Look} → Renders (one I) q L → Renders (one J) p M → T (not L.empty) → T (not M.empty) → T (avoids M.first L.first) →
    Renders (one (I or J)) (either L.first q p) (join_look L M)
or_renders I J {q} {p} {L} {M} f g d e a = record { renders = made; begins = beginning; bound = bounded; laid = lying; tells = telling; moved = moving }
  where
    K : Part
    K = one (I or J)

    r : Renders (one_of (one I) (one J)) (either L.first q p) (join_look L M)
    r = one_of_renders f g d e a

    made : (v : Where) (x : K.Of) → K.Meets x → (w : List Rec) → Fresh (L.stop ++ M.stop) w → either L.first q p (K.book v x ++ w) ≡ gives (K.bytes x) w
    made v (inl i) = r.renders v (inl i)
    made v (inr j) = r.renders v (inr j)

    beginning : (v : Where) (x : K.Of) → K.Meets x → Begins (L.first ++ M.first) (L.empty || M.empty) (K.book v x)
    beginning v (inl i) = r.begins v (inl i)
    beginning v (inr j) = r.begins v (inr j)

    bounded : (v : Where) (x : K.Of) → K.Meets x → size (K.book v x) ≤ 4 * length (K.bytes x) + (L.credit + M.credit)
    bounded v (inl i) = r.bound v (inl i)
    bounded v (inr j) = r.bound v (inr j)

    lying : (v : Where) (x : K.Of) → K.Meets x → (n : ℕ) → length (K.bytes x) ≤ n → Laid n (K.book v x)
    lying v (inl i) = r.laid v (inl i)
    lying v (inr j) = r.laid v (inr j)

    telling : (u v : Where) (x y : K.Of) → K.Meets x → K.Meets y → K.book u x ≡ K.book v y → x ≡ y
    telling u v (inl i) (inl j) = r.tells u v (inl i) (inl j)
    telling u v (inl i) (inr j) = r.tells u v (inl i) (inr j)
    telling u v (inr i) (inl j) = r.tells u v (inr i) (inl j)
    telling u v (inr i) (inr j) = r.tells u v (inr i) (inr j)

    moving : (v : Where) (n : ℕ) (x : K.Of) → K.book (v later n) x ≡ K.book v x
    moving v n (inl i) = r.moved v n (inl i)
    moving v n (inr j) = r.moved v n (inr j)

-- no turn where no item comes
many_none : (ks : List ℕ) (q : Renderer) (m : ℕ) (rs : List Rec) → Fresh ks rs → r_many ks q m rs ≡ gives [] rs
unfolding r_many
many_none ks q zero rs f = refl
many_none ks q (suc m) rs f = when_none ks (q next r_many ks q m) rs f

-- items one after the other
module _ {P : Part} {q : Renderer} {L : Look} (fit : T (repeats L)) (r : Renders P q L) where
  fits : T (not L.empty) × (T (avoids L.first L.stop) × T (leb L.credit 0))
  fits = let a = all_both (not L.empty) (avoids L.first L.stop && leb L.credit 0) fit in (a.0, all_both (avoids L.first L.stop) (leb L.credit 0) a.1)

  hard : (v : Where) (x : P.Of) → P.Meets x → Begins L.first false (P.book v x)
  hard v x m = begins_hard fits.0 (r.begins v x m)

  -- the records of items, one after the other
  abbrev books : Where → List P.Of → List Rec
  books = each P.bytes P.book

  many_begins : (v : Where) (xs : List P.Of) → AllMeet P.Meets xs → Begins L.first true (books v xs)
  many_begins v [] m = none tt
  many_begins v (x ∷ xs) m = begins_many true (books (v on length (P.bytes x)) xs) (hard v x m.0)

  -- what follows an item may
  after : (v : Where) (xs : List P.Of) → AllMeet P.Meets xs → (w : List Rec) → Fresh L.stop w → Fresh L.stop (books v xs ++ w)
  after v xs m w h = begins_fresh L.first L.stop true w (many_begins v xs m) fits.1.0 (λ _. h)

  many_made : (k : ℕ) (v : Where) (xs : List P.Of) → AllMeet P.Meets xs → (w : List Rec) → Fresh (L.first ++ L.stop) w → length (books v xs) ≤ k → r_many L.first q k (books v xs ++ w) ≡ gives (flat P.bytes xs) w
  unfolding r_many
  many_made k v [] m w h i = many_none L.first q k w (fresh_left L.first L.stop w h)
  many_made zero v (x ∷ xs) m w h i = absurd (omega (arith, longer (books (v on length (P.bytes x)) xs) (hard v x m.0)))
  many_made (suc k) v (x ∷ xs) m w h i =
      let j = v on length (P.bytes x) in
      let bs = P.book v x in
      let cs = books j xs in
      let t : Renderer = q next r_many L.first q k in
      let a : q (bs ++ (cs ++ w)) ≡ gives (P.bytes x) (cs ++ w) = r.renders v x m.0 (cs ++ w) (after j xs m.1 w (fresh_right L.first L.stop w h)) in
      let b : r_many L.first q k (cs ++ w) ≡ gives (flat P.bytes xs) w = many_made k j xs m.1 w h (omega (arith, longer cs (hard v x m.0))) in
      let z : when L.first t (bs ++ (cs ++ w)) ≡ t (bs ++ (cs ++ w)) = when_some t (cs ++ w) (hard v x m.0) in
      rw append_assoc (z ∙ rw (a, b) refl)

  many_bound : (v : Where) (xs : List P.Of) → AllMeet P.Meets xs → size (books v xs) ≤ 4 * length (flat P.bytes xs) + 0
  many_bound v [] m = omega arith
  many_bound v (x ∷ xs) m =
      let j = v on length (P.bytes x) in
      omega (arith, leb→le L.credit 0 fits.1.1, r.bound v x m.0, many_bound j xs m.1, size_append (P.book v x) (books j xs), length-append (P.bytes x) (flat P.bytes xs))

  many_laid : (v : Where) (xs : List P.Of) → AllMeet P.Meets xs → (n : ℕ) → length (flat P.bytes xs) ≤ n → Laid n (books v xs)
  many_laid v [] m n h = tt
  many_laid v (x ∷ xs) m n h =
      let j = v on length (P.bytes x) in
      let k = length-append (P.bytes x) (flat P.bytes xs) in
      laid_append n (P.book v x) (books j xs) (r.laid v x m.0 n (omega arith)) (many_laid j xs m.1 n (omega arith))

  many_tells : (u v : Where) (xs ys : List P.Of) → AllMeet P.Meets xs → AllMeet P.Meets ys → books u xs ≡ books v ys → xs ≡ ys
  many_tells u v [] [] m l e = refl
  many_tells u v [] (y ∷ ys) m l e = absurd (not_empty (begins_many false (books (v on length (P.bytes y)) ys) (hard v y l.0)) (sym e))
  many_tells u v (x ∷ xs) [] m l e = absurd (not_empty (begins_many false (books (u on length (P.bytes x)) xs) (hard u x m.0)) e)
  many_tells u v (x ∷ xs) (y ∷ ys) m l e =
      let i = u on length (P.bytes x) in
      let j = v on length (P.bytes y) in
      let f : (w : Where) (zs : List P.Of) → AllMeet P.Meets zs → Fresh L.stop (books w zs) = λ w zs n. rw append-nil at (after w zs n [] tt) in
      let t = told {P = P} r u v x y m.0 l.0 (books i xs) (books j ys) (f i xs m.1) (f j ys l.1) e in
      let b : x ≡ y = t.0 in
      let c : xs ≡ ys = many_tells i j xs ys m.1 l.1 t.1 in
      cc

  many_moved : (v : Where) (n : ℕ) (xs : List P.Of) → books (v later n) xs ≡ books v xs
  many_moved v n [] = refl
  many_moved v n (x ∷ xs) = rw (r.moved v n x, later_on v n (length (P.bytes x)), many_moved (v on length (P.bytes x)) n xs) refl

  -- any number
  pub many_renders : Renders (many P) (r_all L.first q) (many_look L)
  unfolding r_all
  many_renders = record {
    renders = λ v xs m w h. many_made (length (books v xs ++ w)) v xs m w h (omega (arith, length-append (books v xs) w));
    begins = many_begins;
    bound = many_bound;
    laid = many_laid;
    tells = many_tells;
    moved = many_moved;
  }

  -- at least one
  pub least_renders : Renders (P and many P) (r_all L.first q) (least_look L)
  least_renders = record {
    renders = λ v x m. many_renders.renders v (x.0 ∷ x.1) m;
    begins = λ v x m. begins_many false (books (v on length (P.bytes x.0)) x.1) (hard v x.0 m.0);
    bound = λ v x m. many_bound v (x.0 ∷ x.1) m;
    laid = λ v x m. many_laid v (x.0 ∷ x.1) m;
    tells = λ u v x y m l e.
        let t : x.0 ∷ x.1 ≡ y.0 ∷ y.1 = many_tells u v (x.0 ∷ x.1) (y.0 ∷ y.1) m l e in
        let b : x.0 ≡ y.0 = cc in
        let c : x.1 ≡ y.1 = cc in
        λ i. (b i, c i);
    moved = λ v n x. many_moved v n (x.0 ∷ x.1);
  }

  -- so many
  pub times_renders : (v : Where) (xs : List P.Of) → AllMeet P.Meets xs → (w : List Rec) → Fresh L.stop w → r_times (length xs) q (books v xs ++ w) ≡ gives (flat P.bytes xs) w
  unfolding r_times
  times_renders v [] m w h = refl
  times_renders v (x ∷ xs) m w h =
      let j = v on length (P.bytes x) in
      let bs = P.book v x in
      let cs = books j xs in
      let a : q (bs ++ (cs ++ w)) ≡ gives (P.bytes x) (cs ++ w) = r.renders v x m.0 (cs ++ w) (after j xs m.1 w h) in
      let b : r_times (length xs) q (cs ++ w) ≡ gives (flat P.bytes xs) w = times_renders j xs m.1 w h in
      rw (append_assoc, a, b) refl

-- numbers in a payload
same_number : (u v : ℕ) → u < 2 ^ 32 → v < 2 ^ 32 → le32 u ≡ le32 v → u ≡ v
same_number u v h k e = sym (number_le32 u h) ∙ ap number e ∙ number_le32 v k

-- a payload gives the contents back, is not much longer, and tells the value
module _ (r : Row) (fits : T (bounds_fit r)) where
  pay_back : (f : Form) (v : Worth f) → Fine f r v → unvalue f (pay_of f v) ≡ contents_of f v
  unfolding unvalue
  pay_back form.Boolean v m = refl
  pay_back form.Integer v m = let k = within_fits r fits v m.1.0 in rw (number_le32 (twos v) (twos_fits v k), twos_back v k) refl
  pay_back form.Bits v m = rw (number_le32 v m.0) refl
  pay_back form.Null v m = refl
  pay_back form.Text v m = refl
  pay_back form.Time v m = refl
  pay_back form.Octets v m = refl

  pay_short : (f : Form) (v : Worth f) → length (pay_of f v) ≤ length (contents_of f v) + 4
  pay_short form.Boolean v = omega arith
  pay_short form.Integer v = omega arith
  pay_short form.Bits v = omega arith
  pay_short form.Null v = omega arith
  pay_short form.Text v = omega arith
  pay_short form.Time v = omega arith
  pay_short form.Octets v = omega arith

  pay_tells : (f : Form) (u v : Worth f) → Fine f r u → Fine f r v → pay_of f u ≡ pay_of f v → u ≡ v
  pay_tells form.Boolean u v m l e = cc
  pay_tells form.Integer u v m l e =
      let h = within_fits r fits u m.1.0 in
      let k = within_fits r fits v l.1.0 in
      sym (twos_back u h) ∙ ap untwos (same_number (twos u) (twos v) (twos_fits u h) (twos_fits v k) e) ∙ twos_back v k
  pay_tells form.Bits u v m l e = same_number u v m.0 l.0 e
  pay_tells form.Null u v m l e = refl
  pay_tells form.Text u v m l e = utf8s_one u v e
  pay_tells form.Time u v m l e = e
  pay_tells form.Octets u v m l e = e

  field_renders : T (ltb r.kind 65536) → Renders (field r) (from (λ k p rs. gives (unvalue r.form p) rs)) (row_look r)
  field_renders t = record {
    renders = λ _ v m w h. rw (pay_back r.form v m) refl;
    begins = λ _ v m. begins_one r.kind (pay_of r.form v) [] false;
    bound = λ _ v m. omega (arith, pay_short r.form v);
    laid = λ _ v m n h. (t, omega (arith, pay_short r.form v), tt);
    tells = λ _ _ u v m l e. pay_tells r.form u v m l (ap pay_first e);
    moved = λ _ n v. refl;
  }

-- tags of one byte, numbers that fit, and no kind twice
abbrev pub rows_fit : List Row → Bool
rows_fit [] = true
rows_fit (r ∷ rs) = (low_tag r.tag && (bounds_fit r && ltb r.kind 65536)) && (avoids (rows_look rs).first (r.kind ∷ []) && rows_fit rs)

-- the components of a table
pub fields_renders : (rs : List Row) → T (rows_fit rs) → Renders (fields rs) (r_rows rs) (rows_look rs)
unfolding r_rows r_row
fields_renders [] t = none_renders
fields_renders (r ∷ rs) t =
    let a = all_both (low_tag r.tag && (bounds_fit r && ltb r.kind 65536)) (avoids (rows_look rs).first (r.kind ∷ []) && rows_fit rs) t in
    let b = all_both (low_tag r.tag) (bounds_fit r && ltb r.kind 65536) a.0 in
    let c = all_both (bounds_fit r) (ltb r.kind 65536) b.1 in
    let d = all_both (avoids (rows_look rs).first (r.kind ∷ [])) (rows_fit rs) a.1 in
    and_renders (offered_renders {P = field r} r.need r.tag (low_tag_lem r.tag b.0) tt tt (field_renders r c.0 c.1)) (fields_renders rs d.1) d.0

-- the fill
pub fill_renders : (kind : ℕ) → T (ltb kind 65536) → Renders (fill kind) (r_fill kind) (fill_look kind)
unfolding r_fill
fill_renders kind t = record { renders = made; begins = beginning; bound = bounded; laid = lying; tells = telling; moved = λ v n x. refl }
  where
    K : Part
    K = fill kind

    made : (v : Where) (x : K.Of) → K.Meets x → (w : List Rec) → Fresh (kind ∷ []) w → r_fill kind (K.book v x ++ w) ≡ gives (K.bytes x) w
    made v option.none m w h = when_none (kind ∷ []) (from (λ k p rs. gives (replicate (count (drop 1 p)) (get_or p 0 0)) rs)) w h
    made v (option.some (b, n)) m w h = rw (eq-eqb kind kind refl, count_le16 n m.2) refl

    beginning : (v : Where) (x : K.Of) → K.Meets x → Begins (kind ∷ []) true (K.book v x)
    beginning v option.none m = none tt
    beginning v (option.some (b, n)) m = begins_one kind (b ∷ le16 n) [] true

    bounded : (v : Where) (x : K.Of) → K.Meets x → size (K.book v x) ≤ 4 * length (K.bytes x) + 3
    bounded v option.none m = omega arith
    bounded v (option.some (b, n)) m = omega (arith, length-replicate n b, m.1)

    lying : (v : Where) (x : K.Of) → K.Meets x → (n : ℕ) → length (K.bytes x) ≤ n → Laid n (K.book v x)
    lying v option.none m n h = tt
    lying v (option.some (b, k)) m n h = (t, omega arith, tt)

    telling : (u v : Where) (x y : K.Of) → K.Meets x → K.Meets y → K.book u x ≡ K.book v y → x ≡ y
    telling u v option.none option.none m l e = refl
    telling u v option.none (option.some (b, n)) m l e = absurd (not_empty (begins_one kind (b ∷ le16 n) [] false) (sym e))
    telling u v (option.some (b, n)) option.none m l e = absurd (not_empty (begins_one kind (b ∷ le16 n) [] false) e)
    telling u v (option.some (b, n)) (option.some (c, k)) m l e =
        let p : b ∷ le16 n ≡ c ∷ le16 k = ap pay_first e in
        let i : b ≡ c = cc in
        let j : n ≡ k = sym (count_le16 n m.2) ∙ ap (λ l. count (drop 1 l)) p ∙ count_le16 k l.2 in
        rw (i, j) refl

-- a record in front, of at most four bytes
pub behind_renders : {P : Part} {q : Renderer} {L : Look} (kind most : ℕ) (g : P.Of → List ℕ) → T (ltb kind 65536) → T (leb most 4) → ((x : P.Of) → length (g x) ≤ most) → Renders P q L →
    Renders (behind P (λ x. rec kind (g x))) (from (λ k p. q)) (look (kind ∷ []) false L.stop (4 + most + L.credit))
behind_renders {P} kind most g t u short f = record {
  renders = f.renders;
  begins = λ v x m. begins_one kind (g x) (P.book v x) false;
  bound = λ v x m. omega (arith, f.bound v x m, short x);
  laid = λ v x m n h. (t, omega (arith, leb→le most 4 u, short x), f.laid v x m n h);
  tells = λ i j x y m l e. f.tells i j x y m l cc;
  moved = λ v n x. rw (f.moved v n x) refl;
}
