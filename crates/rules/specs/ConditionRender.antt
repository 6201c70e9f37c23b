-- Conditions: their records give their bytes, and tell their data.
use Rattle.std.specs.Prelude.{ℕ, zero, suc, ◌-◌, ◌*◌, ◌≤◌, List, [], ◌∷◌, ◌++◌, Bool, true, false, ◌||◌, ◌≡◌, length, drop, ltb, eqb, T}
use Rattle.std.proofs.Math.Path.{refl}
use Rattle.std.proofs.Common.{sym, ap, ◌∙◌, arith, eqb→eq}
use Rattle.elements.specs.Put.{le16}
use Rattle.rules.specs.declared.table.Sort.{Sort}
use Rattle.rules.specs.declared.table.Sort.TheVariants.{Always, Identifier, Not, And, Or, Other}
use Rattle.rules.specs.Reading.{Rec, rec, count}
use Rattle.rules.specs.Tables.{tag_of, kind_of, sort_by}
use Rattle.rules.specs.Looks.{Look, look}
use Rattle.rules.specs.Rendering.{gives, Renderer, nothing, within, from, r_times}
use Rattle.rules.specs.Grammar.{Where, into, ◌on◌, ◌later◌, low, element_bytes, Part, empty, one, tagged, with, behind, many}
use Rattle.rules.specs.ElementLaws.{LowTag, low_tag_lem, wrap_is, element_long}
use Rattle.rules.specs.ValueLaws.{count_le16}
use Rattle.rules.specs.LookLaws.{pay_first, fresh_any, Begins, none, some, size, Laid, begins_one, subset, begins_subset}
use Rattle.rules.specs.RenderLaws.{Renders, later_on, many_renders, times_renders, sealed_renders}
use Rattle.rules.specs.Bytewise.{AllB, Outs, out, wrap_b, within_b, from_b, times_b, nothing_b}
use Rattle.rules.specs.Kinds.{Only, there, none_there, many_only}
use Rattle.rules.specs.Conditions.{Several, Condition, is_other, sorts, by_sort, condition}

-- the kinds of its first record
abbrev pub kinds_look : Look
kinds_look = look (kind_of Always ∷ kind_of Identifier ∷ kind_of Other ∷ kind_of Not ∷ kind_of And ∷ kind_of Or ∷ []) false [] 0

abbrev sort_look : Sort → Look
sort_look x = look (kind_of x ∷ []) false [] 0

or_none : (a : Bool) → T (a || false) → T a
or_none true t = tt
or_none false t = t

-- an element whose record stands in front: that record's payload says how what is inside is rendered
front_renders : (t kind : ℕ) → LowTag t → T (ltb kind 65536) → (P : Part) (pay : P.Of → List ℕ) (q : List ℕ → Renderer) →
    ((v : Where) (y : P.Of) → P.Meets y → (w : List Rec) → q (pay y) (P.book v y ++ w) ≡ gives (P.bytes y) w) → ((y : P.Of) → length (pay y) ≤ 4) →
    ((v : Where) (y : P.Of) → P.Meets y → size (P.book v y) ≤ 4 * length (P.bytes y)) → ((v : Where) (y : P.Of) → P.Meets y → (n : ℕ) → length (P.bytes y) ≤ n → Laid n (P.book v y)) →
    ((u v : Where) (x y : P.Of) → P.Meets x → P.Meets y → P.book u x ≡ P.book v y → x ≡ y) → ((v : Where) (n : ℕ) (x : P.Of) → P.book (v later n) x ≡ P.book v x) →
    Renders (one (tagged t (behind P (λ y. rec kind (pay y))))) (from (λ k p. within t (q p))) (look (kind ∷ []) false [] 0)
front_renders t kind z tk P pay q f short b l u g =
    let i : Where → P.Of → Where = λ v y. into v (low t (P.bytes y)) in
    record {
      renders = λ v y m w _. rw (f (i v y) y m w, wrap_is t (P.bytes y) z) refl;
      begins = λ v y m. begins_one kind (pay y) (P.book (i v y) y) false;
      bound = λ v y m. omega (arith, short y, b (i v y) y m, element_long (low t (P.bytes y)));
      laid = λ v y m n h. (tk, omega (arith, short y), l (i v y) y m n (omega (arith, element_long (low t (P.bytes y)))));
      tells = λ v w x y m n e. u (i v x) (i w y) x y m n (ap (drop 1) e);
      moved = λ v n x. let k = length (element_bytes (low t (P.bytes x))) - length (P.bytes x) in rw (later_on v n k, g (v on k) n x) refl;
    }

module _ (c : Condition) (r : Renders (one c.item) c.render kinds_look) where
  several_renders : (x : Sort) → LowTag (tag_of x) → T (ltb (kind_of x) 65536) →
      Renders (one (tagged (tag_of x) (behind (with (many (one c.item)) Several) (λ y. rec (kind_of x) (le16 (length y)))))) (from (λ k p. within (tag_of x) (r_times (count p) (λ rs. c.render rs)))) (sort_look x)
  several_renders x z t =
      let P = with (many (one c.item)) Several in
      let f = many_renders {P = one c.item} tt r in
      front_renders (tag_of x) (kind_of x) z t P (λ y. le16 (length y)) (λ p. r_times (count p) (λ rs. c.render rs))
      (λ v y m w. rw (count_le16 (length y) (omega (arith, m.1.1))) (times_renders {P = one c.item} tt r v y m.0 w (fresh_any w))) (λ y. omega arith) (λ v y m. omega (arith, f.bound v y m.0)) (λ v y m. f.laid v y m.0) (λ u v x y m n. f.tells u v x y m.0 n.0) f.moved

  sort_renders : (x : Sort) → Renders (one (sorts c x).item) (from (λ k p. (sorts c x).render p)) (sort_look x)
  sort_renders Always = front_renders (tag_of Always) (kind_of Always) (low_tag_lem 0x05 tt) tt empty (λ _. []) (λ _. nothing) (λ v y m w. refl) (λ y. omega arith) (λ v y m. omega arith) (λ v y m n h. tt) (λ u v x y m n e. refl) (λ v n x. refl)
  sort_renders Identifier = record {
    renders = λ v y m w _. rw (wrap_is (tag_of Identifier) y (low_tag_lem 0x04 tt)) refl;
    begins = λ v y m. begins_one (kind_of Identifier) y [] false;
    bound = λ v y m. omega (arith, element_long (low (tag_of Identifier) y));
    laid = λ v y m n h. (tt, omega (arith, element_long (low (tag_of Identifier) y)), tt);
    tells = λ u v x y m n e. ap pay_first e;
    moved = λ v n y. refl;
  }
  sort_renders Not = front_renders (tag_of Not) (kind_of Not) (low_tag_lem 0xa0 tt) tt (one c.item) (λ _. []) (λ _ rs. c.render rs) (λ v y m w. r.renders v y m w (fresh_any w)) (λ y. omega arith) (λ v y m. omega (arith, r.bound v y m)) (λ v y m. r.laid v y m) (λ u v x y m n e. r.tells u v x y m n e) r.moved
  sort_renders And = several_renders And (low_tag_lem 0xa1 tt) tt
  sort_renders Or = several_renders Or (low_tag_lem 0xa2 tt) tt
  sort_renders Other = sealed_renders (λ t. is_other (sort_by tag_of t)) (kind_of Other) tt

  -- the sort is told by the first record
  by_kind : (x : Sort) → sort_by kind_of (kind_of x) ≡ x
  unfolding sort_by
  by_kind Always = refl
  by_kind Identifier = refl
  by_kind Not = refl
  by_kind And = refl
  by_kind Or = refl
  by_kind Other = refl

  first_kind : (x : Sort) {bs : List Rec} → Begins (kind_of x ∷ []) false bs → (w : List Rec) → (by_sort (sorts c)).render (bs ++ w) ≡ from (λ k p. (sorts c x).render p) (bs ++ w)
  first_kind x (none t) w = absurd t
  first_kind x (some {r = b} m) w = let z : b.kind ≡ kind_of x = eqb→eq b.kind (kind_of x) (or_none (eqb b.kind (kind_of x)) m) in rw (z, by_kind x) refl

  same_sort : (x y : Sort) {bs : List Rec} → Begins (kind_of x ∷ []) false bs → Begins (kind_of y ∷ []) false bs → x ≡ y
  same_sort x y (none t) b = absurd t
  same_sort x y (some {r = r} m) (some n) =
      let u : r.kind ≡ kind_of x = eqb→eq r.kind (kind_of x) (or_none (eqb r.kind (kind_of x)) m) in
      let v : r.kind ≡ kind_of y = eqb→eq r.kind (kind_of y) (or_none (eqb r.kind (kind_of y)) n) in
      sym (by_kind x) ∙ ap (sort_by kind_of) (sym u ∙ v) ∙ by_kind y

  sort_tells : (x y : Sort) → x ≡ y → (i : (sorts c x).item.Of) (j : (sorts c y).item.Of) → (sorts c x).item.Meets i → (sorts c y).item.Meets j → (u v : Where) → (sorts c x).item.book u i ≡ (sorts c y).item.book v j → ◌≡◌ {A = (by_sort (sorts c)).item.Of} (x, i) (y, j)
  sort_tells x y e = rw e (λ i j m n u v q. ap {B = (by_sort (sorts c)).item.Of} (λ k. (y, k)) ((sort_renders y).tells u v i j m n q))

  kind_there : (x : Sort) → T (subset (kind_of x ∷ []) kinds_look.first)
  kind_there Always = tt
  kind_there Identifier = tt
  kind_there Not = tt
  kind_there And = tt
  kind_there Or = tt
  kind_there Other = tt

  by_sort_renders : Renders (one (by_sort (sorts c)).item) (by_sort (sorts c)).render kinds_look
  by_sort_renders = record {
    renders = λ v i m w h. first_kind i.0 ((sort_renders i.0).begins v i.1 m) w ∙ (sort_renders i.0).renders v i.1 m w (fresh_any w);
    begins = λ v i m. begins_subset (kind_of i.0 ∷ []) kinds_look.first false false (kind_there i.0) tt ((sort_renders i.0).begins v i.1 m);
    bound = λ v i m. (sort_renders i.0).bound v i.1 m;
    laid = λ v i m. (sort_renders i.0).laid v i.1 m;
    tells = λ u v i j m n e. sort_tells i.0 j.0 (same_sort i.0 j.0 ((sort_renders i.0).begins u i.1 m) (rw e ((sort_renders j.0).begins v j.1 n))) i.1 j.1 m n u v e;
    moved = λ v n i. (sort_renders i.0).moved v n i.1;
  }

pub condition_renders : (l : ℕ) → Renders (one (condition l).item) (condition l).render kinds_look
unfolding condition
condition_renders zero = record { renders = λ v x. absurd x; begins = λ v x. absurd x; bound = λ v x. absurd x; laid = λ v x. absurd x; tells = λ u v x. absurd x; moved = λ v n x. absurd x }
condition_renders (suc l) = by_sort_renders (condition l) (condition_renders l)

-- whatever the records, what is rendered of them is bytes
module _ (c : Condition) (f : Outs c.render) where
  sort_clean : (x : Sort) (p : List ℕ) → AllB p → Outs ((sorts c x).render p)
  sort_clean Always p a = λ rs h. out (wrap_b (tag_of Always) [] (omega arith) tt) h
  sort_clean Identifier p a = λ rs h. out (wrap_b (tag_of Identifier) p (omega arith) a) h
  sort_clean Not p a = within_b (tag_of Not) (omega arith) f
  sort_clean And p a = within_b (tag_of And) (omega arith) (times_b (count p) f)
  sort_clean Or p a = within_b (tag_of Or) (omega arith) (times_b (count p) f)
  sort_clean Other p a = λ rs h. out a h

pub condition_clean : (l : ℕ) → Outs (condition l).render
unfolding condition
condition_clean zero = nothing_b
condition_clean (suc l) = from_b (λ k p a. sort_clean (condition l) (condition_clean l) (sort_by kind_of k) p a)

-- its records are of these kinds
pub condition_only : (l : ℕ) → Only (one (condition l).item) kinds_look.first
unfolding condition
condition_only zero v x = absurd x
condition_only (suc l) v (Always, x) = there tt none_there
condition_only (suc l) v (Identifier, x) = there tt none_there
condition_only (suc l) v (Not, x) = there tt (condition_only l _ x)
condition_only (suc l) v (And, x) = there tt (many_only (one (condition l).item) (condition_only l) _ x)
condition_only (suc l) v (Or, x) = there tt (many_only (one (condition l).item) (condition_only l) _ x)
condition_only (suc l) v (Other, x) = there tt none_there
