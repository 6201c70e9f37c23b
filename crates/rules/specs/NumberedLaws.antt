-- Elements that are numbered: read as they are, and only so; their records give their bytes and tell their data.
use Rattle.std.specs.Prelude.{ℕ, ◌+◌, ◌-◌, ◌*◌, ◌≤◌, List, [], ◌∷◌, Bool, true, false, ◌≡◌, refl, length, get_or, drop, ltb, T}
use Rattle.std.proofs.Common.{ap, arith, le_refl, ltb-true, ltb-false}
use Rattle.elements.specs.declared.fault.Fault.{Fault}
use Rattle.elements.specs.declared.fault.Fault.TheVariants.{NotDue}
use Rattle.elements.specs.Choice.{choose}
use Rattle.elements.specs.Lists.{Bytes}
use Rattle.rules.specs.Reading.{rec, fails, also, Reader, Body}
use Rattle.rules.specs.Parts as parts
use Rattle.rules.specs.Rulings.{counts}
use Rattle.rules.specs.Looks.{Look, look}
use Rattle.rules.specs.Rendering.{Renderer, within, from}
use Rattle.rules.specs.Grammar.{low, element_bytes, first_of, Site, Where, here, into, Part, one, behind, numbers, numbered}
use Rattle.rules.specs.ElementLaws.{LowTag, wrap_is, element_long}
use Rattle.rules.specs.FaultLaws.{of_reading}
use Rattle.rules.specs.LookLaws.{pay_first, begins_one, size}
use Rattle.rules.specs.RenderLaws.{Renders, moved_on}
use Rattle.rules.specs.GrammarLaws as exact
use Rattle.rules.specs.GrammarLaws.{tags, refuses, Law, PlainBody, ItemLaw, Any, element_law, shaped_reads, inside_goes, low_is, low_first}
use Rattle.rules.specs.ItemLaws.{otherwise_law, behind_reads, behind_goes, counts_reads, counts_goes}

module _ (kind : ℕ) (which : ℕ → Bool) (x : ℕ) (P : ℕ → Part) (real : (t : ℕ) → which t ≡ true → LowTag t) where
  first : (i : (numbered kind which x P).Of) → (numbered kind which x P).Meets i → which (first_of ((numbered kind which x P).shape i)) ≡ true
  first i y = rw (low_first i.0 ((P i.0).bytes i.1) (real i.0 y.0)) y.0

  module _ (site : Site) (s : List ℕ) (bytes : Bytes s) (small : length s ≤ 32768) (N : ℕ) (f : Fault) (told : T (of_reading f)) (p : ℕ → Reader) (law : (t : ℕ) → PlainBody site s (parts.inside (p t)) (P t)) where
    abbrev body : ℕ → Body
    body t at a e = choose (which t) (λ _. counts at (also (rec kind (x ∷ t ∷ numbers (here site at)) ∷ []) [] (p t e a))) (λ _. fails NotDue at)

    body_law : (k : ℕ) → k + 1 ≤ N → ItemLaw site s body (numbered kind which x P) (λ _. 1) k N Any
    body_law k h = otherwise_law Any which (record {
      sound = λ y i m end at a e st l.
          let t = first_of y in
          let r = rec kind (x ∷ t ∷ numbers (here site at)) in
          shaped_reads site s bytes small at (behind (P t) (λ _. r)) (numbered kind which x P) {c = λ _. 1} (λ _. 1) t (λ j. (t, j)) (λ _. refl) (λ _. refl) (λ _ z. (m.1, z)) (λ _. refl) (real t m.1) y refl st (omega (arith, st.inside))
          (counts_reads k N at (omega (arith, st.after, st.order, st.inside)) h (behind_reads r ((law t).sound at a e (omega (arith, st.after)) st.order (omega (arith, st.inside)))));
      is = λ i y. low_is i.0 ((P i.0).bytes i.1) (real i.0 y.0);
      begins = λ i y. (tt, first i y);
      complete = λ i y _ end at a e st l.
          let r = rec kind (x ∷ i.0 ∷ numbers (here site at)) in
          rw (low_first i.0 ((P i.0).bytes i.1) (real i.0 y.0))
          (counts_goes at (inside_goes site s bytes small (λ v. r ∷ (P i.0).book v i.1) st (omega (arith, st.inside)) (behind_goes r ((law i.0).complete at a e (omega (arith, st.after)) st.order (omega (arith, st.inside)) i.1 y.1 (le_refl 0) st.within))));
    })

    pub numbered_law : 1 ≤ N → (k : ℕ) → k ≤ N → Law site s (parts.up_to N f (λ _. parts.element s body) k) (one (numbered kind which x P)) (λ _. 1) k N (exact.look which false (tags []))
    numbered_law m k h = go (ltb k N) refl
      where
        go : (b : Bool) → ltb k N ≡ b → Law site s (λ end at. choose b (λ _. parts.element s body end at) (λ _. fails f at)) (one (numbered kind which x P)) (λ _. 1) k N (exact.look which false (tags []))
        go true e = element_law site s bytes small which (body_law k (omega (arith, ltb-true k N e))) first
        go false e = record {
          sound = λ end at i l. refuses at (omega arith, told);
          starts = (element_law site s bytes small which (body_law 0 m) first).starts;
          complete = λ end at i l x y r w v q. absurd (omega (arith, ltb-false k N e));
        }

  -- the 2-byte numbers of 0120 are paid for by what stands in the element
  module _ (q : ℕ → ℕ → Renderer) (L : Look) (r : (t : ℕ) → Renders (P t) (q x t) L) (paid : (t : ℕ) (v : Where) (i : (P t).Of) → (P t).Meets i → 2 + size ((P t).book v i) ≤ 4 * length ((P t).bytes i)) where
    tells : (t u : ℕ) → t ≡ u → (v w : Where) (i : (P t).Of) (j : (P u).Of) → (P t).Meets i → (P u).Meets j → (P t).book v i ≡ (P u).book w j → ◌≡◌ {A = (numbered kind which x P).Of} (t, i) (u, j)
    tells t u e = rw e (λ v w i j m n g. ap {B = (numbered kind which x P).Of} (λ k. (u, k)) ((r u).tells v w i j m n g))

    abbrev inner : Where → (numbered kind which x P).Of → Where
    inner v i = into v ((numbered kind which x P).shape i)

    pub numbered_renders : T (ltb kind 65536) → Renders (one (numbered kind which x P)) (from (λ k p. within (get_or p 1 0) (q (get_or p 0 0) (get_or p 1 0)))) (look (kind ∷ []) false L.stop 0)
    numbered_renders z = record {
      renders = λ v i m w h. rw ((r i.0).renders (inner v i) i.1 m.1 w h, wrap_is i.0 ((P i.0).bytes i.1) (real i.0 m.0)) refl;
      begins = λ v i m. begins_one kind (x ∷ i.0 ∷ numbers v) ((P i.0).book (inner v i) i.1) false;
      bound = λ v i m. omega (arith, paid i.0 (inner v i) i.1 m.1, element_long (low i.0 ((P i.0).bytes i.1)));
      laid = λ v i m n h. (z, omega (arith, element_long (low i.0 ((P i.0).bytes i.1))), (r i.0).laid (inner v i) i.1 m.1 n (omega (arith, element_long (low i.0 ((P i.0).bytes i.1)))));
      tells = λ v w i j m n e. tells i.0 j.0 (ap (λ p. get_or p 1 0) (ap pay_first e)) (inner v i) (inner w j) i.1 j.1 m.1 n.1 (ap (drop 1) e);
      moved = λ v n i. let e : n + v.at - (n + v.file.start) ≡ v.at - v.file.start = omega arith in rw (e, moved_on (r i.0) v n (length (element_bytes ((numbered kind which x P).shape i)) - length ((P i.0).bytes i.1)) i.1) refl;
    }
