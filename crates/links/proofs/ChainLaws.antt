-- Keys of identifiers, and the chains of objects, made from the last object on.
use Prim.Native.Nat.{ℕ, ◌+◌, ◌-◌, ◌<◌, ◌≤◌}
use mathlib.Core.Path.{◌≡◌, refl, sym, ◌∙◌}
use mathlib.Core.List.{List}
use native.Mathlib.Omega.{arith}
use lib.ListN.{length, get_or, set, length-set}
use lib.Seq.{slice, length-slice}
use Rattle.std.specs.Prelude.{Option, Some, None}
use Rattle.elements.specs.ChoiceLaws.{by_less}
use Rattle.rules.specs.Book.{Ends}
use Rattle.rules.specs.BookLaws.{byte_none, byte_some}
use Rattle.links.specs.declared.index.Index.{Index}
use Rattle.links.specs.Links.{none}
use Rattle.links.specs.Finding.{id_at, entry_at, Entered}
use Rattle.links.specs.Chains.{key_of, key_at, Key, Leads, Chained}
use Rattle.links.proofs.IndexLaws.{by_set}

-- the key of what stands from p to e
module _ (b : List ℕ) (p e : ℕ) (h : e ≤ length b) where
  pub key_none : e ≤ p → Key (slice p e b) 0
  unfolding key_of
  key_none l = record { is = sym (byte_none b p e _ h (omega (arith, length-slice p e b h))); small = omega arith }

  pub key_last : p < e → get_or b (e - 1) 0 < 256 → Key (slice p e b) (get_or b (e - 1) 0)
  unfolding key_of
  key_last l s =
      let k : e - 1 ≡ p + (length (slice p e b) - 1) = omega (arith, length-slice p e b h) in
      record { is = rw k (sym (byte_some b p e _ (omega (arith, length-slice p e b h)))); small = s }

-- the loop of `chain`: the objects from j on are in chains
pub record Chaining (b : List ℕ) (n : ℕ) (x : Index) (j : ℕ) : Type 0 where
  pub same : x.n ≡ n
  pub entered : Entered b x
  pub made : Chained b x j

-- object j more
module _ {b : List ℕ} {n : ℕ} {x : Index} {i j : ℕ} (w : Chaining b n x i) (z : i ≡ j + 1) (f : j < n) where
  -- the chain of another key is as it was
  other_first : {h : ℕ} {k : Option ℕ} → (key_at b j ≡ h → ⊥) → Leads b x.n h i k → Leads b x.n h j k
  other_first d l = record {
    low = omega (arith, l.low);
    skips = λ k u v. by_less k i (λ s. let e : k ≡ j = omega arith in rw e d) (λ s. l.skips k s v);
    here = l.here;
  }

  -- it has no identifier
  pub chaining_same : (entry_at x.entries j).id ≡ None → Chaining b n x j
  unfolding key_at
  chaining_same l = record {
    same = w.same;
    entered = w.entered;
    made = record {
      long = w.made.long;
      first = λ h g. other_first (λ q. omega (arith, none_there)) (w.made.first h g);
      next = λ k h u v g q. by_less k i (λ s. let t : k ≡ j = omega arith in absurd (omega (arith, none_there, rw t at q))) (λ s. w.made.next k h s v g q);
    };
  }
    where
      lacks : id_at b j ≡ none
      lacks = rw l at (w.entered.entries.ids j (omega (arith, w.same)))

      none_there : key_at b j ≡ 256
      none_there = rw lacks refl

  -- it is the first of its key
  module _ {p e h : ℕ} (l : (entry_at x.entries j).id ≡ Some p) (d : Ends b p e) (k : Key (slice (p + 4) e b) h) (long : length x.firsts ≡ 256) where
    abbrev more : Index
    more = record x { firsts = set x.firsts h (Some j); nexts = set x.nexts j (get_or x.firsts h None) }

    pub chaining_more : Chaining b n more j
    unfolding key_at
    chaining_more = record {
      same = w.same;
      entered = record {
        count = w.entered.count;
        few = w.entered.few;
        entries = w.entered.entries;
      };
      made = record {
        long = rw (length-set x.nexts j (get_or x.firsts h None)) w.made.long;
        first = λ a g. by_set None (λ y. Leads b x.n a j y) x.firsts h (Some j) a (omega (arith, k.small))
            (λ v. record { low = omega arith; skips = λ m s t. absurd (omega arith); here = λ m q. let y : m ≡ j = cc in (omega (arith, w.same), rw y (key ∙ sym v)) })
            (λ v. other_first (λ q. v (sym q ∙ key)) (w.made.first a g));
        next = λ a g u v s q. by_set None (λ y. Leads b x.n g (a + 1) y) x.nexts j (get_or x.firsts h None) a (omega (arith, w.same, w.made.long))
            (λ t. let y : g ≡ h = sym q ∙ rw t key in rw (t, y, ← z) (w.made.first h k.small))
            (λ t. w.made.next a g (omega arith) v s q);
      };
    }
      where
        key : key_at b j ≡ h
        key = rw ((rw l at (w.entered.entries.ids j (omega (arith, w.same)))).is e d) k.is
