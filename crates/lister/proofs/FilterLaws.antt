-- What holds of an iterator's n-th item, and of the n-th that passes a filter, if it holds of each.
use Rattle.std.proofs.Common.{◌≡◌, sym, ap, subst, ◌∙◌, ℕ, Bool, Option, Some, None, IfSome, List, [], ◌∷◌, Bor}
use denote.Param.Members.{Mut}
use Rattle.std.specs.Iterator.{Yields, YieldsThen, SkipsThenYields}
use Rattle.std.specs.Iterator.Adapters.{filter_source, filter_steps}
use Rattle.std.specs.declared.iter.Filter.{Filter}

module _ {S A B : Type 0} (steps : S → Option A → S → Type 0) (of : S → B) (P : B → A → Type 0) where
  -- no call changes what `of` reads of the state, and P holds of that and each item
  abbrev pub Each : Type 0
  Each = (s : S) (x : A) (t : S) → steps s (Some x) t → (of t ≡ of s) × P (of s) x

  lasts : Each → (xs : List A) (s t : S) → Yields steps s xs t → of t ≡ of s
  lasts h [] s t y = ap of (sym y)
  lasts h (x ∷ xs) s t y = lasts h xs y.0 t y.2 ∙ (h s x y.0 y.1).0

  pub later : Each → (xs : List A) (s : S) (x : A) (u : S) → YieldsThen steps s xs (Some x) u
      → (of u ≡ of s) × P (of s) x
  later h xs s x u y =
      let e = lasts h xs s y.0 y.1 in
      let k = h y.0 x u y.2 in
      (k.0 ∙ e, subst (λ b. P b x) e k.1)

  pub nth_is : Each → (s : S) (n : ℕ) (r : Option A) (u : S) → SkipsThenYields steps s n r u → IfSome r (P (of s))
  nth_is h s n None u y = tt
  nth_is h s n (Some x) u y = (later h y.0 s x u y.1).1

module _ {S A B F : Type 0} (steps : S → Option A → S → Type 0) (g : Mut F (Bor A × Unit {0}) Bool)
    (of : S → B) (P : B → A → Type 0) where
  pub nth_passed : Each steps of P → (s : Filter S F) (n : ℕ) (r : Option A) (u : Filter S F)
      → SkipsThenYields (filter_steps steps g) s n r u → IfSome r (P (of (filter_source s)))
  nth_passed h = nth_is (filter_steps steps g) (λ s. of (filter_source s)) P
      (λ s x t y. later steps of P h y.0 (filter_source s) x (filter_source t) y.2)
