-- Objects that bear an identifier have its key, so the answers from one object on are those from the first one with the key on.
use Prim.Native.Nat.{ℕ, zero, suc, ◌+◌, ◌-◌, ◌<◌, ◌≤◌}
use Rattle.std.specs.Prelude.{◌≡◌, drop, Option}
use Rattle.std.proofs.Math.Path.{refl, ap}
use Rattle.std.proofs.Common.{sym, ◌∙◌, true≢false}
use mathlib.Core.List.{List, [], ◌∷◌}
use Rattle.std.proofs.Math.Bool.{true}
use Rattle.std.proofs.Math.Nat.{add-zero, add-suc}
use native.Mathlib.Omega.{arith}
use Rattle.std.proofs.Math.Seq.{drop-nil}
use Rattle.std.specs.Option.{unwrap_or}
use Rattle.elements.specs.ChoiceLaws.{by_choose, both_true}
use Rattle.rules.specs.EqualLaws.{equal_is}
use Rattle.links.specs.Links.{Object, answering, Found, none, found, is_id, bears, answers, chosen, object_at}
use Rattle.links.specs.Finding.{objects_at, id_in}
use Rattle.links.specs.Chains.{key_of, key_in, key_at, Leads}

-- an object that bears the identifier has its key
module _ (link : ℕ) (x : List ℕ) where
  bears_key : (o : Object) → bears link x o ≡ true → key_in (id_in (chosen o)) ≡ key_of x
  unfolding bears
  bears_key o e = go (id_in (chosen o)) (both_true (answering link o.entry) _ e).1
    where
      go : (f : Found) → is_id x f ≡ true → key_in f ≡ key_of x
      go none z = absurd (true≢false (sym z))
      go (found h) z = ap key_of (sym (equal_is x h.pay z))

  -- so one with another key is no answer
  other_key : (k i : ℕ) (os : List Object) → (key_in (id_in (object_at os i)) ≡ key_of x → ⊥) → answers link x k (drop i os) ≡ answers link x (suc k) (drop (suc i) os)
  unfolding answers
  other_key k i [] f = rw (drop-nil i) refl
  other_key k zero (o ∷ os) f = by_choose (λ js. js ≡ answers link x (suc k) os) (bears link x o) (λ _ e. absurd (f (bears_key o e))) (λ _ _. refl)
  other_key k (suc i) (o ∷ os) f = other_key k i os f

  -- and the answers from i on are those from the first one with it on
  pub answers_lead : {b : List ℕ} {n i : ℕ} {r : Option ℕ} → Leads b n (key_of x) i r → answers link x i (drop i (objects_at b 0)) ≡ answers link x (unwrap_or r n) (drop (unwrap_or r n) (objects_at b 0))
  unfolding key_at
  answers_lead {b} {n} {i} {r} l = let e : i + (unwrap_or r n - i) ≡ unwrap_or r n = omega (arith, l.low) in rw e at (go (unwrap_or r n - i) (λ k u v. l.skips k u (omega arith)))
    where
      go : (d : ℕ) → ((k : ℕ) → i ≤ k → k < i + d → key_at b k ≡ key_of x → ⊥) → answers link x i (drop i (objects_at b 0)) ≡ answers link x (i + d) (drop (i + d) (objects_at b 0))
      go zero f = rw add-zero refl
      go (suc d) f = rw add-suc (go d (λ k u v. f k u (omega arith)) ∙ other_key (i + d) (i + d) (objects_at b 0) (f (i + d) (omega arith) (omega arith)))
