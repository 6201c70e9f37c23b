-- A row's component: what was read of its contents.
use Prim.Native.Nat.{ℕ, ◌<◌, ◌≤◌}
use mathlib.Core.Path.{◌≡◌, refl}
use mathlib.Core.List.{List}
use native.Mathlib.Omega.{arith}
use lib.ListN.{length, get_or}
use lib.Seq.{slice}
use lib.Dec.{eqb}
use Rattle.std.specs.Prelude.{Err, Ok}
use Rattle.elements.specs.declared.answer.Form.TheVariants.{Boolean}
use Rattle.elements.specs.declared.answer.Number.{Number}
use Rattle.elements.specs.declared.answer.Read as read
use Rattle.elements.specs.declared.answer.Refusal.{Refusal}
use Rattle.elements.specs.Answer.{Value}
use Rattle.elements.specs.Boolean.{boolean}
use Rattle.elements.specs.ChoiceLaws.{by_pick}
use Rattle.elements.specs.Values.{value, placed}
use Rattle.rules.specs.declared.table.Row.{Row}
use Rattle.rules.specs.Parts.{Val, good, wrong, payload, valued, judged, row_body}
use Rattle.objects.specs.Did.{Part, Did, did, fell}

-- a BOOLEAN says 0 or 1
boolean_small : (c : List ℕ) {v : Number} → boolean c ≡ Ok v → v.1 < 256
unfolding boolean
boolean_small c {v} = by_pick P (eqb (length c) 1)
    (λ _. by_pick P (eqb (get_or c 0 0) 0) (λ _ e. let z : v.1 ≡ 0 = cc in omega arith) (λ _. by_pick P (eqb (get_or c 0 0) 255) (λ _ e. let z : v.1 ≡ 1 = cc in omega arith) (λ _ e. absurd (cc)))) (λ _ e. absurd (cc))
  where
    P : Value → Type 0
    P w = w ≡ Ok v → v.1 < 256

module _ (s : List ℕ) (r : Row) (at x e : ℕ) where
  pub row_refused : {y : Refusal} → Err y ≡ placed at e (value r.form (slice x e s)) → (a : List ℕ) (o : ℕ) → Did a a o x e (row_body s r at x e) (Err y)
  unfolding row_body
  row_refused {y} k a o = go (value r.form (slice x e s)) k
    where
      go : (w : Value) → Err y ≡ placed at e w → Did a a o x e (valued r at e (judged r (slice x e s) w)) (Err y)
      go (Ok v) z = absurd (cc)
      go (Err f) z = let u : y ≡ record { 0 = f; 1 = at } = cc in rw u (fell refl)

  module _ {v : read.Read} (k : Ok v ≡ placed at e (value r.form (slice x e s))) where
    was : value r.form (slice x e s) ≡ Ok v.0
    was = go (value r.form (slice x e s)) k
      where
        go : (w : Value) → Ok v ≡ placed at e w → w ≡ Ok v.0
        go (Ok u) z = let q : v ≡ record { 0 = u; 1 = e } = cc in rw q refl
        go (Err f) z = absurd (cc)

    pub row_boolean : r.form ≡ Boolean → v.0.1 < 256
    unfolding value
    row_boolean y = boolean_small (slice x e s) (rw y at was)

    pub row_taken : {a b : List ℕ} {o : ℕ} {w : Part} → x ≤ e → Did a b o at e (valued r at e (payload r.form r (slice x e s) v.0.0 v.0.1)) w → Did a b o x e (row_body s r at x e) w
    unfolding row_body
    row_taken {a} {b} {o} h d = rw was (go (payload r.form r (slice x e s) v.0.0 v.0.1) d)
      where
        go : (y : Val) {w : Part} → Did a b o at e (valued r at e y) w → Did a b o x e (valued r at e y) w
        go (good p) (did f i j k) = did f h j k
        go (wrong f) (fell q) = fell q
