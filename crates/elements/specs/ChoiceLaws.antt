-- What holds of both that a test chooses from holds of what is chosen; two tests in one.
use Rattle.std.specs.Prelude.{ℕ, ◌<◌, ◌≤◌, Bool, true, false, ◌&&◌, ◌≡◌, refl, ltb, T}
use Rattle.std.proofs.Common.{arith, ltb-true, ltb-false}
use Rattle.elements.specs.Choice.{pick, choose}

-- a property of what a test picks, shown for both
pub by_pick : {A : Type 0} (P : A → Type 0) (t : Bool) {x y : A} → (t ≡ true → P x) → (t ≡ false → P y) → P (pick t x y)
by_pick P true f g = f refl
by_pick P false f g = g refl

-- the same where what is not chosen is not computed
pub by_choose : {A : Type 0} (P : A → Type 0) (t : Bool) {x y : Unit {0} → A} →
    ((u : Unit {0}) → t ≡ true → P (x u)) → ((u : Unit {0}) → t ≡ false → P (y u)) → P (choose t x y)
by_choose P true f g = f tt refl
by_choose P false f g = g tt refl

-- a number is below another or not
pub by_less : {A : Type 0} (a b : ℕ) → (a < b → A) → (b ≤ a → A) → A
by_less {A} a b f g = by_pick (λ (_ : Bool). A) (ltb a b) {x = true} {y = false} (λ t. f (ltb-true a b t)) (λ t. g (ltb-false a b t))

-- two tests that hold together hold each
pub all_both : (a b : Bool) → T (a && b) → T a × T b
all_both true b t = (tt, t)
all_both false b t = absurd t

pub both_true : (a b : Bool) → (a && b) ≡ true → (a ≡ true) × (b ≡ true)
both_true true b e = (refl, e)
both_true false b e = let z : ◌≡◌ {A = ℕ} 0 1 = cc in absurd (omega arith)
