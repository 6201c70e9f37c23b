-- A loop as a function: from x on, by f, until f is done. k bounds the turns; d stands for running out, which a k above a measure rules out.
use Rattle.std.specs.Prelude.{ℕ, zero, suc}

pub data Turn (S A : Type 0) : Type 0 where
  next : S → Turn S A
  done : A → Turn S A

unfoldable pub loop : {S A : Type 0} → (S → Turn S A) → A → ℕ → S → A
loop f d zero x = d
loop f d (suc k) x = elim (f x) [ next y ↦ loop f d k y | done a ↦ a ]
