-- What is known of a value that was read: E holds of it.
use Rattle.std.specs.Prelude.{ℕ, ◌≡◌, Bool, true, false, Err}
use Rattle.std.proofs.Common.{subst}
use Rattle.elements.specs.Choice.{pick}
use Rattle.elements.specs.ChoiceLaws.{by_pick}
use Rattle.elements.specs.declared.fault.Fault.{Fault}
use Rattle.elements.specs.Answer.{Value, of}

pub data Says (E : Bool → ℕ → Type 0) : Value → Type 0 where
  wrong : {f : Fault} → Says E (Err f)
  says : {n : Bool} {m : ℕ} → E n m → Says E (of n m)

pub by_test : {E : Bool → ℕ → Type 0} (t : Bool) {x y : Value} → (t ≡ true → Says E x) → (t ≡ false → Says E y) → Says E (pick t x y)
by_test {E} t f g = by_pick (Says E) t f g

holds : {E : Bool → ℕ → Type 0} {n : Bool} {m : ℕ} → Says E (of n m) → E n m
holds (says e) = e

pub said : {E : Bool → ℕ → Type 0} {v : Value} {n : Bool} {m : ℕ} → Says E v → v ≡ of n m → E n m
said {E} s e = holds (subst (Says E) e s)
