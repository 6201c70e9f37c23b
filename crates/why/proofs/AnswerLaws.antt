-- What a record that was found says.
use Prim.Native.Nat.{ℕ, ◌+◌}
use mathlib.Core.Path.{◌≡◌, refl}
use mathlib.Core.List.{List}
use Rattle.std.specs.Prelude.{Option, Some}
use Rattle.rules.specs.Files.{two}
use Rattle.links.specs.FindingLaws.{some_end}
use Rattle.why.specs.declared.answer.Why.TheVariants as answer
use Rattle.why.specs.Whys.{MetAt, UnmetAt}

module _ (b : List ℕ) {place : Option ℕ} {p k : ℕ} (h : place ≡ Some p) (q : k ≡ two b (p + 2)) where
  pub met_some : MetAt b place (answer.Met p k)
  met_some = record { is = λ f w. let z = rw h at w in some_end b p z.inside (λ e d. rw (z.is e d, q) refl) }

  pub unmet_some : UnmetAt b place (answer.Elsewhere p k)
  unmet_some = record { is = λ f w. let z = rw h at w in some_end b p z.inside (λ e d. rw (z.is e d, q) refl) }
