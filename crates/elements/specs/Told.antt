-- A count as a value: what 32 bits do not hold is told as the largest number.
use Rattle.std.specs.Prelude.{ℕ, false}
use Rattle.elements.specs.Integer.{least, most}
use Rattle.elements.specs.Answer.{Value, of}

unfoldable pub told : ℕ → Value
told n = of false (least n most)
