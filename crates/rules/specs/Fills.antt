-- Fill at the end of a file.
use Rattle.std.specs.Prelude.{ℕ, zero, suc, ◌+◌, ◌-◌, List, [], ◌∷◌, Bool, ◌||◌, ◌&&◌, not, get_or, ltb, eqb}
use Rattle.elements.specs.declared.fault.Fault.TheVariants.{FillDiffers, Missing}
use Rattle.elements.specs.Choice.{choose}
use Rattle.elements.specs.Header.{header}
use Rattle.elements.specs.Put.{le16}
use Rattle.rules.specs.Reading.{rec, Res, took, fails, and_then, Reader}
use Rattle.rules.specs.Parts.{surplus}

module _ (s : List ℕ) where
  -- "a first byte 00 or FF where an element would start begins the fill"
  abbrev pub to_fill : ℕ → ℕ → Bool
  to_fill end at = ltb at end && not (eqb (get_or s at 0) 0 || eqb (get_or s at 0) 0xff)

  unfoldable pub filled : ℕ → ℕ → ℕ → ℕ → Res
  filled b zero end at = took [] [] at
  filled b (suc g) end at = choose (eqb (get_or s at 0) b) (λ _. filled b g end (at + 1)) (λ _. fails FillDiffers at)

  -- "all bytes to the end must equal it"; "fill byte, 2-byte count"
  unfoldable pub fill : ℕ → Reader
  fill kind end at =
      choose (ltb at end)
      (λ _. and_then (filled (get_or s at 0) (end - at) end at) (λ n. took (rec kind (get_or s at 0 ∷ le16 (end - at)) ∷ []) [] n))
      (λ _. took [] [] at)

  -- an element, and none where the fill begins
  abbrev pub before_fill : Reader → Reader
  before_fill p end at = choose (to_fill end at) (λ _. p end at) (λ _. fails Missing end)

  -- no second one
  abbrev pub only_fill : ℕ → Reader
  only_fill kind end at = choose (to_fill end at) (λ _. surplus at (header s at end)) (λ _. fill kind end at)
