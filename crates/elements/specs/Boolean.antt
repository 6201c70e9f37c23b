-- "BOOLEAN is 00 or FF."
use Rattle.std.specs.Prelude.{ℕ, List, [], ◌∷◌, false, length, get_or, eqb, Err}
use Rattle.elements.specs.Choice.{pick}
use Rattle.elements.specs.declared.fault.Fault.TheVariants.{BadBoolean}
use Rattle.elements.specs.Answer.{Value, of}

unfoldable pub boolean : List ℕ → Value
boolean c =
    pick (eqb (length c) 1)
    (pick (eqb (get_or c 0 0) 0) (of false 0)
    (pick (eqb (get_or c 0 0) 255) (of false 1) (Err BadBoolean)))
    (Err BadBoolean)

-- the way back: 0 is FALSE
unfoldable pub boolean_bytes : ℕ → List ℕ
boolean_bytes v = pick (eqb v 0) (0 ∷ []) (255 ∷ [])
