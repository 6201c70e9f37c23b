-- What is checked of a path, of a password and of a template of ours.
use Rattle.std.specs.Prelude.{[], ◌∷◌, true, ◌≡◌, ℤ}
use Rattle.std.proofs.Math.Option.{Option, none, some}
use Rattle.rules.specs.Reading.{rec}
use Rattle.rules.specs.Parts.{kept_out}
use Rattle.rules.specs.Tables.{password_rows, template_rows}
use Rattle.rules.specs.Rulings.{ours}
use Rattle.rules.specs.Grammar.{Part, ◌and◌, optional, tagged, behind, rest, fields}

-- "both or neither"
abbrev pub BothOrNeither : Option ℤ → Option ℤ → Type 0
BothOrNeither none none = Unit {0}
BothOrNeither none (some l) = ⊥
BothOrNeither (some i) none = ⊥
BothOrNeither (some i) (some l) = Unit {0}

-- "pwdFlags bits 6 and 7 both set"
abbrev pub password_part : Part → Part
password_part path = fields password_rows and optional (tagged 0x30 path) and rest 0x019f (0x30 ∷ kept_out password_rows)

-- "5 where a template of ours has neither path nor 73"
abbrev pub template_part : Part → Part
template_part ddo = fields template_rows and optional (tagged 0x73 (behind ddo (λ _. rec 0x0205 []))) and rest 0x0210 (0x73 ∷ kept_out template_rows)

abbrev pub Reached : {A B : Type 0} → Option A → Option B → Type 0
Reached none none = ⊥
Reached none (some y) = Unit {0}
Reached (some x) none = Unit {0}
Reached (some x) (some y) = Unit {0}

abbrev pub OursReached : (ddo : Part) → (template_part ddo).Of → Type 0
OursReached ddo (((aid, (label, (path, _))), inner), others) = ours aid ≡ true → Reached path inner
