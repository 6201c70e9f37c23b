-- A password's flag word is the first record of its parts; the rule on it.
use Prim.Native.Nat.{ℕ, ◌/◌, ◌%◌}
use mathlib.Core.Path.{◌≡◌, refl}
use mathlib.Core.Bool.{Bool, true, false}
use mathlib.Core.List.{List, ◌∷◌}
use native.Mathlib.Omega.{arith}
use lib.Seq.{slice}
use lib.Dec.{ltb, eqb}
use Rattle.std.specs.Prelude.{Err, Ok}
use Rattle.elements.specs.declared.fault.Fault.{Fault}
use Rattle.elements.specs.declared.fault.Fault.TheVariants.{PasswordFlags, NotDue}
use Rattle.elements.specs.declared.answer.Form.TheVariants.{Bits}
use Rattle.elements.specs.declared.answer.Refusal.{Refusal}
use Rattle.elements.specs.Answer.{Head, Value, refused}
use Rattle.elements.specs.Choice.{pick, choose}
use Rattle.elements.specs.ChoiceLaws.{by_choose}
use Rattle.elements.specs.Put.{le32}
use Rattle.elements.specs.Values.{value, placed, due_element, element as read-element}
use Rattle.elements.specs.Header.{header}
use Rattle.objects.specs.declared.part.Cursor.{Cursor}
use Rattle.rules.specs.declared.table.Need.TheVariants.{Required}
use Rattle.rules.specs.Reading.{Rec, rec, Res, took, fails, also, and_then, number}
use Rattle.rules.specs.Parts.{absent, due, valued, judged, payload, row_body, component, components}
use Rattle.rules.specs.Tables.{pwd_flags_row}
use Rattle.rules.specs.Objects.{flagged, password}
use Rattle.objects.specs.Composed.{password_parts}
use Rattle.objects.specs.Did.{Did, fell, flags_set, both_flags}
use Rattle.objects.specs.DidLaws.{did_same}
use Rattle.rules.specs.Layouts as layouts

-- what begins with a flag word's record: the bits of its number, or a refusal
data Flags (y : Bool) : Res → Type 0 where
  no_flags : {f : Fault} {p : ℕ} → Flags y (fails f p)
  flags : {b : Rec} {bs : List Rec} {ms : List ℕ} {n : ℕ} → eqb (number b.pay / 64 % 4) 3 ≡ y → Flags y (took (b ∷ bs) ms n)

flags_also : {y : Bool} (b : Rec) (bs : List Rec) (ms : List ℕ) → eqb (number b.pay / 64 % 4) 3 ≡ y → (w : Res) → Flags y (also (b ∷ bs) ms w)
flags_also b bs ms q (took cs ns n) = flags q
flags_also b bs ms q (fails f p) = no_flags

flags_then : {y : Bool} {w : Res} → Flags y w → (k : ℕ → Res) → Flags y (and_then w k)
flags_then no_flags k = no_flags
flags_then (flags {b = b} {bs = bs} {ms = ms} {n = n} q) k = flags_also b bs ms q (k n)

-- bits 6 and 7 are in the first of the four bytes
number_bits : (m : ℕ) → number (le32 m) / 64 % 4 ≡ m / 64 % 4
unfolding number
number_bits m = omega arith

flags_value : (at x : ℕ) (v : Value) (c : List ℕ) → Flags (flags_set (placed at x v)) (valued pwd_flags_row at x (judged pwd_flags_row c v))
unfolding payload
flags_value at x (Err f) c = no_flags
flags_value at x (Ok y) c = flags {b = rec pwd_flags_row.kind (le32 y.1)} (rw (number_bits y.1) refl)

flags_due : (s : List ℕ) (at : ℕ) (h : Head) → Flags (flags_set (due_element Bits pwd_flags_row.tag s at h)) (due pwd_flags_row.tag Required (row_body s pwd_flags_row) at h)
unfolding row_body
flags_due s at (Err r) = no_flags
flags_due s at (Ok y) = go (eqb y.0 0x03)
  where
    go : (b : Bool) → Flags (flags_set (pick b (placed at y.2 (value Bits (slice y.1 y.2 s))) (refused NotDue at))) (choose b (λ _. row_body s pwd_flags_row at y.1 y.2) (λ _. absent Required at (fails NotDue at)))
    go true = flags_value at y.2 (value Bits (slice y.1 y.2 s)) (slice y.1 y.2 s)
    go false = no_flags

flags_row : (s : List ℕ) (e at : ℕ) → Flags (both_flags s at e) (component s pwd_flags_row.tag Required (row_body s pwd_flags_row) e at)
unfolding component both_flags read-element
flags_row s e at = by_choose (Flags (flags_set (due_element Bits pwd_flags_row.tag s at (header s at e)))) (ltb at e) (λ _ _. flags_due s at (header s at e)) (λ _ _. no_flags)

flags_parts : (s : List ℕ) (e x : ℕ) → Flags (both_flags s x e) (password_parts s e x)
unfolding components
flags_parts s e x = flags_then (flags_then (flags_then (flags_row s e x) _) _) _

-- the rule, on what was read
module _ (s : List ℕ) (at : ℕ) {a b : List ℕ} {o x e : ℕ} where
  pub password_fails : {y : Refusal} → Did a b o x e (password_parts s e x) (Err y) → Did a b o x e (password s at x e) (Err y)
  unfolding layouts.password
  password_fails d = go d
    where
      go : {w : Res} {y : Refusal} → Did a b o x e w (Err y) → Did a b o x e (flagged at w) (Err y)
      go (fell q) = fell q

  module _ {p : Cursor} (d : Did a b o x e (password_parts s e x) (Ok p)) where
    pub password_both : both_flags s x e ≡ true → Did a b o x e (password s at x e) (refused PasswordFlags at)
    unfolding layouts.password
    password_both t = go (rw t at (flags_parts s e x)) d
      where
        go : {w : Res} {p : Cursor} → Flags true w → Did a b o x e w (Ok p) → Did a b o x e (flagged at w) (refused PasswordFlags at)
        go (no_flags {p = p}) v = elim v [ ]
        go (flags u) v = rw u (fell (did_same v))

    pub password_plain : both_flags s x e ≡ false → Did a b o x e (password s at x e) (Ok p)
    unfolding layouts.password
    password_plain t = go (rw t at (flags_parts s e x)) d
      where
        go : {w : Res} {p : Cursor} → Flags false w → Did a b o x e w (Ok p) → Did a b o x e (flagged at w) (Ok p)
        go (no_flags {p = p}) v = elim v [ ]
        go (flags u) v = rw u v
