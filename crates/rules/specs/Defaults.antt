-- "68 (default written out)", the last of "61 to 68" at one element: where a value is in its form, and is the default.
use Rattle.std.specs.Prelude.{ℕ, ◌≡◌, refl, Bool, true, false, List, Err, Ok}
use Rattle.std.proofs.Common.{◌∙◌, arith, eqb-true}
use Rattle.std.proofs.Math.Seq.{slice}
use Rattle.elements.specs.declared.fault.Fault.{Fault}
use Rattle.elements.specs.declared.fault.Fault.TheVariants.{DefaultWritten}
use Rattle.elements.specs.declared.answer.Form.{Form}
use Rattle.elements.specs.declared.answer.Form.TheVariants as form
use Rattle.elements.specs.ChoiceLaws.{by_choose}
use Rattle.elements.specs.Values.{value}
use Rattle.elements.specs.WrongLaws.{Faulty, own_fault, boolean_61, integer_62, bits_63, bits_64, bits_7, text_65, time_66, null_67}
use Rattle.rules.specs.declared.table.Need.{Need}
use Rattle.rules.specs.declared.table.Need.TheVariants.{Required, Optional, Default}
use Rattle.rules.specs.declared.table.Row.{Row}
use Rattle.rules.specs.Reading.{fails}
use Rattle.rules.specs.Parts.{Val, good, wrong, is_default, in_bounds, payload, judged, valued, row_body}
use Rattle.elements.specs.Answer.{Value, of}

-- contents c of a row say its default
pub record Written (r : Row) (c : List ℕ) : Type 0 where
  pub default : ℕ
  pub stated : r.need ≡ Default default
  pub says : value r.form c ≡ of false default

-- a number is the default of its row
the_default : (d : Need) (n : Bool) (m : ℕ) → is_default d n m ≡ true → (n ≡ false) × (d ≡ Default m)
the_default Required n m e = absurd (let z : ◌≡◌ {A = ℕ} 0 1 = cc in omega arith)
the_default Optional n m e = absurd (let z : ◌≡◌ {A = ℕ} 0 1 = cc in omega arith)
the_default (Default d) true m e = absurd (let z : ◌≡◌ {A = ℕ} 0 1 = cc in omega arith)
the_default (Default d) false m e = (refl, rw (eqb-true m d e) refl)

-- no form has this fault by itself
not_of_form : {f : Form} {x : Fault} → Faulty f x → x ≡ DefaultWritten → ◌≡◌ {A = ℕ} 0 1
not_of_form boolean_61 e = cc
not_of_form integer_62 e = cc
not_of_form bits_63 e = cc
not_of_form bits_64 e = cc
not_of_form bits_7 e = cc
not_of_form text_65 e = cc
not_of_form time_66 e = cc
not_of_form null_67 e = cc

-- of a value in its form the default alone has it
module _ (r : Row) (c : List ℕ) (n : Bool) (m : ℕ) where
  abbrev Only : Val → Type 0
  Only v = v ≡ wrong DefaultWritten → is_default r.need n m ≡ true

  other : {v : Val} → (v ≡ wrong DefaultWritten → ◌≡◌ {A = ℕ} 0 1) → Only v
  other h q = absurd (omega (arith, h q))

  of_value : (f : Form) → Only (payload f r c n m)
  unfolding payload
  of_value form.Integer = by_choose Only (is_default r.need n m) (λ _ t _. t) (λ _ _. by_choose Only (in_bounds r n m) (λ _ _. other (λ q. cc)) (λ _ _. other (λ q. cc)))
  of_value form.Boolean = by_choose Only (is_default r.need n m) (λ _ t _. t) (λ _ _. other (λ q. cc))
  of_value form.Bits = other (λ q. cc)
  of_value form.Null = other (λ q. cc)
  of_value form.Text = by_choose Only (in_bounds r n m) (λ _ _. other (λ q. cc)) (λ _ _. other (λ q. cc))
  of_value form.Time = other (λ q. cc)
  of_value form.Octets = by_choose Only (in_bounds r n m) (λ _ _. other (λ q. cc)) (λ _ _. other (λ q. cc))

-- a component is refused with 68 at its element, and only where its contents are its default in a good form: "form before default"
pub only_default : (s : List ℕ) (r : Row) (at a e p : ℕ) → row_body s r at a e ≡ fails DefaultWritten p → (p ≡ at) × Written r (slice a e s)
unfolding row_body
only_default s r at a e p = go (value r.form (slice a e s)) refl
  where
    c : List ℕ
    c = slice a e s

    go : (v : Value) → value r.form c ≡ v → valued r at e (judged r c v) ≡ fails DefaultWritten p → (p ≡ at) × Written r c
    go (Err x) q h = absurd (omega (arith, not_of_form (own_fault r.form c q) cc))
    go (Ok y) q h = by_val (payload r.form r c y.0 y.1) refl h
      where
        by_val : (v : Val) → payload r.form r c y.0 y.1 ≡ v → valued r at e v ≡ fails DefaultWritten p → (p ≡ at) × Written r c
        by_val (good b) i j = absurd (let z : ◌≡◌ {A = ℕ} 0 1 = cc in omega arith)
        by_val (wrong x) i j =
            let w : payload r.form r c y.0 y.1 ≡ wrong DefaultWritten = cc in
            let d = the_default r.need y.0 y.1 (of_value r c y.0 y.1 r.form w) in
            (cc, record { default = y.1; stated = d.1; says = q ∙ rw d.0 refl })
