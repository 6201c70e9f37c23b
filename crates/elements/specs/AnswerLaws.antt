-- Equal answers have equal parts.
use Rattle.std.specs.Prelude.{ℕ, ◌≡◌, Bool, Result, Ok, Err}
use Rattle.std.proofs.Common.{ap, ◌∙◌}
use Rattle.std.specs.Result.{IsErr, IsErrAnd}
use Rattle.std.proofs.lemmas.Result.{err_from_is_err_and}
use Rattle.elements.specs.declared.fault.Fault.{Fault}
use Rattle.elements.specs.declared.answer.Refusal.{Refusal}
use Rattle.elements.specs.declared.answer.Number.{Number}
use Rattle.elements.specs.Answer.{of, refused}

-- what was answered, or d
abbrev pub answer_or : {A E : Type 0} → A → Result A E → A
answer_or d (Ok x) = x
answer_or d (Err e) = d

-- what was refused, or d
abbrev pub fault_or : {A E : Type 0} → E → Result A E → E
fault_or d (Ok x) = d
fault_or d (Err e) = e

pub of_same : {n k : Bool} {m l : ℕ} → of n m ≡ of k l → (n ≡ k) × (m ≡ l)
of_same {n} {k} {m} {l} e =
    let z : ◌≡◌ {A = Number} (record { 0 = n; 1 = m }) (record { 0 = k; 1 = l }) = ap (answer_or (record { 0 = n; 1 = m })) e in
    (ap (λ (x : Number). x.0) z, ap (λ (x : Number). x.1) z)

pub refused_same : {A : Type 0} {f g : Fault} {p q : ℕ} → ◌≡◌ {A = Result A Refusal} (refused f p) (refused g q) → (f ≡ g) × (p ≡ q)
refused_same {f = f} {g = g} {p = p} {q = q} e =
    let z : ◌≡◌ {A = Refusal} (record { 0 = f; 1 = p }) (record { 0 = g; 1 = q }) = ap (fault_or (record { 0 = f; 1 = p })) e in
    (ap (λ (x : Refusal). x.0) z, ap (λ (x : Refusal). x.1) z)

-- what is returned where a `?` leaves: the refusal that was met
pub leaves : {T E : Type 0} {r : Result T E} {e : E} → IsErr r × IsErrAnd r (λ y. y ≡ e) → r ≡ Err e
leaves {r = r} h = let p = err_from_is_err_and r h.1 in p.1 ∙ ap (λ y. Err y) p.2
