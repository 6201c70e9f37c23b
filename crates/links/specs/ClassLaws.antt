-- The entries that answer a link are those of its class in the table of classes.
use Rattle.std.specs.Prelude.{ℕ, zero, suc, ◌-◌, ◌≤◌, ◌<◌, ◌≡◌, refl, Bool, true, false, ◌&&◌, get_or, leb, eqb}
use Rattle.std.proofs.Common.{sym, ◌∙◌, arith, le-leb, eq-eqb, ne_eqb}
use Rattle.std.proofs.lemmas.Bool.{lt-leb}
use Rattle.elements.specs.Choice.{pick}
use Rattle.elements.specs.ChoiceLaws.{by_less}
use Rattle.rules.specs.declared.table.Class.{Class}
use Rattle.rules.specs.declared.table.Class.TheVariants.{Keys, Certificates, Containers, Authentications}
use Rattle.rules.specs.Tables.{classes, class_of}
use Rattle.links.specs.Links.{certifying, answering}

abbrev pub is_certificates : Class → Bool
is_certificates Keys = false
is_certificates Certificates = true
is_certificates Containers = false
is_certificates Authentications = false

abbrev pub is_authentications : Class → Bool
is_authentications Keys = false
is_authentications Certificates = false
is_authentications Containers = false
is_authentications Authentications = true

-- by the number of the entry's tag behind A0
certificates_at : (k : ℕ) → is_certificates (get_or classes k Keys) ≡ (leb 4 k && leb k 6)
certificates_at zero = refl
certificates_at (suc zero) = refl
certificates_at (suc (suc zero)) = refl
certificates_at (suc (suc (suc zero))) = refl
certificates_at (suc (suc (suc (suc zero)))) = refl
certificates_at (suc (suc (suc (suc (suc zero))))) = refl
certificates_at (suc (suc (suc (suc (suc (suc zero)))))) = refl
certificates_at (suc (suc (suc (suc (suc (suc (suc zero))))))) = refl
certificates_at (suc (suc (suc (suc (suc (suc (suc (suc zero)))))))) = refl
certificates_at (suc (suc (suc (suc (suc (suc (suc (suc (suc k))))))))) = let x = suc (suc (suc (suc (suc (suc (suc (suc (suc k)))))))) in rw (le-leb 4 x (omega arith), lt-leb x 6 (omega arith)) refl

authentications_at : (k : ℕ) → is_authentications (get_or classes k Keys) ≡ eqb k 8
authentications_at zero = refl
authentications_at (suc zero) = refl
authentications_at (suc (suc zero)) = refl
authentications_at (suc (suc (suc zero))) = refl
authentications_at (suc (suc (suc (suc zero)))) = refl
authentications_at (suc (suc (suc (suc (suc zero))))) = refl
authentications_at (suc (suc (suc (suc (suc (suc zero)))))) = refl
authentications_at (suc (suc (suc (suc (suc (suc (suc zero))))))) = refl
authentications_at (suc (suc (suc (suc (suc (suc (suc (suc zero)))))))) = refl
authentications_at (suc (suc (suc (suc (suc (suc (suc (suc (suc k))))))))) = sym (ne_eqb (suc (suc (suc (suc (suc (suc (suc (suc (suc k))))))))) 8 (λ e. omega arith))

same_leb : (a b c d : ℕ) → (a ≤ b → c ≤ d) → (b < a → d < c) → leb a b ≡ leb c d
same_leb a b c d f g = by_less b a (λ h. lt-leb a b h ∙ sym (lt-leb c d (g h))) (λ h. le-leb a b h ∙ sym (le-leb c d (f h)))

same_eqb : (a b c d : ℕ) → (a ≡ b → c ≡ d) → ((a ≡ b → ⊥) → c ≡ d → ⊥) → eqb a b ≡ eqb c d
same_eqb a b c d f g = by_less a b (λ h. other (λ e. omega arith)) (λ h. by_less b a (λ l. other (λ e. omega arith)) (λ l. let e : a ≡ b = omega arith in eq-eqb a b e ∙ sym (eq-eqb c d (f e))))
  where
    other : (a ≡ b → ⊥) → eqb a b ≡ eqb c d
    other n = ne_eqb a b n ∙ sym (ne_eqb c d (g n))

-- "certificate (A4, A5, A6)" are the entries of that class
certifying_class : (entry : ℕ) → certifying entry ≡ is_certificates (class_of entry)
certifying_class entry = by_less entry 0xa0
    (λ h. let z : entry - 0xa0 ≡ 0 = omega arith in rw (z, lt-leb 0xa4 entry (omega arith)) refl)
    (λ h. sym (certificates_at (entry - 0xa0) ∙ rw (same_leb 4 (entry - 0xa0) 0xa4 entry (λ l. omega arith) (λ l. omega arith), same_leb (entry - 0xa0) 6 entry 0xa6 (λ l. omega arith) (λ l. omega arith)) refl))

-- an authentication object's entry, A8, is the one of that class
authentication_class : (entry : ℕ) → eqb entry 0xa8 ≡ is_authentications (class_of entry)
authentication_class entry = by_less entry 0xa0
    (λ h. let z : entry - 0xa0 ≡ 0 = omega arith in rw (z, ne_eqb entry 0xa8 (λ e. omega arith)) refl)
    (λ h. sym (authentications_at (entry - 0xa0) ∙ same_eqb (entry - 0xa0) 8 entry 0xa8 (λ e. omega arith) (λ n e. n (omega arith))))

-- so what answers a link is told by the table: certificates answer link 3, authentication objects the others
pub answering_class : (link entry : ℕ) → answering link entry ≡ pick (eqb link 3) (is_certificates (class_of entry)) (is_authentications (class_of entry))
unfolding answering
answering_class link entry = rw (certifying_class entry, authentication_class entry) refl
