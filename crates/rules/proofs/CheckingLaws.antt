-- That these checks say of a path, of a password and of a template of ours what they are to say.
use Rattle.std.specs.Prelude.{ℕ, ◌+◌, ◌/◌, ◌%◌, List, [], ◌∷◌, Bool, true, false, ◌&&◌, ◌≡◌, refl, ℤ, drop, eqb, T}
use Rattle.std.proofs.Math.Option.{Option, none, some}
use Rattle.std.proofs.Common.{sym, ◌∙◌, arith, eq-eqb, ne_eqb}
use Rattle.std.proofs.lemmas.Bool.{eqb-false}
use Rattle.elements.specs.declared.fault.Fault.{Fault}
use Rattle.elements.specs.declared.fault.Fault.TheVariants.{Missing, PathPair, PasswordFlags}
use Rattle.elements.specs.Choice.{choose}
use Rattle.elements.specs.Put.{le32}
use Rattle.rules.specs.Reading.{Rec, Res, took, fails, number}
use Rattle.rules.specs.Tables.{path_rows_from}
use Rattle.rules.specs.Rulings.{has, same, paired, flagged, ours, unreached, reached}
use Rattle.rules.specs.ValueLaws.{number_le32}
use Rattle.rules.specs.FaultLaws.{of_reading}
use Rattle.rules.specs.Grammar.{Where, Part, fields}
use Rattle.rules.proofs.Lawful.{Judges, passes, refuses, Checks}
use Rattle.rules.specs.Checking.{BothOrNeither, password_part, template_part, Reached, OursReached}

no_refusal : {A : Type 0} (f : Fault) (p : ℕ) (bs : List Rec) (ms : List ℕ) (n : ℕ) → fails f p ≡ took bs ms n → A
no_refusal f p bs ms n e = let z : ◌≡◌ {A = ℕ} 0 1 = cc in absurd (omega arith)

judge : (own : ℕ) (x : Fault) → T (of_reading x) → (w : Res) (b : Bool) → Judges own w (choose b (λ _. w) (λ _. fails x own))
judge own x t w true = passes refl
judge own x t w false = refuses x t refl

judge_not : (own : ℕ) (x : Fault) → T (of_reading x) → (w : Res) (b : Bool) → Judges own w (choose b (λ _. fails x own) (λ _. w))
judge_not own x t w true = refuses x t refl
judge_not own x t w false = passes refl

-- that a test of their records tells
abbrev both : Option ℤ → Option ℤ → Bool
both none none = true
both none (some l) = false
both (some i) none = false
both (some i) (some l) = true

both_is : (i l : Option ℤ) → both i l ≡ true → BothOrNeither i l
both_is none none e = tt
both_is none (some l) e = absurd (let z : ◌≡◌ {A = ℕ} 0 1 = cc in omega arith)
both_is (some i) none e = absurd (let z : ◌≡◌ {A = ℕ} 0 1 = cc in omega arith)
both_is (some i) (some l) e = tt

is_both : (i l : Option ℤ) → BothOrNeither i l → both i l ≡ true
is_both none none e = refl
is_both none (some l) e = absurd e
is_both (some i) none e = absurd e
is_both (some i) (some l) e = refl

tested : (k : ℕ) (v : Where) (p : List ℕ) (i l : Option ℤ) → same (has (k + 1) ((fields (path_rows_from k)).book v (p, (i, (l, tt))))) (has (k + 2) ((fields (path_rows_from k)).book v (p, (i, (l, tt))))) ≡ both i l
tested k v p none none = rw (ne_eqb k (k + 1) (omega arith), ne_eqb k (k + 2) (omega arith)) refl
tested k v p none (some l) = rw (ne_eqb k (k + 1) (omega arith), ne_eqb k (k + 2) (omega arith), ne_eqb (k + 2) (k + 1) (omega arith), eq-eqb (k + 2) (k + 2) refl) refl
tested k v p (some i) none = rw (ne_eqb k (k + 1) (omega arith), ne_eqb k (k + 2) (omega arith), ne_eqb (k + 1) (k + 2) (omega arith), eq-eqb (k + 1) (k + 1) refl) refl
tested k v p (some i) (some l) = rw (ne_eqb k (k + 1) (omega arith), ne_eqb k (k + 2) (omega arith), ne_eqb (k + 2) (k + 1) (omega arith), ne_eqb (k + 1) (k + 2) (omega arith), eq-eqb (k + 1) (k + 1) refl, eq-eqb (k + 2) (k + 2) refl) refl

-- a test that lets pass says what is tested
let_pass : (b : Bool) (f : Fault) (p : ℕ) (bs : List Rec) (ms : List ℕ) (n : ℕ) → choose b (λ _. took bs ms n) (λ _. fails f p) ≡ took bs ms n → b ≡ true
let_pass true f p bs ms n e = refl
let_pass false f p bs ms n e = no_refusal f p bs ms n e

pub pairs : (k : ℕ) → Checks (fields (path_rows_from k)) (paired k) (λ (p, (index, (len, _))). BothOrNeither index len)
pairs k = record {
  fallen = λ own x p. refl;
  judges = λ own bs ms n. judge own PathPair tt (took bs ms n) (same (has (k + 1) bs) (has (k + 2) bs));
  sound = λ own v y m ms n e. both_is y.1.0 y.1.1.0 (sym (tested k v y.0 y.1.0 y.1.1.0) ∙ let_pass (same (has (k + 1) ((fields (path_rows_from k)).book v y)) (has (k + 2) ((fields (path_rows_from k)).book v y))) PathPair own ((fields (path_rows_from k)).book v y) ms n e);
  complete = λ own v y m z ms n. rw (tested k v y.0 y.1.0 y.1.1.0, is_both y.1.0 y.1.1.0 z) refl;
}

flagged_judges : (own : ℕ) (bs : List Rec) (ms : List ℕ) (n : ℕ) → Judges own (took bs ms n) (flagged own (took bs ms n))
flagged_judges own [] ms n = passes refl
flagged_judges own (r ∷ bs) ms n = judge_not own PasswordFlags tt (took (r ∷ bs) ms n) (eqb (number r.pay / 64 % 4) 3)

pub flags : (path : Part) → Checks (password_part path) flagged (λ (((bits, _), _), _). bits / 64 % 4 ≡ 3 → ⊥)
flags path = record {
  fallen = λ own x p. refl;
  judges = flagged_judges;
  sound = λ own v y m ms n e. sound own v y m ms n (eqb (number (le32 y.0.0.0) / 64 % 4) 3) refl e;
  complete = λ own v y m z ms n. rw (is y m, ne_eqb (y.0.0.0 / 64 % 4) 3 z) refl;
}
  where
    is : (y : (password_part path).Of) → (password_part path).Meets y → number (le32 y.0.0.0) ≡ y.0.0.0
    is y m = number_le32 y.0.0.0 m.0.0.0.0

    sound : (own : ℕ) (v : Where) (y : (password_part path).Of) → (password_part path).Meets y → (ms : List ℕ) (n : ℕ) (b : Bool) → eqb (number (le32 y.0.0.0) / 64 % 4) 3 ≡ b →
        choose b (λ _. fails PasswordFlags own) (λ _. took ((password_part path).book v y) ms n) ≡ took ((password_part path).book v y) ms n → y.0.0.0 / 64 % 4 ≡ 3 → ⊥
    sound own v y m ms n true q e = no_refusal PasswordFlags own ((password_part path).book v y) ms n e
    sound own v y m ms n false q e = rw (is y m) at (eqb-false (number (le32 y.0.0.0) / 64 % 4) 3 q)

-- that a test of its records tells
abbrev lacks_both : {A B : Type 0} → Option A → Option B → Bool
lacks_both none none = true
lacks_both none (some y) = false
lacks_both (some x) none = false
lacks_both (some x) (some y) = false

lacks_reached : {A B : Type 0} (x : Option A) (y : Option B) → lacks_both x y ≡ false → Reached x y
lacks_reached none none e = absurd (let z : ◌≡◌ {A = ℕ} 0 1 = cc in omega arith)
lacks_reached none (some y) e = tt
lacks_reached (some x) none e = tt
lacks_reached (some x) (some y) e = tt

reached_lacks : {A B : Type 0} (x : Option A) (y : Option B) → Reached x y → lacks_both x y ≡ false
reached_lacks none none e = absurd e
reached_lacks none (some y) e = refl
reached_lacks (some x) none e = refl
reached_lacks (some x) (some y) e = refl

reached_judges : (own : ℕ) (bs : List Rec) (ms : List ℕ) (n : ℕ) → Judges own (took bs ms n) (reached own (took bs ms n))
reached_judges own [] ms n = passes refl
reached_judges own (r ∷ bs) ms n = judge_not own Missing tt (took (r ∷ bs) ms n) (ours r.pay && unreached bs)

module _ (ddo : Part) (v : Where) (aid : List ℕ) where
  -- the records behind its 4F
  abbrev behind_aid : Option (List ℕ) → Option (List ℕ) → Option ddo.Of → List ℕ → List Rec
  behind_aid label path inner others = drop 1 ((template_part ddo).book v (((aid, (label, (path, tt))), inner), others))

  tells_both : (label path : Option (List ℕ)) (inner : Option ddo.Of) (others : List ℕ) → unreached (behind_aid label path inner others) ≡ lacks_both path inner
  tells_both none (some p) none others = refl
  tells_both none (some p) (some y) others = refl
  tells_both none none (some y) others = refl
  tells_both none none none [] = refl
  tells_both none none none (x ∷ c) = refl
  tells_both (some l) (some p) none others = refl
  tells_both (some l) (some p) (some y) others = refl
  tells_both (some l) none (some y) others = refl
  tells_both (some l) none none [] = refl
  tells_both (some l) none none (x ∷ c) = refl

  passed : (test : Bool) (x y : Bool) → (ours aid && x) ≡ test → x ≡ y → (own : ℕ) (bs : List Rec) (ms : List ℕ) (n : ℕ) → choose test (λ _. fails Missing own) (λ _. took bs ms n) ≡ took bs ms n → ours aid ≡ true → y ≡ false
  passed true x y q z own bs ms n e o = no_refusal Missing own bs ms n e
  passed false x y q z own bs ms n e o = sym z ∙ rw o at q

pub reaches : (ddo : Part) → Checks (template_part ddo) reached (OursReached ddo)
reaches ddo = record {
  fallen = λ own x p. refl;
  judges = reached_judges;
  sound = λ own v y m ms n e o. sound own v y.0.0.0 y.0.0.1.0 y.0.0.1.1.0 y.0.1 y.1 ms n e o;
  complete = λ own v y m z ms n. complete own v y.0.0.0 y.0.0.1.0 y.0.0.1.1.0 y.0.1 y.1 ms n z;
}
  where
    sound : (own : ℕ) (v : Where) (aid : List ℕ) (label path : Option (List ℕ)) (inner : Option ddo.Of) (others : List ℕ) (ms : List ℕ) (n : ℕ) → reached own (took ((template_part ddo).book v (((aid, (label, (path, tt))), inner), others)) ms n) ≡ took ((template_part ddo).book v (((aid, (label, (path, tt))), inner), others)) ms n →
        ours aid ≡ true → Reached path inner
    sound own v aid label path inner others ms n e o =
        lacks_reached path inner (passed ddo v aid (ours aid && unreached (behind_aid ddo v aid label path inner others)) (unreached (behind_aid ddo v aid label path inner others)) (lacks_both path inner) refl (tells_both ddo v aid label path inner others) own ((template_part ddo).book v (((aid, (label, (path, tt))), inner), others)) ms n e o)

    complete : (own : ℕ) (v : Where) (aid : List ℕ) (label path : Option (List ℕ)) (inner : Option ddo.Of) (others : List ℕ) (ms : List ℕ) (n : ℕ) → (ours aid ≡ true → Reached path inner) → reached own (took ((template_part ddo).book v (((aid, (label, (path, tt))), inner), others)) ms n) ≡ took ((template_part ddo).book v (((aid, (label, (path, tt))), inner), others)) ms n
    complete own v aid label path inner others ms n z = go (ours aid) refl
      where
        go : (b : Bool) → ours aid ≡ b → choose (b && unreached (behind_aid ddo v aid label path inner others)) (λ _. fails Missing own) (λ _. took ((template_part ddo).book v (((aid, (label, (path, tt))), inner), others)) ms n) ≡ took ((template_part ddo).book v (((aid, (label, (path, tt))), inner), others)) ms n
        go true o = rw (tells_both ddo v aid label path inner others, reached_lacks path inner (z o)) refl
        go false o = refl
