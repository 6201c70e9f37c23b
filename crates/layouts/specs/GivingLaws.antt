-- What a service hands over, once it is put into the lent slice.
use Rattle.std.specs.Prelude.{ℕ, ◌<◌, ◌≤◌, ◌≡◌, Bool, true, false, List, ◌++◌, length, take, drop, leb, Ok}
use Rattle.std.proofs.Math.Path.{refl}
use Rattle.std.proofs.Common.{sym, ap, ◌∙◌, arith, take_at}
use borrow.Author.Tests.{leb-false, le-leb, lt-leb}
use Rattle.elements.specs.Choice.{choose}
use Rattle.elements.specs.declared.fault.Fault.{Fault}
use Rattle.elements.specs.declared.fault.Fault.TheVariants.{NoRoom}
use Rattle.elements.specs.Put.{Put}
use Rattle.elements.specs.PutLaws.{put_fits}
use Rattle.layouts.specs.Service.{Served, served, giving, Gives}
use Rattle.elements.specs.Answer.{Outcome, refused}
use Rattle.elements.specs.AnswerLaws.{refused_same}

-- m bytes or numbers, for which there is no room, and for which there is
module _ {bs : List ℕ} {m : ℕ} (long : m ≡ length bs) {a : List ℕ} where
  pub gives_none : length a < m → Gives bs a a (refused NoRoom m)
  unfolding giving
  gives_none h = record { is = rw (← long, lt-leb m (length a) h) refl }

  -- they were copied, or put one by one
  pub gives_copied : {y : List ℕ} → m ≤ length a → y ≡ bs → Gives bs a (y ++ drop m a) (Ok m)
  unfolding giving
  gives_copied h e = record { is = rw (← long, le-leb m (length a) h, e) refl }

  pub gives_all : {b : List ℕ} {p : ℕ} → m ≤ length a → Put a b 0 p bs → Gives bs a b (Ok m)
  unfolding giving
  gives_all {b} {p} h f =
      let q : p ≡ m = omega (arith, f.at, long) in
      record { is = rw (← long, le-leb m (length a) h, put_fits f (omega arith), q) refl }

-- too short a slice is the one refusal of handing over, and leaves it
pub unhanded : (x a b : List ℕ) {f : Fault} {p : ℕ} → served (refused f p) b ≡ giving x a → (b ≡ a) × (f ≡ NoRoom) × (p ≡ length x) × (length a < length x)
unfolding giving
unhanded x a b {f} {p} = go (leb (length x) (length a)) refl
  where
    go : (t : Bool) → leb (length x) (length a) ≡ t → served (refused f p) b ≡ choose t (λ _. served (Ok (length x)) (x ++ drop (length x) a)) (λ _. served (refused NoRoom (length x)) a) → (b ≡ a) × (f ≡ NoRoom) × (p ≡ length x) × (length a < length x)
    go true l e = let q : refused f p ≡ Ok (length x) = ap (λ (y : Served). y.answer) e in absurd (let z : ◌≡◌ {A = ℕ} 0 1 = cc in omega arith)
    go false l e = let q : refused f p ≡ refused NoRoom (length x) = ap (λ (y : Served). y.answer) e in let u = refused_same q in (ap (λ (y : Served). y.lent) e, u.0, u.1, leb-false (length x) (length a) l)

-- what was handed over, and past it what the slice held
pub handed : (x a b : List ℕ) {n : ℕ} → served (Ok n) b ≡ giving x a → (n ≡ length x) × (b ≡ x ++ drop n a)
unfolding giving
handed x a b {n} e = go (leb (length x) (length a)) e
  where
    go : (t : Bool) → served (Ok n) b ≡ choose t (λ _. served (Ok (length x)) (x ++ drop (length x) a)) (λ _. served (refused NoRoom (length x)) a) → (n ≡ length x) × (b ≡ x ++ drop n a)
    go true e =
        let q : Ok n ≡ Ok (length x) = ap (λ (y : Served). y.answer) e in
        let m : n ≡ length x = cc in
        (m, rw m (ap (λ (y : Served). y.lent) e))
    go false e =
        let q : Ok n ≡ refused NoRoom (length x) = ap (λ (y : Served). y.answer) e in
        absurd (let z : ◌≡◌ {A = ℕ} 0 1 = cc in omega arith)

-- so it is the first n of the slice
pub handed_first : (x a b : List ℕ) {n : ℕ} → served (Ok n) b ≡ giving x a → take n b ≡ x
handed_first x a b {n} e = let h = handed x a b e in rw h.1 (take_at x (drop n a) n (sym h.0))

-- what fits is handed over
pub fitting : (x a c : List ℕ) (r : Outcome) → served r c ≡ giving x a → length x ≤ length a → (r ≡ Ok (length x)) × (c ≡ x ++ drop (length x) a)
unfolding giving
fitting x a c r e h =
    let q : served r c ≡ served (Ok (length x)) (x ++ drop (length x) a) = e ∙ rw (le-leb (length x) (length a) h) refl in
    (ap (λ (y : Served). y.answer) q, ap (λ (y : Served). y.lent) q)

-- and what does not fit is 14 with its length
pub too_long : (x a c : List ℕ) (r : Outcome) → served r c ≡ giving x a → length a < length x → (r ≡ refused NoRoom (length x)) × (c ≡ a)
unfolding giving
too_long x a c r e h =
    let q : served r c ≡ served (refused NoRoom (length x)) a = e ∙ rw (lt-leb (length x) (length a) h) refl in
    (ap (λ (y : Served). y.answer) q, ap (λ (y : Served). y.lent) q)
