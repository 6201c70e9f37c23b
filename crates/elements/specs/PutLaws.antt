-- Laws of storing into a lent slice.
use Rattle.std.specs.Prelude.{◌≡◌, refl, List, [], ◌∷◌, ◌++◌, ℕ, suc, ◌+◌, ◌≤◌, length, take, drop, set}
use Rattle.std.proofs.Common.{sym, ap, ◌∙◌, add-zero, arith, length-append, take_at, drop_at, length-take-le}
use Rattle.std.proofs.Math.Seq.{slice, length-sets, set_out}
use Rattle.std.proofs.lemmas.List.Edits.{sets, sets-eq}
use Rattle.elements.specs.Put.{Put}

-- a run of stores is the first part's and then the second's, with no condition
sets_append : {A : Type 0} (vs ws l : List A) (i : ℕ) → sets l i (vs ++ ws) ≡ sets (sets l i vs) (i + length vs) ws
sets_append [] ws l i = rw add-zero
sets_append (a ∷ vs) ws l i =
    sets_append vs ws (set l i a) (suc i) ∙ ap (λ (k : ℕ). sets (sets (set l i a) (suc i) vs) k ws) (omega arith)

-- nothing is put
pub put_none : {A : Type 0} (out : List A) (o : ℕ) → Put out out o o []
put_none out o = record { at = omega arith; to = refl }

-- a put leaves the slice its length
pub put_length : {A : Type 0} {a b : List A} {o p : ℕ} {x : List A} → Put a b o p x → length b ≡ length a
put_length {A} {a} {b} {o} {p} {x} f = rw f.to (length-sets a o x)

-- one thing after the other
pub put_put : {A : Type 0} {a b c : List A} {o p q : ℕ} {x y : List A} → Put a b o p x → Put b c p q y → Put a c o q (x ++ y)
put_put {A} {a} {b} {c} {o} {p} {q} {x} {y} f g = record {
  at = omega (arith, length-append x y, f.at, g.at);
  to = g.to ∙ rw (f.at, f.to) (sym (sets_append x y a o));
}

-- bytes for which there is no place are not stored
sets_past : {A : Type 0} (y a : List A) (o : ℕ) → length a ≤ o → sets a o y ≡ a
sets_past [] a o h = refl
sets_past (b ∷ y) a o h = rw (set_out a o b h) (sets_past y a (suc o) (omega arith))

pub put_over : {a b : List ℕ} {o p : ℕ} {x : List ℕ} → Put a b o p x → length a ≤ p → (y : List ℕ) → Put a b o (p + length y) (x ++ y)
put_over {b = b} {p = p} f h y = put_put f (record { at = refl; to = sym (sets_past y b p (omega (arith, put_length f))) })

-- what has a place is stored
pub put_one : {A : Type 0} (a : List A) (o : ℕ) (b : A) → Put a (set a o b) o (o + 1) (b ∷ [])
put_one a o b = record { at = refl; to = refl }

pub put_past : {A : Type 0} (a : List A) (o : ℕ) (b : A) → length a ≤ o → Put a a o (o + 1) (b ∷ [])
put_past a o b h = record { at = refl; to = sym (sets_past (b ∷ []) a o h) }

-- what is put, by an equal name
pub put_as : {a b : List ℕ} {o p : ℕ} {x y : List ℕ} → Put a b o p x → x ≡ y → Put a b o p y
put_as f e = rw e at f

-- two things one after the other, by an equal name
pub put_then : {a b c : List ℕ} {o p q : ℕ} {x y z : List ℕ} → Put a b o p x → Put b c p q y → x ++ y ≡ z → Put a c o q z
put_then f g e = put_as (put_put f g) e

-- three things one after the other, by an equal name
pub put_then3 : {a b c d : List ℕ} {o p q r : ℕ} {x y z w : List ℕ} → Put a b o p x → Put b c p q y → Put c d q r z → (x ++ y) ++ z ≡ w → Put a d o r w
put_then3 f g h e = put_then (put_put f g) h e

-- a put that fits is a splice
pub put_fits : {A : Type 0} {a b : List A} {o p : ℕ} {x : List A} → Put a b o p x → p ≤ length a → b ≡ take o a ++ x ++ drop p a
put_fits {A} {a} {b} {o} {p} {x} f h = f.to ∙ rw f.at (sets-eq x a o (omega (arith, f.at)))

-- what a put left in its place
pub put_there : {a b : List ℕ} {o p : ℕ} {x : List ℕ} → Put a b o p x → p ≤ length a → slice o p b ≡ x
put_there {a} {b} {o} {p} {x} f h =
    let l : length (take o a) ≡ o = length-take-le o a (omega (arith, f.at)) in
    let m : length (take o a ++ x) ≡ p = omega (arith, length-append (take o a) x, f.at) in
    rw (put_fits f h, take_at (take o a ++ x) (drop p a) p m, drop_at (take o a) x o l) refl

-- what a put left up to its end
pub put_upto : {a b : List ℕ} {o p : ℕ} {x : List ℕ} → Put a b o p x → p ≤ length a → take p b ≡ take o a ++ x
put_upto {a} {b} {o} {p} {x} f h =
    let l : length (take o a) ≡ o = length-take-le o a (omega (arith, f.at)) in
    let m : length (take o a ++ x) ≡ p = omega (arith, length-append (take o a) x, f.at) in
    rw (put_fits f h) (take_at (take o a ++ x) (drop p a) p m)

-- into no room nothing is put
pub put_empty : {A : Type 0} {b : List A} {o p : ℕ} {x : List A} → Put [] b o p x → b ≡ []
put_empty {A} {b} {o} {p} {x} f = f.to ∙ none x o
  where
    none : (x : List A) (o : ℕ) → sets [] o x ≡ []
    none [] o = refl
    none (a ∷ x) o = none x (suc o)

-- any two results that a put allows are equal
pub put_same : {A : Type 0} {a b c : List A} {o p q : ℕ} {x : List A} → Put a b o p x → Put a c o q x → (b ≡ c) × (p ≡ q)
put_same f g = (f.to ∙ sym g.to, f.at ∙ sym g.at)
