-- What the services answer, and what they leave in the lent slice.
use Rattle.std.specs.Prelude.{ℕ, ◌≤◌, ◌≡◌, Bool, true, false, List, ◌++◌, length, drop, leb, Ok}
use Rattle.std.proofs.Common.{sym, ap, ◌∙◌, arith, length-append}
use Rattle.elements.specs.declared.fault.Fault.TheVariants.{NoRoom, NoDump}
use Rattle.elements.specs.Choice.{choose}
use Rattle.rules.specs.Files.{Answer, accepted, refused, read_dump}
use Rattle.rules.specs.Book.{encode}
use Rattle.rules.specs.Write.{Written, written, no_book, write_dump}
use Rattle.elements.specs.Answer.{Outcome}
use Rattle.elements.specs.Answer as code

-- an answer, and what the lent slice then holds
pub record Served : Type 0 where
  pub answer : Outcome
  pub lent : List ℕ

abbrev pub served : Outcome → List ℕ → Served
served r b = record { answer = r; lent = b }

-- "A refusal writes nothing, an acceptance nothing past its length": these bytes into the slice that held `a`; 14 with their number if it is too short
unfoldable pub giving : List ℕ → List ℕ → Served
giving bs a = choose (leb (length bs) (length a)) (λ _. served (Ok (length bs)) (bs ++ drop (length bs) a)) (λ _. served (code.refused NoRoom (length bs)) a)

abbrev pub by_answer : Answer → List ℕ → Served
by_answer (accepted rs) a = giving (encode rs) a
by_answer (refused f p) a = served (code.refused f p) a

-- a dump read into a slice that held `a`
unfoldable pub reading : List ℕ → List ℕ → Served
reading s a = by_answer (read_dump s) a

-- the service read answered r, and the slice, which was a, is b
pub record ReadTold (s a b : List ℕ) (r : Outcome) : Type 0 where
  pub is : served r b ≡ reading s a

-- a book written into a slice that held `a`: 15, "no accepted dump has this book; place 0", before 14
abbrev pub by_written : Written → List ℕ → Served
by_written (written d) a = giving d a
by_written no_book a = served (code.refused NoDump 0) a

unfoldable pub writing : List ℕ → List ℕ → Served
writing b a = by_written (write_dump b) a

-- the service write answered r, and the slice, which was a, is c
pub record WriteTold (b a c : List ℕ) (r : Outcome) : Type 0 where
  pub is : served r c ≡ writing b a

-- these bytes were handed over: the answer is r, and the slice, which was a, is b
pub record Gives (bs a b : List ℕ) (r : Outcome) : Type 0 where
  pub is : served r b ≡ giving bs a

-- any two results that the contract allows are equal
pub one_read : {s a b c : List ℕ} {q r : Outcome} → ReadTold s a b q → ReadTold s a c r → (q ≡ r) × (b ≡ c)
one_read h g = let e = h.is ∙ sym g.is in (ap (λ (x : Served). x.answer) e, ap (λ (x : Served). x.lent) e)

pub one_write : {b a c e : List ℕ} {q r : Outcome} → WriteTold b a c q → WriteTold b a e r → (q ≡ r) × (c ≡ e)
one_write h g = let e = h.is ∙ sym g.is in (ap (λ (x : Served). x.answer) e, ap (λ (x : Served). x.lent) e)

-- what was accepted has room
pub giving_fits : (bs a : List ℕ) {b : List ℕ} {n : ℕ} → served (Ok n) b ≡ giving bs a → n ≤ length b
unfolding giving
giving_fits bs a {b} {n} = go (leb (length bs) (length a))
  where
    go : (t : Bool) → served (Ok n) b ≡ choose t (λ _. served (Ok (length bs)) (bs ++ drop (length bs) a)) (λ _. served (code.refused NoRoom (length bs)) a) → n ≤ length b
    go true e =
        let q : Ok n ≡ Ok (length bs) = ap (λ (x : Served). x.answer) e in
        let x : n ≡ length bs = cc in
        let y : b ≡ bs ++ drop (length bs) a = ap (λ (x : Served). x.lent) e in
        rw y (omega (arith, length-append bs (drop (length bs) a)))
    go false e = let q : Ok n ≡ code.refused NoRoom (length bs) = ap (λ (x : Served). x.answer) e in absurd (let z : ◌≡◌ {A = ℕ} 0 1 = cc in omega arith)

pub read_fits : {s a b : List ℕ} {r : Outcome} {n : ℕ} → ReadTold s a b r → r ≡ Ok n → n ≤ length b
unfolding reading
read_fits {s} {a} {b} {r} {n} h e = go (read_dump s) (rw e at h.is)
  where
    go : (w : Answer) → served (Ok n) b ≡ by_answer w a → n ≤ length b
    go (accepted rs) q = giving_fits (encode rs) a q
    go (refused f p) q = let w : Ok n ≡ code.refused f p = ap (λ (x : Served). x.answer) q in absurd (let z : ◌≡◌ {A = ℕ} 0 1 = cc in omega arith)

pub write_fits : {b a c : List ℕ} {r : Outcome} {n : ℕ} → WriteTold b a c r → r ≡ Ok n → n ≤ length c
unfolding writing
write_fits {b} {a} {c} {r} {n} h e = go (write_dump b) (rw e at h.is)
  where
    go : (w : Written) → served (Ok n) c ≡ by_written w a → n ≤ length c
    go (written d) q = giving_fits d a q
    go no_book q = let w : Ok n ≡ code.refused NoDump 0 = ap (λ (x : Served). x.answer) q in absurd (let z : ◌≡◌ {A = ℕ} 0 1 = cc in omega arith)
