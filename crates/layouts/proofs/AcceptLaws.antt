-- The acceptance test.
use Prim.Native.Nat.{ℕ, ◌<◌, ◌≤◌}
use mathlib.Core.Path.{◌≡◌, refl, sym, ap, ◌∙◌}
use mathlib.Core.Bool.{Bool, true, false}
use mathlib.Core.List.{List, []}
use native.Mathlib.Omega.{arith}
use lib.ListN.{length, take}
use lib.Dec.{eqb}
use Rattle.std.specs.Cmp.Lexicographic.{pointwise}
use Rattle.rules.specs.Compared.{compared}
use borrow.Author.Tests.{lt-leb}
use Rattle.elements.specs.declared.fault.Fault.{Fault}
use Rattle.elements.specs.Choice.{choose}
use Rattle.elements.specs.Lists.{Bytes}
use Rattle.elements.specs.PutLaws.{put_length, put_upto}
use Rattle.rules.specs.Files.{Answer, equal, read_dump}
use Rattle.rules.specs.Book.{encode, records}
use Rattle.rules.specs.Render.{render}
use Rattle.rules.specs.Write.{written, no_book, confirmed, write_dump}
use Rattle.cards.proofs.Demand2.{refused_if_none, none_if_refused, written_then_read, book_most}
use Rattle.reader.specs.Stages.{Reads, reads, falls}
use Rattle.writer.specs.MakingFiles.{Fitted, fits, beyond}
use Rattle.layouts.specs.Accept.{confirming, Confirms, Tried, holds, none, BookTold}
use Rattle.elements.specs.Answer.{Outcome, refused}
use Rattle.makers.specs.Making as making
use Rattle.makers.specs.declared.made.Made.{Made}
use Rattle.makers.specs.declared.made.TooLong.{TooLong}
use Rattle.std.specs.Prelude.{Ok, Err, Some, None, Option, is_some}

-- what reading the candidate says
module _ (b d : List ℕ) {z w : List ℕ} {x : Outcome} (m : Reads [] z w 0 (read_dump d) x) where
  pub confirms_not : {f : Fault} {p : ℕ} → x ≡ refused f p → Confirms b d false
  confirms_not {f} {p} e = record { is = go (rw e at m) }
    where
      go : {g : Answer} → Reads [] z w 0 g (refused f p) → confirmed b d g ≡ no_book
      go (falls _) = refl

  pub confirms_by : {n : ℕ} {r : Bool} → x ≡ Ok n → r ≡ pointwise eqb (take n w) b → Confirms b d r
  confirms_by {n} {r} e q = record { is = go (rw e at m) }
    where
      as_told : (r : Bool) → choose r (λ _. written d) (λ _. no_book) ≡ confirming r d
      as_told true = refl
      as_told false = refl

      go : {g : Answer} → Reads [] z w 0 g (Ok n) → confirmed b d g ≡ confirming r d
      go (reads rs f h) =
          let t : equal (encode rs) b ≡ r = sym (q ∙ rw (put_upto f h) (compared (encode rs) b)) in
          ap (λ (y : Bool). choose y (λ _. written d) (λ _. no_book)) t ∙ as_told r

-- a book that no dump can have: it is too long, or its candidate is
pub tried_long : (b d : List ℕ) → Bytes b → 131072 < length b → Tried b d None
tried_long b d bytes h = none (refused_if_none bytes (λ a. absurd (omega (arith, book_most a.has))))

module _ (b : List ℕ) {a c : List ℕ} {r : making.Answer} (m : Fitted a c 0 (render (records b)) r) where
  pub tried_beyond : {x : TooLong} → r ≡ Err x → length a ≡ 32768 → Tried b c None
  unfolding write_dump read_dump
  tried_beyond e l = none (go (rw e at m))
    where
      go : {x : TooLong} → Fitted a c 0 (render (records b)) (Err x) → write_dump b ≡ no_book
      go (beyond h _) = rw (lt-leb (length (render (records b))) 32768 (omega arith)) refl

  module _ {y : Made} (e : r ≡ Ok y) where
    candidate : take y.end c ≡ render (records b)
    candidate = go (rw e at m)
      where
        go : {x : List ℕ} → Fitted a c 0 x (Ok y) → take y.end c ≡ x
        go (fits f h) = put_upto f h

    pub candidate_fits : y.end ≤ length c
    candidate_fits = go (rw e at m)
      where
        go : {x : List ℕ} → Fitted a c 0 x (Ok y) → y.end ≤ length c
        go (fits f h) = omega (arith, put_length f)

    module _ {t : Bool} (f : Confirms b (take y.end c) t) where
      told : write_dump b ≡ confirming t (take y.end c)
      unfolding write_dump
      told = rw (← candidate) f.is

      pub tried_holds : t ≡ true → Tried b c (Some y.end)
      tried_holds z = holds candidate_fits (told ∙ ap (λ (r : Bool). confirming r (take y.end c)) z)

      pub tried_none : t ≡ false → Tried b c None
      tried_none z = none (told ∙ ap (λ (r : Bool). confirming r (take y.end c)) z)

-- whether a dump has the book
pub book_told : {b d : List ℕ} {r : Option ℕ} {t : Bool} → Tried b d r → Bytes b → t ≡ is_some r → BookTold b t
book_told {d = d} (holds {n = n} h q) bytes e = record { yes = λ _. record { dump = take n d; has = written_then_read bytes q }; no = λ z _. let y : ◌≡◌ {A = ℕ} 0 1 = cc in omega arith }
book_told (none q) bytes e = record { yes = λ z. absurd (let y : ◌≡◌ {A = ℕ} 0 1 = cc in omega arith); no = λ _ a. none_if_refused q a }
