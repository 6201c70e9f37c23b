-- How what the code does is put together.
use Rattle.std.specs.Prelude.{ℕ, ◌+◌, ◌*◌, ◌≤◌, ◌≡◌, refl, List, [], ◌∷◌, ◌++◌, length, Ok, Err, Option, Some, None}
use Rattle.std.specs.Result.{IsErr, IsErrAnd}
use Rattle.std.proofs.Common.{sym, append-nil, append_assoc, arith, ◌∙◌}
use borrow.Author.Tests.{lt-ltb, le-ltb, le-leb}
use Rattle.elements.specs.declared.fault.Fault.{Fault}
use Rattle.elements.specs.declared.answer.Header.{Header}
use Rattle.elements.specs.declared.answer.Refusal.{Refusal}
use Rattle.elements.specs.Answer.{refused}
use Rattle.elements.specs.AnswerLaws.{leaves}
use Rattle.elements.specs.Header.{header}
use Rattle.elements.specs.HeaderLaws.{header_in}
use Rattle.elements.specs.ChoiceLaws.{by_less}
use Rattle.elements.specs.Put.{Put}
use Rattle.elements.specs.PutLaws.{put_none, put_as, put_then, put_length}
use Rattle.elements.specs.Record.{record_bytes}
use Rattle.objects.specs.declared.part.Cursor.{Cursor}
use Rattle.rules.specs.declared.table.Need.{Need}
use Rattle.rules.specs.Reading.{Rec, rec, Res, took, fails, also, and_then, Body}
use Rattle.rules.specs.Parts.{component, element, whatever}
use Rattle.rules.specs.Book.{encode}
use Rattle.objects.specs.Did.{Part, came, Did, did, fell, Forward, Stays, Inside, InElement, InContainer, Dues}

pub encode_append : (bs cs : List Rec) → encode (bs ++ cs) ≡ encode bs ++ encode cs
unfolding encode
encode_append [] cs = refl
encode_append (b ∷ bs) cs = rw (encode_append bs cs) (sym (append_assoc (record_bytes b.kind b.pay) (encode bs) (encode cs)))

pub encode_one : (k : ℕ) (p : List ℕ) → encode (rec k p ∷ []) ≡ record_bytes k p
unfolding encode
encode_one k p = append-nil (record_bytes k p)

-- nothing is there
pub did_none : (a : List ℕ) (o at end : ℕ) → at ≤ end → o ≤ 8 * at + 131072 → Did a a o at end (took [] [] at) (came at o)
unfolding encode
did_none a o at end h l = did {n = at} (put_none a o) (omega arith) h l

-- a refusal, and nothing was put
pub did_fell : (a : List ℕ) (o at end : ℕ) (f : Fault) (p : ℕ) → Did a a o at end (fails f p) (refused f p)
did_fell a o at end f p = fell refl

-- one record
pub did_one : {a b : List ℕ} {o q : ℕ} (k : ℕ) (p : List ℕ) (at e : ℕ) → Put a b o q (record_bytes k p) → at ≤ e → q ≤ 8 * e + 131072 → Did a b o at e (took (rec k p ∷ []) [] e) (came e q)
did_one k p at e f h l = did {n = e} (put_as f (sym (encode_one k p))) h (omega arith) l

module _ {a b : List ℕ} {o at end : ℕ} {w : Res} {r : Part} (d : Did a b o at end w r) where
  pub did_same : length b ≡ length a
  did_same = go d
    where
      go : {w : Res} {r : Part} → Did a b o at end w r → length b ≡ length a
      go (did f _ _ _) = put_length f
      go (fell e) = e

  -- the same answer, of an equal definition
  pub did_as : {v : Res} → w ≡ v → Did a b o at end v r
  did_as e = rw e at d

  -- in a larger container
  pub did_widen : {x y : ℕ} → x ≤ at → end ≤ y → Did a b o x y w r
  did_widen {x} {y} h l = go d
    where
      go : {w : Res} {r : Part} → Did a b o at end w r → Did a b o x y w r
      go (did {n = n} f i j k) = did {n = n} f (omega arith) (omega arith) k
      go (fell e) = fell e

-- a part that was read
module _ {a b : List ℕ} {o at end : ℕ} {w : Res} {p : Cursor} (d : Did a b o at end w (Ok p)) where
  pub did_low : at ≤ p.dump
  did_low = go d
    where
      go : {w : Res} {p : Cursor} → Did a b o at end w (Ok p) → at ≤ p.dump
      go (did _ i _ _) = i

  pub did_high : p.dump ≤ end
  did_high = go d
    where
      go : {w : Res} {p : Cursor} → Did a b o at end w (Ok p) → p.dump ≤ end
      go (did _ _ j _) = j

  pub did_small : p.book ≤ 8 * p.dump + 131072
  did_small = go d
    where
      go : {w : Res} {p : Cursor} → Did a b o at end w (Ok p) → p.book ≤ 8 * p.dump + 131072
      go (did _ _ _ k) = k

  -- and then another part
  pub did_then : (k : ℕ → Res) {c : List ℕ} {x : Part} → Did b c p.book p.dump end (k p.dump) x → Did a c o at end (and_then w k) x
  did_then k {c} {x} g = go d g
    where
      also_did : (bs : List Rec) (ms : List ℕ) {n q : ℕ} {v : Res} {y : Part} → Put a b o q (encode bs) → at ≤ n → Did b c q n end v y → Did a c o at end (also bs ms v) y
      also_did bs ms f i (did {bs = cs} {n = m} g h j l) = did {n = m} (put_then f g (sym (encode_append bs cs))) (omega arith) j l
      also_did bs ms f i (fell e) = fell (e ∙ put_length f)

      go : {w : Res} {p : Cursor} {y : Part} → Did a b o at end w (Ok p) → Did b c p.book p.dump end (k p.dump) y → Did a c o at end (and_then w k) y
      go (did {bs = bs} {ms = ms} f i _ _) g = also_did bs ms f i g

  -- and then a part that puts nothing
  pub did_ends : (k : ℕ → Res) {x : Part} → Stays p.book p.dump end (k p.dump) x → Did a b o at end (and_then w k) x
  did_ends k g = did_then k (g.is b)

-- a refusal of the first part is the whole's
pub did_fails : {a b : List ℕ} {o at end : ℕ} {w : Res} {e : Refusal} → Did a b o at end w (Err e) → (k : ℕ → Res) → Did a b o at end (and_then w k) (Err e)
did_fails {a} {b} {o} {at} {end} d k = go d
  where
    go : {w : Res} {e : Refusal} → Did a b o at end w (Err e) → Did a b o at end (and_then w k) (Err e)
    go (fell e) = fell e

-- what a `?` hands on
pub did_left : {a b : List ℕ} {o at end : ℕ} {w : Res} {r : Part} {e : Refusal} → IsErr r × IsErrAnd r (λ y. y ≡ e) → Did a b o at end w (Err e) → Did a b o at end w r
did_left h d = rw (leaves h) d

-- what was read lies behind a header
pub forward_in : {a b : List ℕ} {o x e : ℕ} {w : Res} {r : Part} (at : ℕ) → at + 2 ≤ x → Did a b o x e w r → Forward at r
forward_in {x = x} at h d = record { is = λ p t. omega (arith, did_low (rw t at d)) }

pub forward_inside : {a b : List ℕ} {o x e : ℕ} {g : Body} {r : Part} (at : ℕ) → at + 2 ≤ x → Inside a b o x e g r → Forward at r
forward_inside at h d = forward_in at h (d.is at)

pub forward_fails : (at : ℕ) (e : Refusal) → Forward at (Err e)
forward_fails at e = record { is = λ p t. cc }

-- a component that does not stand where it is due
module _ {s : List ℕ} {tag : ℕ} {need : Need} {end at : ℕ} where
  pub due_fails : {e : Refusal} → Dues s tag need end at (Err e) → (g : Body) (a : List ℕ) (o : ℕ) → Did a a o at end (component s tag need g end at) (Err e)
  due_fails u g a o = rw (u.is g) (fell refl)

  pub due_absent : {y : Option Header} → Dues s tag need end at (Ok y) → y ≡ None → (g : Body) (a : List ℕ) (o : ℕ) → at ≤ end → o ≤ 8 * at + 131072 → Did a a o at end (component s tag need g end at) (came at o)
  due_absent u t g a o h l = rw (u.is g, t) (did_none a o at end h l)

-- a component that stands where it is due
module _ {s : List ℕ} {tag : ℕ} {need : Need} {end at : ℕ} {y : Option Header} (u : Dues s tag need end at (Ok y)) {x : Header} (t : y ≡ Some x) where
  inside : (x.0 ≡ tag) × (at + 2 ≤ x.1) × (x.1 ≤ x.2) × (x.2 ≤ end)
  inside = u.inside x (rw t)

  pub due_tag : x.0 ≡ tag
  due_tag = inside.0

  pub due_low : at + 2 ≤ x.1
  due_low = inside.1

  pub due_mid : x.1 ≤ x.2
  due_mid = inside.2

  pub due_high : {n : ℕ} → end ≤ n → x.2 ≤ n
  due_high h = omega (arith, inside.3)

  pub due_room : {o : ℕ} → o ≤ 8 * at + 131072 → o ≤ 8 * x.1 + 131072
  due_room h = omega (arith, inside.1)

  pub due_element : {o : ℕ} → InContainer s end at o → InElement s at x.1 x.2 o
  due_element r = (inside.1, inside.2, omega (arith, inside.3), r.2, r.3)

  module _ (g : Body) {a b : List ℕ} {o : ℕ} {r : Part} where
    pub due_here : Did a b o at x.2 (g at x.1 x.2) r → Did a b o at end (component s tag need g end at) r
    due_here d = rw (u.is g, t) (did_widen d (omega arith) inside.3)

    pub due_from : Did a b o x.1 x.2 (g at x.1 x.2) r → Did a b o at end (component s tag need g end at) r
    due_from d = rw (u.is g, t) (did_widen d (omega (arith, inside.1)) inside.3)

    pub due_in : Inside a b o x.1 x.2 g r → Did a b o at end (component s tag need g end at) r
    due_in d = due_from (d.is at)

-- where a header's element lies
module _ (s : List ℕ) (end at : ℕ) {x : Header} (k : Ok x ≡ header s at end) where
  pub head_low : at + 2 ≤ x.1
  head_low = (header_in s at end (sym k)).0

  pub head_mid : x.1 ≤ x.2
  head_mid = (header_in s at end (sym k)).1

  pub head_high : {n : ℕ} → end ≤ n → x.2 ≤ n
  head_high l = omega (arith, (header_in s at end (sym k)).2)

  pub head_room : {o : ℕ} → o ≤ 8 * at + 131072 → o ≤ 8 * x.1 + 131072
  head_room l = omega (arith, (header_in s at end (sym k)).0)

  pub head_element : {o : ℕ} → InContainer s end at o → InElement s at x.1 x.2 o
  head_element r = let h = header_in s at end (sym k) in (h.0, h.1, omega (arith, h.2), r.2, r.3)

-- an element whatever its tag, by its header
module _ (s : List ℕ) (g : ℕ → Body) (end at : ℕ) where
  pub by_header : element s g end at ≡ whatever g at (header s at end)
  unfolding element header
  by_header = by_less at end (λ l. rw (lt-ltb at end l) refl) (λ l. rw (le-ltb at end l, le-leb end at l) refl)

  pub element_fails : {e : Refusal} → Err e ≡ header s at end → (a : List ℕ) (o : ℕ) → Did a a o at end (element s g end at) (Err e)
  element_fails k a o = rw (by_header, sym k) (fell refl)

  pub element_here : {x : Header} → Ok x ≡ header s at end → {a b : List ℕ} {o : ℕ} {r : Part} → Did a b o x.1 x.2 (g x.0 at x.1 x.2) r → Did a b o at end (element s g end at) r
  element_here k d = rw (by_header, sym k) (did_widen d (omega (arith, (header_in s at end (sym k)).0)) (header_in s at end (sym k)).2)
