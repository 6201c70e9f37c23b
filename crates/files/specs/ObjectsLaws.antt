-- Objects with their places: what the code does of them, one part after the other.
use Rattle.std.specs.Prelude.{ℕ, zero, suc, ◌+◌, ◌-◌, ◌*◌, ◌≤◌, ◌≡◌, refl, List, [], ◌∷◌, ◌++◌, length, get_or, eqb, ltb, Ok, Err}
use Rattle.std.proofs.Common.{sym, ◌∙◌, append-nil, arith}
use Rattle.std.specs.Result.{IsErr, IsErrAnd}
use Rattle.elements.specs.declared.fault.Fault.{Fault}
use Rattle.elements.specs.declared.answer.Refusal.{Refusal}
use Rattle.elements.specs.AnswerLaws.{leaves}
use Rattle.elements.specs.ChoiceLaws.{by_choose}
use Rattle.elements.specs.Put.{Put}
use Rattle.elements.specs.PutLaws.{put_none, put_then, put_length}
use Rattle.elements.specs.Record.{record_bytes}
use Rattle.objects.specs.declared.part.Cursor.{Cursor}
use Rattle.rules.specs.Reading.{Rec, rec, Res, took, fails, also, and_then}
use Rattle.rules.specs.Files.{filled, fill}
use Rattle.rules.specs.Book.{encode}
use Rattle.objects.specs.Did.{Many, Did, did, fell, Stays}
use Rattle.objects.specs.DidLaws.{encode_append, encode_one}
use Rattle.files.specs.Filing.{DidObjects, did_objects, fell_objects}

pub not_took : {f : Fault} {p n : ℕ} {bs : List Rec} {ms : List ℕ} → fails f p ≡ took bs ms n → ⊥
not_took z = let y : ◌≡◌ {A = ℕ} 0 1 = cc in omega arith

-- a part has no marks
pub record Plain (w : Res) : Type 0 where
  pub is : (bs : List Rec) (ms : List ℕ) (n : ℕ) → w ≡ took bs ms n → ms ≡ []

-- what a part was, by the code's answer
pub did_open : {a b : List ℕ} {o at end : ℕ} {p : Cursor} {w : Res} → Did a b o at end w (Ok p) → (bs : List Rec) × (ms : List ℕ) × (w ≡ took bs ms p.dump) × Put a b o p.book (encode bs)
did_open (did {bs = bs} {ms = ms} f _ _ _) = (bs, ms, refl, f)

-- a part without marks among objects
pub objects_fell : {a b : List ℕ} {o at end : ℕ} {w : Res} {e : Refusal} (u : List ℕ) (k : ℕ) → Did a b o at end w (Err e) → DidObjects a b u u o at end k w (Err e)
objects_fell u k (fell e) = fell_objects e refl

pub objects_did : {a b : List ℕ} {o at end : ℕ} {w : Res} {p : Cursor} (u : List ℕ) (k : ℕ) → Plain w → k ≤ 128 → Did a b o at end w (Ok p) → DidObjects a b u u o at end k w (Ok (p, k))
objects_did {a} {b} {o} {at} {end} {w} {p} u k g h d = go w g d
  where
    go : (w : Res) → Plain w → Did a b o at end w (Ok p) → DidObjects a b u u o at end k w (Ok (p, k))
    go (fails _ _) g x = elim x [ ]
    go (took bs ms _) g (did f i j l) = did_objects {ms = ms} {n = p.dump} {j = k} f (rw (g.is bs ms p.dump refl) (put_none u k)) i j l h

-- what a `?` hands on
pub objects_left : {a b u v : List ℕ} {o at end k : ℕ} {w : Res} {r : Many} {e : Refusal} → IsErr r × IsErrAnd r (λ y. y ≡ e) → DidObjects a b u v o at end k w (Err e) → DidObjects a b u v o at end k w r
objects_left h d = rw (leaves h) d

module _ {a b u v : List ℕ} {o at end k : ℕ} {w : Res} {r : Many} (d : DidObjects a b u v o at end k w r) where
  pub objects_same : length b ≡ length a
  objects_same = go d
    where
      go : {w : Res} {r : Many} → DidObjects a b u v o at end k w r → length b ≡ length a
      go (did_objects f _ _ _ _ _) = put_length f
      go (fell_objects e _) = e

  pub objects_kept : length v ≡ length u
  objects_kept = go d
    where
      go : {w : Res} {r : Many} → DidObjects a b u v o at end k w r → length v ≡ length u
      go (did_objects _ f _ _ _ _) = put_length f
      go (fell_objects _ e) = e

  pub objects_widen : {x y : ℕ} → x ≤ at → end ≤ y → DidObjects a b u v o x y k w r
  objects_widen {x} {y} h l = go d
    where
      go : {w : Res} {r : Many} → DidObjects a b u v o at end k w r → DidObjects a b u v o x y k w r
      go (did_objects {n = n} f g i j m c) = did_objects {n = n} f g (omega arith) (omega arith) m c
      go (fell_objects e f) = fell_objects e f

-- a refusal of the first part is the whole's
pub objects_fails : {a b u v : List ℕ} {o at end k : ℕ} {w : Res} {e : Refusal} → DidObjects a b u v o at end k w (Err e) → (g : ℕ → Res) → DidObjects a b u v o at end k (and_then w g) (Err e)
objects_fails (fell_objects x y) g = fell_objects x y

module _ {a b u v : List ℕ} {o at end k : ℕ} {w : Res} {p : Cursor} {j : ℕ} (d : DidObjects a b u v o at end k w (Ok (p, j))) where
  pub objects_low : at ≤ p.dump
  objects_low = go d
    where
      go : {w : Res} → DidObjects a b u v o at end k w (Ok (p, j)) → at ≤ p.dump
      go (did_objects _ _ i _ _ _) = i

  pub objects_high : p.dump ≤ end
  objects_high = go d
    where
      go : {w : Res} → DidObjects a b u v o at end k w (Ok (p, j)) → p.dump ≤ end
      go (did_objects _ _ _ i _ _) = i

  pub objects_small : p.book ≤ 8 * p.dump + 131072
  objects_small = go d
    where
      go : {w : Res} → DidObjects a b u v o at end k w (Ok (p, j)) → p.book ≤ 8 * p.dump + 131072
      go (did_objects _ _ _ _ i _) = i

  pub objects_few : j ≤ 128
  objects_few = go d
    where
      go : {w : Res} → DidObjects a b u v o at end k w (Ok (p, j)) → j ≤ 128
      go (did_objects _ _ _ _ _ i) = i

  pub objects_open : (bs : List Rec) × (ms : List ℕ) × (w ≡ took bs ms p.dump) × Put a b o p.book (encode bs) × Put u v k j ms
  objects_open = go d
    where
      go : {w : Res} → DidObjects a b u v o at end k w (Ok (p, j)) → (bs : List Rec) × (ms : List ℕ) × (w ≡ took bs ms p.dump) × Put a b o p.book (encode bs) × Put u v k j ms
      go (did_objects {bs = bs} {ms = ms} f g _ _ _ _) = (bs, ms, refl, f, g)

  -- and then a part without marks
  pub objects_then : (g : ℕ → Res) {c : List ℕ} {x : Cursor} → Plain (g p.dump) → Did b c p.book p.dump end (g p.dump) (Ok x) → DidObjects a c u v o at end k (and_then w g) (Ok (x, j))
  objects_then g {c} {x} pl e = go d (g p.dump) refl e
    where
      go : {w : Res} → DidObjects a b u v o at end k w (Ok (p, j)) → (h : Res) → g p.dump ≡ h → Did b c p.book p.dump end h (Ok x) → DidObjects a c u v o at end k (and_then w g) (Ok (x, j))
      go (did_objects f s i _ _ l) (fails _ _) eq y = elim y [ ]
      go (did_objects {bs = bs} {ms = ms} f s i _ _ l) (took cs ns _) eq (did f' i' j' k') =
          let nil : ns ≡ [] = pl.is cs ns x.dump eq in
          rw (eq, nil, append-nil ms) (did_objects {n = x.dump} (put_then f f' (sym (encode_append bs cs))) s (omega arith) j' k' l)

  pub objects_then_fell : (g : ℕ → Res) {c : List ℕ} {e : Refusal} → Did b c p.book p.dump end (g p.dump) (Err e) → DidObjects a c u v o at end k (and_then w g) (Err e)
  objects_then_fell g {c} {e} f = go d (g p.dump) refl f
    where
      go : {w : Res} → DidObjects a b u v o at end k w (Ok (p, j)) → (h : Res) → g p.dump ≡ h → Did b c p.book p.dump end h (Err e) → DidObjects a c u v o at end k (and_then w g) (Err e)
      go (did_objects f s i _ _ l) (took _ _ _) eq y = elim y [ ]
      go (did_objects {bs = bs} {ms = ms} f s i _ _ l) (fails _ _) eq (fell e') = rw eq (fell_objects (e' ∙ put_length f) (put_length s))

  -- and then a part that puts nothing
  pub objects_ends : (g : ℕ → Res) {x : Cursor} → Plain (g p.dump) → Stays p.book p.dump end (g p.dump) (Ok x) → DidObjects a b u v o at end k (and_then w g) (Ok (x, j))
  objects_ends g pl e = objects_then g pl (e.is b)

  pub objects_ends_fell : (g : ℕ → Res) {e : Refusal} → Stays p.book p.dump end (g p.dump) (Err e) → DidObjects a b u v o at end k (and_then w g) (Err e)
  objects_ends_fell g e = objects_then_fell g (e.is b)

-- a record in front
pub objects_front : {a b c u v : List ℕ} {o q x e k : ℕ} {w : Res} {r : Many} (kind : ℕ) (p : List ℕ) → Put a b o q (record_bytes kind p) → DidObjects b c u v q x e k w r → DidObjects a c u v o x e k (also (rec kind p ∷ []) [] w) r
objects_front kind p f (did_objects {bs = bs} {n = n} g s i j l m) = did_objects {n = n} (put_then f g (sym (encode_append (rec kind p ∷ []) bs ∙ rw (encode_one kind p) refl))) s i j l m
objects_front kind p f (fell_objects e g) = fell_objects (e ∙ put_length f) g

-- fill has no marks
pub plain_then : {w : Res} {g : ℕ → Res} → Plain w → ((n : ℕ) → Plain (g n)) → Plain (and_then w g)
plain_then {w} {g} h f = go w h
  where
    join : (bs : List Rec) (ms : List ℕ) (v : Res) → ms ≡ [] → Plain v → Plain (also bs ms v)
    join bs ms (took cs ns m) e p = record { is = λ ds ps n z. let y : ns ≡ [] = p.is cs ns m refl in sym (ap_marks z) ∙ rw (e, y) refl }
      where
        ap_marks : {ds : List Rec} {ps : List ℕ} {n : ℕ} → took (bs ++ cs) (ms ++ ns) m ≡ took ds ps n → ms ++ ns ≡ ps
        ap_marks z = cc
    join bs ms (fails x p) e q = record { is = λ ds ps n z. absurd (not_took z) }

    go : (w : Res) → Plain w → Plain (and_then w g)
    go (took bs ms n) p = join bs ms (g n) (p.is bs ms n refl) (f n)
    go (fails x p) q = record { is = λ ds ps n z. absurd (not_took z) }

filled_plain : (s : List ℕ) (b g end at : ℕ) → Plain (filled s b g end at)
unfolding filled
filled_plain s b zero end at = record { is = λ bs ms n z. cc }
filled_plain s b (suc g) end at = by_choose Plain (eqb (get_or s at 0) b) (λ _ _. filled_plain s b g end (at + 1)) (λ _ _. record { is = λ bs ms n z. absurd (not_took z) })

pub plain_fill : (s : List ℕ) (kind end at : ℕ) → Plain (fill s kind end at)
unfolding fill
plain_fill s kind end at = by_choose Plain (ltb at end) (λ _ _. plain_then (filled_plain s (get_or s at 0) (end - at) end at) (λ n. record { is = λ bs ms m z. cc })) (λ _ _. record { is = λ bs ms n z. cc })
