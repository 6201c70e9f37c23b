-- The files in turn.
use Prim.Native.Nat.{ℕ, ◌+◌, ◌-◌, ◌*◌, ◌^◌, ◌<◌, ◌≤◌}
use mathlib.Core.Path.{◌≡◌, refl, sym, ap, ◌∙◌}
use mathlib.Core.List.{List, [], ◌∷◌, ◌++◌, append-nil}
use native.Mathlib.Omega.{arith}
use lib.ListN.{length, get_or}
use Rattle.elements.specs.Put.{Put}
use Rattle.elements.specs.PutLaws.{put_none, put_put, put_then}
use Rattle.rules.specs.Reading.{Rec, Res, took, fails, also}
use Rattle.rules.specs.Parts.{counted}
use Rattle.rules.specs.Files.{Name, File, framed, files, frames, named_frame, names_of, two, file_of, directories}
use Rattle.cards.specs.Fits.{Sorted}
use Rattle.rules.specs.Book.{encode}
use Rattle.files.specs.Filing.{DidObjects, fell_objects}
use Rattle.files.specs.Scan.{Lies, Holds, NextName, last, found, NameTold}
use Rattle.reader.specs.Frame.{framed_as, Path, Framed, framed_at}
use Rattle.reader.specs.Linear.{by_kind}
use Rattle.reader.specs.Twelve.{Sound}
use Rattle.reader.specs.Directories.{did_files, fell_files, FilesTold}
use Rattle.objects.specs.DidLaws.{encode_append}
use Rattle.objects.specs.ComponentsLaws.{also_none, also_also}
use Rattle.files.specs.ObjectsLaws.{objects_open, objects_small, objects_high, objects_few, objects_same, objects_kept}
use Rattle.files.specs.LiesLaws.{lie_same, put_lies}
use Rattle.reader.proofs.FrameLaws.{chain_more, chain_end, is_framed}
use Rattle.reader.proofs.TwelveLaws.{chain_same}
use Rattle.objects.specs.Did.{Many, came_with}
use Rattle.elements.specs.declared.answer.Refusal.{Refusal}
use Rattle.std.specs.Prelude.{Some, None, Ok, Err}

counted_took : (w : Res) (g : ℕ → ℕ → Res) {bs : List Rec} {ms : List ℕ} {n : ℕ} → w ≡ took bs ms n → counted w g ≡ also bs ms (g (length ms) n)
counted_took w g e = rw e refl

-- one file more
one_file : (s : List ℕ) (ns names : List Name) (nm : Name) (rest fs : List File) (f : File) (z c t k a e : ℕ) → ns ≡ nm ∷ names → rest ≡ f ∷ fs → nm.tag ≡ t → f.kind ≡ k → f.start ≡ a → f.stop ≡ e →
    directories s ns rest z c ≡ counted (by_kind s k z t c e a) (λ y _. directories s names fs (z + 1) (c + y))
unfolding directories file_of
one_file s ns names nm rest fs f z c t k a e x y i w u v = rw (x, y, ← i, ← w, ← u, ← v) refl

-- the names from the record at l on, and the files from n on, are still to come; before them ds and ns were put
pub record Turning (s : List ℕ) (at : ℕ) (a b u v : List ℕ) (i end o k l n p c z : ℕ) : Type 0 where
  pub now : List Rec
  pub lies : Lies b l end now
  pub rest : List File
  pub turns : ℕ
  pub chain : frames s turns n ≡ files rest
  pub ds : List Rec
  pub ns : List ℕ
  pub put : Put a b o p (encode ds)
  pub marks : Put u v k c ns
  pub whole : (rs : List Rec) (fs : List File) (g : ℕ) → Lies a i end rs → frames s g at ≡ files fs → also ds ns (directories s (names_of now) rest z c) ≡ directories s (names_of rs) fs 1 k
  pub high : n ≤ length s
  pub room : p ≤ 8 * n + 131072
  pub behind : end ≤ p
  pub few : c ≤ 128
  -- a file has a byte
  pub number : z ≤ n + 1
  pub same : length b ≡ length a
  pub kept : length v ≡ length u

pub turning_start : (s : List ℕ) (at : ℕ) (a u : List ℕ) (i end o k : ℕ) → Holds a i end → Sound s at → at ≤ length s → k ≤ 128 → end ≤ o → o ≤ 8 * at + 131072 → Turning s at a a u u i end o k i at o k 1
unfolding encode
turning_start s at a u i end o k h w l m n q = record {
  now = h.rs;
  lies = h.lies;
  rest = w.fs;
  turns = w.turns;
  chain = w.are;
  ds = [];
  ns = [];
  put = put_none a o;
  marks = put_none u k;
  whole = λ rs fs g x y. rw (lie_same x h.lies, chain_same s fs w.fs g w.turns at y w.are) (also_none (directories s (names_of h.rs) w.fs 1 k));
  high = l;
  room = q;
  behind = n;
  few = m;
  number = omega arith;
  same = refl;
  kept = refl;
}

module _ {s : List ℕ} {at : ℕ} {a b u v : List ℕ} {i end o k l n p c z : ℕ} (h : Turning s at a b u v i end o k l n p c z) where
  stopped : directories s (names_of h.now) h.rest z c ≡ took [] [] 0 → FilesTold s at a b u v i end o k (Ok (p, c))
  stopped e = record { is = λ rs fs g x y. rw (sym (h.whole rs fs g x y), e, append-nil h.ds, append-nil h.ns) (did_files h.put h.marks h.few) }

  pub turning_holds : Holds b l end
  turning_holds = record { rs = h.now; lies = h.lies }

  -- no name is left
  pub turning_all : NameTold b l end None → FilesTold s at a b u v i end o k (Ok (p, c))
  unfolding directories
  turning_all t = go (t.is h.now h.lies)
    where
      go : NextName b end h.now None → FilesTold s at a b u v i end o k (Ok (p, c))
      go (last q) = stopped (rw q refl)

  -- a number of two bytes
  pub turning_number : length s ≤ 32768 → n < length s → z + 1 < 2 ^ 16
  turning_number m l = omega (arith, h.number, h.high)

  module _ {j : ℕ} (t : NameTold b l end (Some j)) where
    -- no file is left
    pub turning_short : length s ≤ n → FilesTold s at a b u v i end o k (Ok (p, c))
    unfolding directories
    turning_short m = go (t.is h.now h.lies)
      where
        go : NextName b end h.now (Some j) → FilesTold s at a b u v i end o k (Ok (p, c))
        go (found nm left q _ _ _ _ _) = stopped (rw (q, chain_end s h.turns n h.rest m h.chain) refl)

    -- where the name's record ends
    six : 6 ≤ 2 + two b j
    six = go (t.is h.now h.lies)
      where
        go : NextName b end h.now (Some j) → 6 ≤ 2 + two b j
        go (found nm left q _ _ _ w x) = w

    pub turning_end : j + 2 + two b j ≤ end
    turning_end = go (t.is h.now h.lies)
      where
        go : NextName b end h.now (Some j) → j + 2 + two b j ≤ end
        go (found nm left q _ _ _ w x) = x.low

    pub turning_word : j + 2 ≤ length b
    turning_word = omega (arith, turning_end, h.lies.high)

    pub turning_tag : j + 4 < length b
    turning_tag = omega (arith, turning_end, six, h.lies.high)

    pub turning_step : {l' : ℕ} → l' ≡ two b j → length s ≤ 32768 → j + 2 + l' < 2 ^ 64
    turning_step z' m = omega (arith, turning_end, h.behind, h.room, h.high)

    module _ (m : n < length s) {r : Framed} (e : named_frame s n ≡ framed_as n r) where
      pub turning_sound : {x : Refusal} → r ≡ Err x → ⊥
      turning_sound {x} q' =
          let w = chain_more s h.turns n h.rest m h.chain in
          let y : framed w.0 ≡ framed_as n r = sym w.4 ∙ e in
          let q : framed w.0 ≡ framed_as n (Err x) = rw q' at y in
          let t : ◌≡◌ {A = ℕ} 0 1 = cc in omega arith

      -- the file's kind, and its records if it is of records
      pub turning_sorted : {g' x a' e' : ℕ} → r ≡ framed_at g' x a' e' → Sorted s g' e' a'
      turning_sorted {g'} {x} {a'} {e'} q' =
          let f = chain_more s h.turns n h.rest m h.chain in
          let i = is_framed n r f.0 (sym f.4 ∙ e) q' in
          rw (i.0, i.2, i.3) at f.6

      module _ {g' x a' e' : ℕ} (q' : r ≡ framed_at g' x a' e') {b' v' : List ℕ} {w : Many} (d : DidObjects b b' v v' p a' e' c (by_kind s g' z (get_or b (j + 4) 0) c e' a') w) where
        -- what is to be done now
        pub record Stepped : Type 0 where
          pub left : List Rec
          pub after : List File
          pub fuel : ℕ
          pub is : directories s (names_of h.now) h.rest z c ≡ counted (by_kind s g' z (get_or b (j + 4) 0) c e' a') (λ y _. directories s (names_of left) after (z + 1) (c + y))
          pub goes : frames s fuel e' ≡ files after
          pub lies : Lies b (j + 2 + two b j) end left

        stepped : Stepped
        stepped = go (t.is h.now h.lies)
          where
            go : NextName b end h.now (Some j) → Stepped
            go (found nm left q _ t _ _ y) =
                let f = chain_more s h.turns n h.rest m h.chain in
                let i = is_framed n r f.0 (sym f.4 ∙ e) q' in
                record { left = left; after = f.1; fuel = f.2; is = one_file s (names_of h.now) (names_of left) nm h.rest f.1 f.0 z c (get_or b (j + 4) 0) g' a' e' q f.3 t i.0 i.2 i.3; goes = rw i.3 at f.5; lies = y }

        pub turning_fell : {x : Refusal} → w ≡ Err x → FilesTold s at a b' u v' i end o k (Err x)
        turning_fell {x} q =
            let t = stepped in
            record { is = λ rs fs g x' g'. rw (sym (h.whole rs fs g x' g'), t.is, failed (λ y _. directories s (names_of t.left) t.after (z + 1) (c + y)) (rw q at d)) (fell_files (objects_same d ∙ h.same) (objects_kept d ∙ h.kept)) }
          where
            failed : (g : ℕ → ℕ → Res) {t : Res} → DidObjects b b' v v' p a' e' c t (Err x) → counted t g ≡ fails x.0 x.1
            failed g (fell_objects _ _) = refl

        -- the file was read
        module _ {y q c' : ℕ} (g : w ≡ came_with y q c') (hi : e' ≤ length s) (lo : n < e') where
          pub turning_again : {l' : ℕ} → l' ≡ two b j → Turning s at a b' u v' i end o k (j + 2 + l') e' q c' (z + 1)
          turning_again {l'} z' =
              let t = stepped in
              let x' = objects_open (rw g at d) in
              let cnt : c + length x'.1 ≡ c' = sym x'.4.at in
              record {
                now = t.left;
                lies = rw z' (put_lies x'.3 h.behind t.lies);
                rest = t.after;
                turns = t.fuel;
                chain = t.goes;
                ds = h.ds ++ x'.0;
                ns = h.ns ++ x'.1;
                put = put_then h.put x'.3 (sym (encode_append h.ds x'.0));
                marks = put_put h.marks x'.4;
                whole = λ rs fs l' m' n'.
                    let one : directories s (names_of h.now) h.rest z c ≡ also x'.0 x'.1 (directories s (names_of t.left) t.after (z + 1) c') = t.is ∙ counted_took (by_kind s g' z (get_or b (j + 4) 0) c e' a') (λ y _. directories s (names_of t.left) t.after (z + 1) (c + y)) x'.2 ∙ ap (λ (y : ℕ). also x'.0 x'.1 (directories s (names_of t.left) t.after (z + 1) y)) cnt in
                    sym (also_also h.ds x'.0 h.ns x'.1 (directories s (names_of t.left) t.after (z + 1) c')) ∙ ap (also h.ds h.ns) (sym one) ∙ h.whole rs fs l' m' n';
                high = hi;
                room = omega (arith, objects_small (rw g at d), objects_high (rw g at d));
                behind = omega (arith, h.behind, x'.3.at);
                few = objects_few (rw g at d);
                number = omega (arith, h.number);
                same = objects_same d ∙ h.same;
                kept = objects_kept d ∙ h.kept;
              }

-- where a file lies
module _ {s : List ℕ} {n : ℕ} {r : Framed} (h : Path s n r) {k x a e : ℕ} (z : r ≡ framed_at k x a e) where
  pub file_mid : a ≤ e
  file_mid = (h.is k x a e z).2

  pub file_high : e ≤ length s
  file_high = (h.is k x a e z).3

  pub file_room : {p : ℕ} → p ≤ 8 * n + 131072 → p + 4 ≤ 8 * a + 131072
  file_room l = omega (arith, h.is k x a e z)

  pub file_place : {p : ℕ} → p ≤ 8 * n + 131072 → p ≤ 8 * a + 131072
  file_place l = omega (arith, h.is k x a e z)

  pub file_low : n < e
  file_low = omega (arith, h.is k x a e z)

  pub file_less : n < length s → length s - e < length s - n
  file_less l = omega (arith, h.is k x a e z)
