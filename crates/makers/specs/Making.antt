-- What the code does of the renderer, of the parts inside files.
use Rattle.std.specs.Prelude.{ℕ, ◌+◌, ◌≤◌, ◌<◌, ◌≡◌, Bool, false, List, [], ◌∷◌, ◌++◌, length, take, drop, Result, Ok, Err, true}
use Rattle.std.specs.Borrow.{MutBor}
use Rattle.std.proofs.Math.Seq.{slice}
use Rattle.elements.specs.Put.{Put}
use Rattle.elements.specs.Sealed.{among}
use Rattle.makers.specs.declared.made.Made.{Made}
use Rattle.makers.specs.declared.made.TooLong.{TooLong}
use Rattle.rules.specs.Reading.{Rec, rec}
use Rattle.rules.specs.Files.{two}
use Rattle.rules.specs.Book.{records_from, Ends}
use Rattle.rules.specs.Render.{Rendered, gives, Renderer}

-- what a maker answers: how far it has come, or that this is too long for a dump
abbrev pub Answer : Type 0
Answer = Result Made TooLong

-- from i to n record by record
pub data Walk (b : List ℕ) : ℕ → ℕ → List Rec → Type 0 where
  there : {n : ℕ} → Walk b n n []
  onto : {i e n : ℕ} {rs : List Rec} → Ends b i e → Walk b e n rs → Walk b i n (rec (two b (i + 2)) (slice (i + 4) e b) ∷ rs)

-- n is reached from i record by record
pub record Steps (b : List ℕ) (i n : ℕ) : Type 0 where
  pub taken : List Rec
  pub walk : Walk b i n taken
  pub is : records_from b i ≡ taken ++ records_from b n
  pub low : i ≤ n
  pub high : n ≤ length b

-- the code's answer is the definition's: its bytes are put from o on into the lent slice, which was a and is c, and fit;
-- the records that are left are those from the answer's place on; or they do not fit
pub data Makes (b a c : List ℕ) (i o : ℕ) : Rendered → Answer → Type 0 where
  makes : {w : Rendered} {x : Made} → w.left ≡ records_from b x.next → Put a c o x.end w.bytes → Steps b i x.next → x.end ≤ length a → Makes b a c i o w (Ok x)
  breaks : {w : Rendered} {x : TooLong} → length a < o + length w.bytes → length c ≡ length a → Makes b a c i o w (Err x)

-- what a part asks of its places
abbrev pub Making : List ℕ → ℕ → List ℕ → ℕ → Type 0
Making b i a o = (i ≤ length b) × (length b ≤ 131072) × (o ≤ length a) × (length a ≤ 32768)

-- a part takes at least one record
pub record Onward (b : List ℕ) (i : ℕ) (r : Answer) : Type 0 where
  pub is : (x : Made) → r ≡ Ok x → length (records_from b x.next) < length (records_from b i)

-- the next record is of one of these kinds
abbrev pub next_among : List ℕ → List Rec → Bool
next_among ks [] = false
next_among ks (r ∷ rs) = among r.kind ks

-- what stands from `from` to `to` in c stands `by` places further in d
pub record Moved (c d : List ℕ) (from to by : ℕ) : Type 0 where
  pub is : d ≡ take (from + by) c ++ slice from to c ++ drop (to + by) c

-- contents with k bytes in front of them, from o on, start at r: behind these bytes, or at the end where there is no room
pub data Opened (len o k : ℕ) : ℕ → Type 0 where
  begins : Opened len o k (o + k)
  lacks : len < o + k → Opened len o k len

-- what was made ends inside
pub record Ended (len : ℕ) (m : Answer) : Type 0 where
  pub is : (x : Made) → m ≡ Ok x → x.end ≤ len

-- c holds contents m, with room for k bytes in front of them from o on; s is f of them, made from o on into d
pub record Closed (c d : List ℕ) (o k : ℕ) (f : List ℕ → List ℕ) (m s : Answer) : Type 0 where
  pub is : (b a : List ℕ) (i r : ℕ) (w : Rendered) → Opened (length a) o k r → Makes b a c i r w m → Makes b a d i o (gives (f w.bytes) w.left) s

-- what a maker of contents asks of a call, and what it may have answered there
abbrev pub Asks : Type 1
Asks = Made → MutBor (List ℕ) → Type 0

abbrev pub Gives : Type 1
Gives = Made → MutBor (List ℕ) → Answer → MutBor (List ℕ) → Type 0

-- it makes contents from any place in a slice of this length
abbrev pub MayMake : Asks → ℕ → ℕ → Type 0
MayMake asks next len = (x : Made) (out : MutBor (List ℕ)) → x.next ≡ next → x.end ≤ len → length out.now ≡ len → asks x out

-- and ends inside
abbrev pub EndsInside : Gives → Type 0
EndsInside gave = (x : Made) (out : MutBor (List ℕ)) (r : Answer) (out' : MutBor (List ℕ)) → gave x out r out' → Ended (length out'.now) r

-- and makes what q is
abbrev pub MakesIn : Gives → List ℕ → Renderer → Type 0
MakesIn gave b q = (x : Made) (out : MutBor (List ℕ)) (r : Answer) (out' : MutBor (List ℕ)) → gave x out r out' → Makes b out.now out'.now x.next x.end (q (records_from b x.next)) r

-- r is f of what it has made, from o on, of a slice that was a and is d: it began with k bytes free in front
abbrev pub Enclosed : Gives → List ℕ → List ℕ → ℕ → ℕ → ℕ → (List ℕ → List ℕ) → Answer → Type 0
Enclosed gave a d next o k f r = (x : Made) × (out : MutBor (List ℕ)) × (m : Answer) × (out' : MutBor (List ℕ)) × gave x out m out' × (out.now ≡ a) × (x.next ≡ next) × Opened (length a) o k x.end × Closed out'.now d o k f m r

-- it makes a part from any place in a slice of this length where the next record is of one of these kinds
abbrev pub MayMakeEach : Asks → List ℕ → List ℕ → ℕ → Type 0
MayMakeEach asks ks b len = (x : Made) (out : MutBor (List ℕ)) → true ≡ next_among ks (records_from b x.next) → x.next + 4 ≤ length b → Making b x.next out.now x.end → length out.now ≡ len → asks x out

-- there it makes what q is, and takes at least one record
abbrev pub MakesEach : Gives → List ℕ → List ℕ → Renderer → Type 0
MakesEach gave ks b q = (x : Made) (out : MutBor (List ℕ)) (r : Answer) (out' : MutBor (List ℕ)) → true ≡ next_among ks (records_from b x.next) → gave x out r out' → Makes b out.now out'.now x.next x.end (q (records_from b x.next)) r × Onward b x.next r
