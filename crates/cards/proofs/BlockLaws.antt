-- The records of a card are blocks of its objects.
use Rattle.std.specs.Prelude.{ℕ, ◌+◌, List, [], ◌∷◌, ◌++◌, not, ◌&&◌, ◌≡◌, refl, length, get_or, eqb, T}
use Rattle.std.proofs.Common.{append_assoc, append-nil, inl, inr, subst}
use Rattle.std.proofs.Math.Option.{none, some}
use Rattle.elements.specs.Put.{le16}
use Rattle.rules.specs.Reading.{Rec, rec}
use Rattle.rules.specs.Grammar.{Where, opening, origin, ◌on◌, each, ◌and◌, one, many, fill}
use Rattle.rules.specs.Files.{Name}
use Rattle.rules.specs.Blocks.{closing, every, every_kind, inner, contents_inner}
use Rattle.rules.specs.Kinds.{Among, none_there, there}
use Rattle.rules.specs.Layouts as layouts
use Rattle.rules.specs.FileLayouts as filing
use Rattle.rules.specs.Entries as entries
use Rattle.cards.specs.Card as card
use Rattle.cards.specs.Card.{Card, Object, records_of, front, behind, objects_of}
use Rattle.cards.specs.Blocks.{Blocks, nothing, other, whole}

-- its 0120 begins an object's records, tells its entry, and no other closes it
pub records_are : (o : Object) → records_of o ≡ rec 0x0120 (front o) ∷ behind o
unfolding entries.object front behind
records_are (entry, (tag, contents), v) = refl

pub front_entry : (o : Object) → get_or (front o) 0 0 ≡ o.0
unfolding entries.object front
front_entry (entry, (tag, contents), v) = refl

pub behind_inner : (o : Object) → T (inner (behind o))
unfolding entries.object behind
behind_inner (entry, (tag, contents), v) = contents_inner entry tag _ contents

append : {os ps : List Object} {rs ss : List Rec} → Blocks os rs → Blocks ps ss → Blocks (os ++ ps) (rs ++ ss)
append nothing b = b
append (other kind p h a) b = other kind p h (append a b)
append (whole {rs = rs} o a) b = rw append_assoc (whole o (append a b))

object_block : (o : Object) → Blocks (o ∷ []) (records_of o)
object_block o = rw (records_are o, ← append-nil (behind o)) (whole o nothing)

objects_blocks : (t : ℕ) (v : Where) (os : List (entries.object t).part.Of) → Blocks (card.under t v os) ((many (entries.object t).part).book v os)
objects_blocks t v [] = nothing
objects_blocks t v (o ∷ os) = append (object_block (t, o, v)) (objects_blocks t (v on length ((entries.object t).part.bytes o)) os)

filled : {os : List Object} {rs : List Rec} → Blocks os rs → (v : Where) (x : (fill 0x0107).Of) → Blocks os (rs ++ (fill 0x0107).book v x)
filled {os} {rs} b v none = rw (append-nil rs) b
filled {os} {rs} b v (some (x, n)) = subst (λ ps. Blocks ps (rs ++ rec 0x0107 (x ∷ le16 n) ∷ [])) (append-nil os) (append b (other 0x0107 (x ∷ le16 n) tt nothing))

entry_blocks : (v : Where) (x : (entries.item).Of) → Blocks (card.in_entry v x) ((entries.item).book v x)
entry_blocks v (inl (t, inl path)) = other 0x0110 (t ∷ 0 ∷ path) tt nothing
entry_blocks v (inl (t, inr objects)) = other 0x0110 (t ∷ 1 ∷ []) tt (objects_blocks t _ objects)
entry_blocks v (inr unknown) = other 0x0110 _ tt nothing

entries_blocks : (v : Where) (xs : List (entries.item).Of) → Blocks (each (one entries.item).bytes card.in_entry v xs) ((many (one entries.item)).book v xs)
entries_blocks v [] = nothing
entries_blocks v (x ∷ xs) = append (entry_blocks v x) (entries_blocks (v on length ((one entries.item).bytes x)) xs)

directory_blocks : (t : ℕ) (v : Where) (x : (card.directory t).Of) → Blocks (card.under t v x.0) ((many (entries.object t).part and fill 0x0107).book v x)
directory_blocks t v (objects, filling) = filled (objects_blocks t v objects) v filling

records_blocks : (t : ℕ) (v : Where) (rs : (card.linear t).Of) → Blocks (card.in_records t v rs) ((many (card.record_in t)).book v rs)
records_blocks t v [] = nothing
records_blocks t v (r ∷ rs) = append (other 0x011a [] tt (directory_blocks t (v on 2) r)) (records_blocks t (v on length ((card.record_in t).bytes r)) rs)

file_blocks : (n : ℕ) (m : Name) (v : Where) (x : (card.file n m).Of) → Blocks (card.in_file m.tag (opening n 0) x) ((card.file n m).book v x)
file_blocks n m v (inl x) = other 0x0118 [] tt (directory_blocks m.tag (opening n 0) x)
file_blocks n m v (inr rs) = other 0x0119 [] tt (records_blocks m.tag _ rs)

files_blocks : (n : ℕ) (ms : List Name) (v : Where) (x : (card.files n ms).Of) → Blocks (card.in_files n ms x) ((card.files n ms).book v x)
unfolding card.files card.in_files
files_blocks n [] v x = nothing
files_blocks n (m ∷ ms) v (f, x) = append (file_blocks n m v f) (files_blocks (n + 1) ms _ x)

-- records that close an object and are no object's own
among_blocks : (ks : List ℕ) → T (every (λ k. closing k && not (eqb k 0x0120)) ks) → {rs : List Rec} → Among ks rs → Blocks [] rs
among_blocks ks t none_there = nothing
among_blocks ks t (there {r = r} h g) = other r.kind r.pay (every_kind (λ k. closing k && not (eqb k 0x0120)) r.kind ks t h) (among_blocks ks t g)

-- EF.DIR's are such
pub dir_blocks : (v : Where) (x : (card.ef_dir).Of) → Blocks [] ((card.ef_dir).book v x)
unfolding layouts.template layouts.discretionary layouts.path_from
dir_blocks v none = nothing
dir_blocks v (some x) = among_blocks filing.dir_kinds tt (filing.dir_only _ x)

-- the records of EF.OD and of the files
abbrev pub main_book : Card → List Rec
main_book c = (card.od).book origin c.main ++ (card.files 1 (card.names_of c.main)).book origin c.dirs

-- they are blocks of the card's objects, in turn; and so they are with EF.DIR's behind them
pub card_blocks : (c : Card) → Blocks (objects_of c) (main_book c ++ (card.ef_dir).book origin c.dir)
card_blocks c = subst (λ os. Blocks os (main_book c ++ (card.ef_dir).book origin c.dir)) (append-nil (objects_of c))
    (append (append (filled (entries_blocks origin c.main.0) origin c.main.1) (files_blocks 1 (card.names_of c.main) origin c.dirs)) (dir_blocks origin c.dir))
