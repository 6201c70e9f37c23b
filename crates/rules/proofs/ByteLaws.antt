-- Whatever the book, its candidate dump is bytes.
use Rattle.std.specs.Prelude.{ℕ, zero, suc, ◌+◌, ◌-◌, ◌*◌, ◌%◌, List, [], ◌∷◌, ◌++◌, length, take, drop}
use Rattle.std.proofs.Common.{arith}
use Rattle.elements.specs.ChoiceLaws.{by_choose}
use Rattle.rules.specs.Reading.{Rec}
use Rattle.elements.specs.Record.{record_bytes}
use Rattle.elements.specs.Lists.{Bytes}
use Rattle.rules.specs.Book.{laid, records_of, records}
use Rattle.rules.specs.Files.{Name, names_path, names_of}
use Rattle.rules.specs.Render.{Renderer, r_cia, r_od, r_directory, r_record_in, r_linear, framing, r_framed, r_named, r_file, r_directories, r_dir, when, used, render}
use Rattle.rules.proofs.SoundLayouts.{cia_sound, cia_fine}
use Rattle.rules.proofs.SoundFiles.{od_sound, od_fine, directory_sound, directory_fine, record_sound, record_fine, dir_sound, dir_fine}
use Rattle.rules.specs.Bytewise.{AllB, Outs, out, PayB, b_append, b_drop, b_get, nothing_b, next_b, when_b, lengthed_b, either_b, from_b, all_b}

cia_b : Outs r_cia
cia_b = (cia_sound.lawful cia_fine).clean

od_b : Outs r_od
unfolding r_od
od_b = (od_sound.lawful od_fine).clean

directory_b : Outs r_directory
unfolding r_directory
directory_b = ((directory_sound 0).lawful (directory_fine 0)).clean

record_b : Outs r_record_in
unfolding r_record_in
record_b = lengthed_b ((record_sound 0).lawful (record_fine 0)).clean

linear_b : Outs r_linear
unfolding r_linear
linear_b = from_b (λ k p a. all_b (0x011a ∷ []) record_b)

framing_b : (kind : ℕ) (b : List ℕ) → AllB b → AllB (framing kind b)
unfolding framing record_bytes
framing_b kind b h = (omega arith, (omega arith, (omega arith, (omega arith, h))))

-- the paths of a book
abbrev NamesB : List Name → Type 0
NamesB [] = Unit {0}
NamesB (n ∷ ns) = AllB n.path × NamesB ns

names_b : (rs : List Rec) → PayB rs → NamesB (names_of rs)
unfolding names_of
names_b [] h = tt
names_b (r ∷ rs) h = by_choose NamesB (names_path r.kind r.pay) (λ _ _. (b_drop 2 r.pay h.0, names_b rs h.1)) (λ _ _. names_b rs h.1)

named_b : (kind : ℕ) (path : List ℕ) {q : Renderer} → AllB path → Outs q → Outs (r_named kind path q)
named_b kind path {q} h g rs a = let x = g rs a in out (framing_b kind (length path % 256 ∷ (path ++ (q rs).bytes)) (omega arith, b_append path (q rs).bytes h x.bytes)) x.left

file_b : (path : List ℕ) → AllB path → Outs (r_file path)
unfolding r_file
file_b path h = either_b (0x0118 ∷ []) (named_b 3 path h directory_b) (named_b 4 path h linear_b)

directories_b : (ns : List Name) → NamesB ns → Outs (r_directories ns)
unfolding r_directories
directories_b [] h = nothing_b
directories_b (n ∷ ns) h = next_b (file_b n.path h.0) (directories_b ns h.1)

dir_b : Outs r_dir
unfolding r_dir
dir_b = (dir_sound.lawful dir_fine).clean

-- a file in its record
framed_b : (kind : ℕ) {q : Renderer} → Outs q → Outs (r_framed kind q)
framed_b kind {q} f rs h = let x = f rs h in out (framing_b kind (q rs).bytes x.bytes) x.left

pay_take : (n : ℕ) (rs : List Rec) → PayB rs → PayB (take n rs)
pay_take zero rs h = tt
pay_take (suc n) [] h = tt
pay_take (suc n) (r ∷ rs) h = (h.0, pay_take n rs h.1)

render_b : (rs : List Rec) → PayB rs → AllB (render rs)
unfolding render
render_b rs h =
    let c = cia_b rs h in
    let o = od_b (r_cia rs).left c.left in
    let ns = names_of (used (r_cia rs).left (r_od (r_cia rs).left).left) in
    let n = names_b (used (r_cia rs).left (r_od (r_cia rs).left).left) (pay_take (length (r_cia rs).left - length (r_od (r_cia rs).left).left) (r_cia rs).left c.left) in
    let d = directories_b ns n (r_od (r_cia rs).left).left o.left in
    let x = when_b (0x0200 ∷ []) (framed_b 5 dir_b) (r_directories ns (r_od (r_cia rs).left).left).left d.left in
    b_append (when (0x0200 ∷ []) (r_framed 5 r_dir) (r_directories ns (r_od (r_cia rs).left).left).left).bytes (framing 1 (r_cia rs).bytes ++ (framing 2 (r_od (r_cia rs).left).bytes ++ (r_directories ns (r_od (r_cia rs).left).left).bytes)) x.bytes
    (b_append (framing 1 (r_cia rs).bytes) (framing 2 (r_od (r_cia rs).left).bytes ++ (r_directories ns (r_od (r_cia rs).left).left).bytes)
    (framing_b 1 (r_cia rs).bytes c.bytes)
    (b_append (framing 2 (r_od (r_cia rs).left).bytes) (r_directories ns (r_od (r_cia rs).left).left).bytes
    (framing_b 2 (r_od (r_cia rs).left).bytes o.bytes)
    d.bytes))

-- the records of bytes have bytes
b_take : (n : ℕ) (l : List ℕ) → AllB l → AllB (take n l)
b_take zero l h = tt
b_take (suc n) [] h = tt
b_take (suc n) (x ∷ l) h = (h.0, b_take n l h.1)

b_from : (b : List ℕ) → Bytes b → AllB b
b_from [] h = tt
b_from (x ∷ b) h = (h 0, b_from b (λ i. h (suc i)))

laid_b : (f : List ℕ → List Rec) → ((l : List ℕ) → AllB l → PayB (f l)) → (b : List ℕ) → AllB b → PayB (laid f b)
laid_b f g [] h = tt
laid_b f g (x ∷ []) h = tt
laid_b f g (x ∷ y ∷ []) h = tt
laid_b f g (x ∷ y ∷ z ∷ []) h = tt
laid_b f g (x ∷ y ∷ z ∷ w ∷ l) h = (b_take (x + 256 * y - 2) l h.1.1.1.1, g (drop (x + 256 * y - 2) l) (b_drop (x + 256 * y - 2) l h.1.1.1.1))

records_b : (g : ℕ) (b : List ℕ) → AllB b → PayB (records_of g b)
unfolding records_of
records_b zero b h = tt
records_b (suc g) b h = laid_b (λ m. records_of g m) (λ l. records_b g l) b h

-- the candidate dump of a book of bytes is bytes
pub candidate_bytes : (b : List ℕ) → Bytes b → Bytes (render (records b))
unfolding records
candidate_bytes b h i = b_get (render (records b)) i (render_b (records b) (records_b (length b) b (b_from b h)))
