-- The one dump that could have these records. Nothing is checked: what comes next is known by the next record's kind.
use Rattle.std.specs.Prelude.{ℕ, ◌-◌, ◌%◌, List, [], ◌∷◌, ◌++◌, length, take}
use Rattle.elements.specs.Record.{record_bytes}
use Rattle.rules.specs.declared.table.Class.{Class}
use Rattle.rules.specs.declared.table.ObjectType.{ObjectType}
use Rattle.rules.specs.Reading.{Rec}
use Rattle.rules.specs.Files.{Name, names_of}
pub use Rattle.rules.specs.Rendering.{Rendered, gives, Renderer, nothing, ◌next◌, within, r_lengthed, when, either, from, plain}
unfoldable pub use Rattle.rules.specs.Rendering.{unvalue, r_row, r_rows, r_keep, r_many, r_all, r_times, r_fill}
unfoldable pub use Rattle.rules.specs.Conditions.{r_condition_as}
use Rattle.rules.specs.Conditions as conditions
unfoldable pub use Rattle.rules.specs.Entries.{r_inside, r_entry_of, r_entry}
use Rattle.rules.specs.Entries as entries
use Rattle.rules.specs.Counted as counted
use Rattle.rules.specs.FileLayouts as filing
use Rattle.rules.specs.Layouts as layouts

abbrev pub r_path : Renderer
r_path = (layouts.path).render

abbrev pub r_condition : ℕ → Renderer
r_condition l = (conditions.condition l).render

abbrev pub r_rule : Renderer
r_rule = within 0x30 (layouts.rule).render

abbrev pub r_common : Renderer
r_common = (layouts.common).render

abbrev pub r_class : Class → Renderer
r_class c = (layouts.class c).render

abbrev pub r_private : Renderer
r_private = (layouts.private_key).render

abbrev pub r_certificate : Renderer
r_certificate = (layouts.certificate).render

abbrev pub r_password : Renderer
r_password = (layouts.password).render

abbrev pub r_type : ObjectType → Renderer
r_type x = (layouts.typed x).render

abbrev pub r_contents : ℕ → ℕ → Renderer
r_contents entry tag = (layouts.contents entry tag).render

abbrev pub r_cia : Renderer
r_cia = (layouts.cia).render

unfoldable pub r_object : Renderer
r_object = (entries.object 0).render

unfoldable pub r_objects : Renderer
r_objects = (counted.listed (entries.object 0)).render

unfoldable pub r_od : Renderer
r_od = (filing.od).render

unfoldable pub r_directory : Renderer
r_directory = (filing.directory 0).render

-- a record of a record file, and such a file
unfoldable pub r_record_in : Renderer
r_record_in = r_lengthed (filing.record_in 0).render

unfoldable pub r_linear : Renderer
r_linear = from (λ k p. r_all (0x011a ∷ []) r_record_in)

unfoldable pub framing : ℕ → List ℕ → List ℕ
framing kind b = record_bytes kind b

-- a file in its record, and one behind its path
abbrev pub r_framed : ℕ → Renderer → Renderer
r_framed kind q rs = let x = q rs in gives (framing kind x.bytes) x.left

abbrev pub r_named : ℕ → List ℕ → Renderer → Renderer
r_named kind path q rs = let x = q rs in gives (framing kind (length path % 256 ∷ (path ++ x.bytes))) x.left

-- transparent where 0118 comes next, else of records
unfoldable pub r_file : List ℕ → Renderer
r_file path = either (0x0118 ∷ []) (r_named 3 path r_directory) (r_named 4 path r_linear)

unfoldable pub r_directories : List Name → Renderer
r_directories [] = nothing
r_directories (n ∷ ns) = r_file n.path next r_directories ns

unfoldable pub r_dir : Renderer
r_dir = (filing.dir).render

-- the records of b before what is left of them
abbrev pub used : List Rec → List Rec → List Rec
used b l = take (length b - length l) b

unfoldable pub render : List Rec → List ℕ
render rs =
    let c = r_cia rs in
    let o = r_od c.left in
    let d = r_directories (names_of (used c.left o.left)) o.left in
    (when (0x0200 ∷ []) (r_framed 5 r_dir) d.left).bytes ++ (framing 1 c.bytes ++ (framing 2 o.bytes ++ d.bytes))
