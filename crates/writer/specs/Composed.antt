-- Parts of EF.DIR and of the whole dump that a function of the code makes, one after the other, as Layouts has them.
use Rattle.std.specs.Prelude.{ℕ, List, [], ◌∷◌}
use Rattle.rules.specs.declared.table.Sequence.TheVariants.{OdfPath, InfoPath}
use Rattle.rules.specs.Files.{names_of}
use Rattle.rules.specs.Tables.{template_rows, discretionary_rows}
use Rattle.rules.specs.Render.{Renderer, ◌next◌, within, when, either, from, plain, r_rows, r_keep, r_all, r_cia, r_od, r_directories, r_framed, used}
use Rattle.rules.specs.Layouts as layouts
use Rattle.makers.specs.Composed.{due_path}

-- providerId and both Paths
abbrev pub both_paths : Renderer
both_paths = r_keep 0x0206 next due_path OdfPath 0x30 next due_path InfoPath 0xa0

-- then aid and the SET
abbrev pub with_set : Renderer
with_set = both_paths next r_rows discretionary_rows next r_keep 0x020e

-- 73's contents
abbrev pub r_discretionary : Renderer
r_discretionary = (layouts.discretionary).render

-- "73?", behind its record
abbrev pub due_discretionary : Renderer
due_discretionary = when (0x0205 ∷ []) (within 0x73 (from (λ k p. r_discretionary)))

-- what stands in a template behind its record
abbrev pub inside_template : Renderer
inside_template = r_rows template_rows next due_discretionary next r_keep 0x0210

-- the contents of its 61
abbrev pub r_template : Renderer
r_template = (layouts.template).render

-- an element of EF.DIR
abbrev pub r_item : Renderer
r_item = either (0x0201 ∷ []) (within 0x61 r_template) plain

-- the kinds that one begins with
abbrev pub item_kinds : List ℕ
item_kinds = 0x0201 ∷ 0x0211 ∷ []

-- its elements
abbrev pub r_items : Renderer
r_items = r_all item_kinds r_item

-- EF.OD's record and the files that it names
abbrev pub od_and_files : Renderer
od_and_files rs = (r_framed 2 r_od next r_directories (names_of (used rs (r_od rs).left))) rs

-- CIAInfo's record, then these: all of the dump but EF.DIR's
abbrev pub others_than_dir : Renderer
others_than_dir = r_framed 1 r_cia next od_and_files
