-- Parts of layouts that a function of the code makes: one after the other, as Layouts has them.
use Rattle.std.specs.Prelude.{ℕ, [], ◌∷◌}
use Rattle.rules.specs.declared.table.Sequence.{Sequence}
use Rattle.rules.specs.Tables.{path_kind, class_of}
use Rattle.rules.specs.Render.{Renderer, ◌next◌, within, when, plain, r_common, r_class}
use Rattle.rules.specs.Layouts as layouts

-- "subclass A0?", one sealed element in it
abbrev pub subclass : Renderer
subclass = when (0x0170 ∷ []) (within 0xa0 plain)

-- "common 30, class 30, subclass A0?", of an entry's objects
abbrev pub attributes : ℕ → Renderer
attributes entry = within 0x30 r_common next within 0x30 (r_class (class_of entry)) next subclass

-- a Path, by its table
abbrev pub path_of : Sequence → Renderer
path_of q = (layouts.path_from (path_kind q)).render

-- "Path? 30", and the same with another tag
abbrev pub due_path : Sequence → ℕ → Renderer
due_path q tag = when (path_kind q ∷ []) (within tag (path_of q))
