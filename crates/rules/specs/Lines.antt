-- The rows of the code's tables, each in the order of the definitions.
use Rattle.std.specs.Prelude.{List, map}
use Rattle.rules.specs.declared.rows.Line.{Line}
use Rattle.rules.specs.declared.table.Row.{Row}
use Rattle.rules.specs.declared.table.Sequence.{Sequence}
use Rattle.rules.specs.Parts.{between, row}
use Rattle.rules.specs.Tables.{rows_of}

abbrev pub row_of_line : Line → Row
row_of_line l = row l.0 l.1 l.2 l.3 (between l.4 l.5)

abbrev pub line : Row → Line
line r = record { 0 = r.tag; 1 = r.kind; 2 = r.form; 3 = r.need; 4 = r.low; 5 = r.high }

-- the lines of a sequence
abbrev pub lines_of : Sequence → List Line
lines_of q = map line (rows_of q)
