-- The definitions, to be computed on bytes that are written out: with these every worked case is closed by `refl`.
use Rattle.std.specs.Prelude.{ℕ, List, length}
use Rattle.std.specs.Int.Count.{count_leading_zeros}
use Rattle.elements.specs.Faults.{number_of}
use Rattle.elements.specs.Header.{header, high_tag, further, length_at, long1, long2, long2_of, fitted}
use Rattle.elements.specs.Loop.{loop}
use Rattle.elements.specs.Sealed.{sealed_run}
use Rattle.elements.specs.Boolean.{boolean, boolean_bytes}
use Rattle.elements.specs.Integer.{integer, whole, padded, magnitude, bare, big, spread_by, spread, integer_bytes}
use Rattle.elements.specs.Told.{told}
use Rattle.elements.specs.Bits.{bits, bits_of, weigh, reversed, width, flag_run, flag_bytes}
use Rattle.elements.specs.Text.{text, text_from, step_of, starts, lead_of, find}
use Rattle.elements.specs.Time.{time, stated, digits, two, dated, clocked, days_of, leap}
use Rattle.elements.specs.Values.{value, null}
use Rattle.elements.specs.Length.{shortest, wrap}
use Rattle.elements.specs.Record.{record_bytes}
use Rattle.rules.specs.declared.table.Row.{Row}
use Rattle.rules.specs.Reading.{count, number, Res, took, fails, ◌then◌}
use Rattle.rules.specs.Parts.{payload, component, row_body, components, ended, element, repeat, rest, sealed}
use Rattle.rules.specs.Tables.{sort_by, type_of}
use Rattle.rules.specs.Objects.{identified, condition}
use Rattle.rules.specs.Files.{names_of, filled, fill, named_path, entry_inside, entry_body, od, directory, record_in, fits, linear, frame_of, file_in, frame, named_file, named_frame, frames, first_again, entry_place, follow, file_of, directories, repeated, read_files, read_parts, dir, read_from, read_dump, Answer, accepted, refused}
use Rattle.rules.specs.Book.{encode, records_of, records}
use Rattle.rules.specs.Render.{unvalue, r_row, r_rows, r_keep, r_many, r_all, r_times, r_inside, r_entry_of, r_entry, r_fill, r_od, r_directory, r_record_in, r_linear, framing, r_file, r_directories, r_dir, render}
use Rattle.rules.specs.Layouts as layouts
use Rattle.rules.specs.Conditions as conditions
use Rattle.rules.specs.Entries as entries

-- what is asked: what a dump is read as, the dump that a book is rendered as, what a condition alone and the components of a table are read as
pub data Asked : Type 0 where
  reads : List ℕ → Asked
  renders : List ℕ → Asked
  reads_condition : List ℕ → Asked
  reads_rows : List Row → List ℕ → Asked

-- what is seen of the answer: the book, the dump, or the refusal's number and place
pub data Seen : Type 0 where
  book : List ℕ → Seen
  dump : List ℕ → Seen
  refusal : ℕ → ℕ → Seen

abbrev seen : Answer → Seen
seen (accepted rs) = book (encode rs)
seen (refused f p) = refusal (number_of f) p

abbrev seen_res : Res → Seen
seen_res (took bs ms n) = book (encode bs)
seen_res (fails f p) = refusal (number_of f) p

unfoldable pub answered : Asked → Seen
unfolding count_leading_zeros header high_tag further length_at long1 long2 long2_of fitted loop sealed_run boolean boolean_bytes integer whole padded magnitude bare big spread_by spread integer_bytes told bits bits_of weigh reversed width flag_run flag_bytes text text_from step_of starts lead_of find time stated digits two dated clocked days_of leap value null shortest wrap record_bytes count number payload component row_body components ended element repeat rest sealed sort_by type_of layouts.insides identified conditions.body_by_sort conditions.condition entries.object names_of filled fill named_path entry_inside entry_body od directory record_in fits linear frame_of file_in frame named_file named_frame frames first_again entry_place follow file_of directories repeated read_files read_parts dir read_from read_dump encode records_of records unvalue r_row r_rows r_keep r_many r_all r_times r_inside r_entry_of r_entry r_fill r_od r_directory r_record_in r_linear framing r_file r_directories r_dir render layouts.cia layouts.info layouts.template layouts.discretionary layouts.path_from
answered (reads d) = seen (read_dump d)
answered (renders b) = dump (render (records b))
answered (reads_condition d) = seen_res (condition d 8 0 (length d) 0)
answered (reads_rows rs d) = seen_res ((components d rs then ended d) (length d) 0)

abbrev pub reading : List ℕ → Seen
reading d = answered (reads d)

abbrev pub rendering : List ℕ → Seen
rendering b = answered (renders b)
