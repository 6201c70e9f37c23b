use Rattle.elements.specs.AnswerLaws.{leaves}
use Rattle.reader.proofs.DirectoriesLaws.{turning_start, turning_holds, turning_short, turning_all, turning_word, turning_tag, turning_step, turning_number, turning_sound, turning_sorted, turning_fell, turning_again, file_mid, file_high, file_room, file_place, file_low, file_less}
use borrow.Author.Rules.{rules}
use Rattle.reader.proofs.directories.directories.Goals as goal

pub loop-j-init : goal.loop-j-init
loop-j-init c = search (turning_start, rules)

pub next_name-requires : goal.next_name-requires
next_name-requires c = search (turning_holds, rules)

pub returns-then-s-n : goal.returns-then-s-n
returns-then-s-n c = turning_short c.loop-j.invariant c.in-Some.ensures c.if-s-n.true

pub returns-in_err-file : goal.returns-in_err-file
returns-in_err-file c = absurd (turning_sound c.loop-j.invariant c.in-Some.ensures c.if-s-n.false c.named_frame.ensures.0 c.in_err-file.was)

pub overflow_add-m : goal.overflow_add-m
overflow_add-m c = let w = turning_word c.loop-j.invariant c.in-Some.ensures in search (w, rules)

pub word-requires : goal.word-requires
word-requires c = turning_word c.loop-j.invariant c.in-Some.ensures

pub overflow_add-m-in-Some : goal.overflow_add-m-in-Some
overflow_add-m-in-Some c = let w = turning_step c.loop-j.invariant c.in-Some.ensures c.word.ensures c.requires.3 in search (w, rules)

pub overflow_add-entry : goal.overflow_add-entry
overflow_add-entry c = let w = turning_tag c.loop-j.invariant c.in-Some.ensures in search (w, rules)

pub bounds-out-j : goal.bounds-out-j
bounds-out-j c = turning_tag c.loop-j.invariant c.in-Some.ensures

pub file_of-requires : goal.file_of-requires
file_of-requires c = (c.loop-j.invariant.few, turning_sorted c.loop-j.invariant c.in-Some.ensures c.if-s-n.false c.named_frame.ensures.0 c.in_ok-file.was, file_room c.named_frame.ensures.2 c.in_ok-file.was c.loop-j.invariant.room, (file_mid c.named_frame.ensures.2 c.in_ok-file.was, file_high c.named_frame.ensures.2 c.in_ok-file.was, c.requires.3, file_place c.named_frame.ensures.2 c.in_ok-file.was c.loop-j.invariant.room))

pub returns-in_err-next : goal.returns-in_err-next
returns-in_err-next c = rw (leaves c.from_residual-in_err-next.ensures) (turning_fell c.loop-j.invariant c.in-Some.ensures c.if-s-n.false c.named_frame.ensures.0 c.in_ok-file.was c.file_of.ensures c.in_err-next.was)

pub overflow_add-f : goal.overflow_add-f
overflow_add-f c = record { fits = turning_number c.loop-j.invariant c.requires.3 c.if-s-n.false }

pub loop-j-smaller : goal.loop-j-smaller
loop-j-smaller c = file_less c.named_frame.ensures.2 c.in_ok-file.was c.if-s-n.false

pub loop-j-preserved : goal.loop-j-preserved
loop-j-preserved c = turning_again c.loop-j.invariant c.in-Some.ensures c.if-s-n.false c.named_frame.ensures.0 c.in_ok-file.was c.file_of.ensures c.in_ok-next.was (file_high c.named_frame.ensures.2 c.in_ok-file.was) (file_low c.named_frame.ensures.2 c.in_ok-file.was) c.word.ensures

pub returns : goal.returns
returns c = turning_all c.loop-j.invariant c.in_default.ensures
