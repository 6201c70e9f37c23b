use Rattle.elements.specs.AnswerLaws.{leaves}
use Rattle.reader.proofs.TwelveLaws.{following_none, following_high, following_holds, follow_missing, follow_broken, name_word, name_low, name_high, path_low, path_high, follow_less, follow_next, follow_differs, follow_extra, follow_fine}
use borrow.Author.Rules.{rules}
use Rattle.reader.proofs.twelve.follow.Goals as goal

pub loop-j-init : goal.loop-j-init
loop-j-init c = search (following_none, rules)

pub next_name-requires : goal.next_name-requires
next_name-requires c = search (following_holds, rules)

pub returns-then-s-n : goal.returns-then-s-n
returns-then-s-n c = follow_missing c.loop-j.invariant c.in-Some.ensures c.if-s-n.true

pub named_frame-requires : goal.named_frame-requires
named_frame-requires c = search (following_high, rules)

pub returns-in_err-file : goal.returns-in_err-file
returns-in_err-file c = rw (leaves c.from_residual.ensures) (follow_broken c.loop-j.invariant c.in-Some.ensures c.if-s-n.false _ c.named_frame.ensures.0 c.in_err-file.was)

pub overflow_add-k : goal.overflow_add-k
overflow_add-k c = let w = name_word c.loop-j.invariant c.in-Some.ensures in search (w, rules)

pub word-requires : goal.word-requires
word-requires c = name_word c.loop-j.invariant c.in-Some.ensures

pub overflow_add-k-in-Some : goal.overflow_add-k-in-Some
overflow_add-k-in-Some c = let w = name_high c.loop-j.invariant c.in-Some.ensures _ c.word.ensures in search (w, rules)

pub overflow_add-j : goal.overflow_add-j
overflow_add-j c = let w = name_high c.loop-j.invariant c.in-Some.ensures _ c.word.ensures in let y = name_low c.loop-j.invariant c.in-Some.ensures _ c.word.ensures in search (w, y, rules)

pub same_bytes-requires : goal.same_bytes-requires
same_bytes-requires c = (name_low c.loop-j.invariant c.in-Some.ensures _ c.word.ensures, name_high c.loop-j.invariant c.in-Some.ensures _ c.word.ensures, path_low c.named_frame.ensures.2 c.in_ok-file.was, path_high c.named_frame.ensures.2 c.in_ok-file.was)

pub returns-then-not-same_bytes : goal.returns-then-not-same_bytes
returns-then-not-same_bytes c = follow_differs c.loop-j.invariant c.in-Some.ensures c.if-s-n.false _ c.named_frame.ensures.0 c.in_ok-file.was _ c.word.ensures _ c.same_bytes.ensures (search rules)

pub loop-j-smaller : goal.loop-j-smaller
loop-j-smaller c = follow_less c.named_frame.ensures.2 c.in_ok-file.was c.if-s-n.false

pub loop-j-preserved : goal.loop-j-preserved
loop-j-preserved c = follow_next c.loop-j.invariant c.in-Some.ensures c.if-s-n.false _ c.named_frame.ensures.0 c.in_ok-file.was _ c.word.ensures _ c.same_bytes.ensures c.named_frame.ensures.1 (search rules)

pub returns-then-n-s : goal.returns-then-n-s
returns-then-n-s c = follow_extra c.loop-j.invariant c.in_default.ensures c.if-n-s.true

pub returns : goal.returns
returns c = follow_fine c.loop-j.invariant c.in_default.ensures c.if-n-s.false
