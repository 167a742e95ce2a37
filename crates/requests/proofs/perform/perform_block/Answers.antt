-- `requests::perform::perform_block` meets its contract: what is asked for is what the definition does, and a block that was read has its bytes in the message.
-- Assumes nothing.
use mathlib.Core.Path.{sym, ◌∙◌}
use Rattle.tables.specs.Words.{tables_of}
use Rattle.message.specs.Command.{perform}
use Rattle.message.specs.JustOpened.{body_meant}
use Rattle.message.specs.Message.{area_of}
use Rattle.requests.proofs.Raised.{raised}
use Rattle.requests.specs.CorePart.{gives-formed, refuses-formed}
use Rattle.requests.specs.WorkPart.{work_done, work-performed, locking-told, write-told, open_told}
use Rattle.requests.proofs.perform.perform_block.Goals as goal

pub do_read-requires : goal.do_read-requires
do_read-requires c = record { words_len = c.requires.words_len; good = c.requires.good }

pub writing_block-requires : goal.writing_block-requires
writing_block-requires c =
    let pre = c.requires in
    let args = c.args in
    record { words_len = pre.words_len; good = pre.good; memory_len = pre.memory_len; count_in_bounds = (write-told args.s.now args.b args.just pre.at_value c.in-Write.f c.in-Write.core (sym c.work_of.ensures ∙ c.in-Write.is)).inside }

pub locking_block-requires : goal.locking_block-requires
locking_block-requires c =
    let pre = c.requires in
    let args = c.args in
    record { words_len = pre.words_len; good = pre.good; locking_part = locking-told args.s.now args.b args.just pre.at_value c.in-Locking.f (sym c.work_of.ensures ∙ c.in-Locking.is) }

pub do_close-requires : goal.do_close-requires
do_close-requires c = record { words_len = c.requires.words_len; good = c.requires.good }

pub do_logoff-requires : goal.do_logoff-requires
do_logoff-requires c = record { words_len = c.requires.words_len; good = c.requires.good }

pub do_disconnect-requires : goal.do_disconnect-requires
do_disconnect-requires c = record { words_len = c.requires.words_len; good = c.requires.good }

pub do_exit-requires : goal.do_exit-requires
do_exit-requires c = record { words_len = c.requires.words_len; good = c.requires.good }

pub do_set_size-requires : goal.do_set_size-requires
do_set_size-requires c = record { words_len = c.requires.words_len; good = c.requires.good; memory_len = c.requires.memory_len }

pub do_range-requires : goal.do_range-requires
do_range-requires c = record { words_len = c.requires.words_len; good = c.requires.good }

pub opening_block-requires : goal.opening_block-requires
opening_block-requires c =
    let pre = c.requires in
    let args = c.args in
    record { words_len = pre.words_len; good = pre.good; opening_part = open_told args.s.now args.b args.just pre.at_value c.in-Open.f (sym c.work_of.ensures ∙ c.in-Open.is) }

pub returns-in_err-answer-in-Read-clause-gives : goal.returns-in_err-answer-in-Read-clause-gives
unfolding work_done
returns-in_err-answer-in-Read-clause-gives c =
    let args = c.args in
    let m = args.memory.now in
    let asked = sym c.work_of.ensures ∙ c.in-Read.is in
    rw (work-performed args.c (tables_of args.words.now) m _ _ (body_meant args.just args.b.body), asked, raised _ _ _ c.from_residual.ensures.1) (refuses-formed c.in-Read.core (c.in_err-answer-in-Read.ensures.leaves m))

pub returns-in_ok-answer-in-Read-clause-gives : goal.returns-in_ok-answer-in-Read-clause-gives
unfolding work_done
returns-in_ok-answer-in-Read-clause-gives c =
    let args = c.args in
    let m = args.memory.now in
    let asked = sym c.work_of.ensures ∙ c.in-Read.is in
    rw (work-performed args.c (tables_of args.words.now) m _ _ (body_meant args.just args.b.body), asked, c.in_form.ensures) (gives-formed c.in-Read.core (c.in_ok-answer-in-Read.ensures.leaves m))

pub returns-in-Write : goal.returns-in-Write
unfolding work_done
returns-in-Write c =
    let args = c.args in
    let m = args.memory.now in
    let asked = sym c.work_of.ensures ∙ c.in-Write.is in
    let told = write-told args.s.now args.b args.just c.requires.at_value c.in-Write.f c.in-Write.core asked in
    record { gives = rw (work-performed args.c (tables_of args.words.now) m _ _ (body_meant args.just args.b.body), asked, told.same) c.writing_block.ensures.gives; words_after = c.writing_block.ensures.words_after }

pub returns-in-Locking : goal.returns-in-Locking
unfolding work_done area_of
returns-in-Locking c =
    let args = c.args in
    let m = args.memory.now in
    let asked = sym c.work_of.ensures ∙ c.in-Locking.is in
    record { gives = rw (work-performed args.c (tables_of args.words.now) m _ _ (body_meant args.just args.b.body), asked) (c.locking_block.ensures.leaves m); words_after = c.locking_block.ensures.words_after }

pub returns-in-Close : goal.returns-in-Close
unfolding work_done perform
returns-in-Close c =
    let args = c.args in
    let m = args.memory.now in
    let asked = sym c.work_of.ensures ∙ c.in-Close.is in
    record { gives = rw (work-performed args.c (tables_of args.words.now) m _ _ (body_meant args.just args.b.body), asked) (c.do_close.ensures.leaves m); words_after = c.do_close.ensures.words_after }

pub returns-in-Logoff : goal.returns-in-Logoff
unfolding work_done perform
returns-in-Logoff c =
    let args = c.args in
    let m = args.memory.now in
    let asked = sym c.work_of.ensures ∙ c.in-Logoff.is in
    record { gives = rw (work-performed args.c (tables_of args.words.now) m _ _ (body_meant args.just args.b.body), asked) (c.do_logoff.ensures.leaves m); words_after = c.do_logoff.ensures.words_after }

pub returns-in-TreeDisconnect : goal.returns-in-TreeDisconnect
unfolding work_done perform
returns-in-TreeDisconnect c =
    let args = c.args in
    let m = args.memory.now in
    let asked = sym c.work_of.ensures ∙ c.in-TreeDisconnect.is in
    record { gives = rw (work-performed args.c (tables_of args.words.now) m _ _ (body_meant args.just args.b.body), asked) (c.do_disconnect.ensures.leaves m); words_after = c.do_disconnect.ensures.words_after }

pub returns-in-ProcessExit : goal.returns-in-ProcessExit
unfolding work_done perform
returns-in-ProcessExit c =
    let args = c.args in
    let m = args.memory.now in
    let asked = sym c.work_of.ensures ∙ c.in-ProcessExit.is in
    record { gives = rw (work-performed args.c (tables_of args.words.now) m _ _ (body_meant args.just args.b.body), asked) (c.do_exit.ensures.leaves m); words_after = c.do_exit.ensures.words_after }

pub returns-in-SetSize : goal.returns-in-SetSize
unfolding work_done
returns-in-SetSize c =
    let args = c.args in
    let m = args.memory.now in
    let asked = sym c.work_of.ensures ∙ c.in-SetSize.is in
    record { gives = rw (work-performed args.c (tables_of args.words.now) m _ _ (body_meant args.just args.b.body), asked) c.do_set_size.ensures.gives; words_after = c.do_set_size.ensures.words_after }

pub returns-in-Range : goal.returns-in-Range
unfolding work_done
returns-in-Range c =
    let args = c.args in
    let m = args.memory.now in
    let asked = sym c.work_of.ensures ∙ c.in-Range.is in
    record { gives = rw (work-performed args.c (tables_of args.words.now) m _ _ (body_meant args.just args.b.body), asked) (c.do_range.ensures.leaves m); words_after = c.do_range.ensures.words_after }

pub returns-in-Open : goal.returns-in-Open
unfolding work_done area_of
returns-in-Open c =
    let args = c.args in
    let m = args.memory.now in
    let asked = sym c.work_of.ensures ∙ c.in-Open.is in
    record { gives = rw (work-performed args.c (tables_of args.words.now) m _ _ (body_meant args.just args.b.body), asked) (c.opening_block.ensures.leaves m); words_after = c.opening_block.ensures.words_after }
