-- `sample::one_terminal` meets its contract: each host call is done on what the one before left.
-- Assumes nothing.
use Rattle.records.specs.declared.Tables.{Tables}
use Rattle.host.specs.HostCall.{no_tables, add_session, add_tree, add_open}
use Rattle.sample.specs.Terminal.{contents, terminal_tables, terminal_memory}
use Rattle.sample.proofs.Calls.{WordsOf, called, loaded, memory-loaded}
use Rattle.sample.proofs.one_terminal.Goals as goal

pub returns : goal.returns
unfolding terminal_tables terminal_memory contents
returns c =
    let memory = c.args.memory.now in
    let start : WordsOf no_tables c.empty_words.new.words = record { hold = c.empty_words.ensures.words_after_2; fit = c.empty_words.ensures.words_after_3 } in
    let file = loaded start 0 contents memory c.load_file.new.words c.load_file.result c.load_file.ensures.left in
    let session = called file (λ (t : Tables). add_session t 5) c.add_session.new.words c.add_session.result c.add_session.ensures in
    let tree = called session (λ (t : Tables). add_tree t 1 1) c.add_tree.new.words c.add_tree.result c.add_tree.ensures in
    let end = called tree (λ (t : Tables). add_open t 1 1 7 0 2) c.add_open.new.words c.add_open.result c.add_open.ensures in
    record { words_after = end.hold; words_after_2 = end.fit; memory_after = memory-loaded start 0 contents memory _ c.load_file.ensures.memory_after }
