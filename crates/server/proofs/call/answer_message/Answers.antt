-- `server::call::answer_message` meets its contract: the three ways a message fit to be answered is answered, each as the definition says it.
-- Assumes nothing.
use Prim.Native.Nat.{ℕ, ◌≤◌}
use mathlib.Core.Path.{sym, ap, ◌∙◌}
use native.Mathlib.Omega.{arith}
use lib.ListN.{length}
use Rattle.chain.specs.Chain.{blocks_from, blocks}
use Rattle.chain.specs.Judged.{readable}
use Rattle.message.specs.Caller.{caller_of}
use Rattle.message.specs.Message.{served, run_chain, replied}
use Rattle.tables.specs.Words.{tables_of}
use Rattle.server.specs.TakenOf.{taken_of}
use Rattle.server.specs.Taking.{readable-here, run_fits, finish, served-named, answered-not-served, answered-none, answered-run}
use Rattle.server.proofs.call.answer_message.Goals as goal

pub returns-then-not-is_served : goal.returns-then-not-is_served
returns-then-not-is_served c =
    let args = c.args in
    let byte-at = c.byte_at-command in
    let is-served = c.is_served in record { room_after = c.refuse_message.ensures (tables_of args.words.now) ∙ ap (replied args.s.now args.room.now) (sym (answered-not-served args.connection args.s.now (tables_of args.words.now) args.memory.now (sym (is-served.ensures ∙ served-named byte-at.result ∙ ap served byte-at.ensures) ∙ c.if-not-is_served.true))); words_after = λ f. f }

pub returns-then-not-is_sentence : goal.returns-then-not-is_sentence
returns-then-not-is_sentence c =
    let args = c.args in
    let byte-at = c.byte_at-command in
    let is-served = c.is_served in
    let if1 = c.if-not-is_served in
    let is-sentence = c.is_sentence in record { room_after = c.refuse_message-then-not-is_sentence.ensures (tables_of args.words.now) ∙ ap (replied args.s.now args.room.now) (sym (answered-none args.connection args.s.now (tables_of args.words.now) args.memory.now (sym (is-served.ensures ∙ served-named byte-at.result ∙ ap served byte-at.ensures) ∙ if1.false) (ap (λ (n : ℕ). readable (blocks_from args.s.now n 32)) (sym byte-at.ensures) ∙ sym is-sentence.ensures ∙ c.if-not-is_sentence.true))); words_after = λ f. f }

pub run_chain-ended-requires : goal.run_chain-ended-requires
run_chain-ended-requires c =
    let pre = c.requires in
    let args = c.args in
    let byte-at = c.byte_at-command in
    let is-sentence = c.is_sentence in
    record { words_len = pre.words_len; good = pre.good; memory_len = pre.memory_len; s_len_bound = pre.s_len_bound; in_bounds = pre.in_bounds_2; s_value = readable-here args.s.now (ap (λ (n : ℕ). readable (blocks_from args.s.now n 32)) (sym byte-at.ensures) ∙ sym is-sentence.ensures ∙ c.if-not-is_sentence.false) }

pub write_header-requires : goal.write_header-requires
write_header-requires c =
    let pre = c.requires in
    let args = c.args in
    let long : 35 ≤ length args.s.now = pre.in_bounds in
    let enough : 12292 ≤ length args.room.now = pre.in_bounds_2 in
    let kept = c.run_chain-ended.auto.room in
    record { in_bounds = omega arith; in_bounds_2 = omega arith }

pub returns : goal.returns
unfolding taken_of
returns c =
    let pre = c.requires in
    let args = c.args in
    let byte-at = c.byte_at-command in
    let is-served = c.is_served in
    let if1 = c.if-not-is_served in
    let caller-of = c.caller_of in
    let run-chain = c.run_chain-ended in
    let write-header = c.write_header in
    let f = rw caller-of.ensures at run-chain.ensures.finished in
    let g = run_fits (caller_of args.connection args.s.now) args.s.now (tables_of args.words.now) args.memory.now pre.good pre.s_len_bound in
    let long : 35 ≤ length args.s.now = pre.in_bounds in
    let enough : 12292 ≤ length args.room.now = pre.in_bounds_2 in record {
      room_after = finish args.s.now args.room.now (run_chain (caller_of args.connection args.s.now) args.s.now (blocks args.s.now) (tables_of args.words.now) args.memory.now) run-chain.result.forms run-chain.result.holder run-chain.result.length (tables_of run-chain.new.words) run-chain.new.memory run-chain.new.room write-header.new.room f
          write-header.ensures (omega arith) (omega arith)
          ∙ ap (replied args.s.now args.room.now) (sym (answered-run args.connection args.s.now (tables_of args.words.now) args.memory.now (sym (is-served.ensures ∙ served-named byte-at.result ∙ ap served byte-at.ensures) ∙ if1.false)));
      words_after = run-chain.ensures.words_after;
    }
