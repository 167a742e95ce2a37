-- `removal::sweep::remove_named` meets its contract: each part that was lent holds its table filtered. Assumes nothing.
use mathlib.Core.Path.{◌≡◌, ◌∙◌}
use lib.ListN.{length}
use native.Mathlib.Omega.{arith}
use Rattle.tables.specs.PartLaws.{lent, length_part}
use Rattle.removal.proofs.Removing.{length-lent, removed}
use Rattle.removal.proofs.sweep.remove_named.Goals as goal

pub returns : goal.returns
returns c =
    let w = c.args.words.now in
    let full : length w ≡ 1605 = c.requires.0 in
    let a = c.keep_sessions-uids.new.words in
    let la : length a ≡ 33 = c.keep_sessions-uids.auto.words ∙ length_part w 0 33 (omega arith) in
    let w1 = lent w 0 33 a in
    let full1 : length w1 ≡ 1605 = length-lent w a 0 33 full la (omega arith) in
    let b = c.keep_trees-tids.new.words in
    let lb : length b ≡ 97 = c.keep_trees-tids.auto.words ∙ length_part w1 33 97 (omega arith) in
    let w2 = lent w1 33 97 b in
    let full2 : length w2 ≡ 1605 = length-lent w1 b 33 97 full1 lb (omega arith) in
    let d = c.keep_opens-fids.new.words in
    let ld : length d ≡ 577 = c.keep_opens-fids.auto.words ∙ length_part w2 130 577 (omega arith) in
    let w3 = lent w2 130 577 d in
    let full3 : length w3 ≡ 1605 = length-lent w2 d 130 577 full2 ld (omega arith) in
    let e = c.keep_locks.new.words in
    let le : length e ≡ 641 = c.keep_locks.auto.words ∙ length_part w3 707 641 (omega arith) in
    removed c.args.gone w a b d e c.keep_sessions-uids.result c.keep_trees-tids.result c.keep_opens-fids.result full c.requires.1 la lb ld le
    c.keep_sessions-uids.ensures c.keep_trees-tids.ensures c.keep_opens-fids.ensures c.keep_locks.ensures
