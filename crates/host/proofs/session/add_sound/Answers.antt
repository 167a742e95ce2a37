-- `host::session::add_sound` meets its contract: the refusal is tested as in the definition, and one record is put behind those in use.
-- Assumes nothing.
use Rattle.tables.specs.Words.{session_array}
use Rattle.host.specs.declared.answer.HostRefusal.TheVariants.{Full}
use mathlib.Core.Path.{◌≡◌, sym, ap, ◌∙◌}
use Prim.Native.Nat.{◌≤◌, ◌<◌}
use native.Mathlib.Omega.{arith}
use mathlib.Core.List.{List, [], ◌∷◌, ◌++◌, map}
use lib.ListN.{length}
use Rattle.records.specs.declared.Session.{Session}
use Rattle.records.specs.Held.{sessions_of, with_sessions}
use Rattle.numbers.specs.Number.{smallest_free}
use Rattle.numbers.specs.Column.{uid_of}
use Rattle.tables.specs.Words.{word, part, tables_of}
use Rattle.tables.specs.PartLaws.{lent, length_part}
use Rattle.tables.specs.WholeLaws.{sessions-in}
use Rattle.host.specs.HostCall.{add_session}
use Rattle.host.proofs.Leaving.{first_word, left-refused, left-done}
use Rattle.host.proofs.Adding.{sessions-count, sessions-appended, session-full, session-added}
use Rattle.host.proofs.session.add_sound.Goals as goal

pub returns-then-words-ge16 : goal.returns-then-words-ge16
returns-then-words-ge16 c =
    let args = c.args in
    let w = args.words.now in
    let many : 16 ≤ (tables_of w).nsessions = rw (sessions-count w) c.if-words-ge16.true in
    left-refused w Full (add_session (tables_of w) args.connection) (session-full (tables_of w) args.connection c.requires.1 many)

pub append-requires : goal.append-requires
append-requires c =
    let w = c.args.words.now in
    let full : length w ≡ 1605 = c.requires.0 in
    let room : word (part w 0 33) 0 < 16 = rw (first_word w 0 33 (omega arith)) c.if-words-ge16.false in
    (length_part w 0 33 (omega arith), room)

pub returns : goal.returns
unfolding session_array
returns c =
    let args = c.args in
    let pre = c.requires in
    let added = c.append in
    let free-uid = c.free_uid-uid in
    let w = args.words.now in
    let full : length w ≡ 1605 = pre.0 in
    let e = added.new.words in
    let long : length e ≡ 33 = added.auto.words ∙ length_part w 0 33 (omega arith) in
    let room : (tables_of w).nsessions < 16 = rw (sessions-count w) c.if-words-ge16.false in
    let free : free-uid.result ≡ smallest_free (map uid_of (sessions_of (tables_of w))) = free-uid.ensures ∙ ap (λ (l : List Session). smallest_free (map uid_of l)) (sym (sessions-in w)) in
    let x : Session = record { uid = free-uid.result; connection = args.connection } in
    let a = sessions-appended w e full x long added.ensures in
    left-done w (lent w 0 33 e) free-uid.result (add_session (tables_of w) args.connection) (with_sessions (tables_of w) (sessions_of (tables_of w) ++ (x ∷ []))) (session-added (tables_of w) args.connection pre.1 free-uid.result room free) a.0 a.1
