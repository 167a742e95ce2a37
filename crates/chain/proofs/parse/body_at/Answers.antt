-- `chain::parse::body_at` meets its contract: each request's arm is the definition's, at the request's number.
-- Assumes nothing.
use mathlib.Core.Path.{◌≡◌, sym, ap, ◌∙◌}
use Prim.Native.Nat.{ℕ}
use Rattle.std.specs.Prelude.{Option, Some}
use Rattle.chain.specs.Parse.{parse, parse_logoff, parse_bare}
use Rattle.chain.specs.Request.{request_named, is_andx}
use Rattle.chain.specs.RequestLaws.{Names, names}
use Rattle.chain.specs.Rows.{fits, row_fits, next_at, row-process-exit, row-none}
use Rattle.chain.specs.declared.command.ServedRequest.{ServedRequest}
use Rattle.chain.proofs.parse.body_at.Goals as goal

known : (command : ℕ) {request arm : ServedRequest} {found : Option ServedRequest} → found ≡ Some request → request ≡ arm → found ≡ request_named command → Names (Some arm) command
known command e f named = names command (sym (e ∙ ap (λ x. Some x) f) ∙ named)

pub returns-in-Locking : goal.returns-in-Locking
unfolding Names
returns-in-Locking c = rw (known c.args.command c.in-Some.is c.in-Locking.is c.request_named.ensures) c.locking_body.ensures

pub returns-in-Read : goal.returns-in-Read
unfolding Names
returns-in-Read c = rw (known c.args.command c.in-Some.is c.in-Read.is c.request_named.ensures) c.read_body.ensures

pub returns-in-Write : goal.returns-in-Write
unfolding Names
returns-in-Write c = rw (known c.args.command c.in-Some.is c.in-Write.is c.request_named.ensures) c.write_body.ensures

pub returns-in-Close : goal.returns-in-Close
unfolding Names parse fits row_fits is_andx request_named next_at parse_bare
returns-in-Close c = record { is = rw (known c.args.command c.in-Some.is c.in-Close.is c.request_named.ensures, c.le16_at.ensures) }

pub returns-in-Logoff : goal.returns-in-Logoff
unfolding Names parse fits row_fits is_andx request_named next_at parse_logoff
returns-in-Logoff c = record { is = rw (known c.args.command c.in-Some.is c.in-Logoff.is c.request_named.ensures) }

pub returns-in-TreeDisconnect : goal.returns-in-TreeDisconnect
unfolding Names parse fits row_fits is_andx request_named next_at parse_bare
returns-in-TreeDisconnect c = record { is = rw (known c.args.command c.in-Some.is c.in-TreeDisconnect.is c.request_named.ensures) }

pub returns-in-ProcessExit : goal.returns-in-ProcessExit
unfolding Names
returns-in-ProcessExit c =
    rw (known c.args.command c.in-Some.is c.in-ProcessExit.is c.request_named.ensures) (row-process-exit c.args.s.now c.args.at)

pub returns-in-CoreRead : goal.returns-in-CoreRead
unfolding Names parse fits row_fits is_andx request_named next_at parse_bare
returns-in-CoreRead c = record { is = rw (known c.args.command c.in-Some.is c.in-CoreRead.is c.request_named.ensures, c.core_read_body.ensures) }

pub returns-in-CoreWrite : goal.returns-in-CoreWrite
unfolding Names
returns-in-CoreWrite c = rw (known c.args.command c.in-Some.is c.in-CoreWrite.is c.request_named.ensures) c.core_write_body.ensures

pub returns-in-LockByteRange : goal.returns-in-LockByteRange
unfolding Names parse fits row_fits is_andx request_named next_at parse_bare
returns-in-LockByteRange c = record { is = rw (known c.args.command c.in-Some.is c.in-LockByteRange.is c.request_named.ensures, c.range_fields.ensures) }

pub returns-in-UnlockByteRange : goal.returns-in-UnlockByteRange
unfolding Names parse fits row_fits is_andx request_named next_at parse_bare
returns-in-UnlockByteRange c = record { is = rw (known c.args.command c.in-Some.is c.in-UnlockByteRange.is c.request_named.ensures, c.range_fields-in-UnlockByteRange.ensures) }

pub returns-in-Open : goal.returns-in-Open
unfolding Names
returns-in-Open c = rw (known c.args.command c.in-Some.is c.in-Open.is c.request_named.ensures) c.open_body.ensures

pub returns-in_default : goal.returns-in_default
unfolding Names
returns-in_default c = row-none c.args.s.now c.args.at c.args.command (names c.args.command (sym c.in_default.is ∙ c.request_named.ensures))
