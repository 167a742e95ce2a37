-- Of specs/Possible6.antt: what rests on its other theorems. Assumes nothing.
use Rattle.std.specs.Prelude.{◌≡◌, refl, ℕ, false, List, [], ◌∷◌}
use Rattle.std.proofs.Common.{sym, subst, arith}
use mathlib.Core.List.Memᴰ.{head as first}
use Rattle.std.proofs.lemmas.List.{length-replicate}
use Rattle.wire.specs.LittleEndian.{le16_at}
use Rattle.chain.specs.Layout.{OPEN, FIRST, fid_after_andx}
use Rattle.chain.specs.Header.{dropped}
use Rattle.chain.specs.Parse.{open_fields}
use Rattle.message.specs.Caller.{caller_of}
use Rattle.message.specs.Refusal.{status}
use Rattle.invariants.specs.Sound.{Good}
use Rattle.claims.specs.HostReasons.{HasTree, HasPermitting}
use Rattle.literals.specs.State.{memory}
use Rattle.literals.specs.Replies.{message}
use Rattle.literals.specs.Opening.{open_words, opening, crl_bytes, open_crl, asking}
use Rattle.demands.specs.Admitted.{SessionHere}
use Rattle.demands.specs.OpenReasons.{OpenPermitted}
use Rattle.demands.specs.OpenEffects.{OpenDone}
use Rattle.demands.specs.WireFields.{open_name}
use Rattle.order.specs.Call.{gives, Answerable, Says, sender, own_message}
use Rattle.order.specs.Demand2.{DoneAlone, demand-2}
use Rattle.order.proofs.Request6.{request-6}
use Rattle.order.specs.Possible6.{DoneBy, asked, call-says, chain-nobody, chain-reading, first-message, given-here, good, kept, memory-whole, named_here, office, office-sound, one-open, open_first, open_span, open_then_read, read_span, to_read, to_write, two_names, write-kept-out}

pub answerable : (s : List ℕ) (others : ℕ) → Good (office two_names 2 others) → dropped s ≡ false → Answerable (asked s others)
unfolding asked
answerable s others ok kept =
    record {
      fit = record {
        room-enough = rw (length-replicate {A = ℕ} 12292 0) (omega arith);
        memory-whole = memory-whole;
        tables-sound = ok.sound;
        not-dropped = kept;
      };
      good = ok;
    }

pub read-answerable : Answerable (asked to_read 0)
read-answerable = answerable to_read 0 (good 0 office-sound.0) kept.0

pub read_done : DoneAlone (asked to_read 0) OPEN
unfolding status
read_done = (read-answerable, one-open.0, call-says to_read 0 read-answerable (status 0 0) given-here.0)

-- so there is an open more, and its reply returns its FID
pub read_opened : OpenDone 5 to_read (office two_names 2 0) memory (gives (asked to_read 0))
unfolding asked
read_opened = demand-2.carried-out.opening (asked to_read 0) read_done

pub write-answerable : Answerable (asked to_write 1)
write-answerable = answerable to_write 1 (good 1 office-sound.1) kept.1

pub write-permitted : OpenPermitted (sender (asked to_write 1)) (office two_names 2 1) (open_fields to_write FIRST) (open_name to_write) 1
unfolding asked office to_write asking message open_crl opening open_words crl_bytes caller_of le16_at SessionHere HasTree HasPermitting
write-permitted =
    record {
      served = record {
        session = (_, first refl, refl, refl);
        tree = (_, first refl, refl, refl);
        mode = refl;
        codes = record { access-code = omega arith; some-sharing = omega arith; sharing-code = omega arith };
      };
      named = named_here;
      permitted = (_, first refl, refl, refl, λ e. let z : ◌≡◌ {A = ℕ} 1 0 = e in absurd (omega arith));
    }

pub write-refused : Says (asked to_write 1) 1 32
unfolding status
write-refused = call-says to_write 1 write-answerable (status 1 32) given-here.1

-- and so the page says
pub write-refused-for-it : Says (asked to_write 1) 1 32
unfolding asked to_write asking message open_crl opening open_words crl_bytes
write-refused-for-it = (request-6.sharing.exactly (asked to_write 1) 1 write-answerable one-open.1 write-permitted).1 write-kept-out

pub chain-answerable : Answerable (asked open_then_read 0)
chain-answerable = answerable open_then_read 0 (good 0 office-sound.0) kept.2

pub chain-done : Says (asked open_then_read 0) 0 0
unfolding status
chain-done = call-says open_then_read 0 chain-answerable (status 0 0) given-here.2

pub first-answerable : Answerable (asked open_first 0)
first-answerable = answerable open_first 0 (good 0 office-sound.0) kept.3

pub first_done : DoneBy open_first
unfolding asked status
first_done = demand-2.carried-out.opening (asked open_first 0) (first-answerable, one-open.2, call-says open_first 0 first-answerable (status 0 0) given-here.3)

pub chain-opened : DoneBy (own_message (asked open_then_read 0) [] open_span)
chain-opened = subst DoneBy (sym first-message) first_done

-- the READ's own message has the FID of the open that the OPEN_ANDX's own message added
pub chain-meant : fid_after_andx (own_message (asked open_then_read 0) (open_span ∷ []) read_span) FIRST ≡ chain-opened.new.fid
unfolding asked
chain-meant = request-6.just-opened.meant (asked open_then_read 0) open_span read_span [] chain-answerable chain-reading refl chain-nobody chain-opened
