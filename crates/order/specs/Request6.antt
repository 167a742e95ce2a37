-- Change request 6 of document 02, "Opening by name", sentence by sentence. Assumes nothing.
use Rattle.std.specs.Prelude.{◌≡◌, refl, ◌↔◌, ℕ, ◌-◌, ◌/◌, ◌%◌, ◌≤◌, true, take, drop, eqb}
use Rattle.std.proofs.Common.{◌∙◌, arith}
use mathlib.Core.List.Memᴰ.{head as first}
use mathlib.Core.List.Memᴰ.{tail as later}
use mathlib.Core.List.{List, [], ◌∷◌, Memᴰ as In}
use Rattle.wire.specs.LittleEndian.{byte_at, le16_at}
use Rattle.records.specs.declared.Open.{Open}
use Rattle.records.specs.declared.Tables.{Tables}
use Rattle.soundness.specs.Sound.{sound}
use Rattle.catalogue.specs.Name.{same_name}
use Rattle.host.specs.HostCall.{add_open}
use Rattle.chain.specs.Layout.{READ, OPEN, header_command, FIRST, word_count, fid_after_andx, access_mode}
use Rattle.chain.specs.Grammar.{Name as NameAndZero, IsBlock, open-15, MayFollow, open-read, Span, Reading}
use Rattle.chain.specs.Parse.{open_fields}
use Rattle.message.specs.JustOpened.{NOBODY}
use Rattle.message.specs.Message.{take-message}
use Rattle.claims.specs.SoundPlain.{PlainSound}
use Rattle.claims.proofs.SoundPlain.{sound-plain}
use Rattle.claims.specs.CataloguePlain.{SameName, PlainCatalogue}
use Rattle.claims.proofs.CataloguePlain.{same-name-plain}
use Rattle.claims.specs.HostFrames.{add_open-frame}
use Rattle.demands.specs.Admitted.{Admitted}
use Rattle.demands.specs.Sharing.{Doing, Denies, KeptOut}
use Rattle.demands.proofs.Sharing.{host-denies-nothing}
use Rattle.demands.specs.OpenReasons.{OpenPermitted}
use Rattle.demands.specs.OpenEffects.{OpenDone}
use Rattle.demands.specs.OpenChain.{open-returns, other-returns, carries-rest, nobodys-fid, open_row, only-read, comes-first}
use Rattle.demands.proofs.OpenChain.{carries-returned, carries-nothing}
use Rattle.demands.specs.Returned.{returned_fid}
use Rattle.demands.specs.CallsOneByOne.{reply_in}
use Rattle.demands.specs.SpansOneByOne.{alone_span, own_span}
use Rattle.demands.specs.SpansRefused.{last_returned}
use Rattle.demands.specs.Taken.{not-long}
use Rattle.demands.specs.WireFields.{open_name}
use Rattle.demands.proofs.FirstReadings.{open-shared-exact}
use Rattle.order.specs.Call.{Call, gives, Answerable, OneCommand, Says, sender, some_room, own_message}
use Rattle.order.specs.Demand1.{Demand1}
use Rattle.order.specs.Demand2.{Demand2}
use Rattle.order.specs.Demand3.{Demand3}

-- Each Status of an OPEN_ANDX with its reason, in the order of the refusals, is demand 1's `StatusForItsReason` (`opening`); what one that is done leaves and says, with the reply's
-- bytes, demand 2's `CarriedOut` (`opening`); the host's call, `NumberForItsReason`, `RefusedByNumber` and `HostCallsDone` (`catalogue`). That a refusal changes nothing, that
-- the READ behind an open may be refused and the open stands, that tables stay sound and that the reply room suffices are demand 1's sentences, which speak of every command; so
-- do demand 2's of CLOSE, TREE_DISCONNECT, LOGOFF, PROCESS_EXIT and a dropped connection, which look at no sharing code.

-- ---- "with a catalogue, set whole by the host, of up to 16 names of 1 to 12 bytes, each with a file number, compared with ASCII letters caseless"

pub record Catalogue : Type 0 where
  -- the comparison is the plain one: as many bytes, and each the same but for the case of an ASCII letter
  pub compared : (xs ys : List ℕ) → (same_name xs ys ≡ true) ↔ SameName xs ys
  -- "Soundness gains sharing codes and the catalogue's rules", and nothing else, so no rule on pairs of opens: every clause is in `PlainSound`
  pub clauses : (t : Tables) → (sound t ≡ true) ↔ PlainSound t
  pub sharing-codes : (t : Tables) → sound t ≡ true → (o : Open) → In o (take t.nopens t.opens) → (1 ≤ o.sharing) × (o.sharing ≤ 4)
  pub rules : (t : Tables) → sound t ≡ true → PlainCatalogue t.names t.nnames

-- ---- "Add OPEN_ANDX 0x2D, 15 words": "The byte area is a name of any length, even none, without zero bytes, then one zero byte; else 2/1." "Other AccessMode bits are ignored."

pub record OnTheWire : Type 0 where
  -- the block is one exactly if it has 15 words and such bytes. What is no block makes no reading, and no reading is 2/1: demand 3's `MalformedExactly`
  pub row : (s : List ℕ) (at : ℕ) → IsBlock s at OPEN ↔ NameAndZero s at
  -- at their byte places, the block standing at 32: Flags' bit 0, of AccessMode bits 0 to 2 and 4 to 6, the whole OpenMode; the name
  pub fields : (c : Call)
      → open_fields c.message FIRST
      ≡ record { full = eqb (byte_at c.message 37 % 2) 1; access = byte_at c.message 39 % 8; sharing = byte_at c.message 39 / 16 % 8; mode = le16_at c.message 49 }
  pub name : (c : Call) → word_count c.message FIRST ≡ 15 → open_name c.message ≡ take (le16_at c.message 63 - 1) (drop 65 c.message)

-- ---- "An open fails if it asks what another open of the file denies or denies what one has; opens by the host deny nothing and are not tested."

pub record Sharing : Type 0 where
  -- of an OPEN_ANDX alone in its message for which session, tree, OpenMode, codes, name and the tree's right are in order: refused 1/32 exactly then
  pub exactly : (c : Call) (file : ℕ) → Answerable c → OneCommand c OPEN → OpenPermitted (sender c) c.tables (open_fields c.message FIRST) (open_name c.message) file
      → Says c 1 32 ↔ KeptOut c.tables file (access_mode c.message FIRST % 8) (access_mode c.message FIRST / 16 % 8)
  -- an open that the host adds has code 4, and that denies nothing. That it is not tested: demand 1's reasons of `open-file` have none for it
  pub host-code : (t : Tables) (uid tid process file access : ℕ) → (done : (add_open t uid tid process file access).number ≡ 0) → (add_open-frame t uid tid process file access done).new.sharing ≡ 4
  pub host-denies : (d : Doing) → Denies 4 d → ⊥

-- ---- "READ_ANDX may follow (CR 5's eight pairs become nine), where FID 0xFFFF means the file just opened; for 0xFFFF, and only then, demand 3's separate READ carries the FID returned."

pub record JustOpened : Type 0 where
  -- (the nine pairs: Request5.antt)
  pub follows : (next : ℕ) → MayFollow OPEN next ↔ (next ≡ READ)
  pub comes-first : (command : ℕ) → MayFollow command OPEN → ⊥
  -- the FID that a reply returns is the new open's, and none where the command is another
  pub returned : (c : Call) (d : OpenDone c.connection c.message c.tables c.memory (gives c)) → returned_fid (reply_in (gives c)) ≡ d.new.fid
  pub else-none : (c : Call) (span : Span) → Answerable c → Reading c.message (span ∷ []) → (header_command c.message ≡ OPEN → ⊥) → returned_fid (reply_in (gives c)) ≡ NOBODY
  -- so the READ behind an OPEN_ANDX, sent in its own message (demand 3's `OneToAMessage`), names the file just opened where it has 0xFFFF
  pub meant : (c : Call) (x y : Span) (others : List Span) → Answerable c → Reading c.message (x ∷ y ∷ others) → y.command ≡ READ → fid_after_andx c.message y.place ≡ 0xFFFF
      → (d : OpenDone c.connection (own_message c [] x) c.tables c.memory (gives (record { connection = c.connection; message = own_message c [] x; tables = c.tables; memory = c.memory; room = some_room })))
      → fid_after_andx (own_message c (x ∷ []) y) FIRST ≡ d.new.fid
  -- every other byte of it, and every byte of any other command's message, is as document 01 says
  pub rest : (c : Call) (spans : List Span) → Answerable c → Reading c.message spans → (x : Span) → In x spans → (just k : ℕ) → (k ≡ 37 → ⊥) → (k ≡ 38 → ⊥)
      → byte_at (own_span c.message just x) k ≡ byte_at (alone_span c.message x) k
  pub only_then : (c : Call) (spans : List Span) → Answerable c → Reading c.message spans → (x : Span) → In x spans → (just : ℕ)
      → (x.command ≡ READ → fid_after_andx c.message x.place ≡ 0xFFFF → ⊥) → own_span c.message just x ≡ alone_span c.message x
  -- and anywhere else 0xFFFF is nobody's FID: no open has it (1/6 by demand 1's `StatusForItsReason`)
  pub nobodys : (c : Call) (o : Open) → Answerable c → Admitted (sender c) c.tables 0xFFFF o → ⊥

pub record Request6 : Type 0 where
  pub catalogue : Catalogue
  pub on-the-wire : OnTheWire
  pub sharing : Sharing
  pub just-opened : JustOpened
  -- "Refusals, after 2/5: ..", the reply, the host's call, and that demands 1, 2 and 3 hold with it
  pub demand1 : Demand1
  pub demand2 : Demand2
  pub demand3 : Demand3

-- ---- the proof: each line cites the theorem that does the work

-- a block of 15 words has its ByteCount at 63 and its bytes from 65 on
name-at : (s : List ℕ) → word_count s FIRST ≡ 15 → open_name s ≡ take (le16_at s 63 - 1) (drop 65 s)
name-at s w = rw w

-- the FID that the OPEN_ANDX's reply returned stands in the READ's own message
just-meant : (c : Call) (x y : Span) (others : List Span) → Answerable c → Reading c.message (x ∷ y ∷ others) → y.command ≡ READ → fid_after_andx c.message y.place ≡ NOBODY
    → (d : OpenDone c.connection (own_message c [] x) c.tables c.memory (take-message c.connection (own_message c [] x) c.tables c.memory some_room))
    → fid_after_andx (own_message c (x ∷ []) y) FIRST ≡ d.new.fid
unfolding last_returned
just-meant c x y others a r read nobody d =
    let f : last_returned c.connection c.message some_room NOBODY (x ∷ []) c.tables c.memory ≡ d.new.fid =
    open-returns c.connection (own_message c [] x) c.tables c.memory some_room d in
    let low : d.new.fid ≤ 64 = d.added.given_out.high in
    carries-returned c.message r (not-long c.message a.fit.not-dropped) y (later (first refl)) (last_returned c.connection c.message some_room NOBODY (x ∷ []) c.tables c.memory) read nobody (omega arith) ∙ f

pub catalogue-so : Catalogue
catalogue-so = record { compared = same-name-plain; clauses = sound-plain; sharing-codes = λ t ok. ((sound-plain t).0 ok).sharings; rules = λ t ok. ((sound-plain t).0 ok).catalogue }

pub on-the-wire-so : OnTheWire
on-the-wire-so = record { row = λ s at. (λ h. open_row h refl, open-15); fields = λ c. refl; name = λ c w. name-at c.message w }

pub sharing-so : Sharing
sharing-so =
    record {
      exactly = λ c file a one p. open-shared-exact c.connection c.message one.reading c.tables c.memory c.room a.fit one.is p;
      host-code = λ t uid tid process file access done. (add_open-frame t uid tid process file access done).its-sharing;
      host-denies = host-denies-nothing;
    }

pub just-opened-so : JustOpened
just-opened-so =
    record {
      follows = λ next. (λ m. only-read m refl, λ e. rw e open-read);
      comes-first = λ command m. comes-first m refl;
      returned = λ c d. open-returns c.connection c.message c.tables c.memory c.room d;
      else-none = λ c span a r n. other-returns c.connection c.message r c.tables c.memory c.room a.fit n;
      meant = λ c x y others a r read nobody d. just-meant c x y others a r read nobody d;
      rest = λ c spans a r x i just k p q. carries-rest c.message r (not-long c.message a.fit.not-dropped) x i just k p q;
      only_then = λ c spans a r x i just n. carries-nothing c.message r (not-long c.message a.fit.not-dropped) x i just n;
      nobodys = λ c o a h. nobodys-fid (sender c) c.tables o a.fit.tables-sound h;
    }
