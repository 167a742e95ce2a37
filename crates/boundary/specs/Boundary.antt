-- The calls as the host makes them, on the words that it lends. A word in use that its field cannot hold is refused with 4 (tables
-- not sound); otherwise a call is the core's own on the tables that the words hold. A call that is done leaves words that hold the
-- tables left, and the number given out; one that is refused leaves everything as it was. Assumes nothing.
use Rattle.std.specs.Prelude.{◌≡◌, ℕ, ◌+◌, ◌*◌, Bool, true, cond, not, ◌&&◌, ◌||◌, List, [], ◌∷◌, length, eqb, ltb, None as Nobody, Some as held_by}
use Rattle.records.specs.declared.Tables.{Tables}
use Rattle.soundness.specs.Sound.{sound}
use Rattle.host.specs.declared.answer.Returned.{Returned}
use Rattle.host.specs.declared.ending.One.{One}
use Rattle.host.specs.HostCall.{add_session, add_tree, add_open, load_file, load_memory, drop_connection, ask_unchanged, end_one}
use Rattle.host.specs.OnWords.{set_on_sound}
use Rattle.message.specs.Message.{Taken, not_taken, take-message}
use Rattle.message.specs.HeldBy.{HeldBy}
use Rattle.tables.specs.Words.{in_use_fit, tables_of, session_limits, tree_limits, open_limits, lock_limits, name_limits}
use Rattle.boundary.specs.OutParameter.{on_done}

-- how many words the tables are: of sessions, trees, opens, locks and names the count and the records, and the files, two words each
unfoldable pub table_words : ℕ
table_words =
    (1 + 16 * length session_limits) + (1 + 32 * length tree_limits) + (1 + 64 * length open_limits) + (1 + 128 * length lock_limits) + 16 * 2 + (1 + 16 * length name_limits)

-- words that no call answers with 4: those in use fit, and the tables that they hold are sound
unfoldable pub ready : List ℕ → Bool
ready w = in_use_fit w && sound (tables_of w)

-- what a call on w that returns r leaves for the next one: the words out, where the core left the tables t
pub record ForNext (w out : List ℕ) (r : ℕ) (t : Tables) : Type 0 where
  -- of a call that is done, the words hold the core's tables, whole
  pub held : r ≡ 0 → tables_of out ≡ t
  -- document 01, "What a call returns": "A refusal of this table writes nothing at all"
  pub kept : (r ≡ 0 → ⊥) → out ≡ w
  -- document 01, "Tables and room": "Every call on sound tables leaves sound tables"
  pub again : ready w ≡ true → ready out ≡ true

-- the number returned, where the core answers a
unfoldable pub number_of : List ℕ → Returned → ℕ
number_of w a = cond (in_use_fit w) a.number 4

-- the call is done
unfoldable pub is_done : List ℕ → Returned → Bool
is_done w a = in_use_fit w && eqb a.number 0

-- the out-parameter after the call
unfoldable pub id_after : ℕ → List ℕ → Returned → ℕ
id_after id w a = cond (is_done w a) a.id id

-- ---- what the core answers, on words

unfoldable pub session_added : List ℕ → ℕ → Returned
session_added w connection = add_session (tables_of w) connection

unfoldable pub tree_added : List ℕ → ℕ → ℕ → Returned
tree_added w uid right = add_tree (tables_of w) uid right

unfoldable pub open_added : List ℕ → ℕ → ℕ → ℕ → ℕ → ℕ → Returned
open_added w uid tid process file access = add_open (tables_of w) uid tid process file access

unfoldable pub connection_dropped : List ℕ → ℕ → Returned
connection_dropped w connection = drop_connection (tables_of w) connection

unfoldable pub file_loaded : List ℕ → ℕ → List ℕ → List ℕ → Returned
file_loaded w file contents memory = load_file (tables_of w) file contents memory

-- a load: file memory that is not 65,536 bytes is refused before the words are looked at
unfoldable pub load_number_of : List ℕ → ℕ → List ℕ → List ℕ → ℕ
load_number_of w file contents memory = cond (not (eqb (length memory) 65536)) 2 (number_of w (file_loaded w file contents memory))

unfoldable pub memory_after : List ℕ → ℕ → List ℕ → List ℕ → List ℕ
memory_after w file contents memory =
    cond (is_done w (file_loaded w file contents memory)) (load_memory (tables_of w) file contents memory) memory

-- the catalogue (document 02, CR 6), 225 words in the form of the tables' own: a word of a name in use that is no byte is out of range as the
-- catalogue's rules have it, 7 behind 4
unfoldable pub catalogue_set : List ℕ → List ℕ → Returned
catalogue_set w given = set_on_sound w given

-- whether an open has read and its file was not changed since, as far as the change numbers tell (document 02, CR 8)
unfoldable pub unchanged_asked : List ℕ → ℕ → Returned
unchanged_asked w fid = ask_unchanged (tables_of w) fid

-- one session, tree or open ended by its number
unfoldable pub one_ended : List ℕ → One → Returned
one_ended w one = end_one (tables_of w) one

-- ---- a message

-- reply room under 12,292 bytes, or file memory not 65,536
unfoldable pub wrong_room : List ℕ → List ℕ → Bool
wrong_room memory room = ltb (length room) 12292 || not (eqb (length memory) 65536)

-- a message taken over words, the numbers in the order 2, 4, 1: a word in use that its field cannot hold is "tables not sound";
-- words in use that fit are tables, and demand 2's definition says the rest
unfoldable pub message_taken : ℕ → List ℕ → List ℕ → List ℕ → List ℕ → Taken
message_taken connection s w memory room =
    cond (wrong_room memory room) (not_taken 2 (tables_of w) memory room)
    (cond (in_use_fit w) (take-message connection s (tables_of w) memory room) (not_taken 4 (tables_of w) memory room))

-- the reply's length goes to the out-parameter, where a reply was written
unfoldable pub length_after : ℕ → Taken → ℕ
length_after before k = on_done k.number k.length before

-- document 02, CR 2: "the host gets the holder's FID and process beside the reply". Six words: 1, then of the lock in the way the FID, the
-- process, the place in the list as it then stood, the offset and the length; all zero where there is none.
unfoldable pub holder_words : HeldBy → List ℕ
holder_words Nobody = 0 ∷ 0 ∷ 0 ∷ 0 ∷ 0 ∷ 0 ∷ []
holder_words (held_by h) = 1 ∷ h.lock.fid ∷ h.lock.process ∷ h.place ∷ h.lock.offset ∷ h.lock.length ∷ []

unfoldable pub holder_after : List ℕ → Taken → List ℕ
holder_after before k = on_done k.number (holder_words k.holder) before
