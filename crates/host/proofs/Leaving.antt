-- What a call leaves in each of its ends: refused, or done.
-- Assumes nothing.
use mathlib.Core.Path.{◌≡◌, refl, ap, ◌∙◌}
use Prim.Native.Nat.{ℕ, ◌+◌, ◌<◌}
use mathlib.Core.Bool.{true, false, ◌&&◌}
use mathlib.Core.List.{List, map}
use native.Mathlib.Omega.{arith}
use lib.ListN.{drop}
use lib.Seq.{get_or-take, get_or-drop}
use Rattle.lists.specs.Truth.{both_hold, test-cases}
use Rattle.lists.specs.Walk.{all}
use Rattle.records.specs.declared.Tables.{Tables}
use Rattle.records.specs.Held.{sessions_of, trees_of, opens_of}
use Rattle.numbers.specs.Number.{numbered}
use Rattle.numbers.specs.Column.{uid_of, tid_of, fid_of}
use Rattle.soundness.specs.Sound.{sound, sound_records, within_room, file_ok}
use Rattle.removal.specs.Filter.{Numbered}
use Rattle.tables.specs.Words.{word, part, tables_of, in_use_fit}
use Rattle.host.specs.declared.answer.Returned.{Returned}
use Rattle.std.proofs.Common.{Result}
use Rattle.std.specs.Prelude.{Ok, Err}
use Rattle.host.specs.declared.answer.HostRefusal.{HostRefusal}
use Rattle.host.specs.Outcome.{row_number}
use Rattle.host.specs.declared.ending.One.{One}
use Rattle.host.specs.HostCall.{refused, done, drop_connection, end_one}
use Rattle.host.specs.OnWords.{on_words, Left}

-- the first word of a part, as code reads it
pub first_word : (w : List ℕ) (from n : ℕ) → 0 < n → word (part w from n) 0 ≡ word w from
first_word w from n h =
    let here : from + 0 ≡ from = omega arith in
    get_or-take n (drop from w) 0 0 h ∙ get_or-drop from w 0 0 ∙ ap (word w) here

-- ---- how a call ends

pub left-refused : (w : List ℕ) (why : HostRefusal) (a : Returned) → a ≡ refused (row_number why) (tables_of w) → Left a w w (Err why)
unfolding refused
left-refused w why a e =
    record {
      row = rw e;
      given = rw e;
      tables = rw e;
      stays = λ _. refl;
      fit = λ f. f;
    }

pub left-done : (w v : List ℕ) (id : ℕ) (a : Returned) (t : Tables) → a ≡ done id t → tables_of v ≡ t → (in_use_fit w ≡ true → in_use_fit v ≡ true)
    → Left a w v (Ok id)
unfolding done
left-done w v id a t e held fit =
    record {
      row = rw e;
      given = rw e;
      tables = rw e held;
      stays = λ n. absurd (n refl);
      fit = fit;
    }

-- ---- a call on words, by whether they are words of sound tables

pub on-unsound : (w : List ℕ) (a : Returned) → (in_use_fit w && sound (tables_of w)) ≡ false → (sound (tables_of w) ≡ false → a ≡ refused 4 (tables_of w))
    → on_words w a ≡ refused 4 (tables_of w)
unfolding on_words
on-unsound w a e says =
    test-cases (in_use_fit w)
    (λ f. let s : sound (tables_of w) ≡ false = rw f at e in rw f (says s))
    (λ f. rw f)

pub on-sound : (w : List ℕ) (a : Returned) → (in_use_fit w && sound (tables_of w)) ≡ true → on_words w a ≡ a
unfolding on_words
on-sound w a e = rw (both_hold (in_use_fit w) (sound (tables_of w)) e).0

pub left-same : (a b : Returned) (w v : List ℕ) (r : Result ℕ HostRefusal) → b ≡ a → Left a w v r → Left b w v r
left-same a b w v r e l = rw e l

-- ---- what sound tables are known for

pub sound-numbered : (t : Tables) → sound t ≡ true → Numbered t
unfolding sound sound_records
sound-numbered t e =
    let a = both_hold (within_room t.nsessions t.ntrees t.nopens t.nlocks) _ e in
    let b = both_hold (all file_ok t.files) _ a.1 in
    let c = both_hold (sound_records (sessions_of t) (trees_of t) (opens_of t)) _ b.1 in
    let d = both_hold (numbered 16 (map uid_of (sessions_of t))) _ c.0 in
    let f = both_hold (numbered 32 (map tid_of (trees_of t))) _ d.1 in
    let g = both_hold (numbered 64 (map fid_of (opens_of t))) _ f.1 in
    record { uids = d.0; tids = f.0; fids = g.0 }

-- ---- a connection dropped

pub connection-unsound : (t : Tables) (connection : ℕ) → sound t ≡ false → drop_connection t connection ≡ refused 4 t
unfolding drop_connection
connection-unsound t connection e = rw e

-- ---- one record ended

pub one-unsound : (t : Tables) (one : One) → sound t ≡ false → end_one t one ≡ refused 4 t
unfolding end_one
one-unsound t one e = rw e
