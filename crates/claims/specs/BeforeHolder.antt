-- Document 02, CR 2: "The reply bytes do not change." What a message gives, the holder left out, is what it gives where a conflict is yes or no and Status has one form
-- (YesOrNo.antt): number, reply, tables and files, of every message without CR 7's bit; and of every message at all but the reply's Status and that bit. Assumes nothing.
use Rattle.std.specs.Prelude.{◌≡◌, ℕ, zero, suc, ◌+◌, ◌<◌, Bool, true, false, cond, ◌||◌, length, get_or, set, leb, eqb, Option, Some, None}
use Rattle.std.proofs.Math.Path.{refl}
use Rattle.std.proofs.Common.{ap, arith}
use mathlib.Core.List.{List, [], ◌∷◌, ◌++◌}
use Rattle.std.proofs.lemmas.Bool.{eqb-false}
use Rattle.lists.specs.Walk.{any, found_from, found}
use Rattle.lists.specs.Put.{put}
use Rattle.records.specs.declared.Lock.{Lock}
use Rattle.records.specs.declared.Open.{Open}
use Rattle.records.specs.declared.Tables.{Tables}
use Rattle.records.specs.Empty.{no_open}
use Rattle.records.specs.Held.{sessions_of, trees_of, opens_of, locks_of, with_locks}
use Rattle.locks.specs.Answer.{answers}
use Rattle.locks.specs.Request.{ask_of, lock_of, after_walk, grant_all, Result, after_grants, settle}
use Rattle.locks.specs.declared.types.Ask.{Ask}
use Rattle.locks.specs.declared.types.LockRange.{LockRange}
use Rattle.locks.specs.declared.types.Purpose.TheVariants.{Grant, Read as Reading}
use Rattle.soundness.specs.File.{file_of}
use Rattle.soundness.specs.Lookup.{is_tree}
use Rattle.chain.specs.declared.block.ReadFields.{ReadFields}
use Rattle.chain.specs.declared.block.Block.{Block}
use Rattle.message.specs.declared.caller.Caller.{Caller}
use Rattle.message.specs.Refusal.{status, forms_of}
use Rattle.message.specs.Command.{plain, Given, refused, done, is_session, with_session, with_tree, is_open, open_at, with_open, with_lock_list, locking_end, locking_after, ask_by, unless_barred, barring, do_read, writing, as_core}
use Rattle.message.specs.JustOpened.{opened_by}
use Rattle.message.specs.Message.{link_to, Ran, after, after_given, reply_of, Taken, replied}
use Rattle.message.specs.Reply.{two, four, reply_header, reply_block, reply_size}
use Rattle.claims.specs.YesOrNo.{Gave, refused_with, onward, plainly, open_in, opened, grants_before, unless_conflict, read_before, writing_before, core_gave, RanBefore, refused_before, in_front, after_gave, TakenBefore, header01, replied_before}

-- what the call gives back, the holder left out
unfoldable pub without_holder : Taken → TakenBefore
without_holder k = record { number = k.number; length = k.length; tables = k.tables; memory = k.memory; room = k.room }

-- what a chain leaves, the holder left out
unfoldable pub ran_without : Ran → RanBefore
ran_without r = record { status = r.forms.status; tables = r.tables; memory = r.memory; blocks = r.blocks }

-- the same choice behind two functions
pub both-chosen : {A B C : Type 0} (f : A → C) (g : B → C) (b : Bool) {x y : A} {u v : B} → f x ≡ g u → f y ≡ g v → f (cond b x y) ≡ g (cond b u v)
both-chosen f g true p q = p
both-chosen f g false p q = q

-- and before a function and behind it
pub chosen : {A B : Type 0} (f : A → B) (b : Bool) {x y : B} {u v : A} → x ≡ f u → y ≡ f v → cond b x y ≡ f (cond b u v)
chosen f b p q = both-chosen (λ x. x) f b p q

-- ---- a conflict

-- whether a place is given
unfoldable pub is_at : Option ℕ → Bool
is_at (Some k) = true
is_at None = false

-- an element in front of the others
at_first : (b : Bool) (k : ℕ) (f : Option ℕ) (others : Bool) → is_at f ≡ others → is_at (cond b (Some k) f) ≡ (b || others)
unfolding is_at
at_first true k f others e = refl
at_first false k f others e = e

module _ {A : Type 0} where
  from-any : (k : ℕ) (p : A → Bool) (xs : List A) → is_at (found_from k p xs) ≡ any p xs
  unfolding found_from any is_at
  from-any k p [] = refl
  from-any k p (x ∷ xs) = at_first (p x) k (found_from (suc k) p xs) (any p xs) (from-any (suc k) p xs)

  -- a place is found exactly if some element passes
  found-any : (p : A → Bool) (xs : List A) → is_at (found p xs) ≡ any p xs
  unfolding found
  found-any p xs = from-any 0 p xs

-- "instead of yes or no, the place of the first conflicting lock": what is made of a place is 1/33, and what is made of none is what follows a no
conflict-before : (t : Tables) (q : Ask) (list : List Lock) (x : Gave) (f : Option ℕ → Gave)
    → ((k : ℕ) → refused_with (status 1 33) ≡ f (Some k)) → x ≡ f None
    → unless_conflict t q list x ≡ f (found (answers (file_of (opens_of t)) q) list)
unfolding unless_conflict is_at
conflict-before t q list x f there clear =
    by_place (found (answers (file_of (opens_of t)) q) list) (any (answers (file_of (opens_of t)) q) list) (found-any (answers (file_of (opens_of t)) q) list)
  where
    by_place : (place : Option ℕ) (b : Bool) → is_at place ≡ b → cond b (refused_with (status 1 33)) x ≡ f place
    by_place (Some k) b e = rw (← e) (there k)
    by_place None b e = rw (← e) clear

-- ---- LOCKING

module _ (t : Tables) (memory : List ℕ) where
  -- what a request's result gives
  unfoldable pub result_gives : Result → Gave
  result_gives r = plainly (locking_after t memory (settle t.locks t.nlocks r))

  -- its ranges, one after the other
  pub grants-before : (fid : ℕ) (shared : Bool) (rs : List LockRange) (list : List Lock)
      → grants_before t memory fid shared rs list ≡ result_gives (after_grants (grant_all (file_of (opens_of t)) fid shared rs list))
  unfolding grants_before grant_all after_grants after_walk result_gives plainly onward locking_after settle locking_end with_lock_list with_locks forms_of
  grants-before fid shared [] list = chosen result_gives (leb (length list) 128) refl refl
  grants-before fid shared (r ∷ rs) list =
      conflict-before t (ask_of fid (Grant shared) r) list _
      (λ (f : Option ℕ). result_gives (after_grants (after_walk f list (grant_all (file_of (opens_of t)) fid shared rs (list ++ (lock_of fid shared r ∷ []))))))
      (λ k. refl) (grants-before fid shared rs (list ++ (lock_of fid shared r ∷ [])))

-- ---- who may ask

-- what follows with the open that was found
open-at-before : (f : Option ℕ) (opens : List Open) (t : Tables) (x : Open → Gave) (y : Open → Given) → ((o : Open) → x o ≡ plainly (y o))
    → onward (open_at f opens (λ o. done t [] plain)) (λ _. x (open_in f opens)) ≡ plainly (open_at f opens y)
unfolding onward plainly open_at open_in
open-at-before (Some j) opens t x y e = e (get_or opens j no_open)
open-at-before None opens t x y e = refl

-- a choice, and what follows it
on-choice : (k : Gave → Gave) (b : Bool) (u v x y : Given) → onward u k ≡ plainly x → onward v k ≡ plainly y → onward (cond b u v) k ≡ plainly (cond b x y)
on-choice k true u v x y p q = p
on-choice k false u v x y p q = q

module _ (c : Caller) (t : Tables) where
  -- the tests of a command on an open, before what follows
  pub open-before : (fid : ℕ) (x : Open → Gave) (y : Open → Given) → ((o : Open) → x o ≡ plainly (y o)) → opened c t fid x ≡ plainly (with_open c t fid y)
  unfolding opened with_open with_tree with_session onward plainly
  open-before fid x y e =
      on-choice _ (any (is_session c) (sessions_of t)) _ _ _ _
      (on-choice _ (any (is_tree c.tid c.uid) (trees_of t)) _ _ _ _ (open-at-before (found (is_open c fid) (opens_of t)) (opens_of t) t x y e) refl) refl

  -- a read or a write against the locks
  transfer-before : (q : Ask) (x : Gave) (y : Given) → x ≡ plainly y → unless_conflict t q (locks_of t) x ≡ plainly (unless_barred t (barring t q) y)
  unfolding unless_barred barring plainly onward forms_of
  transfer-before q x y h = conflict-before t q (locks_of t) x (λ (f : Option ℕ). plainly (unless_barred t f y)) (λ k. refl) h

  -- every write, whatever it asks of the locks and leaves
  pub writing-before : (fid : ℕ) (ask : Open → Ask) (past : Bool) (x : Open → Gave) (y : Open → Given) → ((o : Open) → x o ≡ plainly (y o))
      → writing_before c t fid ask past x ≡ plainly (writing c t fid ask past y)
  unfolding writing_before plainly onward forms_of
  writing-before fid ask past x y e =
      open-before fid _ _
      (λ o. chosen plainly (eqb o.access 0) refl (transfer-before (ask o) _ _ (chosen plainly past refl (e o))))

-- a command in its counterpart's way
pub core-before : (x : Gave) (g : Given) → x ≡ plainly g → core_gave x ≡ plainly (as_core g)
unfolding core_gave as_core plainly onward
core-before x (refused why) e = ap core_gave e
core-before x (done t memory said) e = ap core_gave e

module _ (c : Caller) (t : Tables) (memory : List ℕ) where
  pub read-before : (f : ReadFields) → read_before c t memory f ≡ plainly (do_read c t memory f)
  unfolding read_before do_read plainly onward forms_of
  read-before f =
      open-before c t f.fid _ _
      (λ o. chosen plainly (eqb o.access 1) refl (transfer-before c t (ask_by c f.fid f.offset f.max Reading) _ _ refl))

-- ---- a message

-- a command's end, and the commands behind it
pub given-before : (g : Given) (bs : List Block) (place : ℕ) (t : Tables) (memory : List ℕ) (x : ℕ → ℕ → Tables → List ℕ → RanBefore)
    (y : ℕ → ℕ → Tables → List ℕ → Ran) → ((j p : ℕ) (u : Tables) (m : List ℕ) → x j p u m ≡ ran_without (y j p u m))
    → after_gave (plainly g) bs place t memory x ≡ ran_without (after_given g bs place t memory y)
unfolding after_gave after_given plainly onward ran_without refused_before in_front after forms_of
given-before (refused why) bs place t memory x y e = refl
given-before (done u m said) bs place t memory x y e =
    ap (in_front (reply_block said place (link_to bs (place + reply_size said)))) (e (opened_by said) (place + reply_size said) u m)

pub bit-clear : (b : ℕ) → b < 2 → eqb b 1 ≡ false → b ≡ 0
bit-clear zero h e = refl
bit-clear (suc n) h e = absurd (eqb-false (suc n) 1 e (omega arith))

-- a reply but for Status and the upper byte of Flags2, bytes 5 to 8 and 11
unfoldable pub blank : List ℕ → List ℕ
blank reply = set (put reply 5 (0 ∷ 0 ∷ 0 ∷ 0 ∷ [])) 11 0

-- of every message, with the bit or without: all but these bytes
unfoldable pub but_status : TakenBefore → TakenBefore
but_status k = record { number = k.number; length = k.length; tables = k.tables; memory = k.memory; room = blank k.room }

pub status-before : (s room : List ℕ) (r : Ran) → but_status (replied_before s room (ran_without r)) ≡ but_status (without_holder (replied s room r))
unfolding but_status blank replied_before ran_without without_holder replied reply_of reply_header header01 two four put
status-before s room r = refl
