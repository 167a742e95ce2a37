-- A command is refused for conflict with a holder exactly if that holder is in its way, in plain words (document 02, CR 2: "Locks, reads and writes pass it up").
-- Assumes nothing.
use Rattle.std.specs.Prelude.{◌≡◌, ◌↔◌, ℕ, ◌+◌, ◌*◌, ◌/◌, ◌%◌, length, leb, eqb, Option, Some, None, Some as held_by}
use Rattle.std.proofs.Math.Path.{ap}
use native.Mathlib.Omega.{arith}
use Rattle.std.proofs.Math.Bool.{true, cond}
use mathlib.Core.List.{List, Memᴰ as In}
use Rattle.records.specs.declared.Open.{Open}
use Rattle.records.specs.declared.Lock.{Lock}
use Rattle.records.specs.declared.Tables.{Tables}
use Rattle.records.specs.Held.{opens_of, locks_of}
use Rattle.locks.specs.Wire.{range_size}
use Rattle.locks.specs.Answer.{bars, in_way, answers}
use Rattle.locks.specs.Request.{Grants, granted, blocked, grant_all, Result, after_grants, after_releases, settle, holder_at}
use Rattle.locks.specs.declared.types.Ask.{Ask}
use Rattle.locks.specs.declared.types.Holder.{Holder}
use Rattle.locks.specs.declared.types.Purpose.{Purpose}
use Rattle.soundness.specs.File.{file_of}
use Rattle.soundness.specs.Sound.{sound}
use Rattle.claims.proofs.SoundPlain.{sound-plain}
use Rattle.chain.specs.declared.block.LockingFields.{LockingFields}
use Rattle.invariants.specs.GivenCases.{cond-case}
use Rattle.message.specs.declared.caller.Caller.{Caller}
use Rattle.message.specs.Refusal.{status}
use Rattle.message.specs.declared.refusal.Status.{Status}
use Rattle.message.specs.declared.refusal.Refusal.TheVariants.{NoAccess}
use Rattle.message.specs.Command.{Given, refused, done, locking_end, locking_after, ask_by, unless_barred, barring, as_core}
use Rattle.demands.specs.LoneLock.{held_in, shared_in}
use Rattle.demands.specs.Admitted.{Admitted, no-session, before-tree, no-tree, NoOpenFor, before-open, no-open}
use Rattle.demands.specs.LockWords.{never, Opened}
use Rattle.demands.specs.CommandReasons.{locks_in}
use Rattle.demands.specs.HolderWalk.{Way, asked-exact}

-- refused for conflict with that holder
abbrev pub Names : Given → Holder → Type 0
Names g h = held_in g ≡ held_by h

-- one that is missing has another code
pub open_code : {c : Caller} {t : Tables} {fid : ℕ} {n : Status} → NoOpenFor c t fid n → n.code ≡ 33 → ⊥
unfolding status
open_code (before-open (before-tree (no-session h))) e = omega arith
open_code (before-open (no-tree s h)) e = omega arith
open_code (no-open s r h) e = omega arith

module _ (c : Caller) (t : Tables) (memory : List ℕ) (ok : sound t ≡ true) where
  -- ---- reads and writes

  -- each listed lock has an open
  listed-opened : Opened t (locks_of t)
  unfolding Opened
  listed-opened l m = ((sound-plain t).0 ok).lock-open l m

  -- what the walk found decides
  pub barred-names : (q : Ask) (x : Option ℕ) (next : Given) (h : Holder) → (Names next h → ⊥) → barring t q ≡ x → Names (unless_barred t x next) h
      → (j : ℕ) × (barring t q ≡ Some j) × (holder_at (locks_of t) j ≡ h)
  unfolding unless_barred held_in
  barred-names q (Some j) next h n e f = let same : holder_at (locks_of t) j ≡ h = cc in (j, e, same)
  barred-names q None next h n e f = absurd (n f)

  -- both are told by the access denied, by what is asked of the list and by what follows where nothing is in the way, which has no holder
  module _ (fid denied : ℕ) (from size : Open → ℕ) (purpose : Purpose) (h : Holder) where
    abbrev pub ask : Open → Ask
    ask o = ask_by c fid (from o) (size o) purpose

    module _ {Clash : Lock → Type 0} (clashes : (o : Open) (l : Lock) → (bars (ask o).purpose (ask o) l ≡ true) ↔ Clash l)
        (asks : (o : Open) (l : Lock) → answers (file_of (opens_of t)) (ask o) l ≡ in_way (file_of (opens_of t)) (ask o) l) (next : Open → Given) (others : (o : Open) → Names (next o) h → ⊥) where
      abbrev pub transfer : Open → Given
      transfer o = cond (eqb o.access denied) (refused NoAccess) (unless_barred t (barring t (ask o)) (next o))

      pub way-exact : {o : Open} → Admitted c t fid o → (l : Lock) → In l (locks_of t) → (answers (file_of (opens_of t)) (ask o) l ≡ true) ↔ Way t o (from o) (size o) Clash l
      unfolding ask_by
      way-exact {o} a = asked-exact t ok o a.opened.listed (ask o) a.opened.of-fid (clashes o) (asks o) (locks_of t) listed-opened

  -- ---- LOCKING

  abbrev pub files : ℕ → ℕ
  files n = file_of (opens_of t) n

  -- what a request's result comes to
  abbrev pub ends : Result → Given
  ends r = locking_after t memory (settle t.locks t.nlocks r)

  module _ (f : LockingFields) (area : List ℕ) (announced : length area ≡ (f.unlocks + f.locks) * range_size (eqb (f.kind / 16 % 2) 1)) (h : Holder) where
    abbrev pub walked : List Lock → Grants
    walked left = grant_all files f.fid (shared_in f) (locks_in c f area) left

    abbrev pub after-unlocks : Option (List Lock) → Given
    after-unlocks x = ends (after_releases files f.fid (shared_in f) (locks_in c f area) x)

    -- the grants that have a holder are those blocked by it
    pub grants-name : (x : Grants) → Names (ends (after_grants x)) h → x ≡ blocked h
    unfolding after_grants settle locking_after locking_end held_in
    grants-name (granted list) e =
        cond-case (λ (r : Result). Names (ends r) h → granted list ≡ blocked h) (leb (length list) 128) _ _ (λ _ e. never cc) (λ _ e. never cc) e
    grants-name (blocked g) e = let same : g ≡ h = cc in ap blocked same

  -- ---- the core commands

  -- another reply block, and no other refusal
  pub core-names : (g : Given) (h : Holder) → Names (as_core g) h ↔ Names g h
  unfolding as_core held_in
  core-names (refused why) h = (λ e. e, λ e. e)
  core-names (done u m said) h = (λ e. never cc, λ e. never cc)
  -- ---- all twelve
