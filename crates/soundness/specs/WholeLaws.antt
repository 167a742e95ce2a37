-- The whole test: tables by number say what the records say, and the tests table by table are soundness of words in use that fit.
-- Assumes nothing.
use Rattle.std.specs.Prelude.{◌≡◌, refl, ℕ, zero, suc, ◌+◌, ◌*◌, ◌≤◌, ◌<◌, Bool, true, false, cond, not, ◌&&◌, ◌||◌, List, [], ◌∷◌, map, length, take, drop, get_or, leb, eqb}
use Rattle.std.proofs.Common.{sym, ap, ◌∙◌, add-zero, arith, get_or-take, get_or-drop, leb-true, eq-eqb, ne_eqb, eqb-true}
use Rattle.std.proofs.Math.Path.{fun_ext}
use Rattle.std.proofs.Math.Decide.{ℕ_discrete}
use Rattle.std.proofs.lemmas.Bool.{not-true}
use Rattle.lists.specs.Truth.{both_hold, hold-both, neither-holds, test-cases}
use Rattle.lists.specs.Walk.{any, all, all_tails}
use Rattle.locks.specs.Answer.{file_in}
use Rattle.locks.specs.Range.{passes_end}
use Rattle.records.specs.declared.Session.{Session}
use Rattle.records.specs.declared.Tree.{Tree}
use Rattle.records.specs.declared.Open.{Open}
use Rattle.records.specs.declared.Lock.{Lock}
use Rattle.numbers.specs.Number.{contains, number_ok, numbered}
use Rattle.numbers.specs.Column.{uid_of, tid_of, fid_of}
use Rattle.tables.specs.Words.{word, part, array_of, tables_of, in_use_fit, table_fits, file_array, name_array, session_array, tree_array, open_array, session_of, tree_of, open_of, session_limits, tree_limits, open_limits, lock_limits, name_limits}
use Rattle.tables.specs.Written.{sessions_in, trees_in, opens_in, locks_in}
use Rattle.catalogue.specs.Name.{catalogue_ok}
use Rattle.soundness.specs.File.{file_of}
use Rattle.soundness.specs.Sound.{within_room, file_ok, tree_ok, permits, holds_open, sharing_ok, open_ok, lock_ok, agree_all, sound_records, sound_locks, seen_ok, sound}
use Rattle.soundness.specs.SoundLaws.{fits-is-ok}
use Rattle.soundness.specs.LockFits.{lock_fits}
use Rattle.numbers.specs.ByNumber.{last-false, entry, entry-mark, by_number, by_number-serves}
use Rattle.soundness.specs.InWords.{table_in_order, code_of, tree_code, tree_in, code_holds, open_in}
use Rattle.soundness.specs.InWordsLaws.{code-none}
use Rattle.soundness.specs.AgreeLaws.{in_bounds}

-- ---- sessions: a UID is marked exactly if it is in use

pub uids-serve : (ss : List Session) (uids : List ℕ) → numbered 16 (map uid_of ss) ≡ true → uids ≡ by_number uid_of (λ _. 1) 0 17 ss
    → tree_in uids ≡ tree_ok (map uid_of ss)
unfolding tree_in tree_ok
uids-serve ss uids e q =
    fun_ext
    (λ t.
    ap (λ (b : Bool). leb t.right 1 && b)
    (ap (λ (l : List ℕ). eqb (get_or l t.uid 0) 1) q
    ∙ ap (λ (x : ℕ). eqb x 1) (by_number-serves uid_of (λ _. 1) 0 16 ss t.uid e)
    ∙ entry-mark uid_of ss t.uid))

-- ---- trees: the code of a TID tells whether its tree holds an open

-- a code tells the UID and the right that it was made of
code_holds_lem : (uid right other access : ℕ) → right ≤ 1 → code_holds (code_of uid right) other access ≡ eqb uid other && permits right access
unfolding code_holds permits
code_holds_lem uid zero other access h =
    rw (ne_eqb (code_of uid 0) (2 * other + 2) (λ e. let n : ⊥ = omega arith in n))
    (elim (ℕ_discrete uid other) [
      | yes e ↦ rw (eq-eqb (code_of uid 0) (2 * other + 1) (omega arith), eq-eqb uid other e)
      | no e ↦ rw (ne_eqb (code_of uid 0) (2 * other + 1) (λ q. e (omega arith)), ne_eqb uid other e)
    ])
code_holds_lem uid (suc zero) other access h =
    rw (ne_eqb (code_of uid 1) (2 * other + 1) (λ e. let n : ⊥ = omega arith in n))
    (elim (ℕ_discrete uid other) [
      | yes e ↦ rw (eq-eqb (code_of uid 1) (2 * other + 2) (omega arith), eq-eqb uid other e)
      | no e ↦ rw (ne_eqb (code_of uid 1) (2 * other + 2) (λ q. e (omega arith)), ne_eqb uid other e)
    ])
code_holds_lem uid (suc (suc right)) other access h = absurd (let n : ⊥ = omega arith in n)

-- no tree with that TID: none holds the open
none-holds : (o : Open) (ts : List Tree) → contains o.tid (map tid_of ts) ≡ false → any (holds_open o) ts ≡ false
unfolding contains any holds_open
none-holds o [] e = refl
none-holds o (t ∷ ts) e =
    let b = neither-holds (eqb t.tid o.tid) (contains o.tid (map tid_of ts)) e in
    rw b.0 (none-holds o ts b.1)

or-none : (b : Bool) → (b || false) ≡ b
or-none true = refl
or-none false = refl

number-fresh : (limit x : ℕ) (others : List ℕ) → number_ok limit x others ≡ true → contains x others ≡ false
unfolding number_ok
number-fresh limit x others e =
    not-true (contains x others) (both_hold (leb x limit) (not (contains x others)) (both_hold (leb 1 x) _ e).1).1

right-small : (us : List ℕ) (t : Tree) → tree_ok us t ≡ true → t.right ≤ 1
unfolding tree_ok
right-small us t e = leb-true t.right 1 (both_hold (leb t.right 1) _ e).0

entry-holds : (us : List ℕ) (ts : List Tree) (o : Open) → numbered 32 (map tid_of ts) ≡ true → all (tree_ok us) ts ≡ true
    → code_holds (entry tid_of tree_code 0 ts o.tid) o.uid o.access ≡ any (holds_open o) ts
unfolding entry any all numbered all_tails holds_open
entry-holds us [] o e f = code-none o.uid o.access
entry-holds us (t ∷ ts) o e f =
    let a = both_hold (number_ok 32 t.tid (map tid_of ts)) (numbered 32 (map tid_of ts)) e in
    let b = both_hold (tree_ok us t) (all (tree_ok us) ts) f in
    test-cases (eqb t.tid o.tid)
    (λ same.
    let fresh = number-fresh 32 t.tid (map tid_of ts) a.0 in
    let other : contains o.tid (map tid_of ts) ≡ false = rw (eqb-true t.tid o.tid same) at fresh in
    rw (same, none-holds o ts other)
    (code_holds_lem t.uid t.right o.uid o.access (right-small us t b.0) ∙ sym (or-none (eqb t.uid o.uid && permits t.right o.access))))
    (λ apart. rw apart (entry-holds us ts o a.1 b.1))

pub codes-serve : (us : List ℕ) (ts : List Tree) (codes : List ℕ) → numbered 32 (map tid_of ts) ≡ true → all (tree_ok us) ts ≡ true
    → codes ≡ by_number tid_of tree_code 0 33 ts → open_in codes ≡ open_ok ts
unfolding open_in open_ok
codes-serve us ts codes e f q =
    fun_ext
    (λ o.
    ap (λ (b : Bool). leb o.file 15 && (leb o.access 2 && (sharing_ok o.sharing && b)))
    (ap (λ (l : List ℕ). code_holds (get_or l o.tid 0) o.uid o.access) q
    ∙ ap (λ (x : ℕ). code_holds x o.uid o.access) (by_number-serves tid_of tree_code 0 32 ts o.tid e)
    ∙ entry-holds us ts o e f))

-- ---- opens: the file of a FID

entry-file : (os : List Open) (k : ℕ) → entry fid_of (λ o. o.file) 255 os k ≡ file_of os k
unfolding entry file_of
entry-file [] k = refl
entry-file (o ∷ os) k = ap (cond (eqb o.fid k) o.file) (entry-file os k)

pub files-serve : (os : List Open) (files : List ℕ) → numbered 64 (map fid_of os) ≡ true → files ≡ by_number fid_of (λ o. o.file) 255 65 os
    → file_in files ≡ file_of os
unfolding file_in
files-serve os files e q =
    fun_ext
    (λ k. ap (λ (l : List ℕ). get_or l k 255) q ∙ by_number-serves fid_of (λ o. o.file) 255 64 os k e ∙ entry-file os k)

-- ---- locks that keep their rules are in bounds

pub fits-in-bounds : (file : ℕ → ℕ) (ls : List Lock) → all (lock_fits file) ls ≡ true → all in_bounds ls ≡ true
unfolding all lock_fits in_bounds
fits-in-bounds file [] e = refl
fits-in-bounds file (l ∷ ls) e =
    let a = both_hold (lock_fits file l) (all (lock_fits file) ls) e in
    let b = both_hold (not (passes_end l.offset l.length)) _ a.0 in
    hold-both (in_bounds l) (all in_bounds ls) b.0 (fits-in-bounds file ls a.1)

-- ---- all tables

-- the first word of a part
pub part-first : (w : List ℕ) (from n : ℕ) → 0 < n → word (part w from n) 0 ≡ word w from
part-first w from n h = get_or-take n (drop from w) 0 0 h ∙ get_or-drop from w 0 0 ∙ ap (word w) (add-zero from)

judged : (room files fs ns ft nt at fo nn ao fl lo la fn ca se : Bool)
    → (fs && (ft && (fo && (fl && fn)))) && (room && (files && ((ns && (nt && (nn && (at && ao)))) && ((lo && la) && (ca && se)))))
    ≡ room && (files && ((fs && (ns && true)) && ((ft && (nt && at)) && ((fo && (nn && ao)) && (((fl && lo) && la) && ((fn && ca) && se))))))
judged false files fs ns ft nt at fo nn ao fl lo la fn ca se = simp last-false
judged true false fs ns ft nt at fo nn ao fl lo la fn ca se = simp last-false
judged true true false ns ft nt at fo nn ao fl lo la fn ca se = refl
judged true true true false ft nt at fo nn ao fl lo la fn ca se = simp last-false
judged true true true true false nt at fo nn ao fl lo la fn ca se = refl
judged true true true true true false at fo nn ao fl lo la fn ca se = simp last-false
judged true true true true true true at false nn ao fl lo la fn ca se = simp last-false
judged true true true true true true at true false ao fl lo la fn ca se = simp last-false
judged true true true true true true false true true ao fl lo la fn ca se = simp last-false
judged true true true true true true true true true false fl lo la fn ca se = simp last-false
judged true true true true true true true true true true false lo la fn ca se = refl
judged true true true true true true true true true true true false la fn ca se = simp last-false
judged true true true true true true true true true true true true false fn ca se = simp last-false
judged true true true true true true true true true true true true true false ca se = refl
judged true true true true true true true true true true true true true true ca se = refl

all_true : {A : Type 0} (xs : List A) → all (λ _. true) xs ≡ true
unfolding all
all_true [] = refl
all_true (x ∷ xs) = all_true xs

-- the tests table by table
pub sound-words : (w : List ℕ) → in_use_fit w && sound (tables_of w)
    ≡ within_room (word (part w 0 33) 0) (word (part w 33 97) 0) (word (part w 130 577) 0) (word (part w 707 641) 0)
    && (all file_ok (file_array (part w 1348 32))
    && (table_in_order session_limits 16 session_of 16 uid_of (λ _. true) (part w 0 33)
    && (table_in_order tree_limits 32 tree_of 32 tid_of (tree_ok (map uid_of (sessions_in (part w 0 33)))) (part w 33 97)
    && (table_in_order open_limits 64 open_of 64 fid_of (open_ok (trees_in (part w 33 97))) (part w 130 577)
    && (((table_fits lock_limits 128 (part w 707 641) && all (lock_ok (map fid_of (opens_in (part w 130 577)))) (locks_in (part w 707 641)))
    && agree_all (file_of (opens_in (part w 130 577))) (locks_in (part w 707 641)))
    && ((table_fits name_limits 16 (part w 1380 225) && catalogue_ok (name_array (part w 1380 225)) (word (part w 1380 225) 0))
    && all (seen_ok (file_array (part w 1348 32))) (opens_in (part w 130 577))))))))
unfolding in_use_fit sound sound_records sound_locks tables_of table_in_order session_array tree_array open_array
sound-words w =
    let ss = sessions_in (part w 0 33) in
    let ts = trees_in (part w 33 97) in
    let os = opens_in (part w 130 577) in
    let ls = locks_in (part w 707 641) in
    rw (all_true ss)
    (judged (within_room (word (part w 0 33) 0) (word (part w 33 97) 0) (word (part w 130 577) 0) (word (part w 707 641) 0)) (all file_ok (file_array (part w 1348 32)))
    (table_fits session_limits 16 (part w 0 33)) (numbered 16 (map uid_of ss))
    (table_fits tree_limits 32 (part w 33 97)) (numbered 32 (map tid_of ts)) (all (tree_ok (map uid_of ss)) ts)
    (table_fits open_limits 64 (part w 130 577)) (numbered 64 (map fid_of os)) (all (open_ok ts) os)
    (table_fits lock_limits 128 (part w 707 641)) (all (lock_ok (map fid_of os)) ls) (agree_all (file_of os) ls)
    (table_fits name_limits 16 (part w 1380 225)) (catalogue_ok (name_array (part w 1380 225)) (word (part w 1380 225) 0)) (all (seen_ok (file_array (part w 1348 32))) os))

-- the counts, as they stand in all words
pub counts : (w : List ℕ) → within_room (word (part w 0 33) 0) (word (part w 33 97) 0) (word (part w 130 577) 0) (word (part w 707 641) 0)
    ≡ within_room (word w 0) (word w 33) (word w 130) (word w 707)
counts w =
    rw (part-first w 0 33 (omega arith), part-first w 33 97 (omega arith), part-first w 130 577 (omega arith), part-first w 707 641 (omega arith))

-- a table in order has its numbers in order, and each of its records passes
pub order-told : {A : Type 0} (limits : List ℕ) (n : ℕ) (f : List ℕ → A) (limit : ℕ) (key : A → ℕ) (ok : A → Bool) (w : List ℕ)
    → table_in_order limits n f limit key ok w ≡ true
    → (numbered limit (map key (take (word w 0) (array_of f (length limits) n w))) ≡ true) × (all ok (take (word w 0) (array_of f (length limits) n w)) ≡ true)
unfolding table_in_order
order-told limits n f limit key ok w e = both_hold _ _ (both_hold (table_fits limits n w) _ e).1

-- what is tested of trees, opens and locks off the tables by number is what the rules say, where the tables before are in order
pub trees-judged : (w v uids : List ℕ) → table_in_order session_limits 16 session_of 16 uid_of (λ _. true) w ≡ true
    → uids ≡ by_number uid_of (λ _. 1) 0 17 (sessions_in w)
    → table_in_order tree_limits 32 tree_of 32 tid_of (tree_ok (map uid_of (sessions_in w))) v ≡ table_in_order tree_limits 32 tree_of 32 tid_of (tree_in uids) v
unfolding session_array
trees-judged w v uids e q =
    ap (λ (ok : Tree → Bool). table_in_order tree_limits 32 tree_of 32 tid_of ok v)
    (sym (uids-serve (sessions_in w) uids (order-told session_limits 16 session_of 16 uid_of (λ _. true) w e).0 q))

pub opens-judged : (us w v codes : List ℕ) → table_in_order tree_limits 32 tree_of 32 tid_of (tree_ok us) w ≡ true
    → codes ≡ by_number tid_of tree_code 0 33 (trees_in w)
    → table_in_order open_limits 64 open_of 64 fid_of (open_ok (trees_in w)) v ≡ table_in_order open_limits 64 open_of 64 fid_of (open_in codes) v
unfolding tree_array
opens-judged us w v codes e q =
    let told = order-told tree_limits 32 tree_of 32 tid_of (tree_ok us) w e in
    ap (λ (ok : Open → Bool). table_in_order open_limits 64 open_of 64 fid_of ok v) (sym (codes-serve us (trees_in w) codes told.0 told.1 q))

pub locks-judged : (ts : List Tree) (w v files : List ℕ) → table_in_order open_limits 64 open_of 64 fid_of (open_ok ts) w ≡ true
    → files ≡ by_number fid_of (λ o. o.file) 255 65 (opens_in w)
    → (table_fits lock_limits 128 v && all (lock_ok (map fid_of (opens_in w))) (locks_in v)) && agree_all (file_of (opens_in w)) (locks_in v)
    ≡ (table_fits lock_limits 128 v && all (lock_fits (file_in files)) (locks_in v)) && agree_all (file_in files) (locks_in v)
unfolding open_array
locks-judged ts w v files e q =
    let told = order-told open_limits 64 open_of 64 fid_of (open_ok ts) w e in
    let serve = files-serve (opens_in w) files told.0 q in
    let ok = fits-is-ok ts (opens_in w) told.1 in
    rw (serve, ← ok)
