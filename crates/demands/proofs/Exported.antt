-- Of specs/Exported.antt: what rests on its other theorems. Assumes nothing.
use Rattle.std.specs.Prelude.{◌≡◌, refl, ℕ, true, false, ◌&&◌, eqb}
use Rattle.std.proofs.Math.Path.{sym, ap}
use Rattle.std.proofs.Common.{◌∙◌, arith}
use Rattle.std.proofs.Math.Logic.{⊎_elim}
use Rattle.std.proofs.Math.Decide.{ℕ_discrete}
use mathlib.Core.List.{List}
use Rattle.std.proofs.Math.ListN.{length}
use borrow.Author.Tests.{eqb-true, eq-eqb}
use Rattle.lists.specs.Truth.{decided, both_hold, hold-both, fails, not-decided-twice}
use Rattle.host.specs.declared.answer.Returned.{Returned}
use Rattle.soundness.specs.Sound.{sound}
use Rattle.host.specs.HostCall.{refused, load_file, load_memory, set_catalogue, ask_unchanged}
use Rattle.message.specs.Message.{Taken, not_taken, take-message}
use Rattle.invariants.specs.GivenCases.{cond-case}
use Rattle.tables.specs.Words.{word, name_array, name_limits, table_fits, in_use_fit, tables_of}
use Rattle.boundary.specs.Boundary.{ready, ForNext, number_of, is_done, id_after, file_loaded, load_number_of, memory_after, catalogue_set, unchanged_asked, length_after, holder_words, holder_after}
use Rattle.boundary.specs.BoundaryLaws.{words-shaped, unfit-memory, set-unsound, set-no-bytes}
use Rattle.boundary.proofs.BoundaryLaws.{wrong-memory, fit-memory, set-core, set-done-fits}
use Rattle.boundary.specs.MessageLaws.{room-short, memory-wrong, length-stands, length-given, holder-stands, holder-given}
use Rattle.claims.specs.HostAnswer.{load_memory-refused}
use Rattle.claims.specs.AskUnchanged.{ask-stands, ask-sound}
use Rattle.claims.proofs.AskUnchanged.{answer-of}
use Rattle.claims.specs.HostFrames.{FileLoaded, load_file-frame, set_catalogue-frame}
use Rattle.demands.specs.Exported.{CallSeen, CatalogueSeen, LoadSeen, MessageSeen, UnchangedSeen, core, given, load-no-number, load-number, load-wrong, number-fit, number-unfit, read_off, refused-given-back, set_given, unfit-four, unfit-number, wrong-two}

module _ (w : List ℕ) (id : ℕ) (a : Returned) (r : ℕ) (out : List ℕ) (after : ℕ)
    (number : r ≡ number_of w a) (given : after ≡ id_after id w a) (next : ForNext w out r a.tables) where
  -- a call that is done is one on words that fit
  pub done-fits : r ≡ 0 → in_use_fit w ≡ true
  done-fits z = ⊎_elim (λ e. e) (λ e. absurd (let four = (number-unfit w id a r out after number given next) e in let no : ⊥ = omega arith in no)) (decided (in_use_fit w))

  pub done-given : r ≡ 0 → after ≡ a.id
  unfolding id_after is_done
  done-given z = rw (done-fits z, eq-eqb a.number 0 (sym ((number-fit w id a r out after number given next) (done-fits z)) ∙ z)) at given

  pub is-core : r ≡ 0 → read_off r after out ≡ a
  is-core z = λ i. record { number = (number-fit w id a r out after number given next) (done-fits z) i; id = done-given z i; tables = next.held z i }

  pub refused-given : (r ≡ 0 → ⊥) → after ≡ id
  unfolding id_after is_done
  refused-given n =
      given
      ∙ cond-case (λ k. k ≡ id) (is_done w a) a.id id
      (λ b. let both = both_hold (in_use_fit w) (eqb a.number 0) b in absurd (n ((number-fit w id a r out after number given next) both.0 ∙ eqb-true a.number 0 both.1)))
      (λ _. refl)

  pub seen : (Left : Returned → Type 0) → (a.number ≡ 0 → Left a) → CallSeen Left w id a r out after
  seen Left frame =
      record {
        number = (number-fit w id a r out after number given next);
        unfit = (number-unfit w id a r out after number given next);
        same = is-core;
        left = λ z. rw (is-core z) (frame (sym ((number-fit w id a r out after number given next) (done-fits z)) ∙ z));
        kept = λ n. (next.kept n, refused-given n);
        again = next.again;
      }

-- `gateway_unchanged`
pub unchanged-seen : (w : List ℕ) (r fid answer after : ℕ) → r ≡ number_of w (unchanged_asked w fid) → after ≡ id_after answer w (unchanged_asked w fid) → UnchangedSeen w fid answer r after
unfolding unchanged_asked
unchanged-seen w r fid answer after number given =
    let next : ForNext w w r (ask_unchanged (tables_of w) fid).tables = record { held = λ _. sym (ask-stands (tables_of w) fid); kept = λ _. refl; again = λ e. e } in
    let same = done-given w answer _ r w after number given next in
    let sound-words : r ≡ 0 → sound (tables_of w) ≡ true = λ z. ask-sound (tables_of w) fid (sym (number-fit w answer _ r w after number given next (done-fits w answer _ r w after number given next z)) ∙ z) in
    record {
      number = number-fit w answer _ r w after number given next;
      unfit = number-unfit w answer _ r w after number given next;
      same = same;
      means = λ z o m e. rw (same z, ← e) (answer-of (tables_of w) o (sound-words z) m);
      kept = refused-given w answer _ r w after number given next;
    }

module _ (w : List ℕ) (r : ℕ) (out : List ℕ) where
  module _ (file : ℕ) (contents memory after : List ℕ) (number : r ≡ load_number_of w file contents memory)
      (bytes : after ≡ memory_after w file contents memory) (next : ForNext w out r (file_loaded w file contents memory).tables) where
    pub done-whole : r ≡ 0 → length memory ≡ 65536
    done-whole z = elim (ℕ_discrete (length memory) 65536) [
      | yes e ↦ e
      | no n ↦ absurd (let two = (load-wrong w r out file contents memory after number bytes next) n in let no : ⊥ = omega arith in no)
    ]

    pub of-any : length memory ≡ 65536 → CallSeen (λ a. FileLoaded (tables_of w) file contents memory a (load_memory (tables_of w) file contents memory)) w 0 (load_file (tables_of w) file contents memory) r out 0
    unfolding file_loaded
    of-any e =
        seen w 0 _ r out 0 ((load-number w r out file contents memory after number bytes next) e) (load-no-number w r out file contents memory after number bytes next) next
        (λ a. FileLoaded (tables_of w) file contents memory a (load_memory (tables_of w) file contents memory))
        (load_file-frame (tables_of w) (words-shaped w) file contents memory)

    pub done-bytes : r ≡ 0 → after ≡ load_memory (tables_of w) file contents memory
    done-bytes z =
        bytes ∙ sym (fit-memory w file contents memory (done-fits w 0 (file_loaded w file contents memory) r out 0 ((load-number w r out file contents memory after number bytes next) (done-whole z)) (load-no-number w r out file contents memory after number bytes next) next z))

    pub refused-bytes : (r ≡ 0 → ⊥) → after ≡ memory
    refused-bytes n = elim (ℕ_discrete (length memory) 65536) [
      | yes e ↦
          ⊎_elim
          (λ f. bytes ∙ sym (fit-memory w file contents memory f) ∙ load_memory-refused (tables_of w) file contents memory (λ z. n ((of-any e).number f ∙ z)))
          (λ f. bytes ∙ sym (unfit-memory w file contents memory f))
          (decided (in_use_fit w))
      | no q ↦ bytes ∙ sym (wrong-memory w file contents memory q)
    ]

    pub load-seen : LoadSeen w file contents memory r out after
    load-seen =
        record {
          wrong-room = (load-wrong w r out file contents memory after number bytes next);
          number = λ e. (of-any e).number;
          unfit = λ e. (of-any e).unfit;
          same = λ z. (of-any (done-whole z)).same z;
          left = λ z. rw (done-bytes z) ((of-any (done-whole z)).left z);
          kept = λ n. (next.kept n, refused-bytes n);
          again = next.again;
        }

  module _ (given : List ℕ) (number : r ≡ number_of w (catalogue_set w given)) (next : ForNext w out r (catalogue_set w given).tables) where
    pub set-not-sound : ready w ≡ false → r ≡ 4
    unfolding ready refused
    set-not-sound e =
        ⊎_elim
        (λ f.
        number-fit w 0 (catalogue_set w given) r out 0 number (set_given w r out given number next) next f
        ∙ ap (λ (a : Returned). a.number) (set-unsound w given (fails (sound (tables_of w)) (λ s. not-decided-twice (in_use_fit w && sound (tables_of w)) (hold-both (in_use_fit w) (sound (tables_of w)) f s) e))))
        (number-unfit w 0 (catalogue_set w given) r out 0 number (set_given w r out given number next) next)
        (decided (in_use_fit w))

    pub set-no-byte : ready w ≡ true → table_fits name_limits 16 given ≡ false → r ≡ 7
    unfolding ready refused
    set-no-byte h f =
        let b = both_hold (in_use_fit w) (sound (tables_of w)) h in
        number-fit w 0 (catalogue_set w given) r out 0 number (set_given w r out given number next) next b.0 ∙ ap (λ (a : Returned). a.number) (set-no-bytes w given b.1 f)

    pub set-number : in_use_fit w ≡ true → table_fits name_limits 16 given ≡ true → r ≡ (set_catalogue (tables_of w) (name_array given) (word given 0)).number
    set-number e f =
        number-fit w 0 (catalogue_set w given) r out 0 number (set_given w r out given number next) next e ∙ ap (λ (a : Returned). a.number) (set-core w given f)

    -- done, the core's own
    pub set-is-core : r ≡ 0 → catalogue_set w given ≡ set_catalogue (tables_of w) (name_array given) (word given 0)
    set-is-core z =
        set-core w given (set-done-fits w given (sym (number-fit w 0 (catalogue_set w given) r out 0 number (set_given w r out given number next) next (done-fits w 0 (catalogue_set w given) r out 0 number (set_given w r out given number next) next z)) ∙ z))

    pub set_same : r ≡ 0 → read_off r 0 out ≡ set_catalogue (tables_of w) (name_array given) (word given 0)
    set_same z = is-core w 0 (catalogue_set w given) r out 0 number (set_given w r out given number next) next z ∙ set-is-core z

    pub catalogue-seen : CatalogueSeen w given r out
    catalogue-seen =
        record {
          not_sound = set-not-sound;
          no_bytes = set-no-byte;
          number = set-number;
          same = set_same;
          left = λ z.
              rw (set_same z) (set_catalogue-frame (tables_of w) (name_array given) (word given 0) (ap (λ (a : Returned). a.number) (sym (set_same z)) ∙ z));
          kept = next.kept;
          again = next.again;
        }

module _ (connection : ℕ) (s w memory room : List ℕ) (long : ℕ) (held : List ℕ) (r : ℕ) (out memory' room' : List ℕ) (long' : ℕ) (held' : List ℕ) where
  pub taken-fits : (given connection s w memory room long held r out memory' room' long' held').number ≡ 0 → in_use_fit w ≡ true
  taken-fits z = ⊎_elim (λ e. e) (λ e. absurd ((unfit-number connection s w memory room long held r out memory' room' long' held') e z)) (decided (in_use_fit w))

  pub given-words : r ≡ (given connection s w memory room long held r out memory' room' long' held').number → held' ≡ holder_after held (given connection s w memory room long held r out memory' room' long' held') → r ≡ 0 → held' ≡ holder_words (take-message connection s (tables_of w) memory room).holder
  given-words number holder-out z =
      holder-out ∙ sym (holder-given held (given connection s w memory room long held r out memory' room' long' held') (sym number ∙ z)) ∙ ap (λ (k : Taken). holder_words k.holder) ((core connection s w memory room long held r out memory' room' long' held') (taken-fits (sym number ∙ z)))

  -- `gateway_take_message`
  pub message-seen : r ≡ (given connection s w memory room long held r out memory' room' long' held').number → memory' ≡ (given connection s w memory room long held r out memory' room' long' held').memory → room' ≡ (given connection s w memory room long held r out memory' room' long' held').room → long' ≡ length_after long (given connection s w memory room long held r out memory' room' long' held') → held' ≡ holder_after held (given connection s w memory room long held r out memory' room' long' held')
      → ForNext w out r (given connection s w memory room long held r out memory' room' long' held').tables → MessageSeen connection s w memory room long held r out memory' room' long' held'
  unfolding not_taken holder_words
  message-seen number bytes reply length-out holder-out next =
      record {
        wrong-room = ⊎_elim (λ h. number ∙ (wrong-two connection s w memory room long held r out memory' room' long' held') (room-short memory room h)) (λ n. number ∙ (wrong-two connection s w memory room long held r out memory' room' long' held') (memory-wrong memory room n));
        number = λ e. number ∙ ap (λ (k : Taken). k.number) ((core connection s w memory room long held r out memory' room' long' held') e);
        unfit = λ h e f. number ∙ (unfit-four connection s w memory room long held r out memory' room' long' held') h e f;
        same = λ z.
            let c = (core connection s w memory room long held r out memory' room' long' held') (taken-fits (sym number ∙ z)) in
            λ i. record {
              number = (number ∙ ap (λ (k : Taken). k.number) c) i;
              length = (length-out ∙ sym (length-given long (given connection s w memory room long held r out memory' room' long' held') (sym number ∙ z)) ∙ ap (λ (k : Taken). k.length) c) i;
              holder = (take-message connection s (tables_of w) memory room).holder;
              tables = (next.held z ∙ ap (λ (k : Taken). k.tables) c) i;
              memory = (bytes ∙ ap (λ (k : Taken). k.memory) c) i;
              room = (reply ∙ ap (λ (k : Taken). k.room) c) i;
            };
        no-holder = λ z e. given-words number holder-out z ∙ ap holder_words e;
        same-holder = λ z h e. given-words number holder-out z ∙ ap holder_words e;
        kept = λ n.
            let refused-so : (given connection s w memory room long held r out memory' room' long' held').number ≡ 0 → ⊥ = λ z. n (number ∙ z) in
            let b = (refused-given-back connection s w memory room long held r out memory' room' long' held') refused-so in (
              next.kept n,
              bytes ∙ ap (λ (k : Taken). k.memory) b,
              reply ∙ ap (λ (k : Taken). k.room) b,
              length-out ∙ sym (length-stands long (given connection s w memory room long held r out memory' room' long' held') refused-so),
              holder-out ∙ sym (holder-stands held (given connection s w memory room long held r out memory' room' long' held') refused-so),
            );
        again = next.again;
      }
