-- The Status in a reply, read in the form that the reply's own Flags2 says (document 02, CR 7): "A reader of either form must find the same refusal". Assumes nothing.
use Rattle.std.specs.Prelude.{◌≡◌, ℕ, ◌+◌, ◌*◌, ◌/◌, ◌%◌, ◌<◌, Bool, true, false, cond, ◌&&◌, List}
use Rattle.std.proofs.Common.{sym, ◌∙◌, arith, eqb-true, eq-eqb}
use Rattle.std.proofs.Math.Path.{ap}
use Rattle.std.proofs.Math.Dec.{eqb}
use Rattle.lists.specs.Put.{put}
use Rattle.lists.specs.Truth.{both_hold, hold-both, same_truth, test-cases}
use Rattle.wire.specs.LittleEndian.{byte_at, le16_at, le32_at}
use Rattle.message.specs.Refusal.{status}
use Rattle.message.specs.declared.refusal.Status.{Status}
use Rattle.message.specs.declared.refusal.Forms.{Forms}
use Rattle.message.specs.Reply.{two, four, nt_bit, smb_number, status_number, reply_header}
use Rattle.message.specs.Message.{Ran, reply_of, replied}
use Rattle.demands.specs.Returned.{two_back}
use Rattle.claims.specs.StatusList.{read_nt, smb-bytes, same_status, same-status, FormsSay}

-- without the bit an SMBSTATUS, class at 5, code at 7; with it an NTSTATUS, "Little-endian at 5", of which the reader finds the class and code in the list
unfoldable pub status_read : List ℕ → Status
status_read reply = cond (nt_bit reply) (read_nt (le32_at reply 5)) (status (byte_at reply 5) (le16_at reply 7))

-- "refused (Status not 0)": Status is bytes 5 to 8, in either form
unfoldable pub status_zero : List ℕ → Bool
status_zero reply = eqb (byte_at reply 5) 0 && (eqb (byte_at reply 6) 0 && (eqb (byte_at reply 7) 0 && eqb (byte_at reply 8) 0))

unfoldable pub succeeded : Status → Bool
succeeded s = eqb s.class 0 && eqb s.code 0

-- ---- a number in four bytes

-- four bytes read back
bytes_back : (n : ℕ) → n < 0x100000000 → n % 256 + 256 * (n / 256 % 256) + 65536 * (n / 65536 % 256 + 256 * (n / 65536 / 256 % 256)) ≡ n
bytes_back n h =
    let low : n % 256 + 256 * (n / 256 % 256) ≡ n % 65536 = omega arith in
    let half : n / 65536 < 65536 = omega arith in
    let high : n / 65536 % 256 + 256 * (n / 65536 / 256 % 256) ≡ n / 65536 = two_back (n / 65536) half in
    rw (low, high) (omega arith)

-- the reply has the request's bit
bit_kept : (b : ℕ) → (b / 64 % 2 * 64) / 64 % 2 ≡ b / 64 % 2
bit_kept b = omega arith

-- the number in the header fits four bytes
number_small : (s : List ℕ) (f : Forms) → FormsSay f → status_number s f < 0x100000000
unfolding status_number smb_number
number_small s f says =
    test-cases (nt_bit s) (λ e. rw e says.nt) (λ e. rw e (let c = says.class in let d = says.code in omega arith))

module _ (s room : List ℕ) (r : Ran) (says : FormsSay r.forms) where
  -- what stands at 5, read as one number, "Little-endian at 5", and as class and code
  pub status-number-replied : le32_at (replied s room r).room 5 ≡ status_number s r.forms
  unfolding replied reply_of reply_header two four put le32_at le16_at
  status-number-replied = bytes_back (status_number s r.forms) (number_small s r.forms says)

  asked-kept : nt_bit (replied s room r).room ≡ nt_bit s
  unfolding replied reply_of reply_header two four put nt_bit
  asked-kept = ap (λ (b : ℕ). eqb b 1) (bit_kept (byte_at s 11))

  smb-read : nt_bit s ≡ false → status (byte_at (replied s room r).room 5) (le16_at (replied s room r).room 7) ≡ r.forms.status
  unfolding replied reply_of reply_header two four put le16_at status status_number
  smb-read clear =
      let q = smb-bytes r.forms.status says.class in
      rw (clear, q.0, q.2, two_back r.forms.status.code says.code)

  -- so a reader finds the status of what was answered, in either form
  pub status-replied : status_read (replied s room r).room ≡ r.forms.status
  unfolding status_read status_number
  status-replied =
      test-cases (nt_bit s)
      (λ e. rw (asked-kept, e) (ap read_nt (status-number-replied ∙ rw e) ∙ says.reads-back))
      (λ e. rw (asked-kept, e) (smb-read e))

-- ---- Status 0

-- success is 0/0
pub zero-succeeded : (n : Status) → succeeded n ≡ true → n ≡ status 0 0
unfolding succeeded same_status status
zero-succeeded n e = same-status n (status 0 0) e

-- four bytes are 0 exactly if the number is
zero-bytes : (n : ℕ) → n < 0x100000000
    → (eqb (n % 256) 0 && (eqb (n / 256 % 256) 0 && (eqb (n / 65536 % 256) 0 && eqb (n / 65536 / 256 % 256) 0))) ≡ eqb n 0
zero-bytes n h =
    same_truth (eqb (n % 256) 0 && (eqb (n / 256 % 256) 0 && (eqb (n / 65536 % 256) 0 && eqb (n / 65536 / 256 % 256) 0))) (eqb n 0)
    (λ e. let a = both_hold (eqb (n % 256) 0) (eqb (n / 256 % 256) 0 && (eqb (n / 65536 % 256) 0 && eqb (n / 65536 / 256 % 256) 0)) e in
    let b = both_hold (eqb (n / 256 % 256) 0) (eqb (n / 65536 % 256) 0 && eqb (n / 65536 / 256 % 256) 0) a.1 in
    let d = both_hold (eqb (n / 65536 % 256) 0) (eqb (n / 65536 / 256 % 256) 0) b.1 in
    let b0 : n % 256 ≡ 0 = eqb-true (n % 256) 0 a.0 in
    let b1 : n / 256 % 256 ≡ 0 = eqb-true (n / 256 % 256) 0 b.0 in
    let b2 : n / 65536 % 256 ≡ 0 = eqb-true (n / 65536 % 256) 0 d.0 in
    let b3 : n / 65536 / 256 % 256 ≡ 0 = eqb-true (n / 65536 / 256 % 256) 0 d.1 in
    eq-eqb n 0 (sym (bytes_back n h) ∙ rw (b0, b1, b2, b3)))
    (λ e. rw (eqb-true n 0 e))

-- the number is 0 exactly if class and code are
pub zero_number : (s : List ℕ) (f : Forms) → FormsSay f → eqb (status_number s f) 0 ≡ succeeded f.status
unfolding status_number smb_number succeeded status
zero_number s f says =
    test-cases (nt_bit s)
    (λ e. rw e (same_truth (eqb f.nt 0) (eqb f.status.class 0 && eqb f.status.code 0) (λ z. rw (says.zero-nt (eqb-true f.nt 0 z)))
    (λ z. rw (says.zero-old (zero-succeeded f.status z)))))
    (λ e. rw e (same_truth (eqb (f.status.class + 65536 * f.status.code) 0) (eqb f.status.class 0 && eqb f.status.code 0)
    (λ z. let q : f.status.class + 65536 * f.status.code ≡ 0 = eqb-true (f.status.class + 65536 * f.status.code) 0 z in
    hold-both (eqb f.status.class 0) (eqb f.status.code 0) (eq-eqb f.status.class 0 (omega arith)) (eq-eqb f.status.code 0 (omega arith)))
    (λ z. rw (ap (λ (n : Status). n.class) (zero-succeeded f.status z), ap (λ (n : Status). n.code) (zero-succeeded f.status z)))))

-- "Status stands in the header": it is 0 exactly if everything was done
pub status-zero : (message : List ℕ) (r : Ran) → FormsSay r.forms → status_zero (reply_of message r) ≡ succeeded r.forms.status
unfolding status_zero reply_of reply_header two four
status-zero message r says = zero-bytes (status_number message r.forms) (number_small message r.forms says) ∙ zero_number message r.forms says
