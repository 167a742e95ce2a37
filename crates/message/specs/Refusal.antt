-- The class and code of each refusal (document 01, "Refusals on the wire (class/code, decimal)"; document 02, CR 6), beside it its NTSTATUS (document 02, CR 7), and the
-- holder that a conflict names (document 02, CR 2).
-- Assumes nothing.
use Rattle.std.specs.Prelude.{ℕ, None as Nobody, Some as held_by}
use Rattle.message.specs.declared.refusal.Refusal.{Refusal}
use Rattle.message.specs.declared.refusal.Refusal.TheVariants.{NotServed, NotSentence, NoSession, NoTree, NoOpen, NoAccess, LockType, NoSuchLock, PassesEnd, LockNotGranted, FileLockConflict, NoRecord, NoSpace, OpenMode, BadAccess, NoSuchFile, BadShare, NoFids}
use Rattle.message.specs.declared.refusal.Status.{Status}
use Rattle.message.specs.declared.refusal.Forms.{Forms}
use Rattle.message.specs.HeldBy.{HeldBy}

-- an SMBSTATUS: class and code, 0/0 where everything was done
unfoldable pub status : ℕ → ℕ → Status
status class code = record { class = class; code = code }

-- "With the bit set in a request, the reply .. carries": both forms of a status beside each other, class and code and the NTSTATUS
abbrev pub forms : ℕ → ℕ → ℕ → Forms
forms class code nt = record { status = status class code; nt = nt }

-- where everything was done
abbrev pub success : Forms
success = forms 0 0 0

-- the list: "C0000055 for a lock refused, C0000054 for a read or write refused"
unfoldable pub forms_of : Refusal → Forms
unfolding status
forms_of NotServed = forms 2 22 0x00160002
forms_of NotSentence = forms 2 1 0x00010002
forms_of NoSession = forms 2 91 0x005B0002
forms_of NoTree = forms 2 5 0x00050002
forms_of NoOpen = forms 1 6 0xC0000008
forms_of NoAccess = forms 1 5 0xC0000022
forms_of LockType = forms 2 65535 0xC00000BB
forms_of NoSuchLock = forms 1 158 0xC000007E
forms_of PassesEnd = forms 1 87 0xC000000D
forms_of (LockNotGranted h) = forms 1 33 0xC0000055
forms_of (FileLockConflict h) = forms 1 33 0xC0000054
forms_of NoRecord = forms 1 8 0xC0000205
forms_of NoSpace = forms 3 39 0xC000007F
forms_of OpenMode = forms 2 65535 0xC00000BB
forms_of BadAccess = forms 1 12 0x000C0001
forms_of NoSuchFile = forms 1 2 0xC000000F
forms_of BadShare = forms 1 32 0xC0000043
forms_of NoFids = forms 1 4 0xC000011F

-- a refusal's class and code, and its NTSTATUS
abbrev pub status_of : Refusal → Status
status_of why = (forms_of why).status

abbrev pub nt_of : Refusal → ℕ
nt_of why = (forms_of why).nt

-- "the host gets the holder's FID and process beside the reply": of a conflict, and of nothing else
unfoldable pub holder_of : Refusal → HeldBy
holder_of NotServed = Nobody
holder_of NotSentence = Nobody
holder_of NoSession = Nobody
holder_of NoTree = Nobody
holder_of NoOpen = Nobody
holder_of NoAccess = Nobody
holder_of LockType = Nobody
holder_of NoSuchLock = Nobody
holder_of PassesEnd = Nobody
holder_of (LockNotGranted h) = held_by h
holder_of (FileLockConflict h) = held_by h
holder_of NoRecord = Nobody
holder_of NoSpace = Nobody
holder_of OpenMode = Nobody
holder_of BadAccess = Nobody
holder_of NoSuchFile = Nobody
holder_of BadShare = Nobody
holder_of NoFids = Nobody
