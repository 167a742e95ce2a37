-- Of specs/NotServed.antt: what rests on its other theorems. Assumes nothing.
use Rattle.std.specs.Prelude.{◌≡◌, ◌↔◌, ℕ, true, List, eqb}
use Rattle.std.proofs.Common.{sym, ap, ◌∙◌, inl, inr}
use Rattle.lists.specs.Truth.{fails, either-holds}
use Rattle.records.specs.declared.Tables.{Tables}
use Rattle.chain.specs.Layout.{CLOSE, PROCESS_EXIT, LOCKING, READ, WRITE, TREE_DISCONNECT, LOGOFF, CORE-READ, CORE-WRITE, LOCK_BYTE_RANGE, UNLOCK_BYTE_RANGE, OPEN, header_command}
use Rattle.message.specs.Refusal.{status, forms_of}
use Rattle.message.specs.Message.{Ran, served, only_status, take-message}
use Rattle.demands.specs.Malformed.{not-served}
use Rattle.invariants.specs.Fit.{Fit}
use Rattle.demands.specs.StatusRead.{status_read}
use Rattle.demands.proofs.Calls.{status-call}
use Rattle.demands.specs.NotServed.{Known, is_known, known-served, served-begun}
use Rattle.demands.specs.NotServed.{known-close}
use Rattle.demands.specs.NotServed.{known-core-read}
use Rattle.demands.specs.NotServed.{known-core-write}
use Rattle.demands.specs.NotServed.{known-disconnect}
use Rattle.demands.specs.NotServed.{known-exit}
use Rattle.demands.specs.NotServed.{known-lock}
use Rattle.demands.specs.NotServed.{known-locking}
use Rattle.demands.specs.NotServed.{known-logoff}
use Rattle.demands.specs.NotServed.{known-open}
use Rattle.demands.specs.NotServed.{known-unlock}
use Rattle.demands.specs.NotServed.{known-write}
use Rattle.demands.specs.NotServed.{known_read}

pub served-known : (command : ℕ) → served command ≡ true → Known command
unfolding served
served-known command e =
    elim (either-holds (eqb command LOCKING) _ e) [
      | inl a ↦ is_known command LOCKING known-locking a
      | inr e ↦ elim (either-holds (eqb command READ) _ e) [
        | inl a ↦ is_known command READ known_read a
        | inr e ↦ elim (either-holds (eqb command WRITE) _ e) [
          | inl a ↦ is_known command WRITE known-write a
          | inr e ↦ elim (either-holds (eqb command CLOSE) _ e) [
            | inl a ↦ is_known command CLOSE known-close a
            | inr e ↦ elim (either-holds (eqb command LOGOFF) _ e) [
              | inl a ↦ is_known command LOGOFF known-logoff a
              | inr e ↦ elim (either-holds (eqb command TREE_DISCONNECT) _ e) [
                | inl a ↦ is_known command TREE_DISCONNECT known-disconnect a
                | inr e ↦ elim (either-holds (eqb command PROCESS_EXIT) _ e) [
                  | inl a ↦ is_known command PROCESS_EXIT known-exit a
                  | inr e ↦ elim (either-holds (eqb command CORE-READ) _ e) [
                    | inl a ↦ is_known command CORE-READ known-core-read a
                    | inr e ↦ elim (either-holds (eqb command CORE-WRITE) _ e) [
                      | inl a ↦ is_known command CORE-WRITE known-core-write a
                      | inr e ↦ elim (either-holds (eqb command LOCK_BYTE_RANGE) _ e) [
                        | inl a ↦ is_known command LOCK_BYTE_RANGE known-lock a
                        | inr e ↦ elim (either-holds (eqb command UNLOCK_BYTE_RANGE) (eqb command OPEN) e) [
                          | inl a ↦ is_known command UNLOCK_BYTE_RANGE known-unlock a
                          | inr a ↦ is_known command OPEN known-open a
                        ]
                      ]
                    ]
                  ]
                ]
              ]
            ]
          ]
        ]
      ]
    ]

-- the twelve are those served
pub known-exact : (command : ℕ) → (served command ≡ true) ↔ Known command
known-exact command = (served-known command, known-served)

-- "2/22 header command not served": a message fit to be answered is so answered exactly if the header's command is none of the twelve
pub not-served-exact : (connection : ℕ) (s : List ℕ) (t : Tables) (memory room : List ℕ) → Fit s t memory room
    → (status_read (take-message connection s t memory room).room ≡ status 2 22) ↔ (Known (header_command s) → ⊥)
unfolding only_status forms_of
not-served-exact connection s t memory room f =
    let same = status-call connection s t memory room f in (
      λ h k. served-begun connection s t memory (known-served k) (sym same ∙ h),
      λ n. same ∙ ap (λ (r : Ran). r.forms.status) (not-served connection s t memory (fails (served (header_command s)) (λ e. n (served-known (header_command s) e)))),
    )
