-- Of specs/StreamTaken.antt: what rests on its other theorems. Assumes nothing.
use Rattle.std.specs.Prelude.{◌≡◌, true, length}
use Rattle.std.proofs.Math.Path.{refl, ap}
use Rattle.std.proofs.Common.{sym, ◌∙◌, arith}
use Prim.Native.Nat.{ℕ, zero, suc, ◌<◌}
use mathlib.Core.List.{List, [], ◌∷◌, ◌++◌, flatten}
use Rattle.invariants.specs.Sound.{Good}
use Rattle.stream.specs.declared.state.State.{State}
use Rattle.stream.specs.Stream.{first, carried, Left, begun, stopped, fed}
use Rattle.stream.specs.State.{none_begun, left_of, is_left}
use Rattle.stream.specs.Reader.{read}
use Rattle.claims.specs.StreamLaws.{first-shorter, carried_step}
use Rattle.claims.specs.StreamCut.{handed_out, drain_within, drained, drained_all, AllBytes, reader-however-cut}
use Rattle.claims.proofs.StreamCut.{reader-in-one}
use Rattle.claims.specs.StreamBack.{AllShort, no-messages}
use Rattle.demands.specs.StreamTaken.{AsInOne, Lent, first_short, host_piece, host_pieces, host_within, hosted_then, on-taken, short-by, taken-append, taken-good, taken_all, taken_of}

module _ (connection : ℕ) where
  pub within-taken : (calls : ℕ) (state : State) (buffer piece : List ℕ) (l : Lent) → host_within calls connection state buffer piece l ≡ (taken_of connection) (drain_within calls state buffer piece) l
  unfolding host_within drain_within taken_all
  within-taken zero state buffer piece l = refl
  within-taken (suc calls) state buffer piece l =
      (on-taken connection) (read state buffer piece).step.event (read state buffer piece) piece l _ _ (λ s b p k. within-taken calls s b p k)

  -- whatever the state, the buffer and the pieces
  pub pieces-taken : (state : State) (buffer : List ℕ) (pieces : List (List ℕ)) (l : Lent)
      → host_pieces connection state buffer pieces l ≡ (taken_of connection) (drained_all state buffer pieces) l
  unfolding host_pieces host_piece drained_all drained handed_out hosted_then taken_all
  pieces-taken state buffer [] l = refl
  pieces-taken state buffer (p ∷ ps) l =
      let d = drained state buffer p in
      let one : host_piece connection state buffer p l ≡ (taken_of connection) d l = within-taken (suc (length p)) state buffer p l in
      rw (one, pieces-taken d.state d.buffer ps (taken_all connection d.messages l).lent, (taken-append connection) d.messages (drained_all d.state d.buffer ps).messages l)

-- from any state that some stream leaves
pub taken-however-cut : (connection : ℕ) (l : Lent) (pieces : List (List ℕ)) → AllBytes pieces → (state : State) (buffer : List ℕ) → is_left state ≡ true → length buffer ≡ 8192
    → AsInOne connection l (host_pieces connection state buffer pieces l) (fed (left_of state buffer) (flatten pieces))
taken-however-cut connection l pieces b state buffer left room =
    let same = reader-however-cut pieces b state buffer left room in
    rw (pieces-taken connection state buffer pieces l)
    (record { taken = ap (λ (ms : List (List ℕ)). taken_all connection ms l) same.messages; number = same.number; state = same.state })

-- from the start
pub taken-in-one : (connection : ℕ) (l : Lent) (pieces : List (List ℕ)) → AllBytes pieces → (buffer : List ℕ) → length buffer ≡ 8192
    → AsInOne connection l (host_pieces connection none_begun buffer pieces l) (carried (flatten pieces))
taken-in-one connection l pieces b buffer room =
    let same = reader-in-one pieces b buffer room in
    rw (pieces-taken connection none_begun buffer pieces l)
    (record { taken = ap (λ (ms : List (List ℕ)). taken_all connection ms l) same.messages; number = same.number; state = same.state })

-- two cuts of one stream, with any bytes in the buffers at first
pub cut_twice : (connection : ℕ) (l : Lent) (ps qs : List (List ℕ)) → AllBytes ps → AllBytes qs → flatten ps ≡ flatten qs → (buffer other : List ℕ) → length buffer ≡ 8192 → length other ≡ 8192
    → (host_pieces connection none_begun buffer ps l).taken ≡ (host_pieces connection none_begun other qs l).taken
cut_twice connection l ps qs b d same buffer other room size =
    (taken-in-one connection l ps b buffer room).taken
    ∙ ap (λ (s : List ℕ). taken_all connection (carried s).messages l) same
    ∙ sym (taken-in-one connection l qs d other size).taken

-- whatever bytes come, in whatever pieces, to a reader in whatever state
pub hosted-good : (connection : ℕ) (state : State) (buffer : List ℕ) (pieces : List (List ℕ)) (l : Lent) → Good l.tables
    → Good (host_pieces connection state buffer pieces l).taken.lent.tables
hosted-good connection state buffer pieces l g =
    rw (pieces-taken connection state buffer pieces l) (taken-good connection (drained_all state buffer pieces).messages l g)

pub short-within : (n : ℕ) (s : List ℕ) → length s < n → AllShort (carried s).messages
short-within zero s h = absurd (let z : ⊥ = omega arith in z)
short-within (suc n) s h =
    rw (carried_step s)
    (short-by (first s) λ m r e.
    let less = first-shorter s m r e in
    (first_short s m r e, short-within n r (let z : length r < n = omega arith in z)))

pub carried-short : (s : List ℕ) → AllShort (carried s).messages
carried-short s = short-within (suc (length s)) s (let z : length s < suc (length s) = omega arith in z)

pub fed-short : (left : Left) (s : List ℕ) → AllShort (fed left s).messages
unfolding fed
fed-short (begun p) s = carried-short (p ++ s)
fed-short (stopped n) s = no-messages

-- those that the reader hands out
pub handed-out-short : (pieces : List (List ℕ)) → AllBytes pieces → (state : State) (buffer : List ℕ) → is_left state ≡ true → length buffer ≡ 8192
    → AllShort (drained_all state buffer pieces).messages
handed-out-short pieces b state buffer left room =
    rw (reader-however-cut pieces b state buffer left room).messages (fed-short (left_of state buffer) (flatten pieces))
