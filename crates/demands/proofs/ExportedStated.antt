-- Of specs/Exported.antt: what rests on its other theorems. Assumes nothing.
use Rattle.std.specs.Prelude.{◌≡◌, ℕ}
use mathlib.Core.List.{List}
use Rattle.host.specs.declared.ending.One.{One}
use Rattle.host.specs.HostCall.{add_session, add_tree, add_open, drop_connection, end_one}
use Rattle.tables.specs.Words.{tables_of}
use Rattle.boundary.specs.Boundary.{ForNext, number_of, id_after, session_added, tree_added, open_added, connection_dropped, one_ended}
use Rattle.claims.specs.EndOne.{OneEnded}
use Rattle.claims.proofs.EndOne.{end_one-frame}
use Rattle.claims.specs.HostFrames.{SessionAdded, TreeAdded, OpenAdded, ConnectionDropped, add_session-frame, add_tree-frame, add_open-frame}
use Rattle.claims.proofs.HostFrames.{drop_connection-frame}
use Rattle.demands.proofs.Exported.{seen}
use Rattle.demands.specs.Exported.{CallSeen, drop-no-number, end-no-number, given}

module _ (w : List ℕ) (r : ℕ) (out : List ℕ) where
  -- `gateway_add_session`
  pub session-seen : (connection id after : ℕ) → r ≡ number_of w (session_added w connection) → after ≡ id_after id w (session_added w connection)
      → ForNext w out r (session_added w connection).tables
      → CallSeen (SessionAdded (tables_of w) connection) w id (add_session (tables_of w) connection) r out after
  unfolding session_added
  session-seen connection id after number given next =
      seen w id _ r out after number given next (SessionAdded (tables_of w) connection) (add_session-frame (tables_of w) connection)

  -- `gateway_add_tree`
  pub tree-seen : (uid right id after : ℕ) → r ≡ number_of w (tree_added w uid right) → after ≡ id_after id w (tree_added w uid right)
      → ForNext w out r (tree_added w uid right).tables
      → CallSeen (TreeAdded (tables_of w) uid right) w id (add_tree (tables_of w) uid right) r out after
  unfolding tree_added
  tree-seen uid right id after number given next =
      seen w id _ r out after number given next (TreeAdded (tables_of w) uid right) (add_tree-frame (tables_of w) uid right)

  -- `gateway_add_open`
  pub open-seen : (uid tid process file access id after : ℕ) → r ≡ number_of w (open_added w uid tid process file access)
      → after ≡ id_after id w (open_added w uid tid process file access)
      → ForNext w out r (open_added w uid tid process file access).tables
      → CallSeen (OpenAdded (tables_of w) uid tid process file access) w id (add_open (tables_of w) uid tid process file access) r out after
  unfolding open_added
  open-seen uid tid process file access id after number given next =
      seen w id _ r out after number given next (OpenAdded (tables_of w) uid tid process file access)
      (add_open-frame (tables_of w) uid tid process file access)

  -- `gateway_drop_connection`
  pub drop-seen : (connection : ℕ) → r ≡ number_of w (connection_dropped w connection) → ForNext w out r (connection_dropped w connection).tables
      → CallSeen (ConnectionDropped (tables_of w) connection) w 0 (drop_connection (tables_of w) connection) r out 0
  unfolding connection_dropped
  drop-seen connection number next =
      seen w 0 _ r out 0 number ((drop-no-number w r out) connection) next (ConnectionDropped (tables_of w) connection) (drop_connection-frame (tables_of w) connection)

  -- `gateway_end_session`, `gateway_end_tree`, `gateway_end_open`
  pub end_seen : (one : One) → r ≡ number_of w (one_ended w one) → ForNext w out r (one_ended w one).tables
      → CallSeen (OneEnded (tables_of w) one) w 0 (end_one (tables_of w) one) r out 0
  unfolding one_ended
  end_seen one number next =
      seen w 0 _ r out 0 number ((end-no-number w r out) one) next (OneEnded (tables_of w) one) (end_one-frame (tables_of w) one)
