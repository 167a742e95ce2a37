-- `host::connection::drop_sound` meets its contract: sound tables lose what the connection names.
-- Assumes nothing.
use Rattle.tables.specs.Words.{tables_of}
use Rattle.removal.specs.Removal.{remove}
use Rattle.removal.specs.declared.Gone.TheVariants.{Connection}
use Rattle.host.specs.HostCall.{drop_connection}
use Rattle.host.proofs.Leaving.{sound-numbered, left-done}
use Rattle.host.proofs.connection.drop_sound.Goals as goal

pub remove_named-requires : goal.remove_named-requires
remove_named-requires c = (c.requires.0, sound-numbered (tables_of c.args.words.now) c.requires.1)

pub returns : goal.returns
unfolding drop_connection
returns c =
    let w = c.args.words.now in
    left-done w c.remove_named.new.words 0 _ (remove (Connection c.args.connection) (tables_of w)) (rw c.requires.1) c.remove_named.ensures.tables c.remove_named.ensures.fit
