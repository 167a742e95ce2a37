-- The numbers of sound tables are in order: what a removal in the words asks for. Assumes nothing.
use Rattle.records.specs.declared.Tables.{Tables}
use Rattle.removal.specs.Filter.{Numbered}
use Rattle.invariants.specs.SoundParts.{sound-says}
use Rattle.invariants.specs.Sound.{Good}

pub good-numbered : (t : Tables) → Good t → Numbered t
good-numbered t g =
    let r = (sound-says t g.sound).records in
    record { uids = r.uids; tids = r.tids; fids = r.fids }
