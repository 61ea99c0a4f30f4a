-- Statement for engineers: The fields of a log as contracts see them, and what it keeps true of them.
use Rattle.std.specs.Prelude.{◌≡◌, ◌*◌, ◌<◌, ◌≤◌, min, vec_len}
use Rattle.protocol.specs.declared.sizes.TheConstants.{RECORD_SIZE}
use Rattle.oplog.specs.declared.half.TheConstants.{RECORDS_PER_WRITE}
use Rattle.oplog.specs.Log.{Log}
use Rattle.oplog.specs.declared.halves.Halves.TheInside.{Inside}

abbrev pub log_of : Inside → Log
log_of h = record { geometry = h.geometry; named = h.named; current = h.current; used = h.used; cleared = h.cleared; failed = h.failed }

pub record AreHalves (h : Inside) : Type 0 where
  pub named : h.named < 2
  pub current : h.current < 2
  pub used : h.used ≤ h.geometry.half
  -- it has room for the records of one write
  pub buffer : vec_len h.buffer ≡ min h.geometry.half RECORDS_PER_WRITE * RECORD_SIZE
