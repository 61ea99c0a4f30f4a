-- What the fields decode to is a message, since bytes are below 256; so they aren't its record, as they are that of no change in range.
use Rattle.oplog.proofs.ChangeRecords.{records_are_bytes, no_record_says_none}
use Rattle.oplog.proofs.laws.a_bad_record_says_no_message.Goals as goal

pub returns-clause-bytes : goal.returns-clause-bytes
returns-clause-bytes c = records_are_bytes

pub returns-clause-none : goal.returns-clause-none
returns-clause-none c = no_record_says_none
