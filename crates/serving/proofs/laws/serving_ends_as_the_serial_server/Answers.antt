-- A lemma for each end of a server, and one for the run that led there.
use Rattle.serving.proofs.EndsWith.{ends_at_device, ends_at_read, ends_exhausted, ends_whole, has_served}
use Rattle.serving.proofs.IsReadEnd.{gives}
use Rattle.serving.proofs.laws.serving_ends_as_the_serial_server.Goals as goal

pub returns-clause-end_of_input : goal.returns-clause-end_of_input
returns-clause-end_of_input g c start now input unread ended before written idle h works at_end =
    ends_whole g.D.Disk.keeps start now idle h works at_end

pub returns-clause-read : goal.returns-clause-read
returns-clause-read g c start now input unread remaining before written idle h works lost =
    ends_at_read g.D.Disk.keeps start now idle remaining h works lost

pub returns-clause-exhausted : goal.returns-clause-exhausted
returns-clause-exhausted g c start now input unread remaining ended before written line m idle h works next found is in_range =
    ends_exhausted g.D.Disk.keeps start now idle remaining h works (next, (line, m, gives line unread remaining found, is, in_range))

pub returns-clause-device : goal.returns-clause-device
returns-clause-device g c start now unsent input unread ended before written idle h failed wound_up =
    ends_at_device g.D.Disk.keeps start now idle h failed wound_up

pub returns-clause-run : goal.returns-clause-run
returns-clause-run g c start now unsent input unread ended before written idle h no_doubt recovers few =
    has_served g.D.Disk.keeps start now idle no_doubt recovers few h
