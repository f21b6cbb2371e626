-- The files of one guest and what they hold, as plain data.
use Rattle.pg_cmd_certs.specs.declared.source.GuestSource.{GuestSource}
use Rattle.pg_cmd_certs.specs.declared.source.LoadedGuest.{LoadedGuest}
use Rattle.pg_cmd_certs.specs.Guests.{GuestFiles, Loaded}

abbrev pub guest_source : GuestSource → GuestFiles
guest_source s = record { desc = s.desc.now; image = s.image.now; cert = s.cert.now; grant = s.grant; kept = s.kept }

abbrev pub loaded_guest : LoadedGuest → Loaded
loaded_guest l = record { desc = l.judged.machine.desc; image = l.image; report = l.judged.report }
