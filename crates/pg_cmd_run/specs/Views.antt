-- The files of a run and what they hold, as plain data.
use Rattle.pg_cmd_run.specs.declared.files.GuestFiles.{GuestFiles as Names}
use Rattle.pg_cmd_run.specs.declared.files.LoadedGuests.{LoadedGuests}
use Rattle.pg_cmd_run.specs.Loading.{GuestFiles, Loaded}

abbrev pub guest_files : Names → GuestFiles
guest_files f = record { desc = f.desc.now; images = f.images.now; cert = f.cert.now; grant = f.grant; kept = f.kept }

abbrev pub loaded : LoadedGuests → Loaded
loaded l = record { desc = l.judged.machine.desc; images = l.images; report = l.judged.report }
