-- The arguments of commands that run images: `--grant G --steps N`.
use Rattle.std.specs.Prelude.{codes}
use Rattle.pg_cli_table.specs.Synopses.{Argument, NumberOption}

-- how many cells are granted, to a machine or to a guest: 2 to 1,048,575
abbrev pub grant : Argument
grant = NumberOption (codes "grant") (codes "G") (record { least = 2; most = 1048575 })

-- how many steps are done, exactly: 0 to 1,000,000
abbrev pub steps : Argument
steps = NumberOption (codes "steps") (codes "N") (record { least = 0; most = 1000000 })
