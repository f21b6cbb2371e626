-- Cells and writes as gates, and what they are where the nodes have values.
use Rattle.std.specs.Prelude.{Bool, List, map}
use Rattle.pg_circuit.specs.Values.{gate_value}
use Rattle.pg_vec.specs.Number.{number}
use Rattle.pg_cells.specs.declared.cell.Cell.{Cell}
use Rattle.pg_cells.specs.declared.cell.Write.{Write}
use Rattle.pg_cells.specs.Storage.{Known, Put}

abbrev pub known_of : List Bool → Cell → Known
known_of values c = record { address = number values c.address; word = number values c.word }

abbrev pub put_of : List Bool → Write → Put
put_of values x = record { guard = gate_value values x.guard; address = number values x.address; word = number values x.value }

abbrev pub known_cells : List Bool → List Cell → List Known
known_cells values cells = map (known_of values) cells

abbrev pub puts_of : List Bool → List Write → List Put
puts_of values writes = map (put_of values) writes
