-- What the code keeps on its way as the definitions have it.
use Rattle.std.specs.Prelude.{List}
use Rattle.pg_circuit.specs.declared.node.Node.{Node}
use Rattle.pg_cells.specs.declared.cell.Cell.{Cell}
use Rattle.pg_symex.specs.Flow.{Flow}
use Rattle.pg_symex.specs.declared.guards.Guards.{Guards}

abbrev pub flow_as : List Node → List Cell → Guards → Flow
flow_as nodes cells g = record { nodes = nodes; cells = cells; live = g.live; mem_trap = g.mem_trap }
