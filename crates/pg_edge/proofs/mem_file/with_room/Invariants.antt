use Rattle.std.proofs.Common.{◌≡◌, All, map, string_bytes}
use Rattle.pg_edge.specs.MemFile.{all_shown, HasRoom}
use Rattle.pg_edge.proofs.mem_file.with_room.Given as goal

abbrev pub invariant-loop-name : goal.invariant-loop-name
invariant-loop-name l =
    (all_shown l.files.items ≡ map (λ file. (string_bytes file.0, file.1.items)) l.yielded)
    × All (HasRoom l.room) l.files.items
