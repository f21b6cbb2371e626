-- Lists of watches.
use Rattle.std.specs.Prelude.{List, map}
use Rattle.std.specs.declared.vec.Vec.{Vec}
use Rattle.std.specs.declared.alloc.Global.{Global}
use Rattle.pg_watch.specs.declared.lists.Watch.{Watch}

abbrev pub lists_in : List (Vec Watch Global) → List (List Watch)
lists_in lists = map (λ l. l.items) lists
