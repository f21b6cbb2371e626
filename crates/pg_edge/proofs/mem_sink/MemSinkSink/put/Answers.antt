use Rattle.std.proofs.Common.{rules, ◌≡◌}
use Rattle.pg_edge.specs.SinkView.{next_put, bytes_left}
use Rattle.pg_edge.proofs.SinkLemmas.{Puts-failed}
use Rattle.pg_edge.proofs.mem_sink.MemSinkSink.put.Goals as goal

pub returns-clause-puts : goal.returns-clause-puts
returns-clause-puts c =
    let sink = c.args.self.now in
    let left : c.append.new.bytes.items ≡ bytes_left sink.bytes sink.room (next_put sink) c.args.bytes.now = search rules in
    Puts-failed _ _ sink.room (next_put sink) _ _ _ _ left (search rules) (search rules)
