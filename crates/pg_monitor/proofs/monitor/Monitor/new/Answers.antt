use Rattle.std.proofs.Math.Logic.{∥∥₁_map}
use Rattle.pg_type.proofs.KindLaws.{accepted-hybrid}
use Rattle.pg_mon_control.proofs.BaseLemmas.{direct-anywhere}
use Rattle.pg_monitor.proofs.monitor.Monitor.new.Goals as goal

pub returns-clause-direct_at_every_base : goal.returns-clause-direct_at_every_base
returns-clause-direct_at_every_base g c = λ s h b e least within least' within'.
    direct-anywhere c.args.accepted.machine.now.desc s b e (∥∥₁_map c.args.accepted.accepted (accepted-hybrid c.args.accepted.machine.now.desc)) c.args.accepted.machine.now.valid h within within'

pub returns-in_err-monitor-clause-direct_at_every_base : goal.returns-in_err-monitor-clause-direct_at_every_base
returns-in_err-monitor-clause-direct_at_every_base g c = λ s h b e least within least' within'.
    direct-anywhere c.args.accepted.machine.now.desc s b e (∥∥₁_map c.args.accepted.accepted (accepted-hybrid c.args.accepted.machine.now.desc)) c.args.accepted.machine.now.valid h within within'
