use Rattle.pg_mon_control.proofs.BaseLemmas.{direct-anywhere}
use Rattle.pg_hybrid.proofs.hybrid.Hybrid.new.Goals as goal

pub returns-clause-direct_at_every_base : goal.returns-clause-direct_at_every_base
returns-clause-direct_at_every_base g c = λ s h b e least within least' within'.
    direct-anywhere c.args.accepted.machine.now.desc s b e c.args.accepted.accepted c.args.accepted.machine.now.valid h within within'

pub returns-in_err-guests-clause-direct_at_every_base : goal.returns-in_err-guests-clause-direct_at_every_base
returns-in_err-guests-clause-direct_at_every_base g c = λ s h b e least within least' within'.
    direct-anywhere c.args.accepted.machine.now.desc s b e c.args.accepted.accepted c.args.accepted.machine.now.valid h within within'
