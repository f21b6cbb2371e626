use Rattle.pg_mon_control.proofs.ScheduleLemmas.{turns_for-schedule, turns_of-schedule, count_of-schedule}
use Rattle.pg_mon_control.proofs.CountLemmas.{direct-adds}
use Rattle.pg_mon_control.specs.Direct.{direct_among}
use Rattle.pg_monitor.proofs.laws.schedule_gives_each_its_turns.Goals as goal

pub returns-clause-each_turns : goal.returns-clause-each_turns
returns-clause-each_turns c = λ count slice n j some below. turns_for-schedule count slice n j below

pub returns-clause-all_turns : goal.returns-clause-all_turns
returns-clause-all_turns c = λ count slice n some. turns_of-schedule count slice n

pub returns-clause-each_direct : goal.returns-clause-each_direct
returns-clause-each_direct c = λ d guests states slice n some same. count_of-schedule d (direct_among d) (direct-adds d) guests slice n states
