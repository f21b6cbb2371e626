use Rattle.pg_mon_control.proofs.ScheduleLemmas.{count_of-schedule}
use Rattle.pg_hybrid.specs.UserTurns.{hybrid_among}
use Rattle.pg_hybrid.specs.Plans.{user_count}
use Rattle.pg_hybrid.proofs.UserLemmas.{user-adds, hybrid-adds}
use Rattle.pg_hybrid.proofs.laws.schedule_counts_each_guest.Goals as goal

pub returns-clause-users : goal.returns-clause-users
returns-clause-users c = λ d guests states slice n. count_of-schedule d (user_count d) (user-adds d) guests slice n states

pub returns-clause-hybrid : goal.returns-clause-hybrid
returns-clause-hybrid c = λ d guests states slice n. count_of-schedule d (hybrid_among d) (hybrid-adds d) guests slice n states
