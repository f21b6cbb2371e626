use Rattle.pg_monitor.proofs.OwnBurstLemmas.{told-goes_on, told-ends, told-user, told-supervisor}
use Rattle.pg_monitor.proofs.laws.a_told_burst_is_a_front_of_the_guests_own.Goals as goal

pub returns-clause-goes_on : goal.returns-clause-goes_on
returns-clause-goes_on c = λ d base most s told tells calm. told-goes_on d base most s told tells calm

pub returns-clause-ends : goal.returns-clause-ends
returns-clause-ends c = λ d base most s told tells stops. told-ends d base most s told tells stops

pub returns-clause-user : goal.returns-clause-user
returns-clause-user c = λ d base most s told tells user. told-user d base most s told tells user

pub returns-clause-supervisor : goal.returns-clause-supervisor
returns-clause-supervisor c = λ d base most s told tells control. told-supervisor d base most s told tells control
