use Rattle.std.proofs.Common.{refl}
use Rattle.pg_alloc.specs.Fit.{free_base}
use Rattle.pg_alloc.proofs.laws.worked_bases.Goals as goal

pub returns-clause-first_grant : goal.returns-clause-first_grant
unfolding free_base
returns-clause-first_grant c = refl

pub returns-clause-whole_storage : goal.returns-clause-whole_storage
unfolding free_base
returns-clause-whole_storage c = refl

pub returns-clause-one_cell_too_many : goal.returns-clause-one_cell_too_many
unfolding free_base
returns-clause-one_cell_too_many c = refl

pub returns-clause-second_grant : goal.returns-clause-second_grant
unfolding free_base
returns-clause-second_grant c = refl

pub returns-clause-full_storage : goal.returns-clause-full_storage
unfolding free_base
returns-clause-full_storage c = refl

pub returns-clause-before_another : goal.returns-clause-before_another
unfolding free_base
returns-clause-before_another c = refl

pub returns-clause-gap_between : goal.returns-clause-gap_between
unfolding free_base
returns-clause-gap_between c = refl

pub returns-clause-gap_too_small : goal.returns-clause-gap_too_small
unfolding free_base
returns-clause-gap_too_small c = refl
