use Rattle.pg_hw.proofs.TallyLaws.{raised_by-later, raised_by-most, raised_by-exact, raised_by-add}
use Rattle.pg_hw.proofs.laws.counts_only_rise.Goals as goal

pub returns : goal.returns
returns c = record { never_fall = raised_by-later; stop = raised_by-most; exact = raised_by-exact; add_up = raised_by-add }
