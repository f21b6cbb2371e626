use Rattle.pg_alloc.proofs.FitLemmas.{free_base-free, free_base-least}
use Rattle.pg_alloc.proofs.laws.first_fit.Goals as goal

pub returns-clause-free : goal.returns-clause-free
returns-clause-free c = λ q size base grants e. free_base-free q grants size base e

pub returns-clause-least : goal.returns-clause-least
returns-clause-least c = λ q size base grants f. free_base-least q grants size base f
