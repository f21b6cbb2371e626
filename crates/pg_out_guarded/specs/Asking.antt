-- A machine with guards, and what is found of it.
use Rattle.std.specs.Prelude.{◌≡◌, ◌*◌, Bool, List, length}
use Rattle.pg_ast.specs.declared.tree.Desc.{Desc}
use Rattle.pg_lang_valid.specs.Valid.{IsValid}
use Rattle.pg_type.specs.Accepting.{IsAccepted}
use Rattle.pg_cert.specs.declared.cert.Family.TheVariants.{Plain}
use Rattle.pg_cert.specs.declared.report.Verdict.TheVariants.{Accepted}
use Rattle.pg_cert.specs.Verdicts.{verdict_of, kind_count}
use Rattle.pg_cmd_certs.specs.Meaning.{VerdictMeans}
use Rattle.pg_out_guarded.specs.declared.asking.GuardedMachine.{GuardedMachine}
use Rattle.pg_out_guarded.specs.Guards.{IsGuardedDesc}

-- the description with guards, and marks of all its instructions, whose verdict means what it says; so where that is to accept, each
-- of its instructions is privileged or not sensitive
pub record IsAsked (marks : List Bool) (d : Desc) (g : GuardedMachine) : Type 0 where
  pub guarded : IsGuardedDesc marks d g.machine.desc
  pub whole : length g.report.marks ≡ length g.machine.desc.instrs * kind_count g.report.family
  pub of_family : g.report.family ≡ Plain
  pub means : VerdictMeans g.machine.desc g.report
  pub accepted : verdict_of g.report.family g.report.marks ≡ Accepted → IsAccepted g.machine.desc

-- with these guards it is not valid
pub record IsUnfit (marks : List Bool) (d : Desc) : Type 0 where
  pub desc : Desc
  pub guarded : IsGuardedDesc marks d desc
  pub invalid : ¬ IsValid desc
