-- What the code has for the work of the commands, as that of their definitions.
use Rattle.pg_cmd_plain.specs.declared.asm.plan.AsmPlan.{AsmPlan}
use Rattle.pg_cmd_plain.specs.declared.disasm.plan.DisasmPlan.{DisasmPlan}
use Rattle.pg_cmd_plain.specs.Asm.{ImageOf}

abbrev pub assembled : AsmPlan → ImageOf
assembled p = record { desc = p.machine.desc; image = p.image }

abbrev pub written : DisasmPlan → ImageOf
written p = record { desc = p.machine.desc; image = p.image }
