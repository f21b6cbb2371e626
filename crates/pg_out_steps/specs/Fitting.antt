-- What a line needs of a record.
use Rattle.std.specs.Prelude.{◌≡◌, ◌<◌, ◌^◌, List, length, All, None, IfSome}
use Rattle.pg_ast.specs.declared.tree.Desc.{Desc}
use Rattle.pg_interp.specs.declared.effect.Write.{Write}
use Rattle.pg_out_steps.specs.declared.stepped.Stepped.{Stepped}

-- the words of a record, and of the stores of a step that is done, are the machine's, and so is the instruction
pub record Fits (d : Desc) (made : List Write) (r : Stepped) : Type 0 where
  pub word : IfSome r.word (λ word. word < 2 ^ d.word)
  pub instr : IfSome r.instr (λ k. k < length d.instrs)
  pub kept : r.kept < 2 ^ d.word
  pub stores : r.cause ≡ None → All (λ x. x.cell < 2 ^ d.word) made
