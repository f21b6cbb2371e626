use Rattle.std.proofs.Common.{◌≤◌, sym, subst}
use Rattle.pg_ast.specs.declared.tree.Desc.{Desc}
use Rattle.pg_lang_valid.specs.Valid.{IsValid}
use Rattle.pg_prog_trace.proofs.json.put_part.Goals as goal

pub put_json-requires-clause-serves : goal.put_json-requires-clause-serves
put_json-requires-clause-serves g c = subst (λ x. (d : Desc) → IsValid d → g.H.Hardware.serves x d) (sym c.part_of.ensures.fixed) c.requires.able.serves

pub put_json-requires-clause-room : goal.put_json-requires-clause-room
put_json-requires-clause-room g c = subst (λ x. 1048575 ≤ g.H.Hardware.room x) (sym c.part_of.ensures.fixed) c.requires.able.room
