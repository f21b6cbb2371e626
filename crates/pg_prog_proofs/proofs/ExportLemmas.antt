-- What is left once the texts of a log were told.
use Rattle.std.proofs.Common.{◌≡◌, ℕ, List, Option, Result, Ok, Err, subst}
use Rattle.std.specs.Prelude.{option_copied, OnOk}
use Rattle.pg_edge.specs.Shelf.{Files}
use Rattle.pg_edge.specs.Sink.{Adds}
use Rattle.pg_edge.specs.Told.{BothTold}
use Rattle.pg_cmd_base.specs.World.{SavesOnly}
use Rattle.pg_prog_proofs.specs.declared.export.making.Texts.{Texts}
use Rattle.pg_prog_proofs.specs.declared.export.request.Request.{Request}
use Rattle.pg_prog_proofs.specs.Exported.{IsExport, IsExported, SavesClauses}

pub exported_so : {T E : Type 0} (r : Request) (was mid now : Option Files) (old new : Option (List ℕ)) (t : Texts) (result : Result T E) → IsExport was r t → mid ≡ was →
    OnOk result (SavesClauses (option_copied r.cnf) t.clauses.items mid now) → SavesOnly (option_copied r.cnf) mid now →
    OnOk result (BothTold old new (Adds t.log.items)) → OnOk result (IsExported r was now old new)
exported_so r was mid now old new t (Ok x) h same saved others put = record {
  texts = t;
  of_files = h;
  saved = subst (λ (f : Option Files). SavesClauses (option_copied r.cnf) t.clauses.items f now) same saved;
  others = subst (λ (f : Option Files). SavesOnly (option_copied r.cnf) f now) same others;
  put = put;
}
exported_so r was mid now old new t (Err e) h same saved others put = tt
