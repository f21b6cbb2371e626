-- `check` and `hcheck`: what is left once a certificate was saved.
use Rattle.std.proofs.Common.{◌≡◌, ℕ, List}
use Rattle.pg_ast.specs.declared.tree.Desc.{Desc}
use Rattle.pg_lang_valid.specs.Valid.{IsValid}
use Rattle.pg_cert.specs.declared.cert.Family.{Family}
use Rattle.pg_cert.specs.declared.report.Report.{Report}
use Rattle.pg_cli_table.specs.declared.check.CheckWords.{CheckWords}
use Rattle.pg_cmd_check.specs.Check.{CheckEnds, CheckUnsaved}
use Rattle.pg_cmd_certs.specs.Judged.{Judged, verdict_on, verdict_status, verdict_told}
use Rattle.pg_cmd_certs.specs.Checked.{IsChecked}
use Rattle.pg_cmd_certs.specs.Saving.{HasSaved, LeavesUnsaved}
use Rattle.pg_cmd_base.specs.World.{World}
use Rattle.pg_cmd_certs.proofs.SavingLemmas.{ends_saved}

module _ (family : Family) (c : CheckWords) (j : Judged) (old new : World) (bytes : List ℕ) (valid : IsValid j.desc)
    (h : IsChecked j.desc family c.budget bytes j.report) (hw : new.hw ≡ old.hw) where
  pub check_ends : HasSaved c.cert bytes old new → CheckEnds family c j.desc old new (verdict_status (verdict_on j)) (verdict_told j)
  check_ends saved = record {
    bytes = bytes;
    report = j.report;
    checked = h;
    saved = ends_saved c.cert family old new bytes j valid h.written hw saved;
  }

  pub check_unsaved : LeavesUnsaved c.cert bytes old new → CheckUnsaved family c j.desc old new
  check_unsaved left = record { bytes = bytes; report = j.report; checked = h; unsaved = left }
