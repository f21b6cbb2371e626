use Rattle.std.proofs.Common.{ap, ◌∙◌}
use Rattle.pg_text.specs.Cutting.{tokens_in}
use Rattle.pg_out_guarded.proofs.ReadLemmas.{reads_decided, refused_decided}
use Rattle.pg_out_guarded.proofs.mended.reads_as.Goals as goal

pub returns-in_ok-again-in-Ok : goal.returns-in_ok-again-in-Ok
returns-in_ok-again-in-Ok c =
    reads_decided c.args.text.now c.as_slice.result.now c.args.laid_out.now c.in-Ok.read c.args.desc.now c.is_same.result c.is_same.ensures c.in-Ok.ensures
    (c.as_slice.ensures.value ∙ c.in_ok-again-in-Ok.ensures.text) c.requires.printed
    (ap tokens_in c.as_slice.ensures.value ∙ c.in_ok-again-in-Ok.ensures.reads) c.requires.reads

pub returns-in-Err : goal.returns-in-Err
returns-in-Err c = refused_decided c.args.text.now c.args.desc.now c.in-Err.fault c.not_read.result c.not_read.ensures c.in-Err.ensures
