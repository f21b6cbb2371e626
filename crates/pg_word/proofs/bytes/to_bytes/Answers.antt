use Rattle.std.proofs.Common.{◌-◌, drop, ap, ◌∙◌}
use Rattle.pg_word.proofs.Joined.{low_end}
use Rattle.pg_word.proofs.bytes.to_bytes.Goals as goal

pub returns : goal.returns
returns c = λ n h. ap (drop (8 - n)) c.to_be_bytes.ensures ∙ low_end n c.args.number h
