use Rattle.pg_out_pair.proofs.trying.is_readable.Goals as goal

pub returns : goal.returns
returns c = λ t i at. record {
  shows = (c.replay.ensures i at).0 t;
  first = c.is_plain.ensures c.if-not-is_plain.false;
  second = c.is_plain-2.ensures c.if-not-is_plain-2.false;
}
