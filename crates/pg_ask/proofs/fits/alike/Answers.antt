use Rattle.pg_ask.proofs.CodeSteps.{alike_step, leaves_gate}
use Rattle.pg_ask.proofs.FitsLaws.{alike-is}
use Rattle.pg_ask.proofs.fits.alike.Goals as goal

pub returns-clause-made : goal.returns-clause-made
returns-clause-made c =
    alike_step c.and.result c.args.circuit.now.nodes _ _ c.args.so_far c.in_ok-together.together c.as_slice.result.now c.args.x.now c.as_slice-2.result.now c.args.y.now c.as_slice.ensures.gates c.as_slice-2.ensures.gates c.in_ok-together.ensures.made c.and.ensures.made

pub returns-clause-there : goal.returns-clause-there
returns-clause-there c =
    leaves_gate c.and.result c.args.circuit.now.nodes _ _ _ (alike-is c.args.circuit.now.nodes c.args.so_far c.args.x.now c.args.y.now c.args.circuit.now.circuit c.requires.so_far c.requires.x.there c.requires.y.there c.requires.x.wide) (returns-clause-made c)
