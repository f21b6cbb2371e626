use Rattle.std.proofs.Common.{sym, arith}
use Rattle.pg_lang_meaning.proofs.PatternLemmas.{field_of-within}
use Rattle.pg_symex.proofs.names.name_gates.Goals as goal

pub field_gates-requires-clause-some : goal.field_gates-requires-clause-some
field_gates-requires-clause-some c = (field_of-within c.args.at.now.pattern.now c.args.name.now _ (sym c.in-Some.ensures)).some

pub field_gates-requires-clause-within : goal.field_gates-requires-clause-within
field_gates-requires-clause-within c =
    let lies = field_of-within c.args.at.now.pattern.now c.args.name.now _ (sym c.in-Some.ensures) in
    omega (arith, lies.within, c.requires.pattern)
