use Rattle.std.proofs.Common.{◌≡◌, Some, rules, subst}
use Rattle.pg_proof.specs.Removal.{without}
use Rattle.pg_proof.specs.Sound.{IsSound}
use Rattle.pg_proof.proofs.KeptLemmas.{IsKept-without}
use Rattle.pg_proof.proofs.RemovalLemmas.{IsSound-without}
use Rattle.pg_proof.proofs.checker.Checker.remove.Goals as goal

pub invariant_of-self-2 : goal.invariant_of-self-2
invariant_of-self-2 c =
    let s = c.self.inside in
    IsKept-without s.variables s.clauses c.take_away.new.clauses s.literals s.standing s.numbers c.are_held.new.flags s.hung.heads.items s.hung.links.items s.hung.made
    c.args.numbers.now
    c.take_away.ensures c.are_held.ensures.places c.self.invariant

pub returns-clause-sound : goal.returns-clause-sound
returns-clause-sound c =
    let s = c.args.self.now in
    let gone : without s.held c.args.numbers.now ≡ Some c.take_away.new.clauses = search rules in
    λ question sound.
    subst (IsSound question) (search rules) (IsSound-without question s c.args.numbers.now c.take_away.new.clauses gone sound)
