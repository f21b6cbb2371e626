use Rattle.std.proofs.Common.{◌≡◌, None, rules, subst}
use Rattle.pg_proof.specs.Refutation.{fault_of}
use Rattle.pg_proof.specs.Sound.{IsSound}
use Rattle.pg_proof.proofs.KeptLemmas.{home_of_valid, IsKept-added}
use Rattle.pg_proof.proofs.SoundLemmas.{told_fault, IsSound-added}
use Rattle.pg_proof.proofs.checker.Checker.add.Goals as goal

pub returns-in-Some-clause-judged : goal.returns-in-Some-clause-judged
returns-in-Some-clause-judged c =
    let s = c.args.self.now in
    told_fault s.variables s.held c.args.step.now c.in-Some.fault (search rules)

pub hold-requires-clause-home : goal.hold-requires-clause-home
hold-requires-clause-home c =
    let s = c.self.inside in
    rw c.as_slice-literals.ensures
    (home_of_valid s.variables s.clauses s.literals s.standing s.numbers s.hung.heads.items s.hung.links.items s.hung.made c.args.step.now (search rules) c.self.invariant)

pub invariant_of-self-2 : goal.invariant_of-self-2
invariant_of-self-2 c =
    let s = c.self.inside in
    IsKept-added s.variables s.clauses c.hold.new.clauses s.literals c.fault_of.new.flags s.standing s.numbers c.make_room.new.flags s.hung.heads.items s.hung.links.items
    c.hold.new.hung.heads.items c.hold.new.hung.links.items s.hung.made c.hold.new.hung.made c.args.step.now (search rules) c.fault_of.ensures.places (search rules)
    (search rules) (search rules) c.hold.ensures.places c.hold.ensures.hung c.self.invariant

pub returns-clause-sound : goal.returns-clause-sound
returns-clause-sound c =
    let s = c.args.self.now in
    let valid : fault_of s.variables s.held c.args.step.now ≡ None = search rules in
    λ question sound. subst (IsSound question) (search rules) (IsSound-added question s c.args.step.now valid sound)
