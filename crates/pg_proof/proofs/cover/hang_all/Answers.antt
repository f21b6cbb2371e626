use Rattle.std.proofs.Common.{◌+◌, ◌-◌, ◌<◌, length, get_or, set, refl, sym, ap, subst, ◌∙◌, arith}
use Rattle.pg_proof.specs.Covered.{home}
use Rattle.pg_proof.proofs.CoverLemmas.{home-below, AreListed-begun, AreListed-gone, AreListed-next, AreListed-all}
use Rattle.pg_proof.proofs.cover.hang_all.Goals as goal
use Rattle.pg_proof.proofs.cover.hang_all.Goals.{In-Some}

pub loop-i-init : goal.loop-i-init
loop-i-init c = record {
  listed = AreListed-begun _ c.args.hung.now.heads.items c.args.hung.now.links.items c.args.hung.now.made _ c.args.clauses.now refl c.requires.hung c.zero.ensures;
  made = refl;
}

room : (c : In-Some) → home c.in-Some.clause.now < length c.loop-i.hung.heads.items
room c =
    subst (λ n. home c.in-Some.clause.now < n) (sym c.loop-i.invariant.listed.as_many)
    (home-below (length c.args.hung.now.heads.items) c.in-Some.clause.now c.requires.some
    (c.in-Some.ensures.within (length c.args.hung.now.heads.items) c.requires.within))

pub hang-requires-clause-place : goal.hang-requires-clause-place
hang-requires-clause-place c = rw c.home.ensures (room (goal.at.hang-requires-clause-place c).In-Some)

pub hang-requires-clause-most : goal.hang-requires-clause-most
hang-requires-clause-most c = omega (arith, c.loop-i-test.true, c.len-i-end.ensures, c.loop-i.invariant.listed.room)

pub loop-i-preserved-in-None : goal.loop-i-preserved-in-None
loop-i-preserved-in-None c = record {
  listed = AreListed-gone _ c.loop-i.hung.heads.items c.loop-i.hung.links.items c.args.clauses.now c.loop-i.i
      (subst (λ n. c.loop-i.i < n) c.len-i-end.ensures c.loop-i-test.true) c.loop-i.invariant.listed (sym c.in-None.ensures.clause);
  made = c.loop-i.invariant.made;
}

pub loop-i-preserved : goal.loop-i-preserved
loop-i-preserved c = record {
  listed = AreListed-next _ c.loop-i.hung.heads.items c.loop-i.hung.links.items c.args.clauses.now c.loop-i.i
      (subst (λ n. c.loop-i.i < n) c.len-i-end.ensures c.loop-i-test.true) c.loop-i.invariant.listed c.in-Some.clause.now c.hang.new.hung.heads.items
      c.hang.new.hung.links.items (sym c.in-Some.ensures.clause) (room (goal.at.loop-i-preserved c).In-Some)
      (c.hang.ensures.heads ∙ ap (λ p. set c.loop-i.hung.heads.items p (c.loop-i.i + 1)) c.home.ensures)
      (c.hang.ensures.links ∙ ap (λ p. set c.loop-i.hung.links.items (c.loop-i.i + 1 - 1) (get_or c.loop-i.hung.heads.items p 0)) c.home.ensures);
  made = c.hang.ensures.made ∙ c.loop-i.invariant.made;
}

pub returns-clause-hung : goal.returns-clause-hung
returns-clause-hung c =
    AreListed-all _ c.loop-i.hung.heads.items c.loop-i.hung.links.items c.args.clauses.now c.loop-i.i (omega (arith, c.loop-i-test.false, c.len-i-end.ensures))
    (omega (arith, c.loop-i.auto.i-end, c.len-i-end.ensures)) c.loop-i.invariant.listed
