use Rattle.std.proofs.Common.{◌+◌, ◌-◌, ◌<◌, length, get_or, set, refl, sym, ap, subst, ◌∙◌, arith}
use Rattle.pg_proof.specs.Covered.{home, IsHung}
use Rattle.pg_proof.proofs.CoverLemmas.{IsHung-linked, IsHung-added}
use Rattle.pg_proof.proofs.cover.hold.Goals as goal

pub returns-in_err-make_link-clause-hung : goal.returns-in_err-make_link-clause-hung
returns-in_err-make_link-clause-hung c =
    IsHung-linked c.args.hung.now.heads.items _ c.args.hung.now.links.items _ c.args.hung.now.made _ c.args.clauses.now _ c.make_link.ensures.heads
    c.make_link.ensures.links c.make_link.ensures.least c.make_link.ensures.made refl c.requires.hung

pub returns-in_err-push-clause-hung : goal.returns-in_err-push-clause-hung
returns-in_err-push-clause-hung c =
    IsHung-linked c.args.hung.now.heads.items _ c.args.hung.now.links.items _ c.args.hung.now.made _ c.args.clauses.now _ c.make_link.ensures.heads
    c.make_link.ensures.links c.make_link.ensures.least c.make_link.ensures.made c.in_err-push.ensures.err c.requires.hung

pub returns-then-hung-clause-hung : goal.returns-then-hung-clause-hung
returns-then-hung-clause-hung c =
    let heads = c.make_link.new.hung.heads.items in
    let links = c.make_link.new.hung.links.items in
    let number = c.len.result + 1 in
    let linked : IsHung heads links c.make_link.new.hung.made c.args.clauses.now =
    IsHung-linked c.args.hung.now.heads.items _ c.args.hung.now.links.items _ c.args.hung.now.made _ c.args.clauses.now _ c.make_link.ensures.heads
    c.make_link.ensures.links c.make_link.ensures.least c.make_link.ensures.made refl c.requires.hung in
    IsHung-added heads links c.hang.new.hung.heads.items c.hang.new.hung.links.items c.make_link.new.hung.made c.hang.new.hung.made c.args.clauses.now c.push.new.self
    c.args.literals.now number c.if-hung.true (ap (λ n. n + 1) c.len.ensures) (omega (arith, c.len-2.ensures, c.in_ok-make_link.ensures.room))
    (subst (λ hs. home c.args.literals.now < length hs) (sym c.make_link.ensures.heads) c.requires.home) c.in_ok-push.ensures.ok
    (c.hang.ensures.heads ∙ ap (λ p. set heads p number) c.home.ensures)
    (c.hang.ensures.links ∙ ap (λ p. set links (number - 1) (get_or heads p 0)) c.home.ensures) linked
