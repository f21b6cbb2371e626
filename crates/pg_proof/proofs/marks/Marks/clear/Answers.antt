use Rattle.std.proofs.Common.{◌∙◌, ap, sym, false, length, replicate}
use Rattle.std.proofs.lemmas.List.{length-map}
use Rattle.std.specs.Prelude.{nat_eq}
use Rattle.pg_proof.specs.Flags.{flags_of}
use Rattle.pg_proof.proofs.FlagLemmas.{IsStamped-zeros, IsStamped-next, flags_of-zeros, flags_of-next}
use Rattle.pg_proof.proofs.marks.Marks.clear.Goals as goal

pub invariant_of-self : goal.invariant_of-self
invariant_of-self c = rw c.zero.ensures (IsStamped-zeros (length c.self.inside.stamps.items))

pub returns-then-self-clause-down : goal.returns-then-self-clause-down
returns-then-self-clause-down c =
    ap (flags_of 1) c.zero.ensures ∙ flags_of-zeros (length c.self.inside.stamps.items)
    ∙ ap (λ n. replicate n false) (sym (length-map c.self.inside.stamps.items (λ s. nat_eq s c.self.inside.stamp)) ∙ ap length c.self.view_is)

pub invariant_of-self-2 : goal.invariant_of-self-2
invariant_of-self-2 c = IsStamped-next c.self.inside.stamp c.self.inside.stamps.items c.self.invariant

pub returns-clause-down : goal.returns-clause-down
returns-clause-down c =
    flags_of-next c.self.inside.stamp c.self.inside.stamps.items c.self.invariant.passed
    ∙ ap (λ n. replicate n false) (sym (length-map c.self.inside.stamps.items (λ s. nat_eq s c.self.inside.stamp)) ∙ ap length c.self.view_is)
