use Rattle.std.proofs.Common.{SFits, w32, ◌+◌, ◌∙◌, ℕ, ℤ, List, Bool, true, pos, length, get_or, drop, set, rules, sym, ap, subst}
use Rattle.std.proofs.lemmas.Int.{to_z-of_z}
use Rattle.std.proofs.lemmas.List.{length-set, drop_more}
use Rattle.pg_proof.specs.Places.{AreWithin}
use Rattle.pg_proof.specs.Marked.{marked}
use Rattle.pg_sat.proofs.FlagLemmas.{within_next}
use Rattle.pg_sat.proofs.flags.Flags.mark.Goals as goal

pub loop-literal-preserved : goal.loop-literal-preserved
loop-literal-preserved c =
    let clause = c.args.clause.now in
    let flags = c.loop-literal.self in
    let i = c.loop-literal.literal-index in
    let fits : SFits w32 (get_or clause i (pos 0)) = search rules in
    let here = simp to_z-of_z at c.place.ensures in
    let long = simp length-set at (ap length c.put.ensures) in
    record {
      rest = ap (λ (fs : List Bool). marked fs (drop (i + 1) clause)) (c.put.ensures ∙ ap (λ (k : ℕ). set flags k true) here)
          ∙ ap (λ (zs : List ℤ). marked flags zs) (sym (drop_more clause i (pos 0) c.loop-literal-test.true)) ∙ c.loop-literal.invariant.rest;
      within = subst (λ (n : ℕ). AreWithin n (drop (i + 1) clause)) (sym long) (within_next (length flags) clause i c.loop-literal-test.true c.loop-literal.invariant.within);
    }
