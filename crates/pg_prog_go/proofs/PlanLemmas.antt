-- Runs of guests until they are still: that there can be such a run.
use Rattle.std.proofs.Common.{◌≡◌, ℕ, ◌+◌, ◌*◌, ◌^◌, ◌≤◌, List, length, All, sym, subst, arith}
use Rattle.std.proofs.lemmas.List.{length-map}
use Rattle.std.proofs.lemmas.Nat.{mul-le}
use Rattle.pg_alloc.specs.Fit.{kept_cells}
use Rattle.pg_mach_ready.specs.declared.machine.Machine.{Machine}
use Rattle.pg_lang_meaning.specs.Steps.{power_on}
use Rattle.pg_cmd_base.specs.Images.{Fills}
use Rattle.pg_run_guests.specs.Runs.{run_of, switched_on}
use Rattle.pg_cmd_run.proofs.RunLemmas.{can-run}
use Rattle.pg_run_still.specs.Running.{CanGo}

pub can-go : (m : Machine) (images : List (List ℕ)) (size slice steps : ℕ) → 2 ≤ size → All (Fills m.desc.word size) images → length images ≤ 8 →
    kept_cells + length images * size ≤ m.desc.size → 1 ≤ slice → steps ≤ 2 ^ 57 → CanGo (run_of m images slice steps)
can-go m images size slice steps least each few room some counted =
    let can = can-run m images size slice 0 least each few room some (omega arith) in
    let count : length (switched_on images) ≡ length images = length-map images (λ (image : List ℕ). power_on image (length image)) in
    let turns : length images * steps ≤ 8 * 2 ^ 57 = mul-le (length images) steps 8 (2 ^ 57) few counted in
    record {
      states = can.states;
      some = some;
      few = omega (arith, count, few);
      most = omega (arith, counted);
      counted = subst (λ k. k * steps ≤ 2 ^ 60) (sym count) (omega (arith, turns));
    }
