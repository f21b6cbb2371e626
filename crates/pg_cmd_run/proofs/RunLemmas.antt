-- Runs of guests: that there can be such a run.
use Rattle.std.proofs.Common.{◌≡◌, ℕ, ◌+◌, ◌*◌, ◌≤◌, List, [], ◌∷◌, length, All, arith}
use Rattle.std.proofs.lemmas.List.Elements.{All-head, All-tail, All-weaker}
use Rattle.std.proofs.lemmas.Nat.{mul-le}
use Rattle.pg_alloc.specs.Fit.{kept_cells}
use Rattle.pg_mach_ready.specs.declared.machine.Machine.{Machine}
use Rattle.pg_cmd_base.specs.Images.{Fills}
use Rattle.pg_run_guests.specs.Runs.{run_of}
use Rattle.pg_run_guests.specs.Setting.{IsImage, CanRun, image_cells}
use Rattle.pg_run_guests.proofs.ReachedLemmas as reached

cells-filled : (w size : ℕ) (images : List (List ℕ)) → All (Fills w size) images → image_cells images ≡ length images * size
cells-filled w size [] h = omega arith
cells-filled w size (image ∷ images) h =
    omega (arith, (All-head (Fills w size) image images h).whole, cells-filled w size images (All-tail (Fills w size) image images h))

is-image : (w size : ℕ) → 2 ≤ size → (image : List ℕ) → Fills w size image → IsImage w image
is-image w size least image h = record { least = omega (arith, least, h.whole); words = h.words }

pub can-run : (m : Machine) (images : List (List ℕ)) (size slice steps : ℕ) → 2 ≤ size → All (Fills m.desc.word size) images → length images ≤ 8 →
    kept_cells + length images * size ≤ m.desc.size → 1 ≤ slice → steps ≤ 1000000 → CanRun (run_of m images slice steps)
can-run m images size slice steps least each few room some counted =
    let turns : length images * steps ≤ 8 * 1000000 = mul-le (length images) steps 8 1000000 few counted in
    reached.can-run m images slice steps (All-weaker (Fills m.desc.word size) (IsImage m.desc.word) (is-image m.desc.word size least) images each)
    (omega (arith, room, cells-filled m.desc.word size images each)) some (omega (arith, turns))
