-- The states that runs of images reach, and that they can run.
use Rattle.std.proofs.Common.{◌≡◌, ℕ, ◌+◌, ◌*◌, ◌<◌, ◌≤◌, ◌^◌, List, [], ◌∷◌, length, map, get_or, All, refl, sym, ◌∙◌, ap, subst, arith}
use Rattle.std.proofs.lemmas.List.{length-map, get_or-map}
use Rattle.std.proofs.lemmas.List.Elements.{All-nil, All-cons, All-head, All-tail}
use Rattle.pg_ast.specs.declared.tree.Desc.{Desc}
use Rattle.pg_mach_ready.specs.declared.machine.Machine.{Machine}
use Rattle.pg_lang_meaning.specs.States.{State, IsState}
use Rattle.pg_lang_meaning.specs.Steps.{power_on, bare, steps}
use Rattle.pg_lang_valid.specs.Valid.{IsValid}
use Rattle.pg_lang_valid.proofs.StepSound.{power_on-state}
use Rattle.pg_alloc.specs.Fit.{kept_cells}
use Rattle.pg_mon_control.proofs.LoadLemmas.{power_on-whole}
use Rattle.pg_run_guests.specs.Runs.{switched_on, cells_in, run_of, reached_by}
use Rattle.pg_run_guests.specs.Setting.{IsImage, CanRun, image_cells}

-- ---- what is reached

reached-each : (d : Desc) (n : ℕ) (images : List (List ℕ)) → map (steps d n) (switched_on images) ≡ map (λ (image : List ℕ). bare d image (length image) n) images
unfolding bare
reached-each d n [] = refl
reached-each d n (x ∷ xs) = ap (λ ss. steps d n (power_on x (length x)) ∷ ss) (reached-each d n xs)

-- images reach what bare machines of their sizes reach from them
pub reached-bare : (machine : Machine) (images : List (List ℕ)) (slice n : ℕ) →
    reached_by (run_of machine images slice n) ≡ map (λ (image : List ℕ). bare machine.desc image (length image) n) images
reached-bare machine images slice n = reached-each machine.desc n images

-- ---- cells

-- a state that was switched on has its image's cells
pub switched_on-cells : (image : List ℕ) → (power_on image (length image)).cells ≡ image
switched_on-cells image = ap (λ (s : State). s.cells) (power_on-whole image)

pub cells-switched_on : (images : List (List ℕ)) → cells_in (switched_on images) ≡ image_cells images
cells-switched_on [] = refl
cells-switched_on (x ∷ xs) = (let one = ap length (switched_on-cells x) in omega (arith, one, cells-switched_on xs))

-- one of them
pub switched_on-within : (images : List (List ℕ)) (i : ℕ) → i < length images → i < length (switched_on images)
switched_on-within images i within = (let len = length-map images (λ (image : List ℕ). power_on image (length image)) in omega (arith, len, within))

pub switched_on-at : (images : List (List ℕ)) (i : ℕ) (image : List ℕ) → i < length images → image ≡ get_or images i image →
    power_on image (length image) ≡ get_or (switched_on images) i (power_on image (length image))
switched_on-at images i image within is =
    let on : List ℕ → State = λ x. power_on x (length x) in
    ap on is ∙ sym (get_or-map on images i image (on image) within)

-- ---- runs that there can be

states-of : (d : Desc) (images : List (List ℕ)) → IsValid d → All (IsImage d.word) images → image_cells images ≤ d.size → All (IsState d) (switched_on images)
states-of d [] valid each room = All-nil (IsState d)
states-of d (x ∷ xs) valid each room =
    let one = All-head (IsImage d.word) x xs each in
    All-cons (IsState d) (power_on x (length x)) (switched_on xs)
    (power_on-state d x (length x) valid one.least (omega (arith, room)) (omega arith) one.words)
    (states-of d xs valid (All-tail (IsImage d.word) x xs each) (omega (arith, room)))

-- images that find room beside the cells that a control program keeps
pub can-run : (machine : Machine) (images : List (List ℕ)) (slice n : ℕ) → All (IsImage machine.desc.word) images → kept_cells + image_cells images ≤ machine.desc.size →
    1 ≤ slice → length images * n ≤ 2 ^ 32 → CanRun (run_of machine images slice n)
can-run machine images slice n each room some few =
    let cells = cells-switched_on images in
    record {
      states = record {
        each = states-of machine.desc images machine.valid each (omega (arith, room));
        above = omega arith;
        room = omega (arith, room, cells);
      };
      some = some;
      counted = subst (λ k. k * n ≤ 2 ^ 32) (sym (length-map images (λ (image : List ℕ). power_on image (length image)))) few;
    }
