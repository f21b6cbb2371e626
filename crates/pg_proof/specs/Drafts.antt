-- What is kept of a log, as far as it was read.
use Rattle.std.specs.Prelude.{◌≡◌, ℕ, ◌≤◌, Bool, true, false, nat_le, ◌||◌, map, length, take, ℤ, List, Option, Some, slice_index_or, ◌+◌, ◌<◌, ◌⊎◌, drop, suc}
use Rattle.pg_proof.specs.declared.step.Act.{Act}
use Rattle.pg_proof.specs.State.{clause_at, variables_of}
use Rattle.pg_proof.specs.Kept.{state_of}
use Rattle.pg_proof.specs.Log.{after_acts, IsClosedLog}
use Rattle.pg_proof.specs.Trimmed.{full, shown, IsPart, EndsEmpty, step_count, is_named}
use Rattle.pg_proof.specs.Numbering.{new_number, is_used_hint}

-- a clause that is used is held under its new number
abbrev pub Maps : ℕ → List Bool → List ℕ → List (Option (List ℤ)) → List (Option (List ℤ)) → Type 0
Maps q flags numbers all kept =
    (h : ℕ) (c : List ℤ) → nat_le h q || slice_index_or flags h false ≡ true → clause_at all h ≡ Some c → clause_at kept (new_number q numbers h) ≡ Some c

-- the draft of a log, as far as the given one was read
pub record IsDraft (question : List (List ℤ)) (flags : List Bool) (pre : List Act) (numbers : List ℕ) (made : List Act) : Type 0 where
  pub closed : Bool
  pub reached : after_acts question made ≡ Some (state_of (variables_of question) (full (map Some question) made) closed)
  pub part : IsPart (shown (map Some question) made) (shown (map Some question) pre)
  pub maps : Maps (length question) flags numbers (full (map Some question) pre) (full (map Some question) made)
  pub counted : length numbers ≡ step_count pre
  pub as_many : step_count made ≡ length made

-- a flagged clause with a number is a hint of what is kept, or the last, or a hint of what is still to be read
abbrev pub IsPending : ℕ → List Bool → ℕ → List ℕ → List Act → List Act → ℕ → Type 0
IsPending q flags last numbers made rest h =
    (is_named (new_number q numbers h) made ≡ true) ⊎ ((h ≡ last) ⊎ (is_used_hint flags h (q + length numbers) rest ≡ true))

abbrev pub ArePending : ℕ → List Bool → ℕ → List ℕ → List Act → List Act → Type 0
ArePending q flags last numbers made rest =
    (h : ℕ) → q < h → h ≤ q + length numbers → slice_index_or flags h false ≡ true → IsPending q flags last numbers made rest h

-- each number of what is kept is that of a flagged clause
abbrev pub AreReached : ℕ → List Bool → List ℕ → List Act → Type 0
AreReached q flags numbers made =
    (p : ℕ) → p < length made →
    (h : ℕ) × (q < h) × (h ≤ q + length numbers) × (slice_index_or flags h false ≡ true) × (new_number q numbers h ≡ q + p + 1)

-- and it is no longer than what was read
pub record AreKept (question : List (List ℤ)) (flags : List Bool) (log : List Act) (numbers : List ℕ) (made : List Act) (k : ℕ) : Type 0 where
  pub draft : IsDraft question flags (take k log) numbers made
  pub few_made : length made ≤ k
  pub few_numbers : length numbers ≤ k
  pub pending : ArePending (length question) flags (length question + step_count log) numbers made (drop k log)
  pub reached : AreReached (length question) flags numbers made

-- the steps of a log that its empty clause is made of, before any clause is taken away
pub record IsPicked (question : List (List ℤ)) (given log : List Act) : Type 0 where
  pub closed : IsClosedLog question log
  pub part : IsPart (shown (map Some question) log) (shown (map Some question) given)
  pub last : EndsEmpty log
  pub named : (p : ℕ) → suc p < step_count log → is_named (length question + p + 1) log ≡ true
  pub steps : step_count log ≡ length log
  pub few : length log ≤ length given
