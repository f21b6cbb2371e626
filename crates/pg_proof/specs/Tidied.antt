-- A log with each step's clause taken away behind the act that names it last, made from its end backward.
use Rattle.std.specs.Prelude.{ℕ, Bool, true, false, ◌&&◌, not, nat_lt, nat_le, if◌then◌else◌, List, [], ◌∷◌, ◌++◌, replicate, reverse, slice_index_or, slice_set}
use Rattle.pg_proof.specs.declared.step.Act.{Act}
use Rattle.pg_proof.specs.declared.step.Act.TheVariants.{Add, Remove}
use Rattle.pg_proof.specs.Numbering.{raised}

-- whether a number is that of a step's clause, and its flag is down
abbrev pub is_fresh : ℕ → List Bool → ℕ → Bool
is_fresh question flags h = nat_lt question h && not (slice_index_or flags h false)

-- those of some hints, each once
abbrev pub fresh : ℕ → List Bool → List ℕ → List ℕ
fresh question flags [] = []
fresh question flags (h ∷ hs) = (if is_fresh question flags h then h ∷ [] else []) ++ fresh question (slice_set flags h true) hs

-- numbers put in order, least first
abbrev pub placed : ℕ → List ℕ → List ℕ
placed n [] = n ∷ []
placed n (m ∷ ms) = (if nat_le n m then n ∷ m ∷ ms else m ∷ placed n ms)

abbrev pub ascending : List ℕ → List ℕ
ascending [] = []
ascending (n ∷ ns) = placed n (ascending ns)

-- the flags with those of an act's hints put up
abbrev pub with_named : List Bool → Act → List Bool
with_named flags (Add step) = raised flags step.hints
with_named flags (Remove gone) = flags

-- so many flags, up for the hints of some acts
abbrev pub named_flags : ℕ → List Act → List Bool
named_flags places [] = replicate places false
named_flags places (act ∷ acts) = with_named (named_flags places acts) act

-- acts backward, with a removal of some numbers, if there are acts and numbers
abbrev pub with_removal : List Act → List ℕ → List Act
with_removal [] gone = []
with_removal (act ∷ made) [] = act ∷ made
with_removal (act ∷ made) (n ∷ ns) = (act ∷ made) ++ Remove (n ∷ ns) ∷ []

-- acts backward, with one more, and a removal between of what it is the last to name
abbrev pub with_act : ℕ → List Bool → List Act → Act → List Act
with_act question flags made (Add step) = with_removal made (ascending (fresh question flags step.hints)) ++ Add step ∷ []
with_act question flags made (Remove gone) = made ++ Remove gone ∷ []

abbrev pub backward : ℕ → ℕ → List Act → List Act
backward question places [] = []
backward question places (act ∷ acts) = with_act question (named_flags places acts) (backward question places acts) act

abbrev pub tidied : ℕ → ℕ → List Act → List Act
tidied question places acts = reverse (backward question places acts)
