-- What the calls of a shelf answer, and what they leave.
use Rattle.std.specs.Prelude.{◌≡◌, ◌≢◌, ◌⊎◌, ℕ, ◌<◌, ◌≤◌, List, [], length, take, drop, Option, Some, None, IfSome, IsSomeAnd, Result, OnOk, OnErr, IfOk, IsErrOf}
use Rattle.pg_edge.specs.Count.{Rose}
use Rattle.pg_edge.specs.Told.{BothTold}
use Rattle.pg_edge.specs.declared.shelf.LoadFault.{LoadFault}
use Rattle.pg_edge.specs.declared.shelf.LoadFault.TheVariants.{Missing, Long, Failed, Memory}

-- for each name's bytes the content of its file, if there is one
abbrev pub Files : Type 0
Files = List ℕ → Option (List ℕ)

-- where the files are told, the one of this name has this content
abbrev pub HoldsFile : Option Files → List ℕ → List ℕ → Type 0
HoldsFile told name bytes = IfSome told (λ files. files name ≡ Some bytes)

-- where the files are told, none has this name
abbrev pub LacksFile : Option Files → List ℕ → Type 0
LacksFile told name = IfSome told (λ files. files name ≡ None)

-- where the files are told, the one of this name has more bytes than the limit
abbrev pub HoldsLonger : Option Files → List ℕ → ℕ → Type 0
HoldsLonger told name limit = IfSome told (λ files. IsSomeAnd (files name) (λ bytes. limit < length bytes))

-- where the files are told, the one of this name has this many bytes
abbrev pub HasSize : Option Files → List ℕ → ℕ → Type 0
HasSize told name size = IfSome told (λ files. IsSomeAnd (files name) (λ bytes. size ≡ length bytes))

-- the bytes begin with these
abbrev pub IsPrefix : List ℕ → List ℕ → Type 0
IsPrefix front bytes = take (length front) bytes ≡ front

-- a piece of the bytes that begins at this place, and is empty only from their end on
pub record IsPart (bytes : List ℕ) (at : ℕ) (piece : List ℕ) : Type 0 where
  pub front : IsPrefix piece (drop at bytes)
  pub some : at < length bytes → 0 < length piece

-- where the files are told, the one of this name has this piece at this place
abbrev pub HoldsPart : Option Files → List ℕ → ℕ → List ℕ → Type 0
HoldsPart told name at piece = IfSome told (λ files. IsSomeAnd (files name) (λ bytes. IsPart bytes at piece))

-- what an answer of `load` says of the files and of `into`, the buffer afterwards
pub record Loads {T : Type 0} (told : Option Files) (name : List ℕ) (limit : ℕ) (into : List ℕ) (result : Result T LoadFault) : Type 0 where
  -- the buffer has the file whole
  pub whole : OnOk result (HoldsFile told name into)
  -- and never more than the limit, also where nothing is told
  pub within : OnOk result (length into ≤ limit)
  -- a refusal leaves nothing in it
  pub empty : OnErr result (into ≡ [])
  pub missing : IsErrOf result Missing → LacksFile told name
  pub long : IsErrOf result Long → HoldsLonger told name limit

-- what an answer of `size` says of the files
pub record Sizes (told : Option Files) (name : List ℕ) (result : Result ℕ LoadFault) : Type 0 where
  pub size : IfOk result (HasSize told name)
  pub missing : IsErrOf result Missing → LacksFile told name
  -- nothing is read that could be too long or need memory
  pub never_long : ¬ IsErrOf result Long
  pub never_memory : ¬ IsErrOf result Memory

-- what an answer of `part` says of the files and of `into`, the buffer afterwards
pub record LoadsPart {T : Type 0} (told : Option Files) (name : List ℕ) (at most : ℕ) (into : List ℕ) (result : Result T LoadFault) : Type 0 where
  -- the buffer has the piece of the file from that place on
  pub piece : OnOk result (HoldsPart told name at into)
  -- and never more than `most` bytes, also where nothing is told
  pub within : OnOk result (length into ≤ most)
  -- a refusal leaves nothing in it
  pub empty : OnErr result (into ≡ [])
  pub missing : IsErrOf result Missing → LacksFile told name
  -- a piece has no limit that the file could pass
  pub never_long : ¬ IsErrOf result Long

-- how a call that reads moves the count of failed reads
pub record CountsRead {T : Type 0} (before now : ℕ) (result : Result T LoadFault) : Type 0 where
  pub later : before ≤ now
  pub failed : IsErrOf result Failed → Rose before now
  -- the other refusals are no faults
  pub missing : IsErrOf result Missing → now ≡ before
  pub long : IsErrOf result Long → now ≡ before
  pub memory : IsErrOf result Memory → now ≡ before

-- how a save moves the count of failed saves
pub record CountsSave {T E : Type 0} (before now : ℕ) (result : Result T E) : Type 0 where
  pub later : before ≤ now
  -- a save that goes through is none
  pub whole : OnOk result (now ≡ before)
  pub failed : OnErr result (Rose before now)

-- the name has what it had, or bytes that these begin with
abbrev pub HasOldOrFront : List ℕ → List ℕ → Files → Files → Type 0
HasOldOrFront name bytes was now = (now name ≡ was name) ⊎ IsSomeAnd (now name) (λ front. IsPrefix front bytes)

-- no file but the one of this name differs
abbrev pub SameBut : List ℕ → Files → Files → Type 0
SameBut name was now = (other : List ℕ) → other ≢ name → now other ≡ was other

-- what a save leaves under its name and under the others
pub record Saves {T E : Type 0} (was now : Option Files) (name bytes : List ℕ) (result : Result T E) : Type 0 where
  -- the name has the bytes
  pub whole : OnOk result (BothTold was now (λ _ files. files name ≡ Some bytes))
  -- a failed save may have written some of them
  pub front : OnErr result (BothTold was now (HasOldOrFront name bytes))
  pub others : BothTold was now (SameBut name)
