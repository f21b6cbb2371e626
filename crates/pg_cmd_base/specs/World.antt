-- What surrounds a command, and what is left of it as it was.
use Rattle.std.specs.Prelude.{◌≡◌, ◌≤◌, ℕ, List, Option, None, Some}
use Rattle.pg_edge.specs.Count.{Rose}
use Rattle.pg_edge.specs.Shelf.{Files, SameBut}
use Rattle.pg_edge.specs.Sink.{Adds, AddsFront}
use Rattle.pg_edge.specs.Told.{BothTold}
use Rattle.pg_edge.specs.declared.shelf.Shelf as shelf
use Rattle.pg_edge.specs.declared.sink.Sink as sink
use Rattle.pg_hw.specs.declared.hardware.Hardware as hardware
use Rattle.pg_hw.specs.Machinery.{Machinery}

-- a sink: its bytes, where it tells them, and its count of faults
pub record Output : Type 0 where
  pub written : Option (List ℕ)
  pub faults : ℕ

abbrev pub output : {U : Type 0} → sink.Ghosts U → U → Output
output S out = record { written = S.written out; faults = S.faults out }

-- the files, where they are told, how many reads and saves failed, the sink, and the hardware
pub record World : Type 0 where
  pub files : Option Files
  pub read_faults : ℕ
  pub save_faults : ℕ
  pub out : Output
  pub hw : Machinery

-- what a command is lent: a shelf, a sink and a hardware
abbrev pub around : {T U V : Type 0} → shelf.Ghosts T → sink.Ghosts U → hardware.Ghosts V → T → U → V → World
around F S H shelf out hw = record {
  files = F.files shelf;
  read_faults = F.reads shelf;
  save_faults = F.saves shelf;
  out = output S out;
  hw = H.machinery hw;
}

-- no file was saved, and the hardware is as it was
pub record IsUntouched (old new : World) : Type 0 where
  pub files : new.files ≡ old.files
  pub saves : new.save_faults ≡ old.save_faults
  pub hw : new.hw ≡ old.hw

-- a text was put whole, or nothing at all
abbrev pub Says : Option (List ℕ) → Output → Output → Type 0
Says None old new = new ≡ old
Says (Some text) old new = BothTold old.written new.written (Adds text)

-- a put failed in a text: a front of it is there
pub record Breaks (text : List ℕ) (old new : Output) : Type 0 where
  pub cause : Rose old.faults new.faults
  pub front : BothTold old.written new.written (AddsFront text)

abbrev pub SaysFront : Option (List ℕ) → Output → Output → Type 0
SaysFront None old new = ⊥
SaysFront (Some text) old new = Breaks text old new

-- each file is as it was, but the one of the name under which is saved, if there is one
abbrev pub SavesOnly : Option (List ℕ) → Option Files → Option Files → Type 0
SavesOnly None was now = now ≡ was
SavesOnly (Some name) was now = BothTold was now (SameBut name)

-- what stays on every status of a command that saves under this name, if under any: the other files, and no count falls
pub record Keeps (saved : Option (List ℕ)) (old new : World) : Type 0 where
  pub files : SavesOnly saved old.files new.files
  pub reads : old.read_faults ≤ new.read_faults
  pub saves : old.save_faults ≤ new.save_faults
  pub faults : old.out.faults ≤ new.out.faults
