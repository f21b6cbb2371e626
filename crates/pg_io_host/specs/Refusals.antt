-- What a shelf over files keeps of the call that it refused last.
use Rattle.std.specs.Prelude.{◌≡◌, ◌≢◌, ℕ, nat_lt, List, length, take, Option, IsSomeAnd, Result, OnOk, OnErr, IsErrOf}
use Rattle.pg_edge.specs.declared.shelf.LoadFault.{LoadFault}
use Rattle.pg_edge.specs.declared.shelf.LoadFault.TheVariants.{Missing, Long, Failed, Memory}
use Rattle.pg_io_host.specs.declared.fault.Fault.{Fault}
use Rattle.pg_io_host.specs.declared.refused.Cause.{Cause}
use Rattle.pg_io_host.specs.declared.refused.Deed.{Deed}
use Rattle.pg_io_host.specs.declared.refused.Refused.{Refused}

-- the most bytes that are kept of a name
abbrev pub most_name_bytes : ℕ
most_name_bytes = 4096

-- what the traits are answered where this is met
abbrev pub load_fault_of : Fault → LoadFault
load_fault_of Fault.Missing = Missing
load_fault_of Fault.Long = Long
load_fault_of Fault.Memory = Memory
load_fault_of (Fault.System kind) = Failed

-- what is kept is a call of this deed on this name, of which a front stands for a longer one
pub record IsCall (deed : Deed) (name : List ℕ) (kept : Refused) : Type 0 where
  pub same : kept.deed ≡ deed
  pub front : kept.name.items ≡ take most_name_bytes name
  pub cut : kept.is_cut ≡ nat_lt most_name_bytes (length name)

-- what a call that reads leaves of what was kept: itself where no file has the name or the system refused, else what there was
pub record KeepsRead {T : Type 0} (deed : Deed) (name : List ℕ) (was now : Option Refused) (result : Result T LoadFault) : Type 0 where
  pub missing : IsErrOf result Missing → IsSomeAnd now (λ kept. IsCall deed name kept × (kept.cause ≡ Cause.Missing))
  pub failed : IsErrOf result Failed → IsSomeAnd now (λ kept. IsCall deed name kept × (kept.cause ≢ Cause.Missing))
  pub ok : OnOk result (now ≡ was)
  pub long : IsErrOf result Long → now ≡ was
  pub memory : IsErrOf result Memory → now ≡ was

-- what a save leaves of what was kept: itself where it is refused, else what there was
pub record KeepsSave {T E : Type 0} (name : List ℕ) (was now : Option Refused) (result : Result T E) : Type 0 where
  pub failed : OnErr result (IsSomeAnd now (λ kept. IsCall Deed.Save name kept × (kept.cause ≢ Cause.Missing)))
  pub ok : OnOk result (now ≡ was)
