-- A sink in memory, as its callers see it.
use Rattle.std.specs.Prelude.{ℕ, ◌+◌, List, [], ◌++◌, length, take, Option, Some, None, cond, nat_le}
use Rattle.pg_edge.specs.Count.{one_more}
use Rattle.pg_edge.specs.Failing.{taken_by}

-- the bytes so far, how many there may be, the calls that are to fail, and how many calls and faults there were
pub record SinkView : Type 0 where
  pub bytes : List ℕ
  pub room : ℕ
  pub failing : List (ℕ × ℕ)
  pub calls : ℕ
  pub faults : ℕ

-- what the next call takes before it fails, if it is to fail
abbrev pub next_put : SinkView → Option ℕ
next_put sink = taken_by sink.failing (one_more sink.calls)

-- what a call lets through of a piece before it fails
abbrev pub front_taken : Option ℕ → List ℕ → List ℕ
front_taken None piece = []
front_taken (Some taken) piece = take taken piece

-- the bytes after a put that failed, where it is to fail as given: a piece past the room adds nothing
abbrev pub bytes_left : List ℕ → ℕ → Option ℕ → List ℕ → List ℕ
bytes_left bytes room failing piece = cond (nat_le (length bytes + length piece) room) (bytes ++ front_taken failing piece) bytes

-- the sink after a put that went through
abbrev pub after_put : SinkView → List ℕ → SinkView
after_put sink piece = record sink { bytes = sink.bytes ++ piece; calls = one_more sink.calls }

-- the sink after a put that failed
abbrev pub after_failed_put : SinkView → List ℕ → SinkView
after_failed_put sink piece = record sink { bytes = bytes_left sink.bytes sink.room (next_put sink) piece; calls = one_more sink.calls; faults = one_more sink.faults }
