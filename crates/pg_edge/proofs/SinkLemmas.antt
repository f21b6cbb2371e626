-- What a put of a sink in memory that failed leaves.
use Rattle.std.proofs.Common.{◌≡◌, ℕ, ◌+◌, ◌<◌, ◌^◌, List, ◌++◌, length, Option, Some, None, Bool, true, false, cond, Err, refl, sym, subst, arith}
use Rattle.std.specs.Prelude.{nat_le}
use Rattle.std.proofs.lemmas.List.{append-nil}
use Rattle.pg_edge.specs.Count.{one_more}
use Rattle.pg_edge.specs.Sink.{Puts, AddsFront}
use Rattle.pg_edge.specs.SinkView.{bytes_left, front_taken}

AddsFront-front_taken : (bytes : List ℕ) (failing : Option ℕ) (piece : List ℕ) → AddsFront piece bytes (bytes ++ front_taken failing piece)
AddsFront-front_taken bytes None piece = (0, refl)
AddsFront-front_taken bytes (Some taken) piece = (taken, refl)

AddsFront-cond : (fits : Bool) (bytes : List ℕ) (failing : Option ℕ) (piece : List ℕ) → AddsFront piece bytes (cond fits (bytes ++ front_taken failing piece) bytes)
AddsFront-cond true bytes failing piece = AddsFront-front_taken bytes failing piece
AddsFront-cond false bytes failing piece = (0, sym (append-nil bytes))

pub Puts-failed : {T E : Type 0} (was now : List ℕ) (room : ℕ) (failing : Option ℕ) (piece : List ℕ) (before after : ℕ) (fault : E) → now ≡ bytes_left was room failing piece → after ≡ one_more before → before < 2 ^ 64 → Puts {T = T} (Some was) (Some now) before after piece (Err fault)
Puts-failed was now room failing piece before after fault left counted fits = record {
  whole = tt;
  front = let P : List ℕ → Type 0 = λ bytes. AddsFront piece was bytes in
      subst P (sym left) (AddsFront-cond (nat_le (length was + length piece) room) was failing piece);
  later = omega arith;
  quiet = tt;
  cause = omega arith;
}
