-- What a writer has got, where its bytes are known.
use Rattle.std.proofs.Common.{◌≡◌, ◌-◌, ℕ, List, ◌++◌, length, take, drop, Option, Result, Ok, Err, OnErr, sym, ap, ◌∙◌, subst, append_assoc, take-append-drop}
use Rattle.std.proofs.Math.Seq.{take-append_seam}
use Rattle.std.proofs.lemmas.List.{take_rest}
use Rattle.std.proofs.KnownBytes.{Appends-trans, Appends-kept}
use Rattle.std.specs.Io.KnownBytes.{Appends, Keeps}
use Rattle.pg_io_host.specs.Streams.{AppendsFront}

-- a front of the bytes was written, and these are left
pub record Wrote (old new : Option (List ℕ)) (bytes rest : List ℕ) : Type 0 where
  pub done : List ℕ
  pub split : bytes ≡ done ++ rest
  pub added : Appends old new done

-- a part of what was left is written
pub wrote-more : (a b c : Option (List ℕ)) (bytes rest : List ℕ) (n : ℕ) → Wrote a b bytes rest → Appends b c (take n rest)
    → Wrote a c bytes (take (length rest - n) (drop n rest))
wrote-more a b c bytes rest n so_far more = record {
  done = so_far.done ++ take n rest;
  split = so_far.split ∙ ap (λ l. so_far.done ++ l) (sym (take-append-drop n rest))
      ∙ sym (append_assoc so_far.done (take n rest) (drop n rest)) ∙ ap (λ l. (so_far.done ++ take n rest) ++ l) (sym (take_rest rest n));
  added = Appends-trans _ _ _ _ _ so_far.added more;
}

-- what was written is a front
pub wrote-front : (a b : Option (List ℕ)) (bytes rest : List ℕ) → Wrote a b bytes rest → AppendsFront a b bytes
wrote-front a b bytes rest so_far =
    (length so_far.done, subst (Appends a b) (sym (ap (take (length so_far.done)) so_far.split ∙ take-append_seam so_far.done rest)) so_far.added)

-- and stays one where no more is written
pub wrote-kept : {T E : Type 0} (a b c : Option (List ℕ)) (bytes rest : List ℕ) (result : Result T E) → Wrote a b bytes rest → Keeps b c → OnErr result (AppendsFront a c bytes)
wrote-kept a b c bytes rest (Ok x) so_far kept = tt
wrote-kept a b c bytes rest (Err e) so_far kept =
    wrote-front a c bytes rest (record { done = so_far.done; split = so_far.split; added = Appends-kept _ _ _ _ so_far.added kept })
