use Rattle.std.proofs.Common.{◌/◌, ◌%◌, ◌++◌, ◌∷◌, ◌∙◌, [], ℕ, List, length, ap, refl, sym, arith}
use Rattle.std.proofs.lemmas.List.{length-append}
use Rattle.pg_run_still.specs.Views.{low_bytes}
use Rattle.pg_run_still.proofs.ViewLemmas.{low_bytes-none, low_bytes-next, without_low-next}
use Rattle.pg_run_still.proofs.viewing.low_bytes.Goals as goal

pub loop-init : goal.loop-init
loop-init c = record { read = c.new-bytes.ensures ∙ sym (low_bytes-none c.args.word); rest = refl; len = ap (λ (xs : List ℕ). length xs) c.new-bytes.ensures }

pub loop-preserved : goal.loop-preserved
loop-preserved c =
    let word = c.args.word in
    let k = c.loop.counter in
    let before = c.loop.invariant in
    let long = ap (λ (xs : List ℕ). length xs) c.push.ensures.items in
    record {
      read = c.push.ensures.items ∙ ap (λ (xs : List ℕ). xs ++ (c.loop.rest % 256) ∷ []) before.read
          ∙ ap (λ (n : ℕ). low_bytes k word ++ (n % 256) ∷ []) before.rest ∙ sym (low_bytes-next k word);
      rest = ap (λ (n : ℕ). n / 256) before.rest ∙ sym (without_low-next k word);
      len = omega (arith, long, length-append c.loop.bytes.items ((c.loop.rest % 256) ∷ []), before.len);
    }
