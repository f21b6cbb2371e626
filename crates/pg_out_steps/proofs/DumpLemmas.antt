-- Times that were put, one by one.
use Rattle.std.proofs.Common.{◌≡◌, append_assoc, ℕ, zero, suc, ◌+◌, ◌/◌, ◌%◌, ◌-◌, ◌≤◌, List, [], ◌∷◌, ◌++◌, length, Option, Some, Result, Ok, Err, ◌∙◌, ap, subst, arith}
use Rattle.std.specs.Prelude.{OnOk}
use Rattle.pg_ast.specs.declared.tree.Desc.{Desc}
use Rattle.pg_edge.specs.Sink.{Adds}
use Rattle.pg_edge.specs.Told.{BothTold}
use Rattle.pg_edge.proofs.PutsLaws.{Adds-append}
use Rattle.pg_hw.specs.Machinery.{Machinery}
use Rattle.pg_hw.specs.Running.{Ran}
use Rattle.pg_interp.specs.declared.effect.Write.{Write}
use Rattle.pg_lang_meaning.specs.States.{State}
use Rattle.pg_lang_meaning.specs.Steps.{bare, power_on, steps}
use Rattle.pg_out_steps.specs.declared.handling.Monitor.{Monitor}
use Rattle.pg_out_steps.specs.declared.stepped.Stepped.{Stepped}
use Rattle.pg_out_steps.specs.Handling.{handling_under}
use Rattle.pg_out_steps.specs.Tells.{Tells}
use Rattle.pg_out_steps.specs.declared.sample.Sample.{Sample}
use Rattle.pg_out_steps.specs.Dump.{dump_text, end_text, head_text, last_sample, sample_at_end, sample_of, steps_text}
use Rattle.pg_out_steps.specs.Values.{bits_text, sample_text, signals_of}

-- a record of the step from a state has the values of that state
pub sample-is : (monitor : Option Monitor) (d : Desc) (s : State) (stores : List Write) (r : Stepped) (x : Sample) → Tells d s stores r →
    r.handling ≡ handling_under monitor d s → x.psw ≡ r.psw → x.instr ≡ r.instr → x.cause ≡ r.cause → x.handling ≡ r.handling → x ≡ sample_of monitor d s
sample-is monitor d s stores r x tells handling psw instr cause how = λ i. record {
  psw = (psw ∙ tells.psw) i;
  instr = (instr ∙ tells.instr) i;
  cause = (cause ∙ tells.cause) i;
  handling = (how ∙ handling) i;
}

-- one time more
pub steps-next : (monitor : Option Monitor) (d : Desc) (n : ℕ) (s : State) (was mid now : Option (List ℕ)) (last : Option Sample) (x : Sample) →
    BothTold was mid (Adds (steps_text monitor d n s)) → last ≡ last_sample monitor d n s → x ≡ sample_of monitor d (steps d n s) →
    BothTold mid now (Adds (sample_text n (signals_of monitor) last x)) → BothTold was now (Adds (steps_text monitor d (n + 1) s))
unfolding steps_text
steps-next monitor d n s was mid now last x before is_last is_sample put =
    let same : sample_text n (signals_of monitor) last x ≡ sample_text n (signals_of monitor) (last_sample monitor d n s) (sample_of monitor d (steps d n s)) =
    λ i. sample_text n (signals_of monitor) (is_last i) (is_sample i) in
    let e : suc n ≡ n + 1 = omega arith in
    subst (λ k. BothTold was now (Adds (steps_text monitor d k s))) e
    (Adds-append was mid now (steps_text monitor d n s) (sample_text n (signals_of monitor) (last_sample monitor d n s) (sample_of monitor d (steps d n s))) before
    (subst (λ t. BothTold mid now (Adds t)) same put))

pub last-next : (monitor : Option Monitor) (d : Desc) (n : ℕ) (s : State) (x : Sample) → x ≡ sample_of monitor d (steps d n s) → Some x ≡ last_sample monitor d (n + 1) s
last-next monitor d n s x is =
    let e : suc n ≡ n + 1 = omega arith in
    ap Some is ∙ ap (λ k. last_sample monitor d k s) e

-- a hardware that was switched on with an image, and made n steps, is where the bare machine is, however the text was put
pub reached-anyway : {T E : Type 0} (d : Desc) (image : List ℕ) (n : ℕ) (old new : Machinery) (r : Result T E) → old.state ≡ power_on image (length image) → Ran d n old new →
    OnOk r (new.state ≡ bare d image (length image) n)
unfolding bare
reached-anyway d image n old new (Ok x) is ran = ran.state ∙ ap (steps d n) is
reached-anyway d image n old new (Err e) is ran = tt

-- the head, the steps and the end are the whole
pub whole-put : {T E : Type 0} (monitor : Option Monitor) (d : Desc) (n : ℕ) (s : State) (old new : Machinery) (was first mid now : Option (List ℕ)) (last : Option Sample) (r : Result T E) →
    old.state ≡ s → Ran d n old new → BothTold was first (Adds (head_text monitor d)) → BothTold first mid (Adds (steps_text monitor d n old.state)) →
    last ≡ last_sample monitor d n old.state → OnOk r (BothTold mid now (Adds (sample_text n (signals_of monitor) last (sample_at_end new.state.psw)))) →
    OnOk r (BothTold was now (Adds (dump_text monitor d n s)))
whole-put monitor d n s old new was first mid now last (Ok x) is ran head steps_put is_last end =
    let from : last ≡ last_sample monitor d n s = is_last ∙ ap (λ t. last_sample monitor d n t) is in
    let at : new.state ≡ steps d n s = ran.state ∙ ap (steps d n) is in
    let same : sample_text n (signals_of monitor) last (sample_at_end new.state.psw) ≡ end_text monitor d n s =
    λ i. sample_text n (signals_of monitor) (from i) (sample_at_end (at i).psw) in
    Adds-append was first now (head_text monitor d) (steps_text monitor d n s ++ end_text monitor d n s) head
    (Adds-append first mid now (steps_text monitor d n s) (end_text monitor d n s)
    (subst (λ t. BothTold first mid (Adds (steps_text monitor d n t))) is steps_put) (subst (λ t. BothTold mid now (Adds t)) same end))
whole-put monitor d n s old new was first mid now last (Err e) is ran head steps_put is_last end = tt

-- a bit more, the lowest
pub bits-next : (n x : ℕ) (old between new : List ℕ) → 1 ≤ n → between ≡ old ++ bits_text (n - 1) (x / 2) → new ≡ between ++ (48 + x % 2) ∷ [] → new ≡ old ++ bits_text n x
unfolding bits_text
bits-next zero x old between new least e f = absurd (omega arith)
bits-next (suc m) x old between new least e f =
    let less : suc m - 1 ≡ m = omega arith in
    let before : between ≡ old ++ bits_text m (x / 2) = e ∙ ap (λ (k : ℕ). old ++ bits_text k (x / 2)) less in
    rw (f, before) (append_assoc old (bits_text m (x / 2)) ((48 + x % 2) ∷ []))
