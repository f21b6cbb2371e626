-- The text of a run, put in three parts.
use Rattle.std.proofs.Common.{◌≡◌, ℕ, List, ◌++◌, length, Option, Ok, Err, inl, inr, refl, ◌∙◌, ap, subst, arith}
use Rattle.pg_edge.specs.Told.{BothTold}
use Rattle.pg_edge.specs.Sink.{Adds, AddsFront, Puts}
use Rattle.pg_edge.proofs.PutsLaws.{Adds-append, AddsFront-append, Puts-stopped}
use Rattle.pg_lang_meaning.specs.Steps.{power_on, bare}
use Rattle.pg_lang_meaning.specs.States.{State}
use Rattle.pg_out_steps.specs.Counting.{IsTally}
use Rattle.pg_out_steps.specs.Handling.{AreShares}
use Rattle.pg_out_steps.specs.Putting.{PutsUpTo}
use Rattle.pg_out_steps.specs.declared.tracing.TraceFault.TheVariants.{Output}
use Rattle.pg_out_steps.specs.Traces.{IsTrace, PutsTrace, PutsSome}
use Rattle.pg_out_steps.specs.declared.shows.Telling.{Telling}
use Rattle.pg_out_steps.specs.declared.tally.Tally.{Tally}
use Rattle.pg_cmd_plain.specs.Bare.{BareRun, reached}
use Rattle.pg_prog_trace.specs.Done.{IsText, PutsText, all_counts, end_text}
use Rattle.pg_prog_trace.specs.Tracing.{PutsFront}

-- an image that fills the grant
pub reached-by : (r : BareRun) (image : List ℕ) (s : State) → image ≡ r.image → length r.image ≡ r.grant → s ≡ bare r.desc image (length image) r.steps → s ≡ reached r
reached-by r image s same whole is =
    is ∙ ap (λ xs. bare r.desc xs (length xs) r.steps) same ∙ ap (λ n. bare r.desc r.image n r.steps) whole

-- ---- its text

-- the text, by the lines of its steps and its counts
abbrev text_of : Telling → BareRun → Tally → List ℕ → List ℕ
text_of telling r t lines = lines ++ (all_counts telling.monitor r.desc t ++ end_text telling.shows r)

text-is : (telling : Telling) (r : BareRun) (image : List ℕ) (t : Tally) (was mid : Option (List ℕ)) → image ≡ r.image → length r.image ≡ r.grant →
    IsTally r.desc r.steps (power_on image (length image)) t → AreShares telling.monitor r.desc r.steps (power_on image (length image)) t.shares →
    (h : PutsTrace telling r.desc r.steps (power_on image (length image)) was mid) → IsText telling r (text_of telling r t h.lines)
text-is telling r image t was mid same whole counts shares h =
    let begun : power_on image (length image) ≡ power_on r.image r.grant = ap (λ xs. power_on xs (length xs)) same ∙ ap (power_on r.image) whole in
    record {
      lines = h.lines;
      trace = subst (λ s. IsTrace telling r.desc r.steps s h.lines) begun h.trace;
      tally = t;
      counts = subst (λ s. IsTally r.desc r.steps s t) begun counts;
      shares = subst (λ s. AreShares telling.monitor r.desc r.steps s t.shares) begun shares;
      whole = refl;
    }

pub text-put : (telling : Telling) (r : BareRun) (image : List ℕ) (t : Tally) (was mid next now : Option (List ℕ)) → image ≡ r.image → length r.image ≡ r.grant →
    IsTally r.desc r.steps (power_on image (length image)) t → AreShares telling.monitor r.desc r.steps (power_on image (length image)) t.shares → PutsTrace telling r.desc r.steps (power_on image (length image)) was mid →
    BothTold mid next (Adds (all_counts telling.monitor r.desc t)) → BothTold next now (Adds (end_text telling.shows r)) → PutsText telling r was now
text-put telling r image t was mid next now same whole counts shares h put_counts put_end = record {
  text = text_of telling r t h.lines;
  of_run = text-is telling r image t was mid same whole counts shares h;
  written = Adds-append was mid now h.lines (all_counts telling.monitor r.desc t ++ end_text telling.shows r) h.written (Adds-append mid next now (all_counts telling.monitor r.desc t) (end_text telling.shows r) put_counts put_end);
}

-- ---- its pieces

pub put-whole : {T U E : Type 0} (was now : Option (List ℕ)) (before after : ℕ) (text : List ℕ) (x : T) → Puts {E = E} was now before after text (Ok x) → (y : U) →
    PutsUpTo was now before after text (Ok y)
put-whole was now before after text x h y = record { whole = h.whole; front = tt; later = h.later; cause = λ is. absurd (cc is) }

pub put-broken : {T U E : Type 0} (was now : Option (List ℕ)) (before after : ℕ) (text : List ℕ) (e : E) → Puts {T = T} was now before after text (Err e) →
    PutsUpTo {T = U} was now before after text (Err Output)
put-broken was now before after text e h = record { whole = tt; front = h.front; later = h.later; cause = λ is. h.cause }

-- ---- a front of it

front-longer : (was now : Option (List ℕ)) (piece rest : List ℕ) → BothTold was now (AddsFront piece) → BothTold was now (AddsFront (piece ++ rest))
front-longer was now piece rest front =
    (Puts-stopped {T = Unit {0}} {U = Unit {0}} {D = Unit {0}} {E = Unit {0}} was now 0 1 piece rest tt tt (record { whole = tt; front = front; later = omega arith; quiet = tt; cause = omega arith })).front

-- its steps broke off
pub front-of-steps : (telling : Telling) (r : BareRun) (image : List ℕ) (was now : Option (List ℕ)) → image ≡ r.image → length r.image ≡ r.grant →
    PutsSome telling r.desc r.steps (power_on image (length image)) was now → PutsFront telling r was now
front-of-steps telling r image was now same whole h =
    let begun : power_on image (length image) ≡ power_on r.image r.grant = ap (λ xs. power_on xs (length xs)) same ∙ ap (power_on r.image) whole in
    inl (subst (λ s. PutsSome telling r.desc r.steps s was now) begun h)

-- its counts did
pub front-of-counts : (telling : Telling) (r : BareRun) (image : List ℕ) (t : Tally) (was mid now : Option (List ℕ)) → image ≡ r.image → length r.image ≡ r.grant →
    IsTally r.desc r.steps (power_on image (length image)) t → AreShares telling.monitor r.desc r.steps (power_on image (length image)) t.shares → PutsTrace telling r.desc r.steps (power_on image (length image)) was mid →
    BothTold mid now (AddsFront (all_counts telling.monitor r.desc t)) → PutsFront telling r was now
front-of-counts telling r image t was mid now same whole counts shares h front = inr (
  text_of telling r t h.lines,
  text-is telling r image t was mid same whole counts shares h,
  AddsFront-append was mid now h.lines (all_counts telling.monitor r.desc t ++ end_text telling.shows r) h.written
      (front-longer mid now (all_counts telling.monitor r.desc t) (end_text telling.shows r) front),
)

-- its end did
pub front-of-end : (telling : Telling) (r : BareRun) (image : List ℕ) (t : Tally) (was mid next now : Option (List ℕ)) → image ≡ r.image → length r.image ≡ r.grant →
    IsTally r.desc r.steps (power_on image (length image)) t → AreShares telling.monitor r.desc r.steps (power_on image (length image)) t.shares → PutsTrace telling r.desc r.steps (power_on image (length image)) was mid →
    BothTold mid next (Adds (all_counts telling.monitor r.desc t)) → BothTold next now (AddsFront (end_text telling.shows r)) → PutsFront telling r was now
front-of-end telling r image t was mid next now same whole counts shares h put_counts front = inr (
  text_of telling r t h.lines,
  text-is telling r image t was mid same whole counts shares h,
  AddsFront-append was mid now h.lines (all_counts telling.monitor r.desc t ++ end_text telling.shows r) h.written
      (AddsFront-append mid next now (all_counts telling.monitor r.desc t) (end_text telling.shows r) put_counts front),
)
