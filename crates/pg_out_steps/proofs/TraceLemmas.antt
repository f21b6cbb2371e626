-- The lines of a run, step by step.
use Rattle.std.proofs.Common.{◌≡◌, ℕ, suc, ◌+◌, ◌≤◌, List, [], ◌++◌, append_assoc, length, Option, None, Some, Result, Ok, Err, refl, sym, ◌∙◌, ap, subst, arith}
use Rattle.std.specs.Prelude.{OnOk, OnErr}
use Rattle.std.proofs.lemmas.List.{append-nil, length-replicate, take_all}
use Rattle.pg_edge.specs.Told.{BothTold}
use Rattle.pg_edge.specs.Sink.{Adds, AddsFront}
use Rattle.pg_edge.proofs.PutsLaws.{Adds-nil, Adds-append, AddsFront-append}
use Rattle.pg_ast.specs.declared.tree.Desc.{Desc}
use Rattle.pg_lang_meaning.specs.States.{State}
use Rattle.pg_lang_meaning.specs.Steps.{steps, power_on, bare}
use Rattle.pg_hw.specs.Machinery.{Machinery}
use Rattle.pg_hw.specs.Running.{Ran}
use Rattle.pg_hw.specs.Serving.{blank}
use Rattle.pg_interp.specs.declared.effect.Write.{Write}
use Rattle.pg_out_steps.specs.Handling.{handling_under}
use Rattle.pg_out_steps.specs.Tells.{Tells}
use Rattle.pg_out_steps.specs.Traces.{IsTrace, PutsTrace, PutsSome, shown_step}
use Rattle.pg_out_steps.specs.declared.shows.Telling.{Telling}
use Rattle.pg_out_steps.specs.declared.stepped.Stepped.{Stepped}

pub traced-none : (t : Telling) (d : Desc) (s : State) (was : Option (List ℕ)) → PutsTrace t d 0 s was was
unfolding IsTrace
traced-none t d s was = record { lines = []; trace = refl; written = Adds-nil was }

trace-next : (t : Telling) (d : Desc) (n : ℕ) (s : State) (before : List ℕ) (stores : List Write) (r : Stepped) → IsTrace t d n s before → Tells d (steps d n s) stores r →
    r.handling ≡ handling_under t.monitor d (steps d n s) → IsTrace t d (suc n) s (before ++ shown_step t.shows d (suc n) stores r)
unfolding IsTrace
trace-next t d n s before stores r h tells handling = (before, stores, r, h, tells, handling, refl)

pub traced-next : (t : Telling) (d : Desc) (n : ℕ) (s : State) (was mid now : Option (List ℕ)) (stores : List Write) (r : Stepped) → PutsTrace t d n s was mid →
    Tells d (steps d n s) stores r → r.handling ≡ handling_under t.monitor d (steps d n s) → BothTold mid now (Adds (shown_step t.shows d (n + 1) stores r)) →
    PutsTrace t d (n + 1) s was now
traced-next t d n s was mid now stores r h tells handling put =
    let e : suc n ≡ n + 1 = omega arith in
    record {
      lines = h.lines ++ shown_step t.shows d (n + 1) stores r;
      trace = subst (λ m. IsTrace t d m s (h.lines ++ shown_step t.shows d m stores r)) e (trace-next t d n s h.lines stores r h.trace tells handling);
      written = Adds-append was mid now h.lines (shown_step t.shows d (n + 1) stores r) h.written put;
    }

-- ---- a front of the lines

-- what holds holds on a fault
pub on-err : {T E P : Type 0} (r : Result T E) → P → OnErr r P
on-err (Ok x) h = tt
on-err (Err e) h = h

-- nothing put is a front of any text
pub front-none : (told : Option (List ℕ)) (text : List ℕ) → BothTold told told (AddsFront text)
front-none None text = tt
front-none (Some bytes) text = (0, sym (append-nil bytes))

-- a whole text is one of its fronts
pub front-whole : (was now : Option (List ℕ)) (text : List ℕ) → BothTold was now (Adds text) → BothTold was now (AddsFront text)
front-whole None None text put = tt
front-whole None (Some now) text put = put
front-whole (Some was) None text put = put
front-whole (Some was) (Some now) text put = (length text, put ∙ ap (λ x. was ++ x) (sym (take_all (length text) text (omega arith))))

pub some-none : (t : Telling) (d : Desc) (n : ℕ) (s : State) (was : Option (List ℕ)) → PutsSome t d n s was was
unfolding IsTrace
some-none t d n s was = record { done = 0; within = omega arith; lines = []; trace = refl; front = front-none was [] }

-- the lines of some steps were put, and a front of the line of the next one
pub some-next : (t : Telling) (d : Desc) (n all : ℕ) (s : State) (was mid now : Option (List ℕ)) (stores : List Write) (r : Stepped) → n + 1 ≤ all → PutsTrace t d n s was mid →
    Tells d (steps d n s) stores r → r.handling ≡ handling_under t.monitor d (steps d n s) → BothTold mid now (AddsFront (shown_step t.shows d (n + 1) stores r)) →
    PutsSome t d all s was now
some-next t d n all s was mid now stores r within h tells handling put =
    let e : suc n ≡ n + 1 = omega arith in
    record {
      done = n + 1;
      within = within;
      lines = h.lines ++ shown_step t.shows d (n + 1) stores r;
      trace = subst (λ m. IsTrace t d m s (h.lines ++ shown_step t.shows d m stores r)) e (trace-next t d n s h.lines stores r h.trace tells handling);
      front = AddsFront-append was mid now h.lines (shown_step t.shows d (n + 1) stores r) h.written put;
    }

pub blank-length : (n : ℕ) → length (blank n).cells ≡ n
unfolding blank
blank-length n = length-replicate {A = ℕ} n 0

-- a hardware that was switched on with an image, and made n steps, is where the bare machine is
pub reached : {T E : Type 0} (d : Desc) (image : List ℕ) (n : ℕ) (old new : Machinery) (r : Result T E) → old.state ≡ power_on image (length image) → OnOk r (Ran d n old new) →
    OnOk r (new.state ≡ bare d image (length image) n)
unfolding bare
reached d image n old new (Ok x) is ran = ran.state ∙ ap (steps d n) is
reached d image n old new (Err e) is ran = tt

-- a text that was pushed behind another
pub pushed : (t u v x y : List ℕ) → u ≡ t ++ x → v ≡ u ++ y → v ≡ t ++ (x ++ y)
pushed t u v x y first next = next ∙ ap (λ s. s ++ y) first ∙ append_assoc t x y
