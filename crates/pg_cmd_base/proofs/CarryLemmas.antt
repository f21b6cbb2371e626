-- How a command is carried out, by what its parts answer.
use Rattle.std.proofs.Common.{◌≡◌, ℕ, List, Some, Result, Ok, Err, inl, inr, refl, sym, ap, subst}
use Rattle.pg_edge.specs.Count.{Rose}
use Rattle.pg_edge.specs.Shelf.{Files}
use Rattle.pg_edge.specs.Sink.{Adds}
use Rattle.pg_edge.specs.Told.{BothTold}
use Rattle.pg_cmd_base.specs.declared.status.Status.{Status}
use Rattle.pg_cmd_base.specs.declared.status.Status.TheVariants as status
use Rattle.pg_cmd_base.specs.declared.refusal.Refusal.{Refusal}
use Rattle.pg_cmd_base.specs.declared.refusal.Stop.{Stop}
use Rattle.pg_cmd_base.specs.declared.refusal.Stop.TheVariants as stop
use Rattle.pg_cmd_base.specs.Classes.{Class, Ended, Unwritten, Unread, OutOfMemory, class_of}
use Rattle.pg_cmd_base.specs.Commands.{Command, CarriesAs, Carries, RefusalCame, WorkCame, Exactly}
use Rattle.pg_cmd_base.specs.Answering.{Comes, SaysRefusal, Stops}
use Rattle.pg_cmd_base.specs.Steps.{Came, Refused, IsOne}
use Rattle.pg_cmd_base.specs.World.{World, IsUntouched, Breaks}

-- ---- before the work

refused-as : (c : Command) (old new : World) (why : Refusal) (given : Status) (k : Class) → c.due old.files (Refused why) → IsUntouched old new →
    SaysRefusal why old.out new.out given k → CarriesAs c old new given k
refused-as c old new why given Ended due same h = inl (record { why = why; is_due = due; came = record { status = h.status; said = h.said; untouched = same } })
refused-as c old new why given Unwritten due same h = inl (record { why = why; is_due = due; front = h; untouched = same })
refused-as c old new why given Unread due same h = absurd h
refused-as c old new why given OutOfMemory due same h = absurd h

-- a command that stops before its work
pub carries-stopped : {T : Type 0} (c : Command) (view : T → c.Work) (old new : World) (why : Stop) (given : Status) →
    Comes view (c.due old.files) old.read_faults new.read_faults (Err why) → Stops why old.out new.out given → IsUntouched old new → Carries c old new given
carries-stopped c view old new (stop.Refused why) given h told same = record { by_class = refused-as c old new why given (class_of given) h same told }
carries-stopped c view old new stop.ReadFault given h told same = record {
  by_class = subst (λ s. CarriesAs c old new s (class_of s)) (sym told.0) (record { is_due = h.0; cause = h.1; silent = told.1; untouched = same });
}
carries-stopped c view old new stop.Memory given h told same = record {
  by_class = subst (λ s. CarriesAs c old new s (class_of s)) (sym told.0) (inl (record { silent = told.1; untouched = same }));
}

-- ---- the work

pub carries-done : (c : Command) (old new : World) (work : c.Work) (text : List ℕ) → c.due old.files (Came work) → c.ends work old new status.Done text →
    BothTold old.out.written new.out.written (Adds text) → Carries c old new status.Done
carries-done c old new work text due ends told = record { by_class = inr (record { work = work; is_due = due; came = record { text = text; ends = ends; written = told } }) }

-- whatever its status is, where that ends the command
pub carries-ended : (c : Command) (old new : World) (work : c.Work) (given : Status) (text : List ℕ) → class_of given ≡ Ended → c.due old.files (Came work) → c.ends work old new given text →
    BothTold old.out.written new.out.written (Adds text) → Carries c old new given
carries-ended c old new work given text ended due ends told = record {
  by_class = subst (λ k. CarriesAs c old new given k) (sym ended) (inr (record { work = work; is_due = due; came = record { text = text; ends = ends; written = told } }));
}

pub carries-broken : (c : Command) (old new : World) (work : c.Work) (given : Status) (text : List ℕ) → c.due old.files (Came work) → c.ends work old new given text →
    Breaks text old.out new.out → Carries c old new status.WriteFault
carries-broken c old new work given text due ends front = record {
  by_class = inr (inl (record { work = work; is_due = due; given = given; text = text; ends = ends; front = front }));
}

pub carries-starved : (c : Command) (old new : World) (work : c.Work) → c.due old.files (Came work) → c.starved work old new → Carries c old new status.Memory
carries-starved c old new work due left = record { by_class = inr (record { work = work; is_due = due; left = left }) }

-- its save failed
pub carries-unsaved : (c : Command) (old new : World) (work : c.Work) (name : List ℕ) → c.due old.files (Came work) → c.saved ≡ Some name →
    Rose old.save_faults new.save_faults → new.out ≡ old.out → c.unsaved work old new → Carries c old new status.WriteFault
carries-unsaved c old new work name due saves cause silent left = record {
  by_class = inr (inr (record { work = work; is_due = due; name = name; saves = saves; cause = cause; silent = silent; left = left }));
}

-- ---- what is due comes

abbrev refusal_or : {X : Type 0} → Refusal → Result X Refusal → Refusal
refusal_or why (Ok x) = why
refusal_or why (Err other) = other

abbrev work_or : {X : Type 0} → X → Result X Refusal → X
work_or x (Ok y) = y
work_or x (Err why) = x

ended-refused : (c : Command) (old new : World) (given : Status) (why : Refusal) → IsOne (c.due old.files) → c.due old.files (Refused why) →
    CarriesAs c old new given Ended → RefusalCame why old new given
ended-refused c old new given why one due (inl h) =
    subst (λ w. RefusalCame w old new given) (ap (refusal_or h.why) (one (Err h.why) (Err why) h.is_due due)) h.came
ended-refused c old new given why one due (inr h) = absurd (let no : Ok h.work ≡ Err why = one (Ok h.work) (Err why) h.is_due due in cc)

ended-done : (c : Command) (old new : World) (given : Status) (work : c.Work) → IsOne (c.due old.files) → c.due old.files (Came work) →
    CarriesAs c old new given Ended → WorkCame c work old new given
ended-done c old new given work one due (inl h) = absurd (let no : Err h.why ≡ Ok work = one (Err h.why) (Ok work) h.is_due due in cc)
ended-done c old new given work one due (inr h) =
    subst (λ w. WorkCame c w old new given) (ap (work_or h.work) (one (Ok h.work) (Ok work) h.is_due due)) h.came

pub exactly-of : (c : Command) (files : Files) (old new : World) (given : Status) → old.files ≡ Some files → IsOne (c.due (Some files)) → Carries c old new given →
    Exactly c old new given
exactly-of c files old new given is known h =
    let one = subst (λ f. IsOne (c.due f)) (sym is) known in
    record {
      refusal = λ why due ended. ended-refused c old new given why one due (subst (λ k. CarriesAs c old new given k) ended h.by_class);
      work = λ work due ended. ended-done c old new given work one due (subst (λ k. CarriesAs c old new given k) ended h.by_class);
    }
